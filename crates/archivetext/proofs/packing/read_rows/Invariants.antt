use Rattle.std.proofs.Common.{◌≡◌, ℕ, ◌≤◌, List, [], length}
use Rattle.encoding.specs.Format.{Plan}
use Rattle.archivetext.specs.Pack.{rows_on}
use Rattle.archivetext.specs.Packing.{left, number}
use Rattle.archivetext.proofs.packing.read_rows.Given as goal

abbrev pub invariant-loop-line : goal.invariant-loop-line
invariant-loop-line l =
    (length l.rows.items ≤ 4000) × (length l.lines.rest.now ≤ length l.initial.lines.rest.now) × ((start : ℕ) (title : List ℕ) (done : List Plan) → rows_on start title (number l.initial.lines) [] done (left l.initial.lines) ≡ rows_on start title (number l.lines) l.rows.items done (left l.lines))

abbrev pub decreases-loop-line : goal.decreases-loop-line
decreases-loop-line l = length l.lines.rest.now
