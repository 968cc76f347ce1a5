use Rattle.std.proofs.Common.{◌≡◌, ◌++◌}
use Rattle.std.specs.List.{between, flat_map}
use Rattle.storage.specs.Bytes.{rows_of}
use Rattle.archivetext.specs.Text.{row_line}
use Rattle.archivetext.proofs.unpacking.push_plan.Given as goal

-- the lines of the rows that are left are still to come
abbrev pub invariant-loop-row : goal.invariant-loop-row
invariant-loop-row l =
    let left = l.row-iterator in
    l.text.items ++ flat_map row_line (between left.places.start left.places.end (rows_of left.source.now.bytes.now)) ≡ l.initial.text.items ++ flat_map row_line (rows_of l.fn.plan.rows.bytes.now)
