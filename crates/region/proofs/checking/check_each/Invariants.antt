use Rattle.std.proofs.Common.{◌≡◌, ℕ, ◌<◌, drop, false}
use Rattle.std.specs.List.{between}
use Rattle.region.specs.Check.{faulty, row, row_fault}
use Rattle.region.proofs.checking.check_each.Given as goal

-- the rows that are left begin at the count, and those before it have no fault
abbrev pub invariant-loop-i : goal.invariant-loop-i
invariant-loop-i g l =
    let rows = g.S.Source.rows l.s in
    let left = l.i-iterator.iter in
    (between left.places.start left.places.end (g.S.Source.rows left.source.now) ≡ drop l.i-iterator.count rows)
    × ((k : ℕ) → k < l.i-iterator.count → faulty (row_fault (row rows k)) ≡ false)
