use Rattle.std.proofs.Common.{◌≡◌, ℕ, ◌<◌, true, false, Ok, drop}
use Rattle.std.specs.List.{between}
use Rattle.plane.specs.Rows.{left, segment_of}
use Rattle.plane.specs.Meeting.{improper}
use Rattle.region.specs.Check.{row}
use Rattle.region.proofs.Meetings.{ClearOfLater}
use Rattle.region.proofs.checking.check_meetings.Given as goal

-- the segments of the rows passed so far meet no later left row's
abbrev pub invariant-search : goal.invariant-search
invariant-search g l =
    let rows = g.S.Source.rows l.s in
    let rest = l.i-iterator.iter in
    (between rest.places.start rest.places.end (g.S.Source.rows rest.source.now) ≡ drop l.i-iterator.count rows)
    × (l.found ≡ Ok tt)
    × ((k : ℕ) → k < l.i-iterator.count → ClearOfLater rows k)

-- that of the row at i meets no left row's from there up to j, where the rows that are left begin
abbrev pub invariant-loop-g : goal.invariant-loop-g
invariant-loop-g g l =
    let rows = g.S.Source.rows l.s in
    let rest = l.g-iterator in
    (j : ℕ) × (l.i < j) × (between rest.places.start rest.places.end (g.S.Source.rows rest.source.now) ≡ drop j rows)
    × (l.found ≡ Ok tt)
    × ((k : ℕ) → l.i < k → k < j → left (row rows k) ≡ true → improper l.l (segment_of (row rows k)) ≡ false)
