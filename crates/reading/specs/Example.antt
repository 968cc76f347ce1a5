-- A triangle, so that what is proved of readings is proved of something.
use Rattle.std.specs.Prelude.{◌≡◌, true, false, List, [], ◌∷◌, ℤ, pos}
use Rattle.plane.specs.declared.point.Point.{Point}
use Rattle.plane.specs.declared.segment.Segment.{Segment}
use Rattle.plane.specs.Spots.{Spot}
use Rattle.reading.specs.Reading.{Planar, Reading, HasReading}
use Rattle.reading.specs.Counting.{ClosedLines, parity}

abbrev pub at : ℤ → ℤ → Point
at x y = record { x = x; y = y }

abbrev pub level : Segment
level = record { low = at (pos 0) (pos 0); high = at (pos 4) (pos 0) }

abbrev pub upright : Segment
upright = record { low = at (pos 0) (pos 0); high = at (pos 0) (pos 4) }

abbrev pub slanted : Segment
slanted = record { low = at (pos 0) (pos 4); high = at (pos 4) (pos 0) }

abbrev pub two_sides : List Segment
two_sides = upright ∷ (slanted ∷ [])

abbrev pub triangle : List Segment
triangle = level ∷ two_sides

-- the place (x/2, y/2)
abbrev pub halves : ℤ → ℤ → Spot
halves x y = record { x = x; y = y; k = pos 2; fine = record { lt = tt } }

-- the parity reads the triangle, covered at (3/2, 1/2) and bare at (9/2, 1/2); two of its sides have no reading
pub record Triangle : Type 0 where
  pub planar : Planar triangle
  pub closed : ClosedLines triangle
  pub reads : Reading triangle (parity triangle)
  pub inside : parity triangle (halves (pos 3) (pos 1)) ≡ true
  pub outside : parity triangle (halves (pos 9) (pos 1)) ≡ false
  pub open_planar : Planar two_sides
  pub open_none : ¬ HasReading two_sides
