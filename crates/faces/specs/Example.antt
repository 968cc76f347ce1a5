-- Two triangles side by side, whose covered ground is not connected, so that not all segments are of one component.
use Rattle.std.specs.Prelude.{◌≡◌, true, false, List, [], ◌∷◌, ◌++◌, pos, Some}
use Rattle.plane.specs.declared.segment.Segment.{Segment}
use Rattle.plane.specs.Spots.{Spot}
use Rattle.reading.specs.Reading.{Planar, Walk}
use Rattle.reading.specs.Counting.{ClosedLines}
use Rattle.reading.specs.Example.{at, level, triangle, halves}
use Rattle.faces.specs.Below.{odd_below_right, below_right}
use Rattle.faces.specs.Components.{OneComponent}

-- the sides of the second triangle
abbrev pub floor : Segment
floor = record { low = at (pos 10) (pos 0); high = at (pos 14) (pos 0) }

abbrev pub ascent : Segment
ascent = record { low = at (pos 10) (pos 0); high = at (pos 12) (pos 4) }

abbrev pub descent : Segment
descent = record { low = at (pos 12) (pos 4); high = at (pos 14) (pos 0) }

abbrev pub two_triangles : List Segment
two_triangles = triangle ++ (floor ∷ (ascent ∷ (descent ∷ [])))

-- a spot inside each, and one between them
abbrev pub in_first : Spot
in_first = halves (pos 3) (pos 1)

abbrev pub in_second : Spot
in_second = halves (pos 23) (pos 1)

abbrev pub between : Spot
between = halves (pos 15) (pos 1)

-- the triangles are covered and the ground between them is bare; the segments just below are of two components, and no walk leads from one triangle to the other
pub record ApartStaysApart : Type 0 where
  pub planar : Planar two_triangles
  pub closed : ClosedLines two_triangles
  pub first_covered : odd_below_right two_triangles in_first ≡ true
  pub second_covered : odd_below_right two_triangles in_second ≡ true
  pub bare_between : odd_below_right two_triangles between ≡ false
  pub below_first : below_right two_triangles in_first ≡ Some level
  pub below_second : below_right two_triangles in_second ≡ Some floor
  pub two_components : ¬ OneComponent two_triangles (below_right two_triangles in_first) (below_right two_triangles in_second)
  pub no_walk : ¬ Walk two_triangles in_first in_second
