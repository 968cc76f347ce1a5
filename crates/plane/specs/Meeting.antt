-- Whether two segments meet improperly, by signs of orientations.
use Rattle.std.specs.Prelude.{◌≡◌, Bool, true, ◌&&◌, ◌||◌, ℤ, pos, Decides, int_lt}
use Rattle.plane.specs.declared.point.Point.{Point}
use Rattle.plane.specs.declared.segment.Segment.{Segment}
use Rattle.plane.specs.Points.{eq_int, in_range, precedes, orientation}
use Rattle.plane.specs.Spots.{MeetImproperly}

-- one above 0 and one below
abbrev pub opposite : ℤ → ℤ → Bool
opposite u v = (int_lt u (pos 0) && int_lt (pos 0) v) || (int_lt (pos 0) u && int_lt v (pos 0))

-- from its lesser to its greater end
abbrev pub ordered : Segment → Bool
ordered l = precedes l.low l.high

-- the ends of each segment lie strictly on both sides of the other
abbrev pub crossing : Segment → Segment → Bool
crossing l m =
    opposite (orientation m.low m.high l.low) (orientation m.low m.high l.high) && opposite (orientation l.low l.high m.low) (orientation l.low l.high m.high)

-- a point of the segment that is not an end of it
abbrev pub inside : Segment → Point → Bool
inside l p = precedes l.low p && (precedes p l.high && eq_int (orientation l.low l.high p) (pos 0))

abbrev pub improper : Segment → Segment → Bool
improper l m = crossing l m || (inside l m.low || (inside l m.high || (inside m l.low || inside m l.high)))

-- a segment that can stand in a plan: both ends in range, the lesser first
abbrev pub drawable : Segment → Bool
drawable l = (in_range l.low && in_range l.high) && ordered l

-- the signs tell whether the segments differ and share a point that is not an end of both
abbrev pub SignsTell : Type 0
SignsTell = (l m : Segment) → ordered l ≡ true → ordered m ≡ true → Decides (improper l m) (MeetImproperly l m)
