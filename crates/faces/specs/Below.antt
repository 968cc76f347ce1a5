-- The segments below a spot, on its right and on its left, and the highest of them.
use Rattle.std.specs.Prelude.{Bool, not, ◌&&◌, List, [], ◌∷◌, length, ◌*ℤ◌, Some, None, filter, Option, int_le, int_lt}
use Rattle.std.specs.List.{best_of}
use Rattle.algebra.specs.Parity.{odd}
use Rattle.plane.specs.declared.segment.Segment.{Segment}
use Rattle.plane.specs.Spots.{Spot}
use Rattle.faces.specs.Heights.{ratio_le, vertical, height, level, higher_right, higher_left}

-- a segment that spans a little to the right (left) of the spot, with the spot on or above it
abbrev pub is_below_right : Spot → Segment → Bool
is_below_right s l =
    not (vertical l) && (int_le (s.k *ℤ l.low.x) s.x && (int_lt s.x (s.k *ℤ l.high.x) && ratio_le (height l s) (level s)))

abbrev pub is_below_left : Spot → Segment → Bool
is_below_left s l =
    not (vertical l) && (int_lt (s.k *ℤ l.low.x) s.x && (int_le s.x (s.k *ℤ l.high.x) && ratio_le (height l s) (level s)))

abbrev pub all_below_right : List Segment → Spot → List Segment
all_below_right ls s = filter (is_below_right s) ls

abbrev pub all_below_left : List Segment → Spot → List Segment
all_below_left ls s = filter (is_below_left s) ls

-- an odd number of segments below the spot on its right
abbrev pub odd_below_right : List Segment → Spot → Bool
odd_below_right ls s = odd (length (all_below_right ls s))

abbrev pub highest : (Segment → Segment → Bool) → List Segment → Option Segment
highest higher [] = None
highest higher (l ∷ ls) = Some (best_of higher l ls)

-- the segment just below the spot, on its right and on its left
abbrev pub below_right : List Segment → Spot → Option Segment
below_right ls s = highest (higher_right s) (all_below_right ls s)

abbrev pub below_left : List Segment → Spot → Option Segment
below_left ls s = highest (higher_left s) (all_below_left ls s)
