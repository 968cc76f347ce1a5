-- What is proved of components.
use Rattle.std.specs.Prelude.{◌≡◌, true, false, List, Some, Option}
use Rattle.algebra.specs.Members.{◌∈◌}
use Rattle.plane.specs.declared.point.Point.{Point}
use Rattle.plane.specs.declared.segment.Segment.{Segment}
use Rattle.plane.specs.Spots.{Spot, whole, LeftOf}
use Rattle.reading.specs.Reading.{Planar, Off, Clear, Walk}
use Rattle.reading.specs.Counting.{ends, ClosedLines, parity}
use Rattle.faces.specs.Heights.{vertical}
use Rattle.faces.specs.Below.{odd_below_right, below_right, below_left}
use Rattle.faces.specs.Components.{joins_at, OneComponent}

abbrev pub IsSegment : Option Segment → Type 0
IsSegment o = (l : Segment) × (o ≡ Some l)

-- a spot on no line has as many segments below on its right as lines pass under it
abbrev pub BelowTells : Type 0
BelowTells = (ls : List Segment) → Planar ls → (z : Spot) → Off ls z → odd_below_right ls z ≡ parity ls z

-- straight below a covered spot the segments just below on the left and on the right are of one component
abbrev pub ColumnJoins : Type 0
ColumnJoins = (ls : List Segment) → Planar ls → ClosedLines ls → (z : Spot) → Off ls z → odd_below_right ls z ≡ true → OneComponent ls (below_left ls z) (below_right ls z)

-- where the rules look for a segment just below on the left, there is one: at a corner that joins, and at the low end of a
-- vertical line with an even number of segments below on its right
pub record LeftIsThere (ls : List Segment) : Type 0 where
  pub at_joints : (v : Point) → v ∈ ends ls → joins_at ls v ≡ true → IsSegment (below_left ls (whole v))
  pub at_verticals : (l : Segment) → l ∈ ls → vertical l ≡ true → odd_below_right ls (whole l.low) ≡ false → IsSegment (below_left ls (whole l.low))

abbrev pub LeftNeverMissing : Type 0
LeftNeverMissing = (ls : List Segment) → Planar ls → ClosedLines ls → LeftIsThere ls

-- no corner strictly between p and q, from left to right
abbrev pub FreeBetween : List Segment → Spot → Spot → Type 0
FreeBetween ls p q = (v : Point) → v ∈ ends ls → ¬ (LeftOf p (whole v) × LeftOf (whole v) q)

-- between columns nothing changes
abbrev pub BetweenColumns : Type 0
BetweenColumns =
    (ls : List Segment) → Planar ls → (p q : Spot) → LeftOf p q → Clear ls p q → FreeBetween ls p q → below_right ls p ≡ below_left ls q

-- a walk from a covered spot that touches no line keeps the component of the segment just below
abbrev pub WalkKeeps : Type 0
WalkKeeps =
    (ls : List Segment) → Planar ls → ClosedLines ls → (p q : Spot) → Walk ls p q → odd_below_right ls p ≡ true → OneComponent ls (below_right ls p) (below_right ls q)
