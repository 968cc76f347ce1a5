-- Components: the smallest grouping of segments in which those just below a corner, on its left and right, share one.
use Rattle.std.specs.Prelude.{◌≡◌, Bool, true, not, ◌&&◌, List, Some, Option}
use Rattle.algebra.specs.Members.{◌∈◌, any}
use Rattle.plane.specs.declared.point.Point.{Point}
use Rattle.plane.specs.declared.segment.Segment.{Segment}
use Rattle.plane.specs.Points.{same_point}
use Rattle.plane.specs.Spots.{whole}
use Rattle.reading.specs.Counting.{ends}
use Rattle.faces.specs.Heights.{vertical}
use Rattle.faces.specs.Below.{odd_below_right, below_right, below_left}

-- a vertical segment rises from v
abbrev pub rises : List Segment → Point → Bool
rises ls v = any (λ l. same_point v l.low && vertical l) ls

-- at v the segments just below on its left and on its right share a component
abbrev pub joins_at : List Segment → Point → Bool
joins_at ls v = not (rises ls v) && odd_below_right ls (whole v)

pub data SameComponent (ls : List Segment) : Segment → Segment → Type 0 where
  self : {l : Segment} → l ∈ ls → SameComponent ls l l
  joint : {l m : Segment} (v : Point) → v ∈ ends ls → joins_at ls v ≡ true → below_left ls (whole v) ≡ Some l → below_right ls (whole v) ≡ Some m → SameComponent ls l m
  back : {l m : Segment} → SameComponent ls l m → SameComponent ls m l
  chain : {k l m : Segment} → SameComponent ls k l → SameComponent ls l m → SameComponent ls k m

-- both are there, and of one component
pub record OneComponent (ls : List Segment) (o o' : Option Segment) : Type 0 where
  pub one : Segment
  pub other : Segment
  pub is_one : o ≡ Some one
  pub is_other : o' ≡ Some other
  pub joined : SameComponent ls one other
