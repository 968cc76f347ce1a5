-- Places of the plane with rational coordinates, and what legs and segments share there.
use Rattle.std.specs.Prelude.{◌≡◌, ◌⊎◌, ℤ, pos, ◌-ℤ◌, ◌*ℤ◌, ◌≤ℤ◌, ◌<ℤ◌}
use Rattle.plane.specs.declared.point.Point.{Point}
use Rattle.plane.specs.declared.segment.Segment.{Segment}

-- the place (x/k, y/k), with fineness k of at least 1
pub record Spot : Type 0 where
  pub x : ℤ
  pub y : ℤ
  pub k : ℤ
  pub fine : pos 0 <ℤ k

abbrev pub whole : Point → Spot
whole p = record { x = p.x; y = p.y; k = pos 1; fine = record { lt = tt } }

-- how far s lies right of u, and how far above it, times both finenesses
abbrev pub right_of : Spot → Spot → ℤ
right_of s u = s.x *ℤ u.k -ℤ u.x *ℤ s.k

abbrev pub above_of : Spot → Spot → ℤ
above_of s u = s.y *ℤ u.k -ℤ u.y *ℤ s.k

abbrev pub LeftOf : Spot → Spot → Type 0
LeftOf s u = (s.x *ℤ u.k) <ℤ (u.x *ℤ s.k)

-- equal places are one spot, whatever the finenesses
abbrev pub SamePlace : Spot → Spot → Type 0
SamePlace s u = (s.x *ℤ u.k ≡ u.x *ℤ s.k) × (s.y *ℤ u.k ≡ u.y *ℤ s.k)

-- not both above 0, and not both below
abbrev pub Around : ℤ → ℤ → Type 0
Around v w = ((v ≤ℤ pos 0) × (pos 0 ≤ℤ w)) ⊎ ((pos 0 ≤ℤ v) × (w ≤ℤ pos 0))

-- u stands on the straight line through s and t, beyond neither
pub record On (s t u : Spot) : Type 0 where
  pub straight : right_of s u *ℤ above_of t u ≡ right_of t u *ℤ above_of s u
  pub in_x : Around (right_of s u) (right_of t u)
  pub in_y : Around (above_of s u) (above_of t u)

abbrev pub OnSegment : Segment → Spot → Type 0
OnSegment l u = On (whole l.low) (whole l.high) u

-- the leg from s to t and the segment l have a point in common
abbrev pub Touches : Spot → Spot → Segment → Type 0
Touches s t l = (u : Spot) × On s t u × OnSegment l u

-- they have exactly one point in common, an end of neither
pub record Crosses (s t : Spot) (l : Segment) : Type 0 where
  pub at : Spot
  pub on_leg : On s t at
  pub on_segment : OnSegment l at
  pub only : (u : Spot) → On s t u → OnSegment l u → SamePlace u at
  pub inner : ¬ (SamePlace at s) × ¬ (SamePlace at t) × ¬ (SamePlace at (whole l.low)) × ¬ (SamePlace at (whole l.high))

abbrev pub EndOf : Segment → Spot → Type 0
EndOf l u = SamePlace u (whole l.low) ⊎ SamePlace u (whole l.high)

-- two different segments have a point in common that is not an end of both
pub record MeetImproperly (l m : Segment) : Type 0 where
  pub different : ¬ (l ≡ m)
  pub at : Spot
  pub on_one : OnSegment l at
  pub on_other : OnSegment m at
  pub no_common_end : ¬ (EndOf l at × EndOf m at)
