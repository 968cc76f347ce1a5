-- Numbers of lines: at a corner, under a spot, and along a leg.
use Rattle.std.specs.Prelude.{◌≡◌, ℕ, Bool, true, false, ◌&&◌, ◌||◌, ◌⊎◌, List, [], ◌∷◌, pos, ◌*ℤ◌, int_le, int_lt}
use Rattle.algebra.specs.Members.{◌∈◌}
use Rattle.algebra.specs.Parity.{odd, times}
use Rattle.plane.specs.declared.point.Point.{Point}
use Rattle.plane.specs.declared.segment.Segment.{Segment}
use Rattle.plane.specs.Points.{same_point, orientation, scaled}
use Rattle.plane.specs.Spots.{Spot, Touches, Crosses}

abbrev pub ends : List Segment → List Point
ends [] = []
ends (l ∷ ls) = l.low ∷ (l.high ∷ ends ls)

-- how many lines end at v
abbrev pub degree_at : List Segment → Point → ℕ
degree_at ls v = times (λ w. same_point w v) (ends ls)

-- at every corner an even number of lines ends
abbrev pub ClosedLines : List Segment → Type 0
ClosedLines ls = (v : Point) → odd (degree_at ls v) ≡ false

-- the line passes under the spot: it spans the spot's x, its greater end excluded, and the spot is strictly above it
abbrev pub passes_under : Spot → Segment → Bool
passes_under s l =
    int_le (s.k *ℤ l.low.x) s.x && (int_lt s.x (s.k *ℤ l.high.x) && int_lt (pos 0) (orientation (scaled s.k l.low) (scaled s.k l.high) (record { x = s.x; y = s.y })))

-- the leg from p to q, to the right, passes over v: v lies strictly below it, right of p, and not right of q
abbrev pub over : Point → Point → Point → Bool
over p q v = int_lt p.x v.x && (int_le v.x q.x && int_lt (orientation p q v) (pos 0))

-- the same of a leg from spot to spot, either way round, at a fineness of both
abbrev pub leg_over : Spot → Spot → Point → Bool
leg_over s t v =
    over (scaled t.k (record { x = s.x; y = s.y })) (scaled s.k (record { x = t.x; y = t.y })) (scaled (s.k *ℤ t.k) v)
    || over (scaled s.k (record { x = t.x; y = t.y })) (scaled t.k (record { x = s.x; y = s.y })) (scaled (s.k *ℤ t.k) v)

-- an odd number of lines under the spot
abbrev pub parity : List Segment → Spot → Bool
parity ls s = odd (times (passes_under s) ls)

-- each line is crossed cleanly or not touched, and `meets` says which
abbrev pub Met : List Segment → Spot → Spot → (Segment → Bool) → Type 0
Met ls s t meets = (l : Segment) → l ∈ ls → ((meets l ≡ true) × Crosses s t l) ⊎ ((meets l ≡ false) × ¬ Touches s t l)
