-- A segment from a to b and a leg from p to q, all whole points: what they share (`Shared`, `Clean`), and the tests of it by signs (`touches`, `crosses`).
use Rattle.std.proofs.Common.{◌≡◌, ℕ, ◌+◌, ◌*◌, Bool, not, ◌&&◌, ◌||◌, ◌⊎◌, List, [], ◌∷◌, ℤ, pos, ◌*ℤ◌, ◌≤ℤ◌, ◌<ℤ◌}
use lib.Signed.{lt_z, le_z}
use Rattle.algebra.specs.Polynomial.{Ex, var, ◌⊖◌, ◌⊗◌}
use Rattle.plane.specs.declared.point.Point.{Point}
use Rattle.plane.specs.Points.{orientation, scaled}
use Rattle.plane.specs.Meeting.{opposite}

-- from u to v or from v to u, w is on the way
abbrev pub Between : ℤ → ℤ → ℤ → Type 0
Between u v w = ((u ≤ℤ w) × (w ≤ℤ v)) ⊎ ((v ≤ℤ w) × (w ≤ℤ u))

-- the point s / k lies on the straight way from a to b
pub record Hits (k : ℤ) (s a b : Point) : Type 0 where
  pub straight : orientation (scaled k a) (scaled k b) s ≡ pos 0
  pub across : Between (k *ℤ a.x) (k *ℤ b.x) s.x
  pub along : Between (k *ℤ a.y) (k *ℤ b.y) s.y

-- a point of both, at / scale
pub record Shared (a b p q : Point) : Type 0 where
  pub scale : ℤ
  pub at : Point
  pub some_scale : pos 0 <ℤ scale
  pub on_segment : Hits scale at a b
  pub on_leg : Hits scale at p q

abbrev pub IsEnd : (a b p q : Point) → Shared a b p q → Type 0
IsEnd a b p q s =
    ((s.at ≡ scaled s.scale a) ⊎ (s.at ≡ scaled s.scale b)) ⊎ ((s.at ≡ scaled s.scale p) ⊎ (s.at ≡ scaled s.scale q))

abbrev pub SharedEnd : (a b p q : Point) → Type 0
SharedEnd a b p q = (s : Shared a b p q) × IsEnd a b p q s

-- they share a point, and none that is an end of either
pub record Crossed (a b p q : Point) : Type 0 where
  pub point : Shared a b p q
  pub no_end : (s : Shared a b p q) → ¬ IsEnd a b p q s

-- they share just one point, and it is an end of neither
pub record Clean (a b p q : Point) : Type 0 where
  pub point : Shared a b p q
  pub only : (s : Shared a b p q) → scaled point.scale s.at ≡ scaled s.scale point.at
  pub inner : ¬ IsEnd a b p q point

-- not both above 0, and not both below
abbrev pub straddles : ℤ → ℤ → Bool
straddles u v = (le_z u (pos 0) && le_z (pos 0) v) || (le_z (pos 0) u && le_z v (pos 0))

-- u and v are both less than w and z
abbrev pub clear_of : (u v w z : ℤ) → Bool
clear_of u v w z = (lt_z u w && lt_z u z) && (lt_z v w && lt_z v z)

-- the ranges of u, v and of w, z have a number in common
abbrev pub ranges_meet : (u v w z : ℤ) → Bool
ranges_meet u v w z = not (clear_of u v w z) && not (clear_of w z u v)

-- neither lies strictly on one side of the other, and their ranges meet
abbrev pub touches : Point → Point → Point → Point → Bool
touches a b p q =
    (straddles (orientation p q a) (orientation p q b) && straddles (orientation a b p) (orientation a b q)) && (ranges_meet a.x b.x p.x q.x && ranges_meet a.y b.y p.y q.y)

-- each has its ends strictly on both sides of the other
abbrev pub crosses : Point → Point → Point → Point → Bool
crosses a b p q = opposite (orientation p q a) (orientation p q b) && opposite (orientation a b p) (orientation a b q)

-- for `ring`: the point number n has the variables 2n and 2n + 1
abbrev pub x_e : ℕ → Ex
x_e n = var (2 * n)

abbrev pub y_e : ℕ → Ex
y_e n = var (2 * n + 1)

-- the orientation of three points whose coordinates are expressions
abbrev pub turn_x : (ax ay bx by cx cy : Ex) → Ex
turn_x ax ay bx by cx cy = (ax ⊖ cx) ⊗ (by ⊖ cy) ⊖ (bx ⊖ cx) ⊗ (ay ⊖ cy)

abbrev pub turn_e : ℕ → ℕ → ℕ → Ex
turn_e a b c = turn_x (x_e a) (y_e a) (x_e b) (y_e b) (x_e c) (y_e c)

-- a is 0, b is 1, p is 2, q is 3
abbrev pub coords : Point → Point → Point → Point → List ℤ
coords a b p q = a.x ∷ a.y ∷ b.x ∷ b.y ∷ p.x ∷ p.y ∷ q.x ∷ q.y ∷ []

-- the heights of a and b over the leg, and those of p and q over the segment
abbrev pub A' : Ex
A' = turn_e 2 3 0

abbrev pub B' : Ex
B' = turn_e 2 3 1

abbrev pub P' : Ex
P' = turn_e 0 1 2

abbrev pub Q' : Ex
Q' = turn_e 0 1 3
