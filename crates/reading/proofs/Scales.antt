-- Two spots at one fineness, and what the tests say there of a leg that meets each line cleanly or not at all (`met_fair`, `met_crosses`).
use Rattle.std.proofs.Common.{◌≡◌, Bool, true, false, ◌⊎◌, List, [], ◌∷◌, ℤ, pos, ◌*ℤ◌, ◌<ℤ◌, sym, refl, ap, ◌∙◌, inl, inr}
use Rattle.algebra.specs.Members.{◌∈◌}
use Rattle.algebra.specs.Polynomial.{var, ◌⊗◌, by}
use Rattle.algebra.proofs.Ring.{ring_from, mul_comm}
use Rattle.algebra.proofs.Signs.{mul_pos}
use Rattle.algebra.proofs.Members.{apart, Case, holds, fails, case}
use Rattle.plane.specs.declared.point.Point.{Point}
use Rattle.plane.specs.declared.segment.Segment.{Segment}
use Rattle.plane.specs.Points.{scaled}
use Rattle.plane.specs.Spots.{Spot, Touches, Crosses}
use Rattle.plane.specs.PointLaws.{points_equal, xs_of, ys_of}
use Rattle.plane.proofs.Pairs.{touches, crosses}
use Rattle.plane.proofs.Bridge.{place, Stands, touches_at, crosses_at, Fair, scaled_twice, touches_tell, crosses_tell, cross_touch}
use Rattle.reading.specs.Counting.{Met}

-- s and t at a fineness of both
abbrev pub both : Spot → Spot → ℤ
both s t = s.k *ℤ t.k

abbrev pub first : Spot → Spot → Point
first s t = scaled t.k (place s)

abbrev pub second : Spot → Spot → Point
second s t = scaled s.k (place t)

pub both_fine : (s t : Spot) → pos 0 <ℤ both s t
both_fine s t = mul_pos s.k t.k s.fine t.fine

pub first_stands : (s t : Spot) → Stands s (both s t) (first s t)
first_stands s t = scaled_twice s.k t.k (place s)

pub second_stands : (s t : Spot) → Stands t (both s t) (second s t)
second_stands s t = scaled_twice t.k s.k (place t) ∙ ap (λ c. scaled c (place t)) (mul_comm t.k s.k)

-- s at a finer scale
pub finer : (k c : ℤ) (p : Point) (s : Spot) → Stands s k p → Stands s (k *ℤ c) (scaled c p)
finer k c p s h =
    points_equal (scaled s.k (scaled c p)) (scaled (k *ℤ c) (place s)) (one s.k p.x k s.x c (xs_of h)) (one s.k p.y k s.y c (ys_of h))
  where
    one : (sk p k s c : ℤ) → sk *ℤ p ≡ k *ℤ s → sk *ℤ (c *ℤ p) ≡ (k *ℤ c) *ℤ s
    one sk p k s c e =
        ring_from (sk ∷ p ∷ k ∷ s ∷ c ∷ []) (by (var 4) (var 0 ⊗ var 1) (var 2 ⊗ var 3) ∷ []) (e, tt) (var 0 ⊗ (var 4 ⊗ var 1)) (var 2 ⊗ var 4 ⊗ var 3) refl

pub untouched : (a b p q : Point) → touches a b p q ≡ false → crosses a b p q ≡ false
untouched a b p q e = go (case (crosses a b p q))
  where
    go : Case (crosses a b p q) → crosses a b p q ≡ false
    go (holds h) = absurd (apart (cross_touch a b p q h) e)
    go (fails h) = h

-- the leg from s = p / k to t = q / k
module _ (k : ℤ) (p q : Point) (s t : Spot) (hk : pos 0 <ℤ k) (hs : Stands s k p) (ht : Stands t k q) where
  not_touched : (l : Segment) → ¬ Touches s t l → touches_at k p q l ≡ false
  not_touched l n = go (case (touches_at k p q l))
    where
      go : Case (touches_at k p q l) → touches_at k p q l ≡ false
      go (holds h) = absurd (n ((touches_tell k p q s t hk hs ht l).0 h))
      go (fails h) = h

  pub not_crossed : (l : Segment) → ¬ Touches s t l → crosses_at k p q l ≡ false
  not_crossed l n = untouched (scaled k l.low) (scaled k l.high) p q (not_touched l n)

  module _ (ls : List Segment) (meets : Segment → Bool) (met : Met ls s t meets) where
    pub met_fair : Fair ls k p q
    met_fair l i = by (met l i)
      where
        by : ((meets l ≡ true) × Crosses s t l) ⊎ ((meets l ≡ false) × ¬ Touches s t l) → touches_at k p q l ≡ crosses_at k p q l
        by (inl c) = let e = (crosses_tell k p q s t hk hs ht l).1 c.1 in cross_touch (scaled k l.low) (scaled k l.high) p q e ∙ sym e
        by (inr n) = not_touched l n.1 ∙ sym (not_crossed l n.1)

    pub met_crosses : (l : Segment) → l ∈ ls → meets l ≡ crosses_at k p q l
    met_crosses l i = by (met l i)
      where
        by : ((meets l ≡ true) × Crosses s t l) ⊎ ((meets l ≡ false) × ¬ Touches s t l) → meets l ≡ crosses_at k p q l
        by (inl c) = c.0 ∙ sym ((crosses_tell k p q s t hk hs ht l).1 c.1)
        by (inr n) = n.0 ∙ sym (not_crossed l n.1)
