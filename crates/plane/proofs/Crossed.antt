-- A segment and a leg that share a point which is an end of neither: the `signs` of the heights, and that they share an end if all are 0 (`flat_end`).
use Rattle.std.proofs.Common.{◌≡◌, ◌⊎◌, [], ◌∷◌, ℤ, pos, ◌-ℤ◌, ◌*ℤ◌, ◌≤ℤ◌, ◌<ℤ◌, refl, ap, ◌∙◌, inl, inr, arith}
use Rattle.algebra.specs.Polynomial.{var, ◌⊗◌, by, minus_unit}
use Rattle.algebra.proofs.Ring.{ring_from}
use Rattle.algebra.proofs.Signs.{lin, split, cancel, cancel_le, mul_le}
use Rattle.plane.specs.declared.point.Point.{Point}
use Rattle.plane.specs.Points.{orientation, scaled}
use Rattle.plane.specs.PointLaws.{Before, rightward, points_equal, xs_of, ys_of}
use Rattle.plane.proofs.Pairs.{Between, Shared, IsEnd, SharedEnd, Crossed, Clean}
use Rattle.plane.proofs.Sharing.{fall_leg, fall_segment, upright, end_by_x, end_by_y}
use Rattle.plane.proofs.Weights.{Weighed, weights, heights, weight_on_u, weight_on_v, edge, opposed, Passing, passing, in_order}

-- a shared point, s / k
module _ (a b p q : Point) (z : Shared a b p q) where
  abbrev k : ℤ
  k = z.scale

  abbrev s : Point
  s = z.at

  weighed_segment : Weighed k s.x s.y a.x a.y b.x b.y
  weighed_segment = weights k s a b z.on_segment

  weighed_leg : Weighed k s.x s.y p.x p.y q.x q.y
  weighed_leg = weights k s p q z.on_leg

  on_a : ¬ IsEnd a b p q z → pos 0 <ℤ weighed_segment.m
  on_a n = weight_on_u k s a b weighed_segment (λ e. n (inl (inr e)))

  on_b : ¬ IsEnd a b p q z → pos 0 <ℤ weighed_segment.n
  on_b n = weight_on_v k s a b weighed_segment (λ e. n (inl (inl e)))

  on_p : ¬ IsEnd a b p q z → pos 0 <ℤ weighed_leg.m
  on_p n = weight_on_u k s p q weighed_leg (λ e. n (inr (inr e)))

  on_q : ¬ IsEnd a b p q z → pos 0 <ℤ weighed_leg.n
  on_q n = weight_on_v k s p q weighed_leg (λ e. n (inr (inl e)))

  -- an end of neither: the leg passes through the segment, or lies along it
  pub signs : ¬ IsEnd a b p q z → Passing (orientation p q a) (orientation p q b) (orientation a b p) (orientation a b q)
  signs n =
      passing (orientation p q a) (orientation p q b) (orientation a b p) (orientation a b q) (orientation a b p -ℤ orientation a b q) (fall_leg a b p q) (fall_segment a b p q)
      (opposed weighed_segment.m weighed_segment.n (orientation p q a) (orientation p q b) (on_a n) (on_b n) (heights k s a b p q z.some_scale z.on_leg.straight weighed_segment))
      (opposed weighed_leg.m weighed_leg.n (orientation a b p) (orientation a b q) (on_p n) (on_q n) (heights k s p q a b z.some_scale z.on_segment.straight weighed_leg))

  within : (u v w : ℤ) → u ≤ℤ v → Between (k *ℤ u) (k *ℤ v) w → ((k *ℤ u) ≤ℤ w) × (w ≤ℤ (k *ℤ v))
  within u v w h i = in_order (k *ℤ u) (k *ℤ v) w (mul_le k u v (weaker z.some_scale) h) i
    where
      weaker : pos 0 <ℤ k → pos 0 ≤ℤ k
      weaker h = omega (arith, lin)

  shrink : (u v w : ℤ) → (k *ℤ u) ≤ℤ w → w ≤ℤ (k *ℤ v) → u ≤ℤ v
  shrink u v w h i = cancel_le k u v z.some_scale (omega (arith, lin))

  module _ (l : Before a b) (r : p.x ≤ℤ q.x) where
    in_segment_x : ((k *ℤ a.x) ≤ℤ s.x) × (s.x ≤ℤ (k *ℤ b.x))
    in_segment_x = within a.x b.x s.x (rightward a b l) z.on_segment.across

    in_leg_x : ((k *ℤ p.x) ≤ℤ s.x) × (s.x ≤ℤ (k *ℤ q.x))
    in_leg_x = within p.x q.x s.x r z.on_leg.across

    pub overlap_x : (a.x ≤ℤ q.x) × (p.x ≤ℤ b.x)
    overlap_x = (shrink a.x q.x s.x in_segment_x.0 in_leg_x.1, shrink p.x b.x s.x in_leg_x.0 in_segment_x.1)

    pub not_beside : ¬ IsEnd a b p q z → ¬ (orientation a b p ≡ pos 0) → p.x <ℤ b.x
    not_beside n high = go (split b.x p.x)
      where
        go : (b.x ≤ℤ p.x) ⊎ (p.x <ℤ b.x) → p.x <ℤ b.x
        go (inl h) =
            let f : b.x ≡ p.x = omega (arith, lin, overlap_x.1) in
            let g : s.x ≡ k *ℤ b.x = omega (arith, lin, in_segment_x, in_leg_x, ap (λ t. k *ℤ t) f) in
            let e : a.x ≡ b.x = edge k s.x a.x b.x weighed_segment.m weighed_segment.n weighed_segment.for_x z.some_scale (on_a n) g in
            absurd (high (upright a b p (e ∙ f) f))
        go (inr h) = h

    -- where the leg lies along the segment, they share an end
    module _ (A₀ : orientation p q a ≡ pos 0) (P₀ : orientation a b p ≡ pos 0) (Q₀ : orientation a b q ≡ pos 0) where
      flat_end_by : Before a b → SharedEnd a b p q
      flat_end_by (inl h) = end_by_x a b p q A₀ P₀ Q₀ h overlap_x.0 overlap_x.1
      flat_end_by (inr h) = go z.on_leg.along
        where
          in_segment_y : ((k *ℤ a.y) ≤ℤ s.y) × (s.y ≤ℤ (k *ℤ b.y))
          in_segment_y = within a.y b.y s.y (omega (arith, lin)) z.on_segment.along

          go : Between (k *ℤ p.y) (k *ℤ q.y) s.y → SharedEnd a b p q
          go (inl i) = end_by_y a b p q A₀ P₀ Q₀ h.0 h.1 (inl (shrink p.y b.y s.y i.0 in_segment_y.1)) (inr (shrink a.y q.y s.y in_segment_y.0 i.1))
          go (inr i) = end_by_y a b p q A₀ P₀ Q₀ h.0 h.1 (inr (shrink q.y b.y s.y i.0 in_segment_y.1)) (inl (shrink a.y p.y s.y in_segment_y.0 i.1))

      pub flat_end : SharedEnd a b p q
      flat_end = flat_end_by l

-- the one shared point is no end: so none is
pub crossed_of : (a b p q : Point) → Clean a b p q → Crossed a b p q
crossed_of a b p q c = record { point = s; no_end = ends }
  where
    s : Shared a b p q
    s = c.point

    number : (sk tk sz tz cz : ℤ) → pos 0 <ℤ tk → sk *ℤ tz ≡ tk *ℤ sz → tz ≡ tk *ℤ cz → sz ≡ sk *ℤ cz
    number sk tk sz tz cz h e f =
        cancel tk sz (sk *ℤ cz) h (ring_from (sk ∷ tk ∷ sz ∷ tz ∷ cz ∷ []) (by minus_unit (var 0 ⊗ var 3) (var 1 ⊗ var 2) ∷ by (var 0) (var 3) (var 1 ⊗ var 4) ∷ []) (e, (f, tt)) (var 1 ⊗ var 2) (var 1 ⊗ (var 0 ⊗ var 4)) refl)

    carry : (t : Shared a b p q) (d : Point) → t.at ≡ scaled t.scale d → s.at ≡ scaled s.scale d
    carry t d e =
        points_equal s.at (scaled s.scale d)
        (number s.scale t.scale s.at.x t.at.x d.x t.some_scale (xs_of (c.only t)) (xs_of e))
        (number s.scale t.scale s.at.y t.at.y d.y t.some_scale (ys_of (c.only t)) (ys_of e))

    ends : (t : Shared a b p q) → ¬ IsEnd a b p q t
    ends t (inl (inl e)) = c.inner (inl (inl (carry t a e)))
    ends t (inl (inr e)) = c.inner (inl (inr (carry t b e)))
    ends t (inr (inl e)) = c.inner (inr (inl (carry t p e)))
    ends t (inr (inr e)) = c.inner (inr (inr (carry t q e)))

pub no_flat : (a b p q : Point) → Before a b → p.x ≤ℤ q.x → Crossed a b p q → orientation p q a ≡ pos 0 → orientation a b p ≡ pos 0 → orientation a b q ≡ pos 0 → ⊥
no_flat a b p q l r c A₀ P₀ Q₀ = let e = flat_end a b p q c.point l r A₀ P₀ Q₀ in c.no_end e.0 e.1
