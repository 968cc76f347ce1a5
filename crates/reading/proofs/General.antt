-- Legs in general position are fair, `fair_general`: those with ends on no line and no corner straight on them.
use Rattle.std.proofs.Common.{◌≡◌, true, List, ℤ, pos, ◌<ℤ◌, sym, ◌∙◌, subst, inl, inr, arith}
use Rattle.algebra.specs.Members.{◌∈◌}
use Rattle.algebra.proofs.Ring.{mul_comm}
use Rattle.algebra.proofs.Signs.{lin}
use Rattle.algebra.proofs.Members.{Case, holds, fails, case}
use Rattle.plane.specs.declared.point.Point.{Point}
use Rattle.plane.specs.declared.segment.Segment.{Segment}
use Rattle.plane.specs.Points.{orientation, scaled}
use Rattle.plane.specs.Spots.{Spot, whole, right_of, Around, LeftOf, OnSegment}
use Rattle.plane.proofs.Pairs.{Hits, Shared, IsEnd}
use Rattle.plane.proofs.Sharing.{hits_start, hits_back}
use Rattle.plane.proofs.Weights.{end_level, Passing, falling, rising, flat}
use Rattle.plane.proofs.Crossed.{signs}
use Rattle.plane.proofs.Tests.{through_in, through_in'}
use Rattle.plane.proofs.Any.{any_touch_test}
use Rattle.plane.proofs.Bridge.{Stands, touches_at, crosses_at, Fair, stands_whole, on_of}
use Rattle.reading.specs.Reading.{Off}
use Rattle.reading.proofs.Scales.{finer, untouched}

-- a point p of the line in the scale k, named in any finer scale
on_line : (k e : ℤ) (p : Point) (s : Spot) (l : Segment) → pos 0 <ℤ k → pos 0 <ℤ e → Stands s k p → Hits e (scaled e p) (scaled k l.low) (scaled k l.high) → OnSegment l s
on_line k e p s l hk he hs h =
    on_of k e (scaled k l.low) (scaled k l.high) (scaled e p) (whole l.low) (whole l.high) s hk he (stands_whole k l.low) (stands_whole k l.high)
    (subst (λ c. Stands s c (scaled e p)) (mul_comm k e) (finer k e p s hs)) h

pub at_low : (k : ℤ) (p : Point) (s : Spot) (l : Segment) → pos 0 <ℤ k → Stands s k p → scaled k l.low ≡ p → OnSegment l s
at_low k p s l hk hs e =
    on_line k (pos 1) p s l hk (omega (arith, lin)) hs (subst (λ w. Hits (pos 1) (scaled (pos 1) w) (scaled k l.low) (scaled k l.high)) e (hits_start (scaled k l.low) (scaled k l.high)))

pub at_high : (k : ℤ) (p : Point) (s : Spot) (l : Segment) → pos 0 <ℤ k → Stands s k p → scaled k l.high ≡ p → OnSegment l s
at_high k p s l hk hs e =
    on_line k (pos 1) p s l hk (omega (arith, lin)) hs
    (subst (λ w. Hits (pos 1) (scaled (pos 1) w) (scaled k l.low) (scaled k l.high)) e (hits_back (pos 1) (scaled (pos 1) (scaled k l.high)) (scaled k l.high) (scaled k l.low) (hits_start (scaled k l.high) (scaled k l.low))))

pub left_off : (l : Segment) (s : Spot) → LeftOf s (whole l.low) → LeftOf s (whole l.high) → ¬ OnSegment l s
left_off l s h j o = go o.in_x
  where
    go : Around (right_of (whole l.low) s) (right_of (whole l.high) s) → ⊥
    go (inl c) = omega (arith, lin)
    go (inr c) = omega (arith, lin)

pub right_off : (l : Segment) (s : Spot) → LeftOf (whole l.low) s → LeftOf (whole l.high) s → ¬ OnSegment l s
right_off l s h j o = go o.in_x
  where
    go : Around (right_of (whole l.low) s) (right_of (whole l.high) s) → ⊥
    go (inl c) = omega (arith, lin)
    go (inr c) = omega (arith, lin)

module _ (k : ℤ) (p q : Point) (s t : Spot) (hk : pos 0 <ℤ k) (hs : Stands s k p) (ht : Stands t k q) where
  crossed_at : (l : Segment) → ¬ OnSegment l s → ¬ OnSegment l t → ¬ (orientation p q (scaled k l.low) ≡ pos 0) → ¬ (orientation p q (scaled k l.high) ≡ pos 0) → Shared (scaled k l.low) (scaled k l.high) p q → crosses_at k p q l ≡ true
  crossed_at l os ot na nb z = go (signs a b p q z no_end)
    where
      a : Point
      a = scaled k l.low

      b : Point
      b = scaled k l.high

      no_end : ¬ IsEnd a b p q z
      no_end (inl (inl e)) = na (end_level z.scale z.at a p q z.some_scale z.on_leg e)
      no_end (inl (inr e)) = nb (end_level z.scale z.at b p q z.some_scale z.on_leg e)
      no_end (inr (inl e)) = os (on_line k z.scale p s l hk z.some_scale hs (subst (λ y. Hits z.scale y a b) e z.on_segment))
      no_end (inr (inr e)) = ot (on_line k z.scale q t l hk z.some_scale ht (subst (λ y. Hits z.scale y a b) e z.on_segment))

      go : Passing (orientation p q a) (orientation p q b) (orientation a b p) (orientation a b q) → crosses_at k p q l ≡ true
      go (falling A B P Q) = through_in (orientation p q a) (orientation p q b) (orientation a b p) (orientation a b q) A B P Q
      go (rising A B P Q) = through_in' (orientation p q a) (orientation p q b) (orientation a b p) (orientation a b q) A B P Q
      go (flat A B P Q) = absurd (na A)

  pub fair_general : (ls : List Segment) → Off ls s → Off ls t → ((l : Segment) → l ∈ ls → ¬ (orientation p q (scaled k l.low) ≡ pos 0) × ¬ (orientation p q (scaled k l.high) ≡ pos 0)) → Fair ls k p q
  fair_general ls os ot h l i = go (case (touches_at k p q l))
    where
      go : Case (touches_at k p q l) → touches_at k p q l ≡ crosses_at k p q l
      go (holds e) = e ∙ sym (crossed_at l (os l i) (ot l i) (h l i).0 (h l i).1 ((any_touch_test (scaled k l.low) (scaled k l.high) p q).0 e))
      go (fails e) = e ∙ sym (untouched (scaled k l.low) (scaled k l.high) p q e)
