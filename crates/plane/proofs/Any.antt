-- The tests with no hypothesis on the order of the ends: `any_touch_test`, `any_cross_test`; and they say the same in any scale: `touches_scaled`, `crosses_scaled`.
use Rattle.std.proofs.Common.{◌≡◌, true, false, not, ◌&&◌, ◌||◌, ◌⊎◌, [], ◌∷◌, ℤ, pos, ◌*ℤ◌, neg_ℤ, ◌≤ℤ◌, ◌<ℤ◌, Decides, sym, refl, ap, ◌∙◌, subst, ap₂, inl, inr, arith}
use mathlib.Core.Bool.{and_comm}
use lib.Signed.{lt_z, le_z}
use Rattle.std.proofs.lemmas.Bool.{and_parts}
use Rattle.algebra.specs.Polynomial.{var, neg, ◌⊗◌, nought}
use Rattle.algebra.proofs.Ring.{ring}
use Rattle.algebra.proofs.Signs.{lin, split, mul_pos, mul_le, mul_lt}
use Rattle.plane.specs.declared.point.Point.{Point}
use Rattle.plane.specs.Points.{orientation, scaled}
use Rattle.plane.specs.Meeting.{opposite}
use Rattle.plane.specs.PointLaws.{Before, points_equal, xs_of, ys_of, Lex, first, last, one, lex}
use Rattle.plane.proofs.Pairs.{Between, Hits, Shared, IsEnd, Clean, straddles, clear_of, ranges_meet, touches, crosses, turn_e, turn_x, x_e, y_e}
use Rattle.plane.proofs.Sharing.{leg_back, segment_back, hits_start, hits_whole, upright}
use Rattle.plane.proofs.Tests.{ranges_sorted, touch_test, touch_from, cross_test, cross_to}

pub clean_back : (a b p q : Point) → Clean a b q p → Clean a b p q
clean_back a b p q c =
    record { point = leg_back a b p q c.point; only = λ t. c.only (leg_back a b q p t); inner = ends }
  where
    ends : ¬ IsEnd a b p q (leg_back a b p q c.point)
    ends (inl e) = c.inner (inl e)
    ends (inr (inl e)) = c.inner (inr (inr e))
    ends (inr (inr e)) = c.inner (inr (inl e))

pub clean_segment_back : (a b p q : Point) → Clean b a p q → Clean a b p q
clean_segment_back a b p q c =
    record { point = segment_back a b p q c.point; only = λ t. c.only (segment_back b a p q t); inner = ends }
  where
    ends : ¬ IsEnd a b p q (segment_back a b p q c.point)
    ends (inl (inl e)) = c.inner (inl (inr e))
    ends (inl (inr e)) = c.inner (inl (inl e))
    ends (inr e) = c.inner (inr e)

weak : (u v : ℤ) → v <ℤ u → v ≤ℤ u
weak u v h = omega (arith, lin)

-- a segment of one point has none but its ends
pub only_end : (k : ℤ) (s a : Point) → Hits k s a a → s ≡ scaled k a
only_end k s a o = points_equal s (scaled k a) (squeezed (k *ℤ a.x) s.x o.across) (squeezed (k *ℤ a.y) s.y o.along)
  where
    squeezed : (u w : ℤ) → Between u u w → w ≡ u
    squeezed u w (inl h) = omega (arith, lin)
    squeezed u w (inr h) = omega (arith, lin)

pub no_clean : (a b p q : Point) → a ≡ b → Clean a b p q → ⊥
no_clean a b p q e c =
    c.inner (inl (inl (only_end c.point.scale c.point.at a (subst (λ t. Hits c.point.scale c.point.at a t) (sym e) c.point.on_segment))))

-- the tests with the leg the other way round
straddles_neg : (u v : ℤ) → straddles (neg_ℤ u) (neg_ℤ v) ≡ straddles u v
straddles_neg u v = grind (arith, lin)

straddles_swap : (u v : ℤ) → straddles u v ≡ straddles v u
straddles_swap u v = grind (arith, lin)

opposite_neg : (u v : ℤ) → opposite (neg_ℤ u) (neg_ℤ v) ≡ opposite u v
opposite_neg u v = grind (arith, lin)

opposite_swap : (u v : ℤ) → opposite u v ≡ opposite v u
opposite_swap u v = grind (arith, lin)

ranges_swap : (u v w z : ℤ) → ranges_meet u v w z ≡ ranges_meet u v z w
ranges_swap u v w z = grind (arith, lin)

pub orientation_back : (p q a : Point) → orientation p q a ≡ neg_ℤ (orientation q p a)
orientation_back p q a = ring (p.x ∷ p.y ∷ q.x ∷ q.y ∷ a.x ∷ a.y ∷ []) (turn_e 0 1 2) (neg (turn_e 1 0 2)) refl

pub touches_back : (a b p q : Point) → touches a b p q ≡ touches a b q p
touches_back a b p q =
    ap₂ ◌&&◌ (ap₂ ◌&&◌ (ap₂ straddles (orientation_back p q a) (orientation_back p q b) ∙ straddles_neg (orientation q p a) (orientation q p b)) (straddles_swap (orientation a b p) (orientation a b q)))
    (ap₂ ◌&&◌ (ranges_swap a.x b.x p.x q.x) (ranges_swap a.y b.y p.y q.y))

pub crosses_back : (a b p q : Point) → crosses a b p q ≡ crosses a b q p
crosses_back a b p q =
    ap₂ ◌&&◌ (ap₂ opposite (orientation_back p q a) (orientation_back p q b) ∙ opposite_neg (orientation q p a) (orientation q p b)) (opposite_swap (orientation a b p) (orientation a b q))

-- with the segment the other way round, and with the two exchanged
ranges_swap_first : (u v w z : ℤ) → ranges_meet u v w z ≡ ranges_meet v u w z
ranges_swap_first u v w z = grind (arith, lin)

pub touches_segment_back : (a b p q : Point) → touches a b p q ≡ touches b a p q
touches_segment_back a b p q =
    ap₂ ◌&&◌ (ap₂ ◌&&◌ (straddles_swap (orientation p q a) (orientation p q b)) (ap₂ straddles (orientation_back a b p) (orientation_back a b q) ∙ straddles_neg (orientation b a p) (orientation b a q)))
    (ap₂ ◌&&◌ (ranges_swap_first a.x b.x p.x q.x) (ranges_swap_first a.y b.y p.y q.y))

pub crosses_segment_back : (a b p q : Point) → crosses a b p q ≡ crosses b a p q
crosses_segment_back a b p q =
    ap₂ ◌&&◌ (opposite_swap (orientation p q a) (orientation p q b)) (ap₂ opposite (orientation_back a b p) (orientation_back a b q) ∙ opposite_neg (orientation b a p) (orientation b a q))

pub touches_exchange : (a b p q : Point) → touches a b p q ≡ touches p q a b
touches_exchange a b p q =
    ap₂ ◌&&◌ (and_comm (straddles (orientation p q a) (orientation p q b)) (straddles (orientation a b p) (orientation a b q)))
    (ap₂ ◌&&◌ (and_comm (not (clear_of a.x b.x p.x q.x)) (not (clear_of p.x q.x a.x b.x))) (and_comm (not (clear_of a.y b.y p.y q.y)) (not (clear_of p.y q.y a.y b.y))))

pub exchange : (a b p q : Point) → Shared a b p q → Shared p q a b
exchange a b p q s =
    record { scale = s.scale; at = s.at; some_scale = s.some_scale; on_segment = s.on_leg; on_leg = s.on_segment }

abbrev Touch : Point → Point → Point → Point → Type 0
Touch a b p q = touches a b p q ≡ true → Shared a b p q

touch_right : (a b p q : Point) → Before a b → Touch a b p q
touch_right a b p q l e = go (split p.x q.x)
  where
    go : (p.x ≤ℤ q.x) ⊎ (q.x <ℤ p.x) → Shared a b p q
    go (inl k) = (touch_test a b p q l k).0 e
    go (inr k) = leg_back a b p q ((touch_test a b q p l (weak p.x q.x k)).0 (sym (touches_back a b p q) ∙ e))

-- two single points
touch_single : (a b p q : Point) → a ≡ b → p ≡ q → Touch a b p q
touch_single a b p q e f t =
    let rx = ranges_meet a.x b.x p.x q.x in
    let ry = ranges_meet a.y b.y p.y q.y in
    let r = and_parts rx ry (and_parts (straddles (orientation p q a) (orientation p q b) && straddles (orientation a b p) (orientation a b q)) (rx && ry) t).1 in
    let ux = meet_single a.x b.x p.x q.x (xs_of e) (xs_of f) r.0 in
    let uy = meet_single a.y b.y p.y q.y (ys_of e) (ys_of f) r.1 in
    record { scale = pos 1; at = scaled (pos 1) a; some_scale = omega (arith, lin); on_segment = hits_start a b; on_leg = hits_whole a p q (upright p q a ux.0 ux.1) (inl (omega (arith, lin), omega (arith, lin))) (inl (omega (arith, lin), omega (arith, lin))) }
  where
    meet_single : (u v w z : ℤ) → u ≡ v → w ≡ z → ranges_meet u v w z ≡ true → (w ≡ u) × (z ≡ u)
    meet_single u v w z e f h = let r = ranges_sorted u v w z (omega (arith, lin)) (omega (arith, lin)) h in (omega (arith, lin), omega (arith, lin))

pub any_touch_test : (a b p q : Point) → Decides (touches a b p q) (Shared a b p q)
any_touch_test a b p q = (to (lex a b) (lex p q), touch_from a b p q)
  where
    to : Lex a b → Lex p q → Touch a b p q
    to (first l) m e = touch_right a b p q l e
    to (last l) m e = segment_back a b p q (touch_right b a p q l (sym (touches_segment_back a b p q) ∙ e))
    to (one l) (first m) e = exchange p q a b (touch_right p q a b m (sym (touches_exchange a b p q) ∙ e))
    to (one l) (last m) e =
        leg_back a b p q (exchange q p a b (touch_right q p a b m (sym (touches_exchange a b q p) ∙ (sym (touches_back a b p q) ∙ e))))
    to (one l) (one m) e = touch_single a b p q l m e

ordered_crosses : (a b p q : Point) → Before a b → Clean a b p q → crosses a b p q ≡ true
ordered_crosses a b p q l c = go (split p.x q.x)
  where
    go : (p.x ≤ℤ q.x) ⊎ (q.x <ℤ p.x) → crosses a b p q ≡ true
    go (inl k) = (cross_test a b p q l k).1 c
    go (inr k) = crosses_back a b p q ∙ (cross_test a b q p l (weak p.x q.x k)).1 (clean_back a b q p c)

pub any_cross_test : (a b p q : Point) → Decides (crosses a b p q) (Clean a b p q)
any_cross_test a b p q = (cross_to a b p q, from (lex a b))
  where
    from : Lex a b → Clean a b p q → crosses a b p q ≡ true
    from (first l) c = ordered_crosses a b p q l c
    from (last l) c = crosses_segment_back a b p q ∙ ordered_crosses b a p q l (clean_segment_back b a p q c)
    from (one e) c = absurd (no_clean a b p q e c)

pub scale_le : (k u v : ℤ) → pos 0 <ℤ k → le_z (k *ℤ u) (k *ℤ v) ≡ le_z u v
scale_le k u v h = go (split u v)
  where
    go : (u ≤ℤ v) ⊎ (v <ℤ u) → le_z (k *ℤ u) (k *ℤ v) ≡ le_z u v
    go (inl i) =
        let s : true ≡ le_z (k *ℤ u) (k *ℤ v) = omega (arith, lin, mul_le k u v (omega (arith, lin)) i) in
        let t : true ≡ le_z u v = omega (arith, lin) in
        sym s ∙ t
    go (inr i) =
        let s : false ≡ le_z (k *ℤ u) (k *ℤ v) = omega (arith, lin, mul_lt k v u h i) in
        let t : false ≡ le_z u v = omega (arith, lin) in
        sym s ∙ t

pub scale_lt : (k u v : ℤ) → pos 0 <ℤ k → lt_z (k *ℤ u) (k *ℤ v) ≡ lt_z u v
scale_lt k u v h = go (split v u)
  where
    go : (v ≤ℤ u) ⊎ (u <ℤ v) → lt_z (k *ℤ u) (k *ℤ v) ≡ lt_z u v
    go (inl i) =
        let s : false ≡ lt_z (k *ℤ u) (k *ℤ v) = omega (arith, lin, mul_le k v u (omega (arith, lin)) i) in
        let t : false ≡ lt_z u v = omega (arith, lin) in
        sym s ∙ t
    go (inr i) =
        let s : true ≡ lt_z (k *ℤ u) (k *ℤ v) = omega (arith, lin, mul_lt k u v h i) in
        let t : true ≡ lt_z u v = omega (arith, lin) in
        sym s ∙ t

zeroth : (k : ℤ) → pos 0 ≡ k *ℤ pos 0
zeroth k = ring (k ∷ []) nought (var 0 ⊗ nought) refl

-- orientations in the scale k, against 0
pub orientation_scaled : (k : ℤ) (a b c : Point) → orientation (scaled k a) (scaled k b) (scaled k c) ≡ (k *ℤ k) *ℤ orientation a b c
orientation_scaled k a b c =
    ring (a.x ∷ a.y ∷ b.x ∷ b.y ∷ c.x ∷ c.y ∷ k ∷ []) (turn_x (var 6 ⊗ x_e 0) (var 6 ⊗ y_e 0) (var 6 ⊗ x_e 1) (var 6 ⊗ y_e 1) (var 6 ⊗ x_e 2) (var 6 ⊗ y_e 2)) (var 6 ⊗ var 6 ⊗ turn_e 0 1 2) refl

module _ (k : ℤ) (h : pos 0 <ℤ k) where
  hh : pos 0 <ℤ (k *ℤ k)
  hh = mul_pos k k h h

  pub positive_scaled : (a b c : Point) → lt_z (pos 0) (orientation (scaled k a) (scaled k b) (scaled k c)) ≡ lt_z (pos 0) (orientation a b c)
  positive_scaled a b c = ap₂ lt_z (zeroth (k *ℤ k)) (orientation_scaled k a b c) ∙ scale_lt (k *ℤ k) (pos 0) (orientation a b c) hh

  pub negative_scaled : (a b c : Point) → lt_z (orientation (scaled k a) (scaled k b) (scaled k c)) (pos 0) ≡ lt_z (orientation a b c) (pos 0)
  negative_scaled a b c = ap₂ lt_z (orientation_scaled k a b c) (zeroth (k *ℤ k)) ∙ scale_lt (k *ℤ k) (orientation a b c) (pos 0) hh

  pub nonnegative_scaled : (a b c : Point) → le_z (pos 0) (orientation (scaled k a) (scaled k b) (scaled k c)) ≡ le_z (pos 0) (orientation a b c)
  nonnegative_scaled a b c = ap₂ le_z (zeroth (k *ℤ k)) (orientation_scaled k a b c) ∙ scale_le (k *ℤ k) (pos 0) (orientation a b c) hh

  pub nonpositive_scaled : (a b c : Point) → le_z (orientation (scaled k a) (scaled k b) (scaled k c)) (pos 0) ≡ le_z (orientation a b c) (pos 0)
  nonpositive_scaled a b c = ap₂ le_z (orientation_scaled k a b c) (zeroth (k *ℤ k)) ∙ scale_le (k *ℤ k) (orientation a b c) (pos 0) hh

  straddles_scaled : (p q a b : Point) → straddles (orientation (scaled k p) (scaled k q) (scaled k a)) (orientation (scaled k p) (scaled k q) (scaled k b)) ≡ straddles (orientation p q a) (orientation p q b)
  straddles_scaled p q a b = ap₂ ◌||◌ (ap₂ ◌&&◌ (nonpositive_scaled p q a) (nonnegative_scaled p q b)) (ap₂ ◌&&◌ (nonnegative_scaled p q a) (nonpositive_scaled p q b))

  opposite_scaled : (p q a b : Point) → opposite (orientation (scaled k p) (scaled k q) (scaled k a)) (orientation (scaled k p) (scaled k q) (scaled k b)) ≡ opposite (orientation p q a) (orientation p q b)
  opposite_scaled p q a b = ap₂ ◌||◌ (ap₂ ◌&&◌ (negative_scaled p q a) (positive_scaled p q b)) (ap₂ ◌&&◌ (positive_scaled p q a) (negative_scaled p q b))

  clear_scaled : (u v w z : ℤ) → clear_of (k *ℤ u) (k *ℤ v) (k *ℤ w) (k *ℤ z) ≡ clear_of u v w z
  clear_scaled u v w z = ap₂ ◌&&◌ (ap₂ ◌&&◌ (scale_lt k u w h) (scale_lt k u z h)) (ap₂ ◌&&◌ (scale_lt k v w h) (scale_lt k v z h))

  ranges_scaled : (u v w z : ℤ) → ranges_meet (k *ℤ u) (k *ℤ v) (k *ℤ w) (k *ℤ z) ≡ ranges_meet u v w z
  ranges_scaled u v w z = ap₂ ◌&&◌ (ap not (clear_scaled u v w z)) (ap not (clear_scaled w z u v))

  pub touches_scaled : (a b p q : Point) → touches (scaled k a) (scaled k b) (scaled k p) (scaled k q) ≡ touches a b p q
  touches_scaled a b p q =
      ap₂ ◌&&◌ (ap₂ ◌&&◌ (straddles_scaled p q a b) (straddles_scaled a b p q))
      (ap₂ ◌&&◌ (ranges_scaled a.x b.x p.x q.x) (ranges_scaled a.y b.y p.y q.y))

  pub crosses_scaled : (a b p q : Point) → crosses (scaled k a) (scaled k b) (scaled k p) (scaled k q) ≡ crosses a b p q
  crosses_scaled a b p q = ap₂ ◌&&◌ (opposite_scaled p q a b) (opposite_scaled a b p q)
