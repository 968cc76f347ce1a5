-- Spots on segments, and so what planar segments share over a spot (`one_segment`, `no_crossing`), and that a leg which does not touch a segment stays on one side of it (`stays_over`).
use Rattle.std.proofs.Common.{◌≡◌, true, ◌&&◌, ◌||◌, ◌⊎◌, List, [], ◌∷◌, ℤ, pos, ◌+ℤ◌, ◌*ℤ◌, neg_ℤ, ◌≤ℤ◌, ◌<ℤ◌, sym, refl, ap, ◌∙◌, subst, inl, inr, arith}
use lib.Signed.{lt_z, le_z}
use Rattle.std.proofs.lemmas.Bool.{or_left}
use Rattle.std.proofs.lemmas.Bool.Decides.{same_from_decides}
use Rattle.algebra.specs.Members.{◌∈◌}
use Rattle.algebra.specs.Polynomial.{Ex, con, var, neg, ◌⊕◌, ◌⊖◌, ◌⊗◌, by, unit, nought}
use Rattle.algebra.proofs.Ring.{ring, ring_from, mul_comm, mul_one}
use Rattle.algebra.proofs.Signs.{lin, mul_pos, mul_neg, mul_nonneg, mul_nonpos, mul_le, mul_lt, cancel, cancel_pos, cancel_neg, cancel_zero, cancel_nonneg, cancel_le, mean_le, mean_ge}
use Rattle.plane.specs.declared.point.Point.{Point}
use Rattle.plane.specs.declared.segment.Segment.{Segment}
use Rattle.plane.specs.Points.{orientation, scaled}
use Rattle.plane.specs.Spots.{Spot, whole, LeftOf, right_of, OnSegment, EndOf, Touches}
use Rattle.plane.specs.Meeting.{crossing, inside}
use Rattle.plane.specs.PointLaws.{xs_of, ys_of}
use Rattle.plane.proofs.Pairs.{Hits, Shared, turn_e, turn_x, x_e, y_e}
use Rattle.plane.proofs.Sharing.{mean, hits_mean, along_by, upright}
use Rattle.plane.proofs.Tests.{through_in'}
use Rattle.plane.proofs.Any.{any_touch_test}
use Rattle.plane.proofs.Bridge.{place, Stands, on_of, touches_tell}
use Rattle.plane.proofs.Meetings.{signs_tell}
use Rattle.reading.specs.Reading.{Planar}
use Rattle.reading.specs.Counting.{passes_under}
use Rattle.reading.proofs.Lists.{same_or_not}
use Rattle.reading.proofs.Scales.{both, first, second, both_fine, first_stands, second_stands}
use Rattle.faces.specs.Heights.{across}
use Rattle.faces.specs.Below.{is_below_right}
use Rattle.faces.proofs.Leads.{times_zero, one_mul, not_less}
use Rattle.faces.proofs.Gaps.{tall, rest, gap, lean, tall_e, gap_e, Spans, BelowRight, wide_by, right_tells}
use Rattle.faces.proofs.Moves.{gap_move, SameX, spans_moved}

-- a spot s = S / K over the segment, in the scale K
rest_at : (K : ℤ) (S : Point) (s : Spot) (l : Segment) → Stands s K S → s.k *ℤ orientation (scaled K l.low) (scaled K l.high) S ≡ (K *ℤ K) *ℤ rest s l
rest_at K S s l h =
    ring_from (l.low.x ∷ l.low.y ∷ l.high.x ∷ l.high.y ∷ s.x ∷ s.y ∷ s.k ∷ K ∷ S.x ∷ S.y ∷ [])
    (by (var 7 ⊗ (var 1 ⊖ var 3)) (var 6 ⊗ var 8) (var 7 ⊗ var 4) ∷ by (var 7 ⊗ (var 2 ⊖ var 0)) (var 6 ⊗ var 9) (var 7 ⊗ var 5) ∷ [])
    (xs_of h, (ys_of h, tt))
    (var 6 ⊗ turn_x (var 7 ⊗ var 0) (var 7 ⊗ var 1) (var 7 ⊗ var 2) (var 7 ⊗ var 3) (var 8) (var 9))
    (var 7 ⊗ var 7 ⊗ (var 5 ⊗ (var 2 ⊖ var 0) ⊖ tall_e (var 0) (var 1) (var 2) (var 3) (var 4) (var 6))) refl

span_at : (K : ℤ) (S : Point) (s : Spot) (l : Segment) → pos 0 <ℤ K → Stands s K S → Spans s l → ((K *ℤ l.low.x) ≤ℤ S.x) × (S.x ≤ℤ (K *ℤ l.high.x))
span_at K S s l hK h o = (
  cancel_le s.k (K *ℤ l.low.x) S.x s.fine (omega (arith, lin, xs_of h, exchanged l.low.x, mul_le K (s.k *ℤ l.low.x) s.x (omega (arith, lin)) o.after_low)),
  cancel_le s.k S.x (K *ℤ l.high.x) s.fine (omega (arith, lin, xs_of h, exchanged l.high.x, mul_le K s.x (s.k *ℤ l.high.x) (omega (arith, lin)) o.before_high)),
)
  where
    exchanged : (a : ℤ) → s.k *ℤ (K *ℤ a) ≡ K *ℤ (s.k *ℤ a)
    exchanged a = ring (s.k ∷ K ∷ a ∷ []) (var 0 ⊗ (var 1 ⊗ var 2)) (var 1 ⊗ (var 0 ⊗ var 2)) refl

-- a spot on the segment
on_by : (s : Spot) (l : Segment) → Hits s.k (place s) l.low l.high → OnSegment l s
on_by s l h =
    on_of (pos 1) s.k l.low l.high (place s) (whole l.low) (whole l.high) s (omega (arith, lin)) s.fine refl refl (ap (λ c. scaled c (place s)) (sym (mul_one s.k))) h

pub on_span : (s : Spot) (l : Segment) → Spans s l → rest s l ≡ pos 0 → OnSegment l s
on_span s l h e =
    on_by s l
    (record {
      straight = flat;
      across = inl (h.after_low, h.before_high);
      along = along_by (place s) (scaled s.k l.low) (scaled s.k l.high) (mul_lt s.k l.low.x l.high.x s.fine (omega (arith, lin, h.wide))) h.after_low h.before_high flat;
    })
  where
    flat : orientation (scaled s.k l.low) (scaled s.k l.high) (place s) ≡ pos 0
    flat = cancel_zero s.k (orientation (scaled s.k l.low) (scaled s.k l.high) (place s)) s.fine (rest_at s.k (place s) s l refl ∙ times_zero (s.k *ℤ s.k) (rest s l) e)

pub on_vertical : (s : Spot) (l : Segment) → l.low.x ≡ l.high.x → s.k *ℤ l.low.x ≡ s.x → (s.k *ℤ l.low.y) ≤ℤ s.y → s.y ≤ℤ (s.k *ℤ l.high.y) → OnSegment l s
on_vertical s l u e h j =
    on_by s l
    (record {
      straight = upright (scaled s.k l.low) (scaled s.k l.high) (place s) e f;
      across = inl (omega (arith, lin, e), omega (arith, lin, f));
      along = inl (h, j);
    })
  where
    f : s.k *ℤ l.high.x ≡ s.x
    f = ap (λ z. s.k *ℤ z) (sym u) ∙ e

-- two segments over one spot, at one height, the spot strictly inside one of them
module _ (ls : List Segment) (o : Planar ls) (l m : Segment) (i : l ∈ ls) (j : m ∈ ls) where
  module _ (s : Spot) (hl : Spans s l) (hm : Spans s m) (after : (s.k *ℤ l.low.x) <ℤ s.x) (before : s.x <ℤ (s.k *ℤ l.high.x)) (e : gap s l m ≡ pos 0) where
    -- the spot of l in the column of s
    abbrev at : Spot
    at = record { x = s.x *ℤ across l; y = tall l s; k = s.k *ℤ across l; fine = mul_pos s.k (across l) s.fine hl.wide }

    same_x : SameX s at
    same_x = ring (s.x ∷ s.k ∷ across l ∷ []) (var 0 ⊗ (var 1 ⊗ var 2)) (var 0 ⊗ var 2 ⊗ var 1) refl

    on_l : rest at l ≡ pos 0
    on_l =
        ring (l.low.x ∷ l.low.y ∷ l.high.x ∷ l.high.y ∷ s.x ∷ s.k ∷ [])
        (tall_e (var 0) (var 1) (var 2) (var 3) (var 4) (var 5) ⊗ (var 2 ⊖ var 0) ⊖ tall_e (var 0) (var 1) (var 2) (var 3) (var 4 ⊗ (var 2 ⊖ var 0)) (var 5 ⊗ (var 2 ⊖ var 0))) nought refl

    on_m : rest at m ≡ pos 0
    on_m =
        ring (l.low.x ∷ l.low.y ∷ l.high.x ∷ l.high.y ∷ m.low.x ∷ m.low.y ∷ m.high.x ∷ m.high.y ∷ s.x ∷ s.k ∷ [])
        (tall_e (var 0) (var 1) (var 2) (var 3) (var 8) (var 9) ⊗ (var 6 ⊖ var 4) ⊖ tall_e (var 4) (var 5) (var 6) (var 7) (var 8 ⊗ (var 2 ⊖ var 0)) (var 9 ⊗ (var 2 ⊖ var 0)))
        (gap_e (var 0) (var 1) (var 2) (var 3) (var 4) (var 5) (var 6) (var 7) (var 8) (var 9)) refl
        ∙ e

    not_end : (a : ℤ) → ¬ (s.k *ℤ a ≡ s.x) → ¬ ((s.x *ℤ across l) *ℤ pos 1 ≡ a *ℤ (s.k *ℤ across l))
    not_end a n q =
        n (cancel (across l) (s.k *ℤ a) s.x hl.wide (sym (ring_from (across l ∷ s.k ∷ a ∷ s.x ∷ []) (by unit (var 3 ⊗ var 0 ⊗ con (pos 1)) (var 2 ⊗ (var 1 ⊗ var 0)) ∷ []) (q, tt) (var 0 ⊗ var 3) (var 0 ⊗ (var 1 ⊗ var 2)) refl)))

    pub one_segment : l ≡ m
    one_segment = go (same_or_not l m)
      where
        no_end : ¬ EndOf l at
        no_end (inl h) = not_end l.low.x (λ q. omega (arith, lin)) h.0
        no_end (inr h) = not_end l.high.x (λ q. omega (arith, lin)) h.0

        go : (l ≡ m) ⊎ ¬ (l ≡ m) → l ≡ m
        go (inl h) = h
        go (inr n) =
            absurd (o.proper l m i j (record { different = n; at = at; on_one = on_span at l (spans_moved s at same_x l hl) on_l; on_other = on_span at m (spans_moved s at same_x m hm) on_m; no_common_end = λ h. no_end h.0 }))

-- of two segments over p and over q, the higher at p is not the lower at q
module _ (ls : List Segment) (o : Planar ls) (l m : Segment) (i : l ∈ ls) (j : m ∈ ls) (p q : Spot) (order : LeftOf p q) (pl : Spans p l) (pm : Spans p m) (ql : Spans q l) (qm : Spans q m) where
  abbrev coords : List ℤ
  coords = l.low.x ∷ l.low.y ∷ l.high.x ∷ l.high.y ∷ m.low.x ∷ m.low.y ∷ m.high.x ∷ m.high.y ∷ []

  abbrev gap_at : Ex → Ex
  gap_at x = gap_e (var 0) (var 1) (var 2) (var 3) (var 4) (var 5) (var 6) (var 7) x (con (pos 1))

  pub no_crossing : pos 0 <ℤ gap p l m → gap q l m <ℤ pos 0 → ⊥
  no_crossing hp hq =
      o.proper l m i j
      ((signs_tell l m (o.ordered l i) (o.ordered m j)).0
      (or_left (crossing l m) (inside l m.low || (inside l m.high || (inside m l.low || inside m l.high)))
      (through_in' (orientation m.low m.high l.low) (orientation m.low m.high l.high) (orientation l.low l.high m.low) (orientation l.low l.high m.high) low_over high_under low_under high_over)))
    where
      falls : lean l m <ℤ pos 0
      falls = cancel_neg (right_of q p) (lean l m) (omega (arith, lin)) (omega (arith, lin, gap_move p q l m, mul_neg p.k (gap q l m) p.fine hq, mul_pos q.k (gap p l m) q.fine hp))

      -- at each corner up to p, and from q on
      earlier : (k g g' w t : ℤ) → pos 0 <ℤ k → k *ℤ g' ≡ pos 1 *ℤ g +ℤ w *ℤ t → w ≤ℤ pos 0 → t <ℤ pos 0 → pos 0 <ℤ g → pos 0 <ℤ g'
      earlier k g g' w t hk e hw ht hg =
          cancel_pos k g' (omega (arith, lin)) (omega (arith, lin, mul_nonneg (neg_ℤ w) (neg_ℤ t) (omega (arith, lin)) (omega (arith, lin)), ring (w ∷ t ∷ []) (neg (var 0) ⊗ neg (var 1)) (var 0 ⊗ var 1) refl, one_mul g))

      later : (k g g' w t : ℤ) → pos 0 <ℤ k → k *ℤ g' ≡ pos 1 *ℤ g +ℤ w *ℤ t → pos 0 ≤ℤ w → t <ℤ pos 0 → g <ℤ pos 0 → g' <ℤ pos 0
      later k g g' w t hk e hw ht hg = cancel_neg k g' (omega (arith, lin)) (omega (arith, lin, mul_nonpos w t hw (omega (arith, lin)), one_mul g))

      upto_p : (v : Point) → (p.k *ℤ v.x) ≤ℤ p.x → pos 0 <ℤ gap (whole v) l m
      upto_p v h = earlier p.k (gap p l m) (gap (whole v) l m) (right_of (whole v) p) (lean l m) p.fine (gap_move p (whole v) l m) (omega (arith, lin, mul_comm v.x p.k, mul_one p.x)) falls hp

      from_q : (v : Point) → q.x ≤ℤ (q.k *ℤ v.x) → gap (whole v) l m <ℤ pos 0
      from_q v h = later q.k (gap q l m) (gap (whole v) l m) (right_of (whole v) q) (lean l m) q.fine (gap_move q (whole v) l m) (omega (arith, lin, mul_comm v.x q.k, mul_one q.x)) falls hq

      low_over : pos 0 <ℤ orientation m.low m.high l.low
      low_over = cancel_pos (across l) (orientation m.low m.high l.low) (omega (arith, lin, pl.wide)) (subst (λ z. pos 0 <ℤ z) (ring coords (gap_at (var 0)) ((var 2 ⊖ var 0) ⊗ turn_e 2 3 0) refl) (upto_p l.low pl.after_low))

      high_under : orientation m.low m.high l.high <ℤ pos 0
      high_under = cancel_neg (across l) (orientation m.low m.high l.high) (omega (arith, lin, pl.wide)) (subst (λ z. z <ℤ pos 0) (ring coords (gap_at (var 2)) ((var 2 ⊖ var 0) ⊗ turn_e 2 3 1) refl) (from_q l.high ql.before_high))

      low_under : orientation l.low l.high m.low <ℤ pos 0
      low_under = cancel_neg (across m) (orientation l.low l.high m.low) (omega (arith, lin, pm.wide)) (omega (arith, lin, upto_p m.low pm.after_low, ring coords (gap_at (var 4)) (neg ((var 6 ⊖ var 4) ⊗ turn_e 0 1 2)) refl))

      high_over : pos 0 <ℤ orientation l.low l.high m.high
      high_over = cancel_pos (across m) (orientation l.low l.high m.high) (omega (arith, lin, pm.wide)) (omega (arith, lin, from_q m.high qm.before_high, ring coords (gap_at (var 6)) (neg ((var 6 ⊖ var 4) ⊗ turn_e 0 1 3)) refl))

-- a leg from p, on or above the segment, to q, below it, neither beyond an end of it
shared_down : (a b p q : Point) → a.x <ℤ b.x → (a.x ≤ℤ p.x) × (p.x ≤ℤ b.x) → (a.x ≤ℤ q.x) × (q.x ≤ℤ b.x) → pos 0 ≤ℤ orientation a b p → orientation a b q <ℤ pos 0 → Shared a b p q
shared_down a b p q w hp hq over under =
    record {
      scale = m +ℤ n;
      at = mean m p n q;
      some_scale = some;
      on_segment = record { straight = level; across = inl across_by; along = along_by (mean m p n q) (scaled (m +ℤ n) a) (scaled (m +ℤ n) b) (mul_lt (m +ℤ n) a.x b.x some w) across_by.0 across_by.1 level };
      on_leg = hits_mean p q m n m_some over;
    }
  where
    m : ℤ
    m = neg_ℤ (orientation a b q)

    n : ℤ
    n = orientation a b p

    m_some : pos 0 ≤ℤ m
    m_some = omega (arith, lin, under)

    some : pos 0 <ℤ (m +ℤ n)
    some = omega (arith, lin, under, over)

    across_by : (((m +ℤ n) *ℤ a.x) ≤ℤ (m *ℤ p.x +ℤ n *ℤ q.x)) × ((m *ℤ p.x +ℤ n *ℤ q.x) ≤ℤ ((m +ℤ n) *ℤ b.x))
    across_by = (mean_le m n a.x p.x q.x m_some over hp.0 hq.0, mean_ge m n b.x p.x q.x m_some over hp.1 hq.1)

    level : orientation (scaled (m +ℤ n) a) (scaled (m +ℤ n) b) (mean m p n q) ≡ pos 0
    level =
        ring (a.x ∷ a.y ∷ b.x ∷ b.y ∷ p.x ∷ p.y ∷ q.x ∷ q.y ∷ [])
        (turn_x ((M ⊕ N) ⊗ x_e 0) ((M ⊕ N) ⊗ y_e 0) ((M ⊕ N) ⊗ x_e 1) ((M ⊕ N) ⊗ y_e 1) (M ⊗ x_e 2 ⊕ N ⊗ x_e 3) (M ⊗ y_e 2 ⊕ N ⊗ y_e 3)) nought refl
      where
        M : Ex
        M = neg (turn_e 0 1 3)

        N : Ex
        N = turn_e 0 1 2

module _ (p q : Spot) (l : Segment) (pl : Spans p l) (ql : Spans q l) (clear : ¬ Touches p q l) where
  abbrev K : ℤ
  K = both p q

  abbrev height_at : Point → ℤ
  height_at S = orientation (scaled K l.low) (scaled K l.high) S

  touched : pos 0 ≤ℤ rest p l → rest q l <ℤ pos 0 → Touches p q l
  touched h n =
      (touches_tell K (first p q) (second p q) p q (both_fine p q) (first_stands p q) (second_stands p q) l).0
      ((any_touch_test (scaled K l.low) (scaled K l.high) (first p q) (second p q)).1
      (shared_down (scaled K l.low) (scaled K l.high) (first p q) (second p q) (mul_lt K l.low.x l.high.x (both_fine p q) (omega (arith, lin, pl.wide)))
      (span_at K (first p q) p l (both_fine p q) (first_stands p q) pl) (span_at K (second p q) q l (both_fine p q) (second_stands p q) ql)
      (cancel_nonneg p.k (height_at (first p q)) p.fine (subst (λ z. pos 0 ≤ℤ z) (sym (rest_at K (first p q) p l (first_stands p q))) (mul_nonneg (K *ℤ K) (rest p l) (weak (K *ℤ K) square) h)))
      (cancel_neg q.k (height_at (second p q)) (weak q.k q.fine) (subst (λ z. z <ℤ pos 0) (sym (rest_at K (second p q) q l (second_stands p q))) (mul_neg (K *ℤ K) (rest q l) square n)))))
    where
      square : pos 0 <ℤ (K *ℤ K)
      square = mul_pos K K (both_fine p q) (both_fine p q)

      weak : (z : ℤ) → pos 0 <ℤ z → pos 0 ≤ℤ z
      weak z h = omega (arith, lin)

  pub stays_over : pos 0 ≤ℤ rest p l → pos 0 ≤ℤ rest q l
  stays_over h = not_less (rest q l) (pos 0) (λ n. clear (touched h n))

-- a segment below a spot that is not on it passes under the spot
pub below_passes : (z : Spot) (l : Segment) → ¬ OnSegment l z → is_below_right z l ≡ passes_under z l
below_passes z l off = same_from_decides (is_below_right z l) (passes_under z l) (right_tells z l) (λ e. to_below (parts (z.k *ℤ l.low.x) (z.k *ℤ l.high.x) z.x T e), to_under)
  where
    T : ℤ
    T = orientation (scaled z.k l.low) (scaled z.k l.high) (place z)

    T_is : z.k *ℤ T ≡ (z.k *ℤ z.k) *ℤ rest z l
    T_is = rest_at z.k (place z) z l refl

    square : pos 0 <ℤ (z.k *ℤ z.k)
    square = mul_pos z.k z.k z.fine z.fine

    whole_of : (ka kb x t : ℤ) → ka ≤ℤ x → x <ℤ kb → pos 0 <ℤ t → (le_z ka x && (lt_z x kb && lt_z (pos 0) t)) ≡ true
    whole_of ka kb x t p q r = grind (arith, lin)

    parts : (ka kb x t : ℤ) → (le_z ka x && (lt_z x kb && lt_z (pos 0) t)) ≡ true → (ka ≤ℤ x) × (x <ℤ kb) × (pos 0 <ℤ t)
    parts ka kb x t e = (grind (arith, lin), grind (arith, lin), grind (arith, lin))

    weak : (r : ℤ) → pos 0 <ℤ r → pos 0 ≤ℤ r
    weak r h = omega (arith, lin)

    strictly : (r : ℤ) → pos 0 ≤ℤ r → ¬ (r ≡ pos 0) → pos 0 <ℤ r
    strictly r h n = omega (arith, lin)

    to_under : BelowRight z l → passes_under z l ≡ true
    to_under f =
        whole_of (z.k *ℤ l.low.x) (z.k *ℤ l.high.x) z.x T f.spans.after_low f.strict
        (cancel_pos z.k T (weak z.k z.fine) (subst (λ t. pos 0 <ℤ t) (sym T_is) (mul_pos (z.k *ℤ z.k) (rest z l) square (strictly (rest z l) f.over (λ e. off (on_span z l f.spans e))))))

    to_below : ((z.k *ℤ l.low.x) ≤ℤ z.x) × (z.x <ℤ (z.k *ℤ l.high.x)) × (pos 0 <ℤ T) → BelowRight z l
    to_below h =
        record {
          spans = record { after_low = h.0; before_high = omega (arith, lin, h.1); wide = wide_by z.k l.low.x l.high.x z.fine (omega (arith, lin, h.0, h.1)) };
          strict = h.1;
          over = weak (rest z l) (cancel_pos (z.k *ℤ z.k) (rest z l) (weak (z.k *ℤ z.k) square) (subst (λ t. pos 0 <ℤ t) T_is (mul_pos z.k T z.fine h.2)));
        }
