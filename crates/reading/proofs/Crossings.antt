-- Along a leg any reading changes as often as the leg crosses a line: `count_all`, and so `crossings_count`.
use Rattle.std.proofs.Common.{◌≡◌, Bool, true, false, not, ◌⊎◌, List, [], ◌∷◌, ℤ, pos, ◌*ℤ◌, ◌<ℤ◌, sym, refl, ap, ◌∙◌, subst, inl, inr, arith}
use Rattle.algebra.specs.Members.{◌∈◌, here, there, Once}
use Rattle.algebra.specs.Parity.{differ, odd, times, odd_times}
use Rattle.algebra.proofs.Signs.{mul_pos}
use Rattle.algebra.proofs.Members.{out, none, apart, Case, holds, fails, case}
use Rattle.algebra.proofs.Parity.{differ_self, differ_false, odd_same, odd_differ, odd_counts}
use Rattle.plane.specs.declared.point.Point.{Point}
use Rattle.plane.specs.declared.segment.Segment.{Segment}
use Rattle.plane.specs.Points.{scaled}
use Rattle.plane.specs.Spots.{Spot, Touches}
use Rattle.plane.proofs.Bridge.{Stands, crosses_at, Fair, spot, touches_tell, crosses_tell}
use Rattle.reading.specs.Reading.{Planar, Reading}
use Rattle.reading.specs.Theorems.{CrossingsCount}
use Rattle.reading.proofs.Scales.{both, first, second, both_fine, first_stands, second_stands, finer, met_fair, met_crosses}
use Rattle.reading.proofs.Cutting.{CutAt, cut}

-- the sum over some of the lines, all that the leg crosses among them
abbrev Counted : List Segment → (Spot → Bool) → List Segment → Type 0
Counted ls says ms =
    (k : ℤ) (p q : Point) (s t : Spot) →
    pos 0 <ℤ k →
    Stands s k p →
    Stands t k q →
    Fair ls k p q →
    ((l : Segment) → l ∈ ls → crosses_at k p q l ≡ true → l ∈ ms) →
    differ (says s) (says t) ≡ odd_times (crosses_at k p q) ms

module _ (ls : List Segment) (o : Planar ls) (says : Spot → Bool) (r : Reading ls says) where
  count_none : Counted ls says []
  count_none k p q s t hk hs ht fair only =
      ap (λ b. differ b (says t)) (r.alike s t clear) ∙ differ_self (says t)
    where
      crossed : (l : Segment) → l ∈ ls → Case (crosses_at k p q l) → crosses_at k p q l ≡ false
      crossed l i (holds e) = absurd (none l (only l i e))
      crossed l i (fails e) = e

      clear : (l : Segment) → l ∈ ls → ¬ Touches s t l
      clear l i h = apart ((touches_tell k p q s t hk hs ht l).1 h) (fair l i ∙ crossed l i (case (crosses_at k p q l)))

  count_more : (m : Segment) (ms : List Segment) → m ∈ ls → ((l : Segment) → l ∈ ms → l ∈ ls) → ¬ (m ∈ ms) → Counted ls says ms → Counted ls says (m ∷ ms)
  count_more m ms i sub new rest k p q s t hk hs ht fair only = go (case (crosses_at k p q m))
    where
      later : (l : Segment) → l ∈ ls → ¬ (l ≡ m) × (crosses_at k p q l ≡ true) → l ∈ ms
      later l j h = pick (out l m ms (only l j h.1))
        where
          pick : (l ≡ m) ⊎ (l ∈ ms) → l ∈ ms
          pick (inl d) = absurd (h.0 d)
          pick (inr r) = r

      joined : (a b c d x y : Bool) → differ a b ≡ x → b ≡ not c → differ c d ≡ y → differ a d ≡ differ true (differ x y)
      joined a b c d x y e f g = grind arith

      go : Case (crosses_at k p q m) → differ (says s) (says t) ≡ differ (crosses_at k p q m) (odd_times (crosses_at k p q) ms)
      go (fails e) =
          rest k p q s t hk hs ht fair (λ l j h. later l j (λ d. apart (ap (crosses_at k p q) (sym d) ∙ h) e, h)) ∙ sym (ap (λ b. differ b (odd_times (crosses_at k p q) ms)) e)
      go (holds e) =
          let c : CutAt ls m k p q = cut ls o k p q hk fair m i e in
          let n = c.factor in
          let hn : pos 0 <ℤ (k *ℤ n) = mul_pos k n hk c.some in
          let u = spot c.short (k *ℤ n) hn in
          let v = spot c.beyond (k *ℤ n) hn in
          let f = crosses_at (k *ℤ n) (scaled n p) c.short in
          let g = crosses_at (k *ℤ n) c.beyond (scaled n q) in
          let first : differ (says s) (says u) ≡ odd_times f ms = rest (k *ℤ n) (scaled n p) c.short s u hn (finer k n p s hs) refl c.fair_first (λ l j h. later l j (c.first_in l j h)) in
          let last : differ (says v) (says t) ≡ odd_times g ms = rest (k *ℤ n) c.beyond (scaled n q) v t hn refl (finer k n q t ht) c.fair_last (λ l j h. later l j (c.last_in l j h)) in
          let mid : says u ≡ not (says v) = r.changes u v m i ((crosses_tell (k *ℤ n) c.short c.beyond u v hn refl refl m).0 c.crossed) (λ l j d h. apart ((touches_tell (k *ℤ n) c.short c.beyond u v hn refl refl l).1 h) (c.clear l j d)) in
          joined (says s) (says u) (says v) (says t) (odd_times f ms) (odd_times g ms) first mid last
          ∙ ap (differ true) (sym (odd_same (crosses_at k p q) (λ l. differ (f l) (g l)) ms (λ l j. c.one l (sub l j) (λ d. new (subst (λ z. z ∈ ms) d j))) ∙ odd_differ f g ms))
          ∙ sym (ap (λ b. differ b (odd_times (crosses_at k p q) ms)) e)

  count_some : (ms : List Segment) → Once ms → ((l : Segment) → l ∈ ms → l ∈ ls) → Counted ls says ms
  count_some [] n sub = count_none
  count_some (m ∷ ms) n sub = count_more m ms (sub m here) (λ l i. sub l (there i)) n.0 (count_some ms n.1 (λ l i. sub l (there i)))

  pub count_all : (k : ℤ) (p q : Point) (s t : Spot) → pos 0 <ℤ k → Stands s k p → Stands t k q → Fair ls k p q → differ (says s) (says t) ≡ odd_times (crosses_at k p q) ls
  count_all k p q s t hk hs ht fair = count_some ls o.once (λ l i. i) k p q s t hk hs ht fair (λ l i e. i)

pub crossings_count : CrossingsCount
crossings_count ls o says r s t meets met =
    (λ e. sym counted ∙ (ap (λ b. differ b (says t)) e ∙ differ_self (says t)), λ e. differ_false (says s) (says t) (counted ∙ e))
  where
    k : ℤ
    k = both s t

    p : Point
    p = first s t

    q : Point
    q = second s t

    counted : differ (says s) (says t) ≡ odd (times meets ls)
    counted =
        count_all ls o says r k p q s t (both_fine s t) (first_stands s t) (second_stands s t) (met_fair k p q s t (both_fine s t) (first_stands s t) (second_stands s t) ls meets met)
        ∙ sym (odd_same meets (crosses_at k p q) ls (met_crosses k p q s t (both_fine s t) (first_stands s t) (second_stands s t) ls meets met))
        ∙ odd_counts Segment meets ls
