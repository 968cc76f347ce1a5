-- Between two columns with no corner between them nothing changes, `between_columns`: the same segments are below, in the same order.
use Rattle.std.proofs.Common.{◌≡◌, true, List, [], ◌∷◌, ℤ, pos, ◌*ℤ◌, neg_ℤ, ◌≤ℤ◌, ◌<ℤ◌, sym, refl, subst, arith}
use Rattle.std.proofs.lemmas.Bool.Decides.{Decides-like, same_from_decides}
use Rattle.algebra.specs.Members.{◌∈◌}
use Rattle.algebra.specs.Polynomial.{var, ◌⊗◌}
use Rattle.algebra.proofs.Ring.{ring, mul_comm, mul_one}
use Rattle.algebra.proofs.Signs.{lin, mul_le, cancel_lt}
use Rattle.plane.specs.declared.point.Point.{Point}
use Rattle.plane.specs.declared.segment.Segment.{Segment}
use Rattle.plane.specs.Spots.{Spot, whole, right_of, LeftOf}
use Rattle.reading.specs.Reading.{Planar, Clear}
use Rattle.reading.proofs.Lists.{ends_in}
use Rattle.faces.specs.Heights.{higher_right, higher_left}
use Rattle.faces.specs.Below.{is_below_right, is_below_left}
use Rattle.faces.specs.Theorems.{FreeBetween, BetweenColumns}
use Rattle.faces.proofs.Best.{highest_alike}
use Rattle.faces.proofs.Leads.{not_less, leads_next, leads_before}
use Rattle.faces.proofs.Gaps.{gap, lean, gap_back, lean_back, Spans, BelowRight, BelowLeft, right_tells, left_tells, higher_right_tells, higher_left_tells}
use Rattle.faces.proofs.Moves.{gap_move}
use Rattle.faces.proofs.Touching.{no_crossing, stays_over}
use Rattle.faces.proofs.Legs.{clear_back}

-- low ≤ p < q, and p < q ≤ high
on_to : (pk qk a px qx : ℤ) → pos 0 <ℤ pk → pos 0 <ℤ qk → (px *ℤ qk) <ℤ (qx *ℤ pk) → (pk *ℤ a) ≤ℤ px → (qk *ℤ a) <ℤ qx
on_to pk qk a px qx hp hq h j =
    cancel_lt pk (qk *ℤ a) qx (omega (arith, lin)) (omega (arith, lin, h, mul_le qk (pk *ℤ a) px (omega (arith, lin)) j, ring (pk ∷ qk ∷ a ∷ []) (var 1 ⊗ (var 0 ⊗ var 2)) (var 0 ⊗ (var 1 ⊗ var 2)) refl, mul_comm px qk, mul_comm qx pk))

back_to : (pk qk b px qx : ℤ) → pos 0 <ℤ pk → pos 0 <ℤ qk → (px *ℤ qk) <ℤ (qx *ℤ pk) → qx ≤ℤ (qk *ℤ b) → px <ℤ (pk *ℤ b)
back_to pk qk b px qx hp hq h j =
    cancel_lt qk px (pk *ℤ b) (omega (arith, lin)) (omega (arith, lin, h, mul_le pk qx (qk *ℤ b) (omega (arith, lin)) j, ring (pk ∷ qk ∷ b ∷ []) (var 0 ⊗ (var 1 ⊗ var 2)) (var 1 ⊗ (var 0 ⊗ var 2)) refl, mul_comm px qk, mul_comm qx pk))

weak : (u v : ℤ) → u <ℤ v → u ≤ℤ v
weak u v h = omega (arith, lin)

module _ (ls : List Segment) (o : Planar ls) (p q : Spot) (before : LeftOf p q) (clear : Clear ls p q) (free : FreeBetween ls p q) where
  -- where a corner is, by the numbers of p and q
  not_between : (v : Point) → p.x <ℤ (p.k *ℤ v.x) → (q.k *ℤ v.x) <ℤ q.x → LeftOf p (whole v) × LeftOf (whole v) q
  not_between v h j = (omega (arith, lin, mul_one p.x, mul_comm v.x p.k), omega (arith, lin, mul_one q.x, mul_comm v.x q.k))

  low_before : (l : Segment) → Spans p l → (q.k *ℤ l.low.x) <ℤ q.x
  low_before l h = on_to p.k q.k l.low.x p.x q.x p.fine q.fine before h.after_low

  high_after : (l : Segment) → Spans q l → p.x <ℤ (p.k *ℤ l.high.x)
  high_after l h = back_to p.k q.k l.high.x p.x q.x p.fine q.fine before h.before_high

  to_q : (l : Segment) → l ∈ ls → BelowRight p l → Spans q l
  to_q l i f =
      record {
        after_low = weak (q.k *ℤ l.low.x) q.x (low_before l f.spans);
        before_high = not_less (q.k *ℤ l.high.x) q.x (λ n. free l.high (ends_in ls l i).1 (not_between l.high f.strict n));
        wide = f.spans.wide;
      }

  to_p : (l : Segment) → l ∈ ls → BelowLeft q l → Spans p l
  to_p l i f =
      record {
        after_low = not_less p.x (p.k *ℤ l.low.x) (λ n. free l.low (ends_in ls l i).0 (not_between l.low n f.strict));
        before_high = weak p.x (p.k *ℤ l.high.x) (high_after l f.spans);
        wide = f.spans.wide;
      }

  forth : (l : Segment) → l ∈ ls → BelowRight p l → BelowLeft q l
  forth l i f = record { spans = to_q l i f; strict = low_before l f.spans; over = stays_over p q l f.spans (to_q l i f) (clear l i) f.over }

  back : (l : Segment) → l ∈ ls → BelowLeft q l → BelowRight p l
  back l i f = record { spans = to_p l i f; strict = high_after l f.spans; over = stays_over q p l f.spans (to_p l i f) (clear_back ls p q clear l i) f.over }

  same_below : (l : Segment) → l ∈ ls → is_below_right p l ≡ is_below_left q l
  same_below l i = same_from_decides (is_below_right p l) (is_below_left q l) (right_tells p l) (Decides-like (is_below_left q l) (back l i) (forth l i) (left_tells q l))

  same_order : (l m : Segment) → l ∈ ls → m ∈ ls → is_below_right p l ≡ true → is_below_right p m ≡ true → higher_right p l m ≡ higher_left q l m
  same_order l m i j e f =
      same_from_decides (higher_right p l m) (higher_left q l m) (higher_right_tells p l m)
      (Decides-like (higher_left q l m)
      (leads_before p.k q.k (right_of q p) (gap p l m) (gap q l m) (lean l m) (lean m l) p.fine q.fine apart_by (gap_move p q l m) (lean_back l m) falling rising)
      (leads_next p.k q.k (right_of q p) (gap p l m) (gap q l m) (lean l m) (lean m l) p.fine q.fine apart_by (gap_move p q l m) (lean_back l m) falling rising)
      (higher_left_tells q l m))
    where
      bl : BelowRight p l
      bl = (right_tells p l).0 e

      bm : BelowRight p m
      bm = (right_tells p m).0 f

      apart_by : pos 0 <ℤ right_of q p
      apart_by = omega (arith, lin, before)

      falling : ¬ ((pos 0 <ℤ gap p l m) × (gap q l m <ℤ pos 0))
      falling h = no_crossing ls o l m i j p q before bl.spans bm.spans (to_q l i bl) (to_q m j bm) h.0 h.1

      turned_up : (g : ℤ) → g <ℤ pos 0 → pos 0 <ℤ neg_ℤ g
      turned_up g h = omega (arith, lin)

      turned_down : (g : ℤ) → pos 0 <ℤ g → neg_ℤ g <ℤ pos 0
      turned_down g h = omega (arith, lin)

      rising : ¬ ((gap p l m <ℤ pos 0) × (pos 0 <ℤ gap q l m))
      rising h =
          no_crossing ls o m l j i p q before bm.spans bl.spans (to_q m j bm) (to_q l i bl)
          (subst (λ z. pos 0 <ℤ z) (sym (gap_back p l m)) (turned_up (gap p l m) h.0)) (subst (λ z. z <ℤ pos 0) (sym (gap_back q l m)) (turned_down (gap q l m) h.1))

pub between_columns : BetweenColumns
between_columns ls o p q before clear free =
    highest_alike (is_below_right p) (is_below_left q) (higher_right p) (higher_left q) ls (same_below ls o p q before clear free) (same_order ls o p q before clear free)
