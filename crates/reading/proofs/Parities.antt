-- The leg lemma summed over all lines (`parity_sum`); so the parity is a reading of closed lines, `parity_reads`.
use Rattle.std.proofs.Common.{◌≡◌, Bool, true, false, not, ◌&&◌, ◌⊎◌, List, [], ◌∷◌, ℤ, pos, ◌*ℤ◌, ◌<ℤ◌, Decides, sym, refl, ap, ◌∙◌, subst, ap₂, inl, inr, arith}
use mathlib.Core.Path.{fun_ext}
use lib.Signed.{lt_z, le_z}
use Rattle.algebra.specs.Members.{◌∈◌, here, there}
use Rattle.algebra.specs.Parity.{differ, odd_times}
use Rattle.algebra.proofs.Ring.{mul_comm, mul_one}
use Rattle.algebra.proofs.Signs.{lin}
use Rattle.algebra.proofs.Parity.{pairs, differ_false, odd_same, odd_none, odd_counts, even_counts}
use Rattle.plane.specs.declared.point.Point.{Point}
use Rattle.plane.specs.declared.segment.Segment.{Segment}
use Rattle.plane.specs.Points.{same_point, orientation, scaled}
use Rattle.plane.specs.Spots.{Spot, whole, LeftOf, Touches, Crosses}
use Rattle.plane.specs.PointLaws.{Before, before_of, same_point_is, same_point_holds}
use Rattle.plane.proofs.Standing.{before_scaled}
use Rattle.plane.proofs.Bridge.{place, Stands, touches_at, crosses_at, Fair, scaled_twice, crosses_tell, cross_touch}
use Rattle.reading.specs.Reading.{Planar, Clear, Reading}
use Rattle.reading.specs.Counting.{ends, ClosedLines, passes_under, leg_over, Met}
use Rattle.reading.specs.Theorems.{LegTells, ParitySums, ParityReads}
use Rattle.reading.proofs.Lists.{lower_first, same_or_not, odd_one}
use Rattle.reading.proofs.Scales.{both, first, second, both_fine, first_stands, second_stands, not_crossed, met_fair, met_crosses}
use Rattle.reading.proofs.Leg.{under, over_at, leg_sides, under_scaled}

-- that a line passes under s, at another fineness
under_at : (k : ℤ) (p : Point) (s : Spot) → pos 0 <ℤ k → Stands s k p → (l : Segment) → under (scaled k l.low) (scaled k l.high) p ≡ passes_under s l
under_at k p s hk hs l =
    sym (under_scaled s.k s.fine (scaled k l.low) (scaled k l.high) p)
    ∙ ap₂ (λ a b. under a b (scaled s.k p)) (exchanged s.k k l.low) (exchanged s.k k l.high)
    ∙ ap (under (scaled k (scaled s.k l.low)) (scaled k (scaled s.k l.high))) hs
    ∙ under_scaled k hk (scaled s.k l.low) (scaled s.k l.high) (place s)
  where
    exchanged : (c d : ℤ) (v : Point) → scaled c (scaled d v) ≡ scaled d (scaled c v)
    exchanged c d v = scaled_twice c d v ∙ ap (λ e. scaled e v) (mul_comm c d) ∙ sym (scaled_twice d c v)

-- the leg from s = p / k to t = q / k
module _ (k : ℤ) (p q : Point) (s t : Spot) (hk : pos 0 <ℤ k) (hs : Stands s k p) (ht : Stands t k q) where
  line_sum : (l : Segment) → Before l.low l.high → touches_at k p q l ≡ crosses_at k p q l → differ (passes_under s l) (passes_under t l) ≡ differ (crosses_at k p q l) (differ (over_at k p q l.low) (over_at k p q l.high))
  line_sum l o e = sym (ap₂ differ (under_at k p s hk hs l) (under_at k q t hk ht l)) ∙ leg_sides (scaled k l.low) (scaled k l.high) p q (before_scaled k l.low l.high hk o) e

  pub parity_sum : (ls : List Segment) → ((l : Segment) → l ∈ ls → Before l.low l.high) → Fair ls k p q → differ (odd_times (passes_under s) ls) (odd_times (passes_under t) ls) ≡ differ (odd_times (crosses_at k p q) ls) (odd_times (over_at k p q) (ends ls))
  parity_sum [] o h = refl
  parity_sum (l ∷ ls) o h =
      pairs (passes_under s l) (odd_times (passes_under s) ls) (passes_under t l) (odd_times (passes_under t) ls)
      ∙ ap₂ differ (line_sum l (o l here) (h l here)) (parity_sum ls (λ m i. o m (there i)) (λ m i. h m (there i)))
      ∙ sorted (crosses_at k p q l) (over_at k p q l.low) (over_at k p q l.high) (odd_times (crosses_at k p q) ls) (odd_times (over_at k p q) (ends ls))
    where
      sorted : (c a b d e : Bool) → differ (differ c (differ a b)) (differ d e) ≡ differ (differ c d) (differ a (differ b e))
      sorted c a b d e = grind arith

-- the same of the spots themselves: one line, and all lines
pub leg_tells : LegTells
leg_tells s t l o = record {
  apart = λ n. sum (not_touched_fair n) ∙ ap (λ c. differ c sides) (none n);
  crossed = λ c. sum (met_one c) ∙ ap (λ x. differ x sides) (all c);
}
  where
    sides : Bool
    sides = differ (leg_over s t l.low) (leg_over s t l.high)

    sum : touches_at (both s t) (first s t) (second s t) l ≡ crosses_at (both s t) (first s t) (second s t) l → differ (passes_under s l) (passes_under t l) ≡ differ (crosses_at (both s t) (first s t) (second s t) l) (differ (leg_over s t l.low) (leg_over s t l.high))
    sum e = line_sum (both s t) (first s t) (second s t) s t (both_fine s t) (first_stands s t) (second_stands s t) l (before_of l.low l.high o) e

    none : ¬ Touches s t l → crosses_at (both s t) (first s t) (second s t) l ≡ false
    none n = not_crossed (both s t) (first s t) (second s t) s t (both_fine s t) (first_stands s t) (second_stands s t) l n

    all : Crosses s t l → crosses_at (both s t) (first s t) (second s t) l ≡ true
    all c = (crosses_tell (both s t) (first s t) (second s t) s t (both_fine s t) (first_stands s t) (second_stands s t) l).1 c

    not_touched_fair : ¬ Touches s t l → touches_at (both s t) (first s t) (second s t) l ≡ crosses_at (both s t) (first s t) (second s t) l
    not_touched_fair n = met_fair (both s t) (first s t) (second s t) s t (both_fine s t) (first_stands s t) (second_stands s t) (l ∷ []) (λ m. false) (λ m i. inr (refl, subst (λ x. ¬ Touches s t x) (only i) n)) l here
      where
        only : {m : Segment} → m ∈ (l ∷ []) → l ≡ m
        only here = refl
        only (there i) = absurd (none_of i)
          where
            none_of : {m : Segment} → m ∈ [] → ⊥
            none_of z = elim z [ ]

    met_one : Crosses s t l → touches_at (both s t) (first s t) (second s t) l ≡ crosses_at (both s t) (first s t) (second s t) l
    met_one c = cross_touch (scaled (both s t) l.low) (scaled (both s t) l.high) (first s t) (second s t) (all c) ∙ sym (all c)

pub parity_sums : ParitySums
parity_sums ls o s t meets met =
    sym (ap₂ differ (odd_counts Segment (passes_under s) ls) (odd_counts Segment (passes_under t) ls))
    ∙ parity_sum (both s t) (first s t) (second s t) s t (both_fine s t) (first_stands s t) (second_stands s t) ls (lower_first ls o) (met_fair (both s t) (first s t) (second s t) s t (both_fine s t) (first_stands s t) (second_stands s t) ls meets met)
    ∙ ap₂ differ (sym (odd_same meets (crosses_at (both s t) (first s t) (second s t)) ls (met_crosses (both s t) (first s t) (second s t) s t (both_fine s t) (first_stands s t) (second_stands s t) ls meets met)) ∙ odd_counts Segment meets ls) (odd_counts Point (leg_over s t) (ends ls))

-- left of all lines none passes under
pub left_of_all : (ls : List Segment) (s : Spot) → ((l : Segment) → l ∈ ls → LeftOf s (whole l.low) × LeftOf s (whole l.high)) → odd_times (passes_under s) ls ≡ false
left_of_all ls s h = odd_none (passes_under s) ls (λ l i. left s.x s.k l.low.x l.high.x (lt_z (pos 0) (orientation (scaled s.k l.low) (scaled s.k l.high) (place s))) (h l i).0)
  where
    left_by : (x a b : ℤ) (t : Bool) → x <ℤ a → (le_z a x && (lt_z x b && t)) ≡ false
    left_by x a b t h = grind (arith, lin)

    left : (x k a b : ℤ) (t : Bool) → (x *ℤ pos 1) <ℤ (a *ℤ k) → (le_z (k *ℤ a) x && (lt_z x (k *ℤ b) && t)) ≡ false
    left x k a b t h = left_by x (k *ℤ a) (k *ℤ b) t (omega (arith, lin, mul_one x, mul_comm a k))

-- on closed lines every test holds of an even number of ends
pub even_ends : (ls : List Segment) → ClosedLines ls → (f : Point → Bool) → odd_times f (ends ls) ≡ false
even_ends ls closed f = even_counts Point (λ v w. same_point w v) tells (ends ls) (λ v. odd_counts Point (λ w. same_point w v) (ends ls) ∙ closed v) f
  where
    tells : (v w : Point) → Decides (same_point w v) (v ≡ w)
    tells v w = (λ e. sym (same_point_is w v e), λ e. same_point_holds w v (sym e))

module _ (ls : List Segment) (o : Planar ls) (closed : ClosedLines ls) where
  parity_counts : (s t : Spot) (meets : Segment → Bool) → Met ls s t meets → differ (odd_times (passes_under s) ls) (odd_times (passes_under t) ls) ≡ odd_times meets ls
  parity_counts s t meets met =
      parity_sum k p q s t hk hs ht ls (lower_first ls o) (met_fair k p q s t hk hs ht ls meets met)
      ∙ ap (differ (odd_times (crosses_at k p q) ls)) (even_ends ls closed (over_at k p q))
      ∙ no_more (odd_times (crosses_at k p q) ls)
      ∙ sym (odd_same meets (crosses_at k p q) ls (met_crosses k p q s t hk hs ht ls meets met))
    where
      k : ℤ
      k = both s t

      p : Point
      p = first s t

      q : Point
      q = second s t

      hk : pos 0 <ℤ k
      hk = both_fine s t

      hs : Stands s k p
      hs = first_stands s t

      ht : Stands t k q
      ht = second_stands s t

      no_more : (b : Bool) → differ b false ≡ b
      no_more b = grind arith

  alike : (s t : Spot) → Clear ls s t → odd_times (passes_under s) ls ≡ odd_times (passes_under t) ls
  alike s t h =
      differ_false (odd_times (passes_under s) ls) (odd_times (passes_under t) ls) (parity_counts s t (λ l. false) (λ l i. inr (refl, h l i)) ∙ odd_none (λ l. false) ls (λ l i. refl))

  changes : (s t : Spot) (l : Segment) → l ∈ ls → Crosses s t l → ((m : Segment) → m ∈ ls → ¬ (m ≡ l) → ¬ Touches s t m) → odd_times (passes_under s) ls ≡ not (odd_times (passes_under t) ls)
  changes s t l i c h =
      turned (odd_times (passes_under s) ls) (odd_times (passes_under t) ls)
      (parity_counts s t f (λ m j. told m j (same_or_not m l)) ∙ odd_one f ls l o.once i (on c) (λ m j n. off (h m j n)))
    where
      f : Segment → Bool
      f = crosses_at (both s t) (first s t) (second s t)

      on : {m : Segment} → Crosses s t m → f m ≡ true
      on {m} x = (crosses_tell (both s t) (first s t) (second s t) s t (both_fine s t) (first_stands s t) (second_stands s t) m).1 x

      off : {m : Segment} → ¬ Touches s t m → f m ≡ false
      off {m} n = not_crossed (both s t) (first s t) (second s t) s t (both_fine s t) (first_stands s t) (second_stands s t) m n

      told : (m : Segment) → m ∈ ls → (m ≡ l) ⊎ ¬ (m ≡ l) → ((f m ≡ true) × Crosses s t m) ⊎ ((f m ≡ false) × ¬ Touches s t m)
      told m j (inl e) = let x = subst (Crosses s t) (sym e) c in inl (on x, x)
      told m j (inr n) = inr (off (h m j n), h m j n)

      turned : (a b : Bool) → differ a b ≡ true → a ≡ not b
      turned a b h = grind arith

pub parity_reads : ParityReads
parity_reads ls o closed =
    subst (Reading ls) (fun_ext (λ s. odd_counts Segment (passes_under s) ls))
    (record { outside = left_of_all ls; alike = alike ls o closed; changes = changes ls o closed })
