-- The numbers of segments below a spot on its right and on its left, modulo 2: they differ by the vertical lines through the spot (`below_parity`), and the first is the parity (`below_tells`).
use Rattle.std.proofs.Common.{◌≡◌, suc, Bool, true, false, cond, not, ◌&&◌, ◌⊎◌, List, [], ◌∷◌, length, ℤ, pos, ◌-ℤ◌, ◌*ℤ◌, ◌≤ℤ◌, ◌<ℤ◌, Decides, filter, sym, refl, ap, ◌∙◌, ap₂, inl, inr, arith}
use lib.Signed.{lt_z, le_z}
use Rattle.algebra.specs.Members.{◌∈◌, here, there}
use Rattle.algebra.specs.Parity.{differ, odd, times, odd_times}
use Rattle.algebra.specs.Polynomial.{var, neg, ◌⊖◌, ◌⊗◌, by}
use Rattle.algebra.proofs.Ring.{ring_from, mul_comm}
use Rattle.algebra.proofs.Signs.{lin, order, mul_pos, mul_lt}
use Rattle.algebra.proofs.Parity.{pairs, odd_same, odd_none, odd_counts}
use Rattle.plane.specs.declared.point.Point.{Point}
use Rattle.plane.specs.declared.segment.Segment.{Segment}
use Rattle.plane.specs.Points.{eq_int}
use Rattle.plane.specs.Spots.{Spot}
use Rattle.plane.specs.PointLaws.{Before}
use Rattle.plane.proofs.Any.{scale_le}
use Rattle.reading.specs.Reading.{Planar, Off}
use Rattle.reading.specs.Counting.{ends, ClosedLines, passes_under}
use Rattle.reading.proofs.Lists.{lower_first}
use Rattle.reading.proofs.Parities.{even_ends}
use Rattle.faces.specs.Heights.{vertical, across}
use Rattle.faces.specs.Below.{is_below_right, is_below_left, odd_below_right}
use Rattle.faces.specs.Theorems.{BelowTells}
use Rattle.faces.proofs.Best.{refuted}
use Rattle.faces.proofs.Gaps.{tall, rest, rest_low, rest_high, odd_below_left}
use Rattle.faces.proofs.Touching.{on_vertical, below_passes}

-- as many are kept as pass the test
times_kept : {A : Type 0} (f : A → Bool) (zs : List A) → times f zs ≡ length (filter f zs)
times_kept f [] = refl
times_kept f (a ∷ zs) = by (f a) (times_kept f zs)
  where
    by : (t : Bool) → times f zs ≡ length (filter f zs) → cond t (suc (times f zs)) (times f zs) ≡ length (cond t (a ∷ filter f zs) (filter f zs))
    by true h = ap suc h
    by false h = h

odd_kept : {A : Type 0} (f : A → Bool) (zs : List A) → odd_times f zs ≡ odd (length (filter f zs))
odd_kept {A} f zs = odd_counts A f zs ∙ ap odd (times_kept f zs)

-- v stands straight below the spot, or at it
abbrev pub straight_below : Spot → Point → Bool
straight_below s v = eq_int (s.k *ℤ v.x) s.x && le_z (s.k *ℤ v.y) s.y

pub record StraightBelow (s : Spot) (v : Point) : Type 0 where
  pub in_x : s.k *ℤ v.x ≡ s.x
  pub in_y : (s.k *ℤ v.y) ≤ℤ s.y

pub straight_tells : (s : Spot) (v : Point) → Decides (straight_below s v) (StraightBelow s v)
straight_tells s v = (λ e. let h = parts (s.k *ℤ v.x) s.x (s.k *ℤ v.y) s.y e in record { in_x = h.0; in_y = h.1 }, λ h. whole_of (s.k *ℤ v.x) s.x (s.k *ℤ v.y) s.y h.in_x h.in_y)
  where
    parts : (a x b y : ℤ) → (eq_int a x && le_z b y) ≡ true → (a ≡ x) × (b ≤ℤ y)
    parts a x b y e = (grind (arith, lin), grind (arith, lin))

    whole_of : (a x b y : ℤ) → a ≡ x → b ≤ℤ y → (eq_int a x && le_z b y) ≡ true
    whole_of a x b y p q = grind (arith, lin)

-- a vertical line through the spot, or rising from it
abbrev pub through : Spot → Segment → Bool
through s l = vertical l && (eq_int (s.k *ℤ l.low.x) s.x && (le_z (s.k *ℤ l.low.y) s.y && lt_z s.y (s.k *ℤ l.high.y)))

pub record Through (s : Spot) (l : Segment) : Type 0 where
  pub upright : l.low.x ≡ l.high.x
  pub in_x : s.k *ℤ l.low.x ≡ s.x
  pub from_low : (s.k *ℤ l.low.y) ≤ℤ s.y
  pub to_high : s.y <ℤ (s.k *ℤ l.high.y)

pub through_tells : (s : Spot) (l : Segment) → Decides (through s l) (Through s l)
through_tells s l = (
  λ e. let h = parts l.low.x l.high.x (s.k *ℤ l.low.x) s.x (s.k *ℤ l.low.y) (s.k *ℤ l.high.y) s.y e in record { upright = h.0; in_x = h.1; from_low = h.2; to_high = h.3 },
  λ h. whole_of l.low.x l.high.x (s.k *ℤ l.low.x) s.x (s.k *ℤ l.low.y) (s.k *ℤ l.high.y) s.y h.upright h.in_x h.from_low h.to_high,
)
  where
    parts : (a b ka x ya yb y : ℤ) → (eq_int a b && (eq_int ka x && (le_z ya y && lt_z y yb))) ≡ true → (a ≡ b) × (ka ≡ x) × (ya ≤ℤ y) × (y <ℤ yb)
    parts a b ka x ya yb y e = (grind (arith, lin), grind (arith, lin), grind (arith, lin), grind (arith, lin))

    whole_of : (a b ka x ya yb y : ℤ) → a ≡ b → ka ≡ x → ya ≤ℤ y → y <ℤ yb → (eq_int a b && (eq_int ka x && (le_z ya y && lt_z y yb))) ≡ true
    whole_of a b ka x ya yb y p q r t = grind (arith, lin)

-- one segment: it is below on one side only where it is through the spot, or just one of its ends is straight below the spot
module _ (s : Spot) (l : Segment) where
  abbrev T : ℤ
  T = tall l s *ℤ s.k

  abbrev Y : ℤ
  Y = s.y *ℤ (s.k *ℤ across l)

  -- where the spot is in the column of an end, at the height h
  at_height : (h : ℤ) → pos 0 <ℤ across l → rest s l ≡ across l *ℤ (s.y -ℤ h) → le_z T Y ≡ le_z h s.y
  at_height h w e = ap₂ le_z (tall_is (tall l s) s.k s.y (across l) h e) (mul_comm s.y (s.k *ℤ across l)) ∙ scale_le (s.k *ℤ across l) h s.y (mul_pos s.k (across l) s.fine w)
    where
      tall_is : (n k y d h : ℤ) → y *ℤ d -ℤ n ≡ d *ℤ (y -ℤ h) → n *ℤ k ≡ (k *ℤ d) *ℤ h
      tall_is n k y d h e =
          ring_from (n ∷ k ∷ y ∷ d ∷ h ∷ []) (by (neg (var 1)) (var 2 ⊗ var 3 ⊖ var 0) (var 3 ⊗ (var 2 ⊖ var 4)) ∷ []) (e, tt) (var 0 ⊗ var 1) (var 1 ⊗ var 3 ⊗ var 4) refl

  -- f says whether the spot is on or above the segment
  abbrev Balanced : (a b ka kb x ya yb y : ℤ) → Bool → Type 0
  Balanced a b ka kb x ya yb y f =
      differ (not (eq_int a b) && (le_z ka x && (lt_z x kb && f))) (not (eq_int a b) && (lt_z ka x && (le_z x kb && f)))
      ≡ differ (eq_int a b && (eq_int ka x && (le_z ya y && lt_z y yb))) (differ (eq_int ka x && le_z ya y) (eq_int kb x && le_z yb y))

  slanted : (a b ka kb x ya yb y : ℤ) (f : Bool) → a <ℤ b → ka <ℤ kb → (ka ≡ x → f ≡ le_z ya y) → (kb ≡ x → f ≡ le_z yb y) → (ka <ℤ x) ⊎ ((ka ≡ x) ⊎ (x <ℤ ka)) → (kb <ℤ x) ⊎ ((kb ≡ x) ⊎ (x <ℤ kb)) → Balanced a b ka kb x ya yb y f
  slanted a b ka kb x ya yb y f h j p q (inl u) (inl v) = right_of_it a b ka kb x ya yb y f h u v
    where
      right_of_it : (a b ka kb x ya yb y : ℤ) (f : Bool) → a <ℤ b → ka <ℤ x → kb <ℤ x → Balanced a b ka kb x ya yb y f
      right_of_it a b ka kb x ya yb y f h u v = grind (arith, lin)
  slanted a b ka kb x ya yb y f h j p q (inl u) (inr (inl v)) = at_high a b ka kb x ya yb y f h u v (q v)
    where
      at_high : (a b ka kb x ya yb y : ℤ) (f : Bool) → a <ℤ b → ka <ℤ x → kb ≡ x → f ≡ le_z yb y → Balanced a b ka kb x ya yb y f
      at_high a b ka kb x ya yb y f h u v w = grind (arith, lin)
  slanted a b ka kb x ya yb y f h j p q (inl u) (inr (inr v)) = inside_it a b ka kb x ya yb y f h u v
    where
      inside_it : (a b ka kb x ya yb y : ℤ) (f : Bool) → a <ℤ b → ka <ℤ x → x <ℤ kb → Balanced a b ka kb x ya yb y f
      inside_it a b ka kb x ya yb y f h u v = grind (arith, lin)
  slanted a b ka kb x ya yb y f h j p q (inr (inl u)) v = at_low a b ka kb x ya yb y f h j u (p u)
    where
      at_low : (a b ka kb x ya yb y : ℤ) (f : Bool) → a <ℤ b → ka <ℤ kb → ka ≡ x → f ≡ le_z ya y → Balanced a b ka kb x ya yb y f
      at_low a b ka kb x ya yb y f h j u w = grind (arith, lin)
  slanted a b ka kb x ya yb y f h j p q (inr (inr u)) v = left_of_it a b ka kb x ya yb y f h j u
    where
      left_of_it : (a b ka kb x ya yb y : ℤ) (f : Bool) → a <ℤ b → ka <ℤ kb → x <ℤ ka → Balanced a b ka kb x ya yb y f
      left_of_it a b ka kb x ya yb y f h j u = grind (arith, lin)

  standing : (a b ka kb x ya yb y : ℤ) (f : Bool) → a ≡ b → ka ≡ kb → ya <ℤ yb → Balanced a b ka kb x ya yb y f
  standing a b ka kb x ya yb y f h j k = grind (arith, lin)

  one_parity : Before l.low l.high → differ (is_below_right s l) (is_below_left s l) ≡ differ (through s l) (differ (straight_below s l.low) (straight_below s l.high))
  one_parity (inl h) =
      slanted l.low.x l.high.x (s.k *ℤ l.low.x) (s.k *ℤ l.high.x) s.x (s.k *ℤ l.low.y) (s.k *ℤ l.high.y) s.y (le_z T Y) h (mul_lt s.k l.low.x l.high.x s.fine h)
      (λ e. at_height (s.k *ℤ l.low.y) (omega (arith, lin)) (rest_low s l e)) (λ e. at_height (s.k *ℤ l.high.y) (omega (arith, lin)) (rest_high s l e))
      (order (s.k *ℤ l.low.x) s.x) (order (s.k *ℤ l.high.x) s.x)
  one_parity (inr h) =
      standing l.low.x l.high.x (s.k *ℤ l.low.x) (s.k *ℤ l.high.x) s.x (s.k *ℤ l.low.y) (s.k *ℤ l.high.y) s.y (le_z T Y) h.0 (ap (λ z. s.k *ℤ z) h.0) (mul_lt s.k l.low.y l.high.y s.fine h.1)

-- summed over all segments
sum_parity : (s : Spot) (ls : List Segment) → ((l : Segment) → l ∈ ls → Before l.low l.high) → differ (odd_times (is_below_right s) ls) (odd_times (is_below_left s) ls) ≡ differ (odd_times (through s) ls) (odd_times (straight_below s) (ends ls))
sum_parity s [] o = refl
sum_parity s (l ∷ ls) o =
    pairs (is_below_right s l) (odd_times (is_below_right s) ls) (is_below_left s l) (odd_times (is_below_left s) ls)
    ∙ ap₂ differ (one_parity s l (o l here)) (sum_parity s ls (λ m i. o m (there i)))
    ∙ sorted (through s l) (straight_below s l.low) (straight_below s l.high) (odd_times (through s) ls) (odd_times (straight_below s) (ends ls))
  where
    sorted : (c a b d e : Bool) → differ (differ c (differ a b)) (differ d e) ≡ differ (differ c d) (differ a (differ b e))
    sorted c a b d e = grind arith

pub below_parity : (ls : List Segment) → Planar ls → ClosedLines ls → (s : Spot) → differ (odd_below_right ls s) (odd_below_left ls s) ≡ odd_times (through s) ls
below_parity ls o closed s =
    sym (ap₂ differ (odd_kept (is_below_right s) ls) (odd_kept (is_below_left s) ls))
    ∙ sum_parity s ls (lower_first ls o)
    ∙ ap (differ (odd_times (through s) ls)) (even_ends ls closed (straight_below s))
    ∙ no_more (odd_times (through s) ls)
  where
    no_more : (b : Bool) → differ b false ≡ b
    no_more b = grind arith

pub odd_left : (ls : List Segment) → Planar ls → ClosedLines ls → (s : Spot) → ((l : Segment) → l ∈ ls → ¬ Through s l) → odd_below_right ls s ≡ true → odd_below_left ls s ≡ true
odd_left ls o closed s none e =
    by (odd_below_right ls s) (odd_below_left ls s) (below_parity ls o closed s ∙ odd_none (through s) ls (λ l i. refuted (through s l) (λ h. none l i ((through_tells s l).0 h)))) e
  where
    by : (a b : Bool) → differ a b ≡ false → a ≡ true → b ≡ true
    by a b e h = grind arith

-- none is through a spot on no line
pub off_through : (ls : List Segment) (z : Spot) → Off ls z → (l : Segment) → l ∈ ls → ¬ Through z l
off_through ls z off l i t = off l i (on_vertical z l t.upright t.in_x t.from_low (omega (arith, lin, t.to_high)))

pub below_tells : BelowTells
below_tells ls o z off =
    sym (odd_kept (is_below_right z) ls) ∙ odd_same (is_below_right z) (passes_under z) ls (λ l i. below_passes z l (off l i)) ∙ odd_counts Segment (passes_under z) ls
