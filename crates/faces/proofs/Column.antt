-- Straight below a covered spot the segments just below on the left and on the right are one, or share their component by the highest corner there: `column_joins`.
use Rattle.std.proofs.Common.{◌≡◌, Bool, true, false, not, ◌⊎◌, List, length, ℤ, pos, ◌-ℤ◌, ◌*ℤ◌, neg_ℤ, ◌≤ℤ◌, ◌<ℤ◌, sym, ap, ◌∙◌, subst, inl, inr, arith}
use lib.Signed.{lt_z}
use Rattle.std.proofs.lemmas.Bool.{and_from, not_from_false}
use Rattle.std.proofs.lemmas.Bool.Decides.{Decides-like, same_from_decides}
use Rattle.algebra.specs.Members.{◌∈◌}
use Rattle.algebra.specs.Parity.{odd}
use Rattle.algebra.proofs.Ring.{mul_comm, mul_one}
use Rattle.algebra.proofs.Signs.{lin, split, mul_nonneg, cancel, cancel_nonneg, cancel_nonpos}
use Rattle.algebra.proofs.Members.{none}
use Rattle.algebra.proofs.Counts.{kept_in}
use Rattle.plane.specs.declared.point.Point.{Point}
use Rattle.plane.specs.declared.segment.Segment.{Segment}
use Rattle.plane.specs.Spots.{Spot, whole, above_of}
use Rattle.plane.specs.PointLaws.{Before, ys_of}
use Rattle.reading.specs.Reading.{Planar, Off}
use Rattle.reading.specs.Counting.{ends}
use Rattle.reading.proofs.Lists.{lower_first, ends_in}
use Rattle.faces.specs.Heights.{across, higher_right, higher_left}
use Rattle.faces.specs.Below.{is_below_right, is_below_left, odd_below_right, below_right, below_left}
use Rattle.faces.specs.Components.{rises, SameComponent, self, joint, OneComponent}
use Rattle.faces.specs.Theorems.{ColumnJoins}
use Rattle.faces.proofs.Best.{Best, best, kept_same, highest_alike}
use Rattle.faces.proofs.Leads.{one_mul}
use Rattle.faces.proofs.Gaps.{gap_back, rest, rest_low, rest_high, gap, Wide, BelowRight, BelowLeft, right_tells, left_tells, JustRight, JustLeft, just_right, just_left}
use Rattle.faces.proofs.Moves.{SameX, gap_same, higher_right_same, higher_left_same, right_moved, left_moved, rest_up, not_over}
use Rattle.faces.proofs.Touching.{on_vertical, one_segment}
use Rattle.faces.proofs.Parity.{straight_below, StraightBelow, straight_tells, odd_left, off_through}
use Rattle.faces.proofs.Corners.{none_rises}

abbrev above : Point → Point → Bool
above u v = lt_z v.y u.y

-- the highest corner straight below the spot
abbrev HighestCorner : List Segment → Spot → Type 0
HighestCorner ls z = Best (straight_below z) above (ends ls)

highest_corner : (ls : List Segment) (z : Spot) (v : Point) → v ∈ ends ls → StraightBelow z v → HighestCorner ls z
highest_corner ls z v i h =
    best (straight_below z) above (ends ls) (λ u. Unit {0}) (λ u. not_itself u.y) (λ a b c p q r. onward a.y b.y c.y) (λ u j e. tt)
    (λ q. none v (subst (λ ks. v ∈ ks) q (kept_in (straight_below z) (ends ls) v i ((straight_tells z v).1 h))))
  where
    not_itself : (a : ℤ) → lt_z a a ≡ false
    not_itself a = grind (arith, lin)

    onward : (a b c : ℤ) → lt_z b a ≡ true → lt_z c b ≡ true → lt_z c a ≡ true
    onward a b c e f = grind (arith, lin)

module _ (ls : List Segment) (o : Planar ls) (z : Spot) (off : Off ls z) (covered : odd_below_right ls z ≡ true) (R : JustRight ls z) (L : JustLeft ls z) where
  -- where both pass the column they are one
  both_pass : (z.k *ℤ R.one.low.x) <ℤ z.x → z.x <ℤ (z.k *ℤ L.one.high.x) → OneComponent ls (below_left ls z) (below_right ls z)
  both_pass p q = record { one = L.one; other = R.one; is_one = L.is; is_other = R.is; joined = subst (λ y. SameComponent ls y R.one) same (self R.member) }
    where
      level : (u v : ℤ) → u ≤ℤ pos 0 → v ≤ℤ pos 0 → v ≡ neg_ℤ u → u ≡ pos 0
      level u v h k e = omega (arith, lin)

      same : R.one ≡ L.one
      same =
          one_segment ls o R.one L.one R.member L.member z R.below.spans L.below.spans p R.below.strict
          (level (gap z R.one L.one) (gap z L.one R.one)
          (L.highest R.one R.member (record { spans = R.below.spans; strict = p; over = R.below.over }))
          (R.highest L.one L.member (record { spans = L.below.spans; strict = q; over = L.below.over }))
          (gap_back z R.one L.one))

  -- otherwise there is a corner straight below, and w is the highest
  module _ (c : HighestCorner ls z) where
    abbrev w : Spot
    w = whole c.one

    at_w : StraightBelow z c.one
    at_w = (straight_tells z c.one).0 c.passes

    same_x : SameX z w
    same_x = mul_one z.x ∙ sym at_w.in_x ∙ mul_comm z.k c.one.x

    below_z : pos 0 ≤ℤ above_of z w
    below_z = omega (arith, lin, at_w.in_y, mul_one z.y, mul_comm c.one.y z.k)

    not_higher : (v : Point) → v ∈ ends ls → StraightBelow z v → v.y ≤ℤ c.one.y
    not_higher v i h = omega (arith, lin, c.unbeaten v i ((straight_tells z v).1 h))

    -- no vertical line rises from it
    flat : rises ls c.one ≡ false
    flat = none_rises ls c.one no_rise
      where
        no_rise : (m : Segment) → m ∈ ls → c.one ≡ m.low → m.low.x ≡ m.high.x → ⊥
        no_rise m i q u = go (lower_first ls o m i)
          where
            low : StraightBelow z m.low
            low = subst (StraightBelow z) q at_w

            high_x : z.k *ℤ m.high.x ≡ z.x
            high_x = ap (λ t. z.k *ℤ t) (sym u) ∙ low.in_x

            by_high : m.low.y <ℤ m.high.y → ((z.k *ℤ m.high.y) ≤ℤ z.y) ⊎ (z.y <ℤ (z.k *ℤ m.high.y)) → ⊥
            by_high t (inl k) = omega (arith, lin, t, ys_of q, not_higher m.high (ends_in ls m i).1 (record { in_x = high_x; in_y = k }))
            by_high t (inr k) = off m i (on_vertical z m u low.in_x low.in_y (omega (arith, lin, k)))

            go : Before m.low m.high → ⊥
            go (inl k) = omega (arith, lin, u)
            go (inr k) = by_high k.1 (split (z.k *ℤ m.high.y) z.y)

    gap_down : (m n : Segment) → gap z m n ≤ℤ pos 0 → gap w m n ≤ℤ pos 0
    gap_down m n g = cancel_nonpos z.k (gap w m n) z.fine (subst (λ t. t ≤ℤ pos 0) (sym (one_mul (gap z m n)) ∙ gap_same z w same_x m n) g)

    -- neither segment is above w: so what is below z on either side is below w
    module _ (hr : pos 0 ≤ℤ rest w R.one) (hl : pos 0 ≤ℤ rest w L.one) where
      right_down : (m : Segment) → m ∈ ls → BelowRight z m → BelowRight w m
      right_down m i f = right_moved z w same_x m f (not_over w m R.one f.spans.wide R.below.spans.wide (gap_down m R.one (R.highest m i f)) hr)

      right_up : (m : Segment) → BelowRight w m → BelowRight z m
      right_up m f = right_moved w z (sym same_x) m f (rest_up w z (sym same_x) m below_z f.spans.wide f.over)

      left_down : (m : Segment) → m ∈ ls → BelowLeft z m → BelowLeft w m
      left_down m i f = left_moved z w same_x m f (not_over w m L.one f.spans.wide L.below.spans.wide (gap_down m L.one (L.highest m i f)) hl)

      left_up : (m : Segment) → BelowLeft w m → BelowLeft z m
      left_up m f = left_moved w z (sym same_x) m f (rest_up w z (sym same_x) m below_z f.spans.wide f.over)

      same_right : (m : Segment) → m ∈ ls → is_below_right z m ≡ is_below_right w m
      same_right m i = same_from_decides (is_below_right z m) (is_below_right w m) (right_tells z m) (Decides-like (is_below_right w m) (right_up m) (right_down m i) (right_tells w m))

      same_left : (m : Segment) → m ∈ ls → is_below_left z m ≡ is_below_left w m
      same_left m i = same_from_decides (is_below_left z m) (is_below_left w m) (left_tells z m) (Decides-like (is_below_left w m) (left_up m) (left_down m i) (left_tells w m))

      joined_at : OneComponent ls (below_left ls z) (below_right ls z)
      joined_at =
          record {
            one = L.one;
            other = R.one;
            is_one = L.is;
            is_other = R.is;
            joined =
                joint c.one c.member
                (and_from (not (rises ls c.one)) (odd_below_right ls w) (not_from_false (rises ls c.one) flat) (sym (ap (λ ks. odd (length ks)) (kept_same (is_below_right z) (is_below_right w) ls same_right)) ∙ covered))
                (sym (highest_alike (is_below_left z) (is_below_left w) (higher_left z) (higher_left w) ls same_left (λ m n i j p q. higher_left_same z w same_x m n)) ∙ L.is)
                (sym (highest_alike (is_below_right z) (is_below_right w) (higher_right z) (higher_right w) ls same_right (λ m n i j p q. higher_right_same z w same_x m n)) ∙ R.is);
          }

    -- one that starts or ends in the column is not above w
    end_under : (m : Segment) (v : Point) → v ∈ ends ls → Wide m → StraightBelow z v → pos 0 ≤ℤ (across m *ℤ (c.one.y -ℤ pos 1 *ℤ v.y))
    end_under m v i hw h = mul_nonneg (across m) (c.one.y -ℤ pos 1 *ℤ v.y) (omega (arith, lin)) (omega (arith, lin, one_mul v.y, not_higher v i h))

    at_x : (v : Point) → StraightBelow z v → pos 1 *ℤ v.x ≡ c.one.x
    at_x v h = one_mul v.x ∙ cancel z.k v.x c.one.x z.fine (h.in_x ∙ sym at_w.in_x)

    starts : StraightBelow z R.one.low → pos 0 ≤ℤ rest w R.one
    starts h =
        subst (λ t. pos 0 ≤ℤ t) (sym (rest_low w R.one (at_x R.one.low h))) (end_under R.one R.one.low (ends_in ls R.one R.member).0 R.below.spans.wide h)

    finishes : StraightBelow z L.one.high → pos 0 ≤ℤ rest w L.one
    finishes h =
        subst (λ t. pos 0 ≤ℤ t) (sym (rest_high w L.one (at_x L.one.high h))) (end_under L.one L.one.high (ends_in ls L.one L.member).1 L.below.spans.wide h)

    -- nor is one that passes, if the other is not
    left_by_right : z.x <ℤ (z.k *ℤ L.one.high.x) → pos 0 ≤ℤ rest w R.one → pos 0 ≤ℤ rest w L.one
    left_by_right p h =
        not_over w L.one R.one L.below.spans.wide R.below.spans.wide (gap_down L.one R.one (R.highest L.one L.member (record { spans = L.below.spans; strict = p; over = L.below.over }))) h

    right_by_left : (z.k *ℤ R.one.low.x) <ℤ z.x → pos 0 ≤ℤ rest w L.one → pos 0 ≤ℤ rest w R.one
    right_by_left p h =
        not_over w R.one L.one R.below.spans.wide L.below.spans.wide (gap_down R.one L.one (L.highest R.one R.member (record { spans = R.below.spans; strict = p; over = R.below.over }))) h

  -- R starts in the column, or L ends there
  by_end : (m : Segment) (v : Point) → Wide m → z.k *ℤ v.x ≡ z.x → rest z m ≡ across m *ℤ (z.y -ℤ z.k *ℤ v.y) → pos 0 ≤ℤ rest z m → StraightBelow z v
  by_end m v hw q e h = record { in_x = q; in_y = omega (arith, lin, cancel_nonneg (across m) (z.y -ℤ z.k *ℤ v.y) hw (subst (λ t. pos 0 ≤ℤ t) e h)) }

  low_end : z.x ≤ℤ (z.k *ℤ R.one.low.x) → StraightBelow z R.one.low
  low_end p = let q : z.k *ℤ R.one.low.x ≡ z.x = omega (arith, lin, R.below.spans.after_low) in by_end R.one R.one.low R.below.spans.wide q (rest_low z R.one q) R.below.over

  high_end : (z.k *ℤ L.one.high.x) ≤ℤ z.x → StraightBelow z L.one.high
  high_end p = let q : z.k *ℤ L.one.high.x ≡ z.x = omega (arith, lin, L.below.spans.before_high) in by_end L.one L.one.high L.below.spans.wide q (rest_high z L.one q) L.below.over

  low_corner : StraightBelow z R.one.low → HighestCorner ls z
  low_corner h = highest_corner ls z R.one.low (ends_in ls R.one R.member).0 h

  high_corner : StraightBelow z L.one.high → HighestCorner ls z
  high_corner h = highest_corner ls z L.one.high (ends_in ls L.one L.member).1 h

  joined_below : OneComponent ls (below_left ls z) (below_right ls z)
  joined_below = go (split z.x (z.k *ℤ R.one.low.x)) (split (z.k *ℤ L.one.high.x) z.x)
    where
      go : (z.x ≤ℤ (z.k *ℤ R.one.low.x)) ⊎ ((z.k *ℤ R.one.low.x) <ℤ z.x) → ((z.k *ℤ L.one.high.x) ≤ℤ z.x) ⊎ (z.x <ℤ (z.k *ℤ L.one.high.x)) → OneComponent ls (below_left ls z) (below_right ls z)
      go (inr p) (inr q) = both_pass p q
      go (inl p) (inr q) = let c = low_corner (low_end p) in let h = starts c (low_end p) in joined_at c h (left_by_right c q h)
      go (inr p) (inl q) = let c = high_corner (high_end q) in let h = finishes c (high_end q) in joined_at c (right_by_left c p h) h
      go (inl p) (inl q) = let c = low_corner (low_end p) in joined_at c (starts c (low_end p)) (finishes c (high_end q))

pub column_joins : ColumnJoins
column_joins ls o closed z off covered =
    joined_below ls o z off covered (just_right ls z covered) (just_left ls z (odd_left ls o closed z (off_through ls z off) covered))
