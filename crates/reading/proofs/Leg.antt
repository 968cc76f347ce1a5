-- The leg lemma, `leg_sides`: a line passes under just one end of a leg exactly where the leg passes over just one end of the line; where they cross, exactly where it does not.
use Rattle.std.proofs.Common.{◌≡◌, Bool, true, false, not, ◌&&◌, ◌||◌, ◌⊎◌, ℤ, pos, ◌-ℤ◌, ◌≤ℤ◌, ◌<ℤ◌, sym, ap, ◌∙◌, ap₂, inl, inr, arith}
use mathlib.Core.Bool.{or_comm, or-false}
use lib.Signed.{lt_z, le_z}
use Rattle.algebra.specs.Parity.{differ}
use Rattle.algebra.proofs.Signs.{lin, split}
use Rattle.algebra.proofs.Members.{Case, holds, fails, case, apart}
use Rattle.plane.specs.declared.point.Point.{Point}
use Rattle.plane.specs.Points.{orientation, scaled}
use Rattle.plane.specs.PointLaws.{Before, rightward}
use Rattle.plane.proofs.Pairs.{Shared, Clean, touches, crosses}
use Rattle.plane.proofs.Sharing.{quad_of, shared_cut, shared_rise, leg_back}
use Rattle.plane.proofs.Weights.{Passing, falling, rising, flat, not_zero_above, not_zero_below}
use Rattle.plane.proofs.Crossed.{signs, overlap_x, not_beside, no_flat, crossed_of}
use Rattle.plane.proofs.Any.{clean_back, any_touch_test, any_cross_test, scale_le, scale_lt, positive_scaled}
use Rattle.reading.specs.Counting.{over}
use Rattle.reading.proofs.Sides.{same_sides, through, through'}

-- the line from a to b passes under s: s lies strictly above it, not left of a, and left of b
abbrev pub under : Point → Point → Point → Bool
under a b s = le_z a.x s.x && (lt_z s.x b.x && lt_z (pos 0) (orientation a b s))

-- the same of a leg either way round
abbrev pub passes_over : Point → Point → Point → Bool
passes_over p q v = over p q v || over q p v

-- v in the scale of the leg
abbrev pub over_at : ℤ → Point → Point → Point → Bool
over_at k p q v = passes_over p q (scaled k v)

-- the lemma where they share no point, with r false, and where they cross, with r true
abbrev Told : Bool → (a b p q : Point) → Type 0
Told r a b p q = differ (under a b p) (under a b q) ≡ differ r (differ (passes_over p q a) (passes_over p q b))

told_back : (r : Bool) (a b p q : Point) → Told r a b q p → Told r a b p q
told_back r a b p q e =
    exchanged (under a b p) (under a b q) ∙ e ∙ ap (differ r) (ap₂ differ (or_comm (over q p a) (over p q a)) (or_comm (over q p b) (over p q b)))
  where
    exchanged : (s t : Bool) → differ s t ≡ differ t s
    exchanged s t = grind arith

-- a leg to the left passes over nothing
told_right : (r : Bool) (a b p q : Point) → p.x ≤ℤ q.x → differ (under a b p) (under a b q) ≡ differ r (differ (over p q a) (over p q b)) → Told r a b p q
told_right r a b p q h e = e ∙ sym (ap (differ r) (ap₂ differ (only a) (only b)))
  where
    none_over : (xp xq xv h : ℤ) → xp ≤ℤ xq → (lt_z xq xv && (le_z xv xp && lt_z h (pos 0))) ≡ false
    none_over xp xq xv h k = grind (arith, lin)

    only : (v : Point) → passes_over p q v ≡ over p q v
    only v = ap (λ t. over p q v || t) (none_over p.x q.x v.x (orientation q p v) h) ∙ or-false (over p q v)

right_apart : (a b p q : Point) → a.x ≤ℤ b.x → p.x ≤ℤ q.x → ¬ Shared a b p q → Told false a b p q
right_apart a b p q h r n =
    told_right false a b p q r
    (same_sides a.x b.x p.x q.x (orientation p q a) (orientation p q b) (orientation a b p) (orientation a b q) (orientation a b p -ℤ orientation a b q)
    (quad_of a b p q h r) (λ c. n (shared_cut a b p q c)) (λ c. n (shared_rise a b p q c)))

right_crossed : (a b p q : Point) → Before a b → p.x ≤ℤ q.x → Clean a b p q → Told true a b p q
right_crossed a b p q l r c = told_right true a b p q r (go (signs a b p q c.point c.inner))
  where
    before : ¬ (orientation a b p ≡ pos 0) → p.x <ℤ b.x
    before n = not_beside a b p q c.point l r c.inner n

    reaches : a.x ≤ℤ q.x
    reaches = (overlap_x a b p q c.point l r).0

    go : Passing (orientation p q a) (orientation p q b) (orientation a b p) (orientation a b q) → differ (under a b p) (under a b q) ≡ not (differ (over p q a) (over p q b))
    go (falling A B P Q) =
        through a.x b.x p.x q.x (orientation p q a) (orientation p q b) (orientation a b p) (orientation a b q) reaches (before (not_zero_above (orientation a b p) P)) (rightward a b l) r A B P Q
    go (rising A B P Q) =
        through' a.x b.x p.x q.x (orientation p q a) (orientation p q b) (orientation a b p) (orientation a b q) reaches (before (not_zero_below (orientation a b p) P)) (rightward a b l) r A B P Q
    go (flat A B P Q) = absurd (no_flat a b p q l r (crossed_of a b p q c) A P Q)

weak : (u v : ℤ) → v <ℤ u → v ≤ℤ u
weak u v h = omega (arith, lin)

leg_apart : (a b p q : Point) → a.x ≤ℤ b.x → ¬ Shared a b p q → Told false a b p q
leg_apart a b p q h n = go (split p.x q.x)
  where
    go : (p.x ≤ℤ q.x) ⊎ (q.x <ℤ p.x) → Told false a b p q
    go (inl r) = right_apart a b p q h r n
    go (inr r) = told_back false a b p q (right_apart a b q p h (weak p.x q.x r) (λ s. n (leg_back a b p q s)))

leg_crossed : (a b p q : Point) → Before a b → Clean a b p q → Told true a b p q
leg_crossed a b p q l c = go (split p.x q.x)
  where
    go : (p.x ≤ℤ q.x) ⊎ (q.x <ℤ p.x) → Told true a b p q
    go (inl r) = right_crossed a b p q l r c
    go (inr r) = told_back true a b p q (right_crossed a b q p l (weak p.x q.x r) (clean_back a b q p c))

-- a leg that crosses the line, or does not touch it
pub leg_sides : (a b p q : Point) → Before a b → touches a b p q ≡ crosses a b p q → differ (under a b p) (under a b q) ≡ differ (crosses a b p q) (differ (passes_over p q a) (passes_over p q b))
leg_sides a b p q l e = go (case (crosses a b p q))
  where
    by : (r : Bool) → crosses a b p q ≡ r → Told r a b p q → Told (crosses a b p q) a b p q
    by r h t = t ∙ sym (ap (λ c. differ c (differ (passes_over p q a) (passes_over p q b))) h)

    go : Case (crosses a b p q) → Told (crosses a b p q) a b p q
    go (holds h) = by true h (leg_crossed a b p q l ((any_cross_test a b p q).0 h))
    go (fails h) = by false h (leg_apart a b p q (rightward a b l) (λ z. apart ((any_touch_test a b p q).1 z) (e ∙ h)))

pub under_scaled : (k : ℤ) → pos 0 <ℤ k → (a b s : Point) → under (scaled k a) (scaled k b) (scaled k s) ≡ under a b s
under_scaled k h a b s = ap₂ ◌&&◌ (scale_le k a.x s.x h) (ap₂ ◌&&◌ (scale_lt k s.x b.x h) (positive_scaled k h a b s))
