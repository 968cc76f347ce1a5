-- Numbers of strictly opposite signs, and the heights of a leg that goes from one side of a line to the other: at two places on one side of the line (`heights_far`) or with the crossing between them (`heights_near`).
use Rattle.std.proofs.Common.{◌≡◌, true, false, ◌&&◌, ◌||◌, ◌⊎◌, ℤ, pos, ◌+ℤ◌, ◌-ℤ◌, ◌*ℤ◌, neg_ℤ, ◌≤ℤ◌, ◌<ℤ◌, sym, ap, ◌∙◌, ap₂, inl, inr, arith}
use lib.Signed.{lt_z}
use Rattle.std.proofs.lemmas.Bool.{or_cases, and_parts}
use Rattle.algebra.specs.Parity.{differ}
use Rattle.algebra.proofs.Ring.{mul_zero}
use Rattle.algebra.proofs.Signs.{lin, Tri, below, zeroed, above, tri, mul_pos, mul_neg}
use Rattle.plane.specs.Meeting.{opposite}
use Rattle.plane.proofs.Pairs.{straddles}
use Rattle.plane.proofs.Weights.{not_zero_above, not_zero_below}
use Rattle.plane.proofs.Any.{scale_lt}

negative_by : (c x : ℤ) → pos 0 <ℤ c → lt_z (c *ℤ x) (pos 0) ≡ lt_z x (pos 0)
negative_by c x h = ap (lt_z (c *ℤ x)) (sym (mul_zero c)) ∙ scale_lt c x (pos 0) h

positive_by : (c x : ℤ) → pos 0 <ℤ c → lt_z (pos 0) (c *ℤ x) ≡ lt_z (pos 0) x
positive_by c x h = ap (λ z. lt_z z (c *ℤ x)) (sym (mul_zero c)) ∙ scale_lt c (pos 0) x h

pub opposite_by : (c d x y : ℤ) → pos 0 <ℤ c → pos 0 <ℤ d → opposite (c *ℤ x) (d *ℤ y) ≡ opposite x y
opposite_by c d x y hc hd = ap₂ ◌||◌ (ap₂ ◌&&◌ (negative_by c x hc) (positive_by d y hd)) (ap₂ ◌&&◌ (positive_by c x hc) (negative_by d y hd))

-- with no 0, around 0 is opposite
pub astride : (x y : ℤ) → ¬ (x ≡ pos 0) → ¬ (y ≡ pos 0) → straddles x y ≡ opposite x y
astride x y h k = go (tri x) (tri y)
  where
    go : Tri x → Tri y → straddles x y ≡ opposite x y
    go (zeroed i) j = absurd (h i)
    go (below i) (zeroed j) = absurd (k j)
    go (above i) (zeroed j) = absurd (k j)
    go (below i) (below j) = grind (arith, lin)
    go (below i) (above j) = grind (arith, lin)
    go (above i) (below j) = grind (arith, lin)
    go (above i) (above j) = grind (arith, lin)

abbrev pub UpOrDown : ℤ → ℤ → Type 0
UpOrDown x y = ((x <ℤ pos 0) × (pos 0 <ℤ y)) ⊎ ((pos 0 <ℤ x) × (y <ℤ pos 0))

pub opposite_cases : (x y : ℤ) → opposite x y ≡ true → UpOrDown x y
opposite_cases x y e = go (or_cases (lt_z x (pos 0) && lt_z (pos 0) y) (lt_z (pos 0) x && lt_z y (pos 0)) e)
  where
    go : ((lt_z x (pos 0) && lt_z (pos 0) y) ≡ true) ⊎ ((lt_z (pos 0) x && lt_z y (pos 0)) ≡ true) → UpOrDown x y
    go (inl h) = let b = and_parts (lt_z x (pos 0)) (lt_z (pos 0) y) h in inl (omega (arith, lin), omega (arith, lin))
    go (inr h) = let b = and_parts (lt_z (pos 0) x) (lt_z y (pos 0)) h in inr (omega (arith, lin), omega (arith, lin))

up : (x y : ℤ) → x <ℤ pos 0 → pos 0 <ℤ y → opposite x y ≡ true
up x y h k = grind (arith, lin)

down : (x y : ℤ) → pos 0 <ℤ x → y <ℤ pos 0 → opposite x y ≡ true
down x y h k = grind (arith, lin)

both_above : (x y : ℤ) → pos 0 <ℤ x → pos 0 <ℤ y → opposite x y ≡ false
both_above x y h k = grind (arith, lin)

both_below : (x y : ℤ) → x <ℤ pos 0 → y <ℤ pos 0 → opposite x y ≡ false
both_below x y h k = grind (arith, lin)

-- the heights E and F at the ends of the leg, U and V at two places of it
abbrev pub NoneLevel : (E U V F : ℤ) → Type 0
NoneLevel E U V F = ¬ (E ≡ pos 0) × ¬ (U ≡ pos 0) × ¬ (V ≡ pos 0) × ¬ (F ≡ pos 0)

-- Y, the height between the two places, is further from 0 than they are from it: they lie on one side
pub heights_far : (E U V F Y D M : ℤ) → opposite E F ≡ true → U ≡ Y +ℤ D → V ≡ Y -ℤ D → D <ℤ M → neg_ℤ M <ℤ D → (M ≤ℤ Y) ⊎ (Y ≤ℤ neg_ℤ M) → NoneLevel E U V F × (opposite U V ≡ false) × (differ (opposite E U) (opposite V F) ≡ true)
heights_far E U V F Y D M o eu ev h k y = go (opposite_cases E F o) y
  where
    go : UpOrDown E F → (M ≤ℤ Y) ⊎ (Y ≤ℤ neg_ℤ M) → NoneLevel E U V F × (opposite U V ≡ false) × (differ (opposite E U) (opposite V F) ≡ true)
    go (inl c) (inl y) =
        let hu : pos 0 <ℤ U = omega (arith, lin) in
        let hv : pos 0 <ℤ V = omega (arith, lin) in
        ((not_zero_below E c.0, not_zero_above U hu, not_zero_above V hv, not_zero_above F c.1), both_above U V hu hv, ap₂ differ (up E U c.0 hu) (both_above V F hv c.1))
    go (inl c) (inr y) =
        let hu : U <ℤ pos 0 = omega (arith, lin) in
        let hv : V <ℤ pos 0 = omega (arith, lin) in
        ((not_zero_below E c.0, not_zero_below U hu, not_zero_below V hv, not_zero_above F c.1), both_below U V hu hv, ap₂ differ (both_below E U c.0 hu) (up V F hv c.1))
    go (inr c) (inl y) =
        let hu : pos 0 <ℤ U = omega (arith, lin) in
        let hv : pos 0 <ℤ V = omega (arith, lin) in
        ((not_zero_above E c.0, not_zero_above U hu, not_zero_above V hv, not_zero_below F c.1), both_above U V hu hv, ap₂ differ (both_above E U c.0 hu) (down V F hv c.1))
    go (inr c) (inr y) =
        let hu : U <ℤ pos 0 = omega (arith, lin) in
        let hv : V <ℤ pos 0 = omega (arith, lin) in
        ((not_zero_above E c.0, not_zero_below U hu, not_zero_below V hv, not_zero_below F c.1), both_below U V hu hv, ap₂ differ (down E U c.0 hu) (both_below V F hv c.1))

-- the height between the two places is 0: the leg crosses there
pub heights_near : (N P Q E U V F : ℤ) → pos 0 <ℤ N → opposite P Q ≡ true → E ≡ N *ℤ P → F ≡ N *ℤ Q → U ≡ P -ℤ Q → V ≡ Q -ℤ P → NoneLevel E U V F × (opposite U V ≡ true) × (opposite E U ≡ false) × (opposite V F ≡ false)
heights_near N P Q E U V F n o e f u v = go (opposite_cases P Q o)
  where
    go : UpOrDown P Q → NoneLevel E U V F × (opposite U V ≡ true) × (opposite E U ≡ false) × (opposite V F ≡ false)
    go (inl c) =
        let he : E <ℤ pos 0 = omega (arith, lin, mul_neg N P n c.0) in
        let hf : pos 0 <ℤ F = omega (arith, lin, mul_pos N Q n c.1) in
        let hu : U <ℤ pos 0 = omega (arith, lin) in
        let hv : pos 0 <ℤ V = omega (arith, lin) in
        ((not_zero_below E he, not_zero_below U hu, not_zero_above V hv, not_zero_above F hf), up U V hu hv, both_below E U he hu, both_above V F hv hf)
    go (inr c) =
        let he : pos 0 <ℤ E = omega (arith, lin, mul_pos N P n c.0) in
        let hf : F <ℤ pos 0 = omega (arith, lin, mul_neg N Q n c.1) in
        let hu : pos 0 <ℤ U = omega (arith, lin) in
        let hv : V <ℤ pos 0 = omega (arith, lin) in
        ((not_zero_above E he, not_zero_above U hu, not_zero_below V hv, not_zero_below F hf), down U V hu hv, both_above E U he hu, both_below V F hv hf)
