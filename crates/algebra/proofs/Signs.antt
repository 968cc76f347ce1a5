-- Signs and order of ℤ, where products are not linear.
use Rattle.std.proofs.Common.{◌≡◌, ℕ, zero, suc, ◌+◌, ◌*◌, Bool, true, false, ◌⊎◌, [], ◌∷◌, ℤ, pos, negsuc, ◌+ℤ◌, ◌-ℤ◌, ◌*ℤ◌, neg_ℤ, ◌≤ℤ◌, ◌<ℤ◌, sym, refl, ap, ◌∙◌, subst, inl, inr, arith}
use Rattle.algebra.specs.Polynomial.{con, var, neg, ◌⊕◌, ◌⊖◌, ◌⊗◌}
use Rattle.algebra.proofs.Ring.{ring}
use borrow.Author.Differences.{ints, same_out, Apart-out, lt_T, le_T, lt_not, le_not, lt-true, lt-false, le-true, le-false, true-lt, false-lt, true-le, false-le, lt_out, le_out, same_in, lt_in, le_in, below_in, at_most_in, true_is_lt, false_is_lt, true_is_le, false_is_le, sum_is_lem, neg_is}
use lib.Signed.{lt_z, le_z}

-- `ints` with a product as an atom: for order after `ring`
pub ruleset lin = (same_out, Apart-out, lt_T, le_T, lt_not, le_not, lt-true, lt-false, le-true, le-false, true-lt, false-lt, true-le, false-le, lt_out, le_out, same_in, lt_in, le_in, below_in, at_most_in, true_is_lt, false_is_lt, true_is_le, false_is_le, sum_is_lem, neg_is)

-- the sign
pub data Sign : Type 0 where
  minus nil plus : Sign

abbrev pub sign : ℤ → Sign
sign (pos zero) = nil
sign (pos (suc n)) = plus
sign (negsuc n) = minus

infixl 7 ◌·◌
abbrev pub ◌·◌ : Sign → Sign → Sign
minus · minus = plus
minus · nil = nil
minus · plus = minus
nil · t = nil
plus · t = t

abbrev pub flip : Sign → Sign
flip minus = plus
flip nil = nil
flip plus = minus

-- what a sign says
abbrev pub Has : Sign → ℤ → Type 0
Has minus z = z <ℤ pos 0
Has nil z = z ≡ pos 0
Has plus z = pos 0 <ℤ z

pub has : (z : ℤ) → Has (sign z) z
has (pos zero) = refl
has (pos (suc n)) = omega (arith, ints)
has (negsuc n) = omega (arith, ints)

pub has_is : (s : Sign) (z : ℤ) → Has s z → sign z ≡ s
has_is minus (pos zero) h = absurd (omega (arith, ints))
has_is minus (pos (suc n)) h = absurd (omega (arith, ints))
has_is minus (negsuc n) h = refl
has_is nil (pos zero) h = refl
has_is nil (pos (suc n)) h = absurd (omega (arith, ints))
has_is nil (negsuc n) h = absurd (omega (arith, ints))
has_is plus (pos zero) h = absurd (omega (arith, ints))
has_is plus (pos (suc n)) h = refl
has_is plus (negsuc n) h = absurd (omega (arith, ints))

pub of_sign : (s : Sign) (z : ℤ) → sign z ≡ s → Has s z
of_sign s z e = subst (λ t. Has t z) e (has z)

-- three ways: match on `tri z`
pub data Tri (z : ℤ) : Type 0 where
  below : z <ℤ pos 0 → Tri z
  zeroed : z ≡ pos 0 → Tri z
  above : pos 0 <ℤ z → Tri z

pub tri : (z : ℤ) → Tri z
tri (pos zero) = zeroed refl
tri (pos (suc n)) = above (omega (arith, ints))
tri (negsuc n) = below (omega (arith, ints))

-- two numbers, with both tests: match on `ord a b` in a helper that takes the tests as variables
pub data Ord (a b : ℤ) : Bool → Bool → Type 0 where
  upto : a ≤ℤ b → Ord a b true false
  past : b <ℤ a → Ord a b false true

ord_by : (a b : ℤ) (s t : Bool) → le_z a b ≡ s → lt_z b a ≡ t → Ord a b s t
ord_by a b true true p q = absurd (omega (arith, ints))
ord_by a b true false p q = upto (omega (arith, ints))
ord_by a b false true p q = past (omega (arith, ints))
ord_by a b false false p q = absurd (omega (arith, ints))

pub ord : (a b : ℤ) → Ord a b (le_z a b) (lt_z b a)
ord a b = ord_by a b (le_z a b) (lt_z b a) refl refl

pub order : (a b : ℤ) → (a <ℤ b) ⊎ ((a ≡ b) ⊎ (b <ℤ a))
order a b = go (tri (a -ℤ b))
  where
    go : Tri (a -ℤ b) → (a <ℤ b) ⊎ ((a ≡ b) ⊎ (b <ℤ a))
    go (below h) = inl (omega (arith, ints))
    go (zeroed h) = inr (inl (omega (arith, ints)))
    go (above h) = inr (inr (omega (arith, ints)))

-- two ways, for a helper to match on
pub split : (u v : ℤ) → (u ≤ℤ v) ⊎ (v <ℤ u)
split u v = go (tri (v -ℤ u))
  where
    go : Tri (v -ℤ u) → (u ≤ℤ v) ⊎ (v <ℤ u)
    go (below h) = inr (omega (arith, lin))
    go (zeroed h) = inl (omega (arith, lin))
    go (above h) = inl (omega (arith, lin))

-- the sign of a product
grow : (m n : ℕ) → suc m * suc n ≡ suc (m * n + m + n)
grow m n = omega arith

nought : (m : ℕ) → m * 0 ≡ 0
nought m = omega arith

pub sign_mul : (a b : ℤ) → sign (a *ℤ b) ≡ sign a · sign b
sign_mul (pos zero) (pos n) = rw (zero_times n)
  where
    zero_times : (n : ℕ) → 0 * n ≡ 0
    zero_times n = omega arith
sign_mul (pos zero) (negsuc n) = rw (zero_times (suc n))
  where
    zero_times : (n : ℕ) → 0 * n ≡ 0
    zero_times n = omega arith
sign_mul (pos (suc m)) (pos zero) = rw (nought (suc m))
sign_mul (pos (suc m)) (pos (suc n)) = rw (grow m n)
sign_mul (pos (suc m)) (negsuc n) = rw (grow m n)
sign_mul (negsuc m) (pos zero) = rw (nought (suc m))
sign_mul (negsuc m) (pos (suc n)) = rw (grow m n)
sign_mul (negsuc m) (negsuc n) = rw (grow m n)

pub sign_neg : (a : ℤ) → sign (neg_ℤ a) ≡ flip (sign a)
sign_neg (pos zero) = refl
sign_neg (pos (suc n)) = refl
sign_neg (negsuc n) = refl

pub sign_scale : (d x : ℤ) → pos 0 <ℤ d → sign (d *ℤ x) ≡ sign x
sign_scale d x h = sign_mul d x ∙ rw (has_is plus d h)

-- a factor d and a factor e make one number of P and of A
pub same_sign : (d e P A : ℤ) → pos 0 <ℤ d → pos 0 <ℤ e → d *ℤ P ≡ e *ℤ A → sign P ≡ sign A
same_sign d e P A h k q = sym (sign_scale d P h) ∙ ap sign q ∙ sign_scale e A k

-- sums are linear: `omega (arith, lin)` proves such a one where it is needed
pub add_pos : (a b : ℤ) → pos 0 <ℤ a → pos 0 <ℤ b → pos 0 <ℤ (a +ℤ b)
add_pos a b h k = omega (arith, lin)

-- products
pub mul_pos : (a b : ℤ) → pos 0 <ℤ a → pos 0 <ℤ b → pos 0 <ℤ (a *ℤ b)
mul_pos a b h k = of_sign plus (a *ℤ b) (sign_mul a b ∙ rw (has_is plus a h, has_is plus b k))

pub mul_neg : (a b : ℤ) → pos 0 <ℤ a → b <ℤ pos 0 → (a *ℤ b) <ℤ pos 0
mul_neg a b h k = of_sign minus (a *ℤ b) (sign_mul a b ∙ rw (has_is plus a h, has_is minus b k))

pub neg_mul_neg : (a b : ℤ) → a <ℤ pos 0 → b <ℤ pos 0 → pos 0 <ℤ (a *ℤ b)
neg_mul_neg a b h k = of_sign plus (a *ℤ b) (sign_mul a b ∙ rw (has_is minus a h, has_is minus b k))

pub mul_nonneg : (a b : ℤ) → pos 0 ≤ℤ a → pos 0 ≤ℤ b → pos 0 ≤ℤ (a *ℤ b)
mul_nonneg (pos m) (pos n) h k = omega (arith, ints)
mul_nonneg (pos m) (negsuc n) h k = absurd (omega (arith, ints))
mul_nonneg (negsuc m) b h k = absurd (omega (arith, ints))

pub mul_negated : (a b : ℤ) → a *ℤ neg_ℤ b ≡ neg_ℤ (a *ℤ b)
mul_negated a b = ring (a ∷ b ∷ []) (var 0 ⊗ neg (var 1)) (neg (var 0 ⊗ var 1)) refl

pub mul_nonpos : (a b : ℤ) → pos 0 ≤ℤ a → b ≤ℤ pos 0 → (a *ℤ b) ≤ℤ pos 0
mul_nonpos a b h k = omega (arith, lin, mul_negated a b, mul_nonneg a (neg_ℤ b) h (omega (arith, lin)))

pub nonpos_mul : (a b : ℤ) → a ≤ℤ pos 0 → pos 0 ≤ℤ b → (a *ℤ b) ≤ℤ pos 0
nonpos_mul a b h k = omega (arith, lin, ring (a ∷ b ∷ []) (var 0 ⊗ var 1) (var 1 ⊗ var 0) refl, mul_nonpos b a k h)

-- a positive factor goes away
pub cancel_pos : (a b : ℤ) → pos 0 ≤ℤ a → pos 0 <ℤ (a *ℤ b) → pos 0 <ℤ b
cancel_pos a b h k = go (tri b)
  where
    go : Tri b → pos 0 <ℤ b
    go (below l) = absurd (omega (arith, lin, mul_nonpos a b h (omega (arith, lin))))
    go (zeroed l) = absurd (omega (arith, lin, mul_nonpos a b h (omega (arith, lin))))
    go (above l) = l

pub cancel_neg : (a b : ℤ) → pos 0 ≤ℤ a → (a *ℤ b) <ℤ pos 0 → b <ℤ pos 0
cancel_neg a b h k = omega (arith, lin, cancel_pos a (neg_ℤ b) h (omega (arith, lin, mul_negated a b)))

pub cancel_nonneg : (a b : ℤ) → pos 0 <ℤ a → pos 0 ≤ℤ (a *ℤ b) → pos 0 ≤ℤ b
cancel_nonneg a b h k = go (tri b)
  where
    go : Tri b → pos 0 ≤ℤ b
    go (below l) = absurd (omega (arith, lin, mul_neg a b h l))
    go (zeroed l) = omega (arith, lin)
    go (above l) = omega (arith, lin)

pub cancel_nonpos : (a b : ℤ) → pos 0 <ℤ a → (a *ℤ b) ≤ℤ pos 0 → b ≤ℤ pos 0
cancel_nonpos a b h k = omega (arith, lin, cancel_nonneg a (neg_ℤ b) h (omega (arith, lin, mul_negated a b)))

pub cancel_zero : (a b : ℤ) → pos 0 <ℤ a → a *ℤ b ≡ pos 0 → b ≡ pos 0
cancel_zero a b h k = omega (arith, lin, cancel_nonneg a b h (omega (arith, lin)), cancel_nonpos a b h (omega (arith, lin)))

pub cancel_nonzero : (a b : ℤ) → ¬ (a ≡ pos 0) → a *ℤ b ≡ pos 0 → b ≡ pos 0
cancel_nonzero a b h e = go (tri a)
  where
    go : Tri a → b ≡ pos 0
    go (below l) = cancel_zero (neg_ℤ a) b (omega (arith, lin)) (omega (arith, lin, ring (a ∷ b ∷ []) (neg (var 0) ⊗ var 1) (neg (var 0 ⊗ var 1)) refl))
    go (zeroed l) = absurd (h l)
    go (above l) = cancel_zero a b l e

-- monotony
pub mul_sub : (c a b : ℤ) → c *ℤ (b -ℤ a) ≡ c *ℤ b -ℤ c *ℤ a
mul_sub c a b = ring (c ∷ a ∷ b ∷ []) (var 0 ⊗ (var 2 ⊖ var 1)) (var 0 ⊗ var 2 ⊖ var 0 ⊗ var 1) refl

pub mul_le : (c a b : ℤ) → pos 0 ≤ℤ c → a ≤ℤ b → (c *ℤ a) ≤ℤ (c *ℤ b)
mul_le c a b h k = omega (arith, lin, mul_sub c a b, mul_nonneg c (b -ℤ a) h (omega (arith, lin)))

pub mul_lt : (c a b : ℤ) → pos 0 <ℤ c → a <ℤ b → (c *ℤ a) <ℤ (c *ℤ b)
mul_lt c a b h k = omega (arith, lin, mul_sub c a b, mul_pos c (b -ℤ a) h (omega (arith, lin)))

pub cancel_le : (c a b : ℤ) → pos 0 <ℤ c → (c *ℤ a) ≤ℤ (c *ℤ b) → a ≤ℤ b
cancel_le c a b h k = omega (arith, lin, cancel_nonneg c (b -ℤ a) h (omega (arith, lin, mul_sub c a b)))

pub cancel_lt : (c a b : ℤ) → pos 0 ≤ℤ c → (c *ℤ a) <ℤ (c *ℤ b) → a <ℤ b
cancel_lt c a b h k = omega (arith, lin, cancel_pos c (b -ℤ a) h (omega (arith, lin, mul_sub c a b)))

pub cancel : (c a b : ℤ) → pos 0 <ℤ c → c *ℤ a ≡ c *ℤ b → a ≡ b
cancel c a b h k = omega (arith, lin, cancel_zero c (b -ℤ a) h (omega (arith, lin, mul_sub c a b)))

-- squares
pub square : (a : ℤ) → pos 0 ≤ℤ (a *ℤ a)
square (pos m) = omega (arith, ints)
square (negsuc m) = omega (arith, ints)

pub square_pos : (a : ℤ) → (a ≡ pos 0 → ⊥) → pos 0 <ℤ (a *ℤ a)
square_pos a n = go (tri a)
  where
    go : Tri a → pos 0 <ℤ (a *ℤ a)
    go (below l) = neg_mul_neg a a l l
    go (zeroed l) = absurd (n l)
    go (above l) = mul_pos a a l l

-- a mean with weights m and n: between, and strictly above where the part with weight is
pub mean_le : (m n z x y : ℤ) → pos 0 ≤ℤ m → pos 0 ≤ℤ n → z ≤ℤ x → z ≤ℤ y → ((m +ℤ n) *ℤ z) ≤ℤ (m *ℤ x +ℤ n *ℤ y)
mean_le m n z x y h k p q = omega (arith, lin, mul_le m z x h p, mul_le n z y k q, ring (m ∷ n ∷ z ∷ []) ((var 0 ⊕ var 1) ⊗ var 2) (var 0 ⊗ var 2 ⊕ var 1 ⊗ var 2) refl)

pub mean_ge : (m n z x y : ℤ) → pos 0 ≤ℤ m → pos 0 ≤ℤ n → x ≤ℤ z → y ≤ℤ z → (m *ℤ x +ℤ n *ℤ y) ≤ℤ ((m +ℤ n) *ℤ z)
mean_ge m n z x y h k p q = omega (arith, lin, mul_le m x z h p, mul_le n y z k q, ring (m ∷ n ∷ z ∷ []) ((var 0 ⊕ var 1) ⊗ var 2) (var 0 ⊗ var 2 ⊕ var 1 ⊗ var 2) refl)

-- of two numbers whose mean with weights m and n is 0, not both are positive
pub mean_zero : (m n x y : ℤ) → pos 0 ≤ℤ m → pos 0 ≤ℤ n → pos 0 <ℤ (m +ℤ n) → m *ℤ x +ℤ n *ℤ y ≡ pos 0 → pos 0 <ℤ x → y ≤ℤ pos 0
mean_zero m n x y h k s e p = go (tri y)
  where
    go : Tri y → y ≤ℤ pos 0
    go (below l) = omega (arith, lin)
    go (zeroed l) = omega (arith, lin)
    go (above l) = absurd (omega (arith, lin, mean_le m n (pos 1) x y h k (omega (arith, lin)) (omega (arith, lin)), ring (m ∷ n ∷ []) ((var 0 ⊕ var 1) ⊗ con (pos 1)) (var 0 ⊕ var 1) refl))

-- nor both negative
pub mean_zero' : (m n x y : ℤ) → pos 0 ≤ℤ m → pos 0 ≤ℤ n → pos 0 <ℤ (m +ℤ n) → m *ℤ x +ℤ n *ℤ y ≡ pos 0 → x <ℤ pos 0 → pos 0 ≤ℤ y
mean_zero' m n x y h k s e p = omega (arith, lin, mean_zero m n (neg_ℤ x) (neg_ℤ y) h k s (omega (arith, lin, mul_negated m x, mul_negated n y)) (omega (arith, lin)))
