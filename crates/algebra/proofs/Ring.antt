-- `ring` and `ring_from`: equations between polynomials over ℤ, decided by computing normal forms.
use Rattle.std.proofs.Common.{◌≡◌, ℕ, ◌*◌, Bool, true, false, cond, T, eqb, ltb, List, [], ◌∷◌, ℤ, pos, negsuc, ◌+ℤ◌, ◌-ℤ◌, ◌*ℤ◌, neg_ℤ, sym, refl, ap, ◌∙◌, subst, arith, eqb→eq}
use Prim.Native.Nat.{compare, Ordering}
use borrow.Author.Differences.{ints, up, down, sum_is_lem, product_is}
use Rattle.algebra.specs.Polynomial.{Ex, con, var, neg, ◌⊕◌, ◌⊖◌, ◌⊗◌, nth, eval, Vars, Term, Poly, is_zero, keep, same_vars, into, plus, ins, join, scale, times, norm, Known, Holds, adding, NormalFormDecides, EquationsCarry}

-- the laws
pub add_comm : (a b : ℤ) → a +ℤ b ≡ b +ℤ a
add_comm a b = omega (arith, ints)

pub add_assoc : (a b c : ℤ) → (a +ℤ b) +ℤ c ≡ a +ℤ (b +ℤ c)
add_assoc a b c = omega (arith, ints)

pub mul_comm : (a b : ℤ) → a *ℤ b ≡ b *ℤ a
mul_comm a b = omega (arith, ints)

pub mul_assoc : (a b c : ℤ) → (a *ℤ b) *ℤ c ≡ a *ℤ (b *ℤ c)
mul_assoc a b c =
    let ab = product_is a b in
    let bc = product_is b c in
    omega (arith, ints, ap (λ t. t * up c) ab.0, ap (λ t. t * down c) ab.0, ap (λ t. t * up c) ab.1, ap (λ t. t * down c) ab.1, ap (λ t. up a * t) bc.0, ap (λ t. down a * t) bc.0, ap (λ t. up a * t) bc.1, ap (λ t. down a * t) bc.1)

pub mul_add : (a b c : ℤ) → a *ℤ (b +ℤ c) ≡ a *ℤ b +ℤ a *ℤ c
mul_add a b c = omega (arith, ints, ap (λ t. up a * t) (sum_is_lem b c), ap (λ t. down a * t) (sum_is_lem b c))

pub mul_zero : (a : ℤ) → a *ℤ pos 0 ≡ pos 0
mul_zero a = omega (arith, ints)

pub mul_one : (a : ℤ) → a *ℤ pos 1 ≡ a
mul_one a = omega (arith, ints)

pub add_zero : (a : ℤ) → a +ℤ pos 0 ≡ a
add_zero a = omega (arith, ints)

pub zero_add : (a : ℤ) → pos 0 +ℤ a ≡ a
zero_add a = omega (arith, ints)

pub neg_mul : (a : ℤ) → neg_ℤ a ≡ negsuc 0 *ℤ a
neg_mul a = omega (arith, ints)

-- what they mean
abbrev pub mono : List ℤ → Vars → ℤ
mono ρ [] = pos 1
mono ρ (x ∷ m) = nth ρ x *ℤ mono ρ m

abbrev pub poly : List ℤ → Poly → ℤ
poly ρ [] = pos 0
poly ρ (t ∷ p) = t.0 *ℤ mono ρ t.2 +ℤ poly ρ p

-- the same product in another order
mul_swap : (a b c d : ℤ) → (a *ℤ b) *ℤ (c *ℤ d) ≡ (a *ℤ c) *ℤ (b *ℤ d)
mul_swap a b c d =
    mul_assoc a b (c *ℤ d) ∙ ap (λ t. a *ℤ t) (sym (mul_assoc b c d) ∙ ap (λ t. t *ℤ d) (mul_comm b c) ∙ mul_assoc c b d) ∙ sym (mul_assoc a c (b *ℤ d))

add_mul : (a b c : ℤ) → (a +ℤ b) *ℤ c ≡ a *ℤ c +ℤ b *ℤ c
add_mul a b c = mul_comm (a +ℤ b) c ∙ mul_add c a b ∙ ap (λ t. t +ℤ c *ℤ b) (mul_comm c a) ∙ ap (λ t. a *ℤ c +ℤ t) (mul_comm c b)

mul_left : (a b c : ℤ) → a *ℤ (b *ℤ c) ≡ b *ℤ (a *ℤ c)
mul_left a b c = sym (mul_assoc a b c) ∙ ap (λ t. t *ℤ c) (mul_comm a b) ∙ mul_assoc b a c

-- the pieces of the normal form
vars_by : (x y : ℕ) (m n : Vars) (b : Bool) → eqb x y ≡ b → (same_vars m n ≡ true → m ≡ n) → elim b [ true ↦ same_vars m n | false ↦ false ] ≡ true → x ∷ m ≡ y ∷ n
vars_by x y m n true p h e =
    let j : x ≡ y = eqb→eq x y (subst T (sym p) tt) in
    let k : m ≡ n = h e in
    cc
vars_by x y m n false p h e = cc

vars_same : (m n : Vars) → same_vars m n ≡ true → m ≡ n
vars_same [] [] e = refl
vars_same [] (y ∷ n) e = cc
vars_same (x ∷ m) [] e = cc
vars_same (x ∷ m) (y ∷ n) e = vars_by x y m n (eqb x y) refl (vars_same m n) e

zero_is : (c : ℤ) → is_zero c ≡ true → c ≡ pos 0
zero_is (pos n) e = ap pos (eqb→eq n 0 (subst T (sym e) tt))
zero_is (negsuc n) e = cc

module _ (ρ : List ℤ) where
  keep_by : (c : ℤ) (k : ℕ) (m : Vars) (p : Poly) (z : Bool) → is_zero c ≡ z → poly ρ (cond z p ((c, k, m) ∷ p)) ≡ c *ℤ mono ρ m +ℤ poly ρ p
  keep_by c k m p true e = rw (zero_is c e) (omega (arith, ints))
  keep_by c k m p false e = refl

  keep_is : (c : ℤ) (k : ℕ) (m : Vars) (p : Poly) → poly ρ (keep c k m p) ≡ c *ℤ mono ρ m +ℤ poly ρ p
  keep_is c k m p = keep_by c k m p (is_zero c) refl

  into_is : (t : Term) (rest : Poly → Poly) (P : ℤ) → ((q : Poly) → poly ρ (rest q) ≡ P +ℤ poly ρ q) → (q : Poly) → poly ρ (into t rest q) ≡ (t.0 *ℤ mono ρ t.2 +ℤ P) +ℤ poly ρ q
  into_is t rest P h [] = rw (h []) (omega (arith, ints))
  into_is t rest P h (u ∷ q) = go (compare t.1 u.1) (into_is t rest P h q)
    where
      before : t.0 *ℤ mono ρ t.2 +ℤ poly ρ (rest (u ∷ q)) ≡ (t.0 *ℤ mono ρ t.2 +ℤ P) +ℤ (u.0 *ℤ mono ρ u.2 +ℤ poly ρ q)
      before = rw (h (u ∷ q)) (sym (add_assoc (t.0 *ℤ mono ρ t.2) P (u.0 *ℤ mono ρ u.2 +ℤ poly ρ q)))

      gather : (x y p r : ℤ) → (x +ℤ y) +ℤ (p +ℤ r) ≡ (x +ℤ p) +ℤ (y +ℤ r)
      gather x y p r = omega (arith, ints)

      pass : (x y p r : ℤ) → y +ℤ ((x +ℤ p) +ℤ r) ≡ (x +ℤ p) +ℤ (y +ℤ r)
      pass x y p r = omega (arith, ints)

      met : (b : Bool) → same_vars t.2 u.2 ≡ b → poly ρ (elim b [ true ↦ keep (t.0 +ℤ u.0) t.1 t.2 (rest q) | false ↦ t ∷ rest (u ∷ q) ]) ≡ (t.0 *ℤ mono ρ t.2 +ℤ P) +ℤ (u.0 *ℤ mono ρ u.2 +ℤ poly ρ q)
      met true e = keep_is (t.0 +ℤ u.0) t.1 t.2 (rest q) ∙ rw (← vars_same t.2 u.2 e, add_mul t.0 u.0 (mono ρ t.2), h q) (gather (t.0 *ℤ mono ρ t.2) (u.0 *ℤ mono ρ t.2) P (poly ρ q))
      met false e = before

      go : (o : Ordering) → poly ρ (into t rest q) ≡ (t.0 *ℤ mono ρ t.2 +ℤ P) +ℤ poly ρ q → poly ρ (elim o [ Ordering.lt ↦ t ∷ rest (u ∷ q) | Ordering.eq ↦ elim (same_vars t.2 u.2) [ true ↦ keep (t.0 +ℤ u.0) t.1 t.2 (rest q) | false ↦ t ∷ rest (u ∷ q) ] | Ordering.gt ↦ u ∷ into t rest q ]) ≡ (t.0 *ℤ mono ρ t.2 +ℤ P) +ℤ (u.0 *ℤ mono ρ u.2 +ℤ poly ρ q)
      go Ordering.lt k = before
      go Ordering.eq k = met (same_vars t.2 u.2) refl
      go Ordering.gt k = rw k (pass (t.0 *ℤ mono ρ t.2) (u.0 *ℤ mono ρ u.2) P (poly ρ q))

  plus_is : (p q : Poly) → poly ρ (plus p q) ≡ poly ρ p +ℤ poly ρ q
  plus_is [] q = sym (zero_add (poly ρ q))
  plus_is (t ∷ p) q = into_is t (plus p) (poly ρ p) (plus_is p) q

  ins_by : (x y : ℕ) (ys : Vars) (b : Bool) → mono ρ (ins x ys) ≡ nth ρ x *ℤ mono ρ ys → mono ρ (elim b [ true ↦ y ∷ ins x ys | false ↦ x ∷ (y ∷ ys) ]) ≡ nth ρ x *ℤ (nth ρ y *ℤ mono ρ ys)
  ins_by x y ys true h = rw h (mul_left (nth ρ y) (nth ρ x) (mono ρ ys))
  ins_by x y ys false h = refl

  ins_is : (x : ℕ) (m : Vars) → mono ρ (ins x m) ≡ nth ρ x *ℤ mono ρ m
  ins_is x [] = refl
  ins_is x (y ∷ ys) = ins_by x y ys (ltb y x) (ins_is x ys)

  join_is : (m n : Vars) → mono ρ (join m n) ≡ mono ρ m *ℤ mono ρ n
  join_is [] n = omega (arith, ints)
  join_is (x ∷ m) n = ins_is x (join m n) ∙ rw (join_is m n) (sym (mul_assoc (nth ρ x) (mono ρ m) (mono ρ n)))

  scale_is : (t : Term) (p : Poly) → poly ρ (scale t p) ≡ (t.0 *ℤ mono ρ t.2) *ℤ poly ρ p
  scale_is t [] = sym (mul_zero (t.0 *ℤ mono ρ t.2))
  scale_is t (u ∷ p) =
      rw (scale_is t p, join_is t.2 u.2, mul_swap t.0 u.0 (mono ρ t.2) (mono ρ u.2)) (sym (mul_add (t.0 *ℤ mono ρ t.2) (u.0 *ℤ mono ρ u.2) (poly ρ p)))

  times_is : (p q : Poly) → poly ρ (times p q) ≡ poly ρ p *ℤ poly ρ q
  times_is [] q = omega (arith, ints)
  times_is (t ∷ p) q =
      plus_is (scale t q) (times p q) ∙ rw (scale_is t q, times_is p q) (sym (add_mul (t.0 *ℤ mono ρ t.2) (poly ρ p) (poly ρ q)))

  minus_is : (p : Poly) → poly ρ (scale (negsuc 0, 0, []) p) ≡ neg_ℤ (poly ρ p)
  minus_is p = scale_is (negsuc 0, 0, []) p ∙ omega (arith, ints)

  norm_is : (e : Ex) → poly ρ (norm e) ≡ eval ρ e
  norm_is (con z) = keep_is z 0 [] [] ∙ omega (arith, ints)
  norm_is (var n) = omega (arith, ints)
  norm_is (a ⊕ b) = plus_is (norm a) (norm b) ∙ rw (norm_is a, norm_is b)
  norm_is (a ⊖ b) = plus_is (norm a) (scale (negsuc 0, 0, []) (norm b)) ∙ rw (minus_is (norm b), norm_is a, norm_is b)
  norm_is (a ⊗ b) = times_is (norm a) (norm b) ∙ rw (norm_is a, norm_is b)
  norm_is (neg a) = minus_is (norm a) ∙ rw (norm_is a)

pub ring : NormalFormDecides
ring ρ a b h = sym (norm_is ρ a) ∙ ap (poly ρ) h ∙ norm_is ρ b

no_more : (b c l r : ℤ) → l ≡ r → b +ℤ c *ℤ (l -ℤ r) ≡ b
no_more b c l r e = rw e (ap (λ t. b +ℤ c *ℤ t) (gone r) ∙ ap (λ t. b +ℤ t) (mul_zero c) ∙ add_zero b)
  where
    gone : (z : ℤ) → z -ℤ z ≡ pos 0
    gone z = omega (arith, ints)

adding_is : (ρ : List ℤ) (hs : List Known) → Holds ρ hs → (b : Ex) → eval ρ (adding b hs) ≡ eval ρ b
adding_is ρ [] k b = refl
adding_is ρ (h ∷ hs) k b =
    adding_is ρ hs k.1 (b ⊕ h.times_of ⊗ (h.left ⊖ h.right)) ∙ no_more (eval ρ b) (eval ρ h.times_of) (eval ρ h.left) (eval ρ h.right) k.0

pub ring_from : EquationsCarry
ring_from ρ hs k a b e = ring ρ a (adding b hs) e ∙ adding_is ρ hs k b
