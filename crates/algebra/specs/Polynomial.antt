-- Polynomials over the integers: expressions, what they are worth, and the normal form by which two are compared.
use Rattle.std.specs.Prelude.{◌≡◌, ℕ, zero, suc, ◌+◌, ◌^◌, Bool, true, false, cond, List, [], ◌∷◌, ℤ, pos, negsuc, ◌+ℤ◌, ◌-ℤ◌, ◌*ℤ◌, neg_ℤ, ◌==◌, nat_lt}
use Prim.Native.Nat.{Ordering}
use Prim.Native.Nat.{compare}

-- expressions over variables that go by number
infixl 6 ◌⊕◌
infixl 6 ◌⊖◌
infixl 7 ◌⊗◌
pub data Ex : Type 0 where
  con : ℤ → Ex
  var : ℕ → Ex
  ◌⊕◌ : Ex → Ex → Ex
  ◌⊖◌ : Ex → Ex → Ex
  ◌⊗◌ : Ex → Ex → Ex
  neg : Ex → Ex

abbrev pub nought : Ex
nought = con (pos 0)

abbrev pub unit : Ex
unit = con (pos 1)

abbrev pub minus_unit : Ex
minus_unit = con (negsuc 0)

abbrev pub nth : List ℤ → ℕ → ℤ
nth [] n = pos 0
nth (z ∷ zs) zero = z
nth (z ∷ zs) (suc n) = nth zs n

abbrev pub eval : List ℤ → Ex → ℤ
eval ρ (con z) = z
eval ρ (var n) = nth ρ n
eval ρ (a ⊕ b) = eval ρ a +ℤ eval ρ b
eval ρ (a ⊖ b) = eval ρ a -ℤ eval ρ b
eval ρ (a ⊗ b) = eval ρ a *ℤ eval ρ b
eval ρ (neg a) = neg_ℤ (eval ρ a)

-- A term is a coefficient with a monomial: a number by which monomials are ordered, and the variables in order. The number has a byte for the exponent of each variable,
-- so that it is compared at once and a product adds it; nothing rests on it but that equal polynomials come to be equal lists.
abbrev pub Vars : Type 0
Vars = List ℕ

abbrev pub Term : Type 0
Term = (_ : ℤ) × ℕ × Vars

-- terms in order
abbrev pub Poly : Type 0
Poly = List Term

abbrev pub is_zero : ℤ → Bool
is_zero (pos n) = n == 0
is_zero (negsuc n) = false

abbrev pub keep : ℤ → ℕ → Vars → Poly → Poly
keep c k m p = cond (is_zero c) p ((c, k, m) ∷ p)

abbrev pub same_vars : Vars → Vars → Bool
same_vars [] [] = true
same_vars [] (y ∷ n) = false
same_vars (x ∷ m) [] = false
same_vars (x ∷ m) (y ∷ n) = elim (x == y) [ true ↦ same_vars m n | false ↦ false ]

-- a term and what `rest` adds, merged into a polynomial
abbrev pub into : Term → (Poly → Poly) → Poly → Poly
into t rest [] = t ∷ rest []
into t rest (u ∷ q) = elim (compare t.1 u.1) [ Ordering.lt ↦ t ∷ rest (u ∷ q) | Ordering.eq ↦ elim (same_vars t.2 u.2) [ true ↦ keep (t.0 +ℤ u.0) t.1 t.2 (rest q) | false ↦ t ∷ rest (u ∷ q) ] | Ordering.gt ↦ u ∷ into t rest q ]

abbrev pub plus : Poly → Poly → Poly
plus [] q = q
plus (t ∷ p) q = into t (plus p) q

abbrev pub ins : ℕ → Vars → Vars
ins x [] = x ∷ []
ins x (y ∷ ys) = elim (nat_lt y x) [ true ↦ y ∷ ins x ys | false ↦ x ∷ (y ∷ ys) ]

abbrev pub join : Vars → Vars → Vars
join [] n = n
join (x ∷ m) n = ins x (join m n)

abbrev pub scale : Term → Poly → Poly
scale t [] = []
scale t (u ∷ p) = (t.0 *ℤ u.0, t.1 + u.1, join t.2 u.2) ∷ scale t p

abbrev pub times : Poly → Poly → Poly
times [] q = []
times (t ∷ p) q = plus (scale t q) (times p q)

abbrev pub norm : Ex → Poly
norm (con z) = keep z 0 [] []
norm (var n) = (pos 1, 256 ^ n, n ∷ []) ∷ []
norm (a ⊕ b) = plus (norm a) (norm b)
norm (a ⊖ b) = plus (norm a) (scale (negsuc 0, 0, []) (norm b))
norm (a ⊗ b) = times (norm a) (norm b)
norm (neg a) = scale (negsuc 0, 0, []) (norm a)

-- expressions with one normal form are worth the same, whatever the variables stand for
abbrev pub NormalFormDecides : Type 0
NormalFormDecides = (ρ : List ℤ) (a b : Ex) → norm a ≡ norm b → eval ρ a ≡ eval ρ b

-- from equations: a ≡ b follows where a − b is a sum of multiples c · (l − r) of the differences of known equations l ≡ r
pub record Known : Type 0 where
  pub times_of : Ex
  pub left : Ex
  pub right : Ex

-- c times (l − r)
abbrev pub by : Ex → Ex → Ex → Known
by c l r = record { times_of = c; left = l; right = r }

abbrev pub Holds : List ℤ → List Known → Type 0
Holds ρ [] = Unit {0}
Holds ρ (h ∷ hs) = (eval ρ h.left ≡ eval ρ h.right) × Holds ρ hs

abbrev pub adding : Ex → List Known → Ex
adding b [] = b
adding b (h ∷ hs) = adding (b ⊕ h.times_of ⊗ (h.left ⊖ h.right)) hs

-- a ≡ b follows from known equations where the normal forms agree once their multiples are added
abbrev pub EquationsCarry : Type 0
EquationsCarry = (ρ : List ℤ) (hs : List Known) → Holds ρ hs → (a b : Ex) → norm a ≡ norm (adding b hs) → eval ρ a ≡ eval ρ b
