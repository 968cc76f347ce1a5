-- Sums of products of coordinates' differences: counted round 64 bits, and exact in range. The main lemmas are `twisted` and `orientation_fits`.
use Rattle.std.proofs.Common.{◌≡◌, ℕ, ◌+◌, ◌-◌, ◌*◌, ◌%◌, ◌^◌, ◌<◌, true, [], ◌∷◌, ℤ, pos, negsuc, ◌+ℤ◌, ◌-ℤ◌, ◌*ℤ◌, neg_ℤ, ◌≤ℤ◌, sym, refl, ap, ap₂, ◌∙◌, subst, arith, w32, w64, SFits, to_z, of_z, rules}
use lib.Signed.{le_z}
use Rattle.std.specs.Int.{int_wrap}
use Rattle.std.proofs.lemmas.Int.{to_z-of_z, wrapping_mul_is, wrapping_sub-bits, int_wrap-add_left, int_wrap-sub_right, int_wrap_fits}
use Rattle.std.proofs.lemmas.Bool.{and_parts}
use Rattle.algebra.specs.Polynomial.{con, var, ◌⊕◌, ◌⊖◌, ◌⊗◌}
use Rattle.algebra.proofs.Ring.{ring}
use Rattle.algebra.proofs.Signs.{lin, mul_nonneg}
use Rattle.plane.specs.declared.point.Point.{Point}
use Rattle.plane.specs.declared.halfsegment.Halfsegment.{Halfsegment}
use Rattle.plane.specs.Points.{coordinate, in_range, orientation}
use Rattle.plane.specs.Rows.{fit, reach}

-- what `difference` answers, of numbers that went to bits and back
pub difference_is : (r x y : ℤ) → SFits w32 x → SFits w32 y → r ≡ to_z w32 (of_z w32 x) -ℤ to_z w32 (of_z w32 y) → r ≡ x -ℤ y
difference_is r x y f g e = e ∙ (λ i. to_z-of_z w32 x f i -ℤ to_z-of_z w32 y g i)

-- the bits of a product, read back
product_bits : (p q : ℤ) → SFits w64 p → SFits w64 q → to_z w64 ((of_z w64 p * of_z w64 q) % 2 ^ 64) ≡ int_wrap w64 (p *ℤ q)
product_bits p q f g = wrapping_mul_is w64 p q f g

below : (n : ℕ) → n % 2 ^ 64 < 2 ^ 64
below n = omega arith

-- the difference of two products, counted round 64 bits
pub twisted : (p q r s : ℤ) → SFits w64 p → SFits w64 q → SFits w64 r → SFits w64 s → to_z w64 (((of_z w64 p * of_z w64 q) % 2 ^ 64 + (2 ^ 64 - (of_z w64 r * of_z w64 s) % 2 ^ 64)) % 2 ^ 64) ≡ int_wrap w64 (p *ℤ q -ℤ r *ℤ s)
twisted p q r s fp fq fr fs =
    wrapping_sub-bits w64 ((of_z w64 p * of_z w64 q) % 2 ^ 64) ((of_z w64 r * of_z w64 s) % 2 ^ 64) (below (of_z w64 p * of_z w64 q)) (below (of_z w64 r * of_z w64 s))
    ∙ (λ i. int_wrap w64 (product_bits p q fp fq i -ℤ product_bits r s fr fs i))
    ∙ int_wrap-sub_right w64 (int_wrap w64 (p *ℤ q)) (r *ℤ s)
    ∙ int_wrap-add_left w64 (p *ℤ q) (neg_ℤ (r *ℤ s))

-- the difference of two coordinates, and the product of two such
record Small (z : ℤ) : Type 0 where
  pub low : negsuc 19999999 ≤ℤ z
  pub high : z ≤ℤ pos 20000000

record Modest (z : ℤ) : Type 0 where
  pub low : negsuc 399999999999999 ≤ℤ z
  pub high : z ≤ℤ pos 400000000000000

abbrev M : ℤ
M = pos 20000000

product_modest : (a b : ℤ) → Small a → Small b → Modest (a *ℤ b)
product_modest a b p q =
    let al = p.low in
    let ah = p.high in
    let bl = q.low in
    let bh = q.high in
    let e₁ = mul_nonneg (M -ℤ a) (M +ℤ b) (omega (arith, lin)) (omega (arith, lin)) in
    let e₂ = mul_nonneg (M +ℤ a) (M -ℤ b) (omega (arith, lin)) (omega (arith, lin)) in
    let e₃ = mul_nonneg (M -ℤ a) (M -ℤ b) (omega (arith, lin)) (omega (arith, lin)) in
    let e₄ = mul_nonneg (M +ℤ a) (M +ℤ b) (omega (arith, lin)) (omega (arith, lin)) in
    let r₁ = ring (a ∷ b ∷ []) ((con M ⊖ var 0) ⊗ (con M ⊕ var 1) ⊕ (con M ⊕ var 0) ⊗ (con M ⊖ var 1)) (con (pos 800000000000000) ⊖ con (pos 2) ⊗ (var 0 ⊗ var 1)) refl in
    let r₂ = ring (a ∷ b ∷ []) ((con M ⊖ var 0) ⊗ (con M ⊖ var 1) ⊕ (con M ⊕ var 0) ⊗ (con M ⊕ var 1)) (con (pos 800000000000000) ⊕ con (pos 2) ⊗ (var 0 ⊗ var 1)) refl in
    let t = ring ((a *ℤ b) ∷ []) (con (pos 2) ⊗ var 0) (var 0 ⊕ var 0) refl in
    record { low = omega (arith, lin); high = omega (arith, lin) }

modest_fits : (z : ℤ) → Modest z → SFits w64 z
modest_fits z m = let a = m.low in let b = m.high in search rules

modest_difference : (y z : ℤ) → Modest y → Modest z → SFits w64 (y -ℤ z)
modest_difference y z m n = let a = m.low in let b = m.high in let c = n.low in let d = n.high in search rules

modest_sum : (y z : ℤ) → Modest y → Modest z → SFits w64 (y +ℤ z)
modest_sum y z m n = let a = m.low in let b = m.high in let c = n.low in let d = n.high in search rules

small_difference : (x y : ℤ) → coordinate x ≡ true → coordinate y ≡ true → Small (x -ℤ y)
small_difference x y e f =
    let p = and_parts (le_z (negsuc 9999999) x) (le_z x (pos 10000000)) e in
    let q = and_parts (le_z (negsuc 9999999) y) (le_z y (pos 10000000)) f in
    let p0 = p.0 in
    let p1 = p.1 in
    let q0 = q.0 in
    let q1 = q.1 in
    record { low = omega (arith, lin); high = omega (arith, lin) }

coordinates : (p : Point) → in_range p ≡ true → (coordinate p.x ≡ true) × (coordinate p.y ≡ true)
coordinates p e = and_parts (coordinate p.x) (coordinate p.y) e

pub orientation_fits : (a b c : Point) → in_range a ≡ true → in_range b ≡ true → in_range c ≡ true → SFits w64 (orientation a b c)
orientation_fits a b c e f g =
    let p = coordinates a e in
    let q = coordinates b f in
    let r = coordinates c g in
    modest_difference ((a.x -ℤ c.x) *ℤ (b.y -ℤ c.y)) ((b.x -ℤ c.x) *ℤ (a.y -ℤ c.y))
    (product_modest (a.x -ℤ c.x) (b.y -ℤ c.y) (small_difference a.x c.x p.0 r.0) (small_difference b.y c.y q.1 r.1))
    (product_modest (b.x -ℤ c.x) (a.y -ℤ c.y) (small_difference b.x c.x q.0 r.0) (small_difference a.y c.y p.1 r.1))

pub orientation_exact : (a b c : Point) → in_range a ≡ true → in_range b ≡ true → in_range c ≡ true → int_wrap w64 (orientation a b c) ≡ orientation a b c
orientation_exact a b c e f g = int_wrap_fits w64 (orientation a b c) (orientation_fits a b c e f g)

-- both ends of a halfsegment that fits are in range
pub fit_ends : (h : Halfsegment) → fit h ≡ true → (in_range h.dominating ≡ true) × (in_range h.far ≡ true)
fit_ends h e = grind arith

-- the square of the length of one that fits, by parts x and y that went to bits and back
pub record Reached (h : Halfsegment) (x y : ℤ) : Type 0 where
  pub x_fits : SFits w64 (x *ℤ x)
  pub y_fits : SFits w64 (y *ℤ y)
  pub sum_fits : SFits w64 (to_z w64 (of_z w64 (x *ℤ x)) +ℤ to_z w64 (of_z w64 (y *ℤ y)))
  pub sum : to_z w64 (of_z w64 (to_z w64 (of_z w64 (x *ℤ x)) +ℤ to_z w64 (of_z w64 (y *ℤ y)))) ≡ reach h

pub reached : (h : Halfsegment) → fit h ≡ true → (x y : ℤ) → x ≡ h.far.x -ℤ h.dominating.x → y ≡ h.far.y -ℤ h.dominating.y → Reached h x y
reached h e x y p q = record { x_fits = fx; y_fits = fy; sum_fits = subst (SFits w64) (sym both) fs; sum = ap (λ z. to_z w64 (of_z w64 z)) both ∙ to_z-of_z w64 (x *ℤ x +ℤ y *ℤ y) fs ∙ (λ i. p i *ℤ p i +ℤ q i *ℤ q i) }
  where
    far : (coordinate h.far.x ≡ true) × (coordinate h.far.y ≡ true)
    far = coordinates h.far (fit_ends h e).1

    near : (coordinate h.dominating.x ≡ true) × (coordinate h.dominating.y ≡ true)
    near = coordinates h.dominating (fit_ends h e).0

    squared : (z a b : ℤ) → z ≡ a -ℤ b → coordinate a ≡ true → coordinate b ≡ true → Modest (z *ℤ z)
    squared z a b r f g = let s = subst Small (sym r) (small_difference a b f g) in product_modest z z s s

    mx : Modest (x *ℤ x)
    mx = squared x h.far.x h.dominating.x p far.0 near.0

    my : Modest (y *ℤ y)
    my = squared y h.far.y h.dominating.y q far.1 near.1

    fx : SFits w64 (x *ℤ x)
    fx = modest_fits (x *ℤ x) mx

    fy : SFits w64 (y *ℤ y)
    fy = modest_fits (y *ℤ y) my

    fs : SFits w64 (x *ℤ x +ℤ y *ℤ y)
    fs = modest_sum (x *ℤ x) (y *ℤ y) mx my

    both : to_z w64 (of_z w64 (x *ℤ x)) +ℤ to_z w64 (of_z w64 (y *ℤ y)) ≡ x *ℤ x +ℤ y *ℤ y
    both = ap₂ ◌+ℤ◌ (to_z-of_z w64 (x *ℤ x) fx) (to_z-of_z w64 (y *ℤ y) fy)
