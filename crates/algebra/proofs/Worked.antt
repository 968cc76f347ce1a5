-- How to prove an equation or an order of ℤ that is not linear: one example of each way.
use Rattle.std.proofs.Common.{◌≡◌, true, ◌&&◌, [], ◌∷◌, ℤ, pos, ◌+ℤ◌, ◌-ℤ◌, ◌*ℤ◌, neg_ℤ, ◌≤ℤ◌, ◌<ℤ◌, sym, refl, ◌∙◌, arith}
use lib.Signed.{lt_z, le_z}
use Rattle.algebra.specs.Polynomial.{con, var, neg, ◌⊕◌, ◌⊖◌, ◌⊗◌, by, unit, norm}
use Rattle.algebra.proofs.Ring.{ring, ring_from}
use Rattle.algebra.proofs.Signs.{lin, sign, same_sign, Tri, below, zeroed, above, tri, mul_pos, mul_nonneg, cancel_pos, square}

-- an identity: the variables in a list, then both sides
square_of_sum : (a b : ℤ) → (a +ℤ b) *ℤ (a +ℤ b) ≡ a *ℤ a +ℤ pos 2 *ℤ (a *ℤ b) +ℤ b *ℤ b
square_of_sum a b = ring (a ∷ b ∷ []) ((var 0 ⊕ var 1) ⊗ (var 0 ⊕ var 1)) (var 0 ⊗ var 0 ⊕ con (pos 2) ⊗ (var 0 ⊗ var 1) ⊕ var 1 ⊗ var 1) refl

-- from equations: x y = u and u z = v give x (y z) = v, since x y z − v = z · (x y − u) + 1 · (u z − v)
chain : (x y z u v : ℤ) → x *ℤ y ≡ u → u *ℤ z ≡ v → x *ℤ (y *ℤ z) ≡ v
chain x y z u v e f =
    ring_from (x ∷ y ∷ z ∷ u ∷ v ∷ []) (by (var 2) (var 0 ⊗ var 1) (var 3) ∷ by unit (var 3 ⊗ var 2) (var 4) ∷ [])
    (e, (f, tt)) (var 0 ⊗ (var 1 ⊗ var 2)) (var 4) refl

-- an order: the identities and the signs of the products as facts for `omega (arith, lin, ..)`, which takes a product as an unknown
twice_product : (a b : ℤ) → (pos 2 *ℤ (a *ℤ b)) ≤ℤ (a *ℤ a +ℤ b *ℤ b)
twice_product a b =
    omega (arith, lin, square (a -ℤ b), ring (a ∷ b ∷ []) ((var 0 ⊖ var 1) ⊗ (var 0 ⊖ var 1)) (var 0 ⊗ var 0 ⊕ var 1 ⊗ var 1 ⊖ con (pos 2) ⊗ (var 0 ⊗ var 1)) refl)

-- a sign through two positive factors
one_sign : (d e P A F : ℤ) → pos 0 <ℤ d → pos 0 <ℤ e → F ≡ d *ℤ P → F ≡ e *ℤ A → sign P ≡ sign A
one_sign d e P A F h k p a = same_sign d e P A h k (sym p ∙ a)

-- a sign out of an equation: the other products have theirs, then the factor goes
pull : (d e x y w : ℤ) → pos 0 <ℤ d → pos 0 ≤ℤ e → pos 0 ≤ℤ y → pos 0 <ℤ w → d *ℤ x ≡ w +ℤ e *ℤ y → pos 0 <ℤ x
pull d e x y w hd he hy hw q = cancel_pos d x (omega (arith, lin)) (omega (arith, lin, mul_nonneg e y he hy))

-- by cases of a sign
square_zero : (x : ℤ) → (x *ℤ x ≡ pos 0) → x ≡ pos 0
square_zero x e = go (tri x)
  where
    go : Tri x → x ≡ pos 0
    go (below h) = absurd (omega (arith, lin, mul_pos (neg_ℤ x) (neg_ℤ x) (omega (arith, lin)) (omega (arith, lin)), ring (x ∷ []) (neg (var 0) ⊗ neg (var 0)) (var 0 ⊗ var 0) refl))
    go (zeroed h) = h
    go (above h) = absurd (omega (arith, lin, mul_pos x x h h))

-- tests of order in a Boolean goal
both_below : (a b c : ℤ) → (lt_z a b && lt_z b c) ≡ true → le_z a c ≡ true
both_below a b c e = grind (arith, lin)

-- Where `ring .. refl` is refused, see what the difference comes to: write the body `?` here, and the goal shows it,
-- as `(negsuc 1, 512, 1 ∷ 1 ∷ []) ∷ []` for −2 · v1 · v1
difference : norm ((var 0 ⊕ var 1) ⊗ (var 0 ⊖ var 1) ⊖ (var 0 ⊗ var 0 ⊖ var 1 ⊗ var 1)) ≡ []
difference = refl
