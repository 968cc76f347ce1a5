-- The order of halfsegments that have a length is strict and total: `row_order`.
use Rattle.std.proofs.Common.{◌≡◌, Bool, true, false, ◌⊎◌, [], ◌∷◌, ℤ, pos, ◌+ℤ◌, ◌-ℤ◌, ◌*ℤ◌, neg_ℤ, ◌<ℤ◌, sym, refl, ap, ◌∙◌, inl, inr, arith}
use Rattle.algebra.specs.Polynomial.{con, var, neg, ◌⊕◌, ◌⊖◌, ◌⊗◌, by, nought}
use Rattle.algebra.proofs.Ring.{ring, ring_from}
use Rattle.algebra.proofs.Signs.{lin, order, Tri, below, zeroed, above, tri, mul_pos, neg_mul_neg, cancel_zero, square}
use Rattle.plane.specs.declared.halfsegment.Halfsegment.{Halfsegment}
use Rattle.plane.specs.Points.{orientation}
use Rattle.plane.specs.Rows.{left, reach, swept_first, by_side, earlier, comes_before, Long, RowOrder}
use Rattle.plane.specs.PointLaws.{Lex, first, last, one, lex, points_equal, of_before}
use Rattle.plane.specs.RowChains.{cross, cross_e, size, size_e, along, along_e, Swept, OneSide, across, rise, alike, Sweeps, sweeps_back, orientation_is, First, first_back, comes_before_self, comes_before_transitive}

-- only the vector 0 has the size 0
size_zero : (x y : ℤ) → size x y ≡ pos 0 → (x ≡ pos 0) × (y ≡ pos 0)
size_zero x y e = (part x y (tri x) e, part y x (tri y) (omega (arith, lin)))
  where
    part : (u v : ℤ) → Tri u → size u v ≡ pos 0 → u ≡ pos 0
    part u v (below h) e = absurd (omega (arith, lin, neg_mul_neg u u h h, square v))
    part u v (zeroed h) e = h
    part u v (above h) e = absurd (omega (arith, lin, mul_pos u u h h, square v))

-- two of one direction and one size are one: the sizes of p + q and of p − q have the product 0, and p + q is not 0
one_vector : (px py qx qy : ℤ) → OneSide px py qx qy qx qy → cross px py qx qy ≡ pos 0 → size px py ≡ size qx qy → (px ≡ qx) × (py ≡ qy)
one_vector px py qx qy o c e = (omega (arith, lin, gone.0), omega (arith, lin, gone.1))
  where
    sum : ℤ
    sum = size (px +ℤ qx) (py +ℤ qy)

    opposed : (px +ℤ qx ≡ pos 0) × (py +ℤ qy ≡ pos 0) → along o.m o.k px py +ℤ along o.m o.k qx qy ≡ pos 0
    opposed z =
        ring_from (px ∷ py ∷ qx ∷ qy ∷ o.m ∷ o.k ∷ []) (by (var 4) (var 0 ⊕ var 2) nought ∷ by (var 5) (var 1 ⊕ var 3) nought ∷ []) (z.0, (z.1, tt))
        (along_e (var 4) (var 5) (var 0) (var 1) ⊕ along_e (var 4) (var 5) (var 2) (var 3)) nought refl

    some : Tri sum → pos 0 <ℤ sum
    some (below h) = absurd (omega (arith, lin, square (px +ℤ qx), square (py +ℤ qy)))
    some (zeroed h) = absurd (omega (arith, lin, o.at_p, o.at_q, opposed (size_zero (px +ℤ qx) (py +ℤ qy) h)))
    some (above h) = h

    product : sum *ℤ size (px -ℤ qx) (py -ℤ qy) ≡ pos 0
    product =
        ring_from (px ∷ py ∷ qx ∷ qy ∷ [])
        (by (con (pos 4) ⊗ cross_e (var 0) (var 1) (var 2) (var 3)) (cross_e (var 0) (var 1) (var 2) (var 3)) nought ∷ by (size_e (var 0) (var 1) ⊖ size_e (var 2) (var 3)) (size_e (var 0) (var 1)) (size_e (var 2) (var 3)) ∷ []) (c, (e, tt))
        (size_e (var 0 ⊕ var 2) (var 1 ⊕ var 3) ⊗ size_e (var 0 ⊖ var 2) (var 1 ⊖ var 3)) nought refl

    gone : (px -ℤ qx ≡ pos 0) × (py -ℤ qy ≡ pos 0)
    gone = size_zero (px -ℤ qx) (py -ℤ qy) (cancel_zero sum (size (px -ℤ qx) (py -ℤ qy)) (some (tri sum)) product)

swept_comparable : (px py qx qy : ℤ) → OneSide px py qx qy qx qy → ((px ≡ qx) × (py ≡ qy)) ⊎ (Swept (cross px py qx qy) (size px py) (size qx qy) ⊎ Swept (cross qx qy px py) (size qx qy) (size px py))
swept_comparable px py qx qy o = go (tri (cross px py qx qy)) (order (size px py) (size qx qy))
  where
    back : cross qx qy px py ≡ neg_ℤ (cross px py qx qy)
    back = ring (px ∷ py ∷ qx ∷ qy ∷ []) (cross_e (var 2) (var 3) (var 0) (var 1)) (neg (cross_e (var 0) (var 1) (var 2) (var 3))) refl

    go : Tri (cross px py qx qy) → (size px py <ℤ size qx qy) ⊎ ((size px py ≡ size qx qy) ⊎ (size qx qy <ℤ size px py)) → ((px ≡ qx) × (py ≡ qy)) ⊎ (Swept (cross px py qx qy) (size px py) (size qx qy) ⊎ Swept (cross qx qy px py) (size qx qy) (size px py))
    go (below h) s = inr (inr (inl (omega (arith, lin, back))))
    go (above h) s = inr (inl (inl h))
    go (zeroed h) (inl s) = inr (inl (inr (h, s)))
    go (zeroed h) (inr (inl s)) = inl (one_vector px py qx qy o h s)
    go (zeroed h) (inr (inr s)) = inr (inr (inr (omega (arith, lin, back), s)))

earlier_either : (g h gh hg : Bool) → (g ≡ h → (gh ≡ true) ⊎ (hg ≡ true)) → (by_side g h gh ≡ true) ⊎ (by_side h g hg ≡ true)
earlier_either true true gh hg f = f refl
earlier_either true false gh hg f = inr refl
earlier_either false true gh hg f = inl refl
earlier_either false false gh hg f = f refl

-- of one dominating point and one vector: one halfsegment
one_of : (g h : Halfsegment) → g.dominating ≡ h.dominating → (across g ≡ across h) × (rise g ≡ rise h) → g ≡ h
one_of g h u v =
    let x : g.far.x ≡ h.far.x = omega (arith, lin, ap (λ p. p.x) u, v.0) in
    let y : g.far.y ≡ h.far.y = omega (arith, lin, ap (λ p. p.y) u, v.1) in
    λ i. record { dominating = u i; far = points_equal g.far h.far x y i }

pub one_row : (g h : Halfsegment) → Long g → Long h → g.dominating ≡ h.dominating → left g ≡ left h → orientation g.far h.far g.dominating ≡ pos 0 → reach g ≡ reach h → g ≡ h
one_row g h lg lh u e c r =
    one_of g h u (one_vector (across g) (rise g) (across h) (rise h) (alike g h h lg lh lh e refl) (sym (orientation_is g h u) ∙ c) r)

earlier_comparable : (g h : Halfsegment) → Long g → Long h → ¬ (g ≡ h) → g.dominating ≡ h.dominating → (earlier g h ≡ true) ⊎ (earlier h g ≡ true)
earlier_comparable g h lg lh n u =
    earlier_either (left g) (left h) (swept_first g h) (swept_first h g) (λ e. go (swept_comparable (across g) (rise g) (across h) (rise h) (alike g h h lg lh lh e refl)))
  where
    go : ((across g ≡ across h) × (rise g ≡ rise h)) ⊎ (Sweeps g h ⊎ Sweeps h g) → (swept_first g h ≡ true) ⊎ (swept_first h g ≡ true)
    go (inl v) = absurd (n (one_of g h u v))
    go (inr (inl s)) = inl (sweeps_back g h u s)
    go (inr (inr s)) = inr (sweeps_back h g (sym u) s)

first_comparable : (g h : Halfsegment) → Long g → Long h → ¬ (g ≡ h) → First g h ⊎ First h g
first_comparable g h lg lh n = go (lex g.dominating h.dominating)
  where
    there : (u : g.dominating ≡ h.dominating) → (earlier g h ≡ true) ⊎ (earlier h g ≡ true) → First g h ⊎ First h g
    there u (inl p) = inl (inr (u, p))
    there u (inr p) = inr (inr (sym u, p))

    go : Lex g.dominating h.dominating → First g h ⊎ First h g
    go (first p) = inl (inl (of_before g.dominating h.dominating p))
    go (one u) = there u (earlier_comparable g h lg lh n u)
    go (last p) = inr (inl (of_before h.dominating g.dominating p))

pub row_order : RowOrder
row_order = record { irreflexive = comes_before_self; transitive = comes_before_transitive; comparable = λ g h lg lh n. compared g h (first_comparable g h lg lh n) }
  where
    compared : (g h : Halfsegment) → First g h ⊎ First h g → (comes_before g h ≡ true) ⊎ (comes_before h g ≡ true)
    compared g h (inl p) = inl (first_back g h p)
    compared g h (inr p) = inr (first_back h g p)
