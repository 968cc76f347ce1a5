-- Points: `same_point` and `precedes` as propositions and back, and `precedes` as a strict total order (`precedes_transitive`, `precedes_comparable`); `lex` compares two points. `==` says `same_point` (`equal_points`).
use Rattle.std.proofs.Common.{◌≡◌, true, false, ◌⊎◌, ℤ, ◌≤ℤ◌, ◌<ℤ◌, Decides, ap, inl, inr, arith}
use Rattle.std.proofs.lemmas.Bool.{and_parts, and_from}
use Rattle.std.proofs.lemmas.Int.{ints}
use Rattle.algebra.proofs.Signs.{lin, order}
use Rattle.plane.specs.declared.point.Point.{Point}
use Rattle.plane.specs.contracts.point.PointPartialEq.TheImpl as equality
use Rattle.plane.specs.Points.{eq_int, same_point, precedes}

-- equal numbers
pub eq_int_is : (a b : ℤ) → eq_int a b ≡ true → a ≡ b
eq_int_is a b e = grind (arith, lin)

pub eq_int_holds : (a b : ℤ) → a ≡ b → eq_int a b ≡ true
eq_int_holds a b e = grind (arith, lin)

-- equal points
pub points_equal : (p q : Point) → p.x ≡ q.x → p.y ≡ q.y → p ≡ q
points_equal p q e f = λ i. record { x = e i; y = f i }

pub xs_of : {s t : Point} → s ≡ t → s.x ≡ t.x
xs_of e = ap (λ u. u.x) e

pub ys_of : {s t : Point} → s ≡ t → s.y ≡ t.y
ys_of e = ap (λ u. u.y) e

pub same_point_is : (p q : Point) → same_point p q ≡ true → p ≡ q
same_point_is p q e =
    let b = and_parts (eq_int p.x q.x) (eq_int p.y q.y) e in
    points_equal p q (eq_int_is p.x q.x b.0) (eq_int_is p.y q.y b.1)

pub same_point_holds : (p q : Point) → p ≡ q → same_point p q ≡ true
same_point_holds p q e =
    and_from (eq_int p.x q.x) (eq_int p.y q.y) (eq_int_holds p.x q.x (xs_of e)) (eq_int_holds p.y q.y (ys_of e))

-- the order as a proposition
abbrev pub Before : Point → Point → Type 0
Before p q = (p.x <ℤ q.x) ⊎ ((p.x ≡ q.x) × (p.y <ℤ q.y))

pub before_of : (p q : Point) → precedes p q ≡ true → Before p q
before_of p q e = go (order p.x q.x)
  where
    go : (p.x <ℤ q.x) ⊎ ((p.x ≡ q.x) ⊎ (q.x <ℤ p.x)) → Before p q
    go (inl h) = inl h
    go (inr (inl h)) = inr (h, grind (arith, lin))
    go (inr (inr h)) = absurd (grind (arith, lin))

pub of_before : (p q : Point) → Before p q → precedes p q ≡ true
of_before p q (inl h) = grind (arith, lin)
of_before p q (inr (e, h)) = grind (arith, lin)

pub precedes_decides : (p q : Point) → Decides (precedes p q) (Before p q)
precedes_decides p q = (before_of p q, of_before p q)

-- no point precedes itself, nor each of two the other
pub precedes_self : (p : Point) → precedes p p ≡ false
precedes_self p = grind (arith, lin)

pub precedes_back : (p q : Point) → precedes p q ≡ true → precedes q p ≡ false
precedes_back p q e = grind (arith, lin)

pub before_apart : (p q : Point) → Before p q → ¬ (p ≡ q)
before_apart p q (inl h) e = let f = xs_of e in omega (arith, lin)
before_apart p q (inr h) e = let f = ys_of e in omega (arith, lin)

pub rightward : (p q : Point) → Before p q → p.x ≤ℤ q.x
rightward p q (inl h) = omega (arith, lin)
rightward p q (inr h) = omega (arith, lin)

pub before_trans : (p q r : Point) → Before p q → Before q r → Before p r
before_trans p q r (inl h) (inl k) = inl (omega (arith, lin))
before_trans p q r (inl h) (inr k) = inl (omega (arith, lin))
before_trans p q r (inr h) (inl k) = inl (omega (arith, lin))
before_trans p q r (inr h) (inr k) = inr (omega (arith, lin), omega (arith, lin))

pub precedes_transitive : (p q r : Point) → precedes p q ≡ true → precedes q r ≡ true → precedes p r ≡ true
precedes_transitive p q r e f = of_before p r (before_trans p q r (before_of p q e) (before_of q r f))

-- two points: one before the other, or one point
pub data Lex (p q : Point) : Type 0 where
  first : Before p q → Lex p q
  last : Before q p → Lex p q
  one : p ≡ q → Lex p q

pub lex : (p q : Point) → Lex p q
lex p q = go (order p.x q.x) (order p.y q.y)
  where
    go : (p.x <ℤ q.x) ⊎ ((p.x ≡ q.x) ⊎ (q.x <ℤ p.x)) → (p.y <ℤ q.y) ⊎ ((p.y ≡ q.y) ⊎ (q.y <ℤ p.y)) → Lex p q
    go (inl h) k = first (inl h)
    go (inr (inr h)) k = last (inl h)
    go (inr (inl h)) (inl k) = first (inr (h, k))
    go (inr (inl h)) (inr (inl k)) = one (points_equal p q h k)
    go (inr (inl h)) (inr (inr k)) = last (inr (omega (arith, lin), k))

pub precedes_comparable : (p q : Point) → ¬ (p ≡ q) → (precedes p q ≡ true) ⊎ (precedes q p ≡ true)
precedes_comparable p q n = go (lex p q)
  where
    go : Lex p q → (precedes p q ≡ true) ⊎ (precedes q p ≡ true)
    go (first h) = inl (of_before p q h)
    go (one e) = absurd (n e)
    go (last h) = inr (of_before q p h)

-- `==`, which is derived
pub equal_points : (p q : Point) → equality.ghosts.eq p q ≡ same_point p q
equal_points p q = grind (arith, ints)
