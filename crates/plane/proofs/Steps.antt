-- Steps of the tests in the code: numbers that went to bits and back, and tests that failed or held so far.
use Rattle.std.proofs.Common.{◌≡◌, Bool, true, false, ◌&&◌, ◌||◌, eqb, ℤ, pos, sym, ap, ◌∙◌, arith, w64, SFits, to_z, of_z}
use Rattle.std.specs.Ordering.{is_lt, partial_lt}
use Rattle.std.proofs.lemmas.Int.{ints, to_z-of_z}
use Rattle.std.proofs.lemmas.Bool.{and_parts}
use Rattle.plane.specs.declared.point.Point.{Point}
use Rattle.plane.specs.declared.segment.Segment.{Segment}
use Rattle.plane.specs.contracts.point.PointPartialOrd.TheImpl as partial_order
use Rattle.plane.specs.contracts.point.PointOrd.TheImpl as order
use Rattle.plane.specs.Points.{eq_int, in_range, precedes}
use Rattle.plane.specs.Meeting.{drawable, ordered}

pub record Drawable (l : Segment) : Type 0 where
  pub low : in_range l.low ≡ true
  pub high : in_range l.high ≡ true
  pub ordered : ordered l ≡ true

pub drawable_parts : (l : Segment) → drawable l ≡ true → Drawable l
drawable_parts l e =
    let p = and_parts (in_range l.low && in_range l.high) (ordered l) e in
    let q = and_parts (in_range l.low) (in_range l.high) p.0 in
    record { low = q.0; high = q.1; ordered = p.1 }

-- a value that went to bits and back, and what it is
pub back : (t o : ℤ) → SFits w64 t → t ≡ o → to_z w64 (of_z w64 t) ≡ o
back t o f e = to_z-of_z w64 t f ∙ e

pub zero_bits : (t : ℤ) → SFits w64 t → eqb (of_z w64 t) 0 ≡ eq_int t (pos 0)
zero_bits t f = grind (arith, ints)

-- `<` and `cmp` on points, which are derived
pub point_before : (p q : Point) → partial_lt partial_order.ghosts.partial_cmp p q ≡ precedes p q
point_before p q = grind (arith, ints)

pub point_first : (p q : Point) → is_lt (order.ghosts.cmp p q) ≡ precedes p q
point_first p q = grind (arith, ints)

-- the parts of a test, each of which is told: both, or either, and the second is only asked where the first leaves it open
pub and_then : {x y a b : Bool} → x ≡ a → y ≡ b → x ≡ true → y ≡ (a && b)
and_then {b = b} p q e = q ∙ ap (λ t. t && b) (sym e ∙ p)

pub and_else : {x a : Bool} (b : Bool) → x ≡ a → x ≡ false → x ≡ (a && b)
and_else b p e = e ∙ ap (λ t. t && b) (sym e ∙ p)

pub or_then : {x a : Bool} (b : Bool) → x ≡ a → x ≡ true → x ≡ (a || b)
or_then b p e = e ∙ ap (λ t. t || b) (sym e ∙ p)

pub or_else : {x y a b : Bool} → x ≡ a → y ≡ b → x ≡ false → y ≡ (a || b)
or_else {b = b} p q e = q ∙ ap (λ t. t || b) (sym e ∙ p)

pub or_turned : (a b c d e : Bool) → (((a || b) || (c || d)) || e) ≡ (e || (a || (b || (c || d))))
or_turned a b c d e = grind arith
