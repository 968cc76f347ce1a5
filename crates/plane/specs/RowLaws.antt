-- Halfsegments: `==` says `same_row` (`equal_rows`); `compared` is a partial order up to `==` (`compared_laws`); `<` says that both are fit and the first comes before (`row_before`).
-- This file, RowChains and PointLaws stand in specs/ because the impl of `PartialOrd` cites them as its law.
use Rattle.std.proofs.Common.{◌≡◌, Bool, true, false, cond, not, ◌&&◌, Option, Some, None, sym, refl, ap, ◌∙◌, subst, arith}
use Rattle.std.specs.Cmp.{IsPartialOrder}
use Rattle.std.specs.Option.{option_map}
use Rattle.std.specs.Ordering.{is_lt, is_some_and, partial_lt, ordering_reverse}
use Rattle.std.specs.declared.cmp.Ordering.{Ordering}
use Rattle.std.specs.declared.cmp.Ordering.TheVariants.{Less, Equal, Greater}
use Rattle.std.proofs.Math.Bool.{and_comm}
use Rattle.std.proofs.lemmas.Bool.{and_parts, and_from, not-true}
use Rattle.algebra.proofs.Members.{Case, case, holds, fails, apart, agree}
use Rattle.plane.specs.declared.halfsegment.Halfsegment.{Halfsegment}
use Rattle.plane.specs.contracts.halfsegment.HalfsegmentPartialEq.TheImpl as equality
use Rattle.plane.specs.Points.{in_range, same_point}
use Rattle.plane.specs.Rows.{same_row, fit, comes_before, compared, Long}
use Rattle.plane.specs.PointLaws.{same_point_is, same_point_holds, equal_points}
use Rattle.plane.specs.RowChains.{comes_before_self, comes_before_transitive}

pub same_row_is : (g h : Halfsegment) → same_row g h ≡ true → g ≡ h
same_row_is g h e =
    let b = and_parts (same_point g.dominating h.dominating) (same_point g.far h.far) e in
    λ i. record { dominating = same_point_is g.dominating h.dominating b.0 i; far = same_point_is g.far h.far b.1 i }

pub same_row_holds : (g h : Halfsegment) → g ≡ h → same_row g h ≡ true
same_row_holds g h e =
    and_from (same_point g.dominating h.dominating) (same_point g.far h.far)
    (same_point_holds g.dominating h.dominating (ap (λ r. r.dominating) e)) (same_point_holds g.far h.far (ap (λ r. r.far) e))

pub fit_long : (h : Halfsegment) → fit h ≡ true → Long h
fit_long h e same = apart (same_point_holds h.dominating h.far same) (not-true (same_point h.dominating h.far) (and_parts (in_range h.dominating && in_range h.far) (not (same_point h.dominating h.far)) e).1)

-- of two fit ones, each in only one order
never_back : (g h : Halfsegment) → fit g ≡ true → fit h ≡ true → comes_before g h ≡ true → comes_before h g ≡ false
never_back g h fg fh e = go (case (comes_before h g))
  where
    go : Case (comes_before h g) → comes_before h g ≡ false
    go (holds f) = absurd (apart (comes_before_transitive g h g (fit_long g fg) (fit_long h fh) (fit_long g fg) e f) (comes_before_self g))
    go (fails f) = f

-- the answer from its four tests
abbrev pub by_tests : Bool → Bool → Bool → Bool → Option Ordering
by_tests s f c d = cond s (Some Equal) (cond f (cond c (Some Less) (cond d (Some Greater) None)) None)

less_is : (s f c d : Bool) → by_tests s f c d ≡ Some Less → (s ≡ false) × (f ≡ true) × (c ≡ true)
less_is true f c d e = absurd (cc)
less_is false true true d e = (refl, refl, refl)
less_is false true false true e = absurd (cc)
less_is false true false false e = absurd (cc)
less_is false false c d e = absurd (cc)

equal_is : (s f c d : Bool) → by_tests s f c d ≡ Some Equal → s ≡ true
equal_is true f c d e = refl
equal_is false true true d e = absurd (cc)
equal_is false true false true e = absurd (cc)
equal_is false true false false e = absurd (cc)
equal_is false false c d e = absurd (cc)

turned : (s f c d : Bool) → (s ≡ false → f ≡ true → c ≡ true → d ≡ false) → by_tests s f c d ≡ option_map ordering_reverse (by_tests s f d c)
turned true f c d n = refl
turned false false c d n = refl
turned false true true true n = absurd (apart refl (n refl refl refl))
turned false true true false n = refl
turned false true false true n = refl
turned false true false false n = refl

same_back : (g h : Halfsegment) → same_row g h ≡ same_row h g
same_back g h = agree (same_row g h) (same_row h g)
    (λ e f. apart (same_row_holds h g (sym (same_row_is g h e))) f)
    (λ e f. apart (same_row_holds g h (sym (same_row_is h g f))) e)

-- of two in order, they differ
differ : (g h : Halfsegment) → comes_before g h ≡ true → same_row g h ≡ false
differ g h e = go (case (same_row g h))
  where
    go : Case (same_row g h) → same_row g h ≡ false
    go (holds s) = absurd (apart (ap (comes_before g) (same_row_is g h s) ∙ e) (comes_before_self g))
    go (fails s) = s

laws : IsPartialOrder same_row compared
laws = record {
  antisymm = λ g h.
      turned (same_row g h) (fit g && fit h) (comes_before g h) (comes_before h g) (λ n f. let b = and_parts (fit g) (fit h) f in never_back g h b.0 b.1)
      ∙ (λ i. option_map ordering_reverse (by_tests (same_back g h i) (and_comm (fit g) (fit h) i) (comes_before h g) (comes_before g h)));
  trans = λ g h k e f. chain g h k (less_is _ _ _ (comes_before h g) e) (less_is _ _ _ (comes_before k h) f);
  matches_eq = λ g h. (λ e i. by_tests (e i) (fit g && fit h) (comes_before g h) (comes_before h g), equal_is (same_row g h) (fit g && fit h) (comes_before g h) (comes_before h g));
  congr = λ g h k e. ap (λ r. compared r k) (same_row_is g h e);
}
  where
    chain : (g h k : Halfsegment) → (same_row g h ≡ false) × ((fit g && fit h) ≡ true) × (comes_before g h ≡ true) → (same_row h k ≡ false) × ((fit h && fit k) ≡ true) × (comes_before h k ≡ true) → compared g k ≡ Some Less
    chain g h k p q =
        let b = and_parts (fit g) (fit h) p.1 in
        let d = and_parts (fit h) (fit k) q.1 in
        let e = comes_before_transitive g h k (fit_long g b.0) (fit_long h b.1) (fit_long k d.1) p.2 q.2 in
        λ i. by_tests (differ g k e i) (and_from (fit g) (fit k) b.0 d.1 i) (e i) (comes_before k g)

-- `==`, which is derived; the laws of the order; and `<`
pub equal_rows : (g h : Halfsegment) → equality.ghosts.eq g h ≡ same_row g h
equal_rows g h = λ i. equal_points g.dominating h.dominating i && equal_points g.far h.far i

pub compared_laws : IsPartialOrder equality.ghosts.eq compared
compared_laws = subst (λ E. IsPartialOrder E compared) (λ i g h. sym (equal_rows g h) i) laws

pub row_before : (g h : Halfsegment) → partial_lt compared g h ≡ (fit g && (fit h && comes_before g h))
row_before g h = less (same_row g h) (fit g) (fit h) (comes_before g h) (comes_before h g) (λ e. ap (comes_before g) (sym (same_row_is g h e)) ∙ comes_before_self g)
  where
    less : (s f k c d : Bool) → (s ≡ true → c ≡ false) → is_some_and is_lt (by_tests s (f && k) c d) ≡ (f && (k && c))
    less true f k c d n = grind (arith, n refl)
    less false true true true d n = refl
    less false true true false true n = refl
    less false true true false false n = refl
    less false true false c d n = refl
    less false false k c d n = refl
