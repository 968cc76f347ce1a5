-- Two fit halfsegments, compared step by step: the first step that decides gives what `compared` says (`steps_compare`).
use Rattle.std.proofs.Common.{◌≡◌, Bool, true, false, cond, ◌&&◌, ◌||◌, ◌⊎◌, ℤ, pos, Some, None, sym, refl, ap, ◌∙◌, inl, inr, arith}
use Rattle.std.specs.Cmp.{tied_itself, int_cmp_total}
use Rattle.std.specs.Ordering.{MatchOrdering, is_lt, is_eq, int_cmp, bool_cmp, ordering_then}
use Rattle.std.specs.declared.cmp.Ordering.{Ordering}
use Rattle.std.specs.declared.cmp.Ordering.TheVariants.{Less, Equal, Greater}
use lib.Signed.{lt_z}
use Rattle.std.proofs.lemmas.Int.{ints}
use Rattle.std.proofs.lemmas.Bool.{and_from}
use Rattle.algebra.proofs.Members.{Case, case, holds, fails, apart}
use Rattle.plane.specs.declared.point.Point.{Point}
use Rattle.plane.specs.declared.halfsegment.Halfsegment.{Halfsegment}
use Rattle.plane.specs.contracts.point.PointOrd.TheImpl as point_order
use Rattle.plane.specs.Points.{eq_int, same_point, orientation}
use Rattle.plane.specs.Rows.{same_row, fit, left, reach, swept_first, by_side, comes_before, compared}
use Rattle.plane.specs.PointLaws.{same_point_is, eq_int_is}
use Rattle.plane.specs.RowChains.{no_turn}
use Rattle.plane.proofs.RowOrder.{one_row, row_order}
use Rattle.plane.proofs.Steps.{point_first}
use Rattle.plane.specs.RowLaws.{same_row_is, same_row_holds, fit_long, by_tests}

-- by point, by side, by turn, by length
abbrev steps : Ordering → Ordering → Ordering → Ordering → Ordering
steps p s t r = ordering_then (ordering_then (ordering_then p s) t) r

abbrev sweep : Ordering → Ordering → Bool
sweep t r = is_lt t || (is_eq t && is_lt r)

first_step : (p : Ordering) (l k : Bool) (t r : Ordering) → is_lt (steps p (bool_cmp l k) t r) ≡ (is_lt p || (is_eq p && by_side l k (sweep t r)))
first_step Less l k t r = refl
first_step Greater l k t r = refl
first_step Equal true false t r = refl
first_step Equal false true t r = refl
first_step Equal true true Less r = refl
first_step Equal true true Equal r = refl
first_step Equal true true Greater r = refl
first_step Equal false false Less r = refl
first_step Equal false false Equal r = refl
first_step Equal false false Greater r = refl

last_steps : (t r : Ordering) → ordering_then t r ≡ Equal → (is_eq t ≡ true) × (is_eq r ≡ true)
last_steps Less r e = absurd (cc)
last_steps Equal r e = (refl, ap is_eq e)
last_steps Greater r e = absurd (cc)

all_steps : (p : Ordering) (l k : Bool) (t r : Ordering) → steps p (bool_cmp l k) t r ≡ Equal → (is_eq p ≡ true) × (l ≡ k) × (is_eq t ≡ true) × (is_eq r ≡ true)
all_steps Less l k t r e = absurd (cc)
all_steps Greater l k t r e = absurd (cc)
all_steps Equal true false t r e = absurd (cc)
all_steps Equal false true t r e = absurd (cc)
all_steps Equal true true t r e = let b = last_steps t r e in (refl, refl, b.0, b.1)
all_steps Equal false false t r e = let b = last_steps t r e in (refl, refl, b.0, b.1)

less_is : (a b : ℤ) → is_lt (int_cmp a b) ≡ lt_z a b
less_is a b = grind (arith, ints)

equal_is : (a b : ℤ) → is_eq (int_cmp a b) ≡ eq_int a b
equal_is a b = grind (arith, ints)

zero_is : (a : ℤ) → is_eq (int_cmp (pos 0) a) ≡ eq_int a (pos 0)
zero_is a = grind (arith, ints)

point_same : (p q : Point) → is_eq (point_order.ghosts.cmp p q) ≡ same_point p q
point_same p q = grind (arith, ints)

abbrev answer : Halfsegment → Halfsegment → Ordering
answer g h = steps (point_order.ghosts.cmp g.dominating h.dominating) (bool_cmp (left g) (left h)) (int_cmp (pos 0) (orientation g.far h.far g.dominating)) (int_cmp (reach g) (reach h))

before : (g h : Halfsegment) → is_lt (answer g h) ≡ comes_before g h
before g h =
    first_step (point_order.ghosts.cmp g.dominating h.dominating) (left g) (left h) (int_cmp (pos 0) (orientation g.far h.far g.dominating)) (int_cmp (reach g) (reach h))
    ∙ (λ i. point_first g.dominating h.dominating i || (point_same g.dominating h.dominating i && by_side (left g) (left h) (swept i)))
  where
    swept : sweep (int_cmp (pos 0) (orientation g.far h.far g.dominating)) (int_cmp (reach g) (reach h)) ≡ swept_first g h
    swept i = less_is (pos 0) (orientation g.far h.far g.dominating) i || (zero_is (orientation g.far h.far g.dominating) i && less_is (reach g) (reach h) i)

-- of two fit ones, only equal ones are level
level : (g h : Halfsegment) → fit g ≡ true → fit h ≡ true → answer g h ≡ Equal → g ≡ h
level g h fg fh e =
    let s = all_steps (point_order.ghosts.cmp g.dominating h.dominating) (left g) (left h) (int_cmp (pos 0) (orientation g.far h.far g.dominating)) (int_cmp (reach g) (reach h)) e in
    one_row g h (fit_long g fg) (fit_long h fh)
    (same_point_is g.dominating h.dominating (sym (point_same g.dominating h.dominating) ∙ s.0)) s.1
    (eq_int_is (orientation g.far h.far g.dominating) (pos 0) (sym (zero_is (orientation g.far h.far g.dominating)) ∙ s.2))
    (eq_int_is (reach g) (reach h) (sym (equal_is (reach g) (reach h)) ∙ s.3))

level_self : (g : Halfsegment) → answer g g ≡ Equal
level_self g = λ i. steps (ordering_then (tied_itself int_cmp_total g.dominating.x i) (tied_itself int_cmp_total g.dominating.y i)) (alike (left g) i) (tied_turn i) (tied_itself int_cmp_total (reach g) i)
  where
    alike : (l : Bool) → bool_cmp l l ≡ Equal
    alike true = refl
    alike false = refl

    tied_turn : int_cmp (pos 0) (orientation g.far g.far g.dominating) ≡ Equal
    tied_turn = ap (int_cmp (pos 0)) (no_turn g)

-- of two that differ, the first comes before, or the second
decided : (o : Ordering) (c d : Bool) → (o ≡ Equal → ⊥) → is_lt o ≡ c → (c ≡ true) ⊎ (d ≡ true) → Some o ≡ by_tests false true c d
decided Less c d n e h = λ i. by_tests false true (e i) d
decided Equal c d n e h = absurd (n refl)
decided Greater c d n e (inl h) = absurd (apart h (sym e))
decided Greater c d n e (inr h) = λ i. by_tests false true (e i) (sym h i)

alike_rows : (g h : Halfsegment) → same_row g h ≡ true → Some Equal ≡ compared g h
alike_rows g h e i = by_tests (sym e i) (fit g && fit h) (comes_before g h) (comes_before h g)

pub unfit : (g h : Halfsegment) → (fit g && fit h) ≡ false → cond (same_row g h) (Some Equal) None ≡ compared g h
unfit g h e i = by_tests (same_row g h) (sym e i) (comes_before g h) (comes_before h g)

pub steps_compare : (g h : Halfsegment) → fit g ≡ true → fit h ≡ true → Some (answer g h) ≡ compared g h
steps_compare g h fg fh = go (case (same_row g h))
  where
    go : Case (same_row g h) → Some (answer g h) ≡ compared g h
    go (holds e) = ap (λ r. Some (answer g r)) (sym (same_row_is g h e)) ∙ ap Some (level_self g) ∙ alike_rows g h e
    go (fails n) =
        decided (answer g h) (comes_before g h) (comes_before h g) (λ e. apart (same_row_holds g h (level g h fg fh e)) n) (before g h)
        (row_order.comparable g h (fit_long g fg) (fit_long h fh) (λ e. apart (same_row_holds g h e) n))
        ∙ (λ i. by_tests (sym n i) (sym (and_from (fit g) (fit h) fg fh) i) (comes_before g h) (comes_before h g))

-- a step that is taken only where those before leave it open
pub next_step : {Q : Type 0} (o r t : Ordering) → MatchOrdering o (r ≡ Less) Q (r ≡ Greater) → (Q → r ≡ t) → r ≡ ordering_then o t
next_step Less r t e k = e
next_step Equal r t e k = k e
next_step Greater r t e k = e
