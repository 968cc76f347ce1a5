-- The field that follows the date or a plan, `field_read`, and the ways through it: `plan_fault`, `plan_read`, `last_fault`, `last_over` and `last_read`.
use Rattle.std.proofs.Common.{[], ◌∷◌, ◌≡◌, ℕ, suc, ◌+◌, ◌-◌, ◌<◌, ◌≤◌, min, Bool, true, false, cond, eqb, List, length, Some, None, Ok, Err, Option, Result, sym, refl, ap, ◌∙◌, subst, add-one, arith, Bor}
use Rattle.std.specs.List.{between}
use Rattle.std.specs.Prelude.{◌==◌, ◌||◌, nat_le}
use Rattle.std.proofs.lemmas.Bool.{eq-eqb, ne_eqb, cond-true, cond-false}
use Rattle.encoding.specs.declared.faults.FieldFault.{FieldFault}
use Rattle.encoding.specs.declared.faults.FieldFault.TheVariants.{NoFit, Malformed}
use Rattle.encoding.specs.declared.faults.PlanFault.{PlanFault}
use Rattle.encoding.specs.declared.faults.ArchiveFault.{ArchiveFault}
use Rattle.encoding.specs.declared.faults.ArchiveFault.TheVariants.{AtField, InPlan}
use Rattle.encoding.specs.Format.{Plan, plan_tag, last_tag}
use Rattle.encoding.specs.Read.{tag_of, size_of, content_of, beyond, framed, and_then, at_field, in_plan, plan_in, count_in, last_in, next_in}
use Rattle.encoding.proofs.Unframed.{err_ok, map_fault_ok}
use Rattle.archive.specs.declared.spans.Span.{Span}
use Rattle.archive.specs.declared.fields.Field.{Field}
use Rattle.archive.specs.declared.fields.Field.TheVariants as field
use Rattle.archive.specs.declared.plans.ArchivedPlan.{ArchivedPlan}
use Rattle.archive.specs.declared.fields.Tag.{Tag}
use Rattle.archive.specs.declared.fields.Tag.TheVariants as tag
use Rattle.archive.specs.Fields.{due_tag, field_tag, part_of, left, seen_plan, plan_seen, FieldRead, passed}
use Rattle.archive.proofs.Framing.{length_due}
use Rattle.archive.proofs.FieldContents.{framed_fits, content_at, got}
use Rattle.archive.proofs.PlanReads.{left_past}

-- the tags that may come after the date and after a plan
abbrev pub plan_or_last : List Tag
plan_or_last = tag.Plan ∷ tag.Last ∷ []

-- a field that was read, and the span behind it
pub field_read : (b : Bor (List ℕ)) (s t : Span) (place : ℕ) (r : Result Field FieldFault) (w : Result Field ArchiveFault) (f : Field) → FieldRead plan_or_last b s r → t ≡ passed b.now s r → w ≡ at_field place r → w ≡ Ok f → FieldRead plan_or_last b s (Ok f) × (t ≡ passed b.now s (Ok f))
field_read b s t place r w f read on told ok =
    let e = map_fault_ok (AtField place) r f (sym told ∙ ok) in
    (subst (FieldRead plan_or_last b s) e read, on ∙ ap (passed b.now s) e)

-- a plan's field that was read
pub plan_tagged : (b : Bor (List ℕ)) (s : Span) (f : Field) (content : Bor (List ℕ)) → FieldRead plan_or_last b s (Ok f) → f ≡ field.Plan content → plan_tag ≡ tag_of (left b.now s)
plan_tagged b s f content read is = sym (ap field_tag is) ∙ read.1

-- the last field that was read: its tag and its content
pub last_got : (b : Bor (List ℕ)) (s : Span) (f : Field) (content : Bor (List ℕ)) → FieldRead plan_or_last b s (Ok f) → f ≡ field.Last content → (last_tag ≡ tag_of (left b.now s)) × (content.now ≡ content_of (left b.now s))
last_got b s f content read is =
    let g = got b s (due_tag plan_or_last) f content read (ap part_of is) in
    (sym (ap field_tag is) ∙ read.1, g.content)

-- only the tag that stands there is tested
same_test : (due : List ℕ) (f g : ℕ → Bool) → f (tag_of due) ≡ g (tag_of due) → framed f due ≡ framed g due
same_test due f g e = ap (λ t. cond (length due == 0) (Err NoFit) (cond t (cond (nat_le (3 + size_of due) (length due)) (Ok tt) (Err NoFit)) (Err Malformed))) e

or_none : (p q : Bool) → (p || q) ≡ (p || (q || false))
or_none true q = refl
or_none false true = refl
or_none false false = refl

module _ (bs : List ℕ) (s : Span) (plans : ℕ) (framed_is : framed (due_tag plan_or_last) (left bs s) ≡ Ok tt) where
  abbrev due : List ℕ
  due = left bs s

  abbrev by_plan : Result Plan PlanFault → Result (Option Plan) ArchiveFault
  by_plan r = and_then (in_plan s.at (suc plans) r) (λ plan. Ok (Some plan))

  -- what follows the test of the field
  abbrev by_tag : Bool → Result (Option Plan) ArchiveFault
  by_tag b = cond b (by_plan (plan_in (s.at + 3) (content_of due))) (last_in s.at plans due)

  after_test : next_in s.at plans due ≡ by_tag (plan_tag == tag_of due)
  after_test = ap (λ r. and_then (at_field s.at r) (λ _. by_tag (plan_tag == tag_of due))) (same_test due (λ tag. (plan_tag == tag) || last_tag == tag) (due_tag plan_or_last) (or_none (plan_tag == tag_of due) (last_tag == tag_of due)) ∙ framed_is)

  -- a plan's field: what is read lies between its head and its end
  module _ (is_plan : plan_tag ≡ tag_of due) (to : ℕ) (end_is : to ≡ s.at + (3 + size_of due)) where
    inside : left bs (record { at = s.at + 3; end = to }) ≡ content_of due
    inside =
        let e : to ≡ s.at + 3 + size_of due = omega arith in
        ap (λ k. between (s.at + 3) k bs) e ∙ content_at bs s.at s.end (size_of due) (framed_fits (due_tag plan_or_last) due framed_is)

    here : next_in s.at plans due ≡ by_plan (plan_in (s.at + 3) (left bs (record { at = s.at + 3; end = to })))
    here = after_test ∙ ap (λ t. by_tag (plan_tag == t)) (sym is_plan) ∙ ap (λ c. by_plan (plan_in (s.at + 3) c)) (sym inside)

    fault_told : (r : Result ArchivedPlan PlanFault) (e : ArchiveFault) → in_plan s.at (plans + 1) r ≡ Err e → by_plan (seen_plan r) ≡ Err e
    fault_told (Ok p) e h = err_ok e p (sym h)
    fault_told (Err f) e h = rw (sym (add-one plans)) (let same : InPlan s.at (plans + 1) f ≡ e = cc in ap Err same)

    pub plan_fault : (r : Result ArchivedPlan PlanFault) (e : ArchiveFault) → seen_plan r ≡ plan_in (s.at + 3) (left bs (record { at = s.at + 3; end = to })) → in_plan s.at (plans + 1) r ≡ Err e → Err e ≡ next_in s.at plans due
    plan_fault r e said h = sym (here ∙ ap by_plan (sym said) ∙ fault_told r e h)

    pub plan_read : (r : Result ArchivedPlan PlanFault) (p : ArchivedPlan) → seen_plan r ≡ plan_in (s.at + 3) (left bs (record { at = s.at + 3; end = to })) → r ≡ Ok p → Ok (Some (plan_seen p)) ≡ next_in s.at plans due
    plan_read r p said ok = sym (here ∙ ap by_plan (sym said ∙ ap seen_plan ok))

  -- the last field
  module _ (is_last : last_tag ≡ tag_of due) (content : List ℕ) (content_is : content ≡ content_of due) where
    abbrev by_rest : Result Unit FieldFault → Result (Option Plan) ArchiveFault
    by_rest r = and_then (at_field s.at r) (λ _. cond (length (beyond due) == 0) (Ok None) (Err (AtField (s.at + (3 + size_of due)) Malformed)))

    at_last : next_in s.at plans due ≡ by_rest (count_in plans content)
    at_last = after_test ∙ ap (λ t. by_tag (plan_tag == t)) (sym is_last) ∙ ap (λ c. by_rest (count_in plans c)) (sym content_is)

    count_told : (r : Result Unit FieldFault) (e : ArchiveFault) → at_field s.at r ≡ Err e → by_rest r ≡ Err e
    count_told (Ok u) e h = err_ok e u (sym h)
    count_told (Err f) e h = let same : AtField s.at f ≡ e = cc in ap Err same

    pub last_fault : (r : Result Unit FieldFault) (e : ArchiveFault) → r ≡ count_in plans content → at_field s.at r ≡ Err e → Err e ≡ next_in s.at plans due
    last_fault r e said h = sym (at_last ∙ ap by_rest (sym said) ∙ count_told r e h)

    module _ (counted : count_in plans content ≡ Ok tt) (t : Span) (on : t ≡ record { at = s.at + (3 + size_of due); end = s.end }) where
      rest_long : length (beyond due) ≡ min t.end (length bs) - t.at
      rest_long = sym (ap length (left_past bs s t on)) ∙ length_due bs t.at t.end (eqb 0)

      pub last_over : t.at < min t.end (length bs) → Err (AtField t.at Malformed) ≡ next_in s.at plans due
      last_over h =
          ap (λ u. Err (AtField u.at Malformed)) on ∙
          sym (at_last ∙ ap by_rest counted ∙ cond-false _ (Ok None) (Err (AtField (s.at + (3 + size_of due)) Malformed)) (ne_eqb (length (beyond due)) 0 (omega (arith, rest_long))))

      pub last_read : min t.end (length bs) ≤ t.at → Ok None ≡ next_in s.at plans due
      last_read h = sym (at_last ∙ ap by_rest counted ∙ cond-true _ (Ok None) (Err (AtField (s.at + (3 + size_of due)) Malformed)) (eq-eqb (length (beyond due)) 0 (omega (arith, rest_long))))
