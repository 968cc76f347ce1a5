-- The ways through a plan's content: `rows_fault`, `left_over`, `unsound` and `sound`.
use Rattle.std.proofs.Common.{◌≡◌, ℕ, ◌+◌, ◌<◌, ◌≤◌, eqb, List, length, drop, Ok, Err, Result, sym, ap, ◌∙◌, subst, arith, Bor, rules}
use Rattle.std.specs.List.{between}
use Rattle.std.proofs.lemmas.List.{places, same_lists, length-take-le, length-drop}
use Rattle.std.proofs.lemmas.Bool.{eq-eqb, ne_eqb, cond-true, cond-false}
use Rattle.plane.specs.declared.halfsegment.Halfsegment.{Halfsegment}
use Rattle.storage.specs.Bytes.{rows_of}
use Rattle.region.specs.declared.refusals.CheckRefusal.{CheckRefusal}
use Rattle.region.specs.Check.{check_of}
use Rattle.encoding.specs.declared.faults.FieldFault.{FieldFault}
use Rattle.encoding.specs.declared.faults.FieldFault.TheVariants.{Malformed, BadTitle}
use Rattle.encoding.specs.declared.faults.PlanFault.{PlanFault}
use Rattle.encoding.specs.declared.faults.PlanFault.TheVariants.{InField, InRows}
use Rattle.encoding.specs.Format.{Plan, title_tag, rows_tag, valid_title}
use Rattle.encoding.specs.Read.{size_of, content_of, beyond, framed, and_then, in_field, title_in, rows_in, checked, ended, rows_next, plan_in}
use Rattle.encoding.proofs.Unframed.{err_ok, and_then_ok, cond_ok, ok_same}
use Rattle.archive.specs.declared.spans.Span.{Span}
use Rattle.archive.specs.declared.views.PlanView.{PlanView}
use Rattle.archive.specs.Fields.{Part, ContentPart, RowsPart, Parts, left, with_content, Moved, seen, seen_rows}
use Rattle.archive.proofs.Framing.{length_due}
use Rattle.archive.proofs.FieldContents.{framed_fits}

-- what stands behind the references of an answer that was granted
pub seen_ok : {A E : Type 0} (r : Result (Bor A) E) (p : Bor A) (x : Result A E) → r ≡ Ok p → seen r ≡ x → x ≡ Ok p.now
seen_ok r p x e f = sym f ∙ ap seen e

pub rows_ok : {E : Type 0} (r : Result PlanView E) (v : PlanView) (x : Result (List Halfsegment) E) → r ≡ Ok v → seen_rows r ≡ x → x ≡ Ok (rows_of v.bytes.now)
rows_ok r v x e f = sym f ∙ ap seen_rows e

pub moved_ok : {A E : Type 0} (bs : List ℕ) (s t : Span) (r : Result A E) (a : A) → r ≡ Ok a → Moved bs s t r → t ≡ record { at = s.at + (3 + size_of (left bs s)); end = s.end }
moved_ok bs s t r a e h = subst (Moved bs s t) e h

-- what lies beyond a field of n bytes
past : (bs : List ℕ) (at end n : ℕ) → between (at + n) end bs ≡ drop n (between at end bs)
past bs at end n = same_lists _ _ (search (rules, places)) (λ k d l. grind (arith, places))

pub left_past : (bs : List ℕ) (s t : Span) → t ≡ record { at = s.at + (3 + size_of (left bs s)); end = s.end } → left bs t ≡ beyond (left bs s)
left_past bs s t e = ap (left bs) e ∙ past bs s.at s.end (3 + size_of (left bs s))

module _ (bs : List ℕ) (from to : ℕ) (s0 s1 : Span) (title : List ℕ) (start : s0 ≡ record { at = from; end = to }) (said : with_content title_tag title_in (left bs s0) ≡ Ok title) (moved : s1 ≡ record { at = s0.at + (3 + size_of (left bs s0)); end = s0.end }) where
  abbrev inside : Span
  inside = record { at = from; end = to }

  behind : s1 ≡ record { at = from + (3 + size_of (left bs inside)); end = to }
  behind = moved ∙ ap (λ s. record { at = s.at + (3 + size_of (left bs s)); end = s.end }) start

  at_rows : plan_in from (left bs inside) ≡ rows_next s1.at (left bs s1) title
  at_rows =
      ap (λ r. and_then (in_field from r) (rows_next (from + (3 + size_of (left bs inside))) (beyond (left bs inside)))) (ap (λ s. with_content title_tag title_in (left bs s)) (sym start) ∙ said) ∙
      (λ i. rows_next (ap (λ s. s.at) (sym behind) i) (sym (left_past bs inside s1 behind) i) title)

  pub rows_fault : (r : Result PlanView FieldFault) (e : PlanFault) → seen_rows r ≡ with_content rows_tag rows_in (left bs s1) → in_field s1.at r ≡ Err e → Err e ≡ plan_in from (left bs inside)
  rows_fault (Ok v) e f h = err_ok e v (sym h)
  rows_fault (Err fault) e f h =
      let same : Err (InField s1.at fault) ≡ Err e = h in
      sym (at_rows ∙ ap (λ x. and_then (in_field s1.at x) (λ rows. ended (s1.at + (3 + size_of (left bs s1))) (beyond (left bs s1)) (record { title = title; rows = rows }))) (sym f) ∙ ap Err cc)

  module _ (rows : List Halfsegment) (s2 : Span) (read : with_content rows_tag rows_in (left bs s1) ≡ Ok rows) (on : s2 ≡ record { at = s1.at + (3 + size_of (left bs s1)); end = s1.end }) (within : to ≤ length bs) where
    abbrev plan : Plan
    plan = record { title = title; rows = rows }

    at_end : plan_in from (left bs inside) ≡ ended s2.at (left bs s2) plan
    at_end =
        at_rows ∙ ap (λ x. and_then (in_field s1.at x) (λ rows. ended (s1.at + (3 + size_of (left bs s1))) (beyond (left bs s1)) (record { title = title; rows = rows }))) read ∙
        (λ i. ended (ap (λ s. s.at) (sym on) i) (sym (left_past bs s1 s2 on) i) plan)

    end_is : s2.end ≡ to
    end_is = ap (λ s. s.end) on ∙ ap (λ s. s.end) behind

    pub left_over : s2.at < to → Err (InField s2.at Malformed) ≡ plan_in from (left bs inside)
    left_over h = sym (at_end ∙ cond-false _ (checked plan) (Err (InField s2.at Malformed)) (ne_eqb (length (left bs s2)) 0 (omega (arith, length_due bs s2.at s2.end (eqb 0), end_is))))

    whole : to ≤ s2.at → plan_in from (left bs inside) ≡ checked plan
    whole h = at_end ∙ cond-true _ (checked plan) (Err (InField s2.at Malformed)) (eq-eqb (length (left bs s2)) 0 (omega (arith, length_due bs s2.at s2.end (eqb 0), end_is)))

    abbrev by_check : Result Unit CheckRefusal → Result Plan PlanFault
    by_check r = elim r [ Ok _ ↦ Ok plan | Err refusal ↦ Err (InRows refusal) ]

    pub unsound : to ≤ s2.at → (refusal : CheckRefusal) → Err refusal ≡ check_of rows → Err (InRows refusal) ≡ plan_in from (left bs inside)
    unsound h refusal e = sym (whole h ∙ ap by_check (sym e))

    pub sound : to ≤ s2.at → Ok tt ≡ check_of rows → Ok plan ≡ plan_in from (left bs inside)
    sound h e = sym (whole h ∙ ap by_check (sym e))

-- the title's content is as long as its field says
title_size : (due title : List ℕ) → with_content title_tag title_in due ≡ Ok title → length title ≡ size_of due
title_size due title e =
    let a = and_then_ok (framed (eqb title_tag) due) (λ _. title_in (content_of due)) title e in
    let b = cond_ok (valid_title (content_of due)) (Ok (content_of due)) BadTitle title a.2 in
    ap length (sym (ok_same (content_of due) title b.1)) ∙ length-take-le (size_of due) (drop 3 due) (omega (arith, framed_fits (eqb title_tag) due a.1, length-drop 3 due))

pub parts_ok : (b : Bor (List ℕ)) (from : ℕ) (s0 s1 : Span) (tr : Result (Bor (List ℕ)) FieldFault) (rr : Result PlanView FieldFault) (t : Bor (List ℕ)) (v : PlanView) → s0.at ≡ from → with_content title_tag title_in (left b.now s0) ≡ Ok t.now → s1 ≡ record { at = s0.at + (3 + size_of (left b.now s0)); end = s0.end } → tr ≡ Ok t → rr ≡ Ok v → ContentPart b (s0.at + 3) tr → RowsPart b (s1.at + 3) rr → Parts b from (record { title = t; rows = v })
parts_ok b from s0 s1 tr rr t v start said moved ok fine tp rp =
    let n = title_size (left b.now s0) t.now said in
    let place : s1.at ≡ s0.at + (3 + size_of (left b.now s0)) = ap (λ s. s.at) moved in
    let second : s1.at + 3 ≡ from + 6 + length t.now = omega arith in
    (subst (λ k. Part b (k + 3) (length t.now) t) start (subst (ContentPart b (s0.at + 3)) ok tp), subst (λ k. Part b k (length v.bytes.now) v.bytes) second (subst (RowsPart b (s1.at + 3)) fine rp))
