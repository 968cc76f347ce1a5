-- Only encodings are accepted: `only`.
use Rattle.std.proofs.Common.{◌≡◌, ℕ, zero, suc, ◌+◌, ◌*◌, ◌%◌, ◌≤◌, Bool, true, false, cond, ◌&&◌, ◌||◌, eqb, leb, List, [], ◌∷◌, ◌++◌, length, get_or, Some, None, Ok, Err, Option, Result, sym, refl, ap, ◌∙◌, subst, add-zero, zero-add, arith}
use Rattle.std.specs.List.{AllByRecursion}
use Rattle.std.proofs.lemmas.List.{append-nil, append_assoc}
use Rattle.std.proofs.lemmas.Bool.{eqb-true, leb-true, and_parts}
use Rattle.plane.specs.declared.halfsegment.Halfsegment.{Halfsegment}
use Rattle.storage.specs.Bytes.{rows_of}
use Rattle.storage.proofs.RowBytes.{length_rows_of}
use Rattle.region.specs.declared.refusals.CheckRefusal.{CheckRefusal}
use Rattle.region.specs.Check.{check_of}
use Rattle.region.proofs.Verdicts.{accepts}
use Rattle.encoding.specs.declared.dates.Date.{Date}
use Rattle.encoding.specs.declared.faults.FieldFault.TheVariants.{NoFit, Malformed, BadTitle, NoSuchDate}
use Rattle.encoding.specs.declared.faults.PlanFault.{PlanFault}
use Rattle.encoding.specs.declared.faults.PlanFault.TheVariants.{InField, InRows}
use Rattle.encoding.specs.declared.faults.ArchiveFault.{ArchiveFault}
use Rattle.encoding.specs.declared.faults.ArchiveFault.TheVariants.{AtField, InPlan}
use Rattle.encoding.specs.Dates.{valid_date}
use Rattle.encoding.specs.Format.{Plan, Archive, date_tag, plan_tag, title_tag, rows_tag, last_tag, two_bytes, field, date_field, rows_content, plan_field, plan_fields, last_field, encoded, valid_title, SoundPlan, Sound}
use Rattle.encoding.specs.Read.{tag_of, size_of, content_of, beyond, framed, and_then, in_field, at_field, in_plan, dated, date_in, title_in, rows_in, count_in, checked, ended, rows_next, plan_in, last_in, next_in, plans_in, read_of}
use Rattle.encoding.specs.Inverse.{Bytes}
use Rattle.encoding.proofs.DigitsBack.{two_bytes_back, rows_content_back}
use Rattle.encoding.proofs.Unframed.{err_ok, ok_same, cond_ok, and_then_ok, map_fault_ok, empty_is, framed_ok, tagged, read_as}

-- the contents of the fields
title_only : (bs title : List ℕ) → title_in bs ≡ Ok title → (bs ≡ title) × (valid_title title ≡ true)
title_only bs title e =
    let t = cond_ok (valid_title bs) (Ok bs) BadTitle title e in
    let s = ok_same bs title t.1 in
    (s, subst (λ x. valid_title x ≡ true) s t.0)

rows_only : (bs : List ℕ) (rows : List Halfsegment) → Bytes bs → rows_in bs ≡ Ok rows → (bs ≡ rows_content rows) × (length rows ≤ 4000)
rows_only bs rows small e =
    let t = cond_ok (leb (length bs) 64000 && eqb (length bs % 16) 0) (Ok (rows_of bs)) Malformed rows e in
    let s = ok_same (rows_of bs) rows t.1 in
    let p = and_parts (leb (length bs) 64000) (eqb (length bs % 16) 0) t.0 in
    let few = leb-true (length bs) 64000 p.0 in
    let len = length_rows_of bs in
    subst (λ x. (bs ≡ rows_content x) × (length x ≤ 4000)) s (sym (rows_content_back bs small (eqb-true (length bs % 16) 0 p.1)), omega arith)

-- two bytes that tell a number
two_only : (bs : List ℕ) (n : ℕ) → Bytes bs → length bs ≡ 2 → get_or bs 0 0 * 256 + get_or bs 1 0 ≡ n → (bs ≡ two_bytes n) × (n ≤ 65535)
two_only [] n small len e = absurd (omega arith)
two_only (a ∷ []) n small len e = absurd (omega arith)
two_only (a ∷ b ∷ c ∷ bs) n small len e = absurd (omega arith)
two_only (a ∷ b ∷ []) n small len e = (sym (two_bytes_back a b small.1.0) ∙ ap two_bytes e, omega arith)

count_only : (plans : ℕ) (bs : List ℕ) → Bytes bs → count_in plans bs ≡ Ok tt → (bs ≡ two_bytes plans) × (plans ≤ 65535)
count_only plans bs small e =
    let t = cond_ok (eqb (length bs) 2 && eqb (get_or bs 0 0 * 256 + get_or bs 1 0) plans) (Ok tt) Malformed tt e in
    let p = and_parts (eqb (length bs) 2) (eqb (get_or bs 0 0 * 256 + get_or bs 1 0) plans) t.0 in
    two_only bs plans small (eqb-true (length bs) 2 p.0) (eqb-true (get_or bs 0 0 * 256 + get_or bs 1 0) plans p.1)

date_only : (bs : List ℕ) (d : Date) → Bytes bs → date_in bs ≡ Ok d → (bs ≡ two_bytes d.year ++ (d.month ∷ d.day ∷ [])) × (valid_date d ≡ true)
date_only bs d small e =
    let t = cond_ok (eqb (length bs) 4) _ Malformed d e in
    go bs small (eqb-true (length bs) 4 t.0) t.1
  where
    go : (bs : List ℕ) → Bytes bs → length bs ≡ 4 → dated (record { year = get_or bs 0 0 * 256 + get_or bs 1 0; month = get_or bs 2 0; day = get_or bs 3 0 }) ≡ Ok d → (bs ≡ two_bytes d.year ++ (d.month ∷ d.day ∷ [])) × (valid_date d ≡ true)
    go [] small len e = absurd (omega arith)
    go (a ∷ []) small len e = absurd (omega arith)
    go (a ∷ b ∷ []) small len e = absurd (omega arith)
    go (a ∷ b ∷ m ∷ []) small len e = absurd (omega arith)
    go (a ∷ b ∷ m ∷ k ∷ c ∷ bs) small len e = absurd (omega arith)
    go (a ∷ b ∷ m ∷ k ∷ []) small len e =
        let read : Date = record { year = a * 256 + b; month = m; day = k } in
        let t = cond_ok (valid_date read) (Ok read) NoSuchDate d e in
        subst (λ x. (a ∷ b ∷ m ∷ k ∷ [] ≡ two_bytes x.year ++ (x.month ∷ x.day ∷ [])) × (valid_date x ≡ true)) (ok_same read d t.1)
        (ap (λ l. l ++ (m ∷ k ∷ [])) (sym (two_bytes_back a b small.1.0)), t.0)

-- a plan that was accepted
checked_only : (plan p : Plan) → checked plan ≡ Ok p → (plan ≡ p) × (check_of plan.rows ≡ Ok tt)
checked_only plan p e = go (check_of plan.rows) e
  where
    go : (r : Result Unit CheckRefusal) → ◌≡◌ {A = Result Plan PlanFault} (elim r [ Ok _ ↦ Ok plan | Err refusal ↦ Err (InRows refusal) ]) (Ok p) → (plan ≡ p) × (r ≡ Ok tt)
    go (Ok _) e = (ok_same plan p e, refl)
    go (Err f) e = err_ok (InRows f) p e

ended_only : (place : ℕ) (left : List ℕ) (plan p : Plan) → ended place left plan ≡ Ok p → (left ≡ []) × (plan ≡ p) × (check_of plan.rows ≡ Ok tt)
ended_only place left plan p e =
    let t = cond_ok (eqb (length left) 0) (checked plan) (InField place Malformed) p e in
    let c = checked_only plan p t.1 in
    (empty_is left t.0, c.0, c.1)

rows_next_only : (place : ℕ) (due title : List ℕ) (p : Plan) → Bytes due → valid_title title ≡ true → rows_next place due title ≡ Ok p → (p.title ≡ title) × (due ≡ field rows_tag (rows_content p.rows)) × SoundPlan p
rows_next_only place due title p small v e =
    let s = and_then_ok (in_field place (and_then (framed (eqb rows_tag) due) (λ _. rows_in (content_of due)))) (λ rows. ended (place + (3 + size_of due)) (beyond due) (record { title = title; rows = rows })) p e in
    let rows = s.0 in
    let f = read_as rows_tag due (rows_in (content_of due)) rows small (map_fault_ok (InField place) _ rows s.1) in
    let plan : Plan = record { title = title; rows = rows } in
    let g = ended_only (place + (3 + size_of due)) (beyond due) plan p s.2 in
    let r = rows_only (content_of due) rows f.content f.answer in
    let w = (accepts rows).0 g.2 in
    subst (λ x. (x.title ≡ title) × (due ≡ field rows_tag (rows_content x.rows)) × SoundPlan x) g.1 (
      refl,
      f.is ∙ ap (λ l. field rows_tag (content_of due) ++ l) g.0 ∙ append-nil (field rows_tag (content_of due)) ∙ ap (field rows_tag) r.0,
      record { title = v; well_formed = w.0; closed = w.1; few = r.1 },
    )

plan_only : (place : ℕ) (due : List ℕ) (p : Plan) → Bytes due → plan_in place due ≡ Ok p → (due ≡ field title_tag p.title ++ field rows_tag (rows_content p.rows)) × SoundPlan p
plan_only place due p small e =
    let s = and_then_ok (in_field place (and_then (framed (eqb title_tag) due) (λ _. title_in (content_of due)))) (rows_next (place + (3 + size_of due)) (beyond due)) p e in
    let title = s.0 in
    let f = read_as title_tag due (title_in (content_of due)) title small (map_fault_ok (InField place) _ title s.1) in
    let t = title_only (content_of due) title f.answer in
    let r = rows_next_only (place + (3 + size_of due)) (beyond due) title p f.beyond t.1 s.2 in
    (f.is ∙ (λ i. field title_tag ((t.0 ∙ sym r.0) i) ++ r.1 i), r.2)

-- what the next field was, after n plans
abbrev Next : ℕ → List ℕ → Option Plan → Type 0
Next n due (Some p) = (due ≡ plan_field p ++ beyond due) × SoundPlan p
Next n due None = (due ≡ last_field n) × (n ≤ 65535)

last_next : (place n : ℕ) (due : List ℕ) (o : Option Plan) → due ≡ field last_tag (content_of due) ++ beyond due → Bytes (content_of due) → last_in place n due ≡ Ok o → Next n due o
last_next place n due o is small e =
    let s = and_then_ok (at_field place (count_in n (content_of due))) (λ _. cond (eqb (length (beyond due)) 0) (Ok None) (Err (AtField (place + (3 + size_of due)) Malformed))) o e in
    let c = count_only n (content_of due) small (map_fault_ok (AtField place) (count_in n (content_of due)) tt s.1) in
    let t = cond_ok (eqb (length (beyond due)) 0) (Ok None) (AtField (place + (3 + size_of due)) Malformed) o s.2 in
    subst (Next n due) (ok_same None o t.1) (is ∙ (λ i. field last_tag (c.0 i) ++ empty_is (beyond due) t.0 i), c.1)

plan_next : (place n : ℕ) (due : List ℕ) (o : Option Plan) → due ≡ field plan_tag (content_of due) ++ beyond due → Bytes (content_of due) → and_then (in_plan place (suc n) (plan_in (place + 3) (content_of due))) (λ plan. Ok (Some plan)) ≡ Ok o → Next n due o
plan_next place n due o is small e =
    let s = and_then_ok (in_plan place (suc n) (plan_in (place + 3) (content_of due))) (λ plan. Ok (Some plan)) o e in
    let r = plan_only (place + 3) (content_of due) s.0 small (map_fault_ok (InPlan place (suc n)) (plan_in (place + 3) (content_of due)) s.0 s.1) in
    subst (Next n due) (ok_same (Some s.0) o s.2) (is ∙ ap (λ c. field plan_tag c ++ beyond due) r.0, r.1)

next_only : (place n : ℕ) (due : List ℕ) (o : Option Plan) → Bytes due → next_in place n due ≡ Ok o → Next n due o × Bytes (beyond due)
next_only place n due o small e =
    let may_come : ℕ → Bool = λ tag. eqb plan_tag tag || eqb last_tag tag in
    let s = and_then_ok (at_field place (framed may_come due)) _ o e in
    let u = framed_ok may_come due small (map_fault_ok (AtField place) (framed may_come due) tt s.1) in
    (go (eqb plan_tag (tag_of due)) (eqb last_tag (tag_of due)) u.comes (tagged plan_tag due u.is) (tagged last_tag due u.is) u.content s.2, u.beyond)
  where
    go : (t l : Bool) → (t || l) ≡ true → (t ≡ true → due ≡ field plan_tag (content_of due) ++ beyond due) → (l ≡ true → due ≡ field last_tag (content_of due) ++ beyond due) → Bytes (content_of due) → cond t (and_then (in_plan place (suc n) (plan_in (place + 3) (content_of due))) (λ plan. Ok (Some plan))) (last_in place n due) ≡ Ok o → Next n due o
    go true l c p q b e = plan_next place n due o (p refl) b e
    go false l c p q b e = last_next place n due o (q c) b e

-- the fields of all further plans, after n plans
record PlansAt (n : ℕ) (due : List ℕ) (ps : List Plan) : Type 0 where
  is : due ≡ plan_fields ps ++ last_field (n + length ps)
  sound : AllByRecursion SoundPlan ps
  count : n + length ps ≤ 65535

plans_only : (most place n : ℕ) (due : List ℕ) (ps : List Plan) → Bytes due → plans_in most place n due ≡ Ok ps → PlansAt n due ps
plans_only zero place n due ps small e = err_ok (AtField place NoFit) ps e
plans_only (suc most) place n due ps small e =
    let s = and_then_ok (next_in place n due) _ ps e in
    let r = next_only place n due s.0 small s.1 in
    go s.0 r.0 (λ later. plans_only most (place + (3 + size_of due)) (suc n) (beyond due) later r.1) s.2
  where
    go : (o : Option Plan) → Next n due o → ((later : List Plan) → plans_in most (place + (3 + size_of due)) (suc n) (beyond due) ≡ Ok later → PlansAt (suc n) (beyond due) later) → ◌≡◌ {A = Result (List Plan) ArchiveFault} (elim o [ None ↦ Ok [] | Some plan ↦ and_then (plans_in most (place + (3 + size_of due)) (suc n) (beyond due)) (λ later. Ok (plan ∷ later)) ]) (Ok ps) → PlansAt n due ps
    go None next rest e = subst (PlansAt n due) (ok_same [] ps e) (record { is = next.0 ∙ ap last_field (sym (add-zero n)); sound = tt; count = omega arith })
    go (Some p) next rest e =
        let s = and_then_ok (plans_in most (place + (3 + size_of due)) (suc n) (beyond due)) (λ later. Ok (p ∷ later)) ps e in
        let later = s.0 in
        let r = rest later s.1 in
        let on : suc n + length later ≡ n + suc (length later) = omega arith in
        subst (PlansAt n due) (ok_same (p ∷ later) ps s.2)
        (record {
          is = next.0 ∙ ap (λ l. plan_field p ++ l) (r.is ∙ ap (λ m. plan_fields later ++ last_field m) on) ∙ sym (append_assoc (plan_field p) (plan_fields later) (last_field (n + suc (length later))));
          sound = (next.1, r.sound);
          count = omega arith;
        })

pub only : (bs : List ℕ) (a : Archive) → Bytes bs → read_of bs ≡ Ok a → (bs ≡ encoded a) × Sound a
only bs a small e =
    let s = and_then_ok (at_field 0 (and_then (framed (eqb date_tag) bs) (λ _. date_in (content_of bs)))) _ a e in
    let date = s.0 in
    let f = read_as date_tag bs (date_in (content_of bs)) date small (map_fault_ok (AtField 0) _ date s.1) in
    let d = date_only (content_of bs) date f.content f.answer in
    let t = and_then_ok (plans_in (length bs) (3 + size_of bs) 0 (beyond bs)) (λ plans. Ok (record { date = date; plans = plans })) a s.2 in
    let plans = t.0 in
    let r = plans_only (length bs) (3 + size_of bs) 0 (beyond bs) plans f.beyond t.1 in
    let read : Archive = record { date = date; plans = plans } in
    subst (λ x. (bs ≡ encoded x) × Sound x) (ok_same read a t.2) (
      f.is ∙ (λ i. field date_tag (d.0 i) ++ r.is i) ∙ ap (λ n. date_field date ++ (plan_fields plans ++ last_field n)) (zero-add (length plans)),
      record { date = d.1; plans = r.sound; count = omega arith },
    )
