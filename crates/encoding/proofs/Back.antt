-- What was written comes back: `back`, from the fields outwards.
use Rattle.std.proofs.Common.{◌≡◌, ℕ, zero, suc, ◌+◌, ◌*◌, ◌/◌, ◌%◌, ◌<◌, ◌≤◌, Bool, true, cond, ◌||◌, eqb, List, [], ◌∷◌, ◌++◌, length, Some, None, Ok, Err, Option, Result, refl, ap, ◌∙◌, arith}
use Rattle.std.specs.List.{AllByRecursion}
use Rattle.std.proofs.lemmas.List.{append_assoc, length-append}
use Rattle.std.proofs.lemmas.Bool.{le-leb, eq-eqb, and_from, cond-true}
use Rattle.plane.specs.declared.halfsegment.Halfsegment.{Halfsegment}
use Rattle.storage.specs.Bytes.{rows_of}
use Rattle.storage.proofs.RowLists.{Fits32}
use Rattle.region.specs.declared.refusals.CheckRefusal.{CheckRefusal}
use Rattle.region.specs.Check.{check_of}
use Rattle.region.proofs.Verdicts.{accepts}
use Rattle.encoding.specs.declared.dates.Date.{Date}
use Rattle.encoding.specs.declared.faults.PlanFault.{PlanFault}
use Rattle.encoding.specs.declared.faults.PlanFault.TheVariants.{InRows}
use Rattle.encoding.specs.declared.faults.ArchiveFault.{ArchiveFault}
use Rattle.encoding.specs.declared.faults.ArchiveFault.TheVariants.{AtField}
use Rattle.encoding.specs.declared.faults.FieldFault.TheVariants.{Malformed, BadTitle, NoSuchDate}
use Rattle.encoding.specs.Dates.{valid_date}
use Rattle.encoding.specs.Format.{Plan, Archive, SoundPlan, Sound, date_tag, plan_tag, title_tag, rows_tag, last_tag, two_bytes, field, rows_content, plan_field, plan_fields, last_field, encoded, valid_title}
use Rattle.encoding.specs.Read.{size_of, content_of, beyond, and_then, in_field, at_field, in_plan, dated, date_in, title_in, rows_in, count_in, checked, ended, rows_next, plan_in, last_in, next_in, plans_in, read_of}
use Rattle.encoding.proofs.Frames.{two_bytes_back, Begins, begins, begins_last, begins_framed}
use Rattle.encoding.proofs.RowLists.{length_rows_content, rows_of_content, well_formed_fit}

-- the contents of the fields
abbrev date_content : Date → List ℕ
date_content d = two_bytes d.year ++ (d.month ∷ d.day ∷ [])

date_back : (d : Date) → valid_date d ≡ true → date_in (date_content d) ≡ Ok d
date_back d v =
    (λ i. dated (record { year = two_bytes_back d.year i; month = d.month; day = d.day })) ∙ cond-true (valid_date d) (Ok d) (Err NoSuchDate) v

title_back : (title : List ℕ) → valid_title title ≡ true → title_in title ≡ Ok title
title_back title v = cond-true (valid_title title) (Ok title) (Err BadTitle) v

rows_back : (rows : List Halfsegment) → AllByRecursion Fits32 rows → length rows ≤ 4000 → rows_in (rows_content rows) ≡ Ok rows
rows_back rows f few =
    let n = length_rows_content rows in
    cond-true _ (Ok (rows_of (rows_content rows))) (Err Malformed) (and_from _ _ (le-leb (length (rows_content rows)) 64000 (omega arith)) (eq-eqb (length (rows_content rows) % 16) 0 (omega arith))) ∙ ap Ok (rows_of_content rows f)

count_back : (k n : ℕ) → n ≡ k → count_in k (two_bytes n) ≡ Ok tt
count_back k n e = cond-true _ (Ok tt) (Err Malformed) (eq-eqb (n / 256 * 256 + n % 256) k (two_bytes_back n ∙ e))

-- the fields of a plan
checked_back : (p : Plan) → check_of p.rows ≡ Ok tt → checked p ≡ Ok p
checked_back p e = ap of e
  where
    of : Result Unit CheckRefusal → Result Plan PlanFault
    of r = elim r [ Ok _ ↦ Ok p | Err refusal ↦ Err (InRows refusal) ]

rows_next_back : (place : ℕ) (due : List ℕ) (p : Plan) → SoundPlan p → Begins due rows_tag (rows_content p.rows) [] → rows_next place due p.title ≡ Ok p
rows_next_back place due p s b =
    (λ i. and_then (in_field place (and_then (begins_framed due _ _ _ b (eqb rows_tag) refl i) (λ _. rows_in (b.content_is i)))) (λ rows. ended (place + (3 + size_of due)) (b.beyond_is i) (record { title = p.title; rows = rows }))) ∙
    (ap (λ r. and_then (in_field place r) (λ rows. checked (record { title = p.title; rows = rows }))) (rows_back p.rows (well_formed_fit p.rows s.well_formed s.closed) s.few) ∙
    checked_back p ((accepts p.rows).1 (s.well_formed, s.closed)))

abbrev plan_content : Plan → List ℕ
plan_content p = field title_tag p.title ++ field rows_tag (rows_content p.rows)

plan_back : (place : ℕ) (p : Plan) → SoundPlan p → plan_in place (plan_content p) ≡ Ok p
plan_back place p s =
    (λ i. and_then (in_field place (and_then (begins_framed due _ _ _ b (eqb title_tag) refl i) (λ _. title_in (b.content_is i)))) (rows_next (place + (3 + size_of due)) (b.beyond_is i))) ∙
    (ap (λ r. and_then (in_field place r) (rows_next (place + (3 + size_of due)) (field rows_tag (rows_content p.rows)))) (title_back p.title s.title) ∙
    rows_next_back (place + (3 + size_of due)) (field rows_tag (rows_content p.rows)) p s (begins_last rows_tag (rows_content p.rows)))
  where
    due : List ℕ
    due = plan_content p

    b : Begins due title_tag p.title (field rows_tag (rows_content p.rows))
    b = begins due title_tag p.title (field rows_tag (rows_content p.rows)) refl

-- the fields after the date
abbrev may_follow : ℕ → Bool
may_follow tag = eqb plan_tag tag || eqb last_tag tag

next_plan : (place plans : ℕ) (due rest : List ℕ) (p : Plan) → SoundPlan p → Begins due plan_tag (plan_content p) rest → next_in place plans due ≡ Ok (Some p)
next_plan place plans due rest p s b =
    (λ i. and_then (at_field place (begins_framed due _ _ _ b may_follow refl i)) (λ _. cond (eqb plan_tag (b.tag_is i)) (and_then (in_plan place (suc plans) (plan_in (place + 3) (b.content_is i))) (λ plan. Ok (Some plan))) (last_in place plans due))) ∙
    ap (λ r. and_then (in_plan place (suc plans) r) (λ plan. Ok (Some plan))) (plan_back (place + 3) p s)

next_none : (place k n : ℕ) (due : List ℕ) → n ≡ k → Begins due last_tag (two_bytes n) [] → next_in place k due ≡ Ok None
next_none place k n due e b =
    (λ i. and_then (at_field place (begins_framed due _ _ _ b may_follow refl i)) (λ _. cond (eqb plan_tag (b.tag_is i)) (and_then (in_plan place (suc k) (plan_in (place + 3) (content_of due))) (λ plan. Ok (Some plan))) (last_in place k due))) ∙
    ((λ i. and_then (at_field place (count_in k (b.content_is i))) (λ _. cond (eqb (length (b.beyond_is i)) 0) (Ok None) (Err (AtField (place + (3 + size_of due)) Malformed)))) ∙
    ap (λ r. and_then (at_field place r) (λ _. Ok None)) (count_back k n e))

plans_back : (ps : List Plan) (most place k n : ℕ) → AllByRecursion SoundPlan ps → length ps < most → k + length ps ≡ n → plans_in most place k (plan_fields ps ++ last_field n) ≡ Ok ps
plans_back ps zero place k n s l e = absurd (omega arith)
plans_back [] (suc most) place k n s l e = ap of (next_none place k n (last_field n) (omega arith) (begins_last last_tag (two_bytes n)))
  where
    of : Result (Option Plan) ArchiveFault → Result (List Plan) ArchiveFault
    of r = and_then r (λ next. elim next [ None ↦ Ok [] | Some plan ↦ and_then (plans_in most (place + (3 + size_of (last_field n))) (suc k) (beyond (last_field n))) (λ later. Ok (plan ∷ later)) ])
plans_back (p ∷ ps) (suc most) place k n s l e =
    ap of (next_plan place k due rest p s.0 b) ∙
    ((λ i. and_then (plans_in most (place + (3 + size_of due)) (suc k) (b.beyond_is i)) (λ later. Ok (p ∷ later))) ∙
    ap (λ r. and_then r (λ later. Ok (p ∷ later))) (plans_back ps most (place + (3 + size_of due)) (suc k) n s.1 (omega arith) (omega arith)))
  where
    rest : List ℕ
    rest = plan_fields ps ++ last_field n

    due : List ℕ
    due = plan_fields (p ∷ ps) ++ last_field n

    b : Begins due plan_tag (plan_content p) rest
    b = begins due plan_tag (plan_content p) rest (append_assoc (plan_field p) (plan_fields ps) (last_field n))

    of : Result (Option Plan) ArchiveFault → Result (List Plan) ArchiveFault
    of r = and_then r (λ next. elim next [ None ↦ Ok [] | Some plan ↦ and_then (plans_in most (place + (3 + size_of due)) (suc k) (beyond due)) (λ later. Ok (plan ∷ later)) ])

-- a plan takes more than one byte
plans_fewer : (ps : List Plan) → length ps ≤ length (plan_fields ps)
plans_fewer [] = omega arith
plans_fewer (p ∷ ps) = omega (arith, plans_fewer ps, length-append (plan_field p) (plan_fields ps))

archive_back : (bs : List ℕ) (a : Archive) → Sound a → Begins bs date_tag (date_content a.date) (plan_fields a.plans ++ last_field (length a.plans)) → read_of bs ≡ Ok a
archive_back bs a s b =
    (λ i. and_then (at_field 0 (and_then (begins_framed bs _ _ _ b (eqb date_tag) refl i) (λ _. date_in (b.content_is i)))) (λ date. of date (plans_in (length bs) (3 + size_of bs) 0 (b.beyond_is i)))) ∙
    (ap (λ r. and_then (at_field 0 r) (λ date. of date (plans_in (length bs) (3 + size_of bs) 0 rest))) (date_back a.date s.date) ∙
    ap (of a.date) (plans_back a.plans (length bs) (3 + size_of bs) 0 (length a.plans) s.plans enough (omega arith)))
  where
    of : Date → Result (List Plan) ArchiveFault → Result Archive ArchiveFault
    of date r = and_then r (λ plans. Ok (record { date = date; plans = plans }))

    rest : List ℕ
    rest = plan_fields a.plans ++ last_field (length a.plans)

    enough : length a.plans < length bs
    enough = omega (arith, b.length_is, plans_fewer a.plans, length-append (plan_fields a.plans) (last_field (length a.plans)))

pub back : (a : Archive) → Sound a → read_of (encoded a) ≡ Ok a
back a s = archive_back (encoded a) a s (begins (encoded a) date_tag (date_content a.date) (plan_fields a.plans ++ last_field (length a.plans)) refl)
