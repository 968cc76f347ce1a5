-- Reading an archive: the date and plans that its bytes hold, or the first fault, in the order in which the fields come.
use Rattle.std.specs.Prelude.{ℕ, zero, suc, ◌+◌, ◌*◌, ◌%◌, Bool, cond, ◌&&◌, ◌||◌, eqb, List, [], ◌∷◌, length, take, drop, Some, None, Ok, Err, Option, Result, ◌==◌, nat_le, slice_index}
use Rattle.plane.specs.declared.halfsegment.Halfsegment.{Halfsegment}
use Rattle.storage.specs.Bytes.{rows_of}
use Rattle.region.specs.Check.{check_of}
use Rattle.encoding.specs.declared.dates.Date.{Date}
use Rattle.encoding.specs.declared.faults.FieldFault.{FieldFault}
use Rattle.encoding.specs.declared.faults.FieldFault.TheVariants.{NoFit, Malformed, BadTitle, NoSuchDate}
use Rattle.encoding.specs.declared.faults.PlanFault.{PlanFault}
use Rattle.encoding.specs.declared.faults.PlanFault.TheVariants.{InField, InRows}
use Rattle.encoding.specs.declared.faults.ArchiveFault.{ArchiveFault}
use Rattle.encoding.specs.declared.faults.ArchiveFault.TheVariants.{AtField, InPlan}
use Rattle.encoding.specs.Dates.{valid_date}
use Rattle.encoding.specs.Format.{Plan, Archive, date_tag, plan_tag, title_tag, rows_tag, last_tag, valid_title}

-- what is left to read begins with a field: its tag, the length that it tells, its content, and what lies beyond it
abbrev pub tag_of : List ℕ → ℕ
tag_of due = slice_index due 0

abbrev pub size_of : List ℕ → ℕ
size_of due = slice_index due 1 * 256 + slice_index due 2

abbrev pub content_of : List ℕ → List ℕ
content_of due = take (size_of due) (drop 3 due)

abbrev pub beyond : List ℕ → List ℕ
beyond due = drop (3 + size_of due) due

-- a field is due: a byte has to be left, its tag has to be one that may come here, and then the field has to fit
abbrev pub framed : (ℕ → Bool) → List ℕ → Result Unit FieldFault
framed may_come due =
    cond (length due == 0) (Err NoFit) (cond (may_come (tag_of due)) (cond (nat_le (3 + size_of due) (length due)) (Ok tt) (Err NoFit)) (Err Malformed))

-- the first fault, or what follows
abbrev pub and_then : {A B E : Type 0} → Result A E → (A → Result B E) → Result B E
and_then (Ok a) next = next a
and_then (Err fault) next = Err fault

-- a fault that a layer adds to
abbrev pub map_fault : {A E F : Type 0} → (E → F) → Result A E → Result A F
map_fault more (Ok a) = Ok a
map_fault more (Err fault) = Err (more fault)

-- a fault with the place of its field, in a plan and outside the plans; a plan's fault with the plan's place and number
abbrev pub in_field : {A : Type 0} → ℕ → Result A FieldFault → Result A PlanFault
in_field place r = map_fault (InField place) r

abbrev pub at_field : {A : Type 0} → ℕ → Result A FieldFault → Result A ArchiveFault
at_field place r = map_fault (AtField place) r

abbrev pub in_plan : {A : Type 0} → ℕ → ℕ → Result A PlanFault → Result A ArchiveFault
in_plan place plan r = map_fault (InPlan place plan) r

-- what the contents of the fields say: first the length is tested, then the rest
abbrev pub dated : Date → Result Date FieldFault
dated d = cond (valid_date d) (Ok d) (Err NoSuchDate)

abbrev pub date_in : List ℕ → Result Date FieldFault
date_in bs = cond (length bs == 4) (dated (record { year = slice_index bs 0 * 256 + slice_index bs 1; month = slice_index bs 2; day = slice_index bs 3 })) (Err Malformed)

abbrev pub title_in : List ℕ → Result (List ℕ) FieldFault
title_in bs = cond (valid_title bs) (Ok bs) (Err BadTitle)

abbrev pub rows_in : List ℕ → Result (List Halfsegment) FieldFault
rows_in bs = cond (nat_le (length bs) 64000 && length bs % 16 == 0) (Ok (rows_of bs)) (Err Malformed)

abbrev pub count_in : ℕ → List ℕ → Result Unit FieldFault
count_in plans bs = cond (length bs == 2 && slice_index bs 0 * 256 + slice_index bs 1 == plans) (Ok tt) (Err Malformed)

-- a plan's content: title, rows, nothing more; and then the rows are checked
abbrev pub checked : Plan → Result Plan PlanFault
checked plan = elim (check_of plan.rows) [ Ok _ ↦ Ok plan | Err refusal ↦ Err (InRows refusal) ]

abbrev pub ended : ℕ → List ℕ → Plan → Result Plan PlanFault
ended place left plan = cond (length left == 0) (checked plan) (Err (InField place Malformed))

abbrev pub rows_next : ℕ → List ℕ → List ℕ → Result Plan PlanFault
rows_next place due title =
    and_then (in_field place (and_then (framed (eqb rows_tag) due) (λ _. rows_in (content_of due)))) (λ rows. ended (place + (3 + size_of due)) (beyond due) (record { title = title; rows = rows }))

abbrev pub plan_in : ℕ → List ℕ → Result Plan PlanFault
plan_in place due =
    and_then (in_field place (and_then (framed (eqb title_tag) due) (λ _. title_in (content_of due)))) (rows_next (place + (3 + size_of due)) (beyond due))

-- the last field, with nothing behind it
abbrev pub last_in : ℕ → ℕ → List ℕ → Result (Option Plan) ArchiveFault
last_in place plans due =
    and_then (at_field place (count_in plans (content_of due))) (λ _. cond (length (beyond due) == 0) (Ok None) (Err (AtField (place + (3 + size_of due)) Malformed)))

-- after the date, and after each plan: the next plan, or none where the last field comes
abbrev pub next_in : ℕ → ℕ → List ℕ → Result (Option Plan) ArchiveFault
next_in place plans due =
    and_then (at_field place (framed (λ tag. (plan_tag == tag) || last_tag == tag) due)) (λ _.
    cond (plan_tag == tag_of due) (and_then (in_plan place (suc plans) (plan_in (place + 3) (content_of due))) (λ plan. Ok (Some plan))) (last_in place plans due))

-- all further plans; there are never more than bytes
abbrev pub plans_in : ℕ → ℕ → ℕ → List ℕ → Result (List Plan) ArchiveFault
plans_in zero place plans due = Err (AtField place NoFit)
plans_in (suc most) place plans due =
    and_then (next_in place plans due) (λ next. elim next [ None ↦ Ok [] | Some plan ↦ and_then (plans_in most (place + (3 + size_of due)) (suc plans) (beyond due)) (λ later. Ok (plan ∷ later)) ])

abbrev pub read_of : List ℕ → Result Archive ArchiveFault
read_of bs =
    and_then (at_field 0 (and_then (framed (eqb date_tag) bs) (λ _. date_in (content_of bs)))) (λ date.
    and_then (plans_in (length bs) (3 + size_of bs) 0 (beyond bs)) (λ plans. Ok (record { date = date; plans = plans })))
