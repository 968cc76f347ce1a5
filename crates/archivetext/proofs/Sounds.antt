-- What a text is read as may stand in an archive: `sound`.
use Rattle.std.proofs.Common.{◌≡◌, ℕ, suc, ◌<◌, ◌≤◌, cond, eqb, ltb, List, [], ◌∷◌, ◌++◌, length, Some, None, Ok, Err, Option, Result, refl, subst, arith}
use Rattle.std.specs.List.{AllByRecursion}
use Rattle.std.proofs.ByRecursion.{All-push}
use Rattle.std.proofs.lemmas.List.{length-append}
use Rattle.std.proofs.lemmas.Bool.{ltb-true}
use Rattle.plane.specs.declared.halfsegment.Halfsegment.{Halfsegment}
use Rattle.region.specs.declared.refusals.CheckRefusal.{CheckRefusal}
use Rattle.region.specs.Check.{check_of}
use Rattle.region.proofs.Verdicts.{accepts}
use Rattle.plantext.specs.Text.{pieces, row_of_line}
use Rattle.encoding.specs.declared.dates.Date.{Date}
use Rattle.encoding.specs.Dates.{valid_date}
use Rattle.encoding.specs.Format.{Plan, Archive, SoundPlan, Sound, valid_title}
use Rattle.encoding.specs.Read.{and_then}
use Rattle.encoding.proofs.Unframed.{err_ok, ok_same, cond_ok, and_then_ok}
use Rattle.archive.specs.declared.states.AddRefusal.{AddRefusal}
use Rattle.archive.specs.declared.states.AddRefusal.TheVariants.{BadTitle, BadPlan, TooLarge}
use Rattle.archivetext.specs.declared.faults.PackFault.{PackFault}
use Rattle.archivetext.specs.declared.faults.LineFault.TheVariants.{NotADate, NotAPlan, NotARow, TooManyRows, Refused}
use Rattle.archivetext.specs.Pack.{at_line, date_of_line, title_of_line, plan_fault, with_plan, rows_on, plans_on, dated_on, lines_on, archive_of}

-- the plans so far may stand in an archive
record Plans (done : List Plan) : Type 0 where
  pub all : AllByRecursion SoundPlan done
  pub count : length done ≤ 65535

no_plans : Plans []
no_plans = record { all = tt; count = omega arith }

-- nothing stands against a plan that is taken
checked_none : (plans : ℕ) (r : Result Unit CheckRefusal) → ◌≡◌ {A = Result Unit AddRefusal} (elim r [ Err refusal ↦ Err (BadPlan refusal) | Ok _ ↦ cond (ltb plans 65535) (Ok tt) (Err TooLarge) ]) (Ok tt) → (r ≡ Ok tt) × (plans < 65535)
checked_none plans (Ok _) e = (refl, ltb-true plans 65535 (cond_ok (ltb plans 65535) (Ok tt) TooLarge tt e).0)
checked_none plans (Err f) e = err_ok (BadPlan f) tt e

fault_none : (plans : ℕ) (p : Plan) → length p.rows ≤ 4000 → plan_fault plans p.title p.rows ≡ Ok tt → SoundPlan p × (plans < 65535)
fault_none plans p few e =
    let t = cond_ok (valid_title p.title) _ BadTitle tt e in
    let c = checked_none plans (check_of p.rows) t.1 in
    let w = (accepts p.rows).0 c.0 in
    (record { title = t.0; well_formed = w.0; closed = w.1; few = few }, c.1)

taken : (n : ℕ) (done : List Plan) (p : Plan) (all : List Plan) (r : Result Unit AddRefusal) → ◌≡◌ {A = Result (List Plan) PackFault} (elim r [ Ok _ ↦ Ok (done ++ (p ∷ [])) | Err refusal ↦ at_line n (Refused refusal) ]) (Ok all) → (r ≡ Ok tt) × (done ++ (p ∷ []) ≡ all)
taken n done p all (Ok _) e = (refl, ok_same (done ++ (p ∷ [])) all e)
taken n done p all (Err f) e = err_ok _ all e

with_plan_sound : (n : ℕ) (done : List Plan) (p : Plan) (all : List Plan) → Plans done → length p.rows ≤ 4000 → with_plan n done p ≡ Ok all → Plans all
with_plan_sound n done p all s few e =
    let t = taken n done p all (plan_fault (length done) p.title p.rows) e in
    let f = fault_none (length done) p few t.0 in
    subst Plans t.1 record { all = All-push SoundPlan done p s.all f.0; count = omega (arith, f.1, length-append done (p ∷ [])) }

-- line by line
rows_sound : (ls : List (List ℕ)) (start : ℕ) (title : List ℕ) (n : ℕ) (rows : List Halfsegment) (done all : List Plan) → Plans done → length rows ≤ 4000 → rows_on start title n rows done ls ≡ Ok all → Plans all
rows_sound [] start title n rows done all s few e = with_plan_sound start done record { title = title; rows = rows } all s few e
rows_sound (l ∷ []) start title n rows done all s few e =
    with_plan_sound start done record { title = title; rows = rows } all s few (cond_ok (eqb (length l) 0) _ _ all e).1
rows_sound (l ∷ m ∷ ls) start title n rows done all s few e =
    by_title (title_of_line l) (rows_sound (m ∷ ls)) e
  where
    Later : Type 0
    Later = (start : ℕ) (title : List ℕ) (n : ℕ) (rows : List Halfsegment) (done all : List Plan) → Plans done → length rows ≤ 4000 → rows_on start title n rows done (m ∷ ls) ≡ Ok all → Plans all

    -- what the line is read as, as `rows_on` goes on with it
    rowed : Option Halfsegment → Result (List Plan) PackFault
    rowed o = elim o [ None ↦ at_line n NotARow | Some h ↦ cond (ltb (length rows) 4000) (rows_on start title (suc n) (rows ++ (h ∷ [])) done (m ∷ ls)) (at_line n TooManyRows) ]

    titled : Option (List ℕ) → Result (List Plan) PackFault
    titled o = elim o [ Some next ↦ and_then (with_plan start done record { title = title; rows = rows }) (λ more. rows_on n next (suc n) [] more (m ∷ ls)) | None ↦ rowed (row_of_line l) ]

    by_row : (o : Option Halfsegment) → Later → rowed o ≡ Ok all → Plans all
    by_row None later q = err_ok _ all q
    by_row (Some h) later q =
        let t = cond_ok (ltb (length rows) 4000) (rows_on start title (suc n) (rows ++ (h ∷ [])) done (m ∷ ls)) _ all q in
        later start title (suc n) (rows ++ (h ∷ [])) done all s (omega (arith, ltb-true (length rows) 4000 t.0, length-append rows (h ∷ []))) t.1

    by_title : (o : Option (List ℕ)) → Later → titled o ≡ Ok all → Plans all
    by_title None later q = by_row (row_of_line l) later q
    by_title (Some next) later q =
        let t = and_then_ok (with_plan start done record { title = title; rows = rows }) (λ more. rows_on n next (suc n) [] more (m ∷ ls)) all q in
        later n next (suc n) [] t.0 all (with_plan_sound start done record { title = title; rows = rows } t.0 s few t.1) (omega arith) t.2

plans_sound : (n : ℕ) (ls : List (List ℕ)) (all : List Plan) → plans_on n ls ≡ Ok all → Plans all
plans_sound n [] all e = subst Plans (ok_same [] all e) no_plans
plans_sound n (l ∷ []) all e = subst Plans (ok_same [] all (cond_ok (eqb (length l) 0) _ _ all e).1) no_plans
plans_sound n (l ∷ m ∷ ls) all e = by_title (title_of_line l) e
  where
    by_title : (o : Option (List ℕ)) → ◌≡◌ {A = Result (List Plan) PackFault} (elim o [ Some title ↦ rows_on n title (suc n) [] [] (m ∷ ls) | None ↦ at_line n NotAPlan ]) (Ok all) → Plans all
    by_title None q = err_ok _ all q
    by_title (Some title) q = rows_sound (m ∷ ls) n title (suc n) [] [] all no_plans (omega arith) q

dated_sound : (d : Date) (ls : List (List ℕ)) (a : Archive) → dated_on d ls ≡ Ok a → Sound a
dated_sound d ls a e =
    let t = cond_ok (valid_date d) _ _ a e in
    let p = and_then_ok (plans_on 2 ls) (λ plans. Ok record { date = d; plans = plans }) a t.1 in
    let s = plans_sound 2 ls p.0 p.1 in
    subst Sound (ok_same _ a p.2) record { date = t.0; plans = s.all; count = s.count }

lines_sound : (ls : List (List ℕ)) (a : Archive) → lines_on ls ≡ Ok a → Sound a
lines_sound [] a e = err_ok _ a e
lines_sound (l ∷ []) a e = err_ok _ a e
lines_sound (l ∷ m ∷ ls) a e = by_date (date_of_line l) e
  where
    by_date : (o : Option Date) → ◌≡◌ {A = Result Archive PackFault} (elim o [ None ↦ at_line 1 NotADate | Some d ↦ dated_on d (m ∷ ls) ]) (Ok a) → Sound a
    by_date None q = err_ok _ a q
    by_date (Some d) q = dated_sound d (m ∷ ls) a q

pub sound : (text : List ℕ) (a : Archive) → archive_of text ≡ Ok a → Sound a
sound text a e = lines_sound (pieces 10 text) a e
