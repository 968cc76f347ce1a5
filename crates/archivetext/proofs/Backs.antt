-- The text of an archive is read as that archive: `back`, also where the archive was written in bytes and these were unpacked: `again`.
use Rattle.std.proofs.Common.{◌≡◌, ℕ, suc, ◌+◌, ◌<◌, ◌≤◌, cond, ltb, List, [], ◌∷◌, ◌++◌, map, length, Some, None, Ok, Err, codes, Option, Result, sym, refl, ap, ◌∙◌, arith}
use Rattle.std.specs.List.{flat_map, AllByRecursion}
use Rattle.std.proofs.lemmas.List.{append-nil, append_assoc, length-append}
use Rattle.std.proofs.lemmas.Bool.{lt-ltb}
use Rattle.plane.specs.declared.halfsegment.Halfsegment.{Halfsegment}
use Rattle.storage.proofs.RowLists.{Fits32}
use Rattle.region.specs.declared.refusals.CheckRefusal.{CheckRefusal}
use Rattle.region.proofs.Verdicts.{accepts}
use Rattle.plantext.specs.Text.{pieces, row_of_line}
use Rattle.encoding.specs.declared.dates.Date.{Date}
use Rattle.encoding.specs.Format.{Plan, Archive, SoundPlan, Sound, encoded}
use Rattle.encoding.specs.Read.{and_then}
use Rattle.encoding.proofs.Back as bytes
use Rattle.encoding.proofs.RowLists.{well_formed_fit}
use Rattle.archive.specs.declared.states.AddRefusal.{AddRefusal}
use Rattle.archive.specs.declared.states.AddRefusal.TheVariants.{BadTitle, BadPlan, TooLarge}
use Rattle.archivetext.specs.declared.faults.PackFault.{PackFault}
use Rattle.archivetext.specs.declared.faults.LineFault.TheVariants.{NotADate, NoSuchDate, NotARow, TooManyRows, Refused}
use Rattle.archivetext.specs.Text.{line, row_words, row_line, title_line, plan_text, date_words, text_of, told_fault, unpacked}
use Rattle.archivetext.specs.Pack.{at_line, with_plan, rows_on, plans_on, dated_on, lines_on, archive_of}
use Rattle.archivetext.proofs.Lines.{pieces_line, row_back, row_free, row_no_title, title_free}
use Rattle.archivetext.proofs.Dates.{date_back, date_free}

-- the lines of plans, with the empty piece behind the last line feed
abbrev title_words : Plan → List ℕ
title_words p = codes "plan " ++ p.title

abbrev plan_lines : List Plan → List (List ℕ)
plan_lines [] = [] ∷ []
plan_lines (p ∷ ps) = title_words p ∷ (map row_words p.rows ++ plan_lines ps)

plan_fits : (p : Plan) → SoundPlan p → AllByRecursion Fits32 p.rows
plan_fits p s = well_formed_fit p.rows s.well_formed s.closed

-- the pieces of the text are these lines
pieces_rows : (rows : List Halfsegment) (rest : List ℕ) → AllByRecursion Fits32 rows → pieces 10 (flat_map row_line rows ++ rest) ≡ map row_words rows ++ pieces 10 rest
pieces_rows [] rest fits = refl
pieces_rows (h ∷ rows) rest fits =
    ap (pieces 10) (append_assoc (row_line h) (flat_map row_line rows) rest) ∙
    pieces_line (row_words h) (flat_map row_line rows ++ rest) (row_free h fits.0) ∙
    ap (λ ls. row_words h ∷ ls) (pieces_rows rows rest fits.1)

pieces_plans : (ps : List Plan) → AllByRecursion SoundPlan ps → pieces 10 (flat_map plan_text ps) ≡ plan_lines ps
pieces_plans [] s = refl
pieces_plans (p ∷ ps) s =
    ap (pieces 10) (append_assoc (title_line p.title) (flat_map row_line p.rows) (flat_map plan_text ps)) ∙
    pieces_line (title_words p) (flat_map row_line p.rows ++ flat_map plan_text ps) (title_free p.title s.0.title) ∙
    ap (λ ls. title_words p ∷ ls) (pieces_rows p.rows (flat_map plan_text ps) (plan_fits p s.0) ∙ ap (λ ls. map row_words p.rows ++ ls) (pieces_plans ps s.1))

-- a plan that may stand in an archive is not refused
with_plan_back : (n : ℕ) (done : List Plan) (p : Plan) → SoundPlan p → length done < 65535 → with_plan n done p ≡ Ok (done ++ (p ∷ []))
with_plan_back n done p s l =
    ap of ((λ i. cond (s.title i) (checked ((accepts p.rows).1 (s.well_formed, s.closed) i)) (Err BadTitle)) ∙ ap (λ t. cond t (Ok tt) (Err TooLarge)) (lt-ltb (length done) 65535 l))
  where
    checked : Result Unit CheckRefusal → Result Unit AddRefusal
    checked r = elim r [ Err refusal ↦ Err (BadPlan refusal) | Ok _ ↦ cond (ltb (length done) 65535) (Ok tt) (Err TooLarge) ]

    of : Result Unit AddRefusal → Result (List Plan) PackFault
    of r = elim r [ Ok _ ↦ Ok (done ++ (p ∷ [])) | Err refusal ↦ at_line n (Refused refusal) ]

module _ (start : ℕ) (title : List ℕ) (n : ℕ) (rows : List Halfsegment) (done : List Plan) where
  abbrev ended : Plan
  ended = record { title = title; rows = rows }

  -- before another line: a row, or the next title
  rows_row : (h : Halfsegment) (ls : List (List ℕ)) → Fits32 h → length rows < 4000 → 0 < length ls → rows_on start title n rows done (row_words h ∷ ls) ≡ rows_on start title (suc n) (rows ++ (h ∷ [])) done ls
  rows_row h [] fits few some = absurd (omega arith)
  rows_row h (m ∷ ls) fits few some = ap by_title (row_no_title h fits) ∙ ap by_row (row_back h fits) ∙ ap (λ t. cond t (rows_on start title (suc n) (rows ++ (h ∷ [])) done (m ∷ ls)) (at_line n TooManyRows)) (lt-ltb (length rows) 4000 few)
    where
      by_row : Option Halfsegment → Result (List Plan) PackFault
      by_row o = elim o [ None ↦ at_line n NotARow | Some h ↦ cond (ltb (length rows) 4000) (rows_on start title (suc n) (rows ++ (h ∷ [])) done (m ∷ ls)) (at_line n TooManyRows) ]

      by_title : Option (List ℕ) → Result (List Plan) PackFault
      by_title o = elim o [ Some next ↦ and_then (with_plan start done ended) (λ more. rows_on n next (suc n) [] more (m ∷ ls)) | None ↦ by_row (row_of_line (row_words h)) ]

  rows_title : (q : Plan) (ls : List (List ℕ)) → 0 < length ls → rows_on start title n rows done (title_words q ∷ ls) ≡ and_then (with_plan start done ended) (λ more. rows_on n q.title (suc n) [] more ls)
  rows_title q [] some = absurd (omega arith)
  rows_title q (m ∷ ls) some = refl

lines_some : (rows : List Halfsegment) (ps : List Plan) → 0 < length (map row_words rows ++ plan_lines ps)
lines_some [] [] = omega arith
lines_some [] (p ∷ ps) = omega arith
lines_some (h ∷ rows) ps = omega arith

-- rows before the lines of other plans are read one by one
rows_back : (start : ℕ) (title : List ℕ) (done ps : List Plan) (answer : Result (List Plan) PackFault) (more rows : List Halfsegment) → AllByRecursion Fits32 more → length rows + length more ≤ 4000 → ((n : ℕ) → rows_on start title n (rows ++ more) done (plan_lines ps) ≡ answer) → (n : ℕ) → rows_on start title n rows done (map row_words more ++ plan_lines ps) ≡ answer
rows_back start title done ps answer [] rows fits few next n = ap (λ l. rows_on start title n l done (plan_lines ps)) (sym (append-nil rows)) ∙ next n
rows_back start title done ps answer (h ∷ more) rows fits few next n =
    rows_row start title n rows done h (map row_words more ++ plan_lines ps) fits.0 (omega arith) (lines_some more ps) ∙
    rows_back start title done ps answer more (rows ++ (h ∷ [])) fits.1 (omega (arith, length-append rows (h ∷ []))) (λ k. ap (λ l. rows_on start title k l done (plan_lines ps)) (append_assoc rows (h ∷ []) more) ∙ next k) (suc n)

plans_back : (ps : List Plan) (p : Plan) (done : List Plan) (start n : ℕ) → SoundPlan p → AllByRecursion SoundPlan ps → length done + suc (length ps) ≤ 65535 → rows_on start p.title n [] done (map row_words p.rows ++ plan_lines ps) ≡ Ok (done ++ (p ∷ ps))
plans_back [] p done start n s all le =
    rows_back start p.title done [] (Ok (done ++ (p ∷ []))) p.rows [] (plan_fits p s) (omega (arith, s.few)) (λ k. with_plan_back start done p s (omega arith)) n
plans_back (q ∷ qs) p done start n s all le =
    rows_back start p.title done (q ∷ qs) (Ok (done ++ (p ∷ q ∷ qs))) p.rows [] (plan_fits p s) (omega (arith, s.few)) (λ k.
    rows_title start p.title k p.rows done q (map row_words q.rows ++ plan_lines qs) (lines_some q.rows qs) ∙
    ap (λ r. and_then r (λ more. rows_on k q.title (suc k) [] more (map row_words q.rows ++ plan_lines qs))) (with_plan_back start done p s (omega arith)) ∙
    plans_back qs q (done ++ (p ∷ [])) k (suc k) all.0 all.1 (omega (arith, length-append done (p ∷ []))) ∙
    ap Ok (append_assoc done (p ∷ []) (q ∷ qs))) n

-- behind the date
plans_read : (n : ℕ) (ps : List Plan) → AllByRecursion SoundPlan ps → length ps ≤ 65535 → plans_on n (plan_lines ps) ≡ Ok ps
plans_read n [] s le = refl
plans_read n (p ∷ ps) s le = titled (map row_words p.rows ++ plan_lines ps) (lines_some p.rows ps) ∙ plans_back ps p [] n (suc n) s.0 s.1 (omega arith)
  where
    titled : (ls : List (List ℕ)) → 0 < length ls → plans_on n (title_words p ∷ ls) ≡ rows_on n p.title (suc n) [] [] ls
    titled [] some = absurd (omega arith)
    titled (m ∷ ls) some = refl

dated_back : (a : Archive) → Sound a → dated_on a.date (plan_lines a.plans) ≡ Ok a
dated_back a s =
    λ i. cond (s.date i) (and_then (plans_read 2 a.plans s.plans s.count i) (λ plans. Ok record { date = a.date; plans = plans })) (at_line 1 NoSuchDate)

lines_back : (a : Archive) → Sound a → (ls : List (List ℕ)) → 0 < length ls → lines_on (date_words a.date ∷ ls) ≡ dated_on a.date ls
lines_back a s [] some = absurd (omega arith)
lines_back a s (m ∷ ls) some = ap of (date_back a.date s.date)
  where
    of : Option Date → Result Archive PackFault
    of o = elim o [ None ↦ at_line 1 NotADate | Some d ↦ dated_on d (m ∷ ls) ]

pub back : (a : Archive) → Sound a → archive_of (text_of a) ≡ Ok a
back a s =
    ap lines_on (pieces_line (date_words a.date) (flat_map plan_text a.plans) (date_free a.date) ∙ ap (λ ls. date_words a.date ∷ ls) (pieces_plans a.plans s.plans)) ∙
    lines_back a s (plan_lines a.plans) (lines_some [] a.plans) ∙
    dated_back a s

pub again : (a : Archive) → Sound a → archive_of (unpacked (encoded a)) ≡ Ok a
again a s = ap (λ r. archive_of (elim r [ Ok a ↦ text_of a | Err f ↦ line (told_fault f) ])) (bytes.back a s) ∙ back a s
