-- The archive that a text stands for, or the first line at fault.
use Rattle.std.specs.Prelude.{ℕ, suc, Bool, cond, ◌&&◌, List, [], ◌∷◌, ◌++◌, length, take, drop, Some, None, Ok, Err, codes, Option, Result, ◌==◌, nat_lt, slice_index}
use Rattle.std.specs.Str.{bytes_eq, all_ascii_digits}
use Rattle.plane.specs.declared.halfsegment.Halfsegment.{Halfsegment}
use Rattle.region.specs.Check.{check_of}
use Rattle.plantext.specs.Text.{pieces, row_of_line, value}
use Rattle.encoding.specs.declared.dates.Date.{Date}
use Rattle.encoding.specs.Dates.{valid_date}
use Rattle.encoding.specs.Format.{Plan, Archive, valid_title}
use Rattle.encoding.specs.Read.{and_then}
use Rattle.archive.specs.declared.states.AddRefusal.{AddRefusal}
use Rattle.archive.specs.declared.states.AddRefusal.TheVariants.{BadTitle, BadPlan, TooLarge}
use Rattle.archivetext.specs.declared.faults.PackFault.{PackFault}
use Rattle.archivetext.specs.declared.faults.LineFault.{LineFault}
use Rattle.archivetext.specs.declared.faults.LineFault.TheVariants.{NotADate, NoSuchDate, NotAPlan, NotARow, TooManyRows, NotEnded, Refused}

-- a fault at a line, from 1
abbrev pub at_line : {A : Type 0} → ℕ → LineFault → Result A PackFault
at_line n why = Err record { line = n; why = why }

-- `date YYYY-MM-DD`
abbrev pub is_date : List ℕ → Bool
is_date l =
    (length l == 15 && bytes_eq (take 5 l) (codes "date ")) && ((slice_index l 9 == 45 && slice_index l 12 == 45) && (all_ascii_digits (take 4 (drop 5 l)) && (all_ascii_digits (take 2 (drop 10 l)) && all_ascii_digits (drop 13 l))))

abbrev pub date_of_line : List ℕ → Option Date
date_of_line l = cond (is_date l) (Some record { year = value (take 4 (drop 5 l)); month = value (take 2 (drop 10 l)); day = value (drop 13 l) }) None

-- `plan`, one space and the title to the line's end
abbrev pub title_of_line : List ℕ → Option (List ℕ)
title_of_line l = cond (bytes_eq (take 5 l) (codes "plan ")) (Some (drop 5 l)) None

-- a plan behind others, or what stands against it; it is named by the line of its title
abbrev pub plan_fault : ℕ → List ℕ → List Halfsegment → Result Unit AddRefusal
plan_fault plans title rows =
    cond (valid_title title) (elim (check_of rows) [ Err refusal ↦ Err (BadPlan refusal) | Ok _ ↦ cond (nat_lt plans 65535) (Ok tt) (Err TooLarge) ]) (Err BadTitle)

abbrev pub with_plan : ℕ → List Plan → Plan → Result (List Plan) PackFault
with_plan n done p = elim (plan_fault (length done) p.title p.rows) [ Ok _ ↦ Ok (done ++ (p ∷ [])) | Err refusal ↦ at_line n (Refused refusal) ]

-- the lines of a text are its pieces between line feeds; the piece behind the last line feed has to be empty
abbrev pub at_end : {A : Type 0} → ℕ → List ℕ → Result A PackFault → Result A PackFault
at_end n last answer = cond (length last == 0) answer (at_line n NotEnded)

-- in a plan, whose title stands on the line `start`: the line n and the later ones are rows of it, up to the next title or the end
abbrev pub rows_on : ℕ → List ℕ → ℕ → List Halfsegment → List Plan → List (List ℕ) → Result (List Plan) PackFault
rows_on start title n rows done [] = with_plan start done record { title = title; rows = rows }
rows_on start title n rows done (l ∷ []) = at_end n l (with_plan start done record { title = title; rows = rows })
rows_on start title n rows done (l ∷ m ∷ ls) = elim (title_of_line l) [
  | Some next ↦ and_then (with_plan start done record { title = title; rows = rows }) (λ more. rows_on n next (suc n) [] more (m ∷ ls))
  | None ↦ elim (row_of_line l) [
    | None ↦ at_line n NotARow
    | Some h ↦ cond (nat_lt (length rows) 4000) (rows_on start title (suc n) (rows ++ (h ∷ [])) done (m ∷ ls)) (at_line n TooManyRows)
  ]
]

-- behind the date: a title, or the end
abbrev pub plans_on : ℕ → List (List ℕ) → Result (List Plan) PackFault
plans_on n [] = Ok []
plans_on n (l ∷ []) = at_end n l (Ok [])
plans_on n (l ∷ m ∷ ls) = elim (title_of_line l) [ Some title ↦ rows_on n title (suc n) [] [] (m ∷ ls) | None ↦ at_line n NotAPlan ]

abbrev pub dated_on : Date → List (List ℕ) → Result Archive PackFault
dated_on d ls = cond (valid_date d) (and_then (plans_on 2 ls) (λ plans. Ok record { date = d; plans = plans })) (at_line 1 NoSuchDate)

abbrev pub lines_on : List (List ℕ) → Result Archive PackFault
lines_on [] = at_line 1 NotADate
lines_on (l ∷ []) = at_line 1 NotADate
lines_on (l ∷ m ∷ ls) = elim (date_of_line l) [ None ↦ at_line 1 NotADate | Some d ↦ dated_on d (m ∷ ls) ]

abbrev pub archive_of : List ℕ → Result Archive PackFault
archive_of text = lines_on (pieces 10 text)
