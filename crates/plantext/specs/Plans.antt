-- A text read line by line into a store: what it answers, and which rows stand afterwards.
use Rattle.std.specs.Prelude.{ℕ, suc, cond, List, [], ◌∷◌, ◌++◌, length, Some, None, Ok, Err, Result, nat_lt}
use Rattle.plane.specs.declared.halfsegment.Halfsegment.{Halfsegment}
use Rattle.plantext.specs.declared.plans.LineFault.{LineFault}
use Rattle.plantext.specs.declared.plans.LineFault.TheVariants.{NotARow, NoRoom}
use Rattle.plantext.specs.Text.{pieces, row_of_line}

-- what follows the last line feed is a line only if it is not empty
abbrev pub no_last : List (List ℕ) → List (List ℕ)
no_last [] = []
no_last ([] ∷ []) = []
no_last ([] ∷ l ∷ ls) = [] ∷ no_last (l ∷ ls)
no_last ((b ∷ bs) ∷ ls) = (b ∷ bs) ∷ no_last ls

abbrev pub lines_of : List ℕ → List (List ℕ)
lines_of text = no_last (pieces 10 text)

-- `count` rows stand, and `done` lines were read; a fault names the line, from 1
abbrev pub fill_answer : ℕ → ℕ → ℕ → List (List ℕ) → Result Unit LineFault
fill_answer room count done [] = Ok tt
fill_answer room count done (l ∷ ls) =
    elim (row_of_line l) [ None ↦ Err (NotARow (suc done)) | Some h ↦ cond (nat_lt count room) (fill_answer room (suc count) (suc done) ls) (Err (NoRoom (suc done))) ]

abbrev pub fill_rows : ℕ → List Halfsegment → List (List ℕ) → List Halfsegment
fill_rows room rows [] = rows
fill_rows room rows (l ∷ ls) =
    elim (row_of_line l) [ None ↦ rows | Some h ↦ cond (nat_lt (length rows) room) (fill_rows room (rows ++ h ∷ []) ls) rows ]
