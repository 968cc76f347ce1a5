-- The row at a place of a plan's bytes: `row_read`.
use Rattle.std.proofs.Common.{◌≡◌, ℕ, ◌*◌, ◌/◌, List, length, Some, None, Ok, Option, Result, sym, ap, ◌∙◌, ⊎_elim, arith}
use Rattle.std.specs.Option.{ok_or}
use Rattle.std.proofs.lemmas.Bool.{cases_lt, lt-ltb, le-ltb, cond-true, cond-false}
use Rattle.plane.specs.declared.halfsegment.Halfsegment.{Halfsegment}
use Rattle.storage.specs.declared.interface.NoSuchPlace.{NoSuchPlace}
use Rattle.storage.specs.Rows.{row_at, no_such_place}
use Rattle.storage.specs.Bytes.{bytes_row, rows_of, row_at_byte}
use Rattle.storage.proofs.RowLists.{row_at_in, row_at_out}
use Rattle.storage.proofs.RowBytes.{length_rows_of, get_or_rows_of}

pub row_read : (bs : List ℕ) (i : ℕ) (o : Option Halfsegment) (r : Result Halfsegment NoSuchPlace) → o ≡ bytes_row bs i → r ≡ ok_or o no_such_place → r ≡ row_at (rows_of bs) i
row_read bs i o r e f =
    let n = length_rows_of bs in
    ⊎_elim
    (λ h. f ∙ ap (λ p. ok_or p no_such_place) (e ∙ cond-true _ (Some (row_at_byte bs (16 * i))) None (lt-ltb i (length bs / 16) h)) ∙ ap Ok (sym (get_or_rows_of bs i (row_at_byte bs (16 * i)) h)) ∙ sym (row_at_in (rows_of bs) i (row_at_byte bs (16 * i)) (omega arith)))
    (λ h. f ∙ ap (λ p. ok_or p no_such_place) (e ∙ cond-false _ (Some (row_at_byte bs (16 * i))) None (le-ltb i (length bs / 16) h)) ∙ sym (row_at_out (rows_of bs) i (omega arith)))
    (cases_lt i (length bs / 16))
