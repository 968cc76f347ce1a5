-- Lists of rows in bytes: how long they are, that they come back, and that the rows of a plan fit their bytes.
use Rattle.std.proofs.Common.{◌≡◌, ℕ, zero, suc, ◌*◌, ◌/◌, ◌<◌, true, not, ◌&&◌, List, [], ◌∷◌, ◌++◌, length, get_or, ℤ, Ok, Err, Result, sym, refl, ◌∙◌, ⊎_elim, arith, w32, SFits, rules}
use Rattle.std.specs.List.{AllByRecursion}
use Rattle.std.proofs.ByRecursion.{All-from_get_or}
use Rattle.std.proofs.lemmas.List.{same_lists, places, length-append}
use Rattle.std.proofs.lemmas.Int.{ints}
use Rattle.std.proofs.lemmas.Bool.{and_parts, cases_Bool}
use Rattle.plane.specs.declared.halfsegment.Halfsegment.{Halfsegment}
use Rattle.plane.specs.Points.{coordinate, in_range, same_point}
use Rattle.plane.specs.Rows.{fit}
use Rattle.storage.specs.Bytes.{row_at_byte, row_bytes, rows_of}
use Rattle.storage.proofs.RowLists.{Fits32}
use Rattle.storage.proofs.RowBytes.{length_rows_of, get_or_rows_of, row_same, row_back}
use Rattle.region.specs.declared.refusals.CheckRefusal.{CheckRefusal}
use Rattle.region.specs.Check.{no_row, row, each_answer, and_then, check_of}
use Rattle.region.specs.Plans.{WellFormed, Closed}
use Rattle.region.proofs.Verdicts.{each_fits, accepts}
use Rattle.encoding.specs.Format.{rows_content}

pub length_rows_content : (rows : List Halfsegment) → length (rows_content rows) ≡ 16 * length rows
length_rows_content [] = refl
length_rows_content (h ∷ rows) = let e = length_rows_content rows in omega arith

-- sixteen bytes in front are the first row
pub rows_of_front : (new bs : List ℕ) → length new ≡ 16 → rows_of (new ++ bs) ≡ row_at_byte new 0 ∷ rows_of bs
rows_of_front new bs n16 =
    same_lists _ _ (omega (arith, length_rows_of (new ++ bs), length_rows_of bs, length-append new bs)) at
  where
    at : (k : ℕ) (d : Halfsegment) → k < length (rows_of (new ++ bs)) → get_or (rows_of (new ++ bs)) k d ≡ get_or (row_at_byte new 0 ∷ rows_of bs) k d
    at zero d h = get_or_rows_of (new ++ bs) 0 d (omega (arith, length_rows_of (new ++ bs))) ∙ row_same (new ++ bs) new 0 0 (λ j l. search (rules, places))
    at (suc k) d h =
        let within : k < length bs / 16 = omega (arith, length_rows_of (new ++ bs), length-append new bs) in
        get_or_rows_of (new ++ bs) (suc k) d (omega (arith, length_rows_of (new ++ bs))) ∙
        (row_same (new ++ bs) bs (16 * suc k) (16 * k) (λ j l. search (rules, places)) ∙ sym (get_or_rows_of bs k d within))

pub rows_of_content : (rows : List Halfsegment) → AllByRecursion Fits32 rows → rows_of (rows_content rows) ≡ rows
rows_of_content [] f = refl
rows_of_content (h ∷ rows) f =
    rows_of_front (row_bytes h) (rows_content rows) refl ∙ (λ i. row_back h f.0 i ∷ rows_of_content rows f.1 i)

-- the range of a coordinate is well within 32 bits
coordinate_fits : (z : ℤ) → coordinate z ≡ true → SFits w32 z
coordinate_fits z e = record { sfits = grind (arith, ints) }

pub fit_fits : (h : Halfsegment) → fit h ≡ true → Fits32 h
fit_fits h e =
    let ends = and_parts (in_range h.dominating) (in_range h.far) (and_parts (in_range h.dominating && in_range h.far) (not (same_point h.dominating h.far)) e).0 in
    let d = and_parts (coordinate h.dominating.x) (coordinate h.dominating.y) ends.0 in
    let f = and_parts (coordinate h.far.x) (coordinate h.far.y) ends.1 in
    record { cx = coordinate_fits _ d.0; cy = coordinate_fits _ d.1; fx = coordinate_fits _ f.0; fy = coordinate_fits _ f.1 }

-- check passes over the rows one by one first
each_accepted : (rows : List Halfsegment) → check_of rows ≡ Ok tt → Ok tt ≡ each_answer rows
each_accepted rows e = by (each_answer rows) _ e
  where
    by : (r next : Result Unit CheckRefusal) → and_then r next ≡ Ok tt → Ok tt ≡ r
    by (Ok _) next q = refl
    by (Err refusal) next q = absurd (grind arith)

pub accepted_fit : (rows : List Halfsegment) → check_of rows ≡ Ok tt → AllByRecursion Fits32 rows
accepted_fit rows e =
    All-from_get_or Fits32 rows no_row (λ i l. fit_fits (row rows i) (⊎_elim (λ t. t) (λ f. absurd (each_fits rows (each_accepted rows e) i l f)) (cases_Bool (fit (row rows i)))))

pub well_formed_fit : (rows : List Halfsegment) → WellFormed rows → Closed rows → AllByRecursion Fits32 rows
well_formed_fit rows w c = accepted_fit rows ((accepts rows).1 (w, c))
