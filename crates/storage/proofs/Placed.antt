-- What an insertion, a removal and a reading of a row's entries are to the rows that lie in them, in whatever layout.
use Rattle.std.proofs.Common.{◌≡◌, ℕ, ◌+◌, ◌*◌, ◌<◌, ◌≤◌, List, [], ◌∷◌, ◌++◌, length, take, drop, Ok, refl, sym, ap, ◌∙◌, add-one, arith, rules}
use Rattle.std.proofs.Math.Nat.{mul-one, mul-suc, mul-le-mul_left}
use Rattle.std.specs.List.{between, insert, remove}
use Rattle.std.proofs.lemmas.List.{same_lists, places, take-append-drop}
use Rattle.plane.specs.declared.halfsegment.Halfsegment.{Halfsegment}
use Rattle.storage.specs.Layout.{Fits32, IsLayout}
use Rattle.storage.specs.Rows.{row_at}

insert_between : (fs bs : List Halfsegment) (r : Halfsegment) (i : ℕ) → length fs ≡ i → fs ++ (r ∷ bs) ≡ insert (fs ++ bs) i r
insert_between fs bs r i e = same_lists _ _ (search (rules, places)) (λ k d l. grind (arith, places))

remove_between : (fs ms bs : List Halfsegment) (i : ℕ) → length fs ≡ i → length ms ≡ 1 → fs ++ bs ≡ remove (fs ++ (ms ++ bs)) i
remove_between [] [] bs i e one = absurd (omega arith)
remove_between [] (m ∷ []) bs i e one = rw (sym e) refl
remove_between [] (m ∷ (k ∷ ms)) bs i e one = absurd (omega arith)
remove_between (f ∷ fs) ms bs i e one = rw (sym e) (ap (λ l. f ∷ l) (remove_between fs ms bs (length fs) refl one))

row_between : (fs bs : List Halfsegment) (r : Halfsegment) (i : ℕ) → length fs ≡ i → row_at (fs ++ (r ∷ bs)) i ≡ Ok r
row_between [] bs r i e = rw (sym e) refl
row_between (f ∷ fs) bs r i e = rw (sym e) (row_between fs bs r (length fs) refl)

module _ {X : Type 0} (n : ℕ) (rows_of : List X → List Halfsegment) (entries_of : Halfsegment → List X) (laws : IsLayout n rows_of entries_of) (xs : List X) (count : ℕ) (len : length xs ≡ n * count) (i : ℕ) where
  front : i ≤ count → length (take (n * i) xs) ≡ n * i
  front le = let h : n * i ≤ n * count = mul-le-mul_left n le in search (rules, places)

  rows_split : i ≤ count → rows_of xs ≡ rows_of (take (n * i) xs) ++ rows_of (drop (n * i) xs)
  rows_split le = ap rows_of (sym (take-append-drop (n * i) xs)) ∙ laws.joins _ _ i (front le)

  pub row_inserted : (ys : List X) (row : Halfsegment) → Fits32 row → i ≤ count → ys ≡ take (n * i) xs ++ (entries_of row ++ drop (n * i) xs) → rows_of ys ≡ insert (rows_of xs) i row
  row_inserted ys row fits le e =
      let one : length (entries_of row) ≡ n * 1 = laws.width row ∙ sym (mul-one n) in
      let seam = insert_between _ (rows_of (drop (n * i) xs)) row i (laws.count _ i (front le)) in
      ap rows_of e ∙ laws.joins _ _ i (front le) ∙ rw (laws.joins (entries_of row) (drop (n * i) xs) 1 one, laws.back row fits, rows_split le) seam

  fits : i < count → n * i + n ≤ length xs
  fits lt =
      let h : n * (i + 1) ≤ n * count = mul-le-mul_left n (omega arith) in
      let step : n * (i + 1) ≡ n * i + n = rw (add-one i, mul-suc) refl in
      omega arith

  one_row : i < count → length (between (n * i) (n * i + n) xs) ≡ n * 1
  one_row lt = let le = fits lt in rw mul-one (search (rules, places))

  -- the row at i, and the rows after it
  rows_rest : i < count → rows_of (drop (n * i) xs) ≡ rows_of (between (n * i) (n * i + n) xs) ++ rows_of (drop (n * i + n) xs)
  rows_rest lt =
      let le = fits lt in
      let seam : drop (n * i) xs ≡ between (n * i) (n * i + n) xs ++ drop (n * i + n) xs = same_lists _ _ (search (rules, places)) (λ k d l. grind (arith, places)) in
      ap rows_of seam ∙ laws.joins _ _ 1 (one_row lt)

  pub row_read : (r : Halfsegment) → i < count → rows_of (between (n * i) (n * i + n) xs) ≡ r ∷ [] → Ok r ≡ row_at (rows_of xs) i
  row_read r lt e = rw (rows_split (omega arith), rows_rest lt, e) (sym (row_between _ (rows_of (drop (n * i + n) xs)) r i (laws.count _ i (front (omega arith)))))

  pub row_removed : (ys : List X) → i < count → ys ≡ take (n * i) xs ++ drop (n * i + n) xs → rows_of ys ≡ remove (rows_of xs) i
  row_removed ys lt e =
      let le : i ≤ count = omega arith in
      ap rows_of e ∙
      laws.joins _ _ i (front le) ∙
      remove_between _ _ (rows_of (drop (n * i + n) xs)) i (laws.count _ i (front le)) (laws.count _ 1 (one_row lt)) ∙
      sym (ap (λ l. remove l i) (rows_split le ∙ ap (λ l. rows_of (take (n * i) xs) ++ l) (rows_rest lt)))
