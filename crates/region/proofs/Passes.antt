-- The passes of check: what a search through the rows found, as the answer of the pass. The main lemma is `pass`.
use Rattle.std.proofs.Common.{◌≡◌, ℕ, zero, suc, ◌+◌, ◌-◌, ◌<◌, ◌≤◌, Bool, true, false, cond, not, nat_lt, ◌&&◌, ◌||◌, List, [], ◌∷◌, length, get_or, drop, fold, Some, None, Ok, Err, Option, Result, ◌⊎◌, inl, inr, subst, sym, refl, ap, ◌∙◌, add-one, arith}
use Rattle.std.specs.List.{list_any, position, position_or_len, find, zip}
use Rattle.std.proofs.lemmas.Bool.{lt-ltb, le-ltb, cases_order}
use Rattle.std.proofs.lemmas.List.{get_or-drop, length-drop}
use Rattle.std.proofs.lemmas.Option.{slice_get-get_or, slice_get_past}
use Rattle.std.proofs.lemmas.List.Folds.{find_at}
use Rattle.std.proofs.lemmas.List.Sums.{position_or_len_is}
use Rattle.std.proofs.lemmas.Slice.Zip.{get_or-zip, length-zip}
use Rattle.std.specs.List.{slice_get}
use Rattle.std.specs.Option.{MatchOption, option_map}
use Rattle.std.specs.Result.{MatchResult}
use Rattle.std.proofs.Math.Seq.{drop-cons}
use Rattle.algebra.specs.Members.{any}
use Rattle.algebra.specs.Parity.{differ, odd_times}
use Rattle.algebra.proofs.Members.{Case, holds, fails, case}
use Rattle.plane.specs.declared.halfsegment.Halfsegment.{Halfsegment}
use Rattle.plane.specs.Rows.{fit, comes_before}
use Rattle.region.specs.declared.refusals.RowFault.{RowFault}
use Rattle.region.specs.declared.refusals.CheckRefusal.{CheckRefusal}
use Rattle.region.specs.declared.refusals.CheckRefusal.TheVariants.{BadRow, Unsorted}
use Rattle.region.specs.Check.{first, no_row, row, misplaced, refused_at, order_answer, row_fault, faulty, placed, each_answer}
use Rattle.region.specs.Verdict.{Misfit, Nowhere}
use Rattle.region.proofs.Firsts.{Sought, nowhere, somewhere, sought, first_none, first_at}

-- words of std's lists for those of the crates
pub any_is : {A : Type 0} (test : A → Bool) (zs : List A) → list_any test zs ≡ any test zs
any_is test [] = refl
any_is test (a ∷ zs) = ap (λ b. test a || b) (any_is test zs)

-- where no row misfits, each fits
pub fits_at : (rows : List Halfsegment) → Nowhere (length rows) (Misfit rows) → (i : ℕ) → i < length rows → fit (row rows i) ≡ true
fits_at rows none i l = go (case (fit (row rows i)))
  where
    go : Case (fit (row rows i)) → fit (row rows i) ≡ true
    go (holds e) = e
    go (fails e) = absurd (none i l e)

-- the test failed at all places below i, and at i
pub more : (test : ℕ → Bool) (i : ℕ) → ((k : ℕ) → k < i → test k ≡ false) → test i ≡ false → (k : ℕ) → k < i + 1 → test k ≡ false
more test i h e k l = go (cases_order k i)
  where
    go : (k ≡ i) ⊎ ((k < i) ⊎ (i < k)) → test k ≡ false
    go (inl q) = ap test q ∙ e
    go (inr (inl m)) = h k m
    go (inr (inr m)) = absurd (omega arith)

pub refused_none : (test : ℕ → Bool) (refusal : ℕ → CheckRefusal) (n i : ℕ) → n ≤ i → ((k : ℕ) → k < i → test k ≡ false) → Ok tt ≡ refused_at (first test n) refusal
refused_none test refusal n i l h = sym (ap (λ o. refused_at o refusal) (first_none test n (λ k m. h k (omega arith))))

pub refused_found : (test : ℕ → Bool) (refusal : ℕ → CheckRefusal) (n i : ℕ) → i < n → test i ≡ true → ((k : ℕ) → k < i → test k ≡ false) → Err (refusal i) ≡ refused_at (first test n) refusal
refused_found test refusal n i l e h = sym (ap (λ o. refused_at o refusal) (first_at test n i l e h))

-- h is the row at i, and those behind it are left
pub record Front (rows : List Halfsegment) (i : ℕ) (h : Halfsegment) (left : List Halfsegment) : Type 0 where
  pub within : i < length rows
  pub is : row rows i ≡ h
  pub rest : drop (i + 1) rows ≡ left

pub front : (rows : List Halfsegment) (i : ℕ) (h : Halfsegment) (left : List Halfsegment) → drop i rows ≡ h ∷ left → Front rows i h left
front rows i h left e =
    let count : length rows - i ≡ suc (length left) = sym (length-drop i rows) ∙ ap length e in
    let first : get_or rows i no_row ∷ drop (suc i) rows ≡ h ∷ left = sym (drop-cons rows i no_row (omega arith)) ∙ e in
    record { within = omega arith; is = cc; rest = rw (add-one i) cc }

pub past : (rows : List Halfsegment) (i : ℕ) → drop i rows ≡ [] → length rows ≤ i
past rows i e = let none : length rows - i ≡ 0 = sym (length-drop i rows) ∙ ap length e in omega arith

-- a search through a list for a test, as a search through places for what it says there
module _ {A : Type 0} (test : A → Bool) (zs : List A) (d : A) (at : ℕ → Bool) (same : (k : ℕ) → k < length zs → at k ≡ test (get_or zs k d)) where
  abbrev found : ℕ → Option ℕ
  found i = cond (nat_lt i (length zs)) (Some i) None

  pub position_is : position test zs ≡ first at (length zs)
  position_is = go (sought at (length zs))
    where
      go : Sought at (length zs) → position test zs ≡ first at (length zs)
      go (nowhere q none) =
          ap found (position_or_len_is test zs (length zs) d (omega arith) (λ k l. sym (same k l) ∙ none k l) (λ l. absurd (omega arith)))
          ∙ ap (λ t. cond t (Some (length zs)) None) (le-ltb (length zs) (length zs) (omega arith)) ∙ sym q
      go (somewhere i q l hit none) =
          ap found (position_or_len_is test zs i d (omega arith) (λ k m. sym (same k (omega arith)) ∙ none k m) (λ _. sym (same i l) ∙ hit))
          ∙ ap (λ t. cond t (Some i) None) (lt-ltb i (length zs) l) ∙ sym q

-- an answer by what a search gave is the answer of the pass
pub refused_is : (o : Option ℕ) (refusal : ℕ → CheckRefusal) (r : Result Unit CheckRefusal) → MatchOption o (r ≡ Ok tt) (λ i. r ≡ Err (refusal i)) → r ≡ refused_at o refusal
refused_is None refusal r e = e
refused_is (Some i) refusal r e = e

module _ (rows : List Halfsegment) where
  -- the first row that passes a test, as a refusal that names what the row at the place has
  pub find_is : (test : Halfsegment → Bool) (refusal : Halfsegment → CheckRefusal) (o : Option Halfsegment) (r : Result Unit CheckRefusal) → option_map (λ x. x) o ≡ find test rows → MatchOption o (r ≡ Ok tt) (λ h. r ≡ Err (refusal h)) → r ≡ refused_at (first (λ i. test (row rows i)) (length rows)) (λ i. refusal (row rows i))
  find_is test refusal o r f e = go (sought (λ i. test (row rows i)) (length rows))
    where
      told : Option Halfsegment → Type 0
      told o = MatchOption o (r ≡ Ok tt) (λ h. r ≡ Err (refusal h))

      mapped : (o : Option Halfsegment) → told o → told (option_map (λ x. x) o)
      mapped None t = t
      mapped (Some h) t = t

      at : (i : ℕ) → position_or_len test rows ≡ i → told (slice_get rows i)
      at i p = subst told (f ∙ find_at test rows ∙ ap (slice_get rows) p) (mapped o e)

      go : Sought (λ i. test (row rows i)) (length rows) → r ≡ refused_at (first (λ i. test (row rows i)) (length rows)) (λ i. refusal (row rows i))
      go (nowhere q none) =
          subst told (slice_get_past rows (length rows) (omega arith)) (at (length rows) (position_or_len_is test rows (length rows) no_row (omega arith) none (λ l. absurd (omega arith))))
          ∙ ap (λ o. refused_at o (λ i. refusal (row rows i))) (sym q)
      go (somewhere i q l hit none) =
          subst told (slice_get-get_or rows i no_row l) (at i (position_or_len_is test rows i no_row (omega arith) none (λ _. hit)))
          ∙ ap (λ o. refused_at o (λ i. refusal (row rows i))) (sym q)

  abbrev pairs : List (Halfsegment × Halfsegment)
  pairs = zip rows (drop 1 rows)

  pairs_count : length pairs ≡ length rows - 1
  pairs_count = simp (length-zip, length-drop) (omega arith)

  pair_at : (k : ℕ) → k < length rows - 1 → get_or pairs k (no_row, no_row) ≡ (row rows k, row rows (suc k))
  pair_at k l = get_or-zip rows (drop 1 rows) k (no_row, no_row) (omega arith) (simp length-drop (omega arith)) ∙ ap (λ x. (row rows k, x)) (get_or-drop 1 rows k no_row ∙ ap (row rows) (omega arith))

  -- neighbours that are not in order, where all rows fit
  pub order_is : Nowhere (length rows) (Misfit rows) → (test : Halfsegment × Halfsegment → Bool) → ((p : Halfsegment × Halfsegment) → test p ≡ not (fit p.0 && (fit p.1 && comes_before p.0 p.1))) → (o : Option ℕ) (r : Result Unit CheckRefusal) → o ≡ position test pairs → MatchOption o (r ≡ Ok tt) (λ i. r ≡ Err (Unsorted (i + 1))) → r ≡ order_answer rows
  order_is fits test same o r f e = go (sought (misplaced rows) (length rows))
    where
      test_at : (k : ℕ) → k < length rows - 1 → test (get_or pairs k (no_row, no_row)) ≡ misplaced rows (suc k)
      test_at k l =
          ap test (pair_at k l) ∙ same (row rows k, row rows (suc k))
          ∙ (λ i. not (fits_at rows fits k (omega arith) i && (fits_at rows fits (suc k) (omega arith) i && comes_before (row rows k) (row rows (suc k)))))

      told : Option ℕ → Type 0
      told o = MatchOption o (r ≡ Ok tt) (λ i. r ≡ Err (Unsorted (i + 1)))

      at : (i : ℕ) → position_or_len test pairs ≡ i → told (cond (nat_lt i (length pairs)) (Some i) None)
      at i p = subst told (f ∙ ap (λ i. cond (nat_lt i (length pairs)) (Some i) None) p) e

      go : Sought (misplaced rows) (length rows) → r ≡ order_answer rows
      go (nowhere q none) =
          subst told (ap (λ t. cond t (Some (length pairs)) None) (le-ltb (length pairs) (length pairs) (omega arith)))
          (at (length pairs) (position_or_len_is test pairs (length pairs) (no_row, no_row) (omega arith) (λ k l. test_at k (omega (arith, pairs_count)) ∙ none (suc k) (omega (arith, pairs_count))) (λ l. absurd (omega arith))))
          ∙ ap (λ o. refused_at o Unsorted) (sym q)
      go (somewhere zero q l hit none) = absurd (grind arith)
      go (somewhere (suc i) q l hit none) =
          subst told (ap (λ t. cond t (Some i) None) (lt-ltb i (length pairs) (omega (arith, pairs_count))))
          (at i (position_or_len_is test pairs i (no_row, no_row) (omega (arith, pairs_count)) (λ k m. test_at k (omega arith) ∙ none (suc k) (omega arith)) (λ _. test_at i (omega arith) ∙ hit)))
          ∙ ap (λ n. Err (Unsorted n)) (add-one i) ∙ ap (λ o. refused_at o Unsorted) (sym q)

-- the answer of one row's test, with the row's place
pub placed_is : (i : ℕ) (t : Result Unit RowFault) (r : Result Unit CheckRefusal) → MatchResult t (λ x. r ≡ Ok x) (λ f. r ≡ Err (BadRow i f)) → r ≡ placed i t
placed_is i (Ok _) r e = e
placed_is i (Err f) r e = e

-- row by row: the rows from i on are those that are left
module _ (rows : List Halfsegment) where
  abbrev each_test : ℕ → Bool
  each_test i = faulty (row_fault (row rows i))

  abbrev each_of : Option ℕ → Result Unit CheckRefusal
  each_of o = elim o [ None ↦ Ok tt | Some i ↦ placed i (row_fault (row rows i)) ]

  pub each_none : (i : ℕ) → drop i rows ≡ [] → ((k : ℕ) → k < i → each_test k ≡ false) → Ok tt ≡ each_answer rows
  each_none i none h = sym (ap each_of (first_none each_test (length rows) (λ k m. h k (omega (arith, past rows i none)))))

  fault_is : (i : ℕ) (t : Result Unit RowFault) (e : CheckRefusal) → Err e ≡ placed i t → faulty t ≡ true
  fault_is i (Ok _) e q = absurd (grind arith)
  fault_is i (Err f) e q = refl

  no_fault : (i : ℕ) (t : Result Unit RowFault) → Ok tt ≡ placed i t → faulty t ≡ false
  no_fault i (Ok _) q = refl
  no_fault i (Err f) q = absurd (grind arith)

  pub each_found : (i : ℕ) (h : Halfsegment) (left : List Halfsegment) (e : CheckRefusal) → Front rows i h left → Err e ≡ placed i (row_fault h) → ((k : ℕ) → k < i → each_test k ≡ false) → Err e ≡ each_answer rows
  each_found i h left e here fault none =
      let is : row_fault h ≡ row_fault (row rows i) = ap row_fault (sym here.is) in
      fault ∙ ap (placed i) is ∙ sym (ap each_of (first_at each_test (length rows) i here.within (ap faulty (sym is) ∙ fault_is i (row_fault h) e fault) none))

  pub each_more : (i : ℕ) (h : Halfsegment) (left : List Halfsegment) → Front rows i h left → Ok tt ≡ placed i (row_fault h) → ((k : ℕ) → k < i → each_test k ≡ false) → (k : ℕ) → k < i + 1 → each_test k ≡ false
  each_more i h left here fits none = more each_test i none (ap (λ x. faulty (row_fault x)) here.is ∙ no_fault i (row_fault h) fits)

-- a test that is turned at each row that passes: whether an odd number of rows pass
pub turned_odd : {A : Type 0} (test : A → Bool) (b : Bool) (zs : List A) → fold (λ t a. differ t (test a)) b zs ≡ differ b (odd_times test zs)
turned_odd test true [] = refl
turned_odd test false [] = refl
turned_odd test b (a ∷ zs) = turned_odd test (differ b (test a)) zs ∙ grouped b (test a) (odd_times test zs)
  where
    grouped : (s t u : Bool) → differ (differ s t) u ≡ differ s (differ t u)
    grouped true true true = refl
    grouped true true false = refl
    grouped true false u = refl
    grouped false t u = refl
