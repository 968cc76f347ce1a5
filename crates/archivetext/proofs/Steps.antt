-- Reading a text line by line: what a first line leaves of `rows_on`, of `plans_after` and of `lines_on`, and what the end leaves.
use Rattle.std.proofs.Common.{◌≡◌, ℕ, suc, ◌+◌, ◌-◌, ◌<◌, ◌≤◌, true, false, cond, eqb, ltb, List, [], ◌∷◌, ◌++◌, length, take, drop, Some, None, Option, Result, sym, refl, ap, ◌∙◌, arith, Bor}
use Rattle.std.specs.List.{position_or_len}
use Rattle.std.specs.Option.{is_some}
use Rattle.std.proofs.lemmas.Bool.{lt-ltb, le-ltb}
use Rattle.std.proofs.lemmas.Bool.Decides.{nat_tests}
use Rattle.std.proofs.lemmas.List.{take_all, length-drop, drop-drop}
use Rattle.std.proofs.lemmas.List.Sums.{fails_before_first}
use Rattle.std.proofs.lemmas.List.Splits.{slice_split_none, slice_split_first, length-slice_split}
use Rattle.plane.specs.declared.halfsegment.Halfsegment.{Halfsegment}
use Rattle.plantext.specs.Text.{pieces, row_of_line}
use Rattle.encoding.specs.declared.dates.Date.{Date}
use Rattle.encoding.specs.Format.{Plan, Archive}
use Rattle.encoding.specs.Read.{and_then}
use Rattle.archivetext.specs.declared.faults.PackFault.{PackFault}
use Rattle.archivetext.specs.declared.faults.LineFault.TheVariants.{NotADate, NotAPlan, NotARow, TooManyRows}
use Rattle.archivetext.specs.Pack.{at_line, date_of_line, title_of_line, with_plan, rows_on, plans_on, dated_on, lines_on}
use Rattle.archivetext.specs.Packing.{Titled, plans_after}

-- a text has a first piece
pub some_pieces : (text : List ℕ) → 0 < length (pieces 10 text)
some_pieces text = omega (arith, length-slice_split (λ b. eqb b 10) text)

-- the first piece of a text, at the place that `position` found
pub cut_none : (text : List ℕ) (r : Option ℕ) → r ≡ cond (ltb (position_or_len (λ b. eqb b 10) text) (length text)) (Some (position_or_len (λ b. eqb b 10) text)) None → r ≡ None → pieces 10 text ≡ text ∷ []
cut_none text r found none =
    let far = past _ _ (sym none ∙ found) in
    slice_split_none (λ b. eqb b 10) text (λ k d l. fails_before_first (λ b. eqb b 10) text k d (omega arith))
  where
    past : (i n : ℕ) → None ≡ cond (ltb i n) (Some i) None → n ≤ i
    past i n e = grind (arith, nat_tests)

pub cut_some : (text front back : List ℕ) (r : Option ℕ) (i : ℕ) → r ≡ cond (ltb (position_or_len (λ b. eqb b 10) text) (length text)) (Some (position_or_len (λ b. eqb b 10) text)) None → r ≡ Some i → front ≡ take i text → back ≡ drop i text → (pieces 10 text ≡ front ∷ pieces 10 (take (length back - 1) (drop 1 back))) × (length (take (length back - 1) (drop 1 back)) < length text)
cut_some text front back r i found some f b =
    let at = within _ _ _ (sym some ∙ found) in
    let rest = behind text back i b in
    let same = at.0 in
    (slice_split_first (λ b. eqb b 10) text 0 at.1 ∙ (λ j. take (sym same j) text ∷ pieces 10 (drop (sym same j + 1) text)) ∙ (λ j. sym f j ∷ pieces 10 (sym rest j)), omega (arith, ap length rest, length-drop (i + 1) text, at.0, at.1))
  where
    behind : (text back : List ℕ) (i : ℕ) → back ≡ drop i text → take (length back - 1) (drop 1 back) ≡ drop (i + 1) text
    behind text back i e =
        take_all (length back - 1) (drop 1 back) (omega (arith, length-drop 1 back)) ∙ ap (drop 1) e ∙ drop-drop 1 i text

    within : (i p n : ℕ) → Some i ≡ cond (ltb p n) (Some p) None → (i ≡ p) × (p < n)
    within i p n e = (grind (arith, nat_tests), grind (arith, nat_tests))

pub titled : (l : List ℕ) (r : Option (Bor (List ℕ))) → Titled l r → is_some r ≡ true → (title : List ℕ) × (title_of_line l ≡ Some title)
titled l None t e = absurd (grind arith)
titled l (Some title) t e = (title.now, t)

pub untitled : (l : List ℕ) (r : Option (Bor (List ℕ))) → Titled l r → is_some r ≡ false → title_of_line l ≡ None
untitled l None t e = t
untitled l (Some title) t e = absurd (grind arith)

module _ (l : List ℕ) (ps ls : List (List ℕ)) (cut : ps ≡ l ∷ ls) (some : 0 < length ls) where
  -- between plans
  abbrev after_title : ℕ → List Plan → Option (List ℕ) → Result (List Plan) PackFault
  after_title n done o = elim o [ Some title ↦ rows_on n title (suc n) [] done ls | None ↦ at_line n NotAPlan ]

  after : (n : ℕ) (done : List Plan) → plans_after n done ps ≡ after_title n done (title_of_line l)
  after n done = ap (plans_after n done) cut ∙ by ls some
    where
      by : (ms : List (List ℕ)) → 0 < length ms → plans_after n done (l ∷ ms) ≡ elim (title_of_line l) [ Some title ↦ rows_on n title (suc n) [] done ms | None ↦ at_line n NotAPlan ]
      by [] lt = absurd (omega arith)
      by (m ∷ ms) lt = refl

  pub plans_title : (n : ℕ) (done : List Plan) (title : List ℕ) → title_of_line l ≡ Some title → plans_after n done ps ≡ rows_on n title (suc n) [] done ls
  plans_title n done title e = after n done ∙ ap (after_title n done) e

  pub plans_bad : (n : ℕ) (done : List Plan) → title_of_line l ≡ None → plans_after n done ps ≡ at_line n NotAPlan
  plans_bad n done e = after n done ∙ ap (after_title n done) e

  -- the first line of all
  abbrev by_date : Option Date → Result Archive PackFault
  by_date o = elim o [ None ↦ at_line 1 NotADate | Some d ↦ dated_on d ls ]

  dated : lines_on ps ≡ by_date (date_of_line l)
  dated = ap lines_on cut ∙ by ls some
    where
      by : (ms : List (List ℕ)) → 0 < length ms → lines_on (l ∷ ms) ≡ elim (date_of_line l) [ None ↦ at_line 1 NotADate | Some d ↦ dated_on d ms ]
      by [] lt = absurd (omega arith)
      by (m ∷ ms) lt = refl

  pub lines_dated : (d : Date) → date_of_line l ≡ Some d → lines_on ps ≡ dated_on d ls
  lines_dated d e = dated ∙ ap by_date e

  pub lines_bad : date_of_line l ≡ None → lines_on ps ≡ at_line 1 NotADate
  lines_bad e = dated ∙ ap by_date e

  -- in a plan
  module _ (start : ℕ) (title : List ℕ) (n : ℕ) (rows : List Halfsegment) (done : List Plan) where
    abbrev closing : Result (List Plan) PackFault
    closing = with_plan start done record { title = title; rows = rows }

    abbrev by_row : Option Halfsegment → Result (List Plan) PackFault
    by_row o = elim o [ None ↦ at_line n NotARow | Some h ↦ cond (ltb (length rows) 4000) (rows_on start title (suc n) (rows ++ (h ∷ [])) done ls) (at_line n TooManyRows) ]

    abbrev by_title : Option (List ℕ) → Result (List Plan) PackFault
    by_title o = elim o [ Some next ↦ and_then closing (λ more. rows_on n next (suc n) [] more ls) | None ↦ by_row (row_of_line l) ]

    inside : rows_on start title n rows done ps ≡ by_title (title_of_line l)
    inside = ap (rows_on start title n rows done) cut ∙ by ls some
      where
        by : (ms : List (List ℕ)) → 0 < length ms → rows_on start title n rows done (l ∷ ms) ≡ elim (title_of_line l) [
          | Some next ↦ and_then closing (λ more. rows_on n next (suc n) [] more ms)
          | None ↦ elim (row_of_line l) [ None ↦ at_line n NotARow | Some h ↦ cond (ltb (length rows) 4000) (rows_on start title (suc n) (rows ++ (h ∷ [])) done ms) (at_line n TooManyRows) ]
        ]
        by [] lt = absurd (omega arith)
        by (m ∷ ms) lt = refl

    pub rows_title : (next : List ℕ) → title_of_line l ≡ Some next → rows_on start title n rows done ps ≡ and_then closing (λ more. plans_after n more ps)
    rows_title next e =
        inside ∙ ap by_title e ∙ (λ i. and_then closing (λ more. sym (plans_title n more next e) i))

    pub rows_bad : title_of_line l ≡ None → row_of_line l ≡ None → rows_on start title n rows done ps ≡ at_line n NotARow
    rows_bad e f = inside ∙ ap by_title e ∙ ap by_row f

    pub rows_many : (h : Halfsegment) → title_of_line l ≡ None → row_of_line l ≡ Some h → 4000 ≤ length rows → rows_on start title n rows done ps ≡ at_line n TooManyRows
    rows_many h e f many =
        inside ∙ ap by_title e ∙ ap by_row f ∙ ap (λ t. cond t (rows_on start title (suc n) (rows ++ (h ∷ [])) done ls) (at_line n TooManyRows)) (le-ltb (length rows) 4000 many)

    pub rows_row : (h : Halfsegment) → title_of_line l ≡ None → row_of_line l ≡ Some h → length rows < 4000 → rows_on start title n rows done ps ≡ rows_on start title (suc n) (rows ++ (h ∷ [])) done ls
    rows_row h e f few =
        inside ∙ ap by_title e ∙ ap by_row f ∙ ap (λ t. cond t (rows_on start title (suc n) (rows ++ (h ∷ [])) done ls) (at_line n TooManyRows)) (lt-ltb (length rows) 4000 few)

pub plans_begin : (n : ℕ) (ls : List (List ℕ)) → plans_on n ls ≡ plans_after n [] ls
plans_begin n [] = refl
plans_begin n (l ∷ []) = refl
plans_begin n (l ∷ m ∷ ls) = refl
