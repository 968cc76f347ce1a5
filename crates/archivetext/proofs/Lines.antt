-- The lines of a text, one by one: its pieces, `pieces_before` and `pieces_line`; that a row's line is that row and no title, `row_back` and `row_no_title`; and that rows and titles have no line feed in them, `row_free` and `title_free`.
use Rattle.std.proofs.Common.{◌≡◌, ℕ, ◌<◌, true, ◌&&◌, leb, List, [], ◌∷◌, ◌++◌, length, ℤ, Some, None, codes, refl, ap, ◌∙◌, arith, w32, SFits, rules}
use Rattle.std.specs.Fmt.{signed_decimal}
use Rattle.std.specs.List.{AllByRecursion}
use Rattle.std.proofs.ByRecursion.{All-append, All-weaker}
use Rattle.std.proofs.lemmas.List.{append_assoc}
use Rattle.std.proofs.lemmas.Bool.{and_parts, eq-eqb, ne_eqb, leb-true}
use Rattle.plane.specs.declared.halfsegment.Halfsegment.{Halfsegment}
use Rattle.storage.proofs.RowLists.{Fits32}
use Rattle.plantext.specs.Text.{pieces, row_by, row_of_fields, row_of_line}
use Rattle.encoding.specs.Format.{printable, valid_title}
use Rattle.archivetext.specs.Text.{line, row_words}
use Rattle.archivetext.specs.Pack.{title_of_line}
use Rattle.archivetext.proofs.Numbers.{OfNumber, number_signed, signed_bytes, signed_some}

-- no separator in it
abbrev pub Free : ℕ → List ℕ → Type 0
Free s l = AllByRecursion (λ b. b ≡ s → ⊥) l

pub free_append : (s : ℕ) (l rest : List ℕ) → Free s l → Free s rest → Free s (l ++ rest)
free_append s l rest f g = All-append (λ b. b ≡ s → ⊥) l rest f g

pub pieces_before : (s : ℕ) (l rest : List ℕ) → Free s l → pieces s (l ++ (s ∷ rest)) ≡ l ∷ pieces s rest
pieces_before s [] rest free = rw (eq-eqb s s refl) refl
pieces_before s (b ∷ l) rest free = rw (ne_eqb b s free.0, pieces_before s l rest free.1) refl

pieces_alone : (s : ℕ) (l : List ℕ) → Free s l → pieces s l ≡ l ∷ []
pieces_alone s [] free = refl
pieces_alone s (b ∷ l) free = rw (ne_eqb b s free.0, pieces_alone s l free.1) refl

pub pieces_line : (l rest : List ℕ) → Free 10 l → pieces 10 (line l ++ rest) ≡ l ∷ pieces 10 rest
pieces_line l rest free = ap (pieces 10) (append_assoc l (10 ∷ []) rest) ∙ pieces_before 10 l rest free

-- four fields
fields : (a b c d : List ℕ) → Free 32 a → Free 32 b → Free 32 c → Free 32 d → pieces 32 (a ++ (32 ∷ (b ++ (32 ∷ (c ++ (32 ∷ d)))))) ≡ a ∷ b ∷ c ∷ d ∷ []
fields a b c d fa fb fc fd =
    pieces_before 32 a (b ++ (32 ∷ (c ++ (32 ∷ d)))) fa ∙
    ap (λ l. a ∷ l) (pieces_before 32 b (c ++ (32 ∷ d)) fb ∙ ap (λ l. b ∷ l) (pieces_before 32 c d fc ∙ ap (λ l. c ∷ l) (pieces_alone 32 d fd)))

number_free : (s : ℕ) (l : List ℕ) → s < 45 → AllByRecursion OfNumber l → Free s l
number_free s l lt all = All-weaker OfNumber (λ b. b ≡ s → ⊥) (λ b o e. omega arith) l all

module _ (h : Halfsegment) (fits : Fits32 h) where
  pub row_back : row_of_line (row_words h) ≡ Some h
  row_back =
      ap row_of_fields (fields (signed_decimal h.dominating.x) (signed_decimal h.dominating.y) (signed_decimal h.far.x) (signed_decimal h.far.y)
      (number_free 32 _ (omega arith) (signed_bytes h.dominating.x fits.cx))
      (number_free 32 _ (omega arith) (signed_bytes h.dominating.y fits.cy))
      (number_free 32 _ (omega arith) (signed_bytes h.far.x fits.fx))
      (number_free 32 _ (omega arith) (signed_bytes h.far.y fits.fy))) ∙
      (λ i. row_by (number_signed h.dominating.x fits.cx i) (number_signed h.dominating.y fits.cy i) (number_signed h.far.x fits.fx i) (number_signed h.far.y fits.fy i))

  pub row_free : Free 10 (row_words h)
  row_free =
      ends h.dominating.x fits.cx _ (ends h.dominating.y fits.cy _ (ends h.far.x fits.fx _ (number_free 10 _ (omega arith) (signed_bytes h.far.y fits.fy))))
    where
      ends : (z : ℤ) → SFits w32 z → (rest : List ℕ) → Free 10 rest → Free 10 (signed_decimal z ++ (32 ∷ rest))
      ends z f rest free = free_append 10 (signed_decimal z) (32 ∷ rest) (number_free 10 _ (omega arith) (signed_bytes z f)) ((λ e. omega arith), free)

  pub row_no_title : title_of_line (row_words h) ≡ None
  row_no_title = begins (signed_decimal h.dominating.x) _ (signed_some h.dominating.x fits.cx) (signed_bytes h.dominating.x fits.cx)
    where
      begins : (l rest : List ℕ) → 0 < length l → AllByRecursion OfNumber l → title_of_line (l ++ rest) ≡ None
      begins [] rest some all = absurd (omega arith)
      begins (b ∷ l) rest some all = rw (ne_eqb b 112 (λ e. omega arith)) refl

printable_free : (title : List ℕ) → printable title ≡ true → Free 10 title
printable_free [] e = tt
printable_free (b ∷ bs) e =
    let p = and_parts (leb 32 b && leb b 126) (printable bs) e in
    let low = leb-true 32 b (and_parts (leb 32 b) (leb b 126) p.0).0 in
    ((λ q. omega arith), printable_free bs p.1)

pub title_free : (title : List ℕ) → valid_title title ≡ true → Free 10 (codes "plan " ++ title)
title_free title e = free_append 10 (codes "plan ") title (search rules) (printable_free title (and_parts (leb (length title) 40) (printable title) e).1)
