-- Adding a plan: what an admission says (`admitted`), its rows one by one (`row_more`), and the five writes as one (`add_bytes`).
use Rattle.std.proofs.Common.{◌≡◌, ℕ, ◌+◌, ◌*◌, ◌<◌, ◌≤◌, Bool, true, false, cond, ◌&&◌, ltb, leb, List, [], ◌∷◌, ◌++◌, length, take, drop, Ok, Err, Result, sym, refl, ap, ◌∙◌, arith}
use Rattle.std.proofs.lemmas.List.{append_assoc, append-nil, length-append, length-take-le, take_more, take_all}
use Rattle.std.proofs.lemmas.Bool.Decides.{nat_tests}
use Rattle.plane.specs.declared.halfsegment.Halfsegment.{Halfsegment}
use Rattle.storage.specs.Bytes.{row_bytes}
use Rattle.region.specs.declared.refusals.CheckRefusal.{CheckRefusal}
use Rattle.region.specs.Check.{check_of, no_row}
use Rattle.region.proofs.Passes.{front, past}
use Rattle.encoding.proofs.RowLists.{length_rows_content}
use Rattle.encoding.specs.Format.{Plan, plan_field, rows_content, two_bytes, valid_title}
use Rattle.archive.specs.declared.states.OpenArchive.{OpenArchive}
use Rattle.archive.specs.declared.states.AddRefusal.{AddRefusal}
use Rattle.archive.specs.declared.states.AddRefusal.TheVariants.{BadTitle, BadPlan, TooLarge}
use Rattle.archive.specs.Writing.{patched, plan_size, add_fault}
use Rattle.archive.proofs.Patches.{more, none}

pub record Admitted (o : OpenArchive) (room : ℕ) (title : List ℕ) (rows : List Halfsegment) : Type 0 where
  pub title_is : valid_title title ≡ true
  pub checked : check_of rows ≡ Ok tt
  pub few : length rows ≤ 4000
  pub numbered : o.plans < 65535
  pub fits : o.len + plan_size title rows ≤ room

module _ (o : OpenArchive) (room : ℕ) (title : List ℕ) (rows : List Halfsegment) where
  abbrev by_check : Result Unit CheckRefusal → Result Unit AddRefusal
  by_check r = elim r [
    | Err refusal ↦ Err (BadPlan refusal)
    | Ok _ ↦ cond (leb (length rows) 4000 && (ltb o.plans 65535 && leb (o.len + plan_size title rows) room)) (Ok tt) (Err TooLarge)
  ]

  pub admitted : add_fault o room title rows ≡ Ok tt → Admitted o room title rows
  admitted e = by_title (valid_title title) refl e
    where
      checks : (r : Result Unit CheckRefusal) → check_of rows ≡ r → valid_title title ≡ true → by_check r ≡ Ok tt → Admitted o room title rows
      checks (Err refusal) c t h = absurd (grind arith)
      checks (Ok u) c t h = record {
        title_is = t;
        checked = c;
        few = grind (arith, nat_tests);
        numbered = grind (arith, nat_tests);
        fits = grind (arith, nat_tests);
      }

      by_title : (t : Bool) → valid_title title ≡ t → cond t (by_check (check_of rows)) (Err BadTitle) ≡ Ok tt → Admitted o room title rows
      by_title true t h = checks (check_of rows) refl t h
      by_title false t h = absurd (grind arith)

pub content_append : (xs ys : List Halfsegment) → rows_content (xs ++ ys) ≡ rows_content xs ++ rows_content ys
content_append [] ys = refl
content_append (h ∷ xs) ys = ap (λ bs. row_bytes h ++ bs) (content_append xs ys) ∙ sym (append_assoc (row_bytes h) (rows_content xs) (rows_content ys))

-- the rows before the place i are written, and those from it on are left
pub record WrittenTo (bs : List ℕ) (at : ℕ) (rows left : List Halfsegment) (i : ℕ) (now : List ℕ) : Type 0 where
  pub rest : left ≡ drop i rows
  pub bytes : now ≡ patched bs at (rows_content (take i rows))

pub none_yet : (bs : List ℕ) (at : ℕ) (rows left : List Halfsegment) (i : ℕ) → at ≤ length bs → left ≡ rows → i ≡ 0 → WrittenTo bs at rows left i bs
none_yet bs at rows left i within e f = rw (e, f) (record { rest = refl; bytes = none bs at within })

module _ (bs : List ℕ) (at : ℕ) (rows : List Halfsegment) (fits : at + 16 * length rows ≤ length bs) where
  pub row_more : (i : ℕ) (row : Halfsegment) (left : List Halfsegment) (now next : List ℕ) → WrittenTo bs at rows (row ∷ left) i now → next ≡ patched now (at + 16 * i) (row_bytes row) → WrittenTo bs at rows left (i + 1) next
  row_more i row left now next so e =
      let here = front rows i row left (sym so.rest) in
      let within = here.within in
      let some : take (i + 1) rows ≡ take i rows ++ (row ∷ []) = take_more rows i no_row within ∙ ap (λ r. take i rows ++ (r ∷ [])) here.is in
      let content : rows_content (take (i + 1) rows) ≡ rows_content (take i rows) ++ row_bytes row = ap rows_content some ∙ content_append (take i rows) (row ∷ []) ∙ ap (λ bs. rows_content (take i rows) ++ bs) (append-nil (row_bytes row)) in
      let n : length (rows_content (take i rows)) ≡ 16 * i = length_rows_content (take i rows) ∙ ap (λ k. 16 * k) (length-take-le i rows (omega arith)) in
      record {
        rest = sym here.rest;
        bytes = e ∙ ap (λ b. patched b (at + 16 * i) (row_bytes row)) so.bytes ∙ more bs (rows_content (take i rows)) (row_bytes row) at (at + 16 * i) (omega arith) (omega arith) ∙ ap (patched bs at) (sym content);
      }

  pub rows_all : (i : ℕ) (now : List ℕ) → WrittenTo bs at rows [] i now → now ≡ patched bs at (rows_content rows)
  rows_all i now so = so.bytes ∙ ap (λ l. patched bs at (rows_content l)) (take_all i rows (past rows i (sym so.rest)))

-- the heads and contents that `add` writes, one behind the other, are the plan's field
module _ (title : List ℕ) (rows : List Halfsegment) where
  abbrev plan : Plan
  plan = record { title = title; rows = rows }

  abbrev plan_head : List ℕ
  plan_head = 32 ∷ two_bytes (6 + length title + 16 * length rows)

  abbrev title_head : List ℕ
  title_head = 33 ∷ two_bytes (length title)

  abbrev rows_head : List ℕ
  rows_head = 34 ∷ two_bytes (16 * length rows)

  pieces_are : (((plan_head ++ title_head) ++ title) ++ rows_head) ++ rows_content rows ≡ plan_field plan
  pieces_are =
      let n : 16 * length rows ≡ length (rows_content rows) = sym (length_rows_content rows) in
      let m : 6 + length title + 16 * length rows ≡ length ((33 ∷ (two_bytes (length title) ++ title)) ++ (34 ∷ (two_bytes (length (rows_content rows)) ++ rows_content rows))) = omega (arith, length-append title (34 ∷ (two_bytes (length (rows_content rows)) ++ rows_content rows))) in
      ap (λ bs. plan_head ++ (title_head ++ bs)) (append_assoc title rows_head (rows_content rows)) ∙
      (λ i. 32 ∷ (two_bytes (m i) ++ (title_head ++ (title ++ (34 ∷ (two_bytes (n i) ++ rows_content rows))))))

  pub length_plan_field : length (plan_field plan) ≡ plan_size title rows
  length_plan_field = omega (arith, length-append title (34 ∷ (two_bytes (length (rows_content rows)) ++ rows_content rows)), length_rows_content rows)

  -- the places where each is written, one behind the other
  pub record Places (len title_at text_at rows_at list_at : ℕ) : Type 0 where
    pub title_place : title_at ≡ len + 3
    pub text_place : text_at ≡ len + 6
    pub rows_place : rows_at ≡ len + 6 + length title
    pub list_place : list_at ≡ len + 9 + length title

  pub add_bytes : (bs b1 b2 b3 b4 b5 : List ℕ) (len title_at text_at rows_at list_at : ℕ) → Places len title_at text_at rows_at list_at → len + plan_size title rows ≤ length bs → b1 ≡ patched bs len plan_head → b2 ≡ patched b1 title_at title_head → b3 ≡ patched b2 text_at title → b4 ≡ patched b3 rows_at rows_head → b5 ≡ patched b4 list_at (rows_content rows) → b5 ≡ patched bs len (plan_field plan)
  add_bytes bs b1 b2 b3 b4 b5 len title_at text_at rows_at list_at at fits p q r t u =
      let n = length_rows_content rows in
      let heads : length (plan_head ++ title_head) ≡ 6 = refl in
      let to_title = length-append (plan_head ++ title_head) title in
      let to_rows = length-append ((plan_head ++ title_head) ++ title) rows_head in
      let with_title_head : b2 ≡ patched bs len (plan_head ++ title_head) = q ∙ ap (λ b. patched b title_at title_head) p ∙ more bs plan_head title_head len title_at at.title_place (omega arith) in
      let with_title : b3 ≡ patched bs len ((plan_head ++ title_head) ++ title) = r ∙ ap (λ b. patched b text_at title) with_title_head ∙ more bs (plan_head ++ title_head) title len text_at at.text_place (omega arith) in
      let with_rows_head : b4 ≡ patched bs len (((plan_head ++ title_head) ++ title) ++ rows_head) = t ∙ ap (λ b. patched b rows_at rows_head) with_title ∙ more bs ((plan_head ++ title_head) ++ title) rows_head len rows_at (omega (arith, at.rows_place)) (omega (arith, at.rows_place)) in
      u ∙ ap (λ b. patched b list_at (rows_content rows)) with_rows_head ∙ more bs (((plan_head ++ title_head) ++ title) ++ rows_head) (rows_content rows) len list_at (omega (arith, at.list_place)) (omega (arith, at.list_place)) ∙ ap (patched bs len) pieces_are
