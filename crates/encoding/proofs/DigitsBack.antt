-- Numbers from their bytes: the bytes of what was read are the bytes that it was read from.
use Rattle.std.proofs.Common.{◌≡◌, ℕ, zero, suc, ◌+◌, ◌*◌, ◌/◌, ◌%◌, ◌<◌, ◌≤◌, List, [], ◌∷◌, ◌++◌, map, length, get_or, drop, sym, refl, ap, ◌∙◌, arith, w32, to_z}
use Rattle.std.specs.List.{range_with_len}
use Rattle.std.proofs.ByRecursion.{All-get_or}
use Rattle.std.proofs.lemmas.List.{drop_more, drop_all}
use Rattle.std.proofs.lemmas.Int.{of_z-to_z}
use Rattle.storage.specs.Bytes.{word_at, row_at_byte, word_bytes, row_bytes, rows_of}
use Rattle.encoding.specs.Format.{two_bytes, rows_content}
use Rattle.encoding.specs.Inverse.{Bytes}

pub two_bytes_back : (a b : ℕ) → b < 256 → two_bytes (a * 256 + b) ≡ a ∷ b ∷ []
two_bytes_back a b l =
    let hi : (a * 256 + b) / 256 ≡ a = omega arith in
    let lo : (a * 256 + b) % 256 ≡ b = omega arith in
    cc

-- the digits of a number of four bytes
module _ (a b c d : ℕ) (la : a < 256) (lb : b < 256) (lc : c < 256) (ld : d < 256) where
  abbrev joined : ℕ
  joined = a * 16777216 + b * 65536 + c * 256 + d

  digit0 : joined / 16777216 % 256 ≡ a
  digit0 = omega arith

  digit1 : joined / 65536 % 256 ≡ b
  digit1 = let q : joined / 65536 ≡ 256 * a + b = omega arith in omega arith

  digit2 : joined / 256 % 256 ≡ c
  digit2 = let q : joined / 256 ≡ 65536 * a + 256 * b + c = omega arith in omega arith

  digit3 : joined % 256 ≡ d
  digit3 = omega arith

  word_bytes_back : word_bytes (to_z w32 joined) ≡ a ∷ b ∷ c ∷ d ∷ []
  word_bytes_back = rw (of_z-to_z w32 joined (omega arith)) (λ i. digit0 i ∷ digit1 i ∷ digit2 i ∷ digit3 i ∷ [])

-- a byte, a word's bytes, a row's bytes, and what follows them
byte_next : (bs : List ℕ) (p q : ℕ) → p + 1 ≡ q → p < length bs → drop p bs ≡ get_or bs p 0 ∷ drop q bs
byte_next bs p q e l = drop_more bs p 0 l ∙ ap (λ n. get_or bs p 0 ∷ drop n bs) e

word_next : (bs : List ℕ) (p q : ℕ) → p + 4 ≡ q → Bytes bs → q ≤ length bs → word_bytes (word_at bs p) ++ drop q bs ≡ drop p bs
word_next bs p q e small le =
    let at : (k : ℕ) → k < length bs → get_or bs k 0 < 256 = λ k l. All-get_or (λ b. b < 256) bs k 0 l small in
    let d0 = byte_next bs p (p + 1) refl (omega arith) in
    let d1 = byte_next bs (p + 1) (p + 2) (omega arith) (omega arith) in
    let d2 = byte_next bs (p + 2) (p + 3) (omega arith) (omega arith) in
    let d3 = byte_next bs (p + 3) q (omega arith) (omega arith) in
    let all : drop p bs ≡ get_or bs p 0 ∷ get_or bs (p + 1) 0 ∷ get_or bs (p + 2) 0 ∷ get_or bs (p + 3) 0 ∷ drop q bs = cc in
    ap (λ l. l ++ drop q bs) (word_bytes_back _ _ _ _ (at p (omega arith)) (at (p + 1) (omega arith)) (at (p + 2) (omega arith)) (at (p + 3) (omega arith))) ∙ sym all

row_next : (bs : List ℕ) (p q : ℕ) → p + 16 ≡ q → Bytes bs → q ≤ length bs → row_bytes (row_at_byte bs p) ++ drop q bs ≡ drop p bs
row_next bs p q e small le =
    let w : ℕ → List ℕ = λ k. word_bytes (word_at bs k) in
    ap (λ l. w p ++ (w (p + 4) ++ (w (p + 8) ++ l))) (word_next bs (p + 12) q (omega arith) small le) ∙
    ap (λ l. w p ++ (w (p + 4) ++ l)) (word_next bs (p + 8) (p + 12) (omega arith) small (omega arith)) ∙
    ap (λ l. w p ++ l) (word_next bs (p + 4) (p + 8) (omega arith) small (omega arith)) ∙
    word_next bs p (p + 4) refl small (omega arith)

-- the bytes of the rows from the place a on
rows_next : (bs : List ℕ) (k a : ℕ) → Bytes bs → length bs ≡ 16 * (a + k) → rows_content (map (λ j. row_at_byte bs (16 * j)) (range_with_len a k)) ≡ drop (16 * a) bs
rows_next bs zero a small e = sym (drop_all (16 * a) bs (omega arith))
rows_next bs (suc k) a small e =
    ap (λ l. row_bytes (row_at_byte bs (16 * a)) ++ l) (rows_next bs k (a + 1) small (omega arith)) ∙
    row_next bs (16 * a) (16 * (a + 1)) (omega arith) small (omega arith)

pub rows_content_back : (bs : List ℕ) → Bytes bs → length bs % 16 ≡ 0 → rows_content (rows_of bs) ≡ bs
rows_content_back bs small whole = rows_next bs (length bs / 16) 0 small (omega arith)
