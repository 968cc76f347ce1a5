-- The rows that lie in bytes, by their places.
use Rattle.std.proofs.Common.{◌≡◌, ℕ, zero, suc, ◌*◌, ◌/◌, ◌<◌, List, length, get_or, take, drop, Some, ap, ◌∙◌, refl, zero-add, add_comm, arith, rules}
use Rattle.std.proofs.Math.Nat.{mul-zero, mul-suc}
use Rattle.std.specs.Simd.{first_chunks}
use Rattle.std.proofs.lemmas.Bool.{lt-ltb}
use Rattle.std.proofs.lemmas.List.{places, drop-drop}
use Rattle.plane.specs.declared.halfsegment.Halfsegment.{Halfsegment}
use Rattle.storage.specs.Bytes.{bytes_row, row_at_byte}
pub use Rattle.storage.specs.Layouts.{length_rows_of, get_or_rows_of, row_same, row_back}

chunk_at : {X : Type 0} (n k : ℕ) (xs : List X) (i : ℕ) (d : List X) → i < k → get_or (first_chunks n k xs) i d ≡ take n (drop (n * i) xs)
chunk_at n zero xs i d lt = absurd (omega arith)
chunk_at n (suc k) xs zero d lt = rw (mul-zero n) refl
chunk_at n (suc k) xs (suc i) d lt = chunk_at n k (drop n xs) i d (omega arith) ∙ rw (drop-drop, mul-suc, add_comm (n * i) n) refl

-- the row that was read from a chunk of the bytes
pub row_in_chunk : (bs row : List ℕ) (i : ℕ) (r : Halfsegment) → i < length bs / 16 → row ≡ get_or (first_chunks 16 (length bs / 16) bs) i row → r ≡ row_at_byte row 0 → Some r ≡ bytes_row bs i
row_in_chunk bs row i r lt e f =
    let is : row ≡ take 16 (drop (16 * i) bs) = e ∙ chunk_at 16 (length bs / 16) bs i row lt in
    rw (lt-ltb i (length bs / 16) lt) (ap Some (f ∙ row_same row bs 0 (16 * i) (λ j l. rw (is, zero-add j) (search (rules, places)))))
