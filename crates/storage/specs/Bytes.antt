-- How a row lies in bytes: dominating x, dominating y, far x, far y, four bytes each, two's complement, highest first.
use Rattle.std.specs.Prelude.{ℕ, ◌+◌, ◌*◌, ◌/◌, ◌%◌, cond, List, [], ◌∷◌, ◌++◌, map, length, ℤ, Some, None, Option, nat_lt, slice_index}
use Rattle.std.specs.Int.{w32, cast_signed, cast_unsigned}
use Rattle.std.specs.List.{range_with_len}
use Rattle.plane.specs.declared.halfsegment.Halfsegment.{Halfsegment}

-- the number in the four bytes at the place p
abbrev pub word_at : List ℕ → ℕ → ℤ
word_at bs p = cast_signed w32 (slice_index bs p * 16777216 + slice_index bs (p + 1) * 65536 + slice_index bs (p + 2) * 256 + slice_index bs (p + 3))

abbrev pub row_at_byte : List ℕ → ℕ → Halfsegment
row_at_byte bs p = record {
  dominating = record { x = word_at bs p; y = word_at bs (p + 4) };
  far = record { x = word_at bs (p + 8); y = word_at bs (p + 12) };
}

-- the four bytes of a number
abbrev pub word_bytes : ℤ → List ℕ
word_bytes z = (cast_unsigned w32 z / 16777216 % 256) ∷ (cast_unsigned w32 z / 65536 % 256) ∷ (cast_unsigned w32 z / 256 % 256) ∷ (cast_unsigned w32 z % 256) ∷ []

abbrev pub row_bytes : Halfsegment → List ℕ
row_bytes r = word_bytes r.dominating.x ++ (word_bytes r.dominating.y ++ (word_bytes r.far.x ++ word_bytes r.far.y))

-- the rows that lie in bytes; a rest of less than sixteen is no row
abbrev pub rows_of : List ℕ → List Halfsegment
rows_of bs = map (λ k. row_at_byte bs (16 * k)) (range_with_len 0 (length bs / 16))

-- the row at place i of the rows that lie in bytes, if there is one
abbrev pub bytes_row : List ℕ → ℕ → Option Halfsegment
bytes_row bs i = cond (nat_lt i (length bs / 16)) (Some (row_at_byte bs (16 * i))) None
