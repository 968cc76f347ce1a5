-- For implementers of the interfaces: the clauses, from facts about the list. For callers: what an answer says of it.
use Rattle.std.proofs.Common.{◌≡◌, ℕ, zero, suc, ◌+◌, ◌-◌, ◌<◌, ◌≤◌, List, [], ◌∷◌, length, get_or, take, drop, Ok, Err, refl, add-one, arith}
use Rattle.std.specs.List.{insert, remove, between}
use Rattle.std.proofs.Math.ListN.{drop_of_length-le}
use Rattle.std.proofs.lemmas.Bool.{lt-ltb, le-ltb}
use Rattle.plane.specs.declared.halfsegment.Halfsegment.{Halfsegment}
use Rattle.storage.specs.declared.interface.NoSuchPlace.{NoSuchPlace}
pub use Rattle.storage.specs.Layout.{Fits32}
use Rattle.storage.specs.Rows.{no_such_place, row_at, Inserted, Removed}

pub row_at_in : (xs : List Halfsegment) (i : ℕ) (d : Halfsegment) → i < length xs → row_at xs i ≡ Ok (get_or xs i d)
row_at_in [] i d h = absurd (omega arith)
row_at_in (x ∷ xs) zero d h = refl
row_at_in (x ∷ xs) (suc i) d h = row_at_in xs i d (omega arith)

pub row_at_out : (xs : List Halfsegment) (i : ℕ) → length xs ≤ i → row_at xs i ≡ Err no_such_place
row_at_out [] i h = refl
row_at_out (x ∷ xs) zero h = absurd (omega arith)
row_at_out (x ∷ xs) (suc i) h = row_at_out xs i (omega arith)

pub insert_stands : (xs ys : List Halfsegment) (room i : ℕ) (row : Halfsegment) → i ≤ length xs → length xs < room → ys ≡ insert xs i row → Inserted xs room i row (Ok tt) ys
insert_stands xs ys room i row within fits e = record {
  answer = rw (le-ltb (length xs) i within, lt-ltb (length xs) room fits);
  stands = e;
}

pub remove_stands : (xs ys : List Halfsegment) (i : ℕ) → i < length xs → ys ≡ remove xs i → Removed xs i (Ok tt) ys
remove_stands xs ys i within e = record {
  answer = rw (lt-ltb i (length xs) within);
  stands = e;
}

-- for callers: what an answer says of the list
pub row_at_past : (xs : List Halfsegment) (i : ℕ) (f : NoSuchPlace) → Err f ≡ row_at xs i → length xs ≤ i
row_at_past [] i f e = omega arith
row_at_past (x ∷ xs) zero f e = absurd (grind arith)
row_at_past (x ∷ xs) (suc i) f e = let h = row_at_past xs i f e in omega arith

-- the row that is read is the first of those that are left
row_at_next : (xs : List Halfsegment) (i : ℕ) (r : Halfsegment) → Ok r ≡ row_at xs i → drop i xs ≡ r ∷ drop (suc i) xs
row_at_next [] i r e = absurd (grind arith)
row_at_next (x ∷ xs) zero r e = cc
row_at_next (x ∷ xs) (suc i) r e = row_at_next xs i r e

-- An iterator over the places from i up to `end` takes the place p, and goes on from j.
abbrev Taken : ℕ → ℕ → ℕ → ℕ → ℕ → Type 0
Taken i end p j rest = (rest ≡ end) × ((0 < end - i) × (p ≡ i) × (j ≡ i + 1))

-- where there is a row, it comes first of those that were left
pub row_first : (xs : List Halfsegment) (i end p j rest : ℕ) (r : Halfsegment) → Taken i end p j rest → Ok r ≡ row_at xs p → between i end xs ≡ r ∷ between j rest xs
row_first xs i end p j rest r t e =
    let one : end - i ≡ suc (end - suc i) = omega arith in
    rw (t.1.2, t.0, add-one i, row_at_next xs i r (rw t.1.1 at e), one) refl

-- where there is none, none were left, and none are
pub no_first : (xs : List Halfsegment) (i end p j rest : ℕ) (f : NoSuchPlace) → Taken i end p j rest → Err f ≡ row_at xs p → (between i end xs ≡ []) × (between j rest xs ≡ [])
no_first xs i end p j rest f t e =
    let past : length xs ≤ p = row_at_past xs p f e in
    (rw (drop_of_length-le xs {i = i} (omega arith)) (none (end - i)), rw (drop_of_length-le xs {i = j} (omega arith)) (none (rest - j)))
  where
    none : (n : ℕ) → take {A = Halfsegment} n [] ≡ []
    none zero = refl
    none (suc n) = refl
