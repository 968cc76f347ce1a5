-- What the calls of a source and of a store answer and leave, over the list of halfsegments (rows) that they stand for.
use Rattle.std.specs.Prelude.{◌≡◌, ℕ, zero, suc, cond, List, [], ◌∷◌, length, Ok, Err, Result, nat_lt}
use Rattle.std.specs.List.{insert, remove}
use Rattle.plane.specs.declared.halfsegment.Halfsegment.{Halfsegment}
use Rattle.storage.specs.declared.interface.NoSuchPlace.{NoSuchPlace}
use Rattle.storage.specs.declared.interface.InsertRefusal.{InsertRefusal}
use Rattle.storage.specs.declared.interface.InsertRefusal.TheVariants.{NoPlace, NoRoom}

-- the numbers that the refusals go by
abbrev pub place_number : NoSuchPlace → ℕ
place_number f = 16

abbrev pub insert_number : InsertRefusal → ℕ
insert_number (NoPlace f) = place_number f
insert_number NoRoom = 5

abbrev pub no_such_place : NoSuchPlace
no_such_place = record {}

-- the row at place i, from 0, or the refusal where there is none
abbrev pub row_at : List Halfsegment → ℕ → Result Halfsegment NoSuchPlace
row_at [] i = Err no_such_place
row_at (x ∷ xs) zero = Ok x
row_at (x ∷ xs) (suc i) = row_at xs i

-- what stands after an answer: `new` where it is Ok, `old` where it refuses
abbrev pub after : {E : Type 0} → Result Unit E → List Halfsegment → List Halfsegment → List Halfsegment
after (Ok _) new old = new
after (Err _) new old = old

-- insertion refuses a place past the count first, then a row for which there is no room
abbrev pub insert_answer : List Halfsegment → ℕ → ℕ → Result Unit InsertRefusal
insert_answer xs room i = cond (nat_lt (length xs) i) (Err (NoPlace no_such_place)) (cond (nat_lt (length xs) room) (Ok tt) (Err NoRoom))

pub record Inserted (xs : List Halfsegment) (room i : ℕ) (row : Halfsegment) (r : Result Unit InsertRefusal) (ys : List Halfsegment) : Type 0 where
  pub answer : r ≡ insert_answer xs room i
  pub stands : ys ≡ after r (insert xs i row) xs

abbrev pub remove_answer : List Halfsegment → ℕ → Result Unit NoSuchPlace
remove_answer xs i = cond (nat_lt i (length xs)) (Ok tt) (Err no_such_place)

pub record Removed (xs : List Halfsegment) (i : ℕ) (r : Result Unit NoSuchPlace) (ys : List Halfsegment) : Type 0 where
  pub answer : r ≡ remove_answer xs i
  pub stands : ys ≡ after r (remove xs i) xs
