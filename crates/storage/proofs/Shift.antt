-- Shifting there and back, and what it leaves of the clauses of a store. The main lemmas are `there_and_back`, `insert_moved` and `remove_moved`.
use Rattle.std.proofs.Common.{◌≡◌, ℕ, zero, suc, List, [], ◌∷◌, map, ℤ, ◌+ℤ◌, ◌-ℤ◌, Ok, Err, Result, refl, ap, ◌∙◌, arith, w32, SFits}
use Rattle.std.proofs.Math.IntN.{neg_ℤ}
use Rattle.std.specs.List.{insert, remove}
use Rattle.std.specs.Int.{int_wrap, int_wrapping_neg}
use Rattle.std.proofs.lemmas.Int.{ints, int_wrap-add_left, int_wrap-add_right, int_wrap_fits, wrapping_neg_is}
use Rattle.std.proofs.lemmas.List.{map-append, take-map, drop-map, length-map}
use Rattle.plane.specs.declared.halfsegment.Halfsegment.{Halfsegment}
use Rattle.storage.specs.declared.interface.NoSuchPlace.{NoSuchPlace}
use Rattle.storage.specs.declared.interface.InsertRefusal.{InsertRefusal}
use Rattle.storage.specs.Rows.{row_at, Inserted, Removed, after}
use Rattle.storage.proofs.RowLists.{Fits32}
use Rattle.storage.specs.Shift.{moved, moved_back}

there : (x d : ℤ) → SFits w32 x → int_wrap w32 (int_wrap w32 (x -ℤ d) +ℤ d) ≡ x
there x d f =
    let same : (x -ℤ d) +ℤ d ≡ x = omega (arith, ints) in
    int_wrap-add_left w32 (x -ℤ d) d ∙ ap (int_wrap w32) same ∙ int_wrap_fits w32 x f

pub there_and_back : (dx dy : ℤ) (r : Halfsegment) → Fits32 r → moved dx dy (moved_back dx dy r) ≡ r
there_and_back dx dy r f = λ i. record {
  dominating = record { x = there r.dominating.x dx f.cx i; y = there r.dominating.y dy f.cy i };
  far = record { x = there r.far.x dx f.fx i; y = there r.far.y dy f.fy i };
}

back : (x d e : ℤ) → SFits w32 d → e ≡ int_wrapping_neg w32 d → int_wrap w32 (x +ℤ e) ≡ int_wrap w32 (x -ℤ d)
back x d e f is =
    let same : x +ℤ neg_ℤ d ≡ x -ℤ d = omega (arith, ints) in
    ap (λ z. int_wrap w32 (x +ℤ z)) (is ∙ wrapping_neg_is w32 d f) ∙ int_wrap-add_right w32 x (neg_ℤ d) ∙ ap (int_wrap w32) same

-- to move by the opposite is to move back
pub moved_opposite : (dx dy ex ey : ℤ) (r : Halfsegment) → SFits w32 dx → SFits w32 dy → ex ≡ int_wrapping_neg w32 dx → ey ≡ int_wrapping_neg w32 dy → moved ex ey r ≡ moved_back dx dy r
moved_opposite dx dy ex ey r f g p q = λ i. record {
  dominating = record { x = back r.dominating.x dx ex f p i; y = back r.dominating.y dy ey g q i };
  far = record { x = back r.far.x dx ex f p i; y = back r.far.y dy ey g q i };
}

pub row_at_ok : (f : Halfsegment → Halfsegment) (xs : List Halfsegment) (i : ℕ) (r : Halfsegment) → Ok r ≡ row_at xs i → Ok (f r) ≡ row_at (map f xs) i
row_at_ok f [] i r e = absurd (grind arith)
row_at_ok f (x ∷ xs) zero r e = let s : r ≡ x = cc in cc
row_at_ok f (x ∷ xs) (suc i) r e = row_at_ok f xs i r e

pub row_at_err : (f : Halfsegment → Halfsegment) (xs : List Halfsegment) (i : ℕ) (e : NoSuchPlace) → Err e ≡ row_at xs i → Err e ≡ row_at (map f xs) i
row_at_err f [] i r e = e
row_at_err f (x ∷ xs) zero r e = absurd (grind arith)
row_at_err f (x ∷ xs) (suc i) r e = row_at_err f xs i r e

map_inserted : (f : Halfsegment → Halfsegment) (xs : List Halfsegment) (i : ℕ) (r : Halfsegment) → map f (insert xs i r) ≡ insert (map f xs) i (f r)
map_inserted f xs i r = rw (map-append, take-map, drop-map)

map_removed : (f : Halfsegment → Halfsegment) (xs : List Halfsegment) (i : ℕ) → map f (remove xs i) ≡ remove (map f xs) i
map_removed f xs i = rw (map-append, take-map, drop-map)

map_after : {E : Type 0} (f : Halfsegment → Halfsegment) (r : Result Unit E) (new old : List Halfsegment) → map f (after r new old) ≡ after r (map f new) (map f old)
map_after f (Ok _) new old = refl
map_after f (Err _) new old = refl

-- the clause of `insert` of the store below, at the rows as shifted
pub insert_moved : (f : Halfsegment → Halfsegment) (xs ys : List Halfsegment) (room i : ℕ) (row under : Halfsegment) (r : Result Unit InsertRefusal) → f under ≡ row → Inserted xs room i under r ys → Inserted (map f xs) room i row r (map f ys)
insert_moved f xs ys room i row under r e p = record {
  answer = rw length-map p.answer;
  stands = ap (map f) p.stands ∙ map_after f r (insert xs i under) xs ∙ ap (λ l. after r l (map f xs)) (map_inserted f xs i under ∙ ap (insert (map f xs) i) e);
}

pub remove_moved : (f : Halfsegment → Halfsegment) (xs ys : List Halfsegment) (i : ℕ) (r : Result Unit NoSuchPlace) → Removed xs i r ys → Removed (map f xs) i r (map f ys)
remove_moved f xs ys i r p = record {
  answer = rw length-map p.answer;
  stands = ap (map f) p.stands ∙ map_after f r (remove xs i) xs ∙ ap (λ l. after r l (map f xs)) (map_removed f xs i);
}
