-- Lines that are no date, `no_date`, and the row at a place of a list that is kept, `row_kept`.
use Rattle.std.proofs.Common.{◌≡◌, ℕ, ◌<◌, ◌≤◌, false, eqb, MatchOption, List, [], ◌∷◌, length, get_or, take, Some, None, Ok, Option, codes, bytes_eq, sym, refl, ap, ◌∙◌, arith, Bor}
use Rattle.std.specs.List.{starts_with}
use Rattle.std.specs.Option.{IfSome, ok_or, option_copied}
use Rattle.std.proofs.lemmas.Bool.Decides.{nat_tests}
use Rattle.plane.specs.declared.halfsegment.Halfsegment.{Halfsegment}
use Rattle.storage.specs.Rows.{row_at, no_such_place}
use Rattle.storage.proofs.RowLists.{row_at_in, row_at_out}
use Rattle.archivetext.specs.Pack.{date_of_line}

swapped : (a b : List ℕ) → bytes_eq a b ≡ bytes_eq b a
swapped [] [] = refl
swapped [] (y ∷ b) = refl
swapped (x ∷ a) [] = refl
swapped (x ∷ a) (y ∷ b) = let rest = swapped a b in grind (arith, nat_tests)

pub no_date : (l : List ℕ) → starts_with eqb l (codes "date ") ≡ false → None ≡ date_of_line l
no_date l e =
    let other : bytes_eq (take 5 l) (codes "date ") ≡ false = swapped (take 5 l) (codes "date ") ∙ e in
    grind (arith, nat_tests)

pub row_kept : (rows : List Halfsegment) (i : ℕ) (r : Option (Bor Halfsegment)) → IfSome r (λ x. x.now ≡ get_or rows i x.now) → MatchOption r (length rows ≤ i) (λ x. i < length rows) → ok_or (option_copied r) no_such_place ≡ row_at rows i
row_kept rows i None is within = sym (row_at_out rows i within)
row_kept rows i (Some x) is within = ap Ok is ∙ sym (row_at_in rows i x.now within)

pub kept_within : (n i : ℕ) (r : Option (Bor Halfsegment)) (P : Bor Halfsegment → Type 0) → MatchOption r (n ≤ i) (λ x. (i < n) × P x) → MatchOption r (n ≤ i) (λ x. i < n)
kept_within n i None P m = m
kept_within n i (Some x) P m = m.0
