-- For `same`: two lists of one length are equal exactly where their rows are the same in pairs (`pairs_decide`).
use Rattle.std.proofs.Common.{◌≡◌, List, [], ◌∷◌, length, Bool, Decides, refl, arith}
use Rattle.std.specs.List.{list_all, zip}
use Rattle.std.proofs.lemmas.Bool.{and_parts, and_from}
use Rattle.plane.specs.declared.halfsegment.Halfsegment.{Halfsegment}
use Rattle.plane.specs.Rows.{same_row}
use Rattle.plane.specs.RowLaws.{same_row_is, same_row_holds}

abbrev pub in_pairs : List Halfsegment → List Halfsegment → Bool
in_pairs xs ys = list_all (λ p. same_row p.0 p.1) (zip xs ys)

pub pairs_decide : (xs ys : List Halfsegment) → length xs ≡ length ys → Decides (in_pairs xs ys) (xs ≡ ys)
pairs_decide [] [] e = (λ _. refl, λ _. refl)
pairs_decide [] (y ∷ ys) e = absurd (omega (arith, e))
pairs_decide (x ∷ xs) [] e = absurd (omega (arith, e))
pairs_decide (x ∷ xs) (y ∷ ys) e =
    let rest = pairs_decide xs ys (omega (arith, e)) in (
      λ h. let b = and_parts (same_row x y) (in_pairs xs ys) h in let one = same_row_is x y b.0 in let more = rest.0 b.1 in cc,
      λ q. let one : x ≡ y = cc in let more : xs ≡ ys = cc in and_from (same_row x y) (in_pairs xs ys) (same_row_holds x y one) (rest.1 more),
    )
