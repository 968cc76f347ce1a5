-- A join of two places inside the list, over records.
use Rattle.std.proofs.Common.{◌≡◌, ℕ, ◌<◌, ltb, List, map, length, get_or, sym, ap, ◌∙◌}
use Rattle.std.proofs.lemmas.List.{get_or-map}
use Rattle.std.proofs.lemmas.Bool.{lt-ltb, and_from, cond-true}
use Rattle.partition.specs.Codes.{recoded, both_within, in_codes, joined_in}

-- x and y stand at the places i and j
pub joined_inside : {X : Type 0} (code : X → ℕ) (recode : X → ℕ → X) (xs : List X) (i j : ℕ) (x y : X) (a b : ℕ) → i < length xs → j < length xs → x ≡ get_or xs i x → y ≡ get_or xs j y → a ≡ code x → b ≡ code y → in_codes code recode (recoded a b) xs ≡ joined_in code recode xs i j
joined_inside {X} code recode xs i j x y a b p q at_i at_j is_a is_b =
    let t = and_from (ltb i (length xs)) (ltb j (length xs)) (lt-ltb i (length xs) p) (lt-ltb j (length xs) q) in
    let from : a ≡ get_or (map code xs) i 0 = is_a ∙ ap code at_i ∙ sym (get_or-map code xs i x 0 p) in
    let to : b ≡ get_or (map code xs) j 0 = is_b ∙ ap code at_j ∙ sym (get_or-map code xs j y 0 q) in
    let changed : List X = in_codes code recode (recoded (get_or (map code xs) i 0) (get_or (map code xs) j 0)) xs in
    (λ t. in_codes code recode (recoded (from t) (to t)) xs) ∙ sym (cond-true (both_within (length xs) i j) changed xs t)
