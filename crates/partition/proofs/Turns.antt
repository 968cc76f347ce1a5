-- One turn of the loop that numbers codes which are first places.
use Rattle.std.proofs.Common.{◌≡◌, ℕ, ◌+◌, ◌<◌, ◌≤◌, List, ◌++◌, map, length, get_or, take, drop, set, sym, ap, ◌∙◌, arith}
use Rattle.std.proofs.lemmas.List.{length-map, get_or-map}
use Rattle.std.proofs.lemmas.List.Edits.{map_over_more}
use Rattle.partition.specs.Numbers.{place_of, count_of, number_of, OwnFirsts}
use Rattle.partition.proofs.Places.{place_le, place_hit}
use Rattle.partition.proofs.Numbers.{count_new, number_new, count_old}
use Rattle.partition.proofs.Records.{front_at, rest_at}

-- the labels and the count before place i
pub record NumberedBefore {X : Type 0} (code : X → ℕ) (recode : X → ℕ → X) (xs ys : List X) (i n : ℕ) : Type 0 where
  pub done : ys ≡ map (λ x. recode x (number_of (map code xs) (code x))) (take i xs) ++ drop i xs
  pub counted : n ≡ count_of (take i (map code xs))
  pub small : n ≤ i

module _ {X : Type 0} (code : X → ℕ) (recode : X → ℕ → X) (xs ys : List X) (i n : ℕ) (x : X) (lt : i < length xs) (own : OwnFirsts (map code xs)) (inv : NumberedBefore code recode xs ys i n) (is : x ≡ get_or ys i x) where
  abbrev cs : List ℕ
  cs = map code xs

  abbrev numbered_one : X → X
  numbered_one y = recode y (number_of cs (code y))

  in_codes_list : i < length cs
  in_codes_list = omega (arith, length-map xs code)

  same : x ≡ get_or xs i x
  same = is ∙ ap (λ (zs : List X). get_or zs i x) inv.done ∙ rest_at numbered_one xs i i x (omega arith)

  code_here : code x ≡ get_or cs i 0
  code_here = ap code same ∙ sym (get_or-map code xs i x 0 lt)

  pub code_le : code x ≤ i
  code_le =
      let e = code_here in
      let o = own i in_codes_list in
      let l = place_le cs i in_codes_list in
      omega arith

  -- the first of its code
  pub turn_new : (v : X) → code x ≡ i → v ≡ recode x (n + 1) → NumberedBefore code recode xs (set ys i v) (i + 1) (n + 1)
  turn_new v e made =
      let first : place_of cs (get_or cs i 0) ≡ i = own i in_codes_list ∙ sym code_here ∙ e in
      let k : number_of cs (code x) ≡ n + 1 = ap (number_of cs) code_here ∙ number_new cs i in_codes_list first ∙ ap (λ m. m + 1) (sym inv.counted) in
      let l = inv.small in
      record {
        done = ap (set ys i) (made ∙ ap (recode x) (sym k)) ∙ map_over_more numbered_one xs ys i x lt inv.done is;
        counted = ap (λ m. m + 1) inv.counted ∙ sym (count_new cs i in_codes_list first);
        small = omega arith;
      }

  -- a later one: y stands at the first place
  pub turn_old : ((y : X) (c : ℕ) → code (recode y c) ≡ c) → (v y : X) → (code x ≡ i → ⊥) → y ≡ get_or ys (code x) y → v ≡ recode x (code y) → NumberedBefore code recode xs (set ys i v) (i + 1) n
  turn_old reads v y e at made =
      let le = code_le in
      let before : code x < i = omega arith in
      let p : place_of cs (get_or cs i 0) ≡ code x = own i in_codes_list ∙ sym code_here in
      let hit : get_or cs (code x) 0 ≡ code x = ap (λ k. get_or cs k 0) (sym p) ∙ place_hit cs (get_or cs i 0) (omega (arith, in_codes_list)) ∙ sym code_here in
      let y_is : y ≡ numbered_one (get_or xs (code x) y) = at ∙ ap (λ (zs : List X). get_or zs (code x) y) inv.done ∙ front_at numbered_one xs i (code x) y before (omega arith) in
      let code_first : code (get_or xs (code x) y) ≡ code x = sym (get_or-map code xs (code x) y 0 (omega arith)) ∙ hit in
      let code_y : code y ≡ number_of cs (code x) = ap code y_is ∙ reads (get_or xs (code x) y) (number_of cs (code (get_or xs (code x) y))) ∙ ap (number_of cs) code_first in
      let l = inv.small in
      record {
        done = ap (set ys i) (made ∙ ap (recode x) code_y) ∙ map_over_more numbered_one xs ys i x lt inv.done is;
        counted = inv.counted ∙ sym (count_old cs i in_codes_list (omega arith));
        small = omega arith;
      }
