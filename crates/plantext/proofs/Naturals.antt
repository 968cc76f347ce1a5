-- For `parse_natural`: what the loop has read, and a number that is too large before its last digit.
use Rattle.std.proofs.Common.{◌≡◌, ℕ, ◌+◌, ◌-◌, ◌*◌, ◌<◌, ◌≤◌, List, [], ◌∷◌, length, get_or, drop, None, fold, sym, ◌∙◌, arith}
use Rattle.std.proofs.lemmas.List.{at_drop_more}
use Rattle.std.proofs.lemmas.Bool.Decides.{nat_tests}
use Rattle.plantext.specs.Text.{all_digits, value, natural}

-- n with one more digit
abbrev pub longer : ℕ → ℕ → ℕ
longer n b = n * 10 + (b - 48)

-- the loop stands at i with the value n: what is left makes the value of the whole, and decides whether all are digits
pub record Read (most : ℕ) (bs : List ℕ) (i n : ℕ) : Type 0 where
  pub left : fold longer n (drop i bs) ≡ value bs
  pub digits : all_digits (drop i bs) ≡ all_digits bs
  pub small : n ≤ most

folded_grows : (n : ℕ) (bs : List ℕ) → n ≤ fold longer n bs
folded_grows n [] = omega arith
folded_grows n (b ∷ bs) = omega (arith, folded_grows (longer n b) bs)

pub too_large : (most : ℕ) (bs : List ℕ) (i n : ℕ) → Read most bs i n → i < length bs → most < longer n (get_or bs i 0) → None ≡ natural most bs
too_large most bs i n read here over =
    let left : fold longer (longer n (get_or bs i 0)) (drop (i + 1) bs) ≡ value bs = sym (at_drop_more (fold longer n) bs i 0 here) ∙ read.left in
    let large : most < value bs = omega (arith, left, folded_grows (longer n (get_or bs i 0)) (drop (i + 1) bs)) in
    grind (arith, nat_tests)
