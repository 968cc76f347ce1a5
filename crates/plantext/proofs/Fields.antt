-- For `split_field` and `parse_row`: the fields of a line up to its first space, at the place that `position` found; a line with a fifth field is no row.
use Rattle.std.proofs.Common.{◌≡◌, ℕ, ◌+◌, ◌-◌, ◌<◌, ◌≤◌, cond, eqb, ltb, List, [], ◌∷◌, length, take, drop, Some, None, refl, arith}
use Rattle.std.specs.List.{position_or_len}
use Rattle.std.proofs.lemmas.Bool.Decides.{nat_tests}
use Rattle.std.proofs.lemmas.List.{take_rest}
use Rattle.std.proofs.lemmas.List.Sums.{fails_before_first}
use Rattle.std.proofs.lemmas.List.Splits.{slice_split_none, slice_split_first, length-slice_split}
use Rattle.plantext.specs.Text.{pieces, row_of_fields}

abbrev pub first_space : List ℕ → ℕ
first_space line = position_or_len (λ b. eqb b 32) line

pub cut_none : (line : List ℕ) → None ≡ cond (ltb (first_space line) (length line)) (Some (first_space line)) None → pieces 32 line ≡ line ∷ []
cut_none line found =
    let far = past _ _ found in
    slice_split_none (λ b. eqb b 32) line (λ k d l. fails_before_first (λ b. eqb b 32) line k d (omega arith))
  where
    past : (i n : ℕ) → None ≡ cond (ltb i n) (Some i) None → n ≤ i
    past i n e = grind (arith, nat_tests)

-- the parts as the checker has `&line[..len]` and `&line[len + 1..]`
pub cut_some : (line : List ℕ) (i : ℕ) → Some i ≡ cond (ltb (first_space line) (length line)) (Some (first_space line)) None → pieces 32 line ≡ take i line ∷ pieces 32 (take (length line - (i + 1)) (drop (i + 1) line))
cut_some line i found =
    let at = within _ _ _ found in
    rw (take_rest line (i + 1), at.0) (slice_split_first (λ b. eqb b 32) line 0 at.1)
  where
    within : (i p n : ℕ) → Some i ≡ cond (ltb p n) (Some p) None → (i ≡ p) × (p < n)
    within i p n e = (grind (arith, nat_tests), grind (arith, nat_tests))

pub fifth_none : (a b c d bs : List ℕ) → None ≡ row_of_fields (a ∷ b ∷ c ∷ d ∷ pieces 32 bs)
fifth_none a b c d bs = by (pieces 32 bs) (omega (arith, length-slice_split (λ x. eqb x 32) bs))
  where
    by : (fs : List (List ℕ)) → 0 < length fs → None ≡ row_of_fields (a ∷ b ∷ c ∷ d ∷ fs)
    by [] some = absurd (omega arith)
    by (f ∷ fs) some = refl
