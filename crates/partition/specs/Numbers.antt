-- Numbers for classes: from 1, in the order of first places.
use Rattle.std.specs.Prelude.{◌≡◌, ℕ, suc, ◌<◌, ◌≤◌, Bool, cond, ◌↔◌, List, [], ◌∷◌, ◌++◌, map, length, fold, ◌==◌, nat_eq, slice_index}
use Rattle.algebra.specs.Members.{◌∈◌, any}

-- c is one of the codes
abbrev pub has : List ℕ → ℕ → Bool
has cs c = any (λ d. nat_eq d c) cs

-- the place of the first c, from 0; the length where there is none
abbrev pub place_of : List ℕ → ℕ → ℕ
place_of [] c = 0
place_of (d ∷ ds) c = cond (d == c) 0 (suc (place_of ds c))

-- c comes last, if it is new
abbrev pub noted : List ℕ → ℕ → List ℕ
noted seen c = cond (has seen c) seen (seen ++ (c ∷ []))

-- each code once, in the order of first places
abbrev pub distinct : List ℕ → List ℕ
distinct cs = fold noted [] cs

-- how many classes there are
abbrev pub count_of : List ℕ → ℕ
count_of cs = length (distinct cs)

-- the number of a code, from 1
abbrev pub number_of : List ℕ → ℕ → ℕ
number_of cs c = suc (place_of (distinct cs) c)

abbrev pub numbered : List ℕ → List ℕ
numbered cs = map (number_of cs) cs

-- every code is the first place that has it
abbrev pub OwnFirsts : List ℕ → Type 0
OwnFirsts cs = (k : ℕ) → k < length cs → place_of cs (slice_index cs k) ≡ slice_index cs k

-- no earlier place has the code of place j
abbrev pub First : List ℕ → ℕ → Type 0
First cs j = (k : ℕ) → k < j → ¬ (slice_index cs k ≡ slice_index cs j)

-- ns numbers the classes of cs from 1 to n by first place: two places have one number exactly where they have one code,
-- each number from 1 to n stands somewhere, and no other; a class that is new at a place has a greater number than all before
pub record Numbered (cs ns : List ℕ) (n : ℕ) : Type 0 where
  pub for_each : length ns ≡ length cs
  pub tells : (i j : ℕ) → i < length cs → j < length cs → (slice_index ns i ≡ slice_index ns j) ↔ (slice_index cs i ≡ slice_index cs j)
  pub within : (i : ℕ) → i < length cs → (1 ≤ slice_index ns i) × (slice_index ns i ≤ n)
  pub no_gaps : (m : ℕ) → 1 ≤ m → m ≤ n → m ∈ ns
  pub rising : (i j : ℕ) → i < j → j < length cs → First cs j → slice_index ns i < slice_index ns j
