-- Codes: a list with a number for each place, where places with one code are one class. How joins change it.
use Rattle.std.specs.Prelude.{◌≡◌, ℕ, ◌<◌, Bool, cond, ◌&&◌, ◌↔◌, List, map, length, fold, ◌==◌, nat_lt, slice_index}
use Rattle.algebra.specs.Members.{◌∈◌}

-- every code a becomes b
abbrev pub recoded : ℕ → ℕ → ℕ → ℕ
recoded a b c = cond (c == a) b c

abbrev pub relabelled : ℕ → ℕ → List ℕ → List ℕ
relabelled a b cs = map (recoded a b) cs

-- both are places of a list of n
abbrev pub both_within : ℕ → ℕ → ℕ → Bool
both_within n i j = nat_lt i n && nat_lt j n

-- a join of two places: the code of the first becomes that of the second; where one is past the end, nothing changes
abbrev pub merged : List ℕ → ℕ × ℕ → List ℕ
merged cs j = cond (both_within (length cs) j.0 j.1) (relabelled (slice_index cs j.0) (slice_index cs j.1) cs) cs

-- joins made one after the other
abbrev pub merged_all : List ℕ → List (ℕ × ℕ) → List ℕ
merged_all start joins = fold merged start joins

-- the smallest equivalence of the places of a list that holds of places with one code at the start, and of every joined pair
-- of places; a pair with a place past the end joins nothing
pub data Together (start : List ℕ) (joins : List (ℕ × ℕ)) : ℕ → ℕ → Type 0 where
  alike : {i j : ℕ} → i < length start → j < length start → slice_index start i ≡ slice_index start j → Together start joins i j
  linked : {i j : ℕ} → i < length start → j < length start → (i, j) ∈ joins → Together start joins i j
  back : {i j : ℕ} → Together start joins i j → Together start joins j i
  chain : {i j k : ℕ} → Together start joins i j → Together start joins j k → Together start joins i k

-- joins give one code to exactly the places that belong together
abbrev pub Classes : Type 0
Classes =
    (start : List ℕ) (joins : List (ℕ × ℕ)) (i j : ℕ) →
    i < length start →
    j < length start →
    (slice_index (merged_all start joins) i ≡ slice_index (merged_all start joins) j) ↔ Together start joins i j

-- f is applied to the code of every record
abbrev pub in_codes : {X : Type 0} → (X → ℕ) → (X → ℕ → X) → (ℕ → ℕ) → List X → List X
in_codes code recode f xs = map (λ x. recode x (f (code x))) xs

-- a join of the places i and j, over records
abbrev pub joined_in : {X : Type 0} → (X → ℕ) → (X → ℕ → X) → List X → ℕ → ℕ → List X
joined_in code recode xs i j =
    cond (both_within (length xs) i j) (in_codes code recode (recoded (slice_index (map code xs) i) (slice_index (map code xs) j)) xs) xs
