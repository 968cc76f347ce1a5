-- What is proved of numbers.
use Rattle.std.specs.Prelude.{◌≡◌, ℕ, ◌+◌, ◌<◌, ◌↔◌, List, length, take, slice_index}
use Rattle.algebra.specs.Members.{◌∈◌, Once}
use Rattle.partition.specs.Codes.{merged_all, Together}
use Rattle.partition.specs.Numbers.{place_of, distinct, count_of, numbered, Numbered}

-- the numbers of a list are a numbering of its classes, and count_of counts them
abbrev pub NumbersCodes : Type 0
NumbersCodes = (cs : List ℕ) → Numbered cs (numbered cs) (count_of cs)

-- there is no other numbering, and no other count
abbrev pub OneNumbering : Type 0
OneNumbering = (cs ns : List ℕ) (n : ℕ) → Numbered cs ns n → (ns ≡ numbered cs) × (n ≡ count_of cs)

-- the number of a place is one more than the count of classes that begin before its own
abbrev pub CountsEarlier : Type 0
CountsEarlier = (cs : List ℕ) (i : ℕ) → i < length cs → slice_index (numbered cs) i ≡ 1 + count_of (take (place_of cs (slice_index cs i)) cs)

-- the list that is counted has each code of cs once, and no other
pub record EachOnce (cs ds : List ℕ) : Type 0 where
  pub once : Once ds
  pub same : (c : ℕ) → (c ∈ ds) ↔ (c ∈ cs)

abbrev pub EachCodeOnce : Type 0
EachCodeOnce = (cs : List ℕ) → EachOnce cs (distinct cs)

-- joins, and then numbers: two places have one number exactly where they belong together
abbrev pub JoinsNumbered : Type 0
JoinsNumbered =
    (start : List ℕ) (joins : List (ℕ × ℕ)) (i j : ℕ) →
    i < length start →
    j < length start →
    (slice_index (numbered (merged_all start joins)) i ≡ slice_index (numbered (merged_all start joins)) j) ↔ Together start joins i j
