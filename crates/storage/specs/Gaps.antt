-- What opening and closing a gap leaves of a list of any kind of entries.
use Rattle.std.specs.Prelude.{ℕ, ◌+◌, ◌-◌, List, ◌++◌, take, drop}
use Rattle.std.specs.List.{between}

-- the entries from `at` to `count` stand n places later; all else is as it was, in the gap too
abbrev pub opened : {X : Type 0} → List X → ℕ → ℕ → ℕ → List X
opened xs count at n = take (at + n) xs ++ (between at count xs ++ drop (count + n) xs)

-- the entries from `at + n` to `count` stand n places earlier; all else is as it was
abbrev pub closed : {X : Type 0} → List X → ℕ → ℕ → ℕ → List X
closed xs count at n = take at xs ++ (between (at + n) count xs ++ drop (count - n) xs)
