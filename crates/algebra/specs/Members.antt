-- Being one of the things of a list.
use Rattle.std.specs.Prelude.{Bool, false, ◌||◌, List, [], ◌∷◌}

infix 20 ◌∈◌
pub data ◌∈◌ {A : Type 0} (a : A) : List A → Type 0 where
  here : {zs : List A} → a ∈ (a ∷ zs)
  there : {b : A} {zs : List A} → a ∈ zs → a ∈ (b ∷ zs)

-- some thing of the list passes the test
abbrev pub any : {A : Type 0} → (A → Bool) → List A → Bool
any test [] = false
any test (a ∷ zs) = test a || any test zs

-- nothing stands in the list twice
abbrev pub Once : {A : Type 0} → List A → Type 0
Once [] = Unit {0}
Once (a ∷ zs) = ¬ (a ∈ zs) × Once zs
