-- How often a test holds in a list, and whether that is an odd number.
use Rattle.std.specs.Prelude.{◌≡◌, ℕ, suc, ◌%◌, Bool, true, false, cond, not, List, [], ◌∷◌, Decides, ◌==◌}

-- one of the two, and not both
abbrev pub differ : Bool → Bool → Bool
differ true t = not t
differ false t = t

abbrev pub odd : ℕ → Bool
odd n = n % 2 == 1

-- how many things of the list pass the test
abbrev pub times : {A : Type 0} → (A → Bool) → List A → ℕ
times f [] = 0
times f (a ∷ zs) = cond (f a) (suc (times f zs)) (times f zs)

-- an odd number of the things of the list pass the test
abbrev pub odd_times : {A : Type 0} → (A → Bool) → List A → Bool
odd_times f [] = false
odd_times f (a ∷ zs) = differ (f a) (odd_times f zs)

-- the two ways of counting modulo 2 agree
abbrev pub OddCounts : Type 0 → Type 0
OddCounts A = (f : A → Bool) (zs : List A) → odd_times f zs ≡ odd (times f zs)

-- where each thing stands an even number of times, every test holds an even number of times
abbrev pub EvenCounts : Type 0 → Type 0
EvenCounts A =
    (same : A → A → Bool) → ((a b : A) → Decides (same a b) (a ≡ b)) → (zs : List A) → ((a : A) → odd_times (same a) zs ≡ false) → (f : A → Bool) → odd_times f zs ≡ false
