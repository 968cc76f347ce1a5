-- Records that hold a code: maps in place from the front and from the end, and what they do to the codes.
use Rattle.std.proofs.Common.{◌≡◌, ℕ, zero, suc, ◌<◌, ◌≤◌, List, [], ◌∷◌, ◌++◌, map, length, get_or, take, drop, set, sym, refl, ap, ◌∙◌, append-nil, arith}
use Rattle.std.proofs.lemmas.List.{take_all, drop_all, length-map, get_or-map}
use Rattle.partition.specs.Codes.{in_codes}
use Rattle.partition.specs.Numbers.{place_of}
use Rattle.partition.proofs.Places.{place_same}

-- a map in place, from the front
pub front_at : {X : Type 0} (h : X → X) (xs : List X) (i k : ℕ) (d : X) → k < i → i ≤ length xs → get_or (map h (take i xs) ++ drop i xs) k d ≡ h (get_or xs k d)
front_at h xs zero k d l r = absurd (omega arith)
front_at h [] (suc i) k d l r = absurd (omega arith)
front_at h (x ∷ xs) (suc i) zero d l r = refl
front_at h (x ∷ xs) (suc i) (suc k) d l r = front_at h xs i k d (omega arith) (omega arith)

pub rest_at : {X : Type 0} (h : X → X) (xs : List X) (i k : ℕ) (d : X) → i ≤ k → get_or (map h (take i xs) ++ drop i xs) k d ≡ get_or xs k d
rest_at h xs zero k d l = refl
rest_at h [] (suc i) k d l = refl
rest_at h (x ∷ xs) (suc i) zero d l = absurd (omega arith)
rest_at h (x ∷ xs) (suc i) (suc k) d l = rest_at h xs i k d (omega arith)

-- a map in place, from the end
back_at : {X : Type 0} (h : X → X) (xs : List X) (i k : ℕ) (d : X) → k < i → i ≤ length xs → get_or (take i xs ++ map h (drop i xs)) k d ≡ get_or xs k d
back_at h xs zero k d l r = absurd (omega arith)
back_at h [] (suc i) k d l r = absurd (omega arith)
back_at h (x ∷ xs) (suc i) zero d l r = refl
back_at h (x ∷ xs) (suc i) (suc k) d l r = back_at h xs i k d (omega arith) (omega arith)

back_more : {X : Type 0} (h : X → X) (xs : List X) (i : ℕ) (d : X) → i < length xs → set (take (suc i) xs ++ map h (drop (suc i) xs)) i (h (get_or xs i d)) ≡ take i xs ++ map h (drop i xs)
back_more h [] i d l = absurd (omega arith)
back_more h (x ∷ xs) zero d l = refl
back_more {X} h (x ∷ xs) (suc i) d l = ap {B = List X} (λ r. x ∷ r) (back_more h xs i d (omega arith))

pub all_done : {X : Type 0} (h : X → X) (xs : List X) (i : ℕ) → length xs ≤ i → map h (take i xs) ++ drop i xs ≡ map h xs
all_done h xs i l = rw (take_all i xs l, drop_all i xs l) (append-nil (map h xs))

pub none_done : {X : Type 0} (h : X → X) (xs : List X) (i : ℕ) → length xs ≤ i → xs ≡ take i xs ++ map h (drop i xs)
none_done h xs i l = rw (take_all i xs l, drop_all i xs l) (sym (append-nil xs))

-- the codes of a list of records, once and twice recoded
module _ {X : Type 0} (code : X → ℕ) (recode : X → ℕ → X) (reads : (x : X) (c : ℕ) → code (recode x c) ≡ c) where
  pub codes_after : (f : ℕ → ℕ) (xs : List X) → map code (in_codes code recode f xs) ≡ map f (map code xs)
  codes_after f [] = refl
  codes_after f (x ∷ xs) = λ i. reads x (f (code x)) i ∷ codes_after f xs i

  pub codes_of : (f : ℕ → ℕ) (xs ys : List X) → ys ≡ in_codes code recode f xs → map code ys ≡ map f (map code xs)
  codes_of f xs ys e = ap (map code) e ∙ codes_after f xs

  -- f and then g is k, at each code of the list
  pub twice : ((x : X) (c d : ℕ) → recode (recode x c) d ≡ recode x d) → (f g k : ℕ → ℕ) (xs : List X) → ((i : ℕ) → i < length (map code xs) → g (f (get_or (map code xs) i 0)) ≡ k (get_or (map code xs) i 0)) → in_codes code recode g (in_codes code recode f xs) ≡ in_codes code recode k xs
  twice again f g k [] e = refl
  twice again f g k (x ∷ xs) e =
      let here : recode (recode x (f (code x))) (g (code (recode x (f (code x))))) ≡ recode x (k (code x)) = again x (f (code x)) (g (code (recode x (f (code x))))) ∙ ap (recode x) (ap g (reads x (f (code x))) ∙ e 0 (omega arith)) in
      λ i. here i ∷ twice again f g k xs (λ j h. e (suc j) (omega arith)) i

-- one turn from the end: the code is looked up in a list that agrees with the first one up to here
module _ {X : Type 0} (code : X → ℕ) (recode : X → ℕ → X) (xs ys : List X) (i p : ℕ) (x v : X) (lt : i < length xs) (len : length ys ≡ length xs) where
  abbrev to_first : X → X
  to_first y = recode y (place_of (map code xs) (code y))

  pub first_more : ys ≡ take (suc i) xs ++ map to_first (drop (suc i) xs) → x ≡ get_or ys i x → p ≡ place_of (map code ys) (code x) → v ≡ recode x p → set ys i v ≡ take i xs ++ map to_first (drop i xs)
  first_more inv is found made =
      let at : (k : ℕ) (d : X) → k ≤ i → get_or ys k d ≡ get_or xs k d = λ k d l. ap (λ (zs : List X). get_or zs k d) inv ∙ back_at to_first xs (suc i) k d (omega arith) (omega arith) in
      let same : x ≡ get_or xs i x = is ∙ at i x (omega arith) in
      let lx = length-map xs code in
      let ly = length-map ys code in
      let code_x : code x ≡ get_or (map code xs) i 0 = ap code same ∙ sym (get_or-map code xs i x 0 lt) in
      let agree : (j : ℕ) → j ≤ i → get_or (map code ys) j 0 ≡ get_or (map code xs) j 0 = λ j l. get_or-map code ys j x 0 (omega arith) ∙ ap code (at j x l) ∙ sym (get_or-map code xs j x 0 (omega arith)) in
      let place : p ≡ place_of (map code xs) (code x) = found ∙ ap (place_of (map code ys)) code_x ∙ place_same (map code ys) (map code xs) i (omega arith) (omega arith) agree ∙ ap (place_of (map code xs)) (sym code_x) in
      let value : v ≡ to_first (get_or xs i x) = made ∙ ap (recode x) place ∙ ap to_first same in
      (λ t. set (inv t) i (value t)) ∙ back_more to_first xs i x lt
