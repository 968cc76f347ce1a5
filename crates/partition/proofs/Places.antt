-- First places, the codes that a front of a list holds, and the list of each code once.
use Rattle.std.proofs.Common.{◌≡◌, ℕ, zero, suc, ◌<◌, ◌≤◌, Bool, true, false, cond, not, ◌||◌, eqb, ltb, ◌⊎◌, List, [], ◌∷◌, ◌++◌, map, length, get_or, take, drop, Some, None, Option, fold, sym, refl, ap, ◌∙◌, inl, inr, arith, one-add, length-take}
use Rattle.std.specs.List.{position_or_len}
use Rattle.std.specs.Option.{unwrap_or}
use Rattle.std.proofs.lemmas.List.Folds.{length-prefix_len}
use Rattle.std.proofs.lemmas.List.Recursion.{is_position_or_len}
use Rattle.std.proofs.lemmas.Bool.Decides.{nat_tests}
use mathlib.Core.Bool.{or_assoc, or-false}
use lib.Dec.{leb-suc-suc}
use Rattle.std.proofs.lemmas.List.{take_all}
use Rattle.std.proofs.lemmas.Bool.{eq-eqb, ne_eqb, cases_eq, cases_Bool, lt-ltb, le-ltb}
use Rattle.partition.specs.Numbers.{has, place_of, noted, distinct, First}

pub place_le : (cs : List ℕ) (k : ℕ) → k < length cs → place_of cs (get_or cs k 0) ≤ k
place_le [] k h = absurd (omega arith)
place_le (d ∷ ds) zero h = rw (eq-eqb d d refl) (omega arith)
place_le (d ∷ ds) (suc k) h = go (cases_eq d (get_or ds k 0)) (place_le ds k (omega arith))
  where
    go : (d ≡ get_or ds k 0) ⊎ (d ≡ get_or ds k 0 → ⊥) → place_of ds (get_or ds k 0) ≤ k → place_of (d ∷ ds) (get_or ds k 0) ≤ suc k
    go (inl e) ih = rw (eq-eqb d (get_or ds k 0) e) (omega arith)
    go (inr e) ih = rw (ne_eqb d (get_or ds k 0) e) (omega arith)

pub place_hit : (cs : List ℕ) (c : ℕ) → place_of cs c < length cs → get_or cs (place_of cs c) 0 ≡ c
place_hit [] c h = absurd (omega arith)
place_hit (d ∷ ds) c h = go (cases_eq d c) h (place_hit ds c)
  where
    go : (d ≡ c) ⊎ (d ≡ c → ⊥) → place_of (d ∷ ds) c < suc (length ds) → (place_of ds c < length ds → get_or ds (place_of ds c) 0 ≡ c) → get_or (d ∷ ds) (place_of (d ∷ ds) c) 0 ≡ c
    go (inl e) h ih = rw (eq-eqb d c e) e
    go (inr e) h ih = let k = rw (ne_eqb d c e) at h in rw (ne_eqb d c e) (ih (omega arith))

unwrapped : (p n : ℕ) → p ≤ n → unwrap_or (cond (ltb p n) (Some p) None) n ≡ p
unwrapped p n l = grind (arith, nat_tests)

-- what a search over records finds is the place of the code, or the end
module _ {X : Type 0} (code : X → ℕ) (c : ℕ) (xs : List X) where
  abbrev pub has_code : X → Bool
  has_code x = eqb (code x) c

  place_is : place_of (map code xs) c ≡ position_or_len has_code xs
  place_is = is_position_or_len (λ (ys : List X). place_of (map code ys) c) has_code refl (λ x ys. ap (λ n. cond (has_code x) 0 n) (sym (one-add (place_of (map code ys) c)))) xs

  pub place_found : (r : Option ℕ) → r ≡ cond (ltb (position_or_len has_code xs) (length xs)) (Some (position_or_len has_code xs)) None → unwrap_or r (length xs) ≡ place_of (map code xs) c
  place_found r e =
      let p = position_or_len has_code xs in
      let within : p ≤ length xs = omega (arith, length-prefix_len (λ x. not (has_code x)) xs, length-take p xs) in
      ap (λ o. unwrap_or o (length xs)) e ∙ unwrapped p (length xs) within ∙ sym place_is

pub place_first : (cs : List ℕ) (c i : ℕ) → i < length cs → get_or cs i 0 ≡ c → ((k : ℕ) → k < i → get_or cs k 0 ≡ c → ⊥) → place_of cs c ≡ i
place_first [] c i h e f = absurd (omega arith)
place_first (d ∷ ds) c zero h e f = rw (eq-eqb d c e)
place_first (d ∷ ds) c (suc i) h e f =
    rw (ne_eqb d c (f 0 (omega arith))) (ap suc (place_first ds c i (omega arith) e (λ k l. f (suc k) (omega arith))))

-- the first place of a code that stands at place i
module _ (cs : List ℕ) (i : ℕ) (lt : i < length cs) where
  pub stands_at : place_of cs (get_or cs i 0) < length cs
  stands_at = omega (arith, place_le cs i lt)

  pub first_code : get_or cs (place_of cs (get_or cs i 0)) 0 ≡ get_or cs i 0
  first_code = place_hit cs (get_or cs i 0) stands_at

  pub first_is_first : First cs (place_of cs (get_or cs i 0))
  first_is_first k l e =
      let again : place_of cs (get_or cs k 0) ≡ place_of cs (get_or cs i 0) = ap (place_of cs) (e ∙ first_code) in
      omega (arith, place_le cs k (omega (arith, stands_at)))

-- lists that agree up to k
pub place_same : (xs ys : List ℕ) (k : ℕ) → k < length xs → k < length ys → ((j : ℕ) → j ≤ k → get_or xs j 0 ≡ get_or ys j 0) → place_of xs (get_or ys k 0) ≡ place_of ys (get_or ys k 0)
place_same [] ys k h l f = absurd (omega arith)
place_same (a ∷ xs) [] k h l f = absurd (omega arith)
place_same (a ∷ xs) (b ∷ ys) zero h l f = let e : a ≡ b = f 0 (omega arith) in rw (eq-eqb a b e, eq-eqb b b refl)
place_same (a ∷ xs) (b ∷ ys) (suc k) h l f =
    let e : a ≡ b = f 0 (omega arith) in
    let ih = place_same xs ys k (omega arith) (omega arith) (λ j d. f (suc j) (omega arith)) in
    (λ i. cond (eqb (e i) (get_or ys k 0)) 0 (suc (ih i)))

-- codes that a list has
pub has_take : (cs : List ℕ) (i c : ℕ) → i ≤ length cs → has (take i cs) c ≡ ltb (place_of cs c) i
has_take cs zero c h = sym (le-ltb (place_of cs c) 0 (omega arith))
has_take [] (suc i) c h = absurd (omega arith)
has_take (d ∷ ds) (suc i) c h = go (cases_eq d c) (has_take ds i c (omega arith))
  where
    go : (d ≡ c) ⊎ (d ≡ c → ⊥) → has (take i ds) c ≡ ltb (place_of ds c) i → has (take (suc i) (d ∷ ds)) c ≡ ltb (place_of (d ∷ ds) c) (suc i)
    go (inl e) ih = rw (eq-eqb d c e) (sym (lt-ltb 0 (suc i) (omega arith)))
    go (inr e) ih = rw (ne_eqb d c e) (ih ∙ sym (leb-suc-suc (suc (place_of ds c)) i))

pub has_place : (cs : List ℕ) (c : ℕ) → has cs c ≡ ltb (place_of cs c) (length cs)
has_place cs c = ap (λ (ds : List ℕ). has ds c) (sym (take_all (length cs) cs (omega arith))) ∙ has_take cs (length cs) c (omega arith)

pub has_push : (ds : List ℕ) (d c : ℕ) → has (ds ++ (d ∷ [])) c ≡ (has ds c || eqb d c)
has_push [] d c = or-false (eqb d c)
has_push (e ∷ ds) d c = ap (λ b. eqb e c || b) (has_push ds d c) ∙ sym (or_assoc (eqb e c) (has ds c) (eqb d c))

has_noted : (ds : List ℕ) (d c : ℕ) → has (noted ds d) c ≡ (has ds c || eqb d c)
has_noted ds d c = go (cases_Bool (has ds d)) (cases_eq d c)
  where
    go : (has ds d ≡ true) ⊎ (has ds d ≡ false) → (d ≡ c) ⊎ (d ≡ c → ⊥) → has (noted ds d) c ≡ (has ds c || eqb d c)
    go (inl h) (inl e) = let k : has ds c ≡ true = ap (has ds) (sym e) ∙ h in rw (h, k)
    go (inl h) (inr e) = rw (h, ne_eqb d c e) (sym (or-false (has ds c)))
    go (inr h) e = rw h (has_push ds d c)

has_folded : (ds seen : List ℕ) (c : ℕ) → has (fold noted seen ds) c ≡ (has seen c || has ds c)
has_folded [] seen c = sym (or-false (has seen c))
has_folded (d ∷ ds) seen c =
    has_folded ds (noted seen d) c ∙ ap (λ b. b || has ds c) (has_noted seen d c) ∙ or_assoc (has seen c) (eqb d c) (has ds c)

pub has_distinct : (ds : List ℕ) (c : ℕ) → has (distinct ds) c ≡ has ds c
has_distinct ds c = has_folded ds [] c

-- what is appended or noted later does not move what stands
place_keeps : (ds es : List ℕ) (c : ℕ) → has ds c ≡ true → place_of (ds ++ es) c ≡ place_of ds c
place_keeps [] es c h = let z : ◌≡◌ {A = Bool} false true = h in absurd (grind arith)
place_keeps (d ∷ ds) es c h = go (cases_eq d c) h (place_keeps ds es c)
  where
    go : (d ≡ c) ⊎ (d ≡ c → ⊥) → (eqb d c || has ds c) ≡ true → (has ds c ≡ true → place_of (ds ++ es) c ≡ place_of ds c) → place_of ((d ∷ ds) ++ es) c ≡ place_of (d ∷ ds) c
    go (inl e) h ih = rw (eq-eqb d c e)
    go (inr e) h ih = let k = rw (ne_eqb d c e) at h in rw (ne_eqb d c e) (ap suc (ih k))

place_noted : (ds : List ℕ) (d c : ℕ) → has ds c ≡ true → place_of (noted ds d) c ≡ place_of ds c
place_noted ds d c h = go (cases_Bool (has ds d))
  where
    go : (has ds d ≡ true) ⊎ (has ds d ≡ false) → place_of (noted ds d) c ≡ place_of ds c
    go (inl k) = rw k
    go (inr k) = rw k (place_keeps ds (d ∷ []) c h)

place_grows : (ds seen : List ℕ) (c : ℕ) → has seen c ≡ true → place_of (fold noted seen ds) c ≡ place_of seen c
place_grows [] seen c h = refl
place_grows (d ∷ ds) seen c h =
    let k : has (noted seen d) c ≡ true = has_noted seen d c ∙ ap (λ b. b || eqb d c) h in
    place_grows ds (noted seen d) c k ∙ place_noted seen d c h

folded_split : {A B : Type 0} (f : B → A → B) (a : B) (xs : List A) (i : ℕ) → fold f a xs ≡ fold f (fold f a (take i xs)) (drop i xs)
folded_split f a xs zero = refl
folded_split f a [] (suc i) = refl
folded_split f a (x ∷ xs) (suc i) = folded_split f (f a x) xs i

-- a code of a front has in the whole the place that it has in the front
pub place_in_front : (cs : List ℕ) (i c : ℕ) → has (take i cs) c ≡ true → place_of (distinct cs) c ≡ place_of (distinct (take i cs)) c
place_in_front cs i c h =
    ap (λ (ds : List ℕ). place_of ds c) (folded_split noted [] cs i) ∙ place_grows (drop i cs) (distinct (take i cs)) c (has_distinct (take i cs) c ∙ h)

pub place_new : (ds : List ℕ) (c : ℕ) → has ds c ≡ false → place_of (ds ++ (c ∷ [])) c ≡ length ds
place_new [] c h = rw (eq-eqb c c refl)
place_new (d ∷ ds) c h = go (cases_eq d c) h (place_new ds c)
  where
    go : (d ≡ c) ⊎ (d ≡ c → ⊥) → (eqb d c || has ds c) ≡ false → (has ds c ≡ false → place_of (ds ++ (c ∷ [])) c ≡ length ds) → place_of ((d ∷ ds) ++ (c ∷ [])) c ≡ suc (length ds)
    go (inl e) h ih = let z = rw (eq-eqb d c e) at h in absurd (grind arith)
    go (inr e) h ih = let k = rw (ne_eqb d c e) at h in rw (ne_eqb d c e) (ap suc (ih k))
