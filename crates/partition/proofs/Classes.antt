-- Joins give one code to exactly the places that belong together (`classes`).
use Rattle.std.proofs.Common.{◌≡◌, ℕ, ◌<◌, Bool, true, false, cond, ltb, ◌⊎◌, List, [], ◌∷◌, map, length, get_or, sym, refl, ap, ◌∙◌, inl, inr, arith}
use mathlib.Core.List.{map-map}
use Rattle.std.proofs.lemmas.List.{length-map, get_or-map, map-id}
use Rattle.std.proofs.lemmas.Bool.{eq-eqb, ne_eqb, cases_eq, cases_Bool, and_from, and_parts, lt-ltb, ltb-true}
use Rattle.algebra.specs.Members.{◌∈◌, here, there}
use Rattle.algebra.proofs.Members.{none}
use Rattle.partition.specs.Codes.{recoded, both_within, merged, merged_all, Together, alike, linked, back, chain, Classes}

-- a code that is renamed, and one that is not
pub recoded_at : (a b c : ℕ) → c ≡ a → recoded a b c ≡ b
recoded_at a b c e = rw (eq-eqb c a e)

pub recoded_off : (a b c : ℕ) → (c ≡ a → ⊥) → recoded a b c ≡ c
recoded_off a b c e = rw (ne_eqb c a e)

-- one join of the codes s
module _ (s : List ℕ) (k : ℕ × ℕ) where
  abbrev a : ℕ
  a = get_or s k.0 0

  abbrev b : ℕ
  b = get_or s k.1 0

  abbrev inside : Bool
  inside = both_within (length s) k.0 k.1

  -- what it makes of a code
  abbrev joining : ℕ → ℕ
  joining c = cond inside (recoded a b c) c

  merged_is : merged s k ≡ map joining s
  merged_is = by inside
    where
      by : (t : Bool) → cond t (map (recoded a b) s) s ≡ map (λ c. cond t (recoded a b c) c) s
      by true = refl
      by false = sym (map-id s)

  pub merged_length : length (merged s k) ≡ length s
  merged_length = ap length merged_is ∙ length-map s joining

  merged_at : (i : ℕ) → i < length s → get_or (merged s k) i 0 ≡ joining (get_or s i 0)
  merged_at i h = ap (λ (cs : List ℕ). get_or cs i 0) merged_is ∙ get_or-map joining s i 0 0 h

  recodes : inside ≡ true → (c : ℕ) → joining c ≡ recoded a b c
  recodes t c = rw t

  -- the two joined places have one code
  joined_alike : k.0 < length s → k.1 < length s → joining a ≡ joining b
  joined_alike p q =
      let t : inside ≡ true = and_from (ltb k.0 (length s)) (ltb k.1 (length s)) (lt-ltb k.0 (length s) p) (lt-ltb k.1 (length s) q) in
      recodes t a ∙ recoded_at a b a refl ∙ sym (stays (cases_eq b a)) ∙ sym (recodes t b)
    where
      stays : (b ≡ a) ⊎ (b ≡ a → ⊥) → recoded a b b ≡ b
      stays (inl e) = recoded_at a b b e
      stays (inr e) = recoded_off a b b e

  -- places to which the join gives one code
  module _ (js : List (ℕ × ℕ)) (i j : ℕ) (hi : i < length s) (hj : j < length s) where
    recoded_together : k.0 < length s → k.1 < length s → recoded a b (get_or s i 0) ≡ recoded a b (get_or s j 0) → Together s (k ∷ js) i j
    recoded_together p q e = go (cases_eq (get_or s i 0) a) (cases_eq (get_or s j 0) a)
      where
        joined : Together s (k ∷ js) k.0 k.1
        joined = linked p q here

        go : (get_or s i 0 ≡ a) ⊎ (get_or s i 0 ≡ a → ⊥) → (get_or s j 0 ≡ a) ⊎ (get_or s j 0 ≡ a → ⊥) → Together s (k ∷ js) i j
        go (inl f) (inl g) = alike hi hj (f ∙ sym g)
        go (inl f) (inr g) =
            chain (alike hi p f) (chain joined (alike q hj (sym (recoded_at a b (get_or s i 0) f) ∙ e ∙ recoded_off a b (get_or s j 0) g)))
        go (inr f) (inl g) =
            chain (alike hi q (sym (recoded_off a b (get_or s i 0) f) ∙ e ∙ recoded_at a b (get_or s j 0) g)) (chain (back joined) (alike p hj (sym g)))
        go (inr f) (inr g) = alike hi hj (sym (recoded_off a b (get_or s i 0) f) ∙ e ∙ recoded_off a b (get_or s j 0) g)

    joining_together : joining (get_or s i 0) ≡ joining (get_or s j 0) → Together s (k ∷ js) i j
    joining_together e = go (cases_Bool inside)
      where
        go : (inside ≡ true) ⊎ (inside ≡ false) → Together s (k ∷ js) i j
        go (inl t) =
            let w = and_parts (ltb k.0 (length s)) (ltb k.1 (length s)) t in
            recoded_together (ltb-true k.0 (length s) w.0) (ltb-true k.1 (length s) w.1) (rw t at e)
        go (inr t) = alike hi hj (rw t at e)

  -- what belongs together after the join belongs together with it
  earlier : (js : List (ℕ × ℕ)) {i j : ℕ} → Together (merged s k) js i j → Together s (k ∷ js) i j
  earlier js (alike {i} {j} hi hj e) =
      let n = merged_length in
      let gi : i < length s = omega arith in
      let gj : j < length s = omega arith in
      joining_together js i j gi gj (sym (merged_at i gi) ∙ e ∙ merged_at j gj)
  earlier js (linked {i} {j} hi hj m) =
      let n = merged_length in
      linked (omega arith) (omega arith) (there m)
  earlier js (back t) = back (earlier js t)
  earlier js (chain t u) = chain (earlier js t) (earlier js u)

-- what all joins make of a code
renaming : List ℕ → List (ℕ × ℕ) → ℕ → ℕ
renaming s [] c = c
renaming s (k ∷ js) c = renaming (merged s k) js (joining s k c)

merged_all_is : (s : List ℕ) (js : List (ℕ × ℕ)) → merged_all s js ≡ map (renaming s js) s
unfolding renaming
merged_all_is s [] = sym (map-id s)
merged_all_is s (k ∷ js) =
    let f = renaming (merged s k) js in
    merged_all_is (merged s k) js ∙ ap (map f) (merged_is s k) ∙ map-map f (joining s k) s

pub merged_all_length : (s : List ℕ) (js : List (ℕ × ℕ)) → length (merged_all s js) ≡ length s
merged_all_length s js = ap length (merged_all_is s js) ∙ length-map s (renaming s js)

merged_all_at : (s : List ℕ) (js : List (ℕ × ℕ)) (i : ℕ) → i < length s → get_or (merged_all s js) i 0 ≡ renaming s js (get_or s i 0)
merged_all_at s js i h = ap (λ (cs : List ℕ). get_or cs i 0) (merged_all_is s js) ∙ get_or-map (renaming s js) s i 0 0 h

-- a joined pair gets one code
linked_code : (s : List ℕ) (js : List (ℕ × ℕ)) (i j : ℕ) → i < length s → j < length s → (i, j) ∈ js → renaming s js (get_or s i 0) ≡ renaming s js (get_or s j 0)
unfolding renaming
linked_code s [] i j p q m = absurd (none (i, j) m)
linked_code s (k ∷ js) i j p q here = ap (renaming (merged s (i, j)) js) (joined_alike s (i, j) p q)
linked_code s (k ∷ js) i j p q (there m) =
    let n = merged_length s k in
    let f = renaming (merged s k) js in
    ap f (sym (merged_at s k i p)) ∙ linked_code (merged s k) js i j (omega arith) (omega arith) m ∙ ap f (merged_at s k j q)

together_code : (s : List ℕ) (js : List (ℕ × ℕ)) {i j : ℕ} → Together s js i j → renaming s js (get_or s i 0) ≡ renaming s js (get_or s j 0)
together_code s js (alike p q e) = ap (renaming s js) e
together_code s js (linked {i} {j} p q m) = linked_code s js i j p q m
together_code s js (back t) = sym (together_code s js t)
together_code s js (chain t u) = together_code s js t ∙ together_code s js u

code_together : (s : List ℕ) (js : List (ℕ × ℕ)) (i j : ℕ) → i < length s → j < length s → renaming s js (get_or s i 0) ≡ renaming s js (get_or s j 0) → Together s js i j
unfolding renaming
code_together s [] i j hi hj e = alike hi hj e
code_together s (k ∷ js) i j hi hj e =
    let n = merged_length s k in
    let f = renaming (merged s k) js in
    earlier s k js (code_together (merged s k) js i j (omega arith) (omega arith) (ap f (merged_at s k i hi) ∙ e ∙ ap f (sym (merged_at s k j hj))))

pub classes : Classes
classes s js i j hi hj =
    (λ e. code_together s js i j hi hj (sym (merged_all_at s js i hi) ∙ e ∙ merged_all_at s js j hj), λ t. merged_all_at s js i hi ∙ together_code s js t ∙ sym (merged_all_at s js j hj))

-- places that belong together are places of the list
pub together_within : (s : List ℕ) (js : List (ℕ × ℕ)) {i j : ℕ} → Together s js i j → (i < length s) × (j < length s)
together_within s js (alike p q e) = (p, q)
together_within s js (linked p q m) = (p, q)
together_within s js (back t) = let w = together_within s js t in (w.1, w.0)
together_within s js (chain t u) = ((together_within s js t).0, (together_within s js u).1)
