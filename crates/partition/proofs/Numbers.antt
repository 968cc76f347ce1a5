-- Numbers by first place: one code more (`count_new`, `number_new`, `count_old`), and codes renamed.
use Rattle.std.proofs.Common.{◌≡◌, ℕ, suc, ◌+◌, ◌<◌, Bool, true, false, cond, ◌||◌, eqb, ltb, ◌⊎◌, List, [], ◌∷◌, ◌++◌, map, length, get_or, take, fold, sym, refl, ap, ◌∙◌, inl, inr, arith, length-append}
use Rattle.std.specs.List.{AllByRecursion}
use Rattle.std.proofs.ByRecursion.{All-push, All-from_get_or}
use Rattle.std.proofs.lemmas.List.{length-map, get_or-map, map_push}
use Rattle.std.proofs.lemmas.List.Sums.{fold_more}
use Rattle.std.proofs.lemmas.Bool.{eq-eqb, ne_eqb, cases_eq, lt-ltb, le-ltb}
use Rattle.partition.specs.Numbers.{has, place_of, noted, distinct, count_of, number_of, OwnFirsts}
use Rattle.partition.proofs.Places.{place_hit, stands_at, has_take, has_distinct, place_in_front, place_new}

-- one code more
module _ (cs : List ℕ) (i : ℕ) (lt : i < length cs) where
  abbrev front : List ℕ
  front = distinct (take i cs)

  abbrev here_code : ℕ
  here_code = get_or cs i 0

  more : distinct (take (i + 1) cs) ≡ noted front here_code
  more = fold_more noted [] cs i 0 lt

  known : has front here_code ≡ ltb (place_of cs here_code) i
  known = has_distinct (take i cs) here_code ∙ has_take cs i here_code (omega arith)

  -- a code that stands here first
  module _ (first : place_of cs here_code ≡ i) where
    new : has front here_code ≡ false
    new = known ∙ le-ltb (place_of cs here_code) i (omega arith)

    appended : distinct (take (i + 1) cs) ≡ front ++ (here_code ∷ [])
    appended = more ∙ rw new

    pub count_new : count_of (take (i + 1) cs) ≡ count_of (take i cs) + 1
    count_new = ap length appended ∙ length-append front (here_code ∷ [])

    pub number_new : number_of cs here_code ≡ count_of (take i cs) + 1
    number_new =
        let stands : has (take (i + 1) cs) here_code ≡ true = has_take cs (i + 1) here_code (omega arith) ∙ lt-ltb (place_of cs here_code) (i + 1) (omega arith) in
        let all = place_in_front cs (i + 1) here_code stands in
        let at = ap (λ (ds : List ℕ). place_of ds here_code) appended ∙ place_new front here_code new in
        omega arith

  -- a code that stood before
  pub count_old : place_of cs here_code < i → count_of (take (i + 1) cs) ≡ count_of (take i cs)
  count_old before =
      let old : has front here_code ≡ true = known ∙ lt-ltb (place_of cs here_code) i before in
      ap length (more ∙ rw old)

-- f tells the codes apart that P holds of
module _ (f : ℕ → ℕ) (P : ℕ → Type 0) (apart : (a b : ℕ) → P a → P b → eqb (f a) (f b) ≡ eqb a b) where
  has_renamed : (ds : List ℕ) (c : ℕ) → AllByRecursion P ds → P c → has (map f ds) (f c) ≡ has ds c
  has_renamed [] c a p = refl
  has_renamed (d ∷ ds) c a p = λ i. apart d c a.0 p i || has_renamed ds c a.1 p i

  place_renamed : (ds : List ℕ) (c : ℕ) → AllByRecursion P ds → P c → place_of (map f ds) (f c) ≡ place_of ds c
  place_renamed [] c a p = refl
  place_renamed (d ∷ ds) c a p = λ i. cond (apart d c a.0 p i) 0 (suc (place_renamed ds c a.1 p i))

  noted_all : (ds : List ℕ) (c : ℕ) → AllByRecursion P ds → P c → AllByRecursion P (noted ds c)
  noted_all ds c a p = by (has ds c)
    where
      by : (b : Bool) → AllByRecursion P (cond b ds (ds ++ (c ∷ [])))
      by true = a
      by false = All-push P ds c a p

  noted_renamed : (ds : List ℕ) (c : ℕ) → AllByRecursion P ds → P c → noted (map f ds) (f c) ≡ map f (noted ds c)
  noted_renamed ds c a p = (λ i. cond (has_renamed ds c a p i) (map f ds) (map f ds ++ (f c ∷ []))) ∙ by (has ds c)
    where
      by : (b : Bool) → cond b (map f ds) (map f ds ++ (f c ∷ [])) ≡ map f (cond b ds (ds ++ (c ∷ [])))
      by true = refl
      by false = sym (map_push f ds c)

  folded_renamed : (cs seen : List ℕ) → AllByRecursion P cs → AllByRecursion P seen → fold noted (map f seen) (map f cs) ≡ map f (fold noted seen cs)
  folded_renamed [] seen a b = refl
  folded_renamed (c ∷ cs) seen a b =
      ap (λ (s : List ℕ). fold noted s (map f cs)) (noted_renamed seen c b a.0) ∙ folded_renamed cs (noted seen c) a.1 (noted_all seen c b a.0)

  folded_all : (cs seen : List ℕ) → AllByRecursion P cs → AllByRecursion P seen → AllByRecursion P (fold noted seen cs)
  folded_all [] seen a b = b
  folded_all (c ∷ cs) seen a b = folded_all cs (noted seen c) a.1 (noted_all seen c b a.0)

  distinct_renamed : (cs : List ℕ) → AllByRecursion P cs → distinct (map f cs) ≡ map f (distinct cs)
  distinct_renamed cs a = folded_renamed cs [] a tt

  number_renamed : (cs : List ℕ) (c : ℕ) → AllByRecursion P cs → P c → number_of (map f cs) (f c) ≡ number_of cs c
  number_renamed cs c a p = ap (λ (ds : List ℕ). suc (place_of ds (f c))) (distinct_renamed cs a) ∙ ap suc (place_renamed (distinct cs) c (folded_all cs [] a tt) p)

-- codes renamed to their first places keep their numbers
module _ (cs : List ℕ) where
  abbrev Stands : ℕ → Type 0
  Stands c = place_of cs c < length cs

  places_apart : (a b : ℕ) → Stands a → Stands b → eqb (place_of cs a) (place_of cs b) ≡ eqb a b
  places_apart a b p q = go (cases_eq a b)
    where
      go : (a ≡ b) ⊎ (a ≡ b → ⊥) → eqb (place_of cs a) (place_of cs b) ≡ eqb a b
      go (inl e) = eq-eqb (place_of cs a) (place_of cs b) (ap (place_of cs) e) ∙ sym (eq-eqb a b e)
      go (inr e) =
          ne_eqb (place_of cs a) (place_of cs b) (λ h. e (sym (place_hit cs a p) ∙ ap (λ k. get_or cs k 0) h ∙ place_hit cs b q)) ∙ sym (ne_eqb a b e)

  all : AllByRecursion Stands cs
  all = All-from_get_or Stands cs 0 (stands_at cs)

  pub numbers_same : (k : ℕ) → k < length cs → number_of (map (place_of cs) cs) (place_of cs (get_or cs k 0)) ≡ number_of cs (get_or cs k 0)
  numbers_same k h = number_renamed (place_of cs) Stands places_apart cs (get_or cs k 0) all (stands_at cs k h)

  pub count_same : count_of (map (place_of cs) cs) ≡ count_of cs
  count_same = ap length (distinct_renamed (place_of cs) Stands places_apart cs all) ∙ length-map (distinct cs) (place_of cs)

  pub firsts_own : OwnFirsts (map (place_of cs) cs)
  firsts_own k h =
      let l : k < length cs = omega (arith, length-map cs (place_of cs)) in
      let at = get_or-map (place_of cs) cs k 0 0 l in
      ap (place_of (map (place_of cs) cs)) at ∙ place_renamed (place_of cs) Stands places_apart cs (get_or cs k 0) all (stands_at cs k l) ∙ sym at
