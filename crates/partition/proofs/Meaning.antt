-- What numbers mean: each code is listed once, and its place in that list makes a numbering (`numbers_codes`).
use Rattle.std.proofs.Common.{◌≡◌, ℕ, zero, suc, ◌<◌, ◌≤◌, true, false, ◌||◌, eqb, ◌⊎◌, List, [], ◌∷◌, ◌++◌, map, length, get_or, take, fold, sym, refl, ap, ◌∙◌, subst, inl, inr, arith}
use Rattle.std.proofs.lemmas.List.{length-map, get_or-map}
use Rattle.std.proofs.lemmas.Bool.{eq-eqb, ne_eqb, eqb-true, ltb-true, lt-ltb, cases_Bool, or_cases}
use Rattle.algebra.specs.Members.{◌∈◌, here, there, Once}
use Rattle.algebra.proofs.Members.{none, apart, member_at, any_in, any_passes}
use Rattle.partition.specs.Codes.{merged_all}
use Rattle.partition.specs.Numbers.{has, place_of, noted, distinct, count_of, number_of, numbered, First}
use Rattle.partition.specs.Theorems.{NumbersCodes, CountsEarlier, EachCodeOnce, JoinsNumbered}
use Rattle.partition.proofs.Classes.{classes, merged_all_length}
use Rattle.partition.proofs.Places.{place_le, place_hit, place_first, stands_at, first_code, has_take, has_place, has_push, has_distinct, place_in_front}
use Rattle.partition.proofs.Numbers.{number_new}

-- members, and the test for them
has_member : (cs : List ℕ) (c : ℕ) → has cs c ≡ true → c ∈ cs
has_member cs c h =
    let p = any_passes (λ d. eqb d c) cs h in
    subst (λ d. d ∈ cs) (eqb-true p.one c p.passes) p.member

member_has : (cs : List ℕ) (c : ℕ) → c ∈ cs → has cs c ≡ true
member_has cs c m = any_in (λ d. eqb d c) cs c m (eq-eqb c c refl)

map_member : (f : ℕ → ℕ) (cs : List ℕ) (c : ℕ) → c ∈ cs → f c ∈ map f cs
map_member f [] c m = absurd (none c m)
map_member f (d ∷ cs) c here = here
map_member f (d ∷ cs) c (there m) = there (map_member f cs c m)

-- a list with nothing twice
once_push : (ds : List ℕ) (c : ℕ) → Once ds → has ds c ≡ false → Once (ds ++ (c ∷ []))
once_push [] c o n = (none c, tt)
once_push (d ∷ ds) c o n = (λ m. twice (or_cases (has ds d) (eqb c d) (sym (has_push ds c d) ∙ member_has (ds ++ (c ∷ [])) d m)), once_push ds c o.1 (later n))
  where
    later : has (d ∷ ds) c ≡ false → has ds c ≡ false
    later h = grind arith

    twice : (has ds d ≡ true) ⊎ (eqb c d ≡ true) → ⊥
    twice (inl h) = o.0 (has_member ds d h)
    twice (inr e) = apart (ap (λ t. t || has ds c) (eq-eqb d c (sym (eqb-true c d e)))) n

once_place : (ds : List ℕ) → Once ds → (k : ℕ) → k < length ds → place_of ds (get_or ds k 0) ≡ k
once_place [] o k l = absurd (omega arith)
once_place (d ∷ ds) o zero l = rw (eq-eqb d d refl)
once_place (d ∷ ds) o (suc k) l =
    let m = member_at ds k 0 (omega arith) in
    rw (ne_eqb d (get_or ds k 0) (λ e. o.0 (subst (λ x. x ∈ ds) (sym e) m))) (ap suc (once_place ds o.1 k (omega arith)))

folded_once : (cs seen : List ℕ) → Once seen → Once (fold noted seen cs)
folded_once [] seen o = o
folded_once (c ∷ cs) seen o = folded_once cs (noted seen c) (go (cases_Bool (has seen c)))
  where
    go : (has seen c ≡ true) ⊎ (has seen c ≡ false) → Once (noted seen c)
    go (inl h) = rw h o
    go (inr h) = rw h (once_push seen c o h)

pub each_code_once : EachCodeOnce
each_code_once cs =
    record {
      once = folded_once cs [] tt;
      same = λ c. (λ m. has_member cs c (sym (has_distinct cs c) ∙ member_has (distinct cs) c m), λ m. has_member (distinct cs) c (has_distinct cs c ∙ member_has cs c m));
    }

-- a code stands in the list of each code once
listed : (cs : List ℕ) (c : ℕ) → has cs c ≡ true → place_of (distinct cs) c < count_of cs
listed cs c h = ltb-true (place_of (distinct cs) c) (count_of cs) (sym (has_place (distinct cs) c) ∙ has_distinct cs c ∙ h)

module _ (cs : List ℕ) where
  abbrev ds : List ℕ
  ds = distinct cs

  number_at : (i : ℕ) → i < length cs → get_or (numbered cs) i 0 ≡ number_of cs (get_or cs i 0)
  number_at i l = get_or-map (number_of cs) cs i 0 0 l

  listed_at : (i : ℕ) → i < length cs → place_of ds (get_or cs i 0) < count_of cs
  listed_at i l = listed cs (get_or cs i 0) (member_has cs (get_or cs i 0) (member_at cs i 0 l))

  one_code : (i j : ℕ) → i < length cs → j < length cs → get_or (numbered cs) i 0 ≡ get_or (numbered cs) j 0 → get_or cs i 0 ≡ get_or cs j 0
  one_code i j p q e =
      let same : place_of ds (get_or cs i 0) ≡ place_of ds (get_or cs j 0) = omega (arith, number_at i p, number_at j q) in
      sym (place_hit ds (get_or cs i 0) (listed_at i p)) ∙ ap (λ k. get_or ds k 0) same ∙ place_hit ds (get_or cs j 0) (listed_at j q)

  each_number : (m : ℕ) → 1 ≤ m → m ≤ count_of cs → m ∈ numbered cs
  each_number zero l h = absurd (omega arith)
  each_number (suc k) l h =
      let c = get_or ds k 0 in
      let m = ((each_code_once cs).same c).0 (member_at ds k 0 (omega arith)) in
      let is : number_of cs c ≡ suc k = ap suc (once_place ds (each_code_once cs).once k (omega arith)) in
      subst (λ n. n ∈ numbered cs) is (map_member (number_of cs) cs c m)

  -- a code before place j is listed among those before j
  rises : (i j : ℕ) → i < j → j < length cs → First cs j → number_of cs (get_or cs i 0) < number_of cs (get_or cs j 0)
  rises i j l q first =
      let c = get_or cs i 0 in
      let new = number_new cs j q (place_first cs (get_or cs j 0) j q refl first) in
      let le = place_le cs i (omega arith) in
      let before : has (take j cs) c ≡ true = has_take cs j c (omega arith) ∙ lt-ltb (place_of cs c) j (omega arith) in
      omega (arith, place_in_front cs j c before, listed (take j cs) c before)

pub numbers_codes : NumbersCodes
numbers_codes cs =
    record {
      for_each = length-map cs (number_of cs);
      tells = λ i j p q. (one_code cs i j p q, λ e. number_at cs i p ∙ ap (number_of cs) e ∙ sym (number_at cs j q));
      within = λ i p. (omega (arith, number_at cs i p), omega (arith, number_at cs i p, listed_at cs i p));
      no_gaps = each_number cs;
      rising = λ i j l q first. omega (arith, number_at cs i (omega arith), number_at cs j q, rises cs i j l q first);
    }

pub counts_earlier : CountsEarlier
counts_earlier cs i l =
    let c = get_or cs i 0 in
    let same = first_code cs i l in
    let new = number_new cs (place_of cs c) (stands_at cs i l) (ap (place_of cs) same) in
    let is : get_or (numbered cs) i 0 ≡ number_of cs (get_or cs (place_of cs c) 0) = number_at cs i l ∙ ap (number_of cs) (sym same) in
    omega arith

pub joins_numbered : JoinsNumbered
joins_numbered start joins i j p q =
    let cs = merged_all start joins in
    let n = merged_all_length start joins in
    let t = (numbers_codes cs).tells i j (omega arith) (omega arith) in
    let k = classes start joins i j p q in
    (λ e. k.0 (t.0 e), λ r. t.1 (k.1 r))
