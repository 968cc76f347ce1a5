-- There is no other numbering by first place: two numberings of one list agree (`one_numbering`).
use Rattle.std.proofs.Common.{◌≡◌, ℕ, zero, suc, ◌<◌, ◌≤◌, ◌⊎◌, List, length, get_or, sym, ap, ◌∙◌, subst, inl, inr, arith}
use Rattle.std.proofs.lemmas.List.{ext_get_or}
use Rattle.std.proofs.lemmas.Bool.{cases_lt, cases_order}
use Rattle.algebra.proofs.Members as members
use Rattle.partition.specs.Numbers.{place_of, First, Numbered, numbered, count_of}
use Rattle.partition.specs.Theorems.{OneNumbering}
use Rattle.partition.proofs.Places.{place_le, stands_at, first_code, first_is_first}
use Rattle.partition.proofs.Meaning.{numbers_codes}

-- every smaller number stands before a place where a new one stands
module _ (cs ns : List ℕ) (n : ℕ) (is : Numbered cs ns n) where
  smaller_before : (j m : ℕ) → j < length cs → First cs j → 1 ≤ m → m < get_or ns j 0 → (q : ℕ) × (q < j) × (get_or ns q 0 ≡ m)
  smaller_before j m l first low less =
      let p = members.place_of m 0 ns (is.no_gaps m low (omega (arith, (is.within j l).1))) in
      let i = p.at in
      let h : i < length cs = omega (arith, p.within, is.for_each) in
      let q = place_of cs (get_or cs i 0) in
      let same : get_or ns q 0 ≡ m = (is.tells q i (stands_at cs i h) h).1 (first_code cs i h) ∙ p.is in
      go q (stands_at cs i h) (first_is_first cs i h) same (cases_order q j)
    where
      go : (q : ℕ) → q < length cs → First cs q → get_or ns q 0 ≡ m → (q ≡ j) ⊎ ((q < j) ⊎ (j < q)) → (q : ℕ) × (q < j) × (get_or ns q 0 ≡ m)
      go q h f e (inl s) = absurd (omega (arith, ap (λ k. get_or ns k 0) s))
      go q h f e (inr (inl s)) = (q, s, e)
      go q h f e (inr (inr s)) = absurd (omega (arith, is.rising j q s h f))

-- two numberings that agree before place j, where a new class stands
not_less : (cs ns ms : List ℕ) (n m : ℕ) → Numbered cs ns n → Numbered cs ms m → (j : ℕ) → j < length cs → First cs j → ((k : ℕ) → k < j → get_or ns k 0 ≡ get_or ms k 0) → get_or ns j 0 < get_or ms j 0 → ⊥
not_less cs ns ms n m is other j l first agree less =
    let q = smaller_before cs ms m other j (get_or ns j 0) l first (is.within j l).0 less in
    omega (arith, is.rising q.0 j q.1 l first, agree q.0 q.1, q.2)

module _ (cs ns ms : List ℕ) (n m : ℕ) (is : Numbered cs ns n) (other : Numbered cs ms m) where
  same_below : (b j : ℕ) → j < b → j < length cs → get_or ns j 0 ≡ get_or ms j 0
  same_below zero j l h = absurd (omega arith)
  same_below (suc b) j l h = go (cases_lt (place_of cs (get_or cs j 0)) j) (λ k s. same_below b k (omega arith) (omega arith))
    where
      p : ℕ
      p = place_of cs (get_or cs j 0)

      go : (p < j) ⊎ (j ≤ p) → ((k : ℕ) → k < j → get_or ns k 0 ≡ get_or ms k 0) → get_or ns j 0 ≡ get_or ms j 0
      go (inl s) agree =
          let code = sym (first_code cs j h) in
          (is.tells j p h (stands_at cs j h)).1 code ∙ agree p s ∙ sym ((other.tells j p h (stands_at cs j h)).1 code)
      go (inr s) agree = by (cases_order (get_or ns j 0) (get_or ms j 0))
        where
          first : First cs j
          first = let e : p ≡ j = omega (arith, place_le cs j h) in subst (First cs) e (first_is_first cs j h)

          by : (get_or ns j 0 ≡ get_or ms j 0) ⊎ ((get_or ns j 0 < get_or ms j 0) ⊎ (get_or ms j 0 < get_or ns j 0)) → get_or ns j 0 ≡ get_or ms j 0
          by (inl e) = e
          by (inr (inl less)) = absurd (not_less cs ns ms n m is other j h first agree less)
          by (inr (inr less)) = absurd (not_less cs ms ns m n other is j h first (λ k t. sym (agree k t)) less)

  same_numbers : ns ≡ ms
  same_numbers =
      ext_get_or 0 ns ms (is.for_each ∙ sym other.for_each) (λ j l. same_below (suc j) j (omega arith) (omega (arith, is.for_each)))

-- the greatest number stands somewhere
count_le : (cs ns ms : List ℕ) (n m : ℕ) → Numbered cs ns n → Numbered cs ms m → ns ≡ ms → n ≤ m
count_le cs ns ms zero m is other e = omega arith
count_le cs ns ms (suc n) m is other e =
    let p = members.place_of (suc n) 0 ns (is.no_gaps (suc n) (omega arith) (omega arith)) in
    let l : p.at < length cs = omega (arith, p.within, is.for_each) in
    omega (arith, (other.within p.at l).1, ap (λ (xs : List ℕ). get_or xs p.at 0) e, p.is)

pub one_numbering : OneNumbering
one_numbering cs ns n is =
    let known = numbers_codes cs in
    let same = same_numbers cs ns (numbered cs) n (count_of cs) is known in
    (same, omega (arith, count_le cs ns (numbered cs) n (count_of cs) is known same, count_le cs (numbered cs) ns (count_of cs) n known is (sym same)))
