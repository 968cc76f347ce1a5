-- Sums modulo 2 over a list. The main lemma is `even_counts`.
use Rattle.std.proofs.Common.{◌≡◌, ℕ, zero, suc, ◌+◌, ◌<◌, ◌≤◌, Bool, true, false, cond, not, ◌&&◌, List, [], ◌∷◌, length, get_or, take, Decides, sym, refl, ap, ◌∙◌, ap₂, add-one, arith}
use Rattle.algebra.specs.Members.{◌∈◌, here, there}
use Rattle.algebra.specs.Parity.{differ, odd, times, odd_times, OddCounts, EvenCounts}
use Rattle.algebra.proofs.Members.{apart}

pub differ_self : (t : Bool) → differ t t ≡ false
differ_self true = refl
differ_self false = refl

pub differ_false : (s t : Bool) → differ s t ≡ false → s ≡ t
differ_false s t e = grind arith

pub pairs : (s t u v : Bool) → differ (differ s t) (differ u v) ≡ differ (differ s u) (differ t v)
pairs s t u v = grind arith

pub odd_same : {A : Type 0} (f g : A → Bool) (zs : List A) → ((a : A) → a ∈ zs → f a ≡ g a) → odd_times f zs ≡ odd_times g zs
odd_same f g [] h = refl
odd_same f g (a ∷ zs) h = ap₂ differ (h a here) (odd_same f g zs (λ b i. h b (there i)))

pub odd_differ : {A : Type 0} (f g : A → Bool) (zs : List A) → odd_times (λ a. differ (f a) (g a)) zs ≡ differ (odd_times f zs) (odd_times g zs)
odd_differ f g [] = refl
odd_differ f g (a ∷ zs) = ap (differ (differ (f a) (g a))) (odd_differ f g zs) ∙ pairs (f a) (g a) (odd_times f zs) (odd_times g zs)

pub odd_none : {A : Type 0} (f : A → Bool) (zs : List A) → ((a : A) → a ∈ zs → f a ≡ false) → odd_times f zs ≡ false
odd_none f [] h = refl
odd_none f (a ∷ zs) h = ap₂ differ (h a here) (odd_none f zs (λ b i. h b (there i)))

odd_next : (n : ℕ) → odd (suc n) ≡ not (odd n)
odd_next n = grind arith

pub odd_counts : (A : Type 0) → OddCounts A
odd_counts A f [] = refl
odd_counts A f (a ∷ zs) = by (f a) (odd_counts A f zs)
  where
    by : (t : Bool) → odd_times f zs ≡ odd (times f zs) → differ t (odd_times f zs) ≡ odd (cond t (suc (times f zs)) (times f zs))
    by true h = ap not h ∙ sym (odd_next (times f zs))
    by false h = h

-- one more thing counted
times_suc : {A : Type 0} (f : A → Bool) (zs : List A) (i : ℕ) (d : A) → i < length zs → times f (take (suc i) zs) ≡ cond (f (get_or zs i d)) (suc (times f (take i zs))) (times f (take i zs))
times_suc f [] i d l = absurd (omega arith)
times_suc f (a ∷ zs) zero d l = refl
times_suc f (a ∷ zs) (suc i) d l = by (f a) (f (get_or zs i d)) (times f (take (suc i) zs)) (times f (take i zs)) (times_suc f zs i d (omega arith))
  where
    by : (s t : Bool) (m n : ℕ) → m ≡ cond t (suc n) n → cond s (suc m) m ≡ cond t (suc (cond s (suc n) n)) (cond s (suc n) n)
    by true true m n e = ap suc e
    by true false m n e = ap suc e
    by false true m n e = e
    by false false m n e = e

pub times_more : {A : Type 0} (f : A → Bool) (zs : List A) (i : ℕ) (d : A) → i < length zs → times f (take (i + 1) zs) ≡ cond (f (get_or zs i d)) (suc (times f (take i zs))) (times f (take i zs))
times_more f zs i d l = rw (add-one i) (times_suc f zs i d l)

pub odd_more : (n : ℕ) → not (odd n) ≡ odd (suc n)
odd_more n = sym (odd_next n)

pub times_none : {A : Type 0} (f : A → Bool) (zs : List A) → ((a : A) → a ∈ zs → f a ≡ false) → times f zs ≡ 0
times_none f [] h = refl
times_none f (a ∷ zs) h = ap (λ t. cond t (suc (times f zs)) (times f zs)) (h a here) ∙ times_none f zs (λ b m. h b (there m))

-- taking out all copies of one thing
module _ (A : Type 0) (same : A → A → Bool) (tells : (a b : A) → Decides (same a b) (a ≡ b)) where
  keep : Bool → A → List A → List A
  keep true y ys = ys
  keep false y ys = y ∷ ys

  without : A → List A → List A
  without x [] = []
  without x (y ∷ ys) = keep (same x y) y (without x ys)

  shorter : (x : A) (ys : List A) → length (without x ys) ≤ length ys
  unfolding without keep
  shorter x [] = omega arith
  shorter x (y ∷ ys) = by (same x y) (shorter x ys)
    where
      by : (t : Bool) → length (without x ys) ≤ length ys → length (keep t y (without x ys)) ≤ suc (length ys)
      by true h = omega arith
      by false h = omega arith

  take_out : (f : A → Bool) (x : A) (ys : List A) → odd_times f ys ≡ differ (f x && odd_times (same x) ys) (odd_times f (without x ys))
  unfolding without keep
  take_out f x [] = nothing (f x)
    where
      nothing : (t : Bool) → false ≡ differ (t && false) false
      nothing t = grind arith
  take_out f x (y ∷ ys) = by (same x y) refl (take_out f x ys)
    where
      copy : (a b o r w : Bool) → a ≡ b → r ≡ differ (a && o) w → differ b r ≡ differ (a && not o) w
      copy a b o r w e h = grind arith

      other : (a b o r w : Bool) → r ≡ differ (a && o) w → differ b r ≡ differ (a && o) (differ b w)
      other a b o r w h = grind arith

      by : (t : Bool) → same x y ≡ t → odd_times f ys ≡ differ (f x && odd_times (same x) ys) (odd_times f (without x ys)) → differ (f y) (odd_times f ys) ≡ differ (f x && differ t (odd_times (same x) ys)) (odd_times f (keep t y (without x ys)))
      by true e h = copy (f x) (f y) (odd_times (same x) ys) (odd_times f ys) (odd_times f (without x ys)) (ap f ((tells x y).0 e)) h
      by false e h = other (f x) (f y) (odd_times (same x) ys) (odd_times f ys) (odd_times f (without x ys)) h

  even_by : (n : ℕ) (f : A → Bool) (xs : List A) → length xs ≤ n → ((v : A) → odd_times (same v) xs ≡ false) → odd_times f xs ≡ false
  unfolding without keep
  even_by n f [] b h = refl
  even_by zero f (x ∷ xs) b h = absurd (omega arith)
  even_by (suc n) f (x ∷ xs) b h =
      let zs : List A = without x (x ∷ xs) in
      let short : length zs ≤ n = fewer (same x x) ((tells x x).1 refl) in
      let drop : (g : A → Bool) → odd_times g (x ∷ xs) ≡ odd_times g zs = λ g. take_out g x (x ∷ xs) ∙ gone (g x) (odd_times (same x) (x ∷ xs)) (odd_times g zs) (h x) in
      drop f ∙ even_by n f zs short (λ v. sym (drop (same v)) ∙ h v)
    where
      gone : (a o w : Bool) → o ≡ false → differ (a && o) w ≡ w
      gone a o w e = grind arith

      fewer : (t : Bool) → t ≡ true → length (keep t x (without x xs)) ≤ n
      fewer true e = omega (arith, shorter x xs)
      fewer false e = absurd (apart e refl)

pub even_counts : (A : Type 0) → EvenCounts A
even_counts A same tells zs h f = even_by A same tells (length zs) f zs (omega arith) h
