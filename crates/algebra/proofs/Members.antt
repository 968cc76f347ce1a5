-- Cases of membership and of tests, for helpers to match on; members and places (`member_at`, `place_of`); `any` by places.
use Rattle.std.proofs.Common.{◌≡◌, ℕ, zero, suc, ◌<◌, Bool, true, false, ◌||◌, ◌⊎◌, List, [], ◌∷◌, length, get_or, sym, refl, ap, ◌∙◌, inl, inr, arith}
use Rattle.std.proofs.lemmas.Bool.{or_cases}
use Rattle.algebra.specs.Members.{◌∈◌, here, there, any}

pub out : {A : Type 0} (a b : A) (bs : List A) → a ∈ (b ∷ bs) → (a ≡ b) ⊎ (a ∈ bs)
out a b bs here = inl refl
out a b bs (there h) = inr h

pub none : {A : Type 0} (a : A) → a ∈ [] → ⊥
none a h = elim h [ ]

pub apart : {t : Bool} → t ≡ true → t ≡ false → ⊥
apart g h = grind arith

-- by cases of a test, keeping the equation
pub data Case (t : Bool) : Type 0 where
  holds : t ≡ true → Case t
  fails : t ≡ false → Case t

pub case : (t : Bool) → Case t
case true = holds refl
case false = fails refl

pub agree : (s t : Bool) → (s ≡ true → t ≡ false → ⊥) → (s ≡ false → t ≡ true → ⊥) → s ≡ t
agree true true f g = refl
agree true false f g = absurd (f refl refl)
agree false true f g = absurd (g refl refl)
agree false false f g = refl

-- members stand at places
pub member_at : {A : Type 0} (zs : List A) (i : ℕ) (d : A) → i < length zs → get_or zs i d ∈ zs
member_at [] i d l = absurd (omega arith)
member_at (a ∷ zs) zero d l = here
member_at (a ∷ zs) (suc i) d l = there (member_at zs i d (omega arith))

pub record Place {A : Type 0} (a d : A) (zs : List A) : Type 0 where
  pub at : ℕ
  pub within : at < length zs
  pub is : get_or zs at d ≡ a

pub place_of : {A : Type 0} (a d : A) (zs : List A) → a ∈ zs → Place a d zs
place_of a d [] m = absurd (none a m)
place_of a d (b ∷ zs) here = record { at = 0; within = omega arith; is = refl }
place_of a d (b ∷ zs) (there m) =
    let p = place_of a d zs m in
    record { at = suc p.at; within = omega (arith, p.within); is = p.is }

-- `any` by places, and by members
pub any_none : {A : Type 0} (test : A → Bool) (zs : List A) (d : A) → ((k : ℕ) → k < length zs → test (get_or zs k d) ≡ false) → any test zs ≡ false
any_none test [] d h = refl
any_none test (a ∷ zs) d h = ap (λ t. t || any test zs) (h 0 (omega arith)) ∙ any_none test zs d (λ k l. h (suc k) (omega arith))

pub any_in : {A : Type 0} (test : A → Bool) (zs : List A) (a : A) → a ∈ zs → test a ≡ true → any test zs ≡ true
any_in test [] a m e = absurd (none a m)
any_in test (b ∷ zs) a m e = go (out a b zs m) (λ n. any_in test zs a n e)
  where
    or_right : (s t : Bool) → t ≡ true → (s || t) ≡ true
    or_right s t h = grind arith

    go : (a ≡ b) ⊎ (a ∈ zs) → (a ∈ zs → any test zs ≡ true) → (test b || any test zs) ≡ true
    go (inl q) r = ap (λ t. t || any test zs) (ap test (sym q) ∙ e)
    go (inr n) r = or_right (test b) (any test zs) (r n)

pub none_in : {A : Type 0} (test : A → Bool) (zs : List A) → any test zs ≡ false → (a : A) → a ∈ zs → test a ≡ false
none_in test zs e a m = go (case (test a))
  where
    go : Case (test a) → test a ≡ false
    go (holds h) = absurd (apart (any_in test zs a m h) e)
    go (fails h) = h

pub record Passing {A : Type 0} (test : A → Bool) (zs : List A) : Type 0 where
  pub one : A
  pub member : one ∈ zs
  pub passes : test one ≡ true

pub any_passes : {A : Type 0} (test : A → Bool) (zs : List A) → any test zs ≡ true → Passing test zs
any_passes test [] e = absurd (apart e refl)
any_passes {A} test (a ∷ zs) e = go (or_cases (test a) (any test zs) e) (any_passes test zs)
  where
    go : (test a ≡ true) ⊎ (any test zs ≡ true) → (any test zs ≡ true → Passing test zs) → Passing test (a ∷ zs)
    go (inl h) r = record { one = a; member = here; passes = h }
    go (inr h) r = let p = r h in record { one = p.one; member = there p.member; passes = p.passes }
