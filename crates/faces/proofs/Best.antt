-- The `best` of the members of a list that pass a test; and tests and orders that agree have one highest segment, `highest_alike`.
use Rattle.std.proofs.Common.{◌≡◌, Bool, true, false, cond, ◌⊎◌, List, [], ◌∷◌, Some, filter, sym, refl, ap, ◌∙◌, subst, inl, inr}
use Rattle.std.specs.List.{best_of}
use Rattle.algebra.specs.Members.{◌∈◌, here, there}
use Rattle.algebra.proofs.Members.{out, none, apart}
use Rattle.algebra.proofs.Counts.{Kept, kept_in, kept_out}
use Rattle.plane.specs.declared.segment.Segment.{Segment}
use Rattle.faces.specs.Below.{highest}

pub refuted : (t : Bool) → (t ≡ true → ⊥) → t ≡ false
refuted true h = absurd (h refl)
refuted false h = refl

skip : {A : Type 0} (a x b : A) (zs : List A) → b ∈ (a ∷ zs) → b ∈ (a ∷ (x ∷ zs))
skip a x b zs i = by (out b a zs i)
  where
    by : (b ≡ a) ⊎ (b ∈ zs) → b ∈ (a ∷ (x ∷ zs))
    by (inl e) = subst (λ z. b ∈ (z ∷ (x ∷ zs))) e here
    by (inr j) = there (there j)

-- `beats` is an order of the things with P
module _ {A : Type 0} (beats : A → A → Bool) (P : A → Type 0) (never_self : (a : A) → beats a a ≡ false) (onward : (a b c : A) → P a → P b → P c → beats a b ≡ true → beats b c ≡ true → beats a c ≡ true) where
  best_in : (a : A) (zs : List A) → best_of beats a zs ∈ (a ∷ zs)
  best_in a [] = here
  best_in a (x ∷ zs) = go (λ b. best_in b zs) (beats x a)
    where
      go : ((b : A) → best_of beats b zs ∈ (b ∷ zs)) → (t : Bool) → best_of beats (cond t x a) zs ∈ (a ∷ (x ∷ zs))
      go r true = there (r x)
      go r false = skip a x (best_of beats a zs) zs (r a)

  -- what does not beat the start does not beat the best
  start : (m a : A) (zs : List A) → P m → P a → ((b : A) → b ∈ zs → P b) → beats m a ≡ false → beats m (best_of beats a zs) ≡ false
  start m a [] pm pa ps e = e
  start m a (x ∷ zs) pm pa ps e = go (λ b pb h. start m b zs pm pb (λ c i. ps c (there i)) h) (beats x a) refl
    where
      go : ((b : A) → P b → beats m b ≡ false → beats m (best_of beats b zs) ≡ false) → (t : Bool) → beats x a ≡ t → beats m (best_of beats (cond t x a) zs) ≡ false
      go r true h = r x (ps x here) (refuted (beats m x) (λ g. apart (onward m x a pm (ps x here) pa g h) e))
      go r false h = r a pa e

  later : (m a : A) (zs : List A) → P a → ((b : A) → b ∈ zs → P b) → m ∈ zs → beats m (best_of beats a zs) ≡ false
  later m a [] pa ps j = absurd (none m j)
  later m a (x ∷ zs) pa ps j = go (λ b pb. later m b zs pb (λ c i. ps c (there i))) (beats x a) refl (out m x zs j)
    where
      go : ((b : A) → P b → m ∈ zs → beats m (best_of beats b zs) ≡ false) → (t : Bool) → beats x a ≡ t → (m ≡ x) ⊎ (m ∈ zs) → beats m (best_of beats (cond t x a) zs) ≡ false
      go r true h (inl e) = subst (λ z. beats z (best_of beats x zs) ≡ false) (sym e) (start x x zs (ps x here) (ps x here) (λ b i. ps b (there i)) (never_self x))
      go r false h (inl e) = subst (λ z. beats z (best_of beats a zs) ≡ false) (sym e) (start x a zs (ps x here) pa (λ b i. ps b (there i)) h)
      go r true h (inr k) = r x (ps x here) k
      go r false h (inr k) = r a pa k

  best_of_all : (a : A) (zs : List A) → P a → ((b : A) → b ∈ zs → P b) → (m : A) → m ∈ (a ∷ zs) → beats m (best_of beats a zs) ≡ false
  best_of_all a zs pa ps m i = go (out m a zs i)
    where
      go : (m ≡ a) ⊎ (m ∈ zs) → beats m (best_of beats a zs) ≡ false
      go (inl e) = subst (λ z. beats z (best_of beats a zs) ≡ false) (sym e) (start a a zs pa pa ps (never_self a))
      go (inr j) = later m a zs pa ps j

-- the best of the members that pass the test f
pub record Best {A : Type 0} (f : A → Bool) (beats : A → A → Bool) (zs : List A) : Type 0 where
  pub first : A
  pub others : List A
  pub kept : filter f zs ≡ first ∷ others
  pub one : A
  pub is : best_of beats first others ≡ one
  pub member : one ∈ zs
  pub passes : f one ≡ true
  pub unbeaten : (a : A) → a ∈ zs → f a ≡ true → beats a one ≡ false

pub best : {A : Type 0} (f : A → Bool) (beats : A → A → Bool) (zs : List A) (P : A → Type 0) → ((a : A) → beats a a ≡ false) → ((a b c : A) → P a → P b → P c → beats a b ≡ true → beats b c ≡ true → beats a c ≡ true) → ((a : A) → a ∈ zs → f a ≡ true → P a) → ¬ (filter f zs ≡ []) → Best f beats zs
best {A} f beats zs P never_self onward holds_P some = go (filter f zs) refl
  where
    go : (ks : List A) → filter f zs ≡ ks → Best f beats zs
    go [] q = absurd (some q)
    go (k ∷ ks) q =
        let from : (a : A) → a ∈ (k ∷ ks) → Kept f zs a = λ a i. kept_out f zs a (subst (λ z. a ∈ z) (sym q) i) in
        let P_of : (a : A) → a ∈ (k ∷ ks) → P a = λ a i. holds_P a (from a i).member (from a i).passes in
        let top : Kept f zs (best_of beats k ks) = from (best_of beats k ks) (best_in beats P never_self onward k ks) in
        record {
          first = k;
          others = ks;
          kept = q;
          one = best_of beats k ks;
          is = refl;
          member = top.member;
          passes = top.passes;
          unbeaten = λ a i h. best_of_all beats P never_self onward k ks (P_of k here) (λ b j. P_of b (there j)) a (subst (λ z. a ∈ z) q (kept_in f zs a i h));
        }

pub highest_is : (f : Segment → Bool) (higher : Segment → Segment → Bool) (ls : List Segment) (b : Best f higher ls) → highest higher (filter f ls) ≡ Some b.one
highest_is f higher ls b = ap (highest higher) b.kept ∙ ap Some b.is

-- tests and orders that agree
pub kept_same : {A : Type 0} (f g : A → Bool) (zs : List A) → ((a : A) → a ∈ zs → f a ≡ g a) → filter f zs ≡ filter g zs
kept_same f g [] h = refl
kept_same f g (x ∷ zs) h = λ i. cond (h x here i) (x ∷ kept_same f g zs (λ a j. h a (there j)) i) (kept_same f g zs (λ a j. h a (there j)) i)

best_same : {A : Type 0} (f g : A → A → Bool) (a : A) (zs : List A) → ((b c : A) → b ∈ (a ∷ zs) → c ∈ (a ∷ zs) → f b c ≡ g b c) → best_of f a zs ≡ best_of g a zs
best_same f g a [] h = refl
best_same {A} f g a (x ∷ zs) h = ap (λ t. best_of f (cond t x a) zs) (h x a (there here) here) ∙ go (λ b. best_same f g b zs) (g x a)
  where
    go : ((d : A) → ((b c : A) → b ∈ (d ∷ zs) → c ∈ (d ∷ zs) → f b c ≡ g b c) → best_of f d zs ≡ best_of g d zs) → (t : Bool) → best_of f (cond t x a) zs ≡ best_of g (cond t x a) zs
    go r true = r x (λ b c i j. h b c (there i) (there j))
    go r false = r a (λ b c i j. h b c (skip a x b zs i) (skip a x c zs j))

highest_same : (f g : Segment → Segment → Bool) (ls : List Segment) → ((l m : Segment) → l ∈ ls → m ∈ ls → f l m ≡ g l m) → highest f ls ≡ highest g ls
highest_same f g [] h = refl
highest_same f g (l ∷ ls) h = ap Some (best_same f g l ls h)

pub highest_alike : (e f : Segment → Bool) (g h : Segment → Segment → Bool) (ls : List Segment) → ((l : Segment) → l ∈ ls → e l ≡ f l) → ((l m : Segment) → l ∈ ls → m ∈ ls → e l ≡ true → e m ≡ true → g l m ≡ h l m) → highest g (filter e ls) ≡ highest h (filter f ls)
highest_alike e f g h ls p q =
    highest_same g h (filter e ls) (λ l m i j. let a = kept_out e ls l i in let b = kept_out e ls m j in q l m a.member b.member a.passes b.passes)
    ∙ ap (highest h) (kept_same e f ls p)
