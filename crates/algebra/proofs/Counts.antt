-- Counting over lists without repetition: lists with the same members have the same counts, `same_members`.
use Rattle.std.proofs.Common.{◌≡◌, ℕ, suc, ◌+◌, Bool, true, false, cond, not, ◌⊎◌, List, [], ◌∷◌, ◌++◌, map, filter, sym, refl, ap, ◌∙◌, subst, inl, inr, arith}
use Rattle.algebra.specs.Members.{◌∈◌, here, there, Once}
use Rattle.algebra.specs.Parity.{times}
use Rattle.algebra.proofs.Members.{out, none, Case, holds, fails, case, apart}

-- a member of two lists in a row
pub in_left : {A : Type 0} (a : A) (us vs : List A) → a ∈ us → a ∈ (us ++ vs)
in_left a [] vs m = absurd (none a m)
in_left a (u ∷ us) vs here = here
in_left a (u ∷ us) vs (there m) = there (in_left a us vs m)

pub in_right : {A : Type 0} (a : A) (us vs : List A) → a ∈ vs → a ∈ (us ++ vs)
in_right a [] vs m = m
in_right a (u ∷ us) vs m = there (in_right a us vs m)

pub in_either : {A : Type 0} (a : A) (us vs : List A) → a ∈ (us ++ vs) → (a ∈ us) ⊎ (a ∈ vs)
in_either a [] vs m = inr m
in_either a (u ∷ us) vs m = go (out a u (us ++ vs) m) (in_either a us vs)
  where
    go : (a ≡ u) ⊎ (a ∈ (us ++ vs)) → (a ∈ (us ++ vs) → (a ∈ us) ⊎ (a ∈ vs)) → (a ∈ (u ∷ us)) ⊎ (a ∈ vs)
    go (inl e) f = inl (subst (λ x. a ∈ (x ∷ us)) e here)
    go (inr i) f = by (f i)
      where
        by : (a ∈ us) ⊎ (a ∈ vs) → (a ∈ (u ∷ us)) ⊎ (a ∈ vs)
        by (inl j) = inl (there j)
        by (inr j) = inr j

-- a list cut at one of its members
record Cut {A : Type 0} (a : A) (zs : List A) : Type 0 where
  pub before : List A
  pub after : List A
  pub is : zs ≡ before ++ a ∷ after

cut : {A : Type 0} (a : A) (zs : List A) → a ∈ zs → Cut a zs
cut a [] m = absurd (none a m)
cut {A} a (z ∷ zs) m = go (out a z zs m) (cut a zs)
  where
    go : (a ≡ z) ⊎ (a ∈ zs) → (a ∈ zs → Cut a zs) → Cut a (z ∷ zs)
    go (inl e) f = record { before = []; after = zs; is = ap (λ x. x ∷ zs) (sym e) }
    go (inr i) f = let c = f i in record { before = z ∷ c.before; after = c.after; is = ap (λ l. z ∷ l) c.is }

times_cut : {A : Type 0} (f : A → Bool) (a : A) (us vs : List A) → times f (us ++ a ∷ vs) ≡ times f (a ∷ (us ++ vs))
times_cut f a [] vs = refl
times_cut f a (u ∷ us) vs = by (f u) (f a) (times f (us ++ a ∷ vs)) (times f (us ++ vs)) (times_cut f a us vs)
  where
    by : (s t : Bool) (m n : ℕ) → m ≡ cond t (suc n) n → cond s (suc m) m ≡ cond t (suc (cond s (suc n) n)) (cond s (suc n) n)
    by true true m n e = ap suc e
    by true false m n e = ap suc e
    by false true m n e = e
    by false false m n e = e

once_cut : {A : Type 0} (a : A) (us vs : List A) → Once (us ++ a ∷ vs) → ¬ (a ∈ (us ++ vs)) × Once (us ++ vs)
once_cut a [] vs o = o
once_cut a (u ∷ us) vs o =
    let r = once_cut a us vs o.1 in
    (λ m. go m r.0, (λ m. o.0 (wider (in_either u us vs m)), r.1))
  where
    wider : (u ∈ us) ⊎ (u ∈ vs) → u ∈ (us ++ a ∷ vs)
    wider (inl m) = in_left u us (a ∷ vs) m
    wider (inr m) = in_right u us (a ∷ vs) (there m)

    go : a ∈ (u ∷ (us ++ vs)) → ¬ (a ∈ (us ++ vs)) → ⊥
    go m n = by (out a u (us ++ vs) m)
      where
        by : (a ≡ u) ⊎ (a ∈ (us ++ vs)) → ⊥
        by (inl e) = o.0 (subst (λ x. x ∈ (us ++ a ∷ vs)) e (in_right a us (a ∷ vs) here))
        by (inr i) = n i

-- lists without repetition and with the same members
pub same_members : {A : Type 0} (f : A → Bool) (xs ys : List A) → Once xs → Once ys → ((a : A) → a ∈ xs → a ∈ ys) → ((a : A) → a ∈ ys → a ∈ xs) → times f xs ≡ times f ys
same_members f [] [] o p to from = refl
same_members f [] (y ∷ ys) o p to from = absurd (none y (from y here))
same_members {A} f (x ∷ xs) ys o p to from =
    let c = cut x ys (to x here) in
    let zs : List A = c.before ++ c.after in
    let q = once_cut x c.before c.after (subst Once c.is p) in
    let inner = same_members f xs zs o.1 q.1 (λ a m. into c a m (in_either a c.before (x ∷ c.after) (subst (λ l. a ∈ l) c.is (to a (there m))))) (λ a m. back c q.0 a m (out a x xs (from a (subst (λ l. a ∈ l) (sym c.is) (widen c a (in_either a c.before c.after m)))))) in
    ap (λ n. cond (f x) (suc n) n) inner ∙ sym (times_cut f x c.before c.after) ∙ ap (times f) (sym c.is)
  where
    into : (c : Cut x ys) (a : A) → a ∈ xs → (a ∈ c.before) ⊎ (a ∈ (x ∷ c.after)) → a ∈ (c.before ++ c.after)
    into c a m (inl i) = in_left a c.before c.after i
    into c a m (inr i) = by (out a x c.after i)
      where
        by : (a ≡ x) ⊎ (a ∈ c.after) → a ∈ (c.before ++ c.after)
        by (inl e) = absurd (o.0 (subst (λ z. z ∈ xs) e m))
        by (inr j) = in_right a c.before c.after j

    widen : (c : Cut x ys) (a : A) → (a ∈ c.before) ⊎ (a ∈ c.after) → a ∈ (c.before ++ x ∷ c.after)
    widen c a (inl i) = in_left a c.before (x ∷ c.after) i
    widen c a (inr i) = in_right a c.before (x ∷ c.after) (there i)

    back : (c : Cut x ys) → ¬ (x ∈ (c.before ++ c.after)) → (a : A) → a ∈ (c.before ++ c.after) → (a ≡ x) ⊎ (a ∈ xs) → a ∈ xs
    back c n a m (inl e) = absurd (n (subst (λ z. z ∈ (c.before ++ c.after)) e m))
    back c n a m (inr i) = i

-- the things that pass a test, and the others
pub times_parts : {A : Type 0} (f p : A → Bool) (zs : List A) → times f zs ≡ times f (filter p zs) + times f (filter (λ a. not (p a)) zs)
times_parts f p [] = refl
times_parts f p (a ∷ zs) = go (p a) (times_parts f p zs)
  where
    first : (s : Bool) (m l r : ℕ) → m ≡ l + r → cond s (suc m) m ≡ cond s (suc l) l + r
    first true m l r e = omega arith
    first false m l r e = e

    second : (s : Bool) (m l r : ℕ) → m ≡ l + r → cond s (suc m) m ≡ l + cond s (suc r) r
    second true m l r e = omega arith
    second false m l r e = e

    go : (t : Bool) → times f zs ≡ times f (filter p zs) + times f (filter (λ a. not (p a)) zs) → cond (f a) (suc (times f zs)) (times f zs) ≡ times f (cond t (a ∷ filter p zs) (filter p zs)) + times f (cond (not t) (a ∷ filter (λ a. not (p a)) zs) (filter (λ a. not (p a)) zs))
    go true h = first (f a) (times f zs) (times f (filter p zs)) (times f (filter (λ a. not (p a)) zs)) h
    go false h = second (f a) (times f zs) (times f (filter p zs)) (times f (filter (λ a. not (p a)) zs)) h

pub times_map : {A B : Type 0} (f : B → Bool) (g : A → B) (zs : List A) → times f (map g zs) ≡ times (λ a. f (g a)) zs
times_map f g [] = refl
times_map f g (a ∷ zs) = ap (λ n. cond (f (g a)) (suc n) n) (times_map f g zs)

pub times_same : {A : Type 0} (f g : A → Bool) (zs : List A) → ((a : A) → a ∈ zs → f a ≡ g a) → times f zs ≡ times g zs
times_same f g [] h = refl
times_same f g (a ∷ zs) h = (λ i. cond (h a here i) (suc (times_same f g zs (λ b m. h b (there m)) i)) (times_same f g zs (λ b m. h b (there m)) i))

-- what a filter keeps
pub kept_in : {A : Type 0} (p : A → Bool) (zs : List A) (a : A) → a ∈ zs → p a ≡ true → a ∈ filter p zs
kept_in p [] a m e = absurd (none a m)
kept_in p (z ∷ zs) a m e = go (case (p z)) (out a z zs m) (λ i. kept_in p zs a i e)
  where
    go : Case (p z) → (a ≡ z) ⊎ (a ∈ zs) → (a ∈ zs → a ∈ filter p zs) → a ∈ cond (p z) (z ∷ filter p zs) (filter p zs)
    go (holds t) (inl q) f = subst (λ b. a ∈ cond b (z ∷ filter p zs) (filter p zs)) (sym t) (subst (λ x. a ∈ (x ∷ filter p zs)) q here)
    go (holds t) (inr i) f = subst (λ b. a ∈ cond b (z ∷ filter p zs) (filter p zs)) (sym t) (there (f i))
    go (fails t) (inl q) f = absurd (apart (ap p (sym q) ∙ e) t)
    go (fails t) (inr i) f = subst (λ b. a ∈ cond b (z ∷ filter p zs) (filter p zs)) (sym t) (f i)

pub record Kept {A : Type 0} (p : A → Bool) (zs : List A) (a : A) : Type 0 where
  pub member : a ∈ zs
  pub passes : p a ≡ true

pub kept_out : {A : Type 0} (p : A → Bool) (zs : List A) (a : A) → a ∈ filter p zs → Kept p zs a
kept_out p [] a m = absurd (none a m)
kept_out {A} p (z ∷ zs) a m = go (case (p z)) (kept_out p zs a)
  where
    go : Case (p z) → (a ∈ filter p zs → Kept p zs a) → Kept p (z ∷ zs) a
    go (holds t) f = by (out a z (filter p zs) (subst (λ b. a ∈ cond b (z ∷ filter p zs) (filter p zs)) t m))
      where
        by : (a ≡ z) ⊎ (a ∈ filter p zs) → Kept p (z ∷ zs) a
        by (inl q) = record { member = subst (λ x. x ∈ (z ∷ zs)) (sym q) here; passes = ap p q ∙ t }
        by (inr i) = let k = f i in record { member = there k.member; passes = k.passes }
    go (fails t) f = let k = f (subst (λ b. a ∈ cond b (z ∷ filter p zs) (filter p zs)) t m) in record { member = there k.member; passes = k.passes }

pub once_kept : {A : Type 0} (p : A → Bool) (zs : List A) → Once zs → Once (filter p zs)
once_kept p [] o = tt
once_kept p (z ∷ zs) o = go (p z) (once_kept p zs o.1)
  where
    go : (t : Bool) → Once (filter p zs) → Once (cond t (z ∷ filter p zs) (filter p zs))
    go true r = (λ m. o.0 (kept_out p zs z m).member, r)
    go false r = r

-- images under a map that keeps members apart
pub in_map : {A B : Type 0} (g : A → B) (zs : List A) (a : A) → a ∈ zs → g a ∈ map g zs
in_map g [] a m = absurd (none a m)
in_map g (z ∷ zs) a m = go (out a z zs m) (in_map g zs a)
  where
    go : (a ≡ z) ⊎ (a ∈ zs) → (a ∈ zs → g a ∈ map g zs) → g a ∈ (g z ∷ map g zs)
    go (inl q) f = subst (λ x. g a ∈ (g x ∷ map g zs)) q here
    go (inr i) f = there (f i)

pub record Image {A B : Type 0} (g : A → B) (zs : List A) (b : B) : Type 0 where
  pub of : A
  pub member : of ∈ zs
  pub is : b ≡ g of

pub map_in : {A B : Type 0} (g : A → B) (zs : List A) (b : B) → b ∈ map g zs → Image g zs b
map_in g [] b m = absurd (none b m)
map_in {A} {B} g (z ∷ zs) b m = go (out b (g z) (map g zs) m) (map_in g zs b)
  where
    go : (b ≡ g z) ⊎ (b ∈ map g zs) → (b ∈ map g zs → Image g zs b) → Image g (z ∷ zs) b
    go (inl q) f = record { of = z; member = here; is = q }
    go (inr i) f = let r = f i in record { of = r.of; member = there r.member; is = r.is }

pub once_map : {A B : Type 0} (g : A → B) (zs : List A) → ((a b : A) → a ∈ zs → b ∈ zs → g a ≡ g b → a ≡ b) → Once zs → Once (map g zs)
once_map g [] one o = tt
once_map g (z ∷ zs) one o = (
  λ m. let r = map_in g zs (g z) m in o.0 (subst (λ x. x ∈ zs) (sym (one z r.of here (there r.member) r.is)) r.member),
  once_map g zs (λ a b i j. one a b (there i) (there j)) o.1,
)
