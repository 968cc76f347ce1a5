-- The first place at which a test holds: from a search (`first_none`, `first_at`), and what it says (`sought`).
use Rattle.std.proofs.Common.{◌≡◌, ℕ, zero, suc, ◌<◌, Bool, true, false, cond, ◌⊎◌, Some, None, Option, sym, refl, ap, ◌∙◌, inl, inr, arith}
use Rattle.std.proofs.lemmas.Bool.{cases_order}
use Rattle.algebra.proofs.Members.{Case, holds, fails, case}
use Rattle.region.specs.Check.{first}

module _ (test : ℕ → Bool) where
  abbrev next : ℕ → Option ℕ → Option ℕ
  next n o = elim o [ Some i ↦ Some i | None ↦ cond (test n) (Some n) None ]

  pub first_none : (n : ℕ) → ((k : ℕ) → k < n → test k ≡ false) → first test n ≡ None
  first_none zero h = refl
  first_none (suc n) h = ap (next n) (first_none n (λ k l. h k (omega arith))) ∙ ap (λ t. cond t (Some n) None) (h n (omega arith))

  pub first_at : (n i : ℕ) → i < n → test i ≡ true → ((k : ℕ) → k < i → test k ≡ false) → first test n ≡ Some i
  first_at zero i l e h = absurd (omega arith)
  first_at (suc n) i l e h = go (cases_order i n) (λ m. first_at n i m e h)
    where
      go : (i ≡ n) ⊎ ((i < n) ⊎ (n < i)) → (i < n → first test n ≡ Some i) → first test (suc n) ≡ Some i
      go (inl q) r = ap (next n) (first_none n (λ k m. h k (omega arith))) ∙ ap (λ t. cond t (Some n) None) (ap test (sym q) ∙ e) ∙ ap Some (sym q)
      go (inr (inl m)) r = ap (next n) (r m)
      go (inr (inr m)) r = absurd (omega arith)

  -- the test holds nowhere below n, or first at a place
  pub data Sought (n : ℕ) : Type 0 where
    nowhere : first test n ≡ None → ((k : ℕ) → k < n → test k ≡ false) → Sought n
    somewhere : (i : ℕ) → first test n ≡ Some i → i < n → test i ≡ true → ((k : ℕ) → k < i → test k ≡ false) → Sought n

  pub sought : (n : ℕ) → Sought n
  sought zero = nowhere refl (λ k l. absurd (omega arith))
  sought (suc n) = go (sought n) (case (test n))
    where
      last : ((k : ℕ) → k < n → test k ≡ false) → test n ≡ false → (k : ℕ) → k < suc n → test k ≡ false
      last h e k l = by (cases_order k n)
        where
          by : (k ≡ n) ⊎ ((k < n) ⊎ (n < k)) → test k ≡ false
          by (inl q) = ap test q ∙ e
          by (inr (inl m)) = h k m
          by (inr (inr m)) = absurd (omega arith)

      go : Sought n → Case (test n) → Sought (suc n)
      go (somewhere i q l e h) t = somewhere i (ap (next n) q) (omega arith) e h
      go (nowhere q h) (holds t) = somewhere n (ap (next n) q ∙ ap (λ u. cond u (Some n) None) t) (omega arith) t h
      go (nowhere q h) (fails t) = nowhere (ap (next n) q ∙ ap (λ u. cond u (Some n) None) t) (last h t)
