-- One segment is higher than another over a spot by its height there, or else by its slope: `Leads` says so with two signs, `leads_tells` ties it to the comparison of fractions.
use Rattle.std.proofs.Common.{◌≡◌, ◌&&◌, ◌||◌, ◌⊎◌, ℤ, pos, ◌+ℤ◌, ◌-ℤ◌, ◌*ℤ◌, neg_ℤ, ◌≤ℤ◌, ◌<ℤ◌, Decides, ap, ◌∙◌, inl, inr, arith}
use lib.Signed.{lt_z}
use Rattle.std.proofs.lemmas.Bool.Decides.{Decides-like}
use Rattle.algebra.proofs.Ring.{mul_comm, mul_zero, mul_one}
use Rattle.algebra.proofs.Signs.{lin, split, Tri, below, zeroed, above, tri, mul_pos, mul_neg, cancel_pos, cancel_neg, cancel_zero}
use Rattle.plane.specs.Points.{eq_int}
use Rattle.plane.specs.PointLaws.{precedes_decides}

-- g is above 0, or at 0 and t above 0
abbrev pub Leads : ℤ → ℤ → Type 0
Leads g t = (pos 0 <ℤ g) ⊎ ((g ≡ pos 0) × (pos 0 <ℤ t))

pub times_zero : (d g : ℤ) → g ≡ pos 0 → d *ℤ g ≡ pos 0
times_zero d g e = ap (λ z. d *ℤ z) e ∙ mul_zero d

pub one_mul : (z : ℤ) → pos 1 *ℤ z ≡ z
one_mul z = mul_comm (pos 1) z ∙ mul_one z

pub not_less : (u v : ℤ) → ¬ (u <ℤ v) → v ≤ℤ u
not_less u v n = go (split v u)
  where
    go : (v ≤ℤ u) ⊎ (u <ℤ v) → v ≤ℤ u
    go (inl h) = h
    go (inr h) = absurd (n h)

pub leads_tells : (k g A B u v : ℤ) → pos 0 <ℤ k → B -ℤ A ≡ k *ℤ g → Decides (lt_z A B || (eq_int A B && lt_z u v)) (Leads g (v -ℤ u))
leads_tells k g A B u v hk e = Decides-like (lt_z A B || (eq_int A B && lt_z u v)) forth back (precedes_decides (record { x = A; y = u }) (record { x = B; y = v }))
  where
    forth : (A <ℤ B) ⊎ ((A ≡ B) × (u <ℤ v)) → Leads g (v -ℤ u)
    forth (inl h) = inl (cancel_pos k g (omega (arith, lin)) (omega (arith, lin)))
    forth (inr h) = inr (cancel_zero k g hk (omega (arith, lin)), omega (arith, lin))

    back : Leads g (v -ℤ u) → (A <ℤ B) ⊎ ((A ≡ B) × (u <ℤ v))
    back (inl h) = inl (omega (arith, lin, mul_pos k g hk h))
    back (inr h) = inr (omega (arith, lin, times_zero k g h.0), omega (arith, lin))

pub leads_self : (g t : ℤ) → g ≡ pos 0 → t ≡ pos 0 → ¬ Leads g t
leads_self g t e f (inl h) = omega (arith, lin)
leads_self g t e f (inr h) = omega (arith, lin)

pub leads_trans : (d₁ d₂ d₃ g₁ g₂ g₃ t₁ t₂ t₃ : ℤ) → pos 0 <ℤ d₁ → pos 0 <ℤ d₂ → pos 0 <ℤ d₃ → d₂ *ℤ g₃ ≡ d₃ *ℤ g₁ +ℤ d₁ *ℤ g₂ → d₂ *ℤ t₃ ≡ d₃ *ℤ t₁ +ℤ d₁ *ℤ t₂ → Leads g₁ t₁ → Leads g₂ t₂ → Leads g₃ t₃
leads_trans d₁ d₂ d₃ g₁ g₂ g₃ t₁ t₂ t₃ h₁ h₂ h₃ p q (inl a) (inl b) = inl (cancel_pos d₂ g₃ (omega (arith, lin)) (omega (arith, lin, mul_pos d₃ g₁ h₃ a, mul_pos d₁ g₂ h₁ b)))
leads_trans d₁ d₂ d₃ g₁ g₂ g₃ t₁ t₂ t₃ h₁ h₂ h₃ p q (inl a) (inr b) = inl (cancel_pos d₂ g₃ (omega (arith, lin)) (omega (arith, lin, mul_pos d₃ g₁ h₃ a, times_zero d₁ g₂ b.0)))
leads_trans d₁ d₂ d₃ g₁ g₂ g₃ t₁ t₂ t₃ h₁ h₂ h₃ p q (inr a) (inl b) = inl (cancel_pos d₂ g₃ (omega (arith, lin)) (omega (arith, lin, times_zero d₃ g₁ a.0, mul_pos d₁ g₂ h₁ b)))
leads_trans d₁ d₂ d₃ g₁ g₂ g₃ t₁ t₂ t₃ h₁ h₂ h₃ p q (inr a) (inr b) =
    inr (cancel_zero d₂ g₃ h₂ (omega (arith, lin, times_zero d₃ g₁ a.0, times_zero d₁ g₂ b.0)), cancel_pos d₂ t₃ (omega (arith, lin)) (omega (arith, lin, mul_pos d₃ t₁ h₃ a.1, mul_pos d₁ t₂ h₁ b.1)))

-- in one column
pub leads_same : (c d g h t : ℤ) → pos 0 <ℤ c → pos 0 <ℤ d → c *ℤ g ≡ d *ℤ h → Leads g t → Leads h t
leads_same c d g h t hc hd e (inl a) = inl (cancel_pos d h (omega (arith, lin)) (omega (arith, lin, mul_pos c g hc a)))
leads_same c d g h t hc hd e (inr a) = inr (cancel_zero d h hd (omega (arith, lin, times_zero c g a.0)), a.1)

-- just right of one column and just left of the next, where neither segment passes the other between them
module _ (c d w g h t t' : ℤ) (hc : pos 0 <ℤ c) (hd : pos 0 <ℤ d) (hw : pos 0 <ℤ w) (e : c *ℤ h ≡ d *ℤ g +ℤ w *ℤ t) (n : t' ≡ neg_ℤ t) (fall : ¬ ((pos 0 <ℤ g) × (h <ℤ pos 0))) (rise : ¬ ((g <ℤ pos 0) × (pos 0 <ℤ h))) where
  pub leads_next : Leads g t → Leads h t'
  leads_next (inl a) = go (tri h)
    where
      go : Tri h → Leads h t'
      go (above b) = inl b
      go (zeroed b) = inr (b, omega (arith, lin, cancel_neg w t (omega (arith, lin)) (omega (arith, lin, mul_pos d g hd a, times_zero c h b))))
      go (below b) = absurd (fall (a, b))
  leads_next (inr a) = inl (cancel_pos c h (omega (arith, lin)) (omega (arith, lin, times_zero d g a.0, mul_pos w t hw a.1)))

  pub leads_before : Leads h t' → Leads g t
  leads_before (inl b) = go (tri g)
    where
      go : Tri g → Leads g t
      go (above a) = inl a
      go (zeroed a) = inr (a, cancel_pos w t (omega (arith, lin)) (omega (arith, lin, times_zero d g a, mul_pos c h hc b)))
      go (below a) = absurd (rise (a, b))
  leads_before (inr b) = inl (cancel_pos d g (omega (arith, lin)) (omega (arith, lin, times_zero c h b.0, mul_neg w t hw (omega (arith, lin)))))
