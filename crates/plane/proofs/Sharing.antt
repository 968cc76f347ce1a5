-- How a segment and a leg come to share a point: where they cut (`shared_cut`, `shared_rise`), or by an end of one on the other (`end_by_x`, `end_by_y`).
use Rattle.std.proofs.Common.{◌≡◌, ℕ, ◌⊎◌, [], ◌∷◌, ℤ, pos, ◌+ℤ◌, ◌-ℤ◌, ◌*ℤ◌, neg_ℤ, ◌≤ℤ◌, ◌<ℤ◌, sym, refl, ◌∙◌, subst, subst₂, inl, inr, arith}
use borrow.Author.Differences.{ints}
use Rattle.algebra.specs.Polynomial.{Ex, con, var, neg, ◌⊕◌, ◌⊖◌, ◌⊗◌, by, nought, unit, minus_unit}
use Rattle.algebra.proofs.Ring.{ring, ring_from}
use Rattle.algebra.proofs.Signs.{lin, split, cancel_zero, cancel_le, mean_le, mean_ge}
use Rattle.plane.specs.declared.point.Point.{Point}
use Rattle.plane.specs.Points.{orientation, scaled}
use Rattle.plane.proofs.Pairs.{Between, Hits, Shared, SharedEnd, turn_e, turn_x, x_e, y_e, coords, A', B', P', Q'}
use Rattle.plane.proofs.Cuts.{Quad, Cut}

abbrev pub way : ℕ → ℕ → Ex
way n m = x_e n ⊖ x_e m

-- the leg falls towards the segment as much as the segment rises towards the leg
pub fall_leg : (a b p q : Point) → orientation a b p ≡ orientation a b q +ℤ (orientation a b p -ℤ orientation a b q)
fall_leg a b p q = ring (coords a b p q) P' (Q' ⊕ (P' ⊖ Q')) refl

pub fall_segment : (a b p q : Point) → orientation p q b ≡ orientation p q a +ℤ (orientation a b p -ℤ orientation a b q)
fall_segment a b p q = ring (coords a b p q) B' (A' ⊕ (P' ⊖ Q')) refl

pub quad_of : (a b p q : Point) → a.x ≤ℤ b.x → p.x ≤ℤ q.x → Quad (orientation p q a) (orientation p q b) (orientation a b p) (orientation a b q) (orientation a b p -ℤ orientation a b q) (b.x -ℤ a.x) (q.x -ℤ p.x) (a.x -ℤ p.x) (b.x -ℤ p.x) (a.x -ℤ q.x) (b.x -ℤ q.x)
quad_of a b p q h k =
    record {
      fall_leg = fall_leg a b p q;
      fall_segment = fall_segment a b p q;
      at_ap = ring (coords a b p q) (way 3 2 ⊗ P' ⊕ way 1 0 ⊗ A') (way 0 2 ⊗ (P' ⊖ Q')) refl;
      at_bp = ring (coords a b p q) (way 3 2 ⊗ P' ⊕ way 1 0 ⊗ B') (way 1 2 ⊗ (P' ⊖ Q')) refl;
      at_aq = ring (coords a b p q) (way 3 2 ⊗ Q' ⊕ way 1 0 ⊗ A') (way 0 3 ⊗ (P' ⊖ Q')) refl;
      at_bq = ring (coords a b p q) (way 3 2 ⊗ Q' ⊕ way 1 0 ⊗ B') (way 1 3 ⊗ (P' ⊖ Q')) refl;
      width_segment = ring (coords a b p q) (way 1 2) (way 0 2 ⊕ way 1 0) refl;
      width_leg = ring (coords a b p q) (way 0 2) (way 0 3 ⊕ way 3 2) refl;
      width_leg' = ring (coords a b p q) (way 1 2) (way 1 3 ⊕ way 3 2) refl;
      right_segment = omega (arith, lin);
      right_leg = omega (arith, lin);
    }

-- u and v with weights m and n
abbrev pub mean : ℤ → Point → ℤ → Point → Point
mean m u n v = record { x = m *ℤ u.x +ℤ n *ℤ v.x; y = m *ℤ u.y +ℤ n *ℤ v.y }

pub mean_between : (m n u v : ℤ) → pos 0 ≤ℤ m → pos 0 ≤ℤ n → Between ((m +ℤ n) *ℤ u) ((m +ℤ n) *ℤ v) (m *ℤ u +ℤ n *ℤ v)
mean_between m n u v h k = go (split u v)
  where
    go : (u ≤ℤ v) ⊎ (v <ℤ u) → Between ((m +ℤ n) *ℤ u) ((m +ℤ n) *ℤ v) (m *ℤ u +ℤ n *ℤ v)
    go (inl l) = inl (mean_le m n u u v h k (omega (arith, lin)) l, mean_ge m n v u v h k l (omega (arith, lin)))
    go (inr l) = inr (mean_le m n v u v h k (omega (arith, lin)) (omega (arith, lin)), mean_ge m n u u v h k (omega (arith, lin)) (omega (arith, lin)))

pub hits_mean : (u v : Point) (m n : ℤ) → pos 0 ≤ℤ m → pos 0 ≤ℤ n → Hits (m +ℤ n) (mean m u n v) u v
hits_mean u v m n h k =
    record {
      straight = ring (u.x ∷ u.y ∷ v.x ∷ v.y ∷ m ∷ n ∷ []) (turn_x ((var 4 ⊕ var 5) ⊗ var 0) ((var 4 ⊕ var 5) ⊗ var 1) ((var 4 ⊕ var 5) ⊗ var 2) ((var 4 ⊕ var 5) ⊗ var 3) (var 4 ⊗ var 0 ⊕ var 5 ⊗ var 2) (var 4 ⊗ var 1 ⊕ var 5 ⊗ var 3)) nought refl;
      across = mean_between m n u.x v.x h k;
      along = mean_between m n u.y v.y h k;
    }

pub swapped : (u v w : ℤ) → Between u v w → Between v u w
swapped u v w (inl h) = inr h
swapped u v w (inr h) = inl h

pub hits_back : (k : ℤ) (s u v : Point) → Hits k s u v → Hits k s v u
hits_back k s u v o =
    record {
      straight = ring_from (u.x ∷ u.y ∷ v.x ∷ v.y ∷ k ∷ s.x ∷ s.y ∷ []) (by minus_unit (turn_x (var 4 ⊗ var 0) (var 4 ⊗ var 1) (var 4 ⊗ var 2) (var 4 ⊗ var 3) (var 5) (var 6)) nought ∷ []) (o.straight, tt) (turn_x (var 4 ⊗ var 2) (var 4 ⊗ var 3) (var 4 ⊗ var 0) (var 4 ⊗ var 1) (var 5) (var 6)) nought refl;
      across = swapped (k *ℤ u.x) (k *ℤ v.x) s.x o.across;
      along = swapped (k *ℤ u.y) (k *ℤ v.y) s.y o.along;
    }

pub shared_cut : (a b p q : Point) → Cut (orientation p q a) (orientation p q b) (orientation a b p) (orientation a b q) → Shared a b p q
shared_cut a b p q c =
    record {
      scale = orientation p q b +ℤ neg_ℤ (orientation p q a);
      at = mean (orientation p q b) a (neg_ℤ (orientation p q a)) b;
      some_scale = less (orientation p q a) (orientation p q b) c.falls;
      on_segment = hits_mean a b (orientation p q b) (neg_ℤ (orientation p q a)) c.b_over (turned (orientation p q a) c.a_under);
      on_leg = subst₂ (λ k s. Hits k s p q) (ring (coords a b p q) (neg Q' ⊕ P') (B' ⊕ neg A') refl) same_mean (hits_mean p q (neg_ℤ (orientation a b q)) (orientation a b p) (turned (orientation a b q) c.q_under) c.p_over);
    }
  where
    less : (u v : ℤ) → u <ℤ v → pos 0 <ℤ (v +ℤ neg_ℤ u)
    less u v h = omega (arith, lin)

    turned : (u : ℤ) → u ≤ℤ pos 0 → pos 0 ≤ℤ neg_ℤ u
    turned u h = omega (arith, lin)

    same_mean : mean (neg_ℤ (orientation a b q)) p (orientation a b p) q ≡ mean (orientation p q b) a (neg_ℤ (orientation p q a)) b
    same_mean i =
        record { x = ring (coords a b p q) (neg Q' ⊗ x_e 2 ⊕ P' ⊗ x_e 3) (B' ⊗ x_e 0 ⊕ neg A' ⊗ x_e 1) refl i; y = ring (coords a b p q) (neg Q' ⊗ y_e 2 ⊕ P' ⊗ y_e 3) (B' ⊗ y_e 0 ⊕ neg A' ⊗ y_e 1) refl i }

-- a segment that is named from its other end
abbrev pub segment_back : (a b p q : Point) → Shared b a p q → Shared a b p q
segment_back a b p q s =
    record { scale = s.scale; at = s.at; some_scale = s.some_scale; on_segment = hits_back s.scale s.at b a s.on_segment; on_leg = s.on_leg }

-- and a leg
abbrev pub leg_back : (a b p q : Point) → Shared a b q p → Shared a b p q
leg_back a b p q s =
    record { scale = s.scale; at = s.at; some_scale = s.some_scale; on_segment = s.on_segment; on_leg = hits_back s.scale s.at q p s.on_leg }

pub shared_rise : (a b p q : Point) → Cut (orientation p q b) (orientation p q a) (orientation a b q) (orientation a b p) → Shared a b p q
shared_rise a b p q c =
    segment_back a b p q (shared_cut b a p q (subst₂ (λ u v. Cut (orientation p q b) (orientation p q a) u v) (ring (coords a b p q) (neg P') (turn_e 1 0 2) refl) (ring (coords a b p q) (neg Q') (turn_e 1 0 3) refl) (other (orientation p q a) (orientation p q b) (orientation a b p) (orientation a b q) c)))
  where
    other : (A B P Q : ℤ) → Cut B A Q P → Cut B A (neg_ℤ P) (neg_ℤ Q)
    other A B P Q c =
        record { a_under = c.a_under; b_over = c.b_over; p_over = omega (arith, lin); q_under = omega (arith, lin); falls = c.falls }

pub between_one : (u v w : ℤ) → Between u v w → Between (pos 1 *ℤ u) (pos 1 *ℤ v) (pos 1 *ℤ w)
between_one u v w (inl h) = inl (omega (arith, ints), omega (arith, ints))
between_one u v w (inr h) = inr (omega (arith, ints), omega (arith, ints))

pub hits_whole : (c u v : Point) → orientation u v c ≡ pos 0 → Between u.x v.x c.x → Between u.y v.y c.y → Hits (pos 1) (scaled (pos 1) c) u v
hits_whole c u v e h k =
    record {
      straight = ring_from (u.x ∷ u.y ∷ v.x ∷ v.y ∷ c.x ∷ c.y ∷ []) (by unit (turn_e 0 1 2) nought ∷ []) (e, tt) (turn_x (one ⊗ x_e 0) (one ⊗ y_e 0) (one ⊗ x_e 1) (one ⊗ y_e 1) (one ⊗ x_e 2) (one ⊗ y_e 2)) nought refl;
      across = between_one u.x v.x c.x h;
      along = between_one u.y v.y c.y k;
    }
  where
    one : Ex
    one = con (pos 1)

pub at_start : (u v : ℤ) → Between u v u
at_start u v = go (split u v)
  where
    go : (u ≤ℤ v) ⊎ (v <ℤ u) → Between u v u
    go (inl h) = inl (omega (arith, lin), h)
    go (inr h) = inr (omega (arith, lin), omega (arith, lin))

pub hits_start : (u v : Point) → Hits (pos 1) (scaled (pos 1) u) u v
hits_start u v = hits_whole u u v (ring (u.x ∷ u.y ∷ v.x ∷ v.y ∷ []) (turn_e 0 1 0) nought refl) (at_start u.x v.x) (at_start u.y v.y)

pub cancel_between : (d u v w : ℤ) → pos 0 <ℤ d → Between (d *ℤ u) (d *ℤ v) (d *ℤ w) → Between u v w
cancel_between d u v w h (inl k) = inl (cancel_le d u w h k.0, cancel_le d w v h k.1)
cancel_between d u v w h (inr k) = inr (cancel_le d v w h k.0, cancel_le d w u h k.1)

-- between in x and straight: between in y
pub along_by : (c u v : Point) → u.x <ℤ v.x → u.x ≤ℤ c.x → c.x ≤ℤ v.x → orientation u v c ≡ pos 0 → Between u.y v.y c.y
along_by c u v l h k e =
    cancel_between (m +ℤ n) u.y v.y c.y (omega (arith, lin))
    (subst (Between ((m +ℤ n) *ℤ u.y) ((m +ℤ n) *ℤ v.y))
    (ring_from (u.x ∷ u.y ∷ v.x ∷ v.y ∷ c.x ∷ c.y ∷ []) (by minus_unit (turn_e 0 1 2) nought ∷ []) (e, tt) ((x_e 1 ⊖ x_e 2) ⊗ y_e 0 ⊕ (x_e 2 ⊖ x_e 0) ⊗ y_e 1) (((x_e 1 ⊖ x_e 2) ⊕ (x_e 2 ⊖ x_e 0)) ⊗ y_e 2) refl)
    (mean_between m n u.y v.y (omega (arith, lin)) (omega (arith, lin))))
  where
    m : ℤ
    m = v.x -ℤ c.x

    n : ℤ
    n = c.x -ℤ u.x

pub upright : (a b p : Point) → a.x ≡ p.x → b.x ≡ p.x → orientation a b p ≡ pos 0
upright a b p e f =
    ring_from (a.x ∷ a.y ∷ b.x ∷ b.y ∷ p.x ∷ p.y ∷ [])
    (by (y_e 1 ⊖ y_e 2) (x_e 0) (x_e 2) ∷ by (y_e 2 ⊖ y_e 0) (x_e 1) (x_e 2) ∷ [])
    (e, (f, tt)) (turn_e 0 1 2) nought refl

pub on_upright : (a b c : Point) → a.x ≡ b.x → a.y <ℤ b.y → orientation a b c ≡ pos 0 → a.x ≡ c.x
on_upright a b c e l z =
    let d : a.x -ℤ c.x ≡ pos 0 = cancel_zero (b.y -ℤ a.y) (a.x -ℤ c.x) (omega (arith, lin)) (ring_from (a.x ∷ a.y ∷ b.x ∷ b.y ∷ c.x ∷ c.y ∷ []) (by unit (turn_e 0 1 2) nought ∷ by (y_e 2 ⊖ y_e 0) (x_e 0) (x_e 1) ∷ []) (z, (e, tt)) ((y_e 1 ⊖ y_e 0) ⊗ (x_e 0 ⊖ x_e 2)) nought refl) in
    omega (arith, lin)

-- all on one straight line, with ranges that meet: an end of one lies on the other
module _ (a b p q : Point) (A₀ : orientation p q a ≡ pos 0) (P₀ : orientation a b p ≡ pos 0) (Q₀ : orientation a b q ≡ pos 0) where
  end_a : Between p.x q.x a.x → Between p.y q.y a.y → SharedEnd a b p q
  end_a h k = (record { scale = pos 1; at = scaled (pos 1) a; some_scale = omega (arith, lin); on_segment = hits_start a b; on_leg = hits_whole a p q A₀ h k }, inl (inl refl))

  end_p : Between a.x b.x p.x → Between a.y b.y p.y → SharedEnd a b p q
  end_p h k = (record { scale = pos 1; at = scaled (pos 1) p; some_scale = omega (arith, lin); on_segment = hits_whole p a b P₀ h k; on_leg = hits_start p q }, inr (inl refl))

  end_q : Between a.x b.x q.x → Between a.y b.y q.y → SharedEnd a b p q
  end_q h k = (record { scale = pos 1; at = scaled (pos 1) q; some_scale = omega (arith, lin); on_segment = hits_whole q a b Q₀ h k; on_leg = hits_back (pos 1) (scaled (pos 1) q) q p (hits_start q p) }, inr (inr refl))

  pub end_by_x : a.x <ℤ b.x → a.x ≤ℤ q.x → p.x ≤ℤ b.x → SharedEnd a b p q
  end_by_x h i j = go (split a.x p.x)
    where
      go : (a.x ≤ℤ p.x) ⊎ (p.x <ℤ a.x) → SharedEnd a b p q
      go (inl m) = end_p (inl (m, j)) (along_by p a b h m j P₀)
      go (inr m) =
          let n : p.x ≤ℤ a.x = omega (arith, lin) in
          let g : p.x <ℤ q.x = omega (arith, lin) in
          end_a (inl (n, i)) (along_by a p q g n i A₀)

  pub end_by_y : a.x ≡ b.x → a.y <ℤ b.y → (p.y ≤ℤ b.y) ⊎ (q.y ≤ℤ b.y) → (a.y ≤ℤ p.y) ⊎ (a.y ≤ℤ q.y) → SharedEnd a b p q
  end_by_y e h i j = go i j (split a.y p.y) (split a.y q.y)
    where
      ep : a.x ≡ p.x
      ep = on_upright a b p e h P₀

      eq : a.x ≡ q.x
      eq = on_upright a b q e h Q₀

      same_x : (u v w : ℤ) → u ≡ v → u ≡ w → Between u v w
      same_x u v w f g = inl (omega (arith, lin), omega (arith, lin))

      for_a : Between p.y q.y a.y → SharedEnd a b p q
      for_a = end_a (same_x p.x q.x a.x (sym ep ∙ eq) (sym ep))

      for_p : a.y ≤ℤ p.y → p.y ≤ℤ b.y → SharedEnd a b p q
      for_p m n = end_p (same_x a.x b.x p.x e ep) (inl (m, n))

      for_q : a.y ≤ℤ q.y → q.y ≤ℤ b.y → SharedEnd a b p q
      for_q m n = end_q (same_x a.x b.x q.x e eq) (inl (m, n))

      go : (p.y ≤ℤ b.y) ⊎ (q.y ≤ℤ b.y) → (a.y ≤ℤ p.y) ⊎ (a.y ≤ℤ q.y) → (a.y ≤ℤ p.y) ⊎ (p.y <ℤ a.y) → (a.y ≤ℤ q.y) ⊎ (q.y <ℤ a.y) → SharedEnd a b p q
      go (inl i) j (inl m) n = for_p m i
      go (inl i) j (inr m) (inl n) = for_a (inl (omega (arith, lin), n))
      go (inl i) j (inr m) (inr n) = absurd (omega (arith, lin))
      go (inr i) j m (inl n) = for_q n i
      go (inr i) j (inl m) (inr n) = for_a (inr (omega (arith, lin), m))
      go (inr i) j (inr m) (inr n) = absurd (omega (arith, lin))
