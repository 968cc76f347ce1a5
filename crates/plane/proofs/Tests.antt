-- For a segment named from its lesser end and a leg to the right, the tests by signs decide: `touch_test` whether they share a point, `cross_test` whether they cross.
use Rattle.std.proofs.Common.{◌≡◌, Bool, true, ◌&&◌, ◌⊎◌, [], ◌∷◌, ℤ, pos, ◌+ℤ◌, ◌-ℤ◌, ◌*ℤ◌, ◌≤ℤ◌, ◌<ℤ◌, Decides, refl, inl, inr, arith}
use lib.Signed.{le_z}
use Rattle.std.proofs.lemmas.Bool.{or_cases, and_parts, and_from}
use Rattle.algebra.specs.Polynomial.{Ex, var, neg, ◌⊕◌, ◌⊖◌, ◌⊗◌, by, nought}
use Rattle.algebra.proofs.Ring.{ring_from}
use Rattle.algebra.proofs.Signs.{lin, split, Tri, below, zeroed, above, tri, mul_pos, cancel_nonzero, cancel, cancel_le, mean_zero, mean_zero'}
use Rattle.plane.specs.declared.point.Point.{Point}
use Rattle.plane.specs.Points.{orientation, scaled}
use Rattle.plane.specs.Spots.{Around}
use Rattle.plane.specs.Meeting.{opposite}
use Rattle.plane.specs.PointLaws.{Before, points_equal}
use Rattle.plane.proofs.Pairs.{Between, Shared, IsEnd, Clean, straddles, ranges_meet, touches, crosses}
use Rattle.plane.proofs.Cuts.{Cut}
use Rattle.plane.proofs.Sharing.{fall_leg, fall_segment, shared_cut, shared_rise, end_by_x, end_by_y}
use Rattle.plane.proofs.Weights.{weights, heights, end_level, not_zero_above, not_zero_below, Passing, falling, rising, flat}
use Rattle.plane.proofs.Crossed.{signs, no_flat, crossed_of}

straddle_out : (u v : ℤ) → straddles u v ≡ true → Around u v
straddle_out u v e = go (or_cases (le_z u (pos 0) && le_z (pos 0) v) (le_z (pos 0) u && le_z v (pos 0)) e)
  where
    go : ((le_z u (pos 0) && le_z (pos 0) v) ≡ true) ⊎ ((le_z (pos 0) u && le_z v (pos 0)) ≡ true) → Around u v
    go (inl h) = let k = and_parts (le_z u (pos 0)) (le_z (pos 0) v) h in inl (omega (arith, lin), omega (arith, lin))
    go (inr h) = let k = and_parts (le_z (pos 0) u) (le_z v (pos 0)) h in inr (omega (arith, lin), omega (arith, lin))

straddle_in : (u v : ℤ) → Around u v → straddles u v ≡ true
straddle_in u v (inl h) = grind (arith, lin)
straddle_in u v (inr h) = grind (arith, lin)

pub ranges_sorted : (u v w z : ℤ) → u ≤ℤ v → w ≤ℤ z → ranges_meet u v w z ≡ true → (u ≤ℤ z) × (w ≤ℤ v)
ranges_sorted u v w z h k e = grind (arith, lin)

ranges_low : (u v w z : ℤ) → u ≤ℤ v → ranges_meet u v w z ≡ true → (w ≤ℤ v) ⊎ (z ≤ℤ v)
ranges_low u v w z h e = go (split w v) (split z v)
  where
    go : (w ≤ℤ v) ⊎ (v <ℤ w) → (z ≤ℤ v) ⊎ (v <ℤ z) → (w ≤ℤ v) ⊎ (z ≤ℤ v)
    go (inl i) j = inl i
    go (inr i) (inl j) = inr j
    go (inr i) (inr j) = absurd (grind (arith, lin))

ranges_high : (u v w z : ℤ) → u ≤ℤ v → ranges_meet u v w z ≡ true → (u ≤ℤ w) ⊎ (u ≤ℤ z)
ranges_high u v w z h e = go (split u w) (split u z)
  where
    go : (u ≤ℤ w) ⊎ (w <ℤ u) → (u ≤ℤ z) ⊎ (z <ℤ u) → (u ≤ℤ w) ⊎ (u ≤ℤ z)
    go (inl i) j = inl i
    go (inr i) (inl j) = inr j
    go (inr i) (inr j) = absurd (grind (arith, lin))

ranges_by : (u v w z : ℤ) → u ≤ℤ z → w ≤ℤ v → ranges_meet u v w z ≡ true
ranges_by u v w z h k = grind (arith, lin)

ranges_by' : (u v w z : ℤ) → u ≤ℤ w → z ≤ℤ v → ranges_meet u v w z ≡ true
ranges_by' u v w z h k = grind (arith, lin)

ranges_in : (u v w z k s : ℤ) → pos 0 <ℤ k → Between (k *ℤ u) (k *ℤ v) s → Between (k *ℤ w) (k *ℤ z) s → ranges_meet u v w z ≡ true
ranges_in u v w z k s h i j = go i j
  where
    shrink : (x y : ℤ) → (k *ℤ x) ≤ℤ s → s ≤ℤ (k *ℤ y) → x ≤ℤ y
    shrink x y i j = cancel_le k x y h (omega (arith, lin))

    go : Between (k *ℤ u) (k *ℤ v) s → Between (k *ℤ w) (k *ℤ z) s → ranges_meet u v w z ≡ true
    go (inl i) (inl j) = ranges_by u v w z (shrink u z i.0 j.1) (shrink w v j.0 i.1)
    go (inl i) (inr j) = ranges_by' u v w z (shrink u w i.0 j.1) (shrink z v j.0 i.1)
    go (inr i) (inl j) = let f = shrink v z i.0 j.1 in let g = shrink w u j.0 i.1 in grind (arith, lin)
    go (inr i) (inr j) = let f = shrink v w i.0 j.1 in let g = shrink z u j.0 i.1 in grind (arith, lin)

data Settled (A B P Q : ℤ) : Type 0 where
  cuts : Cut A B P Q → Settled A B P Q
  climbs : Cut B A Q P → Settled A B P Q
  level : A ≡ pos 0 → P ≡ pos 0 → Q ≡ pos 0 → Settled A B P Q

settle : (A B P Q D : ℤ) → P ≡ Q +ℤ D → B ≡ A +ℤ D → Around A B → Around P Q → Settled A B P Q
settle A B P Q D e f s t = go (tri D)
  where
    go : Tri D → Settled A B P Q
    go (below h) = climbs (record { a_under = omega (arith, lin); b_over = omega (arith, lin); p_over = omega (arith, lin); q_under = omega (arith, lin); falls = omega (arith, lin) })
    go (zeroed h) = level (omega (arith, lin)) (omega (arith, lin)) (omega (arith, lin))
    go (above h) = cuts (record { a_under = omega (arith, lin); b_over = omega (arith, lin); p_over = omega (arith, lin); q_under = omega (arith, lin); falls = omega (arith, lin) })

mean_straddles : (m n x y : ℤ) → pos 0 ≤ℤ m → pos 0 ≤ℤ n → pos 0 <ℤ (m +ℤ n) → m *ℤ x +ℤ n *ℤ y ≡ pos 0 → Around x y
mean_straddles m n x y h k s e = go (tri x) (tri y)
  where
    go : Tri x → Tri y → Around x y
    go (below i) j = inl (omega (arith, lin), mean_zero' m n x y h k s e i)
    go (above i) j = inr (omega (arith, lin), mean_zero m n x y h k s e i)
    go (zeroed i) (below j) = inr (omega (arith, lin), omega (arith, lin))
    go (zeroed i) (zeroed j) = inr (omega (arith, lin), omega (arith, lin))
    go (zeroed i) (above j) = inl (omega (arith, lin), omega (arith, lin))

-- strictly on both sides of each other
abbrev Through : (A B P Q : ℤ) → Type 0
Through A B P Q = (A <ℤ pos 0) × (pos 0 <ℤ B) × (pos 0 <ℤ P) × (Q <ℤ pos 0)

through_out : (A B P Q D : ℤ) → P ≡ Q +ℤ D → B ≡ A +ℤ D → (opposite A B && opposite P Q) ≡ true → Through A B P Q ⊎ Through B A Q P
through_out A B P Q D e f h = go (tri D)
  where
    go : Tri D → Through A B P Q ⊎ Through B A Q P
    go (below i) = inr (grind (arith, lin))
    go (zeroed i) = absurd (grind (arith, lin))
    go (above i) = inl (grind (arith, lin))

pub through_in : (A B P Q : ℤ) → A <ℤ pos 0 → pos 0 <ℤ B → pos 0 <ℤ P → Q <ℤ pos 0 → (opposite A B && opposite P Q) ≡ true
through_in A B P Q a b p q = grind (arith, lin)

pub through_in' : (A B P Q : ℤ) → pos 0 <ℤ A → B <ℤ pos 0 → P <ℤ pos 0 → pos 0 <ℤ Q → (opposite A B && opposite P Q) ≡ true
through_in' A B P Q a b p q = grind (arith, lin)

through_cut : (A B P Q : ℤ) → Through A B P Q → Cut A B P Q
through_cut A B P Q h =
    record { a_under = omega (arith, lin); b_over = omega (arith, lin); p_over = omega (arith, lin); q_under = omega (arith, lin); falls = omega (arith, lin) }

-- two means of u and v with the same weights
only_by : (k l s t u v m n i j : ℤ) → (m +ℤ n) *ℤ s ≡ k *ℤ (m *ℤ u +ℤ n *ℤ v) → (i +ℤ j) *ℤ t ≡ l *ℤ (i *ℤ u +ℤ j *ℤ v) → m *ℤ j -ℤ i *ℤ n ≡ pos 0 → pos 0 <ℤ (m +ℤ n) → pos 0 <ℤ (i +ℤ j) → k *ℤ t ≡ l *ℤ s
only_by k l s t u v m n i j e f z g h =
    cancel ((m +ℤ n) *ℤ (i +ℤ j)) (k *ℤ t) (l *ℤ s) (mul_pos (m +ℤ n) (i +ℤ j) g h)
    (ring_from (k ∷ l ∷ s ∷ t ∷ u ∷ v ∷ m ∷ n ∷ i ∷ j ∷ [])
    (by (neg (N ⊗ var 1)) (M ⊗ var 2) (var 0 ⊗ (var 6 ⊗ var 4 ⊕ var 7 ⊗ var 5))
    ∷ by (M ⊗ var 0) (N ⊗ var 3) (var 1 ⊗ (var 8 ⊗ var 4 ⊕ var 9 ⊗ var 5))
    ∷ by (var 0 ⊗ var 1 ⊗ (var 5 ⊖ var 4)) (var 6 ⊗ var 9 ⊖ var 8 ⊗ var 7) nought ∷ [])
    (e, (f, (z, tt))) (M ⊗ N ⊗ (var 0 ⊗ var 3)) (M ⊗ N ⊗ (var 1 ⊗ var 2)) refl)
  where
    M : Ex
    M = var 6 ⊕ var 7

    N : Ex
    N = var 8 ⊕ var 9

same_weights : (A B m n i j : ℤ) → ¬ (A ≡ pos 0) → m *ℤ A +ℤ n *ℤ B ≡ pos 0 → i *ℤ A +ℤ j *ℤ B ≡ pos 0 → m *ℤ j -ℤ i *ℤ n ≡ pos 0
same_weights A B m n i j h e f =
    cancel_nonzero A (m *ℤ j -ℤ i *ℤ n) h
    (ring_from (A ∷ B ∷ m ∷ n ∷ i ∷ j ∷ []) (by (var 5) (var 2 ⊗ var 0 ⊕ var 3 ⊗ var 1) nought ∷ by (neg (var 3)) (var 4 ⊗ var 0 ⊕ var 5 ⊗ var 1) nought ∷ []) (e, (f, tt)) (var 0 ⊗ (var 2 ⊗ var 5 ⊖ var 4 ⊗ var 3)) nought refl)

module _ (a b p q : Point) where
  abbrev A : ℤ
  A = orientation p q a

  abbrev B : ℤ
  B = orientation p q b

  abbrev P : ℤ
  P = orientation a b p

  abbrev Q : ℤ
  Q = orientation a b q

  abbrev s_a : Bool
  s_a = straddles A B

  abbrev s_p : Bool
  s_p = straddles P Q

  abbrev rx : Bool
  rx = ranges_meet a.x b.x p.x q.x

  abbrev ry : Bool
  ry = ranges_meet a.y b.y p.y q.y

  touch_to : Before a b → p.x ≤ℤ q.x → touches a b p q ≡ true → Shared a b p q
  touch_to l r e = go (settle A B P Q (P -ℤ Q) (fall_leg a b p q) (fall_segment a b p q) (straddle_out A B s.0) (straddle_out P Q s.1))
    where
      st : ((s_a && s_p) ≡ true) × ((rx && ry) ≡ true)
      st = and_parts (s_a && s_p) (rx && ry) e

      s : (s_a ≡ true) × (s_p ≡ true)
      s = and_parts s_a s_p st.0

      t : (rx ≡ true) × (ry ≡ true)
      t = and_parts rx ry st.1

      on_level : A ≡ pos 0 → P ≡ pos 0 → Q ≡ pos 0 → Before a b → Shared a b p q
      on_level A₀ P₀ Q₀ (inl h) = let o = ranges_sorted a.x b.x p.x q.x (omega (arith, lin)) r t.0 in (end_by_x a b p q A₀ P₀ Q₀ h o.0 o.1).0
      on_level A₀ P₀ Q₀ (inr h) = (end_by_y a b p q A₀ P₀ Q₀ h.0 h.1 (ranges_low a.y b.y p.y q.y (omega (arith, lin)) t.1) (ranges_high a.y b.y p.y q.y (omega (arith, lin)) t.1)).0

      go : Settled A B P Q → Shared a b p q
      go (cuts c) = shared_cut a b p q c
      go (climbs c) = shared_rise a b p q c
      go (level A₀ P₀ Q₀) = on_level A₀ P₀ Q₀ l

  pub touch_from : Shared a b p q → touches a b p q ≡ true
  touch_from s =
      let v = weights s.scale s.at a b s.on_segment in
      let w = weights s.scale s.at p q s.on_leg in
      and_from (s_a && s_p) (rx && ry)
      (and_from s_a s_p (straddle_in A B (mean_straddles v.m v.n A B v.m_some v.n_some v.some (heights s.scale s.at a b p q s.some_scale s.on_leg.straight v)))
      (straddle_in P Q (mean_straddles w.m w.n P Q w.m_some w.n_some w.some (heights s.scale s.at p q a b s.some_scale s.on_segment.straight w))))
      (and_from rx ry (ranges_in a.x b.x p.x q.x s.scale s.at.x s.some_scale s.on_segment.across s.on_leg.across) (ranges_in a.y b.y p.y q.y s.scale s.at.y s.some_scale s.on_segment.along s.on_leg.along))

  pub touch_test : Before a b → p.x ≤ℤ q.x → Decides (touches a b p q) (Shared a b p q)
  touch_test l r = (touch_to l r, touch_from)

  clean_of : Shared a b p q → ¬ (A ≡ pos 0) → ¬ (B ≡ pos 0) → ¬ (P ≡ pos 0) → ¬ (Q ≡ pos 0) → Clean a b p q
  clean_of s A₁ B₁ P₁ Q₁ = record { point = s; only = only; inner = inner }
    where
      only : (t : Shared a b p q) → scaled s.scale t.at ≡ scaled t.scale s.at
      only t =
          let v = weights s.scale s.at a b s.on_segment in
          let w = weights t.scale t.at a b t.on_segment in
          let z = same_weights A B v.m v.n w.m w.n A₁ (heights s.scale s.at a b p q s.some_scale s.on_leg.straight v) (heights t.scale t.at a b p q t.some_scale t.on_leg.straight w) in
          points_equal (scaled s.scale t.at) (scaled t.scale s.at)
          (only_by s.scale t.scale s.at.x t.at.x a.x b.x v.m v.n w.m w.n v.for_x w.for_x z v.some w.some)
          (only_by s.scale t.scale s.at.y t.at.y a.y b.y v.m v.n w.m w.n v.for_y w.for_y z v.some w.some)

      inner : ¬ IsEnd a b p q s
      inner (inl (inl e)) = A₁ (end_level s.scale s.at a p q s.some_scale s.on_leg e)
      inner (inl (inr e)) = B₁ (end_level s.scale s.at b p q s.some_scale s.on_leg e)
      inner (inr (inl e)) = P₁ (end_level s.scale s.at p a b s.some_scale s.on_segment e)
      inner (inr (inr e)) = Q₁ (end_level s.scale s.at q a b s.some_scale s.on_segment e)

  pub cross_to : crosses a b p q ≡ true → Clean a b p q
  cross_to e = go (through_out A B P Q (P -ℤ Q) (fall_leg a b p q) (fall_segment a b p q) e)
    where
      go : Through A B P Q ⊎ Through B A Q P → Clean a b p q
      go (inl h) = clean_of (shared_cut a b p q (through_cut A B P Q h)) (not_zero_below A h.0) (not_zero_above B h.1) (not_zero_above P h.2) (not_zero_below Q h.3)
      go (inr h) = clean_of (shared_rise a b p q (through_cut B A Q P h)) (not_zero_above A h.1) (not_zero_below B h.0) (not_zero_below P h.3) (not_zero_above Q h.2)

  cross_from : Before a b → p.x ≤ℤ q.x → Clean a b p q → crosses a b p q ≡ true
  cross_from l r c = go (signs a b p q c.point c.inner)
    where
      go : Passing A B P Q → crosses a b p q ≡ true
      go (falling A₀ B₀ P₀ Q₀) = through_in A B P Q A₀ B₀ P₀ Q₀
      go (rising A₀ B₀ P₀ Q₀) = through_in' A B P Q A₀ B₀ P₀ Q₀
      go (flat A₀ B₀ P₀ Q₀) = absurd (no_flat a b p q l r (crossed_of a b p q c) A₀ P₀ Q₀)

  pub cross_test : Before a b → p.x ≤ℤ q.x → Decides (crosses a b p q) (Clean a b p q)
  cross_test l r = (cross_to, cross_from l r)
