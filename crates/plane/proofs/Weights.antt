-- What a shared point tells: its `weights` on the ends of the segment and of the leg, and from them the signs of the `heights` (`opposed`, `passing`).
use Rattle.std.proofs.Common.{◌≡◌, ◌⊎◌, [], ◌∷◌, ℤ, pos, ◌+ℤ◌, ◌-ℤ◌, ◌*ℤ◌, ◌≤ℤ◌, ◌<ℤ◌, refl, ap, inl, inr, arith}
use Rattle.algebra.specs.Polynomial.{Ex, con, var, ◌⊕◌, ◌⊖◌, ◌⊗◌, by, nought, unit, minus_unit}
use Rattle.algebra.proofs.Ring.{ring, ring_from, mul_zero}
use Rattle.algebra.proofs.Signs.{lin, split, Tri, below, zeroed, above, tri, mul_pos, mul_neg, cancel_pos, cancel_neg, cancel_zero, cancel}
use Rattle.plane.specs.declared.point.Point.{Point}
use Rattle.plane.specs.Points.{orientation, scaled}
use Rattle.plane.specs.PointLaws.{points_equal, xs_of, ys_of}
use Rattle.plane.proofs.Pairs.{Between, Hits, turn_e, turn_x, x_e, y_e}

-- s / k is u and v with weights m and n, coordinate by coordinate
pub record Weighed (k sx sy ux uy vx vy : ℤ) : Type 0 where
  pub m : ℤ
  pub n : ℤ
  pub m_some : pos 0 ≤ℤ m
  pub n_some : pos 0 ≤ℤ n
  pub some : pos 0 <ℤ (m +ℤ n)
  pub for_x : (m +ℤ n) *ℤ sx ≡ k *ℤ (m *ℤ ux +ℤ n *ℤ vx)
  pub for_y : (m +ℤ n) *ℤ sy ≡ k *ℤ (m *ℤ uy +ℤ n *ℤ vy)

pub transposed : (k sx sy ux uy vx vy : ℤ) → Weighed k sy sx uy ux vy vx → Weighed k sx sy ux uy vx vy
transposed k sx sy ux uy vx vy w =
    record { m = w.m; n = w.n; m_some = w.m_some; n_some = w.n_some; some = w.some; for_x = w.for_y; for_y = w.for_x }

pub renamed : (k sx sy ux uy vx vy : ℤ) → Weighed k sx sy vx vy ux uy → Weighed k sx sy ux uy vx vy
renamed k sx sy ux uy vx vy w =
    record {
      m = w.n;
      n = w.m;
      m_some = w.n_some;
      n_some = w.m_some;
      some = omega (arith, lin);
      for_x = ring_from (k ∷ sx ∷ ux ∷ vx ∷ w.m ∷ w.n ∷ []) (by unit ((var 4 ⊕ var 5) ⊗ var 1) (var 0 ⊗ (var 4 ⊗ var 3 ⊕ var 5 ⊗ var 2)) ∷ []) (w.for_x, tt) ((var 5 ⊕ var 4) ⊗ var 1) (var 0 ⊗ (var 5 ⊗ var 2 ⊕ var 4 ⊗ var 3)) refl;
      for_y = ring_from (k ∷ sy ∷ uy ∷ vy ∷ w.m ∷ w.n ∷ []) (by unit ((var 4 ⊕ var 5) ⊗ var 1) (var 0 ⊗ (var 4 ⊗ var 3 ⊕ var 5 ⊗ var 2)) ∷ []) (w.for_y, tt) ((var 5 ⊕ var 4) ⊗ var 1) (var 0 ⊗ (var 5 ⊗ var 2 ⊕ var 4 ⊗ var 3)) refl;
    }

-- s / k is straight between u and v
abbrev pub Level : (k sx sy ux uy vx vy : ℤ) → Type 0
Level k sx sy ux uy vx vy = (k *ℤ ux -ℤ sx) *ℤ (k *ℤ vy -ℤ sy) -ℤ (k *ℤ vx -ℤ sx) *ℤ (k *ℤ uy -ℤ sy) ≡ pos 0

abbrev pub level_e : Ex
level_e = turn_x (var 0 ⊗ var 3) (var 0 ⊗ var 4) (var 0 ⊗ var 5) (var 0 ⊗ var 6) (var 1) (var 2)

-- by x, where the ends differ there
pub weigh_x : (k sx sy ux uy vx vy : ℤ) → (k *ℤ ux) ≤ℤ sx → sx ≤ℤ (k *ℤ vx) → (k *ℤ ux) <ℤ (k *ℤ vx) → Level k sx sy ux uy vx vy → Weighed k sx sy ux uy vx vy
weigh_x k sx sy ux uy vx vy h i l e =
    record {
      m = k *ℤ vx -ℤ sx;
      n = sx -ℤ k *ℤ ux;
      m_some = omega (arith, lin);
      n_some = omega (arith, lin);
      some = omega (arith, lin);
      for_x = ring (k ∷ sx ∷ sy ∷ ux ∷ uy ∷ vx ∷ vy ∷ []) ((M ⊕ N) ⊗ var 1) (var 0 ⊗ (M ⊗ var 3 ⊕ N ⊗ var 5)) refl;
      for_y = ring_from (k ∷ sx ∷ sy ∷ ux ∷ uy ∷ vx ∷ vy ∷ []) (by unit level_e nought ∷ []) (e, tt) ((M ⊕ N) ⊗ var 2) (var 0 ⊗ (M ⊗ var 4 ⊕ N ⊗ var 6)) refl;
    }
  where
    M : Ex
    M = var 0 ⊗ var 5 ⊖ var 1

    N : Ex
    N = var 1 ⊖ var 0 ⊗ var 3

pub level_renamed : (k sx sy ux uy vx vy : ℤ) → Level k sx sy ux uy vx vy → Level k sx sy vx vy ux uy
level_renamed k sx sy ux uy vx vy e =
    ring_from (k ∷ sx ∷ sy ∷ ux ∷ uy ∷ vx ∷ vy ∷ []) (by minus_unit level_e nought ∷ []) (e, tt) (turn_x (var 0 ⊗ var 5) (var 0 ⊗ var 6) (var 0 ⊗ var 3) (var 0 ⊗ var 4) (var 1) (var 2)) nought refl

pub level_transposed : (k sx sy ux uy vx vy : ℤ) → Level k sx sy ux uy vx vy → Level k sy sx uy ux vy vx
level_transposed k sx sy ux uy vx vy e =
    ring_from (k ∷ sx ∷ sy ∷ ux ∷ uy ∷ vx ∷ vy ∷ []) (by minus_unit level_e nought ∷ []) (e, tt) (turn_x (var 0 ⊗ var 4) (var 0 ⊗ var 3) (var 0 ⊗ var 6) (var 0 ⊗ var 5) (var 2) (var 1)) nought refl

-- by x, or the ends do not differ there
pub weigh_by_x : (k sx sy ux uy vx vy : ℤ) → Between (k *ℤ ux) (k *ℤ vx) sx → Level k sx sy ux uy vx vy → Weighed k sx sy ux uy vx vy ⊎ ((sx ≡ k *ℤ ux) × (sx ≡ k *ℤ vx))
weigh_by_x k sx sy ux uy vx vy (inl h) e = go (split (k *ℤ vx) (k *ℤ ux))
  where
    go : ((k *ℤ vx) ≤ℤ (k *ℤ ux)) ⊎ ((k *ℤ ux) <ℤ (k *ℤ vx)) → Weighed k sx sy ux uy vx vy ⊎ ((sx ≡ k *ℤ ux) × (sx ≡ k *ℤ vx))
    go (inl l) = inr (omega (arith, lin), omega (arith, lin))
    go (inr l) = inl (weigh_x k sx sy ux uy vx vy h.0 h.1 l e)
weigh_by_x k sx sy ux uy vx vy (inr h) e = go (split (k *ℤ ux) (k *ℤ vx))
  where
    go : ((k *ℤ ux) ≤ℤ (k *ℤ vx)) ⊎ ((k *ℤ vx) <ℤ (k *ℤ ux)) → Weighed k sx sy ux uy vx vy ⊎ ((sx ≡ k *ℤ ux) × (sx ≡ k *ℤ vx))
    go (inl l) = inr (omega (arith, lin), omega (arith, lin))
    go (inr l) = inl (renamed k sx sy ux uy vx vy (weigh_x k sx sy vx vy ux uy h.0 h.1 l (level_renamed k sx sy ux uy vx vy e)))

pub all_of_u : (k s u v : ℤ) → s ≡ k *ℤ u → (pos 1 +ℤ pos 0) *ℤ s ≡ k *ℤ (pos 1 *ℤ u +ℤ pos 0 *ℤ v)
all_of_u k s u v e = ring_from (k ∷ s ∷ u ∷ v ∷ []) (by unit (var 1) (var 0 ⊗ var 2) ∷ []) (e, tt) (con (pos 1) ⊗ var 1) (var 0 ⊗ (con (pos 1) ⊗ var 2 ⊕ con (pos 0) ⊗ var 3)) refl

pub weights : (k : ℤ) (s u v : Point) → Hits k s u v → Weighed k s.x s.y u.x u.y v.x v.y
weights k s u v o = first (weigh_by_x k s.x s.y u.x u.y v.x v.y o.across o.straight)
  where
    second : (s.x ≡ k *ℤ u.x) → Weighed k s.y s.x u.y u.x v.y v.x ⊎ ((s.y ≡ k *ℤ u.y) × (s.y ≡ k *ℤ v.y)) → Weighed k s.x s.y u.x u.y v.x v.y
    second e (inl w) = transposed k s.x s.y u.x u.y v.x v.y w
    second e (inr f) =
        record { m = pos 1; n = pos 0; m_some = omega (arith, lin); n_some = omega (arith, lin); some = omega (arith, lin); for_x = all_of_u k s.x u.x v.x e; for_y = all_of_u k s.y u.y v.y f.0 }

    first : Weighed k s.x s.y u.x u.y v.x v.y ⊎ ((s.x ≡ k *ℤ u.x) × (s.x ≡ k *ℤ v.x)) → Weighed k s.x s.y u.x u.y v.x v.y
    first (inl w) = w
    first (inr e) = second e.0 (weigh_by_x k s.y s.x u.y u.x v.y v.x o.along (level_transposed k s.x s.y u.x u.y v.x v.y o.straight))

-- a point straight along the leg that is a mean of u and v: so are the heights, and their mean is 0
pub heights : (k : ℤ) (s u v p q : Point) → pos 0 <ℤ k → orientation (scaled k p) (scaled k q) s ≡ pos 0 → (w : Weighed k s.x s.y u.x u.y v.x v.y) → w.m *ℤ orientation p q u +ℤ w.n *ℤ orientation p q v ≡ pos 0
heights k s u v p q h e w =
    cancel_zero (k *ℤ k) (w.m *ℤ orientation p q u +ℤ w.n *ℤ orientation p q v) (mul_pos k k h h)
    (ring_from (u.x ∷ u.y ∷ v.x ∷ v.y ∷ p.x ∷ p.y ∷ q.x ∷ q.y ∷ s.x ∷ s.y ∷ k ∷ w.m ∷ w.n ∷ [])
    (by (M ⊕ N) (turn_x (K ⊗ x_e 2) (K ⊗ y_e 2) (K ⊗ x_e 3) (K ⊗ y_e 3) (x_e 4) (y_e 4)) nought
    ∷ by (K ⊗ (y_e 3 ⊖ y_e 2)) ((M ⊕ N) ⊗ x_e 4) (K ⊗ (M ⊗ x_e 0 ⊕ N ⊗ x_e 1))
    ∷ by (K ⊗ (x_e 2 ⊖ x_e 3)) ((M ⊕ N) ⊗ y_e 4) (K ⊗ (M ⊗ y_e 0 ⊕ N ⊗ y_e 1)) ∷ [])
    (e, (w.for_x, (w.for_y, tt))) (K ⊗ K ⊗ (M ⊗ turn_e 2 3 0 ⊕ N ⊗ turn_e 2 3 1)) nought refl)
  where
    K : Ex
    K = var 10

    M : Ex
    M = var 11

    N : Ex
    N = var 12

-- a point of the leg that is u: u has no height over the leg
pub end_level : (k : ℤ) (s u p q : Point) → pos 0 <ℤ k → Hits k s p q → s ≡ scaled k u → orientation p q u ≡ pos 0
end_level k s u p q h o e =
    cancel_zero (k *ℤ k) (orientation p q u) (mul_pos k k h h)
    (ring_from (u.x ∷ u.y ∷ p.x ∷ p.y ∷ q.x ∷ q.y ∷ s.x ∷ s.y ∷ k ∷ [])
    (by unit (turn_x (var 8 ⊗ x_e 1) (var 8 ⊗ y_e 1) (var 8 ⊗ x_e 2) (var 8 ⊗ y_e 2) (x_e 3) (y_e 3)) nought
    ∷ by (var 8 ⊗ (y_e 2 ⊖ y_e 1)) (x_e 3) (var 8 ⊗ x_e 0)
    ∷ by (var 8 ⊗ (x_e 1 ⊖ x_e 2)) (y_e 3) (var 8 ⊗ y_e 0) ∷ [])
    (o.straight, (xs_of e, (ys_of e, tt))) (var 8 ⊗ var 8 ⊗ turn_e 1 2 0) nought refl)

-- with no weight on v it is u
pub no_weight : (k s u v m n : ℤ) → (m +ℤ n) *ℤ s ≡ k *ℤ (m *ℤ u +ℤ n *ℤ v) → n ≡ pos 0 → pos 0 <ℤ m → s ≡ k *ℤ u
no_weight k s u v m n e z h =
    cancel m s (k *ℤ u) h
    (ring_from (k ∷ s ∷ u ∷ v ∷ m ∷ n ∷ [])
    (by unit ((var 4 ⊕ var 5) ⊗ var 1) (var 0 ⊗ (var 4 ⊗ var 2 ⊕ var 5 ⊗ var 3)) ∷ by (var 0 ⊗ var 3 ⊖ var 1) (var 5) nought ∷ [])
    (e, (z, tt)) (var 4 ⊗ var 1) (var 4 ⊗ (var 0 ⊗ var 2)) refl)

pub weight_on_v : (k : ℤ) (s u v : Point) (w : Weighed k s.x s.y u.x u.y v.x v.y) → ¬ (s ≡ scaled k u) → pos 0 <ℤ w.n
weight_on_v k s u v w no_u = go (split w.n (pos 0))
  where
    go : (w.n ≤ℤ pos 0) ⊎ (pos 0 <ℤ w.n) → pos 0 <ℤ w.n
    go (inl h) =
        let z : w.n ≡ pos 0 = omega (arith, lin) in
        let g : pos 0 <ℤ w.m = omega (arith, lin) in
        absurd (no_u (points_equal s (scaled k u) (no_weight k s.x u.x v.x w.m w.n w.for_x z g) (no_weight k s.y u.y v.y w.m w.n w.for_y z g)))
    go (inr h) = h

pub weight_on_u : (k : ℤ) (s u v : Point) (w : Weighed k s.x s.y u.x u.y v.x v.y) → ¬ (s ≡ scaled k v) → pos 0 <ℤ w.m
unfolding renamed
weight_on_u k s u v w no_v = weight_on_v k s v u (renamed k s.x s.y v.x v.y u.x u.y w) no_v

-- where s / k is at v already in one coordinate, so is u
pub edge : (k s u v m n : ℤ) → (m +ℤ n) *ℤ s ≡ k *ℤ (m *ℤ u +ℤ n *ℤ v) → pos 0 <ℤ k → pos 0 <ℤ m → s ≡ k *ℤ v → u ≡ v
edge k s u v m n e hk hm z =
    cancel (k *ℤ m) u v (mul_pos k m hk hm)
    (ring_from (k ∷ s ∷ u ∷ v ∷ m ∷ n ∷ [])
    (by minus_unit ((var 4 ⊕ var 5) ⊗ var 1) (var 0 ⊗ (var 4 ⊗ var 2 ⊕ var 5 ⊗ var 3)) ∷ by (var 4 ⊕ var 5) (var 1) (var 0 ⊗ var 3) ∷ [])
    (e, (z, tt)) (var 0 ⊗ var 4 ⊗ var 2) (var 0 ⊗ var 4 ⊗ var 3) refl)

-- two numbers whose mean, with weight on both, is 0
pub data Opposed (u v : ℤ) : Type 0 where
  rises : u <ℤ pos 0 → pos 0 <ℤ v → Opposed u v
  rests : u ≡ pos 0 → v ≡ pos 0 → Opposed u v
  drops : pos 0 <ℤ u → v <ℤ pos 0 → Opposed u v

pub opposed : (m n u v : ℤ) → pos 0 <ℤ m → pos 0 <ℤ n → m *ℤ u +ℤ n *ℤ v ≡ pos 0 → Opposed u v
opposed m n u v hm hn e = go (tri u)
  where
    go : Tri u → Opposed u v
    go (below h) = rises h (cancel_pos n v (omega (arith, lin)) (omega (arith, lin, mul_neg m u hm h)))
    go (zeroed h) = rests h (cancel_zero n v hn (omega (arith, lin, ap (λ t. m *ℤ t) h, mul_zero m)))
    go (above h) = drops h (cancel_neg n v (omega (arith, lin)) (omega (arith, lin, mul_pos m u hm h)))

-- the heights of a and b over the leg, and of p and q over the segment: the leg goes down through the segment, or up through it, or lies along it
pub data Passing (A B P Q : ℤ) : Type 0 where
  falling : A <ℤ pos 0 → pos 0 <ℤ B → pos 0 <ℤ P → Q <ℤ pos 0 → Passing A B P Q
  rising : pos 0 <ℤ A → B <ℤ pos 0 → P <ℤ pos 0 → pos 0 <ℤ Q → Passing A B P Q
  flat : A ≡ pos 0 → B ≡ pos 0 → P ≡ pos 0 → Q ≡ pos 0 → Passing A B P Q

pub passing : (A B P Q D : ℤ) → P ≡ Q +ℤ D → B ≡ A +ℤ D → Opposed A B → Opposed P Q → Passing A B P Q
passing A B P Q D e f (rises a b) (rises p q) = absurd (omega (arith, lin))
passing A B P Q D e f (rises a b) (rests p q) = absurd (omega (arith, lin))
passing A B P Q D e f (rises a b) (drops p q) = falling a b p q
passing A B P Q D e f (rests a b) (rises p q) = absurd (omega (arith, lin))
passing A B P Q D e f (rests a b) (rests p q) = flat a b p q
passing A B P Q D e f (rests a b) (drops p q) = absurd (omega (arith, lin))
passing A B P Q D e f (drops a b) (rises p q) = rising a b p q
passing A B P Q D e f (drops a b) (rests p q) = absurd (omega (arith, lin))
passing A B P Q D e f (drops a b) (drops p q) = absurd (omega (arith, lin))

pub in_order : (u v w : ℤ) → u ≤ℤ v → Between u v w → (u ≤ℤ w) × (w ≤ℤ v)
in_order u v w h (inl k) = k
in_order u v w h (inr k) = (omega (arith, lin), omega (arith, lin))

pub not_zero_above : (z : ℤ) → pos 0 <ℤ z → ¬ (z ≡ pos 0)
not_zero_above z h e = omega (arith, lin)

pub not_zero_below : (z : ℤ) → z <ℤ pos 0 → ¬ (z ≡ pos 0)
not_zero_below z h e = omega (arith, lin)
