-- Spots at a common fineness: what legs and segments share there, by the tests on whole points (`touches_tell`, `crosses_tell`).
use Rattle.std.proofs.Common.{◌≡◌, Bool, true, List, [], ◌∷◌, ℤ, pos, ◌-ℤ◌, ◌*ℤ◌, ◌≤ℤ◌, ◌<ℤ◌, Decides, sym, refl, ap, ◌∙◌, inl, inr, arith}
use Rattle.algebra.specs.Polynomial.{con, var, neg, ◌⊖◌, ◌⊗◌, by, unit}
use Rattle.algebra.specs.Members.{◌∈◌}
use Rattle.algebra.proofs.Ring.{ring, ring_from, mul_zero, mul_one}
use Rattle.algebra.proofs.Signs.{lin, mul_pos, mul_nonneg, mul_nonpos, cancel, cancel_zero, cancel_nonneg, cancel_nonpos}
use Rattle.plane.specs.declared.point.Point.{Point}
use Rattle.plane.specs.Points.{scaled}
use Rattle.plane.specs.declared.segment.Segment.{Segment}
use Rattle.plane.specs.Meeting.{crossing}
use Rattle.plane.specs.Spots.{Spot, whole, right_of, above_of, SamePlace, Around, On, OnSegment, Touches, Crosses}
use Rattle.plane.specs.PointLaws.{points_equal, xs_of, ys_of}
use Rattle.plane.proofs.Pairs.{Between, Hits, Shared, IsEnd, Clean, touches, crosses}
use Rattle.plane.proofs.Sharing.{hits_start, hits_back}
use Rattle.plane.proofs.Any.{any_touch_test, any_cross_test, crosses_scaled}

abbrev pub place : Spot → Point
place s = record { x = s.x; y = s.y }

-- s is the place p / k
abbrev pub Stands : Spot → ℤ → Point → Type 0
Stands s k p = scaled s.k p ≡ scaled k (place s)

abbrev pub touches_at : ℤ → Point → Point → Segment → Bool
touches_at k p q l = touches (scaled k l.low) (scaled k l.high) p q

abbrev pub crosses_at : ℤ → Point → Point → Segment → Bool
crosses_at k p q l = crosses (scaled k l.low) (scaled k l.high) p q

-- each segment that the leg touches it crosses
abbrev pub Fair : List Segment → ℤ → Point → Point → Type 0
Fair ls k p q = (l : Segment) → l ∈ ls → touches_at k p q l ≡ crosses_at k p q l

-- c d = f e: d and e have one sign
nonpos_over : (c f d e : ℤ) → pos 0 <ℤ c → pos 0 <ℤ f → c *ℤ d ≡ f *ℤ e → d ≤ℤ pos 0 → e ≤ℤ pos 0
nonpos_over c f d e hc hf q h = cancel_nonpos f e hf (omega (arith, lin, mul_nonpos c d (omega (arith, lin)) h))

nonneg_over : (c f d e : ℤ) → pos 0 <ℤ c → pos 0 <ℤ f → c *ℤ d ≡ f *ℤ e → pos 0 ≤ℤ d → pos 0 ≤ℤ e
nonneg_over c f d e hc hf q h = cancel_nonneg f e hf (omega (arith, lin, mul_nonneg c d (omega (arith, lin)) h))

around_over : (c c' f g d d' e e' : ℤ) → pos 0 <ℤ c → pos 0 <ℤ c' → pos 0 <ℤ f → pos 0 <ℤ g → c *ℤ d ≡ f *ℤ e → c' *ℤ d' ≡ g *ℤ e' → Around d d' → Around e e'
around_over c c' f g d d' e e' hc hc' hf hg q r (inl h) = inl (nonpos_over c f d e hc hf q h.0, nonneg_over c' g d' e' hc' hg r h.1)
around_over c c' f g d d' e e' hc hc' hf hg q r (inr h) = inr (nonneg_over c f d e hc hf q h.0, nonpos_over c' g d' e' hc' hg r h.1)

-- four differences d and the same in another scale, e: the first and the third by c : f, the others by c' : g
straight_over : (c c' f g d₁ d₂ d₃ d₄ e₁ e₂ e₃ e₄ : ℤ) → pos 0 <ℤ (f *ℤ g) → c *ℤ d₁ ≡ f *ℤ e₁ → c' *ℤ d₂ ≡ g *ℤ e₂ → c *ℤ d₃ ≡ f *ℤ e₃ → c' *ℤ d₄ ≡ g *ℤ e₄ → d₁ *ℤ d₄ ≡ d₂ *ℤ d₃ → e₁ *ℤ e₄ ≡ e₂ *ℤ e₃
straight_over c c' f g d₁ d₂ d₃ d₄ e₁ e₂ e₃ e₄ h h₁ h₂ h₃ h₄ h₀ =
    cancel (f *ℤ g) (e₁ *ℤ e₄) (e₂ *ℤ e₃) h
    (ring_from (c ∷ c' ∷ f ∷ g ∷ d₁ ∷ d₂ ∷ d₃ ∷ d₄ ∷ e₁ ∷ e₂ ∷ e₃ ∷ e₄ ∷ [])
    (by (neg (var 3 ⊗ var 11)) (var 0 ⊗ var 4) (var 2 ⊗ var 8)
    ∷ by (neg (var 0 ⊗ var 4)) (var 1 ⊗ var 7) (var 3 ⊗ var 11)
    ∷ by (var 2 ⊗ var 10) (var 1 ⊗ var 5) (var 3 ⊗ var 9)
    ∷ by (var 1 ⊗ var 5) (var 0 ⊗ var 6) (var 2 ⊗ var 10)
    ∷ by (var 0 ⊗ var 1) (var 4 ⊗ var 7) (var 5 ⊗ var 6) ∷ [])
    (h₁, (h₄, (h₂, (h₃, (h₀, tt))))) (var 2 ⊗ var 3 ⊗ (var 8 ⊗ var 11)) (var 2 ⊗ var 3 ⊗ (var 9 ⊗ var 10)) refl)

-- one coordinate: s is p / k and u is w / (e k)
factor : (e k sk uk s u p w : ℤ) → sk *ℤ p ≡ k *ℤ s → uk *ℤ w ≡ (e *ℤ k) *ℤ u → (e *ℤ k) *ℤ (s *ℤ uk -ℤ u *ℤ sk) ≡ (sk *ℤ uk) *ℤ (e *ℤ p -ℤ w)
factor e k sk uk s u p w h j =
    ring_from (e ∷ k ∷ sk ∷ uk ∷ s ∷ u ∷ p ∷ w ∷ [])
    (by (neg (var 3 ⊗ var 0)) (var 2 ⊗ var 6) (var 1 ⊗ var 4) ∷ by (var 2) (var 3 ⊗ var 7) (var 0 ⊗ var 1 ⊗ var 5) ∷ [])
    (h, (j, tt)) (var 0 ⊗ var 1 ⊗ (var 4 ⊗ var 3 ⊖ var 5 ⊗ var 2)) (var 2 ⊗ var 3 ⊗ (var 0 ⊗ var 6 ⊖ var 7)) refl

-- of two differences, c times one is f times the other: where the one is 0, so is the other
equal_over : (c f a b x y : ℤ) → pos 0 <ℤ c → c *ℤ (a -ℤ b) ≡ f *ℤ (x -ℤ y) → y ≡ x → b ≡ a
equal_over c f a b x y hc q h =
    let z : a -ℤ b ≡ pos 0 = cancel_zero c (a -ℤ b) hc (q ∙ (ap (λ t. f *ℤ t) (none x y h) ∙ mul_zero f)) in
    omega (arith, lin)
  where
    none : (x y : ℤ) → y ≡ x → x -ℤ y ≡ pos 0
    none x y h = omega (arith, lin)

pub between_of : (u v w : ℤ) → Around (u -ℤ w) (v -ℤ w) → Between u v w
between_of u v w (inl h) = inl (omega (arith, lin), omega (arith, lin))
between_of u v w (inr h) = inr (omega (arith, lin), omega (arith, lin))

pub of_between : (u v w : ℤ) → Between u v w → Around (u -ℤ w) (v -ℤ w)
of_between u v w (inl h) = inl (omega (arith, lin), omega (arith, lin))
of_between u v w (inr h) = inr (omega (arith, lin), omega (arith, lin))

-- a spot s = p / k and a spot u = w / (e k)
module _ (k e : ℤ) (p w : Point) (s u : Spot) (hk : pos 0 <ℤ k) (he : pos 0 <ℤ e) (hs : Stands s k p) (hu : Stands u (e *ℤ k) w) where
  right_over : (e *ℤ k) *ℤ right_of s u ≡ (s.k *ℤ u.k) *ℤ (e *ℤ p.x -ℤ w.x)
  right_over = factor e k s.k u.k s.x u.x p.x w.x (xs_of hs) (xs_of hu)

  above_over : (e *ℤ k) *ℤ above_of s u ≡ (s.k *ℤ u.k) *ℤ (e *ℤ p.y -ℤ w.y)
  above_over = factor e k s.k u.k s.y u.y p.y w.y (ys_of hs) (ys_of hu)

  pub same_place_of : w ≡ scaled e p → SamePlace u s
  same_place_of h =
      (equal_over (e *ℤ k) (s.k *ℤ u.k) (s.x *ℤ u.k) (u.x *ℤ s.k) (e *ℤ p.x) w.x (mul_pos e k he hk) right_over (xs_of h), equal_over (e *ℤ k) (s.k *ℤ u.k) (s.y *ℤ u.k) (u.y *ℤ s.k) (e *ℤ p.y) w.y (mul_pos e k he hk) above_over (ys_of h))

  pub of_same_place : SamePlace u s → w ≡ scaled e p
  of_same_place h =
      let f = mul_pos s.k u.k s.fine u.fine in
      points_equal w (scaled e p)
      (equal_over (s.k *ℤ u.k) (e *ℤ k) (e *ℤ p.x) w.x (s.x *ℤ u.k) (u.x *ℤ s.k) f (sym right_over) h.0)
      (equal_over (s.k *ℤ u.k) (e *ℤ k) (e *ℤ p.y) w.y (s.y *ℤ u.k) (u.y *ℤ s.k) f (sym above_over) h.1)

-- u = w / (e k) on the leg from s = p / k to t = q / k
module _ (k e : ℤ) (p q w : Point) (s t u : Spot) (hk : pos 0 <ℤ k) (he : pos 0 <ℤ e) (hs : Stands s k p) (ht : Stands t k q) (hu : Stands u (e *ℤ k) w) where
  abbrev c : ℤ
  c = e *ℤ k

  abbrev f : ℤ
  f = s.k *ℤ u.k

  abbrev g : ℤ
  g = t.k *ℤ u.k

  c_some : pos 0 <ℤ c
  c_some = mul_pos e k he hk

  f_some : pos 0 <ℤ f
  f_some = mul_pos s.k u.k s.fine u.fine

  g_some : pos 0 <ℤ g
  g_some = mul_pos t.k u.k t.fine u.fine

  s_right : c *ℤ right_of s u ≡ f *ℤ (e *ℤ p.x -ℤ w.x)
  s_right = right_over k e p w s u hk he hs hu

  s_above : c *ℤ above_of s u ≡ f *ℤ (e *ℤ p.y -ℤ w.y)
  s_above = above_over k e p w s u hk he hs hu

  t_right : c *ℤ right_of t u ≡ g *ℤ (e *ℤ q.x -ℤ w.x)
  t_right = right_over k e q w t u hk he ht hu

  t_above : c *ℤ above_of t u ≡ g *ℤ (e *ℤ q.y -ℤ w.y)
  t_above = above_over k e q w t u hk he ht hu

  pub hits_of : On s t u → Hits e w p q
  hits_of o =
      record {
        straight = level (straight_over c c f g (right_of s u) (right_of t u) (above_of s u) (above_of t u) (e *ℤ p.x -ℤ w.x) (e *ℤ q.x -ℤ w.x) (e *ℤ p.y -ℤ w.y) (e *ℤ q.y -ℤ w.y) (mul_pos f g f_some g_some) s_right t_right s_above t_above o.straight);
        across = between_of (e *ℤ p.x) (e *ℤ q.x) w.x (around_over c c f g (right_of s u) (right_of t u) (e *ℤ p.x -ℤ w.x) (e *ℤ q.x -ℤ w.x) c_some c_some f_some g_some s_right t_right o.in_x);
        along = between_of (e *ℤ p.y) (e *ℤ q.y) w.y (around_over c c f g (above_of s u) (above_of t u) (e *ℤ p.y -ℤ w.y) (e *ℤ q.y -ℤ w.y) c_some c_some f_some g_some s_above t_above o.in_y);
      }
    where
      level : {a b : ℤ} → a ≡ b → a -ℤ b ≡ pos 0
      level {a} {b} h = omega (arith, lin)

  pub on_of : Hits e w p q → On s t u
  on_of o =
      record {
        straight = straight_over f g c c (e *ℤ p.x -ℤ w.x) (e *ℤ q.x -ℤ w.x) (e *ℤ p.y -ℤ w.y) (e *ℤ q.y -ℤ w.y) (right_of s u) (right_of t u) (above_of s u) (above_of t u) (mul_pos c c c_some c_some) (sym s_right) (sym t_right) (sym s_above) (sym t_above) (equal o.straight);
        in_x = around_over f g c c (e *ℤ p.x -ℤ w.x) (e *ℤ q.x -ℤ w.x) (right_of s u) (right_of t u) f_some g_some c_some c_some (sym s_right) (sym t_right) (of_between (e *ℤ p.x) (e *ℤ q.x) w.x o.across);
        in_y = around_over f g c c (e *ℤ p.y -ℤ w.y) (e *ℤ q.y -ℤ w.y) (above_of s u) (above_of t u) f_some g_some c_some c_some (sym s_above) (sym t_above) (of_between (e *ℤ p.y) (e *ℤ q.y) w.y o.along);
      }
    where
      equal : {a b : ℤ} → a -ℤ b ≡ pos 0 → a ≡ b
      equal {a} {b} h = omega (arith, lin)

pub stands_whole : (k : ℤ) (v : Point) → Stands (whole v) k (scaled k v)
stands_whole k v = points_equal (scaled (pos 1) (scaled k v)) (scaled k v) (one k v.x) (one k v.y)
  where
    one : (k z : ℤ) → pos 1 *ℤ (k *ℤ z) ≡ k *ℤ z
    one k z = ring (k ∷ z ∷ []) (con (pos 1) ⊗ (var 0 ⊗ var 1)) (var 0 ⊗ var 1) refl

-- the spot w / k
abbrev pub spot : (w : Point) (k : ℤ) → pos 0 <ℤ k → Spot
spot w k h = record { x = w.x; y = w.y; k = k; fine = h }

pub scaled_twice : (e k : ℤ) (w : Point) → scaled e (scaled k w) ≡ scaled (e *ℤ k) w
scaled_twice e k w = points_equal (scaled e (scaled k w)) (scaled (e *ℤ k) w) (assoc e k w.x) (assoc e k w.y)
  where
    assoc : (e k z : ℤ) → e *ℤ (k *ℤ z) ≡ (e *ℤ k) *ℤ z
    assoc e k z = ring (e ∷ k ∷ z ∷ []) (var 0 ⊗ (var 1 ⊗ var 2)) (var 0 ⊗ var 1 ⊗ var 2) refl

-- one coordinate of one place, in two forms
re_scale : (a z b c d : ℤ) → z *ℤ a ≡ d *ℤ (b *ℤ c) → a *ℤ z ≡ b *ℤ (c *ℤ d)
re_scale a z b c d e =
    ring_from (a ∷ z ∷ b ∷ c ∷ d ∷ []) (by unit (var 1 ⊗ var 0) (var 4 ⊗ (var 2 ⊗ var 3)) ∷ []) (e, tt) (var 0 ⊗ var 1) (var 2 ⊗ (var 3 ⊗ var 4)) refl

re_scale' : (a b c d e : ℤ) → a *ℤ (b *ℤ c) ≡ d *ℤ e → c *ℤ (a *ℤ b) ≡ e *ℤ d
re_scale' a b c d e h =
    ring_from (a ∷ b ∷ c ∷ d ∷ e ∷ []) (by unit (var 0 ⊗ (var 1 ⊗ var 2)) (var 3 ⊗ var 4) ∷ []) (h, tt) (var 2 ⊗ (var 0 ⊗ var 1)) (var 4 ⊗ var 3) refl

-- a leg from s = p / k to t = q / k, and a segment
module _ (k : ℤ) (p q : Point) (s t : Spot) (hk : pos 0 <ℤ k) (hs : Stands s k p) (ht : Stands t k q) (l : Segment) where
  abbrev a : Point
  a = scaled k l.low

  abbrev b : Point
  b = scaled k l.high

  abbrev Both : Type 0
  Both = Shared a b p q

  abbrev spot_of : Both → Spot
  spot_of z = spot z.at (z.scale *ℤ k) (mul_pos z.scale k z.some_scale hk)

  low_stands : Stands (whole l.low) k a
  low_stands = stands_whole k l.low

  high_stands : Stands (whole l.high) k b
  high_stands = stands_whole k l.high

  shared_of : (u : Spot) → On s t u → OnSegment l u → Both
  shared_of u o n =
      record {
        scale = u.k;
        at = scaled k (place u);
        some_scale = u.fine;
        on_segment = hits_of k u.k a b (scaled k (place u)) (whole l.low) (whole l.high) u hk u.fine low_stands high_stands (scaled_twice u.k k (place u)) n;
        on_leg = hits_of k u.k p q (scaled k (place u)) s t u hk u.fine hs ht (scaled_twice u.k k (place u)) o;
      }

  spot_on_leg : (z : Both) → On s t (spot_of z)
  spot_on_leg z = on_of k z.scale p q z.at s t (spot_of z) hk z.some_scale hs ht refl z.on_leg

  spot_on_segment : (z : Both) → OnSegment l (spot_of z)
  spot_on_segment z = on_of k z.scale a b z.at (whole l.low) (whole l.high) (spot_of z) hk z.some_scale low_stands high_stands refl z.on_segment

  pub touches_tell : Decides (touches_at k p q l) (Touches s t l)
  touches_tell =
      let d = any_touch_test a b p q in
      (λ e. let z = d.0 e in (spot_of z, spot_on_leg z, spot_on_segment z), λ h. d.1 (shared_of h.0 h.1 h.2))

  clean_of : Crosses s t l → Clean a b p q
  unfolding shared_of
  clean_of c = record { point = z; only = alone; inner = no_end }
    where
      z : Both
      z = shared_of c.at c.on_leg c.on_segment

      alone : (y : Both) → scaled z.scale y.at ≡ scaled y.scale z.at
      alone y =
          let h = c.only (spot_of y) (spot_on_leg y) (spot_on_segment y) in
          points_equal (scaled z.scale y.at) (scaled y.scale z.at) (re_scale c.at.k y.at.x y.scale k c.at.x h.0) (re_scale c.at.k y.at.y y.scale k c.at.y h.1)

      end : (r : Spot) (o : Point) → Stands r k o → z.at ≡ scaled z.scale o → SamePlace c.at r
      end r o h e = same_place_of k c.at.k o (scaled k (place c.at)) r c.at hk c.at.fine h (scaled_twice c.at.k k (place c.at)) e

      no_end : ¬ IsEnd a b p q z
      no_end (inl (inl e)) = c.inner.2 (end (whole l.low) a low_stands e)
      no_end (inl (inr e)) = c.inner.3 (end (whole l.high) b high_stands e)
      no_end (inr (inl e)) = c.inner.0 (end s p hs e)
      no_end (inr (inr e)) = c.inner.1 (end t q ht e)

  crosses_of : Clean a b p q → Crosses s t l
  unfolding shared_of
  crosses_of c =
      record {
        at = m;
        on_leg = spot_on_leg c.point;
        on_segment = spot_on_segment c.point;
        only = alone;
        inner = (λ h. c.inner (inr (inl (end s p hs h))), λ h. c.inner (inr (inr (end t q ht h))), λ h. c.inner (inl (inl (end (whole l.low) a low_stands h))), λ h. c.inner (inl (inr (end (whole l.high) b high_stands h))));
      }
    where
      z : Both
      z = c.point

      m : Spot
      m = spot_of z

      alone : (u : Spot) → On s t u → OnSegment l u → SamePlace u m
      alone u o n =
          let h = c.only (shared_of u o n) in
          (re_scale' z.scale k u.x u.k z.at.x (xs_of h), re_scale' z.scale k u.y u.k z.at.y (ys_of h))

      end : (r : Spot) (o : Point) → Stands r k o → SamePlace m r → z.at ≡ scaled z.scale o
      end r o h e = of_same_place k z.scale o z.at r m hk z.some_scale h refl e

  pub crosses_tell : Decides (crosses_at k p q l) (Crosses s t l)
  crosses_tell =
      let d = any_cross_test a b p q in
      (λ e. crosses_of (d.0 e), λ c. d.1 (clean_of c))

-- a leg that crosses a segment touches it
pub cross_touch : (a b p q : Point) → crosses a b p q ≡ true → touches a b p q ≡ true
cross_touch a b p q e = (any_touch_test a b p q).1 ((any_cross_test a b p q).0 e).point

-- a spot at its own fineness
stands_own : (u : Spot) → Stands u (u.k *ℤ pos 1) (place u)
stands_own u = ap (λ c. scaled c (place u)) (sym (mul_one u.k))

pub same_as_whole : (u : Spot) (v : Point) → place u ≡ scaled u.k v → SamePlace u (whole v)
same_as_whole u v e = same_place_of (pos 1) u.k v (place u) (whole v) u (omega (arith, lin)) u.fine refl (stands_own u) e

module _ (l : Segment) where
  pub hits_own : (u : Spot) → OnSegment l u → Hits u.k (place u) l.low l.high
  hits_own u o = hits_of (pos 1) u.k l.low l.high (place u) (whole l.low) (whole l.high) u (omega (arith, lin)) u.fine refl refl (stands_own u) o

  -- a whole point of it
  pub whole_on : (c : Point) → Hits (pos 1) (scaled (pos 1) c) l.low l.high → OnSegment l (whole c)
  whole_on c o = on_of (pos 1) (pos 1) l.low l.high (scaled (pos 1) c) (whole l.low) (whole l.high) (whole c) (omega (arith, lin)) (omega (arith, lin)) refl refl (scaled_twice (pos 1) (pos 1) c) o

  pub low_on : OnSegment l (whole l.low)
  low_on = whole_on l.low (hits_start l.low l.high)

  pub high_on : OnSegment l (whole l.high)
  high_on = whole_on l.high (hits_back (pos 1) (scaled (pos 1) l.high) l.high l.low (hits_start l.high l.low))

-- the test of two segments
pub crossing_tells : (l m : Segment) → Decides (crossing l m) (Crosses (whole m.low) (whole m.high) l)
crossing_tells l m = (λ e. tells.0 (same ∙ e), λ c. sym same ∙ tells.1 c)
  where
    same : crosses_at (pos 1) (scaled (pos 1) m.low) (scaled (pos 1) m.high) l ≡ crossing l m
    same = crosses_scaled (pos 1) (omega (arith, lin)) l.low l.high m.low m.high

    tells : Decides (crosses_at (pos 1) (scaled (pos 1) m.low) (scaled (pos 1) m.high) l) (Crosses (whole m.low) (whole m.high) l)
    tells = crosses_tell (pos 1) (scaled (pos 1) m.low) (scaled (pos 1) m.high) (whole m.low) (whole m.high) (omega (arith, lin)) (stands_whole (pos 1) m.low) (stands_whole (pos 1) m.high) l
