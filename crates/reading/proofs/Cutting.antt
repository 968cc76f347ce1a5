-- A leg cut in three at one of the lines that it crosses, against all lines: `cut`.
use Rattle.std.proofs.Common.{◌≡◌, true, false, ◌⊎◌, List, [], ◌∷◌, ℤ, pos, ◌+ℤ◌, ◌-ℤ◌, ◌*ℤ◌, neg_ℤ, ◌≤ℤ◌, ◌<ℤ◌, sym, refl, ap, ◌∙◌, subst, subst₂, inl, inr, arith}
use Rattle.std.proofs.lemmas.Bool.{and_parts}
use Rattle.algebra.specs.Members.{◌∈◌}
use Rattle.algebra.specs.Polynomial.{var, neg, ◌⊕◌, ◌⊖◌, ◌⊗◌, by, minus_unit, nought}
use Rattle.algebra.specs.Parity.{differ}
use Rattle.algebra.proofs.Ring.{ring_from, mul_comm}
use Rattle.algebra.proofs.Signs.{lin, mul_pos, cancel}
use Rattle.algebra.proofs.Members.{apart}
use Rattle.plane.specs.declared.point.Point.{Point}
use Rattle.plane.specs.declared.segment.Segment.{Segment}
use Rattle.plane.specs.Points.{orientation, scaled}
use Rattle.plane.specs.Spots.{Spot, whole, SamePlace, OnSegment, EndOf}
use Rattle.plane.specs.Meeting.{opposite}
use Rattle.plane.proofs.Pairs.{Hits, Shared, Clean, turn_e, x_e, y_e, A', B', P', Q'}
use Rattle.plane.proofs.Sharing.{hits_back}
use Rattle.plane.proofs.Weights.{Weighed, weights, heights, weight_on_u, weight_on_v}
use Rattle.plane.proofs.Any.{any_cross_test}
use Rattle.plane.proofs.Bridge.{touches_at, crosses_at, Fair, spot, on_of, of_same_place, stands_whole, scaled_twice}
use Rattle.reading.specs.Reading.{Planar}
use Rattle.reading.proofs.Lists.{same_or_not, bound, bound_some, bounded}
use Rattle.reading.proofs.Opposites.{UpOrDown, opposite_cases}
use Rattle.reading.proofs.Stretches.{hits_weighed}
use Rattle.reading.proofs.Parts.{grain, short_of, past, some_grain, There, Elsewhere, crossed_there, crossed_elsewhere}

-- the leg from p to q cut just short of m and just past it, in a scale that is finer by a factor
pub record CutAt (ls : List Segment) (m : Segment) (k : ℤ) (p q : Point) : Type 0 where
  pub factor : ℤ
  pub some : pos 0 <ℤ factor
  pub short : Point
  pub beyond : Point
  pub fair_first : Fair ls (k *ℤ factor) (scaled factor p) short
  pub fair_last : Fair ls (k *ℤ factor) beyond (scaled factor q)
  pub crossed : crosses_at (k *ℤ factor) short beyond m ≡ true
  pub clear : (l : Segment) → l ∈ ls → ¬ (l ≡ m) → touches_at (k *ℤ factor) short beyond l ≡ false
  pub one : (l : Segment) → l ∈ ls → ¬ (l ≡ m) → crosses_at k p q l ≡ differ (crosses_at (k *ℤ factor) (scaled factor p) short l) (crosses_at (k *ℤ factor) beyond (scaled factor q) l)
  pub first_in : (l : Segment) → l ∈ ls → crosses_at (k *ℤ factor) (scaled factor p) short l ≡ true → ¬ (l ≡ m) × (crosses_at k p q l ≡ true)
  pub last_in : (l : Segment) → l ∈ ls → crosses_at (k *ℤ factor) beyond (scaled factor q) l ≡ true → ¬ (l ≡ m) × (crosses_at k p q l ≡ true)

-- a point of the leg that has no height over the line from a to b, where a and b lie on the two sides of the leg
on_rising : (a b p q : Point) (e : ℤ) (z : Point) (w : Weighed e z.x z.y p.x p.y q.x q.y) → orientation p q a <ℤ pos 0 → pos 0 <ℤ orientation p q b → w.m *ℤ orientation a b p +ℤ w.n *ℤ orientation a b q ≡ pos 0 → Hits e z a b
on_rising a b p q e z w ha hb h =
    hits_weighed e z a b
    (record {
      m = B;
      n = neg_ℤ A;
      m_some = omega (arith, lin, hb);
      n_some = omega (arith, lin, ha);
      some = omega (arith, lin, ha, hb);
      for_x = cancel (w.m +ℤ w.n) ((B +ℤ neg_ℤ A) *ℤ z.x) (e *ℤ (B *ℤ a.x +ℤ neg_ℤ A *ℤ b.x)) w.some (ring_from (a.x ∷ a.y ∷ b.x ∷ b.y ∷ p.x ∷ p.y ∷ q.x ∷ q.y ∷ e ∷ z.x ∷ w.m ∷ w.n ∷ []) (by (P' ⊖ Q') ((var 10 ⊕ var 11) ⊗ var 9) (var 8 ⊗ (var 10 ⊗ x_e 2 ⊕ var 11 ⊗ x_e 3)) ∷ by (var 8 ⊗ (x_e 2 ⊖ x_e 3)) (var 10 ⊗ P' ⊕ var 11 ⊗ Q') nought ∷ []) (w.for_x, (h, tt)) ((var 10 ⊕ var 11) ⊗ ((B' ⊕ neg A') ⊗ var 9)) ((var 10 ⊕ var 11) ⊗ (var 8 ⊗ (B' ⊗ x_e 0 ⊕ neg A' ⊗ x_e 1))) refl);
      for_y = cancel (w.m +ℤ w.n) ((B +ℤ neg_ℤ A) *ℤ z.y) (e *ℤ (B *ℤ a.y +ℤ neg_ℤ A *ℤ b.y)) w.some (ring_from (a.x ∷ a.y ∷ b.x ∷ b.y ∷ p.x ∷ p.y ∷ q.x ∷ q.y ∷ e ∷ z.y ∷ w.m ∷ w.n ∷ []) (by (P' ⊖ Q') ((var 10 ⊕ var 11) ⊗ var 9) (var 8 ⊗ (var 10 ⊗ y_e 2 ⊕ var 11 ⊗ y_e 3)) ∷ by (var 8 ⊗ (y_e 2 ⊖ y_e 3)) (var 10 ⊗ P' ⊕ var 11 ⊗ Q') nought ∷ []) (w.for_y, (h, tt)) ((var 10 ⊕ var 11) ⊗ ((B' ⊕ neg A') ⊗ var 9)) ((var 10 ⊕ var 11) ⊗ (var 8 ⊗ (B' ⊗ y_e 0 ⊕ neg A' ⊗ y_e 1))) refl);
    })
  where
    A : ℤ
    A = orientation p q a

    B : ℤ
    B = orientation p q b

on_crossed : (a b p q : Point) (e : ℤ) (z : Point) (w : Weighed e z.x z.y p.x p.y q.x q.y) → opposite (orientation p q a) (orientation p q b) ≡ true → w.m *ℤ orientation a b p +ℤ w.n *ℤ orientation a b q ≡ pos 0 → Hits e z a b
on_crossed a b p q e z w o h = go (opposite_cases (orientation p q a) (orientation p q b) o)
  where
    other : w.m *ℤ orientation b a p +ℤ w.n *ℤ orientation b a q ≡ pos 0
    other = ring_from (a.x ∷ a.y ∷ b.x ∷ b.y ∷ p.x ∷ p.y ∷ q.x ∷ q.y ∷ w.m ∷ w.n ∷ []) (by minus_unit (var 8 ⊗ P' ⊕ var 9 ⊗ Q') nought ∷ []) (h, tt) (var 8 ⊗ turn_e 1 0 2 ⊕ var 9 ⊗ turn_e 1 0 3) nought refl

    go : UpOrDown (orientation p q a) (orientation p q b) → Hits e z a b
    go (inl s) = on_rising a b p q e z w s.0 s.1 h
    go (inr s) = hits_back e z b a (on_rising b a p q e z w s.1 s.0 other)

module _ (ls : List Segment) (o : Planar ls) (k : ℤ) (p q : Point) (hk : pos 0 <ℤ k) where
  abbrev Weights : (z : Segment) → Clean (scaled k z.low) (scaled k z.high) p q → Type 0
  Weights l c = Weighed c.point.scale c.point.at.x c.point.at.y p.x p.y q.x q.y

  -- over another line l that the leg crosses, the place where m crosses it has a height: else l and m would meet there
  not_through : (m l : Segment) → m ∈ ls → l ∈ ls → ¬ (l ≡ m) → (c : Clean (scaled k m.low) (scaled k m.high) p q) (w : Weights m c) → crosses_at k p q l ≡ true → ¬ (w.m *ℤ orientation (scaled k l.low) (scaled k l.high) p +ℤ w.n *ℤ orientation (scaled k l.low) (scaled k l.high) q ≡ pos 0)
  not_through m l i j n c w e x =
      o.proper l m j i
      (record {
        different = n;
        at = s;
        on_one = on l (on_crossed a b p q z.scale z.at w (and_parts (opposite (orientation p q a) (orientation p q b)) (opposite (orientation a b p) (orientation a b q)) e).0 x);
        on_other = on m z.on_segment;
        no_common_end = λ f. no_end f.1;
      })
    where
      a : Point
      a = scaled k l.low

      b : Point
      b = scaled k l.high

      z : Shared (scaled k m.low) (scaled k m.high) p q
      z = c.point

      s : Spot
      s = spot z.at (z.scale *ℤ k) (mul_pos z.scale k z.some_scale hk)

      on : (r : Segment) → Hits z.scale z.at (scaled k r.low) (scaled k r.high) → OnSegment r s
      on r h =
          on_of k z.scale (scaled k r.low) (scaled k r.high) z.at (whole r.low) (whole r.high) s hk z.some_scale (stands_whole k r.low) (stands_whole k r.high) refl h

      corner : (v : Point) → SamePlace s (whole v) → z.at ≡ scaled z.scale (scaled k v)
      corner v h = of_same_place k z.scale (scaled k v) z.at (whole v) s hk z.some_scale (stands_whole k v) refl h

      no_end : ¬ EndOf m s
      no_end (inl h) = c.inner (inl (inl (corner m.low h)))
      no_end (inr h) = c.inner (inl (inr (corner m.high h)))

  -- the cut at m
  module _ (fair : Fair ls k p q) (m : Segment) (i : m ∈ ls) (e : crosses_at k p q m ≡ true) where
    c : Clean (scaled k m.low) (scaled k m.high) p q
    c = (any_cross_test (scaled k m.low) (scaled k m.high) p q).0 e

    w : Weights m c
    w = weights c.point.scale c.point.at p q c.point.on_leg

    hg : pos 0 <ℤ w.m
    hg = weight_on_u c.point.scale c.point.at p q w (λ f. c.inner (inr (inr f)))

    hh : pos 0 <ℤ w.n
    hh = weight_on_v c.point.scale c.point.at p q w (λ f. c.inner (inr (inl f)))

    fall : Segment → ℤ
    fall l = orientation (scaled k l.low) (scaled k l.high) p -ℤ orientation (scaled k l.low) (scaled k l.high) q

    M : ℤ
    M = pos 2 +ℤ bound fall ls

    h_m : pos 2 ≤ℤ M
    unfolding M
    h_m = omega (arith, lin, bound_some fall ls)

    abbrev N : ℤ
    N = grain w.m w.n M

    abbrev u : Point
    u = short_of p q w.m w.n M

    abbrev v : Point
    v = past p q w.m w.n M

    finer : (z : Point) → scaled N (scaled k z) ≡ scaled (k *ℤ N) z
    finer z = scaled_twice N k z ∙ ap (λ f. scaled f z) (mul_comm N k)

    at_m : There (scaled (k *ℤ N) m.low) (scaled (k *ℤ N) m.high) (scaled N p) u v (scaled N q)
    at_m =
        subst₂ (λ a b. There a b (scaled N p) u v (scaled N q)) (finer m.low) (finer m.high)
        (crossed_there p q w.m w.n M hg hh h_m (scaled k m.low) (scaled k m.high) e (heights c.point.scale c.point.at p q (scaled k m.low) (scaled k m.high) c.point.some_scale c.point.on_segment.straight w))

    at_other : (l : Segment) → l ∈ ls → ¬ (l ≡ m) → Elsewhere (crosses_at k p q l) (scaled (k *ℤ N) l.low) (scaled (k *ℤ N) l.high) (scaled N p) u v (scaled N q)
    unfolding fall M
    at_other l j n =
        let b = bounded fall ls l j in
        subst₂ (λ a b. Elsewhere (crosses_at k p q l) a b (scaled N p) u v (scaled N q)) (finer l.low) (finer l.high)
        (crossed_elsewhere p q w.m w.n M hg hh h_m (scaled k l.low) (scaled k l.high) (fair l j) (omega (arith, lin, b)) (omega (arith, lin, b)) (not_through m l i j n c w))

    each : (P : Segment → Type 0) → P m → ((l : Segment) → l ∈ ls → ¬ (l ≡ m) → P l) → (l : Segment) → l ∈ ls → P l
    each P h f l j = go (same_or_not l m)
      where
        go : (l ≡ m) ⊎ ¬ (l ≡ m) → P l
        go (inl d) = subst P (sym d) h
        go (inr n) = f l j n

    pub cut : CutAt ls m k p q
    cut =
        record {
          factor = N;
          some = some_grain p q w.m w.n M hg hh h_m;
          short = u;
          beyond = v;
          fair_first = each (λ l. touches_at (k *ℤ N) (scaled N p) u l ≡ crosses_at (k *ℤ N) (scaled N p) u l) at_m.fair_first (λ l j n. (at_other l j n).fair_first);
          fair_last = each (λ l. touches_at (k *ℤ N) v (scaled N q) l ≡ crosses_at (k *ℤ N) v (scaled N q) l) at_m.fair_last (λ l j n. (at_other l j n).fair_last);
          crossed = at_m.crossed;
          clear = λ l j n. (at_other l j n).clear;
          one = λ l j n. (at_other l j n).one;
          first_in = each (λ l. crosses_at (k *ℤ N) (scaled N p) u l ≡ true → ¬ (l ≡ m) × (crosses_at k p q l ≡ true)) (λ t. absurd (apart t at_m.first)) (λ l j n t. (n, (at_other l j n).first_in t));
          last_in = each (λ l. crosses_at (k *ℤ N) v (scaled N q) l ≡ true → ¬ (l ≡ m) × (crosses_at k p q l ≡ true)) (λ t. absurd (apart t at_m.last)) (λ l j n t. (n, (at_other l j n).last_in t));
        }
