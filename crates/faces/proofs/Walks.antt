-- A leg from a covered spot that touches no line keeps the component of the segment just below (`leg_keeps`), and so does a walk, `walk_keeps`.
use Rattle.std.proofs.Common.{◌≡◌, true, ◌⊎◌, List, [], ◌∷◌, pos, ◌*ℤ◌, ◌≤ℤ◌, ◌<ℤ◌, Some, Option, sym, ◌∙◌, subst, inl, inr, arith}
use Rattle.std.proofs.lemmas.Bool.Decides.{Decides-like, same_from_decides}
use Rattle.algebra.specs.Members.{◌∈◌}
use Rattle.algebra.proofs.Signs.{lin, order, split}
use Rattle.algebra.proofs.Members.{out, none}
use Rattle.plane.specs.declared.point.Point.{Point}
use Rattle.plane.specs.declared.segment.Segment.{Segment}
use Rattle.plane.specs.Spots.{Spot, whole, LeftOf}
use Rattle.reading.specs.Reading.{Planar, Clear, Walk, stay, go}
use Rattle.reading.specs.Counting.{ends, ClosedLines}
use Rattle.reading.proofs.Parities.{parity_reads}
use Rattle.faces.specs.Heights.{higher_right}
use Rattle.faces.specs.Below.{is_below_right, odd_below_right, below_right}
use Rattle.faces.specs.Components.{SameComponent, self, back, chain, OneComponent}
use Rattle.faces.specs.Theorems.{WalkKeeps}
use Rattle.faces.proofs.Best.{highest_alike}
use Rattle.faces.proofs.Gaps.{BelowRight, right_tells, just_right}
use Rattle.faces.proofs.Moves.{further, nearer, SameX, higher_right_same, spans_moved, right_moved}
use Rattle.faces.proofs.Touching.{stays_over}
use Rattle.faces.proofs.Legs.{clear_back, off_start, CutAt, cut_at}
use Rattle.faces.proofs.Between.{between_columns}
use Rattle.faces.proofs.Parity.{below_tells}
use Rattle.faces.proofs.Column.{column_joins}

-- components of segments that may be missing
pub component_chain : (ls : List Segment) (o o' o'' : Option Segment) → OneComponent ls o o' → OneComponent ls o' o'' → OneComponent ls o o''
component_chain ls o o' o'' f g =
    record { one = f.one; other = g.other; is_one = f.is_one; is_other = g.is_other; joined = chain f.joined (subst (λ l. SameComponent ls l g.other) (same g.one f.other (sym g.is_one ∙ f.is_other)) g.joined) }
  where
    same : (l m : Segment) → Some l ≡ Some m → l ≡ m
    same l m e = cc

pub component_back : (ls : List Segment) (o o' : Option Segment) → OneComponent ls o o' → OneComponent ls o' o
component_back ls o o' f = record { one = f.other; other = f.one; is_one = f.is_other; is_other = f.is_one; joined = back f.joined }

pub component_self : (ls : List Segment) (p : Spot) → odd_below_right ls p ≡ true → OneComponent ls (below_right ls p) (below_right ls p)
component_self ls p e = let b = just_right ls p e in record { one = b.one; other = b.one; is_one = b.is; is_other = b.is; joined = self b.member }

module _ (ls : List Segment) (o : Planar ls) (closed : ClosedLines ls) where
  -- both ends covered or both bare
  covered_along : (p q : Spot) → Clear ls p q → odd_below_right ls p ≡ true → odd_below_right ls q ≡ true
  covered_along p q c e =
      below_tells ls o q (off_start ls q p (clear_back ls p q c)) ∙ sym ((parity_reads ls o closed).alike p q c) ∙ sym (below_tells ls o p (off_start ls p q c)) ∙ e

  -- vs has all corners strictly between p and q
  abbrev Among : List Point → Spot → Spot → Type 0
  Among vs p q = (u : Point) → u ∈ ends ls → LeftOf p (whole u) → LeftOf (whole u) q → u ∈ vs

  abbrev Keeps : Spot → Spot → Type 0
  Keeps p q = OneComponent ls (below_right ls p) (below_right ls q)

  other_than : (v : Point) (vs : List Point) (u : Point) → u ∈ (v ∷ vs) → ¬ (u ≡ v) → u ∈ vs
  other_than v vs u i n = pick (out u v vs i)
    where
      pick : (u ≡ v) ⊎ (u ∈ vs) → u ∈ vs
      pick (inl d) = absurd (n d)
      pick (inr j) = j

  keeps_rightward : (vs : List Point) (p q : Spot) → LeftOf p q → Clear ls p q → odd_below_right ls p ≡ true → Among vs p q → Keeps p q
  keeps_rightward [] p q h c e am =
      subst (λ t. OneComponent ls t (below_right ls q)) (sym (between_columns ls o p q h c (λ v i b. none v (am v i b.0 b.1))))
      (column_joins ls o closed q (off_start ls q p (clear_back ls p q c)) (covered_along p q c e))
  keeps_rightward (v ∷ vs) p q h c e am = by (keeps_rightward vs) (split (v.x *ℤ p.k) (p.x *ℤ pos 1)) (split (q.x *ℤ pos 1) (v.x *ℤ q.k))
    where
      by : ((p q : Spot) → LeftOf p q → Clear ls p q → odd_below_right ls p ≡ true → Among vs p q → Keeps p q) → ((v.x *ℤ p.k) ≤ℤ (p.x *ℤ pos 1)) ⊎ ((p.x *ℤ pos 1) <ℤ (v.x *ℤ p.k)) → ((q.x *ℤ pos 1) ≤ℤ (v.x *ℤ q.k)) ⊎ ((v.x *ℤ q.k) <ℤ (q.x *ℤ pos 1)) → Keeps p q
      by r (inl a) b = r p q h c e (λ u i x y. other_than v vs u (am u i x y) (λ d. omega (arith, lin, a, subst (λ w. LeftOf p (whole w)) d x)))
      by r (inr a) (inl b) = r p q h c e (λ u i x y. other_than v vs u (am u i x y) (λ d. omega (arith, lin, b, subst (λ w. LeftOf (whole w) q) d y)))
      by r (inr a) (inr b) =
          component_chain ls (below_right ls p) (below_right ls w) (below_right ls q)
          (r p w first k.clear_first e (λ u i x y. other_than v vs u (am u i x (further (whole u) w q y (omega (arith, lin, last)))) (λ d. omega (arith, lin, k.in_column, subst (λ z. LeftOf (whole z) w) d y))))
          (r w q last k.clear_last (covered_along p w k.clear_first e) (λ u i x y. other_than v vs u (am u i (further p w (whole u) first (omega (arith, lin, x))) y) (λ d. omega (arith, lin, k.in_column, subst (λ z. LeftOf w (whole z)) d x))))
        where
          k : CutAt ls p q v
          k = cut_at ls p q v a b c

          w : Spot
          w = k.at

          first : LeftOf p w
          first = further p (whole v) w a (omega (arith, lin, k.in_column))

          last : LeftOf w q
          last = nearer w (whole v) q (omega (arith, lin, k.in_column)) b

  -- straight up or down
  straight_up : (p q : Spot) → SameX p q → Clear ls p q → below_right ls p ≡ below_right ls q
  straight_up p q e c =
      highest_alike (is_below_right p) (is_below_right q) (higher_right p) (higher_right q) ls
      (λ l i. same_from_decides (is_below_right p l) (is_below_right q l) (right_tells p l) (Decides-like (is_below_right q l) (over q p (sym e) (clear_back ls p q c) l i) (over p q e c l i) (right_tells q l)))
      (λ l m i j x y. higher_right_same p q e l m)
    where
      over : (p q : Spot) → SameX p q → Clear ls p q → (l : Segment) → l ∈ ls → BelowRight p l → BelowRight q l
      over p q e c l i f = right_moved p q e l f (stays_over p q l f.spans (spans_moved p q e l f.spans) (c l i) f.over)

  pub leg_keeps : (p q : Spot) → Clear ls p q → odd_below_right ls p ≡ true → Keeps p q
  leg_keeps p q c e = by (order (p.x *ℤ q.k) (q.x *ℤ p.k))
    where
      by : (LeftOf p q) ⊎ ((p.x *ℤ q.k ≡ q.x *ℤ p.k) ⊎ (LeftOf q p)) → Keeps p q
      by (inl h) = keeps_rightward (ends ls) p q h c e (λ u i a b. i)
      by (inr (inl h)) = subst (OneComponent ls (below_right ls p)) (straight_up p q h c) (component_self ls p e)
      by (inr (inr h)) = component_back ls (below_right ls q) (below_right ls p) (keeps_rightward (ends ls) q p h (clear_back ls p q c) (covered_along p q c e) (λ u i a b. i))

  along : (p q : Spot) → Walk ls p q → odd_below_right ls p ≡ true → Keeps p q
  along p q stay e = component_self ls p e
  along p q (go {t = r} c w) e = component_chain ls (below_right ls p) (below_right ls r) (below_right ls q) (leg_keeps p r c e) (along r q w (covered_along p r c e))

pub walk_keeps : WalkKeeps
walk_keeps ls o closed p q w e = along ls o closed p q w e
