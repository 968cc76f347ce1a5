-- Lists of lines: equality of lines is decided (`same_or_not`), one line that passes a test is an odd number (`odd_one`), and no number of a list exceeds its `bound` (`bounded`).
use Rattle.std.proofs.Common.{◌≡◌, suc, Bool, true, false, ◌&&◌, ◌⊎◌, List, [], ◌∷◌, ℤ, pos, negsuc, ◌+ℤ◌, neg_ℤ, ◌≤ℤ◌, sym, ap, subst, ap₂, inl, inr, arith}
use borrow.Author.Differences.{ints}
use Rattle.std.proofs.lemmas.Bool.{and_parts, and_from}
use Rattle.algebra.specs.Members.{◌∈◌, here, there, Once}
use Rattle.algebra.specs.Parity.{differ, odd_times}
use Rattle.algebra.proofs.Signs.{lin}
use Rattle.algebra.proofs.Members.{none, apart, Case, holds, fails, case}
use Rattle.algebra.proofs.Parity.{odd_none}
use Rattle.plane.specs.declared.segment.Segment.{Segment}
use Rattle.plane.specs.Points.{same_point}
use Rattle.plane.specs.PointLaws.{Before, before_of, same_point_is, same_point_holds}
use Rattle.reading.specs.Reading.{Planar}
use Rattle.reading.specs.Counting.{ends}

pub lower_first : (ls : List Segment) → Planar ls → (l : Segment) → l ∈ ls → Before l.low l.high
lower_first ls o l i = before_of l.low l.high (o.ordered l i)

abbrev pub same_line : Segment → Segment → Bool
same_line l m = same_point l.low m.low && same_point l.high m.high

same_line_is : (l m : Segment) → same_line l m ≡ true → l ≡ m
same_line_is l m e =
    let b = and_parts (same_point l.low m.low) (same_point l.high m.high) e in
    λ i. record { low = same_point_is l.low m.low b.0 i; high = same_point_is l.high m.high b.1 i }

pub same_line_holds : (l m : Segment) → l ≡ m → same_line l m ≡ true
same_line_holds l m e =
    and_from (same_point l.low m.low) (same_point l.high m.high) (same_point_holds l.low m.low (ap (λ n. n.low) e)) (same_point_holds l.high m.high (ap (λ n. n.high) e))

pub same_or_not : (l m : Segment) → (l ≡ m) ⊎ ¬ (l ≡ m)
same_or_not l m = go (case (same_line l m))
  where
    go : Case (same_line l m) → (l ≡ m) ⊎ ¬ (l ≡ m)
    go (holds e) = inl (same_line_is l m e)
    go (fails e) = inr (λ h. apart (same_line_holds l m h) e)

-- one line of a list without repetition passes the test, and no other
pub odd_one : (f : Segment → Bool) (ls : List Segment) (l : Segment) → Once ls → l ∈ ls → f l ≡ true → ((m : Segment) → m ∈ ls → ¬ (m ≡ l) → f m ≡ false) → odd_times f ls ≡ true
odd_one f [] l o i e h = absurd (none l i)
odd_one f (m ∷ ms) l o here e h = ap₂ differ e (odd_none f ms (λ n k. h n (there k) (λ g. o.0 (subst (λ z. z ∈ ms) g k))))
odd_one f (m ∷ ms) l o (there j) e h = ap₂ differ (h m here (λ g. o.0 (subst (λ z. z ∈ ms) (sym g) j))) (odd_one f ms l o.1 j e (λ n k. h n (there k)))

-- both ends of a line stand among the ends
pub ends_in : (ls : List Segment) (l : Segment) → l ∈ ls → (l.low ∈ ends ls) × (l.high ∈ ends ls)
ends_in [] l i = absurd (none l i)
ends_in (m ∷ ms) l here = (here, there here)
ends_in (m ∷ ms) l (there j) = let h = ends_in ms l j in (there (there h.0), there (there h.1))

size : ℤ → ℤ
size (pos n) = pos n
size (negsuc n) = pos (suc n)

size_bounds : (z : ℤ) → (z ≤ℤ size z) × (neg_ℤ (size z) ≤ℤ z) × (pos 0 ≤ℤ size z)
unfolding size
size_bounds (pos n) = (omega (arith, ints), omega (arith, ints), omega (arith, ints))
size_bounds (negsuc n) = (omega (arith, ints), omega (arith, ints), omega (arith, ints))

-- a number that no f a exceeds, up or down
pub bound : {A : Type 0} → (A → ℤ) → List A → ℤ
bound f [] = pos 0
bound f (a ∷ zs) = size (f a) +ℤ bound f zs

pub bound_some : {A : Type 0} (f : A → ℤ) (zs : List A) → pos 0 ≤ℤ bound f zs
unfolding bound
bound_some f [] = omega (arith, lin)
bound_some f (a ∷ zs) = omega (arith, lin, bound_some f zs, size_bounds (f a))

pub bounded : {A : Type 0} (f : A → ℤ) (zs : List A) (a : A) → a ∈ zs → (f a ≤ℤ bound f zs) × (neg_ℤ (bound f zs) ≤ℤ f a)
unfolding bound
bounded f [] a i = absurd (none a i)
bounded f (b ∷ zs) a here = (omega (arith, lin, bound_some f zs, size_bounds (f a)), omega (arith, lin, bound_some f zs, size_bounds (f a)))
bounded f (b ∷ zs) a (there j) = let h = bounded f zs a j in (omega (arith, lin, size_bounds (f b)), omega (arith, lin, size_bounds (f b)))
