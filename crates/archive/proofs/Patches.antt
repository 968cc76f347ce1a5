-- Writes over a list, one behind the other: `more` joins two, and `none` is a write of nothing.
use Rattle.std.proofs.Common.{◌≡◌, ℕ, ◌+◌, ◌≤◌, List, [], ◌++◌, length, arith, rules}
use Rattle.std.proofs.lemmas.List.{same_lists, places}
use Rattle.archive.specs.Writing.{patched}

-- a write right behind another is one write of both
pub more : (bs x y : List ℕ) (at next : ℕ) → next ≡ at + length x → next + length y ≤ length bs → patched (patched bs at x) next y ≡ patched bs at (x ++ y)
more bs x y at next e fits = rw e (same_lists _ _ (search (rules, places)) (λ k d h. grind (arith, places)))

pub none : (bs : List ℕ) (at : ℕ) → at ≤ length bs → bs ≡ patched bs at []
none bs at fits = same_lists _ _ (search (rules, places)) (λ k d h. grind (arith, places))
