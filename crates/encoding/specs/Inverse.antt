-- Reading is the inverse of writing.
use Rattle.std.specs.Prelude.{◌≡◌, ℕ, ◌<◌, List, Ok}
use Rattle.std.specs.List.{AllByRecursion}
use Rattle.encoding.specs.Format.{Archive, Sound, encoded}
use Rattle.encoding.specs.Read.{read_of}

abbrev pub Bytes : List ℕ → Type 0
Bytes bs = AllByRecursion (λ b. b < 256) bs

-- what was written comes back, and nothing else is accepted: the bytes that are read as an archive are just its encoding
pub record Inverse : Type 0 where
  pub back : (a : Archive) → Sound a → read_of (encoded a) ≡ Ok a
  pub only : (bs : List ℕ) (a : Archive) → Bytes bs → read_of bs ≡ Ok a → (bs ≡ encoded a) × Sound a
