-- How rows lie in the entries of memory, whatever the entries are.
use Rattle.std.specs.Prelude.{◌≡◌, ℕ, ◌*◌, ◌<◌, List, [], ◌∷◌, ◌++◌, length, FitsSigned}
use Rattle.std.specs.Int.{w32}
use Rattle.plane.specs.declared.halfsegment.Halfsegment.{Halfsegment}

-- the coordinates of a row are numbers of 32 bits
pub record Fits32 (r : Halfsegment) : Type 0 where
  pub cx : FitsSigned w32 r.dominating.x
  pub cy : FitsSigned w32 r.dominating.y
  pub fx : FitsSigned w32 r.far.x
  pub fy : FitsSigned w32 r.far.y

-- n entries hold a row, and rows lie one after the other: what is written reads as the row, and the rows before and after stay
pub record IsLayout {X : Type 0} (n : ℕ) (rows_of : List X → List Halfsegment) (entries_of : Halfsegment → List X) : Type 0 where
  pub positive : 0 < n
  pub count : (xs : List X) (i : ℕ) → length xs ≡ n * i → length (rows_of xs) ≡ i
  pub joins : (xs ys : List X) (i : ℕ) → length xs ≡ n * i → rows_of (xs ++ ys) ≡ rows_of xs ++ rows_of ys
  pub width : (r : Halfsegment) → length (entries_of r) ≡ n
  pub back : (r : Halfsegment) → Fits32 r → rows_of (entries_of r) ≡ r ∷ []
