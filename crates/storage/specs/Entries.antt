-- What a kept list stands for.
use Rattle.std.specs.Borrow.{GName}
use Rattle.std.specs.Prelude.{◌≡◌, ℕ, ◌*◌, List, ◌++◌, length, take, drop}
use Rattle.storage.specs.declared.kept.Kept.{Kept}

-- xs is written over the front of ys; the rest stays
abbrev pub over : {X : Type 0} → List X → List X → List X
over xs ys = xs ++ drop (length xs) ys

module _ {X : Type 0} {n : ℕ} where
  -- how many blocks of n entries fit
  abbrev pub limit : Kept X n → ℕ
  limit s = s.limit

  -- how many blocks are kept
  abbrev pub size : Kept X n → ℕ
  size s = s.count

  -- the entries that are kept
  abbrev pub entries : Kept X n → List X
  entries s = take (n * size s) s.items.now

  -- all that the lent slice holds
  abbrev pub whole : Kept X n → List X
  whole s = s.items.now

  -- which slice is lent
  abbrev pub lender : Kept X n → GName
  lender s = s.items.ghost_name

  -- the memory stays the same slice with the same limit, and past the entries that are kept it is as it was
  pub record KeepsMemory (old new : Kept X n) : Type 0 where
    pub limit : limit new ≡ limit old
    pub whole : whole new ≡ over (entries new) (whole old)
    pub lender : lender new ≡ lender old
