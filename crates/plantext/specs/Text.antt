-- A row as a line of text: four whole numbers of 32 bits with single spaces between them.
use Rattle.std.specs.Prelude.{ℕ, ◌+◌, ◌-◌, ◌*◌, Bool, true, cond, not, ◌&&◌, List, [], ◌∷◌, length, ℤ, pos, neg_ℤ, Some, None, fold, Option, ◌==◌, nat_le}
use Rattle.std.specs.List.{slice_split}
use Rattle.plane.specs.declared.halfsegment.Halfsegment.{Halfsegment}

abbrev pub digit : ℕ → Bool
digit b = nat_le 48 b && nat_le b 57

abbrev pub all_digits : List ℕ → Bool
all_digits [] = true
all_digits (b ∷ bs) = digit b && all_digits bs

-- the number that decimal digits write
abbrev pub value : List ℕ → ℕ
value bs = fold (λ n b. n * 10 + (b - 48)) 0 bs

-- one digit or more, of a number up to `most`
abbrev pub natural : ℕ → List ℕ → Option ℕ
natural most bs = cond (not (length bs == 0) && (all_digits bs && nat_le (value bs) most)) (Some (value bs)) None

-- a whole number of 32 bits: a minus or none, then digits
abbrev pub negated : Option ℕ → Option ℤ
negated None = None
negated (Some n) = Some (neg_ℤ (pos n))

abbrev pub positive : Option ℕ → Option ℤ
positive None = None
positive (Some n) = Some (pos n)

abbrev pub number : List ℕ → Option ℤ
number [] = None
number (b ∷ bs) = cond (b == 45) (negated (natural 2147483648 bs)) (positive (natural 2147483647 (b ∷ bs)))

-- the pieces of a text between separators
abbrev pub pieces : ℕ → List ℕ → List (List ℕ)
pieces separator bs = slice_split (λ b. b == separator) bs

abbrev pub row_by : Option ℤ → Option ℤ → Option ℤ → Option ℤ → Option Halfsegment
row_by None b c d = None
row_by (Some a) None c d = None
row_by (Some a) (Some b) None d = None
row_by (Some a) (Some b) (Some c) None = None
row_by (Some a) (Some b) (Some c) (Some d) = Some (record { dominating = record { x = a; y = b }; far = record { x = c; y = d } })

abbrev pub row_of_fields : List (List ℕ) → Option Halfsegment
row_of_fields [] = None
row_of_fields (a ∷ []) = None
row_of_fields (a ∷ b ∷ []) = None
row_of_fields (a ∷ b ∷ c ∷ []) = None
row_of_fields (a ∷ b ∷ c ∷ d ∷ []) = row_by (number a) (number b) (number c) (number d)
row_of_fields (a ∷ b ∷ c ∷ d ∷ e ∷ fs) = None

-- dominating x and y, far x and y, with single spaces between them
abbrev pub row_of_line : List ℕ → Option Halfsegment
row_of_line bs = row_of_fields (pieces 32 bs)
