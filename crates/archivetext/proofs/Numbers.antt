-- Numbers that were written are read again, `number_signed`; what bytes they have, `signed_bytes`.
use Rattle.std.proofs.Common.{◌≡◌, ℕ, suc, ◌+◌, ◌-◌, ◌*◌, ◌^◌, ◌<◌, ◌≤◌, true, List, [], ◌∷◌, length, ℤ, pos, negsuc, Some, decimal, fold, ap, arith, w32, SFits, rules}
use Rattle.std.specs.Fmt.{signed_decimal}
use Rattle.std.specs.List.{AllByRecursion}
use Rattle.std.proofs.lemmas.Fmt.{digits_decimal, digits_value-decimal, decimal_nonempty}
use Rattle.std.proofs.lemmas.Str.Parse.{IsNumeralModel, numerals_by_fold}
use Rattle.std.proofs.lemmas.Bool.{and_parts, ne_eqb}
use Rattle.std.proofs.lemmas.Bool.Decides.{nat_tests}
use Rattle.plantext.specs.Text.{digit, all_digits, value, natural, negated, positive, number}

own : IsNumeralModel (λ ds. all_digits ds ≡ true) value
own = numerals_by_fold (λ ds. all_digits ds ≡ true) (search rules) (fold (λ n b. n * 10 + (b - 48))) (search rules)

natural_some : (most n : ℕ) (ds : List ℕ) → n ≤ most → 0 < length ds → all_digits ds ≡ true → value ds ≡ n → natural most ds ≡ Some n
natural_some most n ds le some d v = grind (arith, nat_tests)

digit_bounds : (b : ℕ) → digit b ≡ true → (48 ≤ b) × (b ≤ 57)
digit_bounds b e = (grind (arith, nat_tests), grind (arith, nat_tests))

-- a natural number has no minus in front
number_plain : (n : ℕ) (ds : List ℕ) → n ≤ 2147483647 → 0 < length ds → all_digits ds ≡ true → value ds ≡ n → number ds ≡ Some (pos n)
number_plain n [] le some d v = absurd (omega arith)
number_plain n (b ∷ bs) le some d v =
    let low = digit_bounds b (and_parts (digit b) (all_digits bs) d).0 in
    rw (ne_eqb b 45 (λ e. omega arith)) (ap positive (natural_some 2147483647 n (b ∷ bs) le some d v))

pub number_signed : (z : ℤ) → SFits w32 z → number (signed_decimal z) ≡ Some z
number_signed (pos n) fits =
    let l : n < 2 ^ 64 = omega arith in
    number_plain n (decimal n) (omega arith) (decimal_nonempty n l) (digits_decimal own n l) (digits_value-decimal own n l)
number_signed (negsuc n) fits =
    let l : suc n < 2 ^ 64 = omega arith in
    ap negated (natural_some 2147483648 (suc n) (decimal (suc n)) (omega arith) (decimal_nonempty (suc n) l) (digits_decimal own (suc n) l) (digits_value-decimal own (suc n) l))

-- from the minus to the last digit
abbrev pub OfNumber : ℕ → Type 0
OfNumber b = (45 ≤ b) × (b ≤ 57)

digits_bytes : (ds : List ℕ) → all_digits ds ≡ true → AllByRecursion OfNumber ds
digits_bytes [] e = tt
digits_bytes (b ∷ bs) e =
    let p = and_parts (digit b) (all_digits bs) e in
    let low = digit_bounds b p.0 in
    ((omega arith, omega arith), digits_bytes bs p.1)

pub signed_bytes : (z : ℤ) → SFits w32 z → AllByRecursion OfNumber (signed_decimal z)
signed_bytes (pos n) fits = digits_bytes (decimal n) (digits_decimal own n (omega arith))
signed_bytes (negsuc n) fits = ((omega arith, omega arith), digits_bytes (decimal (suc n)) (digits_decimal own (suc n) (omega arith)))

pub signed_some : (z : ℤ) → SFits w32 z → 0 < length (signed_decimal z)
signed_some (pos n) fits = decimal_nonempty n (omega arith)
signed_some (negsuc n) fits = omega arith
