-- A date that was written is read again, `date_back`, and has no line feed in it, `date_free`.
use Rattle.std.proofs.Common.{◌≡◌, ℕ, ◌+◌, ◌*◌, ◌/◌, ◌%◌, ◌<◌, ◌≤◌, Bool, true, false, cond, ◌&&◌, eqb, leb, List, [], ◌∷◌, ◌++◌, Some, None, codes, ap, ◌∙◌, arith, rules}
use Rattle.std.specs.Char.{is_ascii_digit}
use Rattle.std.specs.Str.{all_ascii_digits}
use Rattle.std.proofs.lemmas.Bool.{and_from, and_parts, leb-true, le-leb}
use Rattle.plantext.specs.Text.{value}
use Rattle.encoding.specs.declared.dates.Date.{Date}
use Rattle.encoding.specs.Dates.{leap, of_thirty, days_in, valid_date}
use Rattle.archivetext.specs.Text.{two_digits, four_digits, date_words}
use Rattle.archivetext.specs.Pack.{date_of_line}
use Rattle.archivetext.proofs.Lines.{Free, free_append}

one_digit : (n : ℕ) → is_ascii_digit (48 + n % 10) ≡ true
one_digit n = and_from (leb 48 (48 + n % 10)) (leb (48 + n % 10) 57) (le-leb 48 (48 + n % 10) (omega arith)) (le-leb (48 + n % 10) 57 (omega arith))

two_all : (n : ℕ) → all_ascii_digits (two_digits n) ≡ true
two_all n = λ i. one_digit (n / 10) i && (one_digit n i && true)

four_all : (n : ℕ) → all_ascii_digits (four_digits n) ≡ true
four_all n = λ i. one_digit (n / 100 / 10) i && (one_digit (n / 100) i && two_all n i)

two_sum : (n : ℕ) → n < 100 → n / 10 % 10 * 10 + n % 10 ≡ n
two_sum n l = omega arith

two_value : (n : ℕ) → n < 100 → value (two_digits n) ≡ n
two_value n l = omega arith

-- the digits as variables
four_sum : (a b c d n : ℕ) → ((a * 10 + b) * 10 + c) * 10 + d ≡ n → value ((48 + a) ∷ (48 + b) ∷ (48 + c) ∷ (48 + d) ∷ []) ≡ n
four_sum a b c d n e = omega arith

four_value : (n : ℕ) → n < 10000 → value (four_digits n) ≡ n
four_value n l =
    let front = two_sum (n / 100) (omega arith) in
    let tens : n / 10 / 10 ≡ n / 100 = omega arith in
    four_sum (n / 100 / 10 % 10) (n / 100 % 10) (n / 10 % 10) (n % 10) n (ap (λ x. (x * 10 + n / 10 % 10) * 10 + n % 10) front ∙ omega arith)

days_le : (year month : ℕ) → days_in year month ≤ 31
days_le year month = by (eqb month 2) (leap year) (of_thirty month)
  where
    by : (f l t : Bool) → cond f (cond l 29 28) (cond t 30 31) ≤ 31
    by true true t = omega arith
    by true false t = omega arith
    by false l true = omega arith
    by false l false = omega arith

-- the numbers of a date have four, two and two digits
pub record Short (d : Date) : Type 0 where
  pub year : d.year < 10000
  pub month : d.month < 100
  pub day : d.day < 100

pub short : (d : Date) → valid_date d ≡ true → Short d
short d e =
    let p = and_parts (leb 1950 d.year && leb d.year 2199) _ e in
    let y = leb-true d.year 2199 (and_parts (leb 1950 d.year) (leb d.year 2199) p.0).1 in
    let q = and_parts (leb 1 d.month && leb d.month 12) _ p.1 in
    let m = leb-true d.month 12 (and_parts (leb 1 d.month) (leb d.month 12) q.0).1 in
    let k = leb-true d.day (days_in d.year d.month) (and_parts (leb 1 d.day) (leb d.day (days_in d.year d.month)) q.1).1 in
    let most = days_le d.year d.month in
    record { year = omega arith; month = omega arith; day = omega arith }

pub date_back : (d : Date) → valid_date d ≡ true → date_of_line (date_words d) ≡ Some d
date_back d v =
    let s = short d v in
    λ i. cond (four_all d.year i && (two_all d.month i && two_all d.day i)) (Some record { year = four_value d.year s.year i; month = two_value d.month s.month i; day = two_value d.day s.day i }) None

-- and stands on one line
no_feed : (n : ℕ) → 48 + n % 10 ≡ 10 → ⊥
no_feed n e = omega arith

two_free : (n : ℕ) → Free 10 (two_digits n)
two_free n = (no_feed (n / 10), (no_feed n, tt))

four_free : (n : ℕ) → Free 10 (four_digits n)
four_free n = (no_feed (n / 100 / 10), (no_feed (n / 100), two_free n))

dashed : (rest : List ℕ) → Free 10 rest → Free 10 (codes "-" ++ rest)
dashed rest f = ((λ e. omega arith), f)

pub date_free : (d : Date) → Free 10 (date_words d)
date_free d =
    let from_day : List ℕ = codes "-" ++ two_digits d.day in
    let day = dashed (two_digits d.day) (two_free d.day) in
    let from_month : List ℕ = codes "-" ++ (two_digits d.month ++ from_day) in
    let month = dashed (two_digits d.month ++ from_day) (free_append 10 (two_digits d.month) from_day (two_free d.month) day) in
    free_append 10 (codes "date ") (four_digits d.year ++ from_month) (search rules) (free_append 10 (four_digits d.year) from_month (four_free d.year) month)
