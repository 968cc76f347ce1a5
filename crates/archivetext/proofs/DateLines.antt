-- For `date_line`: the numbers of a date as they are printed are its digits, `date_text`.
use Rattle.std.proofs.Common.{◌≡◌, ℕ, ◌+◌, ◌/◌, ◌%◌, ◌<◌, ◌≤◌, ◌^◌, ◌-◌, true, leb, ◌&&◌, ⊎_elim, List, [], ◌∷◌, ◌++◌, codes, decimal, sym, ap, ◌∙◌, arith}
use Rattle.std.specs.Fmt.{format_spec, styled_decimal, padded_integral, char_count}
use Rattle.std.proofs.lemmas.Bool.{cases_lt, and_parts, leb-true}
use Rattle.std.proofs.lemmas.Fmt.{decimal_digit, decimal_step}
use Rattle.encoding.specs.declared.dates.Date.{Date}
use Rattle.encoding.specs.Dates.{valid_date}
use Rattle.archivetext.specs.Text.{line, two_digits, four_digits, date_words}
use Rattle.archivetext.proofs.Dates.{short}

-- what `{:02}` writes of a number below 100
abbrev pub two_wide : ℕ → List ℕ
two_wide n = styled_decimal (format_spec 32 0 4 2 (2 ^ 64 - 1)) n

two_decimal : (n : ℕ) → 10 ≤ n → n < 100 → decimal n ≡ two_digits n
two_decimal n low high =
    let front : n / 10 % 10 ≡ n / 10 = omega arith in
    decimal_step n low (omega arith) ∙ ap (λ ds. ds ++ ((48 + n % 10) ∷ [])) (decimal_digit (n / 10) (omega arith)) ∙ ap (λ d. (48 + d) ∷ (48 + n % 10) ∷ []) (sym front)

two_padded : (n : ℕ) → n < 100 → two_wide n ≡ two_digits n
unfolding padded_integral char_count
two_padded n small = ⊎_elim
    (λ one. let high : n / 10 % 10 ≡ 0 = omega arith in let low : n % 10 ≡ n = omega arith in rw (decimal_digit n one, high, low))
    (λ two. rw (two_decimal n two small))
    (cases_lt n 10)

four_decimal : (n : ℕ) → 1000 ≤ n → n < 10000 → decimal n ≡ four_digits n
four_decimal n low high =
    let tens : n / 10 / 10 ≡ n / 100 = omega arith in
    let front = two_decimal (n / 100) (omega arith) (omega arith) in
    decimal_step n (omega arith) (omega arith) ∙ ap (λ ds. ds ++ ((48 + n % 10) ∷ [])) (decimal_step (n / 10) (omega arith) (omega arith) ∙ ap (λ m. decimal m ++ ((48 + n / 10 % 10) ∷ [])) tens ∙ ap (λ ds. ds ++ ((48 + n / 10 % 10) ∷ [])) front)

old_enough : (d : Date) → valid_date d ≡ true → 1000 ≤ d.year
old_enough d e =
    let p = and_parts (leb 1950 d.year && leb d.year 2199) _ e in
    let low = leb-true 1950 d.year (and_parts (leb 1950 d.year) (leb d.year 2199) p.0).0 in
    omega arith

pub date_text : (d : Date) (months days : List ℕ) → valid_date d ≡ true → months ≡ two_wide d.month → days ≡ two_wide d.day → codes "date " ++ (decimal d.year ++ (codes "-" ++ (months ++ (codes "-" ++ (days ++ 10 ∷ []))))) ≡ line (date_words d)
date_text d months days valid month day =
    let s = short d valid in
    let years : decimal d.year ≡ four_digits d.year = four_decimal d.year (old_enough d valid) s.year in
    let m : months ≡ two_digits d.month = month ∙ two_padded d.month s.month in
    let k : days ≡ two_digits d.day = day ∙ two_padded d.day s.day in
    (λ i. codes "date " ++ (years i ++ (codes "-" ++ (m i ++ (codes "-" ++ (k i ++ 10 ∷ []))))))
