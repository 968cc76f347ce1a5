-- The dates of archives: from 1950 to 2199; a year that divides by four is leap.
use Rattle.std.specs.Prelude.{ℕ, ◌%◌, Bool, cond, ◌&&◌, ◌||◌, ◌==◌, nat_le}
use Rattle.encoding.specs.declared.dates.Date.{Date}

abbrev pub leap : ℕ → Bool
leap year = year % 4 == 0

abbrev pub of_thirty : ℕ → Bool
of_thirty month = (month == 4 || month == 6) || (month == 9 || month == 11)

abbrev pub days_in : ℕ → ℕ → ℕ
days_in year month = cond (month == 2) (cond (leap year) 29 28) (cond (of_thirty month) 30 31)

abbrev pub valid_date : Date → Bool
valid_date d =
    (nat_le 1950 d.year && nat_le d.year 2199) && ((nat_le 1 d.month && nat_le d.month 12) && (nat_le 1 d.day && nat_le d.day (days_in d.year d.month)))
