-- The day that many days after 1970-01-01 has that day number, and it is the only one.
use Rattle.std.proofs.Common.{◌≡◌, ℕ, zero, suc, ◌+◌, ◌<◌, ◌≤◌, inl, inr, sym, ◌∙◌, arith, rules, pos}
use Rattle.std.proofs.lemmas.Bool.{cases_lt, lt-ltb, le-ltb}
use Rattle.std.specs.Int.{IsInRange}
use Rattle.jiff_core.specs.declared.civil.date.Date.{Date}
use Rattle.jiff_core.specs.Calendar.{days_in_month, days_from_civil}
use Rattle.jiff_core.specs.Date.{epoch_day}
use Rattle.jiff_core.proofs.SignedLemmas.{signed_arith}
use Rattle.jiff_core.proofs.CalendarLemmas.{days_from_civil-day_count, day_count-lt_year, days_in_month_bounds}
use Rattle.jiff_core.proofs.DateLemmas.{epoch_day_injective, epoch_day_range, days_from_civil-day, days_from_civil-next_month, days_from_civil-next_year, days_from_civil-max}
use Rattle.jiff_core.proofs.StandardFacts.{known_days}
use Rattle.cert_time.specs.declared.civil.Civil.{Civil}
use Rattle.cert_time.specs.Calendar.{Day, next_day, day_after, IsReal}

-- the calendar has the day, and it has this number
pub record IsDay (number : ℕ) (d : Day) : Type 0 where
  pub year_from : 1970 ≤ d.year
  pub month_in : IsInRange 1 12 d.month
  pub day_in : IsInRange 1 (days_in_month (pos d.year) d.month) d.day
  pub numbered : days_from_civil (pos d.year) d.month d.day ≡ pos number

in_month : (n : ℕ) (d : Day) → IsDay n d → d.day < days_in_month (pos d.year) d.month → IsDay (suc n) (record { year = d.year; month = d.month; day = d.day + 1 })
in_month n d is within = record {
  year_from = is.year_from;
  month_in = is.month_in;
  day_in = (omega arith, omega arith);
  numbered = omega (arith, signed_arith, is.numbered, days_from_civil-day (pos d.year) d.month d.day (d.day + 1) is.day_in.0 (omega arith));
}

in_year : (n : ℕ) (d : Day) → IsDay n d → days_in_month (pos d.year) d.month ≤ d.day → d.month < 12 → IsDay (suc n) (record { year = d.year; month = d.month + 1; day = 1 })
in_year n d is last within =
    let long = days_in_month_bounds (pos d.year) (d.month + 1) in
    let all : d.day ≡ days_in_month (pos d.year) d.month = omega (arith, is.day_in.1) in
    record {
      year_from = is.year_from;
      month_in = (omega arith, omega arith);
      day_in = (omega arith, omega arith);
      numbered = days_from_civil-next_month (pos d.year) d.month d.day is.month_in.0 all ∙ omega (arith, signed_arith, is.numbered);
    }

in_next_year : (n : ℕ) (d : Day) → IsDay n d → days_in_month (pos d.year) d.month ≤ d.day → 12 ≤ d.month → IsDay (suc n) (record { year = d.year + 1; month = 1; day = 1 })
in_next_year n d is last end =
    let december : d.month ≡ 12 = omega (arith, is.month_in.1) in
    let all : d.day ≡ 31 = omega (arith, rw december at last, rw december at is.day_in.1) in
    let here : days_from_civil (pos d.year) 12 31 ≡ pos n = rw (← december, ← all) is.numbered in
    record {
      year_from = omega (arith, is.year_from);
      month_in = (omega arith, omega arith);
      day_in = (omega arith, omega arith);
      numbered = days_from_civil-next_year (pos d.year) (pos (d.year + 1)) (omega (arith, signed_arith)) (omega (arith, signed_arith)) ∙ omega (arith, signed_arith, here);
    }

is_next : (n : ℕ) (d : Day) → IsDay n d → IsDay (suc n) (next_day d)
is_next n d is =
    elim (cases_lt d.day (days_in_month (pos d.year) d.month)) [
      | inl within ↦ rw (lt-ltb _ _ within) (in_month n d is within)
      | inr last ↦ elim (cases_lt d.month 12) [
        | inl within ↦ rw (le-ltb _ _ last, lt-ltb _ _ within) (in_year n d is last within)
        | inr end ↦ rw (le-ltb _ _ last, le-ltb _ _ end) (in_next_year n d is last end)
      ]
    ]

pub is_day_after : (n : ℕ) → IsDay n (day_after n)
unfolding day_after
is_day_after zero = record {
  year_from = omega arith;
  month_in = (omega arith, omega arith);
  day_in = (omega arith, omega arith);
  numbered = known_days.0;
}
is_day_after (suc n) = is_next n (day_after n) (is_day_after n)

-- a later year would have a greater number than the last day of 9999
pub year_at_most : (n : ℕ) (d : Day) → IsDay n d → n ≤ 2932896 → d.year ≤ 9999
year_at_most n d is low =
    elim (cases_lt d.year 10000) [
      | inl before ↦ omega arith
      | inr after ↦
          let later = day_count-lt_year (pos 9999) 12 31 (pos d.year) d.month d.day (search rules) is.day_in.0 (omega (arith, signed_arith)) in
          absurd (omega (arith, signed_arith, later, is.numbered, days_from_civil-max, days_from_civil-day_count (pos 9999) 12 31, days_from_civil-day_count (pos d.year) d.month d.day))
    ]

same_day : (n : ℕ) (d : Day) (date : Date) → IsDay n d → epoch_day date ≡ pos n → (date.year ≡ pos d.year) × (date.month ≡ d.month) × (date.day ≡ d.day)
same_day n d date is e =
    let low : n ≤ 2932896 = omega (arith, signed_arith, e, epoch_day_range date) in
    let year = year_at_most n d is low in
    let other : Date = record {
      year = pos d.year;
      month = d.month;
      day = d.day;
      year_in = (omega (arith, signed_arith), omega (arith, signed_arith));
      month_in = is.month_in;
      day_in = is.day_in;
    } in
    epoch_day_injective date other (e ∙ sym is.numbered)

pub date_is : (n : ℕ) (date : Date) → epoch_day date ≡ pos n → (date.year ≡ pos (day_after n).year) × (date.month ≡ (day_after n).month) × (date.day ≡ (day_after n).day)
date_is n date e = same_day n (day_after n) date (is_day_after n) e

pub real_bounds : (c : Civil) → IsReal c → (c.year ≤ 9999) × (c.month ≤ 12) × (c.day ≤ 31)
real_bounds c real = (omega (arith, signed_arith), omega arith, omega (arith, days_in_month_bounds (pos c.year) c.month))
