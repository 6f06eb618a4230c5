-- Moments, in seconds since 1970-01-01T00:00:00 UTC, as dates of the Gregorian calendar with a time of day. Each day has
-- 86,400 seconds: there are no leap seconds.
use Rattle.std.specs.Prelude.{ℕ, zero, suc, ◌+◌, ◌*◌, ◌/◌, ◌%◌, ◌<◌, nat_lt, if◌then◌else◌, ℤ, pos, ◌+ℤ◌, ◌*ℤ◌}
use Rattle.jiff_core.specs.Calendar.{days_in_month, days_from_civil, IsCivilDate}
use Rattle.cert_time.specs.declared.civil.Civil.{Civil}

pub record Day : Type 0 where
  pub year : ℕ
  pub month : ℕ
  pub day : ℕ

-- the next day of the month, or the first of the next month, or 1 January of the next year
abbrev pub next_day : Day → Day
next_day d =
    if nat_lt d.day (days_in_month (pos d.year) d.month) then record { year = d.year; month = d.month; day = d.day + 1 }
    else (if nat_lt d.month 12 then record { year = d.year; month = d.month + 1; day = 1 }
    else record { year = d.year + 1; month = 1; day = 1 })

-- the day that many days after 1970-01-01
unfoldable pub day_after : ℕ → Day
day_after zero = record { year = 1970; month = 1; day = 1 }
day_after (suc n) = next_day (day_after n)

-- a day with so many of its seconds passed
abbrev pub civil_at : Day → ℕ → Civil
civil_at d seconds = record {
  year = d.year;
  month = d.month;
  day = d.day;
  hour = seconds / 3600;
  minute = seconds / 60 % 60;
  second = seconds % 60;
}

abbrev pub civil_of : ℕ → Civil
civil_of moment = civil_at (day_after (moment / 86400)) (moment % 86400)

-- the calendar has the date, and a day has the time
abbrev pub IsReal : Civil → Type 0
IsReal c = IsCivilDate (pos c.year) c.month c.day × (c.hour < 24) × (c.minute < 60) × (c.second < 60)

-- seconds since 1970, negative before it
abbrev pub seconds_of : Civil → ℤ
seconds_of c = days_from_civil (pos c.year) c.month c.day *ℤ pos 86400 +ℤ pos (c.hour * 3600 + c.minute * 60 + c.second)
