-- The Time of a certificate (RFC 5280, section 4.1.2.5): a UTCTime through the year 2049 and a GeneralizedTime from 2050
-- on, both in UTC and with seconds.
use Rattle.std.specs.Prelude.{◌≡◌, ℕ, ◌+◌, ◌/◌, ◌%◌, ◌≤◌, nat_lt, if◌then◌else◌, ℤ, List, [], ◌∷◌, ◌++◌}
use Rattle.cert_time.specs.declared.civil.Civil.{Civil}
use Rattle.cert_time.specs.declared.time.Time.{Time}
use Rattle.cert_time.specs.declared.time.Time.TheVariants.{Utc, Generalized}
use Rattle.cert_time.specs.Calendar.{civil_of, seconds_of, IsReal}

-- a number below 100 in two decimal digits
abbrev pub two_digits : ℕ → List ℕ
two_digits n = (48 + n / 10) ∷ (48 + n % 10) ∷ []

-- month, day, hour, minute and second, and the Z that stands for UTC
abbrev pub text_behind_year : Civil → List ℕ
text_behind_year c =
    two_digits c.month ++ two_digits c.day ++ two_digits c.hour ++ two_digits c.minute ++ two_digits c.second ++ 90 ∷ []

-- YYMMDDHHMMSSZ (section 4.1.2.5.1)
abbrev pub utc_text : Civil → List ℕ
utc_text c = two_digits (c.year % 100) ++ text_behind_year c

-- YYYYMMDDHHMMSSZ (section 4.1.2.5.2)
abbrev pub generalized_text : Civil → List ℕ
generalized_text c = two_digits (c.year / 100) ++ utc_text c

abbrev pub time_with : Civil → Time
time_with c = if nat_lt c.year 2050 then Utc (utc_text c) else Generalized (generalized_text c)

-- the Time of a moment
abbrev pub time_of : ℕ → Time
time_of moment = time_with (civil_of moment)

-- the tags of UTCTime and GeneralizedTime (X.680, section 8.4)
abbrev pub tag_of : Time → ℕ
tag_of (Utc text) = 23
tag_of (Generalized text) = 24

abbrev pub text_of : Time → List ℕ
text_of (Utc text) = text
text_of (Generalized text) = text

-- The tag and the content are those of this date and time of day. Its year is 1950 or later, since a UTCTime says its
-- last two digits alone.
pub record IsTextOf (tag : ℕ) (content : List ℕ) (civil : Civil) : Type 0 where
  pub years : 1950 ≤ civil.year
  pub tagged : tag ≡ tag_of (time_with civil)
  pub spelled : content ≡ text_of (time_with civil)

-- the tag and the content are those of the Time so many seconds after 1970, or before it
pub record IsTimeText (tag : ℕ) (content : List ℕ) (seconds : ℤ) : Type 0 where
  pub civil : Civil
  pub real : IsReal civil
  pub written : IsTextOf tag content civil
  pub passed : seconds ≡ seconds_of civil
