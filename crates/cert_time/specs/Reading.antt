-- What a Time's text says: the reader in steps, each of which gives nothing where the text has another form.
use Rattle.std.specs.Prelude.{ℕ, Bool, false, ◌+◌, ◌-◌, ◌*◌, ◌&&◌, ◌==◌, nat_lt, if◌then◌else◌, List, [], ◌∷◌, Option, Some, None, option_and_then}
use Rattle.std.specs.Char.{is_ascii_digit}
use Rattle.cert_time.specs.declared.civil.Civil.{Civil}

-- the number of two digits at the front, and what follows
abbrev pub number_at : List ℕ → Option (ℕ × List ℕ)
number_at [] = None
number_at (a ∷ []) = None
number_at (a ∷ b ∷ rest) =
    if is_ascii_digit a && is_ascii_digit b then Some (10 * (a - 48) + (b - 48), rest) else None

-- all that is left is the Z
abbrev pub is_zone : List ℕ → Bool
is_zone [] = false
is_zone (z ∷ []) = z == 90
is_zone (z ∷ b ∷ rest) = false

unfoldable pub civil_in : ℕ → List ℕ → Option Civil
civil_in year bytes =
    option_and_then (λ month. option_and_then (λ day. option_and_then (λ hour. option_and_then (λ minute. option_and_then (λ second.
    if is_zone second.1 then Some (record { year = year; month = month.0; day = day.0; hour = hour.0; minute = minute.0; second = second.0 }) else None)
    (number_at minute.1)) (number_at hour.1)) (number_at day.1)) (number_at month.1)) (number_at bytes)

-- a year of two digits: 50 to 99 are those of the last century (RFC 5280, section 4.1.2.5.1)
abbrev pub full_year : ℕ → ℕ
full_year year = if nat_lt year 50 then 2000 + year else 1900 + year

abbrev pub utc_civil : List ℕ → Option Civil
utc_civil content = option_and_then (λ year. civil_in (full_year year.0) year.1) (number_at content)

abbrev pub generalized_civil : List ℕ → Option Civil
generalized_civil content =
    option_and_then (λ century. option_and_then (λ year.
    if nat_lt (100 * century.0 + year.0) 2050 then None else civil_in (100 * century.0 + year.0) year.1)
    (number_at century.1)) (number_at content)
