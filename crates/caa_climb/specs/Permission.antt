-- Whether CAA records permit issuance (RFC 8659, sections 4.1 to 4.3).
use Rattle.std.specs.Prelude.{ℕ, Bool, true, false, ◌&&◌, ◌||◌, not, List, Option, Some, None, ◌==◌, if◌then◌else◌, bit_and, codes}
use Rattle.std.specs.List.{filter, list_any, position}
use Rattle.std.specs.Str.{str_eq_ignore_ascii_case}
use Rattle.gate_base.specs.declared.seen.CaaRow.{CaaRow}
use Rattle.caa_climb.specs.Reading.{is_nil, read_value}
use Rattle.caa_climb.specs.declared.answer.Permission.{Permission}
use Rattle.caa_climb.specs.declared.answer.Permission.TheVariants.{Allowed, Denied, Critical}

-- tags compare without regard to case
abbrev pub has_tag : List ℕ → CaaRow → Bool
has_tag tag row = str_eq_ignore_ascii_case row.tag tag

-- the issuer critical flag is set, and the tag is none that is understood (RFC 8659, section 4.1)
abbrev pub is_critical : CaaRow → Bool
is_critical row =
    bit_and row.flags 128 == 128
    && not (has_tag (codes "issue") row || (has_tag (codes "issuewild") row || has_tag (codes "iodef") row))

-- the tag of the rows that restrict who may issue: for a wildcard issuewild, if a row has it (RFC 8659, section 4.3)
abbrev pub restricting_tag : List CaaRow → Bool → List ℕ
restricting_tag rows wild = if wild && list_any (has_tag (codes "issuewild")) rows then codes "issuewild" else codes "issue"

-- whether the issuer is one of these, without regard to case; the empty issuer, of a value that names none, is not
abbrev pub is_among : List (List ℕ) → List ℕ → Bool
is_among issuers issuer = not (is_nil issuer) && list_any (λ one. str_eq_ignore_ascii_case one issuer) issuers

-- whether a value names one of these issuers
abbrev pub names_one : List (List ℕ) → Option (List ℕ × List ℕ) → Bool
names_one issuers None = false
names_one issuers (Some p) = is_among issuers p.0

-- the issuers whose name isn't empty
abbrev pub named : List (List ℕ) → List (List ℕ)
named issuers = filter (λ issuer. not (is_nil issuer)) issuers

-- whether a row permits one of these issuers; a value that isn't of the form permits none
abbrev pub permits : List (List ℕ) → CaaRow → Bool
permits issuers row = names_one issuers (read_value row.value)

-- no row restricts, or one that does permits one of the issuers (RFC 8659, section 4.2)
abbrev pub is_allowed : List ℕ → List CaaRow → List (List ℕ) → Bool
is_allowed tag rows issuers =
    not (list_any (has_tag tag) rows) || list_any (λ row. has_tag tag row && permits issuers row) rows

abbrev pub judged : Option ℕ → Bool → Permission
judged (Some row) allowed = Critical row
judged None true = Allowed
judged None false = Denied

-- the first critical row that isn't understood, counted from 0, forbids; otherwise the rows that restrict decide
abbrev pub permission_of : List CaaRow → Bool → List (List ℕ) → Permission
permission_of rows wild issuers = judged (position is_critical rows) (is_allowed (restricting_tag rows wild) rows issuers)
