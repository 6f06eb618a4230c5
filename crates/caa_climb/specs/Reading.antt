-- How an issue value is read: at its first semicolon, each side at its own separators, without the blanks around the parts.
use Rattle.std.specs.Prelude.{ℕ, Bool, true, false, ◌&&◌, ◌||◌, not, List, [], ◌∷◌, Option, Some, None, ◌==◌, if◌then◌else◌}
use Rattle.std.specs.List.{list_all, slice_split}
use Rattle.std.specs.Option.{option_map}
use Rattle.std.specs.Char.{is_ascii_alphanumeric}
use Rattle.caa_climb.specs.IssueValue.{is_blank, is_value_byte}

abbrev pub is_nil : List ℕ → Bool
is_nil [] = true
is_nil (b ∷ bytes) = false

-- what stands before and behind the first byte c
abbrev pub cut_at : ℕ → List ℕ → Option (List ℕ × List ℕ)
cut_at c [] = None
cut_at c (b ∷ bytes) = if b == c then Some ([], bytes) else option_map (λ p. (b ∷ p.0, p.1)) (cut_at c bytes)

-- the bytes from the first that is no blank
abbrev pub without_lead : List ℕ → List ℕ
without_lead [] = []
without_lead (b ∷ bytes) = if is_blank b then without_lead bytes else b ∷ bytes

-- the bytes up to the last that is no blank
abbrev pub without_trail : List ℕ → List ℕ
without_trail [] = []
without_trail (b ∷ bytes) = if is_blank b && is_nil (without_trail bytes) then [] else b ∷ without_trail bytes

-- the bytes without the blanks at both ends
abbrev pub trimmed : List ℕ → List ℕ
trimmed bytes = without_trail (without_lead bytes)

-- the rest of a label, where a letter or digit stood last, or a hyphen
abbrev pub is_label_rest : Bool → List ℕ → Bool
is_label_rest closed [] = closed
is_label_rest closed (b ∷ bytes) = if is_ascii_alphanumeric b then is_label_rest true bytes else (b == 45 && is_label_rest false bytes)

-- letters and digits, and hyphens between them
abbrev pub is_label : List ℕ → Bool
is_label [] = false
is_label (b ∷ bytes) = is_ascii_alphanumeric b && is_label_rest true bytes

-- labels between dots
abbrev pub is_domain : List ℕ → Bool
is_domain bytes = list_all is_label (slice_split (λ b. b == 46) bytes)

-- a tag before the equals sign, and a value behind it
abbrev pub is_cut_parameter : Option (List ℕ × List ℕ) → Bool
is_cut_parameter None = false
is_cut_parameter (Some p) = is_label (trimmed p.0) && list_all is_value_byte (trimmed p.1)

-- a parameter, and blanks around it
abbrev pub is_piece : List ℕ → Bool
is_piece piece = is_cut_parameter (cut_at 61 piece)

-- parameters between semicolons
abbrev pub are_pieces : List ℕ → Bool
are_pieces text = list_all is_piece (slice_split (λ b. b == 59) text)

abbrev pub has_cut_value : Option (List ℕ × List ℕ) → Bool
has_cut_value None = false
has_cut_value (Some p) = not (is_nil (trimmed p.1))

-- whether the value of a parameter has a byte
abbrev pub has_value : List ℕ → Bool
has_value piece = has_cut_value (cut_at 61 piece)

-- what stands behind the last semicolon of the bytes, or this piece where there is none
abbrev pub last_piece : List ℕ → List ℕ → List ℕ
last_piece piece [] = piece
last_piece piece (b ∷ bytes) = if b == 59 then last_piece bytes bytes else last_piece piece bytes

-- the parameters, without the blanks behind them where the last one has a value
abbrev pub ended : List ℕ → List ℕ
ended text = if has_value (last_piece text text) then without_trail text else text

-- the parameters in these bytes, which begin with no blank
abbrev pub parameters_in : List ℕ → Option (List ℕ)
parameters_in text =
    if is_nil text then Some []
    else if are_pieces text then Some (ended text) else None

abbrev pub read_cut : List ℕ → List ℕ → Option (List ℕ × List ℕ)
read_cut issuer back =
    if is_nil issuer || is_domain issuer then option_map (λ parameters. (issuer, parameters)) (parameters_in (without_lead back)) else None

abbrev pub read_sides : List ℕ → Option (List ℕ × List ℕ) → Option (List ℕ × List ℕ)
read_sides bytes None = read_cut (trimmed bytes) []
read_sides bytes (Some p) = read_cut (trimmed p.0) p.1

-- the issuer and the parameters, or nothing where the bytes aren't of the form
abbrev pub read_value : List ℕ → Option (List ℕ × List ℕ)
read_value bytes = read_sides bytes (cut_at 59 bytes)
