-- What a label of a domain name may be. A label is seen here in lower case.
use Rattle.std.specs.Prelude.{ℕ, ◌-◌, Bool, false, not, ◌&&◌, ◌||◌, ◌==◌, nat_lt, nat_eq, List, length, drop, slice_index, codes, Option, Some, None}
use Rattle.std.specs.Char.{is_ascii_digit, is_ascii_lowercase}
use Rattle.std.specs.List.{list_any, starts_with}
use Rattle.std.specs.Str.{bytes_eq}
use Rattle.idna.specs.Punycode.{decode, encode}

abbrev pub is_hyphen : ℕ → Bool
is_hyphen byte = byte == 45

abbrev pub is_star : ℕ → Bool
is_star byte = byte == 42

-- letters, digits and hyphens (RFC 1034, section 3.5; a label may begin with a digit by RFC 1123, section 2.1), and the
-- asterisk, which has a rule of its own
abbrev pub is_label_byte : ℕ → Bool
is_label_byte byte = is_ascii_lowercase byte || is_ascii_digit byte || is_hyphen byte || is_star byte

abbrev pub is_empty : List ℕ → Bool
is_empty label = length label == 0

-- a label has at most 63 bytes (RFC 1034, section 3.1)
abbrev pub is_too_long : List ℕ → Bool
is_too_long label = nat_lt 63 (length label)

abbrev pub has_bad_byte : List ℕ → Bool
has_bad_byte label = list_any (λ byte. not (is_label_byte byte)) label

-- the prefix of XN-Labels (BR 2.1.5, section 1.6.1)
abbrev pub has_ace_prefix : List ℕ → Bool
has_ace_prefix label = starts_with nat_eq label (codes "xn--")

-- a hyphen at an end (RFC 1034, section 3.5), or at the third and fourth places without that prefix (RFC 5890, section 2.3.1;
-- BR 2.1.5, section 1.6.1, "Non-Reserved LDH Label")
abbrev pub has_bad_hyphen : List ℕ → Bool
has_bad_hyphen label =
    is_hyphen (slice_index label 0) || is_hyphen (slice_index label (length label - 1))
    || (is_hyphen (slice_index label 2) && is_hyphen (slice_index label 3) && not (has_ace_prefix label))

-- what was decoded encodes to the same text again
abbrev pub encodes_to : List ℕ → Option (List ℕ) → Bool
encodes_to text None = false
encodes_to text (Some points) = bytes_eq (encode points) text

-- The text decodes (RFC 3492, section 6.2), and is what the encoder writes (section 6.3) of what it decodes to. A label with
-- such a rest is a P-Label (BR 2.1.5, section 1.6.1). That is laxer than an A-label (RFC 5890, section 2.3.2.1): what the decoded
-- text says is not judged.
abbrev pub is_punycode : List ℕ → Bool
is_punycode text = encodes_to text (decode text)

-- a label with the prefix whose rest is no Punycode
abbrev pub has_bad_punycode : List ℕ → Bool
has_bad_punycode label = has_ace_prefix label && not (is_punycode (drop 4 label))

abbrev pub has_star : List ℕ → Bool
has_star label = list_any is_star label
