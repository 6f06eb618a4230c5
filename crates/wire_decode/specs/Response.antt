-- An HTTP/1.1 response with a JSON body, and the texts in it.
use Rattle.std.specs.Prelude.{ℕ, ◌/◌, ◌%◌, List, [], ◌∷◌, ◌++◌, length, codes, decimal, encode_utf8, unwrap_or, false, ◌==◌, nat_lt, if◌then◌else◌}
use Rattle.std.specs.List.{flat_map}
use Rattle.std.specs.Fmt.{digit_glyph}
use Rattle.base64.specs.GeneralPurpose.{encode_of}
use Rattle.base64.specs.Engines.{standard}
use Rattle.http.specs.StatusCode.{reason_phrase}

-- ---- the response

-- the phrase of a status (RFC 9110, section 15)
unfoldable pub reason_of : ℕ → List ℕ
reason_of status = unwrap_or (reason_phrase status) []

-- the status line, the header lines and the empty line, and the body (RFC 9112, section 2.1)
abbrev pub status_line : ℕ → List ℕ → List ℕ
status_line status reason = codes "HTTP/1.1 " ++ decimal status ++ codes " " ++ reason ++ codes "\r\n"

abbrev pub header_lines : List ℕ → List ℕ
header_lines json = codes "content-type: application/json\r\ncontent-length: " ++ decimal (length json) ++ codes "\r\n\r\n"

abbrev pub response_of : ℕ → List ℕ → List ℕ
response_of status json = status_line status (reason_of status) ++ header_lines json ++ json

-- ---- texts

-- two lower-case hexadecimal digits a byte
abbrev pub byte_hex : ℕ → List ℕ
byte_hex byte = digit_glyph false (byte / 16) ∷ digit_glyph false (byte % 16) ∷ []

abbrev pub hex_of : List ℕ → List ℕ
hex_of bytes = flat_map byte_hex bytes

-- standard base64 (RFC 4648, section 4)
unfoldable pub base64_of : List ℕ → List ℕ
base64_of bytes = encode_of standard bytes

-- what stands in a JSON string for the character with this number (RFC 8259, section 7)
unfoldable pub character_json : ℕ → List ℕ
character_json character =
    if character == 34 then codes "\\\""
    else if character == 92 then codes "\\\\"
    else if character == 8 then codes "\\b"
    else if character == 9 then codes "\\t"
    else if character == 10 then codes "\\n"
    else if character == 12 then codes "\\f"
    else if character == 13 then codes "\\r"
    else if nat_lt character 32 then codes "\\u00" ++ byte_hex character
    else encode_utf8 character

-- a text in a JSON string, each of its bytes as the character of that number
abbrev pub text_json : List ℕ → List ℕ
text_json bytes = flat_map character_json bytes
