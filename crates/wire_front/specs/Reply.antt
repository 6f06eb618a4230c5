-- The bytes of a reply: an HTTP/1.1 response with a JSON body.
use Rattle.std.specs.Prelude.{ℕ, ◌/◌, ◌%◌, List, [], ◌∷◌, ◌++◌, length, codes, decimal, encode_utf8, unwrap_or, false, ◌==◌, nat_lt, if◌then◌else◌}
use Rattle.std.specs.List.{flat_map}
use Rattle.std.specs.Fmt.{digit_glyph}
use Rattle.base64.specs.GeneralPurpose.{encode_of}
use Rattle.base64.specs.Engines.{standard}
use Rattle.http.specs.StatusCode.{reason_phrase}
use Rattle.gate_base.specs.declared.name.Target.{Target}
use Rattle.names_core.specs.Target.{target_text}
use Rattle.gate_entries.specs.declared.reply.Reply.{Reply}
use Rattle.gate_entries.specs.declared.reply.Reply.TheVariants as replies
use Rattle.gate_entries.specs.declared.reply.Why.{Why}
use Rattle.gate_entries.specs.declared.reply.Why.TheVariants as reasons

-- the status (RFC 9110, section 15)
abbrev pub status_of : Reply → ℕ
status_of (replies.Placed order) = 200
status_of (replies.ChallengeMade challenge text) = 200
status_of (replies.Observed number) = 200
status_of (replies.Issued order serial certificate) = 200
status_of (replies.Blocked number) = 200
status_of replies.RoleDenied = 403
status_of replies.NoSuchOrder = 404
status_of replies.NoSuchChallenge = 404
status_of (replies.KeyReused kept) = 409
status_of (replies.BadFields rule) = 422
status_of (replies.ObservationLate m) = 422
status_of (replies.Refused why) = 422
status_of replies.NoMemory = 500
status_of (replies.ClockRange reading) = 503
status_of (replies.EntropyRepeat value) = 503
status_of replies.ClockFault = 503
status_of replies.EntropyFault = 503
status_of replies.DiskFault = 503
status_of replies.SignerFault = 503
status_of (replies.JournalBad at) = 503
status_of replies.Full = 507

-- its phrase
unfoldable pub reason_of : ℕ → List ℕ
reason_of status = unwrap_or (reason_phrase status) []

-- two lower-case hexadecimal digits a byte
abbrev pub byte_hex : ℕ → List ℕ
byte_hex byte = digit_glyph false (byte / 16) ∷ digit_glyph false (byte % 16) ∷ []

abbrev pub hex_of : List ℕ → List ℕ
hex_of bytes = flat_map byte_hex bytes

-- standard base64 (RFC 4648, section 4)
unfoldable pub base64_of : List ℕ → List ℕ
base64_of bytes = encode_of standard bytes

-- ---- texts

-- what stands in a JSON string for the character with this number (RFC 8259, section 7)
unfoldable pub character_json : ℕ → List ℕ
character_json character =
    if character == 34 then codes "\\\""
    else if character == 92 then codes "\\\\"
    else if character == 8 then codes "\\b"
    else if character == 9 then codes "\\t"
    else if character == 10 then codes "\\n"
    else if character == 12 then codes "\\f"
    else if character == 13 then codes "\\r"
    else if nat_lt character 32 then codes "\\u00" ++ byte_hex character
    else encode_utf8 character

-- a text in a JSON string, each of its bytes as the character of that number
abbrev pub text_json : List ℕ → List ℕ
text_json bytes = flat_map character_json bytes

-- ---- reasons

-- the member that names a target, by its one text
abbrev pub name_json : Target → List ℕ
name_json target = codes "\"name\":\"" ++ text_json (target_text target) ++ codes "\""

-- a target and the rule
abbrev pub named_json : Target → List ℕ → List ℕ
named_json target rule = codes "{" ++ name_json target ++ codes ",\"rule\":\"" ++ rule ++ codes "\"}"

-- how many perspectives are good and how many are needed
abbrev pub counted_json : Target → ℕ → ℕ → List ℕ → List ℕ
counted_json target good needed rule =
    codes "{\"good\":" ++ decimal good ++ codes "," ++ name_json target ++ codes ",\"needed\":" ++ decimal needed ++ codes ",\"rule\":\"" ++ rule
    ++ codes "\"}"

-- how many labels are left out in front of the name
abbrev pub dropped_json : Target → ℕ → List ℕ → List ℕ
dropped_json target count rule =
    codes "{\"drop\":" ++ decimal count ++ codes "," ++ name_json target ++ codes ",\"rule\":\"" ++ rule ++ codes "\"}"

-- a moment under its name
abbrev pub dated_json : Target → List ℕ → List ℕ → ℕ → List ℕ
dated_json target rule member moment =
    codes "{" ++ name_json target ++ codes ",\"rule\":\"" ++ rule ++ codes "\",\"" ++ member ++ codes "\":" ++ decimal moment ++ codes "}"

-- a record's tag
abbrev pub tagged_json : Target → List ℕ → List ℕ → List ℕ
tagged_json target rule tag =
    codes "{" ++ name_json target ++ codes ",\"rule\":\"" ++ rule ++ codes "\",\"tag\":\"" ++ hex_of tag ++ codes "\"}"

-- the members of a reason, in the order of their names
abbrev pub reason_json : Why → List ℕ
reason_json (reasons.KeyBlocked number) = codes "{\"number\":" ++ decimal number ++ codes ",\"rule\":\"key_blocked\"}"
reason_json (reasons.NoProof target) = named_json target (codes "no_proof")
reason_json (reasons.ProofTooFew target good needed) = counted_json target good needed (codes "proof_too_few")
reason_json (reasons.ProofOneRegion target) = named_json target (codes "proof_one_region")
reason_json (reasons.ProofOld target seen_at) = dated_json target (codes "proof_old") (codes "seen_at") seen_at.0
reason_json (reasons.CaaMissing target) = named_json target (codes "caa_missing")
reason_json (reasons.CaaUnknown target count) = dropped_json target count (codes "caa_unknown")
reason_json (reasons.CaaOld target until) = dated_json target (codes "caa_old") (codes "until") until.0
reason_json (reasons.CaaCritical target tag) = tagged_json target (codes "caa_critical") tag
reason_json (reasons.CaaDenied target count) = dropped_json target count (codes "caa_denied")
reason_json (reasons.CaaTooFew target good needed) = counted_json target good needed (codes "caa_too_few")
reason_json (reasons.CaaOneRegion target) = named_json target (codes "caa_one_region")

-- reasons with a comma between two
abbrev pub reasons_json : List Why → List ℕ
reasons_json [] = []
reasons_json (why ∷ whys) = reason_json why ++ flat_map (λ next. 44 ∷ reason_json next) whys

-- ---- replies

-- the members of the body, in the order of their names
abbrev pub json_of : Reply → List ℕ
json_of (replies.Placed order) = codes "{\"order\":" ++ decimal order ++ codes ",\"reply\":\"placed\"}"
json_of (replies.ChallengeMade challenge text) =
    codes "{\"challenge\":" ++ decimal challenge ++ codes ",\"reply\":\"challenge_made\",\"text\":\"" ++ text_json text ++ codes "\"}"
json_of (replies.Observed number) = codes "{\"number\":" ++ decimal number ++ codes ",\"reply\":\"observed\"}"
json_of (replies.Issued order serial certificate) =
    codes "{\"certificate\":\"" ++ base64_of certificate ++ codes "\",\"order\":" ++ decimal order ++ codes ",\"reply\":\"issued\",\"serial\":\""
    ++ hex_of serial.0 ++ codes "\"}"
json_of (replies.Blocked number) = codes "{\"number\":" ++ decimal number ++ codes ",\"reply\":\"blocked\"}"
json_of replies.RoleDenied = codes "{\"reply\":\"role_denied\"}"
json_of (replies.ClockRange reading) = codes "{\"reading\":" ++ decimal reading ++ codes ",\"reply\":\"clock_range\"}"
json_of replies.NoSuchOrder = codes "{\"reply\":\"no_such_order\"}"
json_of replies.NoSuchChallenge = codes "{\"reply\":\"no_such_challenge\"}"
json_of (replies.KeyReused kept) = codes "{\"kept\":" ++ decimal kept ++ codes ",\"reply\":\"key_reused\"}"
json_of (replies.BadFields rule) = codes "{\"reply\":\"bad_fields\",\"rule\":" ++ decimal rule ++ codes "}"
json_of (replies.ObservationLate m) = codes "{\"m\":" ++ decimal m.0 ++ codes ",\"reply\":\"observation_late\"}"
json_of (replies.EntropyRepeat value) = codes "{\"reply\":\"entropy_repeat\",\"value\":\"" ++ hex_of value.0 ++ codes "\"}"
json_of (replies.Refused why) = codes "{\"reply\":\"refused\",\"why\":[" ++ reasons_json why ++ codes "]}"
json_of replies.Full = codes "{\"reply\":\"full\"}"
json_of replies.ClockFault = codes "{\"reply\":\"clock_fault\"}"
json_of replies.EntropyFault = codes "{\"reply\":\"entropy_fault\"}"
json_of replies.DiskFault = codes "{\"reply\":\"disk_fault\"}"
json_of replies.SignerFault = codes "{\"reply\":\"signer_fault\"}"
json_of (replies.JournalBad at) = codes "{\"at\":" ++ decimal at ++ codes ",\"reply\":\"journal_bad\"}"
json_of replies.NoMemory = codes "{\"reply\":\"no_memory\"}"

-- the status line, the header lines and the empty line, and the body (RFC 9112, section 2.1)
abbrev pub status_line : ℕ → List ℕ → List ℕ
status_line status reason = codes "HTTP/1.1 " ++ decimal status ++ codes " " ++ reason ++ codes "\r\n"

abbrev pub header_lines : List ℕ → List ℕ
header_lines json = codes "content-type: application/json\r\ncontent-length: " ++ decimal (length json) ++ codes "\r\n\r\n"

abbrev pub response_of : ℕ → List ℕ → List ℕ
response_of status json = status_line status (reason_of status) ++ header_lines json ++ json

unfoldable pub text_of : Reply → List ℕ
text_of reply = response_of (status_of reply) (json_of reply)
