-- The bytes of a reply.
use Rattle.std.specs.Prelude.{ℕ, List, [], ◌∷◌, ◌++◌, codes, decimal}
use Rattle.std.specs.List.{flat_map}
use Rattle.gate_base.specs.declared.name.Target.{Target}
use Rattle.names_core.specs.Target.{target_text}
use Rattle.gate_entries.specs.declared.reply.Reply.{Reply}
use Rattle.gate_entries.specs.declared.reply.Reply.TheVariants as replies
use Rattle.gate_entries.specs.declared.reply.Why.{Why}
use Rattle.gate_entries.specs.declared.reply.Why.TheVariants as reasons
use Rattle.wire_decode.specs.Response.{base64_of, hex_of, text_json, response_of}

-- the status (RFC 9110, section 15)
abbrev pub status_of : Reply → ℕ
status_of (replies.Placed order) = 200
status_of (replies.ChallengeMade challenge text) = 200
status_of (replies.Observed number) = 200
status_of (replies.Issued order serial certificate) = 200
status_of (replies.Blocked number) = 200
status_of replies.RoleDenied = 403
status_of replies.NoSuchOrder = 404
status_of replies.NoSuchChallenge = 404
status_of (replies.KeyReused kept) = 409
status_of (replies.BadFields rule) = 422
status_of (replies.ObservationLate m) = 422
status_of (replies.Refused why) = 422
status_of replies.NoMemory = 500
status_of (replies.ClockRange reading) = 503
status_of (replies.EntropyRepeat value) = 503
status_of replies.ClockFault = 503
status_of replies.EntropyFault = 503
status_of replies.DiskFault = 503
status_of replies.SignerFault = 503
status_of (replies.JournalBad at) = 503
status_of replies.Full = 507

-- ---- reasons

-- the member that names a target, by its one text
abbrev pub name_json : Target → List ℕ
name_json target = codes "\"name\":\"" ++ text_json (target_text target) ++ codes "\""

-- a target and the rule
abbrev pub named_json : Target → List ℕ → List ℕ
named_json target rule = codes "{" ++ name_json target ++ codes ",\"rule\":\"" ++ rule ++ codes "\"}"

-- how many perspectives are good and how many are needed
abbrev pub counted_json : Target → ℕ → ℕ → List ℕ → List ℕ
counted_json target good needed rule =
    codes "{\"good\":" ++ decimal good ++ codes "," ++ name_json target ++ codes ",\"needed\":" ++ decimal needed ++ codes ",\"rule\":\"" ++ rule
    ++ codes "\"}"

-- how many labels are left out in front of the name
abbrev pub dropped_json : Target → ℕ → List ℕ → List ℕ
dropped_json target count rule =
    codes "{\"drop\":" ++ decimal count ++ codes "," ++ name_json target ++ codes ",\"rule\":\"" ++ rule ++ codes "\"}"

-- a moment under its name
abbrev pub dated_json : Target → List ℕ → List ℕ → ℕ → List ℕ
dated_json target rule member moment =
    codes "{" ++ name_json target ++ codes ",\"rule\":\"" ++ rule ++ codes "\",\"" ++ member ++ codes "\":" ++ decimal moment ++ codes "}"

-- a record's tag
abbrev pub tagged_json : Target → List ℕ → List ℕ → List ℕ
tagged_json target rule tag =
    codes "{" ++ name_json target ++ codes ",\"rule\":\"" ++ rule ++ codes "\",\"tag\":\"" ++ hex_of tag ++ codes "\"}"

-- the members of a reason, in the order of their names
abbrev pub reason_json : Why → List ℕ
reason_json (reasons.KeyBlocked number) = codes "{\"number\":" ++ decimal number ++ codes ",\"rule\":\"key_blocked\"}"
reason_json (reasons.NoProof target) = named_json target (codes "no_proof")
reason_json (reasons.ProofTooFew target good needed) = counted_json target good needed (codes "proof_too_few")
reason_json (reasons.ProofOneRegion target) = named_json target (codes "proof_one_region")
reason_json (reasons.ProofOld target seen_at) = dated_json target (codes "proof_old") (codes "seen_at") seen_at.0
reason_json (reasons.CaaMissing target) = named_json target (codes "caa_missing")
reason_json (reasons.CaaUnknown target count) = dropped_json target count (codes "caa_unknown")
reason_json (reasons.CaaOld target until) = dated_json target (codes "caa_old") (codes "until") until.0
reason_json (reasons.CaaCritical target tag) = tagged_json target (codes "caa_critical") tag
reason_json (reasons.CaaDenied target count) = dropped_json target count (codes "caa_denied")
reason_json (reasons.CaaTooFew target good needed) = counted_json target good needed (codes "caa_too_few")
reason_json (reasons.CaaOneRegion target) = named_json target (codes "caa_one_region")

-- reasons with a comma between two
abbrev pub reasons_json : List Why → List ℕ
reasons_json [] = []
reasons_json (why ∷ whys) = reason_json why ++ flat_map (λ next. 44 ∷ reason_json next) whys

-- ---- replies

-- the members of the body, in the order of their names
abbrev pub json_of : Reply → List ℕ
json_of (replies.Placed order) = codes "{\"order\":" ++ decimal order ++ codes ",\"reply\":\"placed\"}"
json_of (replies.ChallengeMade challenge text) =
    codes "{\"challenge\":" ++ decimal challenge ++ codes ",\"reply\":\"challenge_made\",\"text\":\"" ++ text_json text ++ codes "\"}"
json_of (replies.Observed number) = codes "{\"number\":" ++ decimal number ++ codes ",\"reply\":\"observed\"}"
json_of (replies.Issued order serial certificate) =
    codes "{\"certificate\":\"" ++ base64_of certificate ++ codes "\",\"order\":" ++ decimal order ++ codes ",\"reply\":\"issued\",\"serial\":\""
    ++ hex_of serial.0 ++ codes "\"}"
json_of (replies.Blocked number) = codes "{\"number\":" ++ decimal number ++ codes ",\"reply\":\"blocked\"}"
json_of replies.RoleDenied = codes "{\"reply\":\"role_denied\"}"
json_of (replies.ClockRange reading) = codes "{\"reading\":" ++ decimal reading ++ codes ",\"reply\":\"clock_range\"}"
json_of replies.NoSuchOrder = codes "{\"reply\":\"no_such_order\"}"
json_of replies.NoSuchChallenge = codes "{\"reply\":\"no_such_challenge\"}"
json_of (replies.KeyReused kept) = codes "{\"kept\":" ++ decimal kept ++ codes ",\"reply\":\"key_reused\"}"
json_of (replies.BadFields rule) = codes "{\"reply\":\"bad_fields\",\"rule\":" ++ decimal rule ++ codes "}"
json_of (replies.ObservationLate m) = codes "{\"m\":" ++ decimal m.0 ++ codes ",\"reply\":\"observation_late\"}"
json_of (replies.EntropyRepeat value) = codes "{\"reply\":\"entropy_repeat\",\"value\":\"" ++ hex_of value.0 ++ codes "\"}"
json_of (replies.Refused why) = codes "{\"reply\":\"refused\",\"why\":[" ++ reasons_json why ++ codes "]}"
json_of replies.Full = codes "{\"reply\":\"full\"}"
json_of replies.ClockFault = codes "{\"reply\":\"clock_fault\"}"
json_of replies.EntropyFault = codes "{\"reply\":\"entropy_fault\"}"
json_of replies.DiskFault = codes "{\"reply\":\"disk_fault\"}"
json_of replies.SignerFault = codes "{\"reply\":\"signer_fault\"}"
json_of (replies.JournalBad at) = codes "{\"at\":" ++ decimal at ++ codes ",\"reply\":\"journal_bad\"}"
json_of replies.NoMemory = codes "{\"reply\":\"no_memory\"}"

unfoldable pub reply_text : Reply → List ℕ
reply_text reply = response_of (status_of reply) (json_of reply)
