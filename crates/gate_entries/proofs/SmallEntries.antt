-- Settings, bodies, signatures and blocked keys that are read are those that were written.
use Rattle.std.proofs.Common.{◌≡◌, ℕ, ◌^◌, ◌<◌, List, ◌++◌, length, Result, Ok, refl, ap, ◌∙◌}
use Rattle.std.specs.Int.{w8, w16, w32, w64, to_be_bytes}
use Rattle.gate_entries.specs.declared.entry.What.{What}
use Rattle.gate_entries.specs.declared.entry.What.TheVariants.{Settings, Send, Signed, Blocked}
use Rattle.gate_entries.specs.declared.kind.Kind.TheVariants as kinds
use Rattle.gate_entries.specs.Field.{counted}
use Rattle.gate_entries.specs.Numbered.{numbered_bytes, IsNumbered, send_at, signed_at}
use Rattle.gate_entries.specs.Blocked.{blocked_bytes, IsBlocked, blocked_at}
use Rattle.gate_entries.specs.Reading.{settings_at}
use Rattle.gate_entries.proofs.Fields.{IsBytes, as_made, takes_both, wide32, counted_field, key_field, counted16_field, number64_field, step, step_again}
use Rattle.gate_entries.proofs.KindFields.{TakesWhat}
use Rattle.gate_entries.proofs.Pieces.{two_behind}

pub settings_take : (bytes : List ℕ) (x : What × List ℕ) → IsBytes bytes → settings_at bytes ≡ Ok x → TakesWhat kinds.Settings bytes x
unfolding settings_at
settings_take bytes x small e =
    let settings = step (counted_field w32 (2 ^ 32) wide32) bytes _ x small e in
    let made : What × List ℕ = (Settings settings.found.0, settings.found.1) in
    as_made (TakesWhat kinds.Settings bytes) made x settings.goes_on (settings.takes, settings.is, refl {a = kinds.Settings})

pub settings_again : (bytes rest : List ℕ) → length bytes < 2 ^ 32 → settings_at (counted w32 bytes ++ rest) ≡ Ok (Settings bytes, rest)
unfolding settings_at
settings_again bytes rest is = step_again (counted_field w32 (2 ^ 32) wide32) bytes rest _ (Ok (Settings bytes, rest)) is refl

pub send_takes : (bytes : List ℕ) (x : What × List ℕ) → IsBytes bytes → send_at bytes ≡ Ok x → TakesWhat kinds.Send bytes x
unfolding send_at
send_takes bytes x small e =
    let order = step number64_field bytes _ x small e in
    let body = step counted16_field order.found.1 _ x order.takes.small order.goes_on in
    let made : What × List ℕ = (Send order.found.0 body.found.0, body.found.1) in
    as_made (TakesWhat kinds.Send bytes) made x body.goes_on (takes_both order.takes body.takes, (order.is, body.is), refl {a = kinds.Send})

pub send_again : (order : ℕ) (body rest : List ℕ) → IsNumbered order body → send_at (numbered_bytes order body ++ rest) ≡ Ok (Send order body, rest)
unfolding send_at
send_again order body rest is =
    let whole : Result (What × List ℕ) ℕ = Ok (Send order body, rest) in
    ap send_at (two_behind (to_be_bytes w64 order) (counted w16 body) rest)
    ∙ step_again number64_field order (counted w16 body ++ rest) _ whole is.0 (step_again counted16_field body rest _ whole is.1 refl)

pub signed_takes : (bytes : List ℕ) (x : What × List ℕ) → IsBytes bytes → signed_at bytes ≡ Ok x → TakesWhat kinds.Signed bytes x
unfolding signed_at
signed_takes bytes x small e =
    let order = step number64_field bytes _ x small e in
    let signature = step counted16_field order.found.1 _ x order.takes.small order.goes_on in
    let made : What × List ℕ = (Signed order.found.0 signature.found.0, signature.found.1) in
    as_made (TakesWhat kinds.Signed bytes) made x signature.goes_on (takes_both order.takes signature.takes, (order.is, signature.is), refl {a = kinds.Signed})

pub signed_again : (order : ℕ) (signature rest : List ℕ) → IsNumbered order signature → signed_at (numbered_bytes order signature ++ rest) ≡ Ok (Signed order signature, rest)
unfolding signed_at
signed_again order signature rest is =
    let whole : Result (What × List ℕ) ℕ = Ok (Signed order signature, rest) in
    ap signed_at (two_behind (to_be_bytes w64 order) (counted w16 signature) rest)
    ∙ step_again number64_field order (counted w16 signature ++ rest) _ whole is.0 (step_again counted16_field signature rest _ whole is.1 refl)

pub blocked_takes : (bytes : List ℕ) (x : What × List ℕ) → IsBytes bytes → blocked_at bytes ≡ Ok x → TakesWhat kinds.Blocked bytes x
unfolding blocked_at
blocked_takes bytes x small e =
    let key = step key_field bytes _ x small e in
    let spki = step counted16_field key.found.1 _ x key.takes.small key.goes_on in
    let made : What × List ℕ = (Blocked key.found.0 spki.found.0, spki.found.1) in
    as_made (TakesWhat kinds.Blocked bytes) made x spki.goes_on (takes_both key.takes spki.takes, (key.is, spki.is), refl {a = kinds.Blocked})

pub blocked_again : (key spki rest : List ℕ) → IsBlocked key spki → blocked_at (blocked_bytes key spki ++ rest) ≡ Ok (Blocked key spki, rest)
unfolding blocked_at
blocked_again key spki rest is =
    let whole : Result (What × List ℕ) ℕ = Ok (Blocked key spki, rest) in
    ap blocked_at (two_behind (counted w8 key) (counted w16 spki) rest)
    ∙ step_again key_field key (counted w16 spki ++ rest) _ whole is.0 (step_again counted16_field spki rest _ whole is.1 refl)
