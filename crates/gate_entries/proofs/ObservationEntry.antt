-- An observation that is read is the one that was written.
use Rattle.std.proofs.Common.{◌≡◌, ℕ, suc, true, eqb, List, [], ◌∷◌, ◌++◌, length, Result, Ok, refl, sym, ap, subst, ◌∙◌, inl, inr}
use Rattle.std.specs.Int.{w8, w16, w64, to_be_bytes}
use Rattle.std.proofs.lemmas.Bool.{eqb-true}
use Rattle.gate_base.specs.declared.seen.DnsSeen.{DnsSeen}
use Rattle.gate_base.specs.declared.seen.Hop.{Hop}
use Rattle.gate_base.specs.declared.seen.Seen.{Seen}
use Rattle.gate_base.specs.declared.seen.Seen.TheVariants.{Dns, Web}
use Rattle.gate_base.specs.declared.seen.WebSeen.{WebSeen}
use Rattle.gate_entries.specs.declared.entry.What.{What}
use Rattle.gate_entries.specs.declared.entry.What.TheVariants.{Observation}
use Rattle.gate_entries.specs.declared.kind.Kind.TheVariants as kinds
use Rattle.gate_entries.specs.Field.{counted, list_bytes}
use Rattle.gate_entries.specs.Observation.{text_bytes, hop_bytes, dns_bytes, web_bytes, seen_bytes, IsText, IsHop, IsDnsSeen, IsWebSeen, IsSeen, text_at, hop_at, dns_at, web_at, seen_at, observation_bytes, IsObservation, observation_at}
use Rattle.gate_entries.proofs.Fields.{IsBytes, IsBytes-rest, as_made, Takes, takes_both, takes_behind, key_field, counted16_field, number16_field, number64_field, step, step_again, IsField, list_field, chosen}
use Rattle.gate_entries.proofs.KindFields.{TakesWhat}
use Rattle.gate_entries.proofs.Pieces.{two_behind, three_behind, four_behind}
use Rattle.gate_entries.proofs.Targets.{only_met}

-- ---- texts and redirects

text_field : IsField text_bytes IsText text_at
unfolding text_at
text_field = counted16_field

hop_takes : (bytes : List ℕ) (x : Hop × List ℕ) → IsBytes bytes → hop_at bytes ≡ Ok x → Takes bytes (hop_bytes x.0) x.1 × IsHop x.0
unfolding hop_at
hop_takes bytes x small e =
    let status = step number16_field bytes _ x small e in
    let location = step counted16_field status.found.1 _ x status.takes.small status.goes_on in
    let made : Hop × List ℕ = (record { status = status.found.0; location = location.found.0 }, location.found.1) in
    as_made (λ (y : Hop × List ℕ). Takes bytes (hop_bytes y.0) y.1 × IsHop y.0) made x location.goes_on
    (takes_both status.takes location.takes, record { status_fits = status.is; location_fits = location.is })

hop_again : (hop : Hop) (rest : List ℕ) → IsHop hop → hop_at (hop_bytes hop ++ rest) ≡ Ok (hop, rest)
unfolding hop_at
hop_again hop rest is =
    let whole : Result (Hop × List ℕ) ℕ = Ok (hop, rest) in
    ap hop_at (two_behind (to_be_bytes w16 hop.status) (counted w16 hop.location) rest)
    ∙ step_again number16_field hop.status (counted w16 hop.location ++ rest) _ whole is.status_fits
    (step_again counted16_field hop.location rest _ whole is.location_fits refl)

hop_field : IsField hop_bytes IsHop hop_at
hop_field = record { takes = hop_takes; again = hop_again }

-- ---- what was seen, behind its kind

abbrev TakesSeen : ℕ → List ℕ → Seen × List ℕ → Type 0
TakesSeen kind bytes x = Takes (kind ∷ bytes) (seen_bytes x.0) x.1 × IsSeen x.0

dns_takes : (bytes : List ℕ) (x : Seen × List ℕ) → IsBytes bytes → dns_at bytes ≡ Ok x → TakesSeen 1 bytes x
unfolding dns_at
dns_takes bytes x small e =
    let prefix = step key_field bytes _ x small e in
    let txts = step (list_field text_field) prefix.found.1 _ x prefix.takes.small prefix.goes_on in
    let cnames = step (list_field text_field) txts.found.1 _ x txts.takes.small txts.goes_on in
    let seen : DnsSeen = record { prefix = prefix.found.0; txts = txts.found.0; cnames = cnames.found.0 } in
    let made : Seen × List ℕ = (Dns seen, cnames.found.1) in
    as_made (TakesSeen 1 bytes) made x cnames.goes_on
    (takes_behind (takes_both (takes_both prefix.takes txts.takes) cnames.takes), record { prefix_fits = prefix.is; are_txts = txts.is; are_cnames = cnames.is })

dns_again : (seen : DnsSeen) (rest : List ℕ) → IsDnsSeen seen → dns_at (dns_bytes seen ++ rest) ≡ Ok (Dns seen, rest)
unfolding dns_at
dns_again seen rest is =
    let whole : Result (Seen × List ℕ) ℕ = Ok (Dns seen, rest) in
    let r2 = list_bytes text_bytes seen.cnames ++ rest in
    let r1 = list_bytes text_bytes seen.txts ++ r2 in
    ap dns_at (three_behind (counted w8 seen.prefix) (list_bytes text_bytes seen.txts) (list_bytes text_bytes seen.cnames) rest)
    ∙ step_again key_field seen.prefix r1 _ whole is.prefix_fits
    (step_again (list_field text_field) seen.txts r2 _ whole is.are_txts
    (step_again (list_field text_field) seen.cnames rest _ whole is.are_cnames refl))

web_takes : (bytes : List ℕ) (x : Seen × List ℕ) → IsBytes bytes → web_at bytes ≡ Ok x → TakesSeen 2 bytes x
unfolding web_at
web_takes bytes x small e =
    let url = step counted16_field bytes _ x small e in
    let hops = step (list_field hop_field) url.found.1 _ x url.takes.small url.goes_on in
    let status = step number16_field hops.found.1 _ x hops.takes.small hops.goes_on in
    let body = step counted16_field status.found.1 _ x status.takes.small status.goes_on in
    let seen : WebSeen = record { url = url.found.0; hops = hops.found.0; status = status.found.0; body = body.found.0 } in
    let made : Seen × List ℕ = (Web seen, body.found.1) in
    as_made (TakesSeen 2 bytes) made x body.goes_on (
      takes_behind (takes_both (takes_both (takes_both url.takes hops.takes) status.takes) body.takes),
      record { url_fits = url.is; are_hops = hops.is; status_fits = status.is; body_fits = body.is },
    )

web_again : (seen : WebSeen) (rest : List ℕ) → IsWebSeen seen → web_at (web_bytes seen ++ rest) ≡ Ok (Web seen, rest)
unfolding web_at
web_again seen rest is =
    let whole : Result (Seen × List ℕ) ℕ = Ok (Web seen, rest) in
    let r3 = counted w16 seen.body ++ rest in
    let r2 = to_be_bytes w16 seen.status ++ r3 in
    let r1 = list_bytes hop_bytes seen.hops ++ r2 in
    ap web_at (four_behind (counted w16 seen.url) (list_bytes hop_bytes seen.hops) (to_be_bytes w16 seen.status) (counted w16 seen.body) rest)
    ∙ step_again counted16_field seen.url r1 _ whole is.url_fits
    (step_again (list_field hop_field) seen.hops r2 _ whole is.are_hops
    (step_again number16_field seen.status r3 _ whole is.status_fits
    (step_again counted16_field seen.body rest _ whole is.body_fits refl)))

of_kind : (kind known : ℕ) (bytes : List ℕ) (x : Seen × List ℕ) → eqb kind known ≡ true → TakesSeen known bytes x → TakesSeen kind bytes x
of_kind kind known bytes x test takes = subst (λ (k : ℕ). TakesSeen k bytes x) (sym (eqb-true kind known test)) takes

seen_takes : (bytes : List ℕ) (x : Seen × List ℕ) → IsBytes bytes → seen_at bytes ≡ Ok x → Takes bytes (seen_bytes x.0) x.1 × IsSeen x.0
unfolding seen_at
seen_takes [] x small e = absurd cc
seen_takes (kind ∷ bytes) x small e =
    let rest = IsBytes-rest kind bytes small in
    elim (chosen (eqb kind 1) (dns_at bytes) _ (Ok x) e) [
      | inl is1 ↦ of_kind kind 1 bytes x is1.0 (dns_takes bytes x rest is1.1)
      | inr not1 ↦
          let met = only_met (eqb kind 2) (suc (length bytes)) (web_at bytes) x not1.1 in
          of_kind kind 2 bytes x met.0 (web_takes bytes x rest met.1)
    ]

seen_again : (seen : Seen) (rest : List ℕ) → IsSeen seen → seen_at (seen_bytes seen ++ rest) ≡ Ok (seen, rest)
unfolding seen_at
seen_again (Dns seen) rest is = dns_again seen rest is
seen_again (Web seen) rest is = web_again seen rest is

pub seen_field : IsField seen_bytes IsSeen seen_at
seen_field = record { takes = seen_takes; again = seen_again }

-- ---- the entry

pub observation_takes : (bytes : List ℕ) (x : What × List ℕ) → IsBytes bytes → observation_at bytes ≡ Ok x → TakesWhat kinds.Observation bytes x
unfolding observation_at
observation_takes bytes x small e =
    let key = step key_field bytes _ x small e in
    let challenge = step number64_field key.found.1 _ x key.takes.small key.goes_on in
    let moment = step number64_field challenge.found.1 _ x challenge.takes.small challenge.goes_on in
    let seen = step seen_field moment.found.1 _ x moment.takes.small moment.goes_on in
    let whole = takes_both (takes_both (takes_both key.takes challenge.takes) moment.takes) seen.takes in
    let made : What × List ℕ = (Observation key.found.0 challenge.found.0 moment.found.0 seen.found.0, seen.found.1) in
    as_made (TakesWhat kinds.Observation bytes) made x seen.goes_on
    (whole, record { key_fits = key.is; challenge_fits = challenge.is; moment_fits = moment.is; is_seen = seen.is }, refl {a = kinds.Observation})

pub observation_again : (key : List ℕ) (challenge moment : ℕ) (seen : Seen) (rest : List ℕ) → IsObservation key challenge moment seen
    → observation_at (observation_bytes key challenge moment seen ++ rest) ≡ Ok (Observation key challenge moment seen, rest)
unfolding observation_at
observation_again key challenge moment seen rest is =
    let whole : Result (What × List ℕ) ℕ = Ok (Observation key challenge moment seen, rest) in
    let r3 = seen_bytes seen ++ rest in
    let r2 = to_be_bytes w64 moment ++ r3 in
    let r1 = to_be_bytes w64 challenge ++ r2 in
    ap observation_at (four_behind (counted w8 key) (to_be_bytes w64 challenge) (to_be_bytes w64 moment) (seen_bytes seen) rest)
    ∙ step_again key_field key r1 _ whole is.key_fits
    (step_again number64_field challenge r2 _ whole is.challenge_fits
    (step_again number64_field moment r3 _ whole is.moment_fits
    (step_again seen_field seen rest _ whole is.is_seen refl)))
