-- What the body of each command says.
use Rattle.std.specs.Prelude.{ℕ, Bool, List, codes, Option, Some, None, Ok, Err, if◌then◌else◌}
use Rattle.std.specs.Option.{is_some}
use Rattle.serde_json.specs.Data.{Data}
use Rattle.serde_json.specs.Find.{get, as_null}
use Rattle.gate_base.specs.declared.name.Target.{Target}
use Rattle.gate_base.specs.declared.seen.Method.{Method}
use Rattle.gate_base.specs.declared.seen.Seen.{Seen}
use Rattle.gate_base.specs.declared.seen.Seen.TheVariants.{Dns, Web}
use Rattle.gate_base.specs.declared.seen.Hop.{Hop}
use Rattle.gate_base.specs.declared.seen.CaaAnswer.{CaaAnswer}
use Rattle.gate_base.specs.declared.seen.CaaAnswer.TheVariants.{Failed, Set}
use Rattle.gate_base.specs.declared.seen.CaaRow.{CaaRow}
use Rattle.gate_entries.specs.declared.command.Command.{Command}
use Rattle.gate_entries.specs.declared.command.Command.TheVariants as commands
use Rattle.wire_decode.specs.declared.rule.Rule.TheVariants.{W02}
use Rattle.wire_decode.specs.Judgement.{Judgement, both, judged, ◌>>=◌}
use Rattle.wire_decode.specs.Members.{object_of, text_of, truth_at, text_at, u64_at, u32_at, u16_at, u8_at, exactly, each_at}
use Rattle.wire_decode.specs.Words.{base64_at, target_in, target_at, method_at}

-- ---- orders: common, days, key, names, request

abbrev pub order_from : (Bool × ℕ) × (List ℕ × (List Target × List ℕ)) → Command
order_from x = commands.Order x.1.0 x.1.1.0 x.0.1 x.0.0 x.1.1.1

unfoldable pub order_in : Data → Judgement Command
order_in d =
    exactly 5 d (judged order_from (both (both (truth_at (codes "common") d) (u16_at (codes "days") d))
    (both (text_at (codes "key") d) (both (each_at target_in (codes "names") d) (base64_at (codes "request") d)))))

-- ---- challenges for an order: key, method, name

abbrev pub challenge_from : ℕ → List ℕ × (Method × Target) → Command
challenge_from order x = commands.Challenge x.0 order x.1.1 x.1.0

unfoldable pub challenge_in : ℕ → Data → Judgement Command
challenge_in order d =
    exactly 3 d (judged (challenge_from order) (both (text_at (codes "key") d) (both (method_at (codes "method") d) (target_at (codes "name") d))))

-- ---- blocked keys: key, spki

abbrev pub block_from : List ℕ × List ℕ → Command
block_from x = commands.Block x.0 x.1

unfoldable pub block_in : Data → Judgement Command
block_in d = exactly 2 d (judged block_from (both (text_at (codes "key") d) (base64_at (codes "spki") d)))

-- ---- observations: challenge, key, seen_at, and either dns or web

-- cnames, prefix, txts
abbrev pub dns_from : List (List ℕ) × (List ℕ × List (List ℕ)) → Seen
dns_from x = Dns (record { prefix = x.1.0; txts = x.1.1; cnames = x.0 })

unfoldable pub dns_members : Data → Judgement Seen
dns_members d =
    exactly 3 d (judged dns_from (both (each_at text_of (codes "cnames") d) (both (text_at (codes "prefix") d) (each_at text_of (codes "txts") d))))

-- location, status
abbrev pub hop_from : List ℕ × ℕ → Hop
hop_from x = record { status = x.1; location = x.0 }

unfoldable pub hop_members : Data → Judgement Hop
hop_members d = exactly 2 d (judged hop_from (both (text_at (codes "location") d) (u16_at (codes "status") d)))

abbrev pub hop_in : Data → Judgement Hop
hop_in d = object_of d >>= hop_members

-- body, hops, status, url
abbrev pub web_from : (List ℕ × List Hop) × (ℕ × List ℕ) → Seen
web_from x = Web (record { url = x.1.1; hops = x.0.1; status = x.1.0; body = x.0.0 })

unfoldable pub web_members : Data → Judgement Seen
web_members d =
    exactly 4 d (judged web_from (both (both (text_at (codes "body") d) (each_at hop_in (codes "hops") d))
    (both (u16_at (codes "status") d) (text_at (codes "url") d))))

abbrev pub dns_in : Data → Judgement Seen
dns_in d = object_of d >>= dns_members

abbrev pub web_in : Data → Judgement Seen
web_in d = object_of d >>= web_members

-- one of the two, and not both
abbrev pub seen_among : Option Data → Option Data → Judgement Seen
seen_among (Some dns) None = dns_in dns
seen_among None (Some web) = web_in web
seen_among None None = Err W02
seen_among (Some dns) (Some web) = Err W02

unfoldable pub seen_in : Data → Judgement Seen
seen_in d = seen_among (get (codes "dns") d) (get (codes "web") d)

abbrev pub observation_from : (ℕ × List ℕ) × (ℕ × Seen) → Command
observation_from x = commands.Observe x.0.1 x.0.0 x.1.0 x.1.1

unfoldable pub observation_in : Data → Judgement Command
observation_in d =
    exactly 4 d (judged observation_from (both (both (u64_at (codes "challenge") d) (text_at (codes "key") d))
    (both (u64_at (codes "seen_at") d) (seen_in d))))

-- ---- CAA answers: answers, key, name, order, seen_at

-- flags, tag, value
abbrev pub row_from : ℕ × (List ℕ × List ℕ) → CaaRow
row_from x = record { flags = x.0; tag = x.1.0; value = x.1.1 }

unfoldable pub row_members : Data → Judgement CaaRow
row_members d = exactly 3 d (judged row_from (both (u8_at (codes "flags") d) (both (text_at (codes "tag") d) (text_at (codes "value") d))))

abbrev pub row_in : Data → Judgement CaaRow
row_in d = object_of d >>= row_members

-- rows, ttl
abbrev pub set_from : List CaaRow × ℕ → CaaAnswer
set_from x = Set x.1 x.0

unfoldable pub set_members : Data → Judgement CaaAnswer
set_members d = exactly 2 d (judged set_from (both (each_at row_in (codes "rows") d) (u32_at (codes "ttl") d)))

-- null for a question that was not answered
abbrev pub answer_in : Data → Judgement CaaAnswer
answer_in d = if is_some (as_null d) then Ok Failed else (object_of d >>= set_members)

abbrev pub caa_from : (List CaaAnswer × List ℕ) × (Target × (ℕ × ℕ)) → Command
caa_from x = commands.ObserveCaa x.0.1 x.1.1.0 x.1.0 x.1.1.1 (record { answers = x.0.0 })

unfoldable pub caa_in : Data → Judgement Command
caa_in d =
    exactly 5 d (judged caa_from (both (both (each_at answer_in (codes "answers") d) (text_at (codes "key") d))
    (both (target_at (codes "name") d) (both (u64_at (codes "order") d) (u64_at (codes "seen_at") d)))))
