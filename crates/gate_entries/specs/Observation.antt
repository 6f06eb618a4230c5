-- An observation's entry: key, challenge, when it was seen, and what was seen in the DNS or on the website.
use Rattle.std.specs.Prelude.{ℕ, suc, ◌<◌, ◌^◌, List, [], ◌∷◌, ◌++◌, length, Ok, Err, ◌==◌, if◌then◌else◌}
use Rattle.std.specs.Int.{w8, w16, w64, to_be_bytes}
use Rattle.gate_base.specs.declared.seen.DnsSeen.{DnsSeen}
use Rattle.gate_base.specs.declared.seen.Hop.{Hop}
use Rattle.gate_base.specs.declared.seen.Seen.{Seen}
use Rattle.gate_base.specs.declared.seen.Seen.TheVariants.{Dns, Web}
use Rattle.gate_base.specs.declared.seen.WebSeen.{WebSeen}
use Rattle.gate_entries.specs.declared.entry.What.{What}
use Rattle.gate_entries.specs.declared.entry.What.TheVariants.{Observation}
use Rattle.gate_entries.specs.Field.{counted, list_bytes, AreItems, ◌>>=◌, Read, number_at, counted_at, list_at}

-- ---- what was seen

-- a record's text
abbrev pub text_bytes : List ℕ → List ℕ
text_bytes text = counted w16 text

-- a redirect: its status and where it leads
abbrev pub hop_bytes : Hop → List ℕ
hop_bytes hop = to_be_bytes w16 hop.status ++ counted w16 hop.location

-- the label that stood before the name, the TXT records and the targets of CNAME records
abbrev pub dns_bytes : DnsSeen → List ℕ
dns_bytes seen = counted w8 seen.prefix ++ list_bytes text_bytes seen.txts ++ list_bytes text_bytes seen.cnames

-- the first address, the redirects, the final status and the body
abbrev pub web_bytes : WebSeen → List ℕ
web_bytes seen = counted w16 seen.url ++ list_bytes hop_bytes seen.hops ++ to_be_bytes w16 seen.status ++ counted w16 seen.body

-- 1 and what the DNS gave; 2 and what the website gave
abbrev pub seen_bytes : Seen → List ℕ
seen_bytes (Dns seen) = 1 ∷ dns_bytes seen
seen_bytes (Web seen) = 2 ∷ web_bytes seen

abbrev pub IsText : List ℕ → Type 0
IsText text = length text < 2 ^ 16

pub record IsHop (hop : Hop) : Type 0 where
  pub status_fits : hop.status < 2 ^ 16
  pub location_fits : length hop.location < 2 ^ 16

pub record IsDnsSeen (seen : DnsSeen) : Type 0 where
  pub prefix_fits : length seen.prefix < 2 ^ 8
  pub are_txts : AreItems IsText seen.txts
  pub are_cnames : AreItems IsText seen.cnames

pub record IsWebSeen (seen : WebSeen) : Type 0 where
  pub url_fits : length seen.url < 2 ^ 16
  pub are_hops : AreItems IsHop seen.hops
  pub status_fits : seen.status < 2 ^ 16
  pub body_fits : length seen.body < 2 ^ 16

abbrev pub IsSeen : Seen → Type 0
IsSeen (Dns seen) = IsDnsSeen seen
IsSeen (Web seen) = IsWebSeen seen

unfoldable pub text_at : List ℕ → Read (List ℕ)
text_at bytes = counted_at w16 bytes

unfoldable pub hop_at : List ℕ → Read Hop
hop_at bytes = do
  status ← number_at w16 bytes
  location ← counted_at w16 status.1
  Ok (record { status = status.0; location = location.0 }, location.1)

unfoldable pub dns_at : List ℕ → Read Seen
dns_at bytes = do
  prefix ← counted_at w8 bytes
  txts ← list_at text_at prefix.1
  cnames ← list_at text_at txts.1
  Ok (Dns (record { prefix = prefix.0; txts = txts.0; cnames = cnames.0 }), cnames.1)

unfoldable pub web_at : List ℕ → Read Seen
web_at bytes = do
  url ← counted_at w16 bytes
  hops ← list_at hop_at url.1
  status ← number_at w16 hops.1
  body ← counted_at w16 status.1
  Ok (Web (record { url = url.0; hops = hops.0; status = status.0; body = body.0 }), body.1)

unfoldable pub seen_at : List ℕ → Read Seen
seen_at [] = Err 0
seen_at (kind ∷ rest) = if kind == 1 then dns_at rest else if kind == 2 then web_at rest else Err (suc (length rest))

-- ---- the entry

abbrev pub observation_bytes : List ℕ → ℕ → ℕ → Seen → List ℕ
observation_bytes key challenge moment seen = counted w8 key ++ to_be_bytes w64 challenge ++ to_be_bytes w64 moment ++ seen_bytes seen

pub record IsObservation (key : List ℕ) (challenge moment : ℕ) (seen : Seen) : Type 0 where
  pub key_fits : length key < 2 ^ 8
  pub challenge_fits : challenge < 2 ^ 64
  pub moment_fits : moment < 2 ^ 64
  pub is_seen : IsSeen seen

unfoldable pub observation_at : List ℕ → Read What
observation_at bytes = do
  key ← counted_at w8 bytes
  challenge ← number_at w64 key.1
  moment ← number_at w64 challenge.1
  seen ← seen_at moment.1
  Ok (Observation key.0 challenge.0 moment.0 seen.0, seen.1)
