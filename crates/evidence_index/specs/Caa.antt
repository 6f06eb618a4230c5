-- Whether the CAA records that the perspectives saw permit issuance for a target of an order (RFC 8659; BR 2.1.5, sections 3.2.2.8
-- and 3.2.2.9). An address has no CAA records.
use Rattle.std.specs.Prelude.{ℕ, Bool, true, false, not, ◌&&◌, nat_eq, nat_lt, List, [], map, length, bytes_eq, slice_get, Option, Some, None, if◌then◌else◌}
use Rattle.std.specs.Option.{is_none, option_and_then, option_map_or, option_or}
use Rattle.gate_base.specs.declared.name.Address.{Address}
use Rattle.gate_base.specs.declared.name.Address.TheVariants.{V4, V6}
use Rattle.gate_base.specs.declared.name.Name.{Name}
use Rattle.gate_base.specs.declared.name.Target.{Target}
use Rattle.gate_base.specs.declared.name.Target.TheVariants.{Dns, Ip}
use Rattle.gate_base.specs.declared.seen.CaaRow.{CaaRow}
use Rattle.names_core.specs.Suffix.{labels_eq}
use Rattle.perspectives.specs.declared.perspective.Perspective.{Perspective}
use Rattle.perspectives.specs.declared.answer.Quorum.{Quorum}
use Rattle.perspectives.specs.declared.answer.Quorum.TheVariants.{Met, TooFew, OneRegion}
use Rattle.perspectives.specs.Quorum.{quorum_of}
use Rattle.caa_climb.specs.Climb.{Relevant, found, nothing, unknown, relevant, fresh_until}
use Rattle.caa_climb.specs.Permission.{permission_of}
use Rattle.caa_climb.specs.declared.answer.Permission.{Permission}
use Rattle.caa_climb.specs.declared.answer.Permission.TheVariants.{Allowed, Denied, Critical}
use Rattle.gate_settings.specs.declared.settings.Settings.{Settings}
use Rattle.gate_entries.specs.declared.entry.Entry.{Entry}
use Rattle.gate_entries.specs.declared.entry.What.{What}
use Rattle.gate_entries.specs.declared.entry.What.TheVariants as whats
use Rattle.gate_entries.specs.declared.reply.Why.{Why}
use Rattle.gate_entries.specs.declared.reply.Why.TheVariants.{CaaMissing, CaaUnknown, CaaOld, CaaCritical, CaaDenied, CaaTooFew, CaaOneRegion}
use Rattle.evidence_index.specs.Lookups.{find_last, is_by, primary_of}

-- ---- which answers count

abbrev pub is_same_truth : Bool → Bool → Bool
is_same_truth true b = b
is_same_truth false b = not b

abbrev pub is_same_address : Address → Address → Bool
is_same_address (V4 a) (V4 b) = bytes_eq a b
is_same_address (V6 a) (V6 b) = bytes_eq a b
is_same_address (V4 a) (V6 b) = false
is_same_address (V6 a) (V4 b) = false

abbrev pub is_same_target : Target → Target → Bool
is_same_target (Dns a) (Dns b) = is_same_truth a.wild b.wild && labels_eq a.labels b.labels
is_same_target (Ip a) (Ip b) = is_same_address a b
is_same_target (Dns a) (Ip b) = false
is_same_target (Ip a) (Dns b) = false

-- it keeps answers for this target of the order
abbrev pub is_caa_for : ℕ → Target → What → Bool
is_caa_for order target (whats.CaaAnswer key number wanted seen_at answers) = nat_eq number order && is_same_target wanted target
is_caa_for order target what = false

-- the latest answers that the perspective of this id has for it
abbrev pub latest_caa : List ℕ → ℕ → Target → List Entry → Option Entry
latest_caa id order target history = find_last (λ entry. is_by id entry && is_caa_for order target entry.what) history

-- ---- what one perspective's answers say

abbrev pub tag_at : List CaaRow → ℕ → List ℕ
tag_at rows place = option_map_or (λ row. row.tag) (slice_get rows place) []

abbrev pub permission_why : Target → ℕ → List CaaRow → Permission → Option Why
permission_why target drop rows Allowed = None
permission_why target drop rows Denied = Some (CaaDenied target drop)
permission_why target drop rows (Critical row) = Some (CaaCritical target (tag_at rows row))

abbrev pub unknown_why : Target → ℕ → Option Why
unknown_why target drop = Some (CaaUnknown target drop)

-- what the relevant records say, apart from their age
abbrev pub records_why : Target → Name → List (List ℕ) → Relevant → Option Why
records_why target name issuers (found drop ttl rows) = permission_why target drop rows (permission_of rows name.wild issuers)
records_why target name issuers nothing = None
records_why target name issuers (unknown drop) = unknown_why target drop

-- what they say, unless they are too old by now
abbrev pub fresh_why : Target → Name → List (List ℕ) → ℕ → ℕ → Relevant → Option Why
fresh_why target name issuers moment seen_at r =
    if nat_lt (fresh_until r seen_at) moment
    then Some (CaaOld target (record { 0 = fresh_until r seen_at }))
    else records_why target name issuers r

-- what they say, unless a question was not answered
abbrev pub climb_why : Target → Name → List (List ℕ) → ℕ → ℕ → Relevant → Option Why
climb_why target name issuers moment seen_at (found drop ttl rows) = fresh_why target name issuers moment seen_at (found drop ttl rows)
climb_why target name issuers moment seen_at nothing = fresh_why target name issuers moment seen_at nothing
climb_why target name issuers moment seen_at (unknown drop) = unknown_why target drop

abbrev pub missing_why : Target → Option Why
missing_why target = Some (CaaMissing target)

abbrev pub answers_why : Target → Name → List (List ℕ) → ℕ → What → Option Why
answers_why target name issuers moment (whats.CaaAnswer key order wanted seen_at seen) =
    climb_why target name issuers moment seen_at (relevant seen.answers (length name.labels))
answers_why target name issuers moment what = missing_why target

-- why a perspective's latest answers don't permit issuance at this moment
abbrev pub latest_why : Target → Name → List (List ℕ) → ℕ → Option Entry → Option Why
latest_why target name issuers moment None = missing_why target
latest_why target name issuers moment (Some entry) = answers_why target name issuers moment entry.what

-- ---- what the panel's answers say

abbrev pub panel_why : Target → Quorum → Option Why
panel_why target Met = None
panel_why target (TooFew good needed) = Some (CaaTooFew target good needed)
panel_why target OneRegion = Some (CaaOneRegion target)

module _ (issuers : List (List ℕ)) (order : ℕ) (target : Target) (name : Name) (moment : ℕ) (history : List Entry) where
  abbrev pub perspective_why : Perspective → Option Why
  perspective_why p = latest_why target name issuers moment (latest_caa p.id order target history)

  -- a perspective corroborates where nothing in its latest answers stands against issuance
  abbrev pub permits : Perspective → Bool
  permits p = is_none (perspective_why p)

  -- what the primary perspective's answers say, and then how many remote perspectives corroborate
  abbrev pub name_why : List Perspective → Option Why
  name_why panel =
      option_or (option_and_then perspective_why (primary_of panel)) (panel_why target (quorum_of panel (map permits panel) moment))

-- why the CAA records don't permit issuance for a target of the order at this moment, where these are the settings in force
abbrev pub caa_why : Settings → ℕ → Target → ℕ → List Entry → Option Why
caa_why settings order (Dns name) moment history = name_why settings.issuers order (Dns name) name moment history settings.panel
caa_why settings order (Ip address) moment history = None
