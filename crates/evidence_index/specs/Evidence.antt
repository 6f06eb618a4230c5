-- What proves an account's control of a target: an observation by the primary perspective that confirms one of the account's
-- challenges, corroborated by remote perspectives (BR 2.1.5, section 3.2.2.9) and used again for a limited time (section 4.2.1).
-- The hour between the primary's observation and the others is this project's own, and so are the numbers of days.
use Rattle.std.specs.Prelude.{ℕ, ◌+◌, ◌*◌, ◌-◌, max, Bool, true, false, ◌&&◌, nat_eq, nat_lt, nat_le, List, map, length, slice_get, Option, Some, None, if◌then◌else◌}
use Rattle.std.specs.List.{filter, filter_map, fold, list_any}
use Rattle.std.specs.Option.{option_map_or}
use Rattle.gate_base.specs.Tables.{row_at}
use Rattle.gate_base.specs.declared.name.Target.{Target}
use Rattle.names_core.specs.declared.rule.Rule.{Rule}
use Rattle.perspectives.specs.declared.perspective.Perspective.{Perspective}
use Rattle.perspectives.specs.declared.answer.Quorum.{Quorum}
use Rattle.perspectives.specs.declared.answer.Quorum.TheVariants.{Met, TooFew, OneRegion}
use Rattle.perspectives.specs.Quorum.{quorum_of}
use Rattle.domain_methods.specs.declared.challenge.Challenge.{Challenge}
use Rattle.domain_methods.specs.declared.verdict.Verdict.{Verdict}
use Rattle.domain_methods.specs.declared.verdict.Verdict.TheVariants.{Good, Broken}
use Rattle.domain_methods.specs.Cover.{covers}
use Rattle.domain_methods.specs.Rules.{verdict_of}
use Rattle.gate_settings.specs.declared.settings.Settings.{Settings}
use Rattle.gate_entries.specs.declared.entry.Entry.{Entry}
use Rattle.gate_entries.specs.declared.entry.What.{What}
use Rattle.gate_entries.specs.declared.entry.What.TheVariants as whats
use Rattle.evidence_index.specs.declared.evidence.Evidence.{Evidence}
use Rattle.gate_entries.specs.declared.reply.Why.{Why}
use Rattle.gate_entries.specs.declared.reply.Why.TheVariants.{NoProof, ProofTooFew, ProofOneRegion, ProofOld}
use Rattle.evidence_index.specs.Lookups.{is_by, settings_at, challenge_of, seen_at_in, primary_of}

-- ---- what a perspective saw of a challenge

abbrev pub is_good : Verdict → Bool
is_good Good = true
is_good (Broken rule) = false

-- it is an observation of the challenge and breaks no rule of its method
abbrev pub confirms : Challenge → What → Bool
confirms c (whats.Observation key challenge seen_at seen) = nat_eq challenge c.number && is_good (verdict_of c seen seen_at)
confirms c what = false

abbrev pub is_good_by : List ℕ → Challenge → Entry → Bool
is_good_by id c entry = is_by id entry && confirms c entry.what

-- when the perspective of this id saw what confirms the challenge
abbrev pub good_times : List ℕ → Challenge → List Entry → List ℕ
good_times id c history = map (λ entry. seen_at_in entry.what) (filter (is_good_by id c) history)

-- ---- corroboration

-- two moments are an hour apart at most
abbrev pub is_near : ℕ → ℕ → Bool
is_near a b = nat_le a (b + 3600) && nat_le b (a + 3600)

-- the perspective saw what confirms the challenge within an hour of this moment
abbrev pub corroborates : Challenge → ℕ → List Entry → Perspective → Bool
corroborates c seen_at history p = list_any (is_near seen_at) (good_times p.id c history)

-- what the panel says of a challenge that its primary saw confirmed at this moment
abbrev pub corroboration : List Perspective → Challenge → ℕ → List Entry → Quorum
corroboration panel c seen_at history = quorum_of panel (map (corroborates c seen_at history) panel) seen_at

-- ---- evidence

-- the entry is of the panel's primary perspective
abbrev pub is_by_primary : List Perspective → Entry → Bool
is_by_primary panel entry = option_map_or (λ p. is_by p.id entry) (primary_of panel) false

-- when it was seen, and what the panel says of it
abbrev pub evidence_seen : List Perspective → Challenge → List Entry → ℕ → Evidence
evidence_seen panel c history seen_at =
    record { seen_at = record { 0 = seen_at }; quorum = corroboration panel c seen_at history }

-- what confirms the challenge is evidence if it is of the primary perspective of the panel in force
abbrev pub evidence_under : Option Settings → Challenge → List Entry → Entry → Option Evidence
evidence_under None c history entry = None
evidence_under (Some settings) c history entry =
    if is_by_primary settings.panel entry then Some (evidence_seen settings.panel c history (seen_at_in entry.what)) else None

-- it confirms a challenge whose target covers the wanted one
abbrev pub is_shown : Challenge → Target → List Rule → Entry → Bool
is_shown c target suffixes entry = covers c.method c.target target suffixes && confirms c entry.what

abbrev pub evidence_for : Option Challenge → Target → List Rule → List Entry → Entry → Option Evidence
evidence_for None target suffixes history entry = None
evidence_for (Some c) target suffixes history entry =
    if is_shown c target suffixes entry then evidence_under (settings_at entry.number history) c history entry else None

abbrev pub evidence_told : List ℕ → Target → List Rule → List Entry → Entry → What → Option Evidence
evidence_told account target suffixes history entry (whats.Observation key number seen_at seen) =
    evidence_for (challenge_of account number history) target suffixes history entry
evidence_told account target suffixes history entry what = None

-- What an entry is worth as evidence of the account's control of the target: it is an observation of a challenge of the account's
-- own, judged by the panel in force at that entry.
abbrev pub evidence_in : List ℕ → Target → List Rule → List Entry → Entry → Option Evidence
evidence_in account target suffixes history entry = evidence_told account target suffixes history entry entry.what

-- all the evidence, in the order of the entries
abbrev pub all_evidence : List ℕ → Target → List Rule → List Entry → List Evidence
all_evidence account target suffixes history = filter_map (evidence_in account target suffixes history) history

-- ---- whether it proves control

abbrev pub is_met : Quorum → Bool
is_met Met = true
is_met (TooFew good needed) = false
is_met OneRegion = false

-- the evidence that is corroborated
abbrev pub proved : List Evidence → List Evidence
proved evidence = filter (λ e. is_met e.quorum) evidence

abbrev pub later : Option ℕ → ℕ → ℕ
later None seen_at = seen_at
later (Some latest) seen_at = max latest seen_at

abbrev pub newest_after : Option ℕ → List Evidence → Option ℕ
newest_after latest evidence = fold (λ latest e. Some (later latest e.seen_at.0)) latest evidence

-- when the newest of it was seen
abbrev pub newest : List Evidence → Option ℕ
newest evidence = newest_after None evidence

-- at this moment it was seen too long ago to be used again, to the second
abbrev pub is_old : ℕ → ℕ → Bool
is_old moment seen_at = nat_lt (seen_at + (row_at moment).reuse * 86400) moment

abbrev pub corroboration_why : Target → Quorum → Option Why
corroboration_why target Met = None
corroboration_why target (TooFew good needed) = Some (ProofTooFew target good needed)
corroboration_why target OneRegion = Some (ProofOneRegion target)

abbrev pub age_why : Target → ℕ → ℕ → Option Why
age_why target moment seen_at = if is_old moment seen_at then Some (ProofOld target (record { 0 = seen_at })) else None

-- by the last of the evidence, and by when the newest that is corroborated was seen
abbrev pub proof_lacking : Target → ℕ → Option Evidence → Option ℕ → Option Why
proof_lacking target moment None newest = Some (NoProof target)
proof_lacking target moment (Some last) None = corroboration_why target last.quorum
proof_lacking target moment (Some last) (Some seen_at) = age_why target moment seen_at

-- There is no evidence; or none is corroborated, and the last of it tells what it lacks; or all that is corroborated is too old, and
-- the newest of it tells how old.
abbrev pub evidence_why : Target → ℕ → List Evidence → Option Why
evidence_why target moment evidence =
    proof_lacking target moment (slice_get evidence (length evidence - 1)) (newest (proved evidence))

-- why the account's control of the target isn't proved at this moment, where these are the settings in force
abbrev pub proof_why : Settings → List ℕ → Target → ℕ → List Entry → Option Why
proof_why settings account target moment history =
    evidence_why target moment (all_evidence account target settings.suffixes history)
