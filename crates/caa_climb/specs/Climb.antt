-- Which CAA records are relevant for a name (RFC 8659, section 3), and for how long what was seen of them may be used
-- (BR 2.1.5, section 3.2.2.8: 8 hours, or the time to live of the records if that is longer). That a question which was not answered
-- never permits, and that an answer without records may be used for 8 hours, are this project's own rules.
use Rattle.std.specs.Prelude.{ℕ, ◌+◌, max, Bool, true, false, List, [], ◌∷◌, Option, Some, None, nat_lt, if◌then◌else◌}
use Rattle.std.specs.List.{prefix_len, slice_get}
use Rattle.gate_base.specs.declared.seen.CaaAnswer.{CaaAnswer}
use Rattle.gate_base.specs.declared.seen.CaaAnswer.TheVariants.{Failed, Set}
use Rattle.gate_base.specs.declared.seen.CaaRow.{CaaRow}
use Rattle.caa_climb.specs.declared.relevant.Climb.{Climb}
use Rattle.caa_climb.specs.declared.relevant.Climb.TheVariants.{Found, Empty, Unknown}

-- what climbing finds: the set for the name without its first labels, so many of them; or no set at all; or a question that was not answered
pub data Relevant : Type 0 where
  found : (drop ttl : ℕ) (rows : List CaaRow) → Relevant
  nothing : Relevant
  unknown : (drop : ℕ) → Relevant

-- whether the answer says that there are no records
abbrev pub is_empty_answer : CaaAnswer → Bool
is_empty_answer Failed = false
is_empty_answer (Set ttl []) = true
is_empty_answer (Set ttl (row ∷ rows)) = false

-- what the first answer that isn't empty tells
abbrev pub told : ℕ → Option CaaAnswer → Relevant
told drop (Some (Set ttl rows)) = found drop ttl rows
told drop (Some Failed) = unknown drop
told drop None = unknown drop

-- The answers are those for the name, and then without its first label, its first two, and so on. Those for its labels count, from the
-- whole name to the last label alone; never that for the root.
abbrev pub relevant : List CaaAnswer → ℕ → Relevant
relevant answers labels =
    if nat_lt (prefix_len is_empty_answer answers) labels
    then told (prefix_len is_empty_answer answers) (slice_get answers (prefix_len is_empty_answer answers))
    else nothing

-- what a climb tells
abbrev pub relevant_of : Climb → Relevant
relevant_of (Found drop ttl rows) = found drop ttl rows.now
relevant_of Empty = nothing
relevant_of (Unknown drop) = unknown drop

-- until when it may be used, where it was seen at this moment
abbrev pub fresh_until : Relevant → ℕ → ℕ
fresh_until (found drop ttl rows) seen_at = seen_at + max 28800 ttl
fresh_until nothing seen_at = seen_at + 28800
fresh_until (unknown drop) seen_at = seen_at + 28800
