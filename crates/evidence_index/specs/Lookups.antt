-- What is looked up in the list of the journal's entries: the settings in force, an account's challenges, the primary perspective.
-- Entries are found by their numbers and not by their places, so each question can also be asked of a part of the list.
use Rattle.std.specs.Prelude.{ℕ, Bool, true, false, ◌&&◌, nat_eq, nat_le, List, bytes_eq, reverse, Option, Some, None}
use Rattle.std.specs.List.{find}
use Rattle.std.specs.Option.{option_and_then}
use Rattle.gate_base.specs.declared.moment.Moment.{Moment}
use Rattle.perspectives.specs.declared.perspective.Perspective.{Perspective}
use Rattle.domain_methods.specs.declared.challenge.Challenge.{Challenge}
use Rattle.gate_settings.specs.declared.settings.Settings.{Settings}
use Rattle.gate_settings.specs.Meaning.{settings_of}
use Rattle.gate_entries.specs.declared.entry.Entry.{Entry}
use Rattle.gate_entries.specs.declared.entry.What.{What}
use Rattle.gate_entries.specs.declared.entry.What.TheVariants as whats

-- the last element that passes
abbrev pub find_last : {X : Type 0} → (X → Bool) → List X → Option X
find_last p xs = find p (reverse xs)

-- the entry is of this caller
abbrev pub is_by : List ℕ → Entry → Bool
is_by caller entry = bytes_eq entry.caller caller

-- ---- settings

abbrev pub is_settings : What → Bool
is_settings (whats.Settings bytes) = true
is_settings what = false

-- the bytes of settings that an entry says
abbrev pub bytes_in : What → Option (List ℕ)
bytes_in (whats.Settings bytes) = Some bytes
bytes_in what = None

-- the settings that an entry says
abbrev pub settings_in : What → Option Settings
settings_in (whats.Settings bytes) = settings_of bytes
settings_in what = None

-- an entry of settings that stands no later than this number
abbrev pub is_settings_by : ℕ → Entry → Bool
is_settings_by number entry = is_settings entry.what && nat_le entry.number number

-- the settings in force at the entry with this number: those of the last entry of settings up to it
abbrev pub settings_at : ℕ → List Entry → Option Settings
settings_at number history = option_and_then (λ entry. settings_in entry.what) (find_last (is_settings_by number) history)

-- the last entry of settings
abbrev pub last_settings : List Entry → Option Entry
last_settings history = find_last (λ entry. is_settings entry.what) history

-- the bytes of the settings in force now: those of the last entry of settings
abbrev pub settings_bytes : List Entry → Option (List ℕ)
settings_bytes history = option_and_then (λ entry. bytes_in entry.what) (last_settings history)

-- the settings in force now
abbrev pub settings_now : List Entry → Option Settings
settings_now history = option_and_then (λ entry. settings_in entry.what) (last_settings history)

-- ---- challenges

abbrev pub is_challenge : What → Bool
is_challenge (whats.Challenge key order method target value thumb) = true
is_challenge what = false

-- the challenge that an entry of this number and moment makes
abbrev pub challenge_made : ℕ → Moment → What → Option Challenge
challenge_made number made (whats.Challenge key order method target value thumb) =
    Some (record { number = number; order = order; target = target; method = method; value = value; made = made; thumb = thumb })
challenge_made number made what = None

abbrev pub challenge_in : Entry → Option Challenge
challenge_in entry = challenge_made entry.number entry.moment entry.what

-- the account's own challenge with this number
abbrev pub is_challenge_of : List ℕ → ℕ → Entry → Bool
is_challenge_of account number entry = is_by account entry && (nat_eq entry.number number && is_challenge entry.what)

abbrev pub challenge_of : List ℕ → ℕ → List Entry → Option Challenge
challenge_of account number history = option_and_then challenge_in (find (is_challenge_of account number) history)

-- ---- observations and CAA answers

-- when a perspective saw what the entry keeps
abbrev pub seen_at_in : What → ℕ
seen_at_in (whats.Observation key challenge seen_at seen) = seen_at
seen_at_in (whats.CaaAnswer key order target seen_at answers) = seen_at
seen_at_in what = 0

-- ---- perspectives

-- the primary perspective of a panel
abbrev pub primary_of : List Perspective → Option Perspective
primary_of panel = find (λ p. p.primary) panel
