-- Which bytes are readable settings.
use Rattle.std.proofs.Common.{ℕ, ◌<◌, ◌≤◌, List, length, refl, arith}
use Rattle.cert_fields.specs.Profile.{IsSoundProfile}
use Rattle.gate_settings.specs.declared.rule.Rule.{Rule}
use Rattle.gate_settings.specs.declared.rule.Rule.TheVariants.{S01, S02, S03, S04, S05, S06, S07, S08, S09, S10, S11, S12}
use Rattle.gate_settings.specs.declared.settings.Settings.{Settings}
use Rattle.gate_settings.specs.Rules.{Breaks, IsKept, NoneBroken}
use Rattle.gate_settings.specs.Meaning.{IsReadable, Says}
use Rattle.gate_settings.proofs.Meaning.{exact}

-- where no rule is broken, each is kept
kept_at : (B : Rule → ℕ → Type 0) (rule : Rule) → NoneBroken B → IsKept B rule
kept_at B S12 h = h.0
kept_at B S11 h = h.1.0
kept_at B S10 h = h.1.1.0
kept_at B S09 h = h.1.1.1.0
kept_at B S08 h = h.1.1.1.1.0
kept_at B S07 h = h.1.1.1.1.1.0
kept_at B S06 h = h.1.1.1.1.1.1.0
kept_at B S05 h = h.1.1.1.1.1.1.1.0
kept_at B S04 h = h.1.1.1.1.1.1.1.1.0
kept_at B S03 h = h.1.1.1.1.1.1.1.1.1.0
kept_at B S02 h = h.1.1.1.1.1.1.1.1.1.1.0
kept_at B S01 h = h.1.1.1.1.1.1.1.1.1.1.1.0

pub is_readable : (bytes : List ℕ) (settings : Settings) → Says bytes settings → IsSoundProfile settings.profile → NoneBroken (Breaks bytes) → IsReadable bytes
is_readable bytes settings says sound kept = record { kept = kept; settings = settings; say = (exact bytes settings).0 says; sound = sound }

pub is_unreadable : (bytes : List ℕ) (rule : Rule) (item : ℕ) → Breaks bytes rule item → ¬ (IsReadable bytes)
is_unreadable bytes rule item broken readable = kept_at (Breaks bytes) rule readable.kept item broken

pub readable_short : (bytes : List ℕ) → IsReadable bytes → length bytes ≤ 1048576
readable_short bytes readable =
    let kept : ¬ (1048576 < length bytes) = λ long. kept_at (Breaks bytes) S01 readable.kept 0 (long, refl) in
    omega (arith, kept)

pub ruleset readable = (is_readable, is_unreadable)
