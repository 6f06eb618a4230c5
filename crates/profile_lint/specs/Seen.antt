-- Which targets were seen, by the sets that hold them.
use Rattle.std.specs.Prelude.{Bool, true, false, List, ℕ}
use Rattle.std.specs.Str.{bytes_eq}
use Rattle.std.specs.HashSet.{contains_by}
use Rattle.gate_base.specs.declared.name.Address.TheVariants.{V4, V6}
use Rattle.gate_base.specs.declared.name.Target.{Target}
use Rattle.gate_base.specs.declared.name.Target.TheVariants.{Dns, Ip}
use Rattle.profile_lint.specs.declared.twice.Seen.{Seen}
use Rattle.names_core.specs.Suffix.{labels_eq}

-- a name is among those of its own kind, wildcard names or others
abbrev pub is_seen_name : Seen → Bool → List (List ℕ) → Bool
is_seen_name seen false labels = contains_by (λ key. labels_eq labels key.now) seen.names
is_seen_name seen true labels = contains_by (λ key. labels_eq labels key.now) seen.wildcards

-- a target that was seen
abbrev pub is_seen : Seen → Target → Bool
is_seen seen (Dns name) = is_seen_name seen name.wild name.labels
is_seen seen (Ip (V4 octets)) = contains_by (λ key. bytes_eq octets key.now) seen.v4
is_seen seen (Ip (V6 octets)) = contains_by (λ key. bytes_eq octets key.now) seen.v6
