-- Which targets the evidence on a target covers.
use Rattle.std.specs.Prelude.{◌≡◌, ℕ, ◌≤◌, Bool, false, not, ◌&&◌, nat_le, List, ◌++◌, length, bytes_eq, Option, Some, None}
use Rattle.std.specs.List.{ends_with}
use Rattle.gate_base.specs.declared.name.Address.TheVariants.{V4, V6}
use Rattle.gate_base.specs.declared.name.Name.{Name}
use Rattle.gate_base.specs.declared.name.Target.{Target}
use Rattle.gate_base.specs.declared.name.Target.TheVariants.{Dns, Ip}
use Rattle.gate_base.specs.declared.seen.Method.{Method}
use Rattle.gate_base.specs.declared.seen.Method.TheVariants.{DnsChange, WebChange, AcmeHttp}
use Rattle.names_core.specs.declared.rule.Rule.{Rule}
use Rattle.names_core.specs.Suffix.{base_len, labels_eq}

-- The proved name is an Authorization Domain Name of the wanted one (BR 2.1.5, section 1.6.1): what is left of the wanted name,
-- without its `*.`, where labels are taken off from the left, down to its Base Domain Name at most. It has to have one.
pub record IsAuthorizationName (proved wanted : Name) (rules : List Rule) : Type 0 where
  pub plain : proved.wild ≡ false
  pub front : List (List ℕ)
  pub ending : wanted.labels ≡ front ++ proved.labels
  pub base : ℕ
  pub has_base : base_len rules wanted.labels ≡ Some base
  pub above_base : base ≤ length proved.labels

-- DNS changes prove a name for all names below it (BR 2.1.5, section 3.2.2.4.7)
abbrev pub CoversBelow : Target → Target → List Rule → Type 0
CoversBelow (Dns proved) (Dns wanted) rules = IsAuthorizationName proved wanted rules
CoversBelow (Dns proved) (Ip wanted) rules = ⊥
CoversBelow (Ip proved) wanted rules = ⊥

-- no wildcard
abbrev pub IsPlain : Target → Type 0
IsPlain (Dns name) = name.wild ≡ false
IsPlain (Ip address) = Unit {0}

-- a website proves its own host alone, and no wildcard (BR 2.1.5, sections 3.2.2.4.18, 3.2.2.4.19 and 3.2.2.5)
abbrev pub CoversItself : Target → Target → Type 0
CoversItself proved wanted = (proved ≡ wanted) × IsPlain proved

-- evidence by this method on the proved target covers the wanted one
abbrev pub Covers : Method → Target → Target → List Rule → Type 0
Covers DnsChange proved wanted rules = CoversBelow proved wanted rules
Covers WebChange proved wanted rules = CoversItself proved wanted
Covers AcmeHttp proved wanted rules = CoversItself proved wanted

-- ---- the same as a test

abbrev pub is_within : ℕ → Option ℕ → Bool
is_within count None = false
is_within count (Some base) = nat_le base count

abbrev pub is_authorization_name : Name → Name → List Rule → Bool
is_authorization_name proved wanted rules =
    not proved.wild && is_within (length proved.labels) (base_len rules wanted.labels)
    && ends_with bytes_eq wanted.labels proved.labels

abbrev pub covers_below : Target → Target → List Rule → Bool
covers_below (Dns proved) (Dns wanted) rules = is_authorization_name proved wanted rules
covers_below (Dns proved) (Ip wanted) rules = false
covers_below (Ip proved) wanted rules = false

abbrev pub covers_itself : Target → Target → Bool
covers_itself (Dns proved) (Dns wanted) = not proved.wild && not wanted.wild && labels_eq proved.labels wanted.labels
covers_itself (Dns proved) (Ip wanted) = false
covers_itself (Ip proved) (Dns wanted) = false
covers_itself (Ip (V4 proved)) (Ip (V4 wanted)) = bytes_eq proved wanted
covers_itself (Ip (V4 proved)) (Ip (V6 wanted)) = false
covers_itself (Ip (V6 proved)) (Ip (V4 wanted)) = false
covers_itself (Ip (V6 proved)) (Ip (V6 wanted)) = bytes_eq proved wanted

abbrev pub covers : Method → Target → Target → List Rule → Bool
covers DnsChange proved wanted rules = covers_below proved wanted rules
covers WebChange proved wanted rules = covers_itself proved wanted
covers AcmeHttp proved wanted rules = covers_itself proved wanted
