-- Orders: the rules on their fields, how they are answered, and their row in a legal history.
use Rattle.std.specs.Prelude.{◌≡◌, ◌≢◌, ℕ, ◌<◌, ◌⊎◌, List, [], ◌∷◌, length, Bool, true, Option, Some, None}
use Rattle.std.specs.List.{AllByRecursion}
use Rattle.gate_base.specs.declared.name.Target.{Target}
use Rattle.gate_base.specs.declared.name.Target.TheVariants.{Dns, Ip}
use Rattle.names_core.specs.Target.{name_text}
use Rattle.csr10.specs.declared.fault.CsrFault.{CsrFault}
use Rattle.csr10.specs.declared.fault.CsrFault.TheVariants as requests
use Rattle.csr10.specs.Csr.{Fields, IsCsr, IsFirstFault}
use Rattle.gate_entries.specs.declared.caller.Caller.{Caller}
use Rattle.gate_entries.specs.declared.command.Command.TheVariants as commands
use Rattle.gate_entries.specs.declared.entry.Entry.{Entry}
use Rattle.gate_entries.specs.declared.entry.What.{What}
use Rattle.gate_entries.specs.declared.entry.What.TheVariants as whats
use Rattle.gate_entries.specs.declared.reply.Reply.{Reply}
use Rattle.gate_entries.specs.declared.reply.Reply.TheVariants as replies
use Rattle.gate_machine.specs.declared.draft.Draft.{Draft}
use Rattle.gate_machine.specs.declared.place.Place.{Place}
use Rattle.gate_machine.specs.Cases.{Is}
use Rattle.gate_machine.specs.Draft.{writes, UnderKey, JudgesFields}
use Rattle.gate_machine.specs.Rows.{ComesUnderKey}
use Rattle.gate_machine.specs.Rules.{HasBadKey}
use Rattle.gate_machine.specs.Sight.{Sight, entry_at}

-- ---- the names and the days of an order

-- no name, or more than 100, which is this project's own limit
abbrev pub HasBadCount : List Target → Type 0
HasBadCount targets = (targets ≡ []) ⊎ (100 < length targets)

-- no two are the same
abbrev pub AreDistinct : List Target → Type 0
AreDistinct [] = Unit {0}
AreDistinct (target ∷ targets) = AllByRecursion (λ other. other ≢ target) targets × AreDistinct targets

abbrev pub HasTwice : List Target → Type 0
HasTwice targets = ¬ (AreDistinct targets)

-- none, or more than 398
abbrev pub HasBadDays : ℕ → Type 0
HasBadDays days = (days ≡ 0) ⊎ (398 < days)

-- a commonName has at most 64 characters (RFC 5280, appendix A.1, ub-common-name), and here it is no address
abbrev pub IsNoCommonName : List Target → Type 0
IsNoCommonName [] = ⊥
IsNoCommonName (Dns name ∷ targets) = 64 < length (name_text name)
IsNoCommonName (Ip address ∷ targets) = Unit {0}

abbrev pub HasBadCommonName : Bool → List Target → Type 0
HasBadCommonName common targets = (common ≡ true) × IsNoCommonName targets

-- F02: the number of names; F03: a name stands twice; F04: the days; F05: the first name can't be the common name
abbrev pub NamesBreak : Bool → ℕ → List Target → ℕ → Type 0
NamesBreak common days targets rule =
    ((rule ≡ 2) × HasBadCount targets)
    ⊎ ((rule ≡ 3) × HasTwice targets)
    ⊎ ((rule ≡ 4) × HasBadDays days)
    ⊎ ((rule ≡ 5) × HasBadCommonName common targets)

-- ---- the request of an order

-- F07 to F12, by the first fault of the request: it is no DER, no request, of another version, with a key that isn't certified, with
-- two subjectAltName extensions, or with a name in its subjectAltName that is none
abbrev pub rule_of : CsrFault → Option ℕ
rule_of (requests.Der fault) = Some 7
rule_of requests.Shape = Some 8
rule_of requests.Version = Some 9
rule_of requests.Key = Some 10
rule_of requests.SanTwice = Some 11
rule_of (requests.SanName place) = Some 12
rule_of requests.NoMemory = None

pub record HasFault (request : List ℕ) (rule : ℕ) : Type 0 where
  pub fault : CsrFault
  pub first : IsFirstFault request fault
  pub number : rule_of fault ≡ Some rule

-- a target is one of these
abbrev pub IsAmong : Target → List Target → Type 0
IsAmong target [] = ⊥
IsAmong target (other ∷ others) = (other ≡ target) ⊎ IsAmong target others

-- each target is one of the others, and each of the others is one of them
abbrev pub IsSameSet : List Target → List Target → Type 0
IsSameSet targets others = AllByRecursion (λ target. IsAmong target others) targets × AllByRecursion (λ other. IsAmong other targets) others

-- there is a subjectAltName, and its names aren't these
abbrev pub IsOther : Option (List Target) → List Target → Type 0
IsOther None targets = ⊥
IsOther (Some names) targets = ¬ (IsSameSet names targets)

pub record HasOtherNames (request : List ℕ) (targets : List Target) : Type 0 where
  pub fields : Fields
  pub is : IsCsr request fields
  pub other : IsOther fields.san targets

-- F07 to F12, and F13: other names
abbrev pub RequestBreaks : List ℕ → List Target → ℕ → Type 0
RequestBreaks request targets rule = HasFault request rule ⊎ ((rule ≡ 13) × HasOtherNames request targets)

-- ---- all rules

-- F01: the retry key; F06: the request is above 16,384 bytes
abbrev pub OrderBreaks : List ℕ → Bool → ℕ → List Target → List ℕ → ℕ → Type 0
OrderBreaks key common days targets request rule =
    ((rule ≡ 1) × HasBadKey key)
    ⊎ NamesBreak common days targets rule
    ⊎ ((rule ≡ 6) × (16384 < length request))
    ⊎ RequestBreaks request targets rule

-- ---- the answer

abbrev pub placed : ℕ → Reply
placed number = replies.Placed number

abbrev pub JudgesOrder : Sight → Place → Caller → List ℕ → List Target → ℕ → Bool → List ℕ → Draft → Type 0
JudgesOrder sight place caller key targets days common request =
    UnderKey sight key (commands.Order key targets days common request) (λ kept. placed kept.number)
    (JudgesFields (OrderBreaks key common days targets request)
    (Is (writes (entry_at place caller (whats.Order key common days targets request)))))

-- ---- the row

abbrev pub OrderComes : List Entry → List ℕ → List ℕ → Bool → ℕ → List Target → List ℕ → Type 0
OrderComes before caller key common days targets request = ComesUnderKey before caller key (OrderBreaks key common days targets request)

-- an order whose fields break no rule
abbrev pub IsGoodOrder : What → Type 0
IsGoodOrder (whats.Order key common days targets request) = (rule : ℕ) → ¬ (OrderBreaks key common days targets request rule)
IsGoodOrder (whats.Settings bytes) = ⊥
IsGoodOrder (whats.Challenge key order method target value thumb) = ⊥
IsGoodOrder (whats.Observation key challenge seen_at seen) = ⊥
IsGoodOrder (whats.CaaAnswer key order target seen_at answers) = ⊥
IsGoodOrder (whats.Send order body) = ⊥
IsGoodOrder (whats.Signed order signature) = ⊥
IsGoodOrder (whats.Blocked key spki) = ⊥
