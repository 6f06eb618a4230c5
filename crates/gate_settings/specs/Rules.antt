-- The rules that a settings file keeps, and what breaks each. A rule whose part of the file isn't there is not broken.
use Rattle.std.specs.Prelude.{◌≡◌, ◌≢◌, ◌⊎◌, ℕ, ◌+◌, ◌<◌, ◌≤◌, false, List, [], ◌∷◌, length, Option, Some, None, IsSomeAnd, Result, Ok, Err, slice_get}
use Rattle.std.specs.List.{AllByRecursion}
use Rattle.hex.specs.Hex.{decode_of}
use Rattle.hex.specs.declared.error.FromHexError.{FromHexError}
use Rattle.cert_fields.specs.Profile.{IsIssuerName, is_address}
use Rattle.names_core.specs.Suffix.{rules_read}
use Rattle.names_core.specs.declared.rule.SuffixFault.{SuffixFault}
use Rattle.names_core.specs.declared.rule.SuffixFault.TheVariants.{Line, TooMany, NoMemory}
use Rattle.perspectives.specs.Panel.{IsFirstFault}
use Rattle.perspectives.specs.declared.perspective.Perspective.{Perspective}
use Rattle.perspectives.specs.declared.fault.PanelFault.{PanelFault}
use Rattle.perspectives.specs.declared.fault.PanelFault.TheVariants as panel_faults
use Rattle.caa_climb.specs.IssueValue.{IsDomain}
use Rattle.gate_settings.specs.declared.document.Document.{Document}
use Rattle.gate_settings.specs.declared.document.CaTable.{CaTable}
use Rattle.gate_settings.specs.declared.rule.Rule.{Rule}
use Rattle.gate_settings.specs.declared.rule.Rule.TheVariants.{S01, S02, S03, S04, S05, S06, S07, S08, S09, S10, S11, S12}
use Rattle.gate_settings.specs.declared.rule.Broken.{Broken}
use Rattle.gate_settings.specs.declared.rule.Broken.TheVariants as broken
use Rattle.gate_settings.specs.declared.fault.SettingsFault.{SettingsFault}
use Rattle.gate_settings.specs.declared.fault.SettingsFault.TheVariants as settings_faults
use Rattle.gate_settings.specs.Reading.{toml_of, document_of}
use Rattle.gate_settings.specs.Words.{algorithm_of}
use Rattle.gate_settings.specs.Callers.{rows_of}
use Rattle.gate_settings.specs.Members.{members_of}

abbrev pub number_of : Rule → ℕ
number_of S01 = 1
number_of S02 = 2
number_of S03 = 3
number_of S04 = 4
number_of S05 = 5
number_of S06 = 6
number_of S07 = 7
number_of S08 = 8
number_of S09 = 9
number_of S10 = 10
number_of S11 = 11
number_of S12 = 12

-- the first place, counted from 0, of which this holds
pub record IsFirstPlace (P : ℕ → Type 0) (k : ℕ) : Type 0 where
  pub here : P k
  pub first : (j : ℕ) → j < k → ¬ (P j)

-- ---- the authority

abbrev pub bytes_in : Result (List ℕ) FromHexError → Option (List ℕ)
bytes_in (Ok bytes) = Some bytes
bytes_in (Err fault) = None

-- the bytes that a text gives in hexadecimal
abbrev pub hex_of : List ℕ → Option (List ℕ)
hex_of text = bytes_in (decode_of text)

-- S04: what is told of a text that is no hexadecimal
abbrev pub TellsHex : List ℕ → Broken → Type 0
TellsHex text (broken.Rule rule item) = (rule ≡ S04) × (item ≡ 0) × (hex_of text ≡ None)
TellsHex text broken.NoMemory = Unit {0}

abbrev pub BreaksHex : CaTable → Type 0
BreaksHex ca = (hex_of ca.issuer ≡ None) ⊎ (hex_of ca.key_id ≡ None)

-- S05: the issuer is no Name that a certificate can have (RFC 5280, section 4.1.2.4)
abbrev pub BreaksIssuer : CaTable → Type 0
BreaksIssuer ca = IsSomeAnd (hex_of ca.issuer) (λ bytes. ¬ (IsIssuerName bytes))

-- S06: the algorithm is unknown (BR 2.1.5, section 7.1.3.2)
abbrev pub BreaksAlgorithm : CaTable → Type 0
BreaksAlgorithm ca = algorithm_of ca.algorithm ≡ None

-- S07: the key identifier does not have 20 bytes (RFC 5280, section 4.2.1.1; BR 2.1.5, section 7.1.2.11.1)
abbrev pub BreaksKeyId : CaTable → Type 0
BreaksKeyId ca = IsSomeAnd (hex_of ca.key_id) (λ bytes. length bytes ≢ 20)

-- S08: an address is not of http (BR 2.1.5, sections 7.1.2.11.2 and 7.1.2.7.7)
abbrev pub BreaksAddress : CaTable → Type 0
BreaksAddress ca = (is_address ca.crl ≡ false) ⊎ (is_address ca.aia ≡ false)

-- ---- lists

-- the line that is no rule, or 0 where there are too many
abbrev pub line_of : SuffixFault → ℕ
line_of (Line number) = number
line_of TooMany = 0
line_of NoMemory = 0

-- S09: a line is no rule of a public suffix list, or there are too many
abbrev pub BreaksSuffixes : List ℕ → ℕ → Type 0
BreaksSuffixes text line = (fault : SuffixFault) × (rules_read text ≡ Err fault) × (line ≡ line_of fault)

-- a result is this, and an error is the item of the rule; out of memory may be returned at any time
abbrev pub GivesAt : {X : Type 0} → Rule → Result X Broken → Result X ℕ → Type 0
GivesAt rule (Ok x) wanted = wanted ≡ Ok x
GivesAt rule (Err (broken.Rule told item)) wanted = (told ≡ rule) × (wanted ≡ Err item)
GivesAt rule (Err broken.NoMemory) wanted = Unit {0}

-- the row that a fault of the panel tells, counted from 1
abbrev pub IsRowOf : PanelFault → ℕ → Type 0
IsRowOf panel_faults.TooMany row = row ≡ 0
IsRowOf panel_faults.NoPrimary row = row ≡ 0
IsRowOf panel_faults.TwicePrimary row = row ≡ 0
IsRowOf panel_faults.TwiceNamed row = row ≡ 0
IsRowOf (panel_faults.BadPlace k) row = row ≡ k + 1
IsRowOf (panel_faults.TooNear i j) row = row ≡ j + 1
IsRowOf panel_faults.NoMemory row = ⊥

-- S11: a region is unknown, or the perspectives are no panel (BR 2.1.5, section 3.2.2.9)
abbrev pub BreaksPanel : Result (List Perspective) ℕ → ℕ → Type 0
BreaksPanel (Err unknown) row = row ≡ unknown
BreaksPanel (Ok members) row = (fault : PanelFault) × IsFirstFault members fault × IsRowOf fault row

-- what is told of members that are no panel
abbrev pub IsPanelBroken : List Perspective → Broken → Type 0
IsPanelBroken members (broken.Rule rule row) = (rule ≡ S11) × (fault : PanelFault) × IsFirstFault members fault × IsRowOf fault row
IsPanelBroken members broken.NoMemory = Unit {0}

-- no issuer-domain-name stands at this place (RFC 8659, section 4.2)
abbrev pub IsNoDomainAt : List (List ℕ) → ℕ → Type 0
IsNoDomainAt issuers k = IsSomeAnd (slice_get issuers k) (λ issuer. ¬ (IsDomain issuer))

-- S12: there is no issuer, there are more than 16, or one is no issuer-domain-name (RFC 8659, section 4.2)
abbrev pub BreaksIssuers : List (List ℕ) → ℕ → Type 0
BreaksIssuers issuers place =
    (((length issuers ≡ 0) ⊎ (16 < length issuers)) × (place ≡ 0))
    ⊎ ((0 < length issuers) × (length issuers ≤ 16) × (k : ℕ) × (place ≡ k + 1) × IsFirstPlace (IsNoDomainAt issuers) k)

-- ---- the rules of what a file says

abbrev pub DocumentBreaks : Document → Rule → ℕ → Type 0
DocumentBreaks d S01 item = ⊥
DocumentBreaks d S02 item = ⊥
DocumentBreaks d S03 item = ⊥
DocumentBreaks d S04 item = BreaksHex d.ca × (item ≡ 0)
DocumentBreaks d S05 item = BreaksIssuer d.ca × (item ≡ 0)
DocumentBreaks d S06 item = BreaksAlgorithm d.ca × (item ≡ 0)
DocumentBreaks d S07 item = BreaksKeyId d.ca × (item ≡ 0)
DocumentBreaks d S08 item = BreaksAddress d.ca × (item ≡ 0)
DocumentBreaks d S09 item = BreaksSuffixes d.rules item
DocumentBreaks d S10 item = rows_of d.perspectives d.callers ≡ Err item
DocumentBreaks d S11 item = BreaksPanel (members_of d.perspectives) item
DocumentBreaks d S12 item = BreaksIssuers d.issuers item

-- ---- the rules of a file

abbrev pub Breaks : List ℕ → Rule → ℕ → Type 0
Breaks bytes S01 item = (1048576 < length bytes) × (item ≡ 0)
Breaks bytes S02 item = (toml_of bytes ≡ None) × (item ≡ 0)
Breaks bytes S03 item = (document_of bytes ≡ None) × (item ≡ 0)
Breaks bytes S04 item = IsSomeAnd (document_of bytes) (λ d. DocumentBreaks d S04 item)
Breaks bytes S05 item = IsSomeAnd (document_of bytes) (λ d. DocumentBreaks d S05 item)
Breaks bytes S06 item = IsSomeAnd (document_of bytes) (λ d. DocumentBreaks d S06 item)
Breaks bytes S07 item = IsSomeAnd (document_of bytes) (λ d. DocumentBreaks d S07 item)
Breaks bytes S08 item = IsSomeAnd (document_of bytes) (λ d. DocumentBreaks d S08 item)
Breaks bytes S09 item = IsSomeAnd (document_of bytes) (λ d. DocumentBreaks d S09 item)
Breaks bytes S10 item = IsSomeAnd (document_of bytes) (λ d. DocumentBreaks d S10 item)
Breaks bytes S11 item = IsSomeAnd (document_of bytes) (λ d. DocumentBreaks d S11 item)
Breaks bytes S12 item = IsSomeAnd (document_of bytes) (λ d. DocumentBreaks d S12 item)

abbrev pub IsKept : (Rule → ℕ → Type 0) → Rule → Type 0
IsKept Breaking rule = (item : ℕ) → ¬ (Breaking rule item)

-- the rules before a rule, the last of them first
abbrev pub before : Rule → List Rule
before S01 = []
before S02 = S01 ∷ []
before S03 = S02 ∷ S01 ∷ []
before S04 = S03 ∷ S02 ∷ S01 ∷ []
before S05 = S04 ∷ S03 ∷ S02 ∷ S01 ∷ []
before S06 = S05 ∷ S04 ∷ S03 ∷ S02 ∷ S01 ∷ []
before S07 = S06 ∷ S05 ∷ S04 ∷ S03 ∷ S02 ∷ S01 ∷ []
before S08 = S07 ∷ S06 ∷ S05 ∷ S04 ∷ S03 ∷ S02 ∷ S01 ∷ []
before S09 = S08 ∷ S07 ∷ S06 ∷ S05 ∷ S04 ∷ S03 ∷ S02 ∷ S01 ∷ []
before S10 = S09 ∷ S08 ∷ S07 ∷ S06 ∷ S05 ∷ S04 ∷ S03 ∷ S02 ∷ S01 ∷ []
before S11 = S10 ∷ S09 ∷ S08 ∷ S07 ∷ S06 ∷ S05 ∷ S04 ∷ S03 ∷ S02 ∷ S01 ∷ []
before S12 = S11 ∷ S10 ∷ S09 ∷ S08 ∷ S07 ∷ S06 ∷ S05 ∷ S04 ∷ S03 ∷ S02 ∷ S01 ∷ []

-- no rule before this one is broken
abbrev pub NoneBefore : (Rule → ℕ → Type 0) → Rule → Type 0
NoneBefore Breaking rule = AllByRecursion (IsKept Breaking) (before rule)

-- no rule is broken
abbrev pub NoneBroken : (Rule → ℕ → Type 0) → Type 0
NoneBroken Breaking = AllByRecursion (IsKept Breaking) (S12 ∷ before S12)

-- what is told of one rule: that it is broken; out of memory is no rule
abbrev pub TellsOf : (Rule → ℕ → Type 0) → Rule → Broken → Type 0
TellsOf Breaking rule (broken.Rule told item) = (told ≡ rule) × Breaking rule item
TellsOf Breaking rule broken.NoMemory = Unit {0}

-- what is told is the least rule that is broken
abbrev pub TellsLeast : (Rule → ℕ → Type 0) → Broken → Type 0
TellsLeast Breaking (broken.Rule rule item) = Breaking rule item × NoneBefore Breaking rule
TellsLeast Breaking broken.NoMemory = Unit {0}

-- the same, by the rule's number
abbrev pub IsLeastFault : List ℕ → SettingsFault → Type 0
IsLeastFault bytes (settings_faults.Rule number item) =
    (rule : Rule) × (number ≡ number_of rule) × Breaks bytes rule item × NoneBefore (Breaks bytes) rule
IsLeastFault bytes settings_faults.NoMemory = Unit {0}

-- this holds where a rule is told; out of memory is no rule
abbrev pub IfRule : SettingsFault → Type 0 → Type 0
IfRule (settings_faults.Rule number item) P = P
IfRule settings_faults.NoMemory P = Unit {0}
