-- The settings that a file says.
use Rattle.std.specs.Prelude.{◌≡◌, ℕ, List, Option, Some, Ok, IsSomeAnd}
use Rattle.std.specs.Result.{result_ok}
use Rattle.gate_base.specs.declared.profile.Profile.{Profile}
use Rattle.cert_fields.specs.Profile.{IsSoundProfile}
use Rattle.names_core.specs.Suffix.{rules_read}
use Rattle.gate_settings.specs.declared.document.Document.{Document}
use Rattle.gate_settings.specs.declared.document.CaTable.{CaTable}
use Rattle.gate_settings.specs.declared.settings.Settings.{Settings}
use Rattle.gate_settings.specs.Reading.{◌>>=◌, document_of}
use Rattle.gate_settings.specs.Rules.{hex_of, Breaks, NoneBroken}
use Rattle.gate_settings.specs.Words.{algorithm_of}
use Rattle.gate_settings.specs.Callers.{rows_of}
use Rattle.gate_settings.specs.Members.{members_of}

pub record IsProfileOf (ca : CaTable) (profile : Profile) : Type 0 where
  pub issuer : hex_of ca.issuer ≡ Some profile.issuer
  pub alg : algorithm_of ca.algorithm ≡ Some profile.alg
  pub key_id : hex_of ca.key_id ≡ Some profile.key_id.0
  pub crl : ca.crl ≡ profile.crl
  pub aia : ca.aia ≡ profile.aia

pub record AreSettingsOf (d : Document) (settings : Settings) : Type 0 where
  pub callers : rows_of d.perspectives d.callers ≡ Ok settings.callers
  pub panel : members_of d.perspectives ≡ Ok settings.panel
  pub suffixes : rules_read d.rules ≡ Ok settings.suffixes
  pub issuers : d.issuers ≡ settings.issuers
  pub profile : IsProfileOf d.ca settings.profile

-- the settings are those that the file says
abbrev pub Says : List ℕ → Settings → Type 0
Says bytes settings = IsSomeAnd (document_of bytes) (λ d. AreSettingsOf d settings)

-- ---- the same as a function

unfoldable pub profile_in : CaTable → Option Profile
profile_in ca = do
  issuer ← hex_of ca.issuer
  alg ← algorithm_of ca.algorithm
  key_id ← hex_of ca.key_id
  Some (record { issuer = issuer; alg = alg; key_id = record { 0 = key_id }; crl = ca.crl; aia = ca.aia })

unfoldable pub settings_in : Document → Option Settings
settings_in d = do
  callers ← result_ok (rows_of d.perspectives d.callers)
  panel ← result_ok (members_of d.perspectives)
  suffixes ← result_ok (rules_read d.rules)
  profile ← profile_in d.ca
  Some (record { callers = callers; panel = panel; suffixes = suffixes; issuers = d.issuers; profile = profile })

-- the settings that a file says
unfoldable pub settings_of : List ℕ → Option Settings
settings_of bytes = do
  d ← document_of bytes
  settings_in d

-- ---- readable settings

-- the bytes are readable settings: they break no rule, and certificates can be made by the profile that they say
pub record IsReadable (bytes : List ℕ) : Type 0 where
  pub kept : NoneBroken (Breaks bytes)
  pub settings : Settings
  pub say : settings_of bytes ≡ Some settings
  pub sound : IsSoundProfile settings.profile
