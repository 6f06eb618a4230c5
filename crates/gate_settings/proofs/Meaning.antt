-- What a file says as a relation and as a function.
use Rattle.std.proofs.Common.{◌≡◌, ◌↔◌, ℕ, List, Option, Some, None, Result, Ok, Err, IsSomeAnd, refl, subst}
use Rattle.std.specs.Result.{result_ok}
use Rattle.gate_base.specs.declared.profile.Profile.{Profile}
use Rattle.gate_settings.specs.declared.document.Document.{Document}
use Rattle.gate_settings.specs.declared.document.CaTable.{CaTable}
use Rattle.gate_settings.specs.declared.settings.Settings.{Settings}
use Rattle.names_core.specs.Suffix.{rules_read}
use Rattle.gate_settings.specs.Callers.{rows_of}
use Rattle.gate_settings.specs.Members.{members_of}
use Rattle.gate_settings.specs.Reading.{◌>>=◌, document_of}
use Rattle.gate_settings.specs.Rules.{hex_of}
use Rattle.gate_settings.specs.Words.{algorithm_of}
use Rattle.gate_settings.specs.Meaning.{IsProfileOf, AreSettingsOf, Says, profile_in, settings_in, settings_of}

-- the first value of a chain that gives something, and what the rest gives
bound : {A B : Type 0} {P : Type 0} (o : Option A) (f : A → Option B) (y : B) → o >>= f ≡ Some y → ((x : A) → o ≡ Some x → f x ≡ Some y → P) → P
bound None f y e k = cc e
bound (Some x) f y e k = k x refl e

ok_is : {A E : Type 0} (r : Result A E) (x : A) → result_ok r ≡ Some x → r ≡ Ok x
ok_is (Ok x) y e = cc e
ok_is (Err fault) y e = cc e

profile_from : (ca : CaTable) (profile : Profile) → IsProfileOf ca profile → profile_in ca ≡ Some profile
unfolding profile_in
profile_from ca profile h = rw (h.issuer, h.alg, h.key_id, h.crl, h.aia) refl

profile_to : (ca : CaTable) (profile : Profile) → profile_in ca ≡ Some profile → IsProfileOf ca profile
unfolding profile_in
profile_to ca profile e =
    bound (hex_of ca.issuer) _ profile e (λ issuer i e.
    bound (algorithm_of ca.algorithm) _ profile e (λ alg a e.
    bound (hex_of ca.key_id) _ profile e (λ key_id k e.
    let made : Profile = record { issuer = issuer; alg = alg; key_id = record { 0 = key_id }; crl = ca.crl; aia = ca.aia } in
    let same : made ≡ profile = cc e in
    subst (λ p. IsProfileOf ca p) same (record { issuer = i; alg = a; key_id = k; crl = refl; aia = refl }))))

settings_from : (d : Document) (settings : Settings) → AreSettingsOf d settings → settings_in d ≡ Some settings
unfolding settings_in
settings_from d settings h =
    rw (h.callers, h.panel, h.suffixes, h.issuers, profile_from d.ca settings.profile h.profile) refl

settings_to : (d : Document) (settings : Settings) → settings_in d ≡ Some settings → AreSettingsOf d settings
unfolding settings_in
settings_to d settings e =
    bound (result_ok (rows_of d.perspectives d.callers)) _ settings e (λ callers c e.
    bound (result_ok (members_of d.perspectives)) _ settings e (λ panel p e.
    bound (result_ok (rules_read d.rules)) _ settings e (λ suffixes s e.
    bound (profile_in d.ca) _ settings e (λ profile a e.
    let made : Settings = record { callers = callers; panel = panel; suffixes = suffixes; issuers = d.issuers; profile = profile } in
    let same : made ≡ settings = cc e in
    subst (λ x. AreSettingsOf d x) same (record { callers = ok_is _ callers c; panel = ok_is _ panel p; suffixes = ok_is _ suffixes s; issuers = refl; profile = profile_to d.ca profile a })))))

says_from : (found : Option Document) (settings : Settings) → IsSomeAnd found (λ d. AreSettingsOf d settings) → found >>= settings_in ≡ Some settings
says_from None settings h = absurd h
says_from (Some d) settings h = settings_from d settings h

says_to : (found : Option Document) (settings : Settings) → found >>= settings_in ≡ Some settings → IsSomeAnd found (λ d. AreSettingsOf d settings)
says_to None settings e = cc e
says_to (Some d) settings e = settings_to d settings e

pub exact : (bytes : List ℕ) (settings : Settings) → Says bytes settings ↔ (settings_of bytes ≡ Some settings)
unfolding settings_of
exact bytes settings = (says_from (document_of bytes) settings, says_to (document_of bytes) settings)

pub one : (bytes : List ℕ) (settings other : Settings) → Says bytes settings → Says bytes other → settings ≡ other
one bytes settings other h k = cc ((exact bytes settings).0 h, (exact bytes other).0 k)
