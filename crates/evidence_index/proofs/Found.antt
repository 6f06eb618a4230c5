-- What is found among elements that all have a property has it.
use Rattle.std.proofs.Common.{◌≡◌, ◌∙◌, ℕ, Bool, true, false, cond, List, [], ◌∷◌, ◌++◌, reverse, Option, Some, None, refl, ap, subst, sym}
use Rattle.std.proofs.lemmas.List.{reverse-append}
use Rattle.std.specs.List.{find, slice_get, AllByRecursion}
use Rattle.std.specs.Option.{option_and_then, IsSomeAnd}
use Rattle.gate_settings.specs.declared.settings.Settings.{Settings}
use Rattle.gate_settings.specs.Meaning.{IsReadable, settings_of}
use Rattle.gate_entries.specs.declared.entry.Entry.{Entry}
use Rattle.gate_entries.specs.declared.entry.What.{What}
use Rattle.gate_entries.specs.declared.entry.What.TheVariants as whats
use Rattle.evidence_index.specs.Lookups.{find_last, is_settings, bytes_in, settings_in, last_settings, settings_bytes, settings_now}
use Rattle.evidence_index.specs.Noting.{IsSound, AreSound, IsEarly, IsReadableIn}

found_in : {X : Type 0} (P : X → Type 0) (p : X → Bool) (xs : List X) (x : X) → AllByRecursion P xs → find p xs ≡ Some x → P x
found_in P p [] x all e = cc e
found_in P p (first ∷ others) x all e =
    let go : (b : Bool) → p first ≡ b → cond b (Some first) (find p others) ≡ Some x → P x
    = λ b. elim b as (λ v. p first ≡ v → cond v (Some first) (find p others) ≡ Some x → P x) [
      | true ↦ λ h k. let same : first ≡ x = cc k in subst P same all.0
      | false ↦ λ h k. found_in P p others x all.1 k
    ] in
    go (p first) refl e

all_behind : {X : Type 0} (P : X → Type 0) (xs : List X) (x : X) → AllByRecursion P xs → P x → AllByRecursion P (xs ++ x ∷ [])
all_behind P [] x all here = (here, tt)
all_behind P (first ∷ others) x all here = (all.0, all_behind P others x all.1 here)

all_reversed : {X : Type 0} (P : X → Type 0) (xs : List X) → AllByRecursion P xs → AllByRecursion P (reverse xs)
all_reversed P [] all = tt
all_reversed P (first ∷ others) all =
    subst (AllByRecursion P) (sym (reverse-append (first ∷ []) others)) (all_behind P (reverse others) first (all_reversed P others all.1) all.0)

found_sound : (p : Entry → Bool) (entries : List Entry) (entry : Entry) → AreSound entries → find_last p entries ≡ Some entry → IsSound entry
found_sound p entries entry all e = found_in IsSound p (reverse entries) entry (all_reversed IsSound entries all) e

-- settings that are found are readable
pub found_readable : (p : Entry → Bool) (entries : List Entry) (entry : Entry) → AreSound entries → find_last p entries ≡ Some entry → IsReadableIn entry.what
found_readable p entries entry all e = (found_sound p entries entry all e).readable

pub found_early : (p : Entry → Bool) (entries : List Entry) (entry : Entry) → AreSound entries → find_last p entries ≡ Some entry → IsEarly entry.what
found_early p entries entry all e = (found_sound p entries entry all e).early

-- ---- settings in force

-- what passes at the end is found, or what passes before it
found_before : {X : Type 0} (P : X → Type 0) (p : X → Bool) (xs : List X) (x : X) → p x ≡ true → AllByRecursion P (xs ++ x ∷ [])
    → (y : X) × (find p (xs ++ x ∷ []) ≡ Some y) × (p y ≡ true) × P y
found_before P p [] x is all = (x, ap (λ b. cond b (Some x) None) is, is, all.0)
found_before {X} P p (first ∷ others) x is all =
    let go : (b : Bool) → p first ≡ b → (y : X) × (cond b (Some first) (find p (others ++ x ∷ [])) ≡ Some y) × (p y ≡ true) × P y
    = λ b. elim b as (λ v. p first ≡ v → (y : X) × (cond v (Some first) (find p (others ++ x ∷ [])) ≡ Some y) × (p y ≡ true) × P y) [
      | true ↦ λ h. (first, refl, h, all.0)
      | false ↦ λ h. found_before P p others x is all.1
    ] in
    go (p first) refl

bytes_said : (what : What) → is_settings what ≡ true → IsReadableIn what → (bytes : List ℕ) × (bytes_in what ≡ Some bytes) × IsReadable bytes
bytes_said (whats.Settings bytes) is readable = (bytes, refl, readable)
bytes_said (whats.Order key common days targets request) is readable = cc is
bytes_said (whats.Challenge key order method target value thumb) is readable = cc is
bytes_said (whats.Observation key challenge seen_at seen) is readable = cc is
bytes_said (whats.CaaAnswer key order target seen_at answers) is readable = cc is
bytes_said (whats.Send order body) is readable = cc is
bytes_said (whats.Signed order signature) is readable = cc is
bytes_said (whats.Blocked key spki) is readable = cc is

pub some_in_force : (entries : List Entry) → AreSound entries → IsSomeAnd (slice_get entries 0) (λ entry. is_settings entry.what ≡ true)
    → (bytes : List ℕ) × (settings_bytes entries ≡ Some bytes) × IsReadable bytes
some_in_force [] sound first = absurd first
some_in_force (entry ∷ entries) sound first =
    let turned : reverse (entry ∷ entries) ≡ reverse entries ++ entry ∷ [] = reverse-append (entry ∷ []) entries in
    let found = found_before IsSound (λ e. is_settings e.what) (reverse entries) entry first (subst (AllByRecursion IsSound) turned (all_reversed IsSound (entry ∷ entries) sound)) in
    let said = bytes_said found.0.what found.2 found.3.readable in
    let last : last_settings (entry ∷ entries) ≡ Some found.0 = ap (find (λ (e : Entry). is_settings e.what)) turned ∙ found.1 in
    (said.0, ap (option_and_then (λ (e : Entry). bytes_in e.what)) last ∙ said.1, said.2)

settings_said : (what : What) (settings : Settings) → settings_in what ≡ Some settings → (bytes : List ℕ) × (bytes_in what ≡ Some bytes) × (settings_of bytes ≡ Some settings)
settings_said (whats.Settings bytes) settings e = (bytes, refl, e)
settings_said (whats.Order key common days targets request) settings e = cc e
settings_said (whats.Challenge key order method target value thumb) settings e = cc e
settings_said (whats.Observation key challenge seen_at seen) settings e = cc e
settings_said (whats.CaaAnswer key order target seen_at answers) settings e = cc e
settings_said (whats.Send order body) settings e = cc e
settings_said (whats.Signed order signature) settings e = cc e
settings_said (whats.Blocked key spki) settings e = cc e

said_by : (found : Option Entry) (settings : Settings) → option_and_then (λ entry. settings_in entry.what) found ≡ Some settings
    → (bytes : List ℕ) × (option_and_then (λ entry. bytes_in entry.what) found ≡ Some bytes) × (settings_of bytes ≡ Some settings)
said_by None settings e = cc e
said_by (Some entry) settings e = settings_said entry.what settings e

pub now_said : (entries : List Entry) (settings : Settings) → settings_now entries ≡ Some settings
    → (bytes : List ℕ) × (settings_bytes entries ≡ Some bytes) × (settings_of bytes ≡ Some settings)
now_said entries settings e = said_by (last_settings entries) settings e

says_settings : (what : What) (bytes : List ℕ) (settings : Settings) → bytes_in what ≡ Some bytes → settings_of bytes ≡ Some settings → settings_in what ≡ Some settings
says_settings (whats.Settings other) bytes settings e say = let same : other ≡ bytes = cc e in ap settings_of same ∙ say
says_settings (whats.Order key common days targets request) bytes settings e say = cc e
says_settings (whats.Challenge key order method target value thumb) bytes settings e say = cc e
says_settings (whats.Observation key challenge seen_at seen) bytes settings e say = cc e
says_settings (whats.CaaAnswer key order target seen_at answers) bytes settings e say = cc e
says_settings (whats.Send order body) bytes settings e say = cc e
says_settings (whats.Signed order signature) bytes settings e say = cc e
says_settings (whats.Blocked key spki) bytes settings e say = cc e

said_now : (found : Option Entry) (bytes : List ℕ) (settings : Settings) → option_and_then (λ entry. bytes_in entry.what) found ≡ Some bytes
    → settings_of bytes ≡ Some settings → option_and_then (λ entry. settings_in entry.what) found ≡ Some settings
said_now None bytes settings e say = cc e
said_now (Some entry) bytes settings e say = says_settings entry.what bytes settings e say

pub bytes_now : (entries : List Entry) (bytes : List ℕ) (settings : Settings) → settings_bytes entries ≡ Some bytes → settings_of bytes ≡ Some settings
    → settings_now entries ≡ Some settings
bytes_now entries bytes settings e say = said_now (last_settings entries) bytes settings e say
