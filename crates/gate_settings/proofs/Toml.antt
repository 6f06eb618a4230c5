-- A text that is TOML: UTF-8 that is read.
use Rattle.std.proofs.Common.{◌≡◌, ℕ, Bool, true, false, List, None, IsUtf8, cond, refl, ap}
use Rattle.std.proofs.lemmas.Str.{IsUtf8-from_is_utf8, is_utf8-from_IsUtf8}
use Rattle.std.specs.Str.{is_utf8}
use Rattle.toml.specs.Parse.{parse_document}
use Rattle.gate_settings.specs.Reading.{toml_of}

pub toml_of-utf8 : (bytes : List ℕ) → IsUtf8 bytes → toml_of bytes ≡ parse_document bytes
unfolding toml_of
toml_of-utf8 bytes h = ap (λ b. cond b (parse_document bytes) None) (is_utf8-from_IsUtf8 bytes h)

pub no_toml : (bytes : List ℕ) → (IsUtf8 bytes → parse_document bytes ≡ None) → toml_of bytes ≡ None
unfolding toml_of
no_toml bytes h =
    let go : (b : Bool) → (b ≡ true → parse_document bytes ≡ None) → cond b (parse_document bytes) None ≡ None
    = λ b. elim b as (λ v. (v ≡ true → parse_document bytes ≡ None) → cond v (parse_document bytes) None ≡ None) [ true ↦ λ f. f refl | false ↦ λ f. refl ] in
    go (is_utf8 bytes) (λ e. h (IsUtf8-from_is_utf8 bytes e))
