-- Bytes that are UTF-8 are read as the address parser reads them, and others as none.
use Rattle.std.proofs.Common.{◌≡◌, ℕ, Bool, true, false, cond, List, Option, None, refl}
use Rattle.std.specs.Result.{result_ok}
use Rattle.std.specs.Str.{IsUtf8, is_utf8}
use Rattle.std.proofs.lemmas.Str.{IsUtf8-from_is_utf8, is_utf8-from_IsUtf8}
use Rattle.url.specs.Parser.{parse_url}
use Rattle.url.specs.Parts.{Parts}
use Rattle.domain_methods.specs.Address.{address_of}

no_text : (bytes : List ℕ) (text : Bool) (read : Option Parts) → is_utf8 bytes ≡ text → ¬ (IsUtf8 bytes) → cond text read None ≡ None
no_text bytes true read is not_text = absurd (not_text (IsUtf8-from_is_utf8 bytes is))
no_text bytes false read is not_text = refl

pub address_of-no_text : (bytes : List ℕ) → ¬ (IsUtf8 bytes) → address_of bytes ≡ None
address_of-no_text bytes not_text = no_text bytes (is_utf8 bytes) (result_ok (parse_url None bytes)) refl not_text

pub address_of-text : (bytes : List ℕ) → IsUtf8 bytes → address_of bytes ≡ result_ok (parse_url None bytes)
address_of-text bytes text = rw (is_utf8-from_IsUtf8 bytes text) refl
