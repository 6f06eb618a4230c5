-- JSON texts: UTF-8 that is read.
use Rattle.std.proofs.Common.{◌≡◌, ℕ, Bool, true, false, List, Some, None, Ok, Err, IsUtf8, cond, refl, ap, ◌∙◌}
use Rattle.std.proofs.lemmas.Str.{IsUtf8-from_is_utf8, is_utf8-from_IsUtf8}
use Rattle.std.specs.Str.{is_utf8}
use Rattle.serde_json.specs.Data.{Data}
use Rattle.serde_json.specs.Read.{read}
use Rattle.wire_decode.specs.declared.rule.Rule.TheVariants.{W01}
use Rattle.wire_decode.specs.Judgement.{some_or}
use Rattle.wire_decode.specs.Words.{json_of}

pub json_of_read : (bytes : List ℕ) (d : Data) → IsUtf8 bytes → read bytes ≡ Some d → json_of bytes ≡ Ok d
unfolding json_of
json_of_read bytes d utf8 is = ap (λ b. cond b (some_or W01 (read bytes)) (Err W01)) (is_utf8-from_IsUtf8 bytes utf8) ∙ ap (some_or W01) is

pub no_json : (bytes : List ℕ) → (IsUtf8 bytes → read bytes ≡ None) → json_of bytes ≡ Err W01
unfolding json_of
no_json bytes none =
    let go : (b : Bool) → (b ≡ true → read bytes ≡ None) → cond b (some_or W01 (read bytes)) (Err W01) ≡ Err W01
    = λ b. elim b as (λ v. (v ≡ true → read bytes ≡ None) → cond v (some_or W01 (read bytes)) (Err W01) ≡ Err W01) [
      | true ↦ λ f. ap (some_or W01) (f refl)
      | false ↦ λ f. refl
    ] in
    go (is_utf8 bytes) (λ e. none (IsUtf8-from_is_utf8 bytes e))
