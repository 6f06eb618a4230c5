-- Ids, tokens and thumbprints of callers are short.
use Rattle.std.proofs.Common.{◌≡◌, ℕ, zero, suc, ◌+◌, ◌≤◌, ◌⊎◌, inl, inr, Bool, true, false, ◌&&◌, List, [], ◌∷◌, ◌++◌, length, Option, Some, None, Result, Ok, Err, IsSomeAnd, refl, subst, arith}
use Rattle.std.specs.Prelude.{nat_le, ◌==◌, unwrap_or, option_map, if◌then◌else◌}
use Rattle.std.specs.List.{AllByRecursion, slice_get}
use Rattle.std.proofs.lemmas.Bool.Decides.{nat_tests}
use Rattle.gate_base.specs.declared.profile.Role.{Role}
use Rattle.gate_settings.specs.declared.document.Document.{Document}
use Rattle.gate_settings.specs.declared.document.CallerTable.{CallerTable}
use Rattle.gate_settings.specs.declared.document.PerspectiveTable.{PerspectiveTable}
use Rattle.gate_settings.specs.declared.row.CallerRow.{CallerRow}
use Rattle.gate_settings.specs.declared.settings.Settings.{Settings}
use Rattle.gate_settings.specs.Callers.{IsShortRow, is_word, has_good_thumb, is_good, row_with, row_of, row_before, rows_from, rows_of, with_id, with_token}
use Rattle.gate_settings.specs.Reading.{document_of}
use Rattle.gate_settings.specs.Meaning.{AreSettingsOf, settings_of}
use Rattle.gate_settings.proofs.Meaning.{exact}
use Rattle.gate_settings.proofs.Rows.{first_id, first_token}

both : (a b : Bool) → (a && b) ≡ true → (a ≡ true) × (b ≡ true)
both true b e = (refl, e)
both false b e = cc e

abbrev IsShort : List ℕ → Type 0
IsShort text = (1 ≤ length text) × (length text ≤ 64)

word_short : (text : List ℕ) → is_word text ≡ true → IsShort text
word_short text e =
    let first = both _ _ e in
    let sizes = both (nat_le 1 (length text)) (nat_le (length text) 64) first.0 in
    (grind (arith, nat_tests, sizes.0), grind (arith, nat_tests, sizes.1))

abbrev HasShortThumb : List ℕ → Type 0
HasShortThumb thumb = (thumb ≡ []) ⊎ (length thumb ≡ 43)

thumb_short : (thumb : Option (List ℕ)) → has_good_thumb thumb ≡ true → HasShortThumb (unwrap_or thumb [])
thumb_short None e = inl refl
thumb_short (Some text) e = let h = both (length text == 43) _ e in inr (grind (arith, nat_tests, h.0))

good_short : (perspectives : List PerspectiveTable) (before : List CallerTable) (caller : CallerTable) (role : Role) → is_good perspectives before caller ≡ true
    → IsShortRow (row_with caller role)
good_short perspectives before caller role e =
    let all = both _ _ e in
    let thumbs = both _ _ all.0 in
    let free = both _ _ thumbs.0 in
    let words = both (is_word caller.id) (is_word caller.token) free.0 in
    let id = word_short caller.id words.0 in
    let token = word_short caller.token words.1 in
    record { id_some = id.0; id_short = id.1; token_some = token.0; token_short = token.1; thumb = thumb_short caller.thumb thumbs.1 }

given_short : (caller : CallerTable) (good : Bool) (role : Option Role) (row : CallerRow) → (good ≡ true → (role : Role) → IsShortRow (row_with caller role))
    → (if good then option_map (row_with caller) role else None) ≡ Some row → IsShortRow row
given_short caller false role row short e = cc e
given_short caller true None row short e = cc e
given_short caller true (Some role) row short e = let same : row_with caller role ≡ row = cc e in subst IsShortRow same (short refl role)

row_short : (perspectives : List PerspectiveTable) (before : List CallerTable) (caller : CallerTable) (row : CallerRow) → row_of perspectives before caller ≡ Some row
    → IsShortRow row
row_short perspectives before caller row e =
    given_short caller (is_good perspectives before caller) caller.role row (λ good role. good_short perspectives before caller role good) e

joined_short : (place : ℕ) (found : Option CallerRow) (others : Result (List CallerRow) ℕ) (rows : List CallerRow) → ((row : CallerRow) → found ≡ Some row → IsShortRow row)
    → ((rest : List CallerRow) → others ≡ Ok rest → AllByRecursion IsShortRow rest) → row_before place found others ≡ Ok rows → AllByRecursion IsShortRow rows
joined_short place None others rows first rest e = cc e
joined_short place (Some row) (Ok behind) rows first rest e =
    let same : row ∷ behind ≡ rows = cc e in subst (AllByRecursion IsShortRow) same (first row refl, rest behind refl)
joined_short place (Some row) (Err other) rows first rest e = cc e

all_short : (perspectives : List PerspectiveTable) (before callers : List CallerTable) (rows : List CallerRow) → rows_from perspectives before callers ≡ Ok rows
    → AllByRecursion IsShortRow rows
all_short perspectives before [] rows e = let same : [] ≡ rows = cc e in subst (AllByRecursion IsShortRow) same tt
all_short perspectives before (caller ∷ callers) rows e =
    joined_short (length before + 1) (row_of perspectives before caller) (rows_from perspectives (before ++ caller ∷ []) callers) rows
    (row_short perspectives before caller) (all_short perspectives (before ++ caller ∷ []) callers) e

short_in : (found : Option Document) (settings : Settings) → IsSomeAnd found (λ d. AreSettingsOf d settings) → AllByRecursion IsShortRow settings.callers
unfolding rows_of
short_in None settings h = absurd h
short_in (Some d) settings h = all_short d.perspectives [] d.callers settings.callers h.callers

at_short : (rows : List CallerRow) (place : ℕ) (row : CallerRow) → AllByRecursion IsShortRow rows → slice_get rows place ≡ Some row → IsShortRow row
at_short [] place row all e = cc e
at_short (first ∷ others) zero row all e = let same : first ≡ row = cc e in subst IsShortRow same all.0
at_short (first ∷ others) (suc place) row all e = at_short others place row all.1 e

pub each_short : (bytes : List ℕ) (settings : Settings) (place : ℕ) (row : CallerRow) → settings_of bytes ≡ Some settings → slice_get settings.callers place ≡ Some row
    → IsShortRow row
each_short bytes settings place row says e = at_short settings.callers place row (short_in (document_of bytes) settings ((exact bytes settings).1 says)) e

pub id_short : (bytes : List ℕ) (settings : Settings) (id : List ℕ) (row : CallerRow) → settings_of bytes ≡ Some settings → with_id id settings.callers ≡ Some row
    → IsShortRow row
id_short bytes settings id row says e = let found = first_id id settings.callers row e in each_short bytes settings found.place row says found.here

pub token_short : (bytes : List ℕ) (settings : Settings) (token : List ℕ) (row : CallerRow) → settings_of bytes ≡ Some settings
    → with_token token settings.callers ≡ Some row → IsShortRow row
token_short bytes settings token row says e = let found = first_token token settings.callers row e in each_short bytes settings found.place row says found.here
