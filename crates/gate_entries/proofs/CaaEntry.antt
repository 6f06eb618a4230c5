-- CAA answers that are read are those that were written.
use Rattle.std.proofs.Common.{◌≡◌, ℕ, zero, suc, List, [], ◌∷◌, ◌++◌, Result, Ok, refl, ap, ◌∙◌}
use Rattle.std.specs.Int.{w8, w16, w32, w64, to_be_bytes}
use Rattle.gate_base.specs.declared.name.Target.{Target}
use Rattle.gate_base.specs.declared.seen.CaaAnswer.{CaaAnswer}
use Rattle.gate_base.specs.declared.seen.CaaAnswer.TheVariants.{Failed, Set}
use Rattle.gate_base.specs.declared.seen.CaaRow.{CaaRow}
use Rattle.gate_base.specs.declared.seen.CaaSeen.{CaaSeen}
use Rattle.gate_entries.specs.declared.entry.What.{What}
use Rattle.gate_entries.specs.declared.entry.What.TheVariants as whats
use Rattle.gate_entries.specs.declared.kind.Kind.TheVariants as kinds
use Rattle.gate_entries.specs.Field.{counted, list_bytes}
use Rattle.gate_entries.specs.Target.{target_bytes}
use Rattle.gate_entries.specs.CaaAnswer.{row_bytes, answer_bytes, IsRow, IsAnswer, row_at, set_at, answer_at, caa_bytes, IsCaa, caa_at}
use Rattle.gate_entries.proofs.Fields.{IsBytes, IsBytes-rest, as_made, Takes, takes_both, takes_behind, key_field, counted16_field, number8_field, number32_field, number64_field, step, step_again, IsField, list_field}
use Rattle.gate_entries.proofs.KindFields.{TakesWhat}
use Rattle.gate_entries.proofs.Pieces.{two_behind, three_behind, five_behind}
use Rattle.gate_entries.proofs.Targets.{target_field}

-- ---- records

row_takes : (bytes : List ℕ) (x : CaaRow × List ℕ) → IsBytes bytes → row_at bytes ≡ Ok x → Takes bytes (row_bytes x.0) x.1 × IsRow x.0
unfolding row_at
row_takes bytes x small e =
    let flags = step number8_field bytes _ x small e in
    let tag = step key_field flags.found.1 _ x flags.takes.small flags.goes_on in
    let value = step counted16_field tag.found.1 _ x tag.takes.small tag.goes_on in
    let made : CaaRow × List ℕ = (record { flags = flags.found.0; tag = tag.found.0; value = value.found.0 }, value.found.1) in
    as_made (λ (y : CaaRow × List ℕ). Takes bytes (row_bytes y.0) y.1 × IsRow y.0) made x value.goes_on
    (takes_both (takes_both flags.takes tag.takes) value.takes, record { flags_fit = flags.is; tag_fits = tag.is; value_fits = value.is })

row_again : (row : CaaRow) (rest : List ℕ) → IsRow row → row_at (row_bytes row ++ rest) ≡ Ok (row, rest)
unfolding row_at
row_again row rest is =
    let whole : Result (CaaRow × List ℕ) ℕ = Ok (row, rest) in
    let r2 = counted w16 row.value ++ rest in
    let r1 = counted w8 row.tag ++ r2 in
    ap row_at (three_behind (to_be_bytes w8 row.flags) (counted w8 row.tag) (counted w16 row.value) rest)
    ∙ step_again number8_field row.flags r1 _ whole is.flags_fit
    (step_again key_field row.tag r2 _ whole is.tag_fits
    (step_again counted16_field row.value rest _ whole is.value_fits refl))

row_field : IsField row_bytes IsRow row_at
row_field = record { takes = row_takes; again = row_again }

-- ---- answers

set_takes : (bytes : List ℕ) (x : CaaAnswer × List ℕ) → IsBytes bytes → set_at bytes ≡ Ok x → Takes (1 ∷ bytes) (answer_bytes x.0) x.1 × IsAnswer x.0
unfolding set_at
set_takes bytes x small e =
    let ttl = step number32_field bytes _ x small e in
    let rows = step (list_field row_field) ttl.found.1 _ x ttl.takes.small ttl.goes_on in
    let made : CaaAnswer × List ℕ = (Set ttl.found.0 rows.found.0, rows.found.1) in
    as_made (λ (y : CaaAnswer × List ℕ). Takes (1 ∷ bytes) (answer_bytes y.0) y.1 × IsAnswer y.0) made x rows.goes_on
    (takes_behind (takes_both ttl.takes rows.takes), (ttl.is, rows.is))

answer_takes : (bytes : List ℕ) (x : CaaAnswer × List ℕ) → IsBytes bytes → answer_at bytes ≡ Ok x → Takes bytes (answer_bytes x.0) x.1 × IsAnswer x.0
unfolding answer_at
answer_takes [] x small e = absurd cc
answer_takes (zero ∷ bytes) x small e =
    as_made (λ (y : CaaAnswer × List ℕ). Takes (0 ∷ bytes) (answer_bytes y.0) y.1 × IsAnswer y.0) (Failed, bytes) x e
    (record { parts = refl; small = IsBytes-rest 0 bytes small }, tt)
answer_takes (suc zero ∷ bytes) x small e = set_takes bytes x (IsBytes-rest 1 bytes small) e
answer_takes (suc (suc kind) ∷ bytes) x small e = absurd cc

answer_again : (answer : CaaAnswer) (rest : List ℕ) → IsAnswer answer → answer_at (answer_bytes answer ++ rest) ≡ Ok (answer, rest)
unfolding answer_at set_at
answer_again Failed rest is = refl
answer_again (Set ttl rows) rest is =
    let whole : Result (CaaAnswer × List ℕ) ℕ = Ok (Set ttl rows, rest) in
    ap set_at (two_behind (to_be_bytes w32 ttl) (list_bytes row_bytes rows) rest)
    ∙ step_again number32_field ttl (list_bytes row_bytes rows ++ rest) _ whole is.0 (step_again (list_field row_field) rows rest _ whole is.1 refl)

pub answer_field : IsField answer_bytes IsAnswer answer_at
answer_field = record { takes = answer_takes; again = answer_again }

-- ---- the entry

pub caa_takes : (bytes : List ℕ) (x : What × List ℕ) → IsBytes bytes → caa_at bytes ≡ Ok x → TakesWhat kinds.CaaAnswer bytes x
unfolding caa_at
caa_takes bytes x small e =
    let key = step key_field bytes _ x small e in
    let order = step number64_field key.found.1 _ x key.takes.small key.goes_on in
    let target = step target_field order.found.1 _ x order.takes.small order.goes_on in
    let moment = step number64_field target.found.1 _ x target.takes.small target.goes_on in
    let answers = step (list_field answer_field) moment.found.1 _ x moment.takes.small moment.goes_on in
    let whole = takes_both (takes_both (takes_both (takes_both key.takes order.takes) target.takes) moment.takes) answers.takes in
    let made : What × List ℕ = (whats.CaaAnswer key.found.0 order.found.0 target.found.0 moment.found.0 (record { answers = answers.found.0 }), answers.found.1) in
    as_made (TakesWhat kinds.CaaAnswer bytes) made x answers.goes_on (
      whole,
      record { key_fits = key.is; order_fits = order.is; is_target = target.is; moment_fits = moment.is; are_answers = answers.is },
      refl {a = kinds.CaaAnswer},
    )

pub caa_again : (key : List ℕ) (order : ℕ) (target : Target) (moment : ℕ) (caa : CaaSeen) (rest : List ℕ) → IsCaa key order target moment caa
    → caa_at (caa_bytes key order target moment caa ++ rest) ≡ Ok (whats.CaaAnswer key order target moment caa, rest)
unfolding caa_at
caa_again key order target moment caa rest is =
    let whole : Result (What × List ℕ) ℕ = Ok (whats.CaaAnswer key order target moment caa, rest) in
    let r4 = list_bytes answer_bytes caa.answers ++ rest in
    let r3 = to_be_bytes w64 moment ++ r4 in
    let r2 = target_bytes target ++ r3 in
    let r1 = to_be_bytes w64 order ++ r2 in
    ap caa_at (five_behind (counted w8 key) (to_be_bytes w64 order) (target_bytes target) (to_be_bytes w64 moment) (list_bytes answer_bytes caa.answers) rest)
    ∙ step_again key_field key r1 _ whole is.key_fits
    (step_again number64_field order r2 _ whole is.order_fits
    (step_again target_field target r3 _ whole is.is_target
    (step_again number64_field moment r4 _ whole is.moment_fits
    (step_again (list_field answer_field) caa.answers rest _ whole is.are_answers refl))))
