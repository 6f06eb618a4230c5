-- An order that is read is the one that was written.
use Rattle.std.proofs.Common.{◌≡◌, ℕ, Bool, List, ◌++◌, Result, Ok, refl, ap, ◌∙◌}
use Rattle.std.specs.Int.{w8, w16, to_be_bytes}
use Rattle.gate_base.specs.declared.name.Target.{Target}
use Rattle.gate_entries.specs.declared.entry.What.{What}
use Rattle.gate_entries.specs.declared.entry.What.TheVariants.{Order}
use Rattle.gate_entries.specs.declared.kind.Kind.TheVariants as kinds
use Rattle.gate_entries.specs.Field.{counted, truth, list_bytes}
use Rattle.gate_entries.specs.Target.{target_bytes}
use Rattle.gate_entries.specs.Order.{order_bytes, IsOrder, order_at}
use Rattle.gate_entries.proofs.Fields.{IsBytes, as_made, takes_both, key_field, counted16_field, truth_field, number16_field, step, step_again, list_field}
use Rattle.gate_entries.proofs.KindFields.{TakesWhat}
use Rattle.gate_entries.proofs.Pieces.{five_behind}
use Rattle.gate_entries.proofs.Targets.{target_field}

pub order_takes : (bytes : List ℕ) (x : What × List ℕ) → IsBytes bytes → order_at bytes ≡ Ok x → TakesWhat kinds.Order bytes x
unfolding order_at
order_takes bytes x small e =
    let key = step key_field bytes _ x small e in
    let common = step truth_field key.found.1 _ x key.takes.small key.goes_on in
    let days = step number16_field common.found.1 _ x common.takes.small common.goes_on in
    let targets = step (list_field target_field) days.found.1 _ x days.takes.small days.goes_on in
    let request = step counted16_field targets.found.1 _ x targets.takes.small targets.goes_on in
    let whole = takes_both (takes_both (takes_both (takes_both key.takes common.takes) days.takes) targets.takes) request.takes in
    let made : What × List ℕ = (Order key.found.0 common.found.0 days.found.0 targets.found.0 request.found.0, request.found.1) in
    as_made (TakesWhat kinds.Order bytes) made x request.goes_on
    (whole, record { key_fits = key.is; days_fit = days.is; are_targets = targets.is; request_fits = request.is }, refl {a = kinds.Order})

pub order_again : (key : List ℕ) (common : Bool) (days : ℕ) (targets : List Target) (request rest : List ℕ) → IsOrder key days targets request
    → order_at (order_bytes key common days targets request ++ rest) ≡ Ok (Order key common days targets request, rest)
unfolding order_at
order_again key common days targets request rest is =
    let whole : Result (What × List ℕ) ℕ = Ok (Order key common days targets request, rest) in
    let r4 = counted w16 request ++ rest in
    let r3 = list_bytes target_bytes targets ++ r4 in
    let r2 = to_be_bytes w16 days ++ r3 in
    let r1 = truth common ++ r2 in
    ap order_at (five_behind (counted w8 key) (truth common) (to_be_bytes w16 days) (list_bytes target_bytes targets) (counted w16 request) rest)
    ∙ step_again key_field key r1 _ whole is.key_fits
    (step_again truth_field common r2 _ whole tt
    (step_again number16_field days r3 _ whole is.days_fit
    (step_again (list_field target_field) targets r4 _ whole is.are_targets
    (step_again counted16_field request rest _ whole is.request_fits refl))))
