-- A challenge that is read is the one that was written.
use Rattle.std.proofs.Common.{◌≡◌, ℕ, ◌^◌, ◌<◌, true, List, [], ◌∷◌, ◌++◌, length, Some, Result, Ok, refl, ap, ◌∙◌}
use Rattle.std.specs.Int.{w8, w64, to_be_bytes}
use Rattle.gate_base.specs.declared.name.Target.{Target}
use Rattle.gate_base.specs.declared.seen.Method.{Method}
use Rattle.gate_base.specs.declared.seen.Method.TheVariants.{DnsChange, WebChange, AcmeHttp}
use Rattle.gate_base.specs.declared.sixteen.Sixteen.{Sixteen}
use Rattle.gate_entries.specs.declared.entry.What.{What}
use Rattle.gate_entries.specs.declared.entry.What.TheVariants.{Challenge}
use Rattle.gate_entries.specs.declared.kind.Kind.TheVariants as kinds
use Rattle.gate_entries.specs.Field.{counted}
use Rattle.gate_entries.specs.Target.{target_bytes}
use Rattle.gate_entries.specs.Challenge.{method_number, methods, method_with, method_at, is_thumb_of, thumb_behind, thumb_at, challenge_bytes, IsChallenge, challenge_at}
use Rattle.gate_entries.proofs.Fields.{IsBytes, as_made, Takes, takes_both, key_field, number64_field, bytes_field, step, step_again, IsField, one_of_field}
use Rattle.gate_entries.proofs.KindFields.{TakesWhat}
use Rattle.gate_entries.proofs.Pieces.{six_behind}
use Rattle.gate_entries.proofs.Targets.{target_field, only_met}

each_method : (method : Method) → method_with (method_number method) ≡ Some method
each_method DnsChange = refl
each_method WebChange = refl
each_method AcmeHttp = refl

pub method_field : IsField (λ method. method_number method ∷ []) (λ method. Unit {0}) method_at
method_field = one_of_field method_number methods each_method

-- a thumbprint that may stand with the method
abbrev pub IsThumb : Method → List ℕ → Type 0
IsThumb method thumb = (length thumb < 2 ^ 8) × (is_thumb_of method thumb ≡ true)

thumb_takes : (method : Method) (bytes : List ℕ) (x : List ℕ × List ℕ) → IsBytes bytes → thumb_at method bytes ≡ Ok x
    → Takes bytes (counted w8 x.0) x.1 × IsThumb method x.0
unfolding thumb_at
thumb_takes method bytes x small e =
    let thumb = step key_field bytes (thumb_behind method (length bytes)) x small e in
    let met = only_met (is_thumb_of method thumb.found.0) (length bytes) (Ok thumb.found) x thumb.goes_on in
    as_made (λ (y : List ℕ × List ℕ). Takes bytes (counted w8 y.0) y.1 × IsThumb method y.0) thumb.found x met.1 (thumb.takes, (thumb.is, met.0))

thumb_again : (method : Method) (thumb rest : List ℕ) → IsThumb method thumb → thumb_at method (counted w8 thumb ++ rest) ≡ Ok (thumb, rest)
unfolding thumb_at
thumb_again method thumb rest is =
    step_again key_field thumb rest (thumb_behind method (length (counted w8 thumb ++ rest))) (Ok (thumb, rest)) is.0 (rw is.1 refl)

thumb_field : (method : Method) → IsField (counted w8) (IsThumb method) (thumb_at method)
thumb_field method = record { takes = thumb_takes method; again = thumb_again method }

pub challenge_takes : (bytes : List ℕ) (x : What × List ℕ) → IsBytes bytes → challenge_at bytes ≡ Ok x → TakesWhat kinds.Challenge bytes x
unfolding challenge_at
challenge_takes bytes x small e =
    let key = step key_field bytes _ x small e in
    let order = step number64_field key.found.1 _ x key.takes.small key.goes_on in
    let method = step method_field order.found.1 _ x order.takes.small order.goes_on in
    let target = step target_field method.found.1 _ x method.takes.small method.goes_on in
    let value = step (bytes_field 16) target.found.1 _ x target.takes.small target.goes_on in
    let thumb = step (thumb_field method.found.0) value.found.1 _ x value.takes.small value.goes_on in
    let whole = takes_both (takes_both (takes_both (takes_both (takes_both key.takes order.takes) method.takes) target.takes) value.takes) thumb.takes in
    let made : What × List ℕ = (Challenge key.found.0 order.found.0 method.found.0 target.found.0 (record { 0 = value.found.0 }) thumb.found.0, thumb.found.1) in
    as_made (TakesWhat kinds.Challenge bytes) made x thumb.goes_on (
      whole,
      record { key_fits = key.is; order_fits = order.is; is_target = target.is; value_size = value.is; thumb_fits = thumb.is.0; is_thumb = thumb.is.1 },
      refl {a = kinds.Challenge},
    )

pub challenge_again : (key : List ℕ) (order : ℕ) (method : Method) (target : Target) (value : Sixteen) (thumb rest : List ℕ)
    → IsChallenge key order method target value thumb
    → challenge_at (challenge_bytes key order method target value thumb ++ rest) ≡ Ok (Challenge key order method target value thumb, rest)
unfolding challenge_at
challenge_again key order method target value thumb rest is =
    let whole : Result (What × List ℕ) ℕ = Ok (Challenge key order method target value thumb, rest) in
    let r5 = counted w8 thumb ++ rest in
    let r4 = value.0 ++ r5 in
    let r3 = target_bytes target ++ r4 in
    let r2 = (method_number method ∷ []) ++ r3 in
    let r1 = to_be_bytes w64 order ++ r2 in
    ap challenge_at (six_behind (counted w8 key) (to_be_bytes w64 order) (method_number method ∷ []) (target_bytes target) value.0 (counted w8 thumb) rest)
    ∙ step_again key_field key r1 _ whole is.key_fits
    (step_again number64_field order r2 _ whole is.order_fits
    (step_again method_field method r3 _ whole tt
    (step_again target_field target r4 _ whole is.is_target
    (step_again (bytes_field 16) value.0 r5 _ whole is.value_size
    (step_again (thumb_field method) thumb rest _ whole (is.thumb_fits, is.is_thumb) refl)))))
