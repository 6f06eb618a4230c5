use Rattle.std.proofs.Common.{◌≡◌, arith, refl}
use Rattle.std.specs.Prelude.{Some, None}
use Rattle.std.specs.List.{slice_get}
use Rattle.gate_base.specs.declared.seen.CaaAnswer.TheVariants.{Failed, Set}
use Rattle.caa_climb.proofs.Answers.{relevant-stop, empty_further, set_stops, set_empty}
use Rattle.caa_climb.proofs.climbing.climb.Goals as goal

pub returns-then-not-is_empty : goal.returns-then-not-is_empty
returns-then-not-is_empty c =
    let answer : slice_get c.args.seen.now.answers c.loop-drop.drop ≡ Some (Set c.in-Some-Set.ttl c.in-Some-Set.rows) = cc (c.in-Some-Set.ensures) in
    relevant-stop _ _ _ _ c.loop-drop.invariant (omega arith) answer
    (set_stops c.in-Some-Set.ttl c.in-Some-Set.rows (λ none. cc (c.is_empty.ensures.1 none)))

pub returns-in-Some-Failed : goal.returns-in-Some-Failed
returns-in-Some-Failed c =
    let answer : slice_get c.args.seen.now.answers c.loop-drop.drop ≡ Some Failed = cc (c.in-Some-Failed.ensures) in
    relevant-stop _ _ _ _ c.loop-drop.invariant (omega arith) answer refl

pub returns-in-None : goal.returns-in-None
returns-in-None c =
    let answer : slice_get c.args.seen.now.answers c.loop-drop.drop ≡ None = cc (c.in-None.ensures) in
    relevant-stop _ _ _ _ c.loop-drop.invariant (omega arith) answer tt

pub loop-drop-preserved : goal.loop-drop-preserved
loop-drop-preserved c =
    let answer : slice_get c.args.seen.now.answers c.loop-drop.drop ≡ Some (Set c.in-Some-Set.ttl c.in-Some-Set.rows) = cc (c.in-Some-Set.ensures) in
    empty_further _ _ _ c.loop-drop.invariant answer (set_empty c.in-Some-Set.ttl c.in-Some-Set.rows (c.is_empty.ensures.0 c.if-not-is_empty.false))
