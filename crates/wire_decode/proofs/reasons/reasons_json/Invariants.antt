use Rattle.std.proofs.Common.{◌≡◌, ◌∷◌, ◌++◌, length, string_bytes}
use Rattle.std.specs.List.{flat_map}
use Rattle.wire_decode.specs.Reply.{reason_json, reasons_json}
use Rattle.wire_decode.proofs.reasons.reasons_json.Given as goal

abbrev pub invariant-loop-rest : goal.invariant-loop-rest
invariant-loop-rest l = string_bytes l.json ++ flat_map (λ next. 44 ∷ reason_json next) l.rest ≡ reasons_json l.whys

abbrev pub decreases-loop-rest : goal.decreases-loop-rest
decreases-loop-rest l = length l.rest
