-- What a sound plan says of the lengths of its parts.
use Rattle.std.proofs.Common.{◌≡◌, ℕ, ◌≤◌, IsTrue, List, ◌∷◌, length}
use Rattle.std.proofs.lemmas.Bool.{and_parts, leb-true}
use Rattle.std.specs.List.{AllByRecursion}
use Rattle.gate_base.specs.declared.name.Target.{Target}
use Rattle.gate_base.specs.declared.name.Target.TheVariants.{Dns, Ip}
use Rattle.names_core.specs.Target.{target_text}
use Rattle.tbs_build.specs.Names.{IsShort}
use Rattle.tbs_build.specs.Plan.{Plan, IsSound, begins_with_name}
use Rattle.cert_fields.specs.Profile.{is_address}

pub address_is_short : (text : List ℕ) → IsTrue (is_address text) → length text ≤ 512
address_is_short text is = leb-true _ _ ((and_parts _ _ ((and_parts _ _ is).0)).0)

first_is_short : (first : Target) (rest : List Target) → IsTrue (begins_with_name (first ∷ rest))
    → AllByRecursion IsShort (first ∷ rest) → length (target_text first) ≤ 253
first_is_short (Dns name) rest is short = short.0
first_is_short (Ip address) rest is short = absurd (cc is)

-- where a commonName is wanted, the first target's text is short
pub common_is_short : (plan : Plan) (first : Target) (rest : List Target) → IsSound plan
    → plan.targets ≡ first ∷ rest → IsTrue plan.common → length (target_text first) ≤ 253
common_is_short plan first rest sound is common =
    first_is_short first rest (rw is at (sound.named common)) (rw is at sound.short)
