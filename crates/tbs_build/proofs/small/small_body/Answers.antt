use Rattle.std.proofs.Common.{rules, ◌≡◌, ◌≤◌, ◌++◌, List, ℕ, length, sym, subst}
use Rattle.der_text.specs.Tree.{element, spellings, IsDer}
use Rattle.tbs_build.specs.Names.{general_names}
use Rattle.tbs_build.specs.Small.{small_body_tree}
use Rattle.tbs_build.proofs.Forms.{small_is_der}
use Rattle.tbs_build.proofs.small.small_body.Goals as goal

pub returns-clause-der : goal.returns-clause-der
returns-clause-der c =
    let few : length c.args.serial.now.0 ≤ 16 = search rules in
    let named : c.in_ok-names.names.items ≡ spellings (general_names c.args.targets.now) = search rules in
    let contained : c.in_ok-content.content.items
    ≡ element 2 c.args.serial.now.0 ++ element 48 c.in_ok-names.names.items = search rules in
    let whole : c.from_vec.result ≡ element 48 c.in_ok-content.content.items = search rules in
    subst (λ (b : List ℕ). IsDer b (small_body_tree c.args.serial.now.0 c.args.targets.now)) (sym whole)
    (small_is_der _ _ _ _ c.requires.serial few c.requires.short named c.in_ok-names.ensures.few contained c.in_ok-content.ensures.few)
