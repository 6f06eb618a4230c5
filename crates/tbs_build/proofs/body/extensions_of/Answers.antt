use Rattle.std.proofs.Common.{rules, ◌≡◌, ◌++◌, List, ℕ, sym, ap, ◌∙◌}
use Rattle.der_text.specs.Tree.{spellings}
use Rattle.tbs_build.specs.Extension.{about_key_and_names, about_policy_and_addresses, extension_trees}
use Rattle.tbs_build.specs.Plan.{plan_of}
use Rattle.tbs_build.proofs.Extensions.{spellings-append}
use Rattle.tbs_build.proofs.body.extensions_of.Goals as goal

pub returns-clause-all : goal.returns-clause-all
returns-clause-all c =
    let plan = plan_of c.args.p.now in
    let first : c.push_key_and_names.new.out.items ≡ spellings
    (extension_trees (about_key_and_names plan)) = search rules in
    c.in_ok-push_policy_and_addresses.ensures.ok
    ∙ ap (λ (bytes : List ℕ). bytes ++ spellings (extension_trees (about_policy_and_addresses plan))) first
    ∙ sym (spellings-append (about_key_and_names plan) (about_policy_and_addresses plan))
