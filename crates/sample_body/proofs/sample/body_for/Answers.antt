use Rattle.std.proofs.Common.{rules, ◌+◌, refl}
use Rattle.csr10.specs.View as view
use Rattle.tbs_build.specs.Plan.{Plan}
use Rattle.sample_body.proofs.sample.body_for.Goals as goal

pub returns-clause-ok : goal.returns-clause-ok
returns-clause-ok c =
    let fields = c.in_ok-fields.fields in
    let wanted = c.args.wanted.now in
    let plan : Plan = record {
      serial = wanted.serial.0;
      not_before = wanted.not_before.0;
      not_after = wanted.not_before.0 + 4060799;
      spki = fields.spki.now;
      kind = fields.kind;
      targets = c.in-Some.targets;
      common = wanted.common;
      profile = c.in_ok-profile.profile;
    } in
    record {
      fits = search rules;
      plan = plan;
      planned = record {
        fields = view.fields fields;
        asked = c.in_ok-fields.ensures.ok;
        key = refl;
        names = c.in-Some.is;
        serial = refl;
        first = refl;
        last = refl;
        common = refl;
        profile = c.in_ok-profile.ensures.example;
        sound = search rules;
      };
      spelled = c.in_ok-build.ensures.body;
    }
