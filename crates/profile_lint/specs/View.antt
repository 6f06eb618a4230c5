-- Contents without where they lie in memory.
use Rattle.std.specs.Prelude.{option_map}
use Rattle.der_text.specs.View.{node}
use Rattle.profile_lint.specs.declared.contents.Judged.{Judged}
use Rattle.profile_lint.specs.declared.contents.Contents.{Contents}
use Rattle.profile_lint.specs.Contents as said

abbrev pub judged : Judged → said.Judged
judged j = record { extension = option_map (λ extension. extension.now) j.extension; tree = option_map node j.tree }

abbrev pub contents : Contents → said.Contents
contents c = record {
  body = c.body.now;
  begins = c.begins;
  ends = c.ends;
  key = option_map node c.key;
  names = judged c.names;
  usage = judged c.usage;
  purposes = judged c.purposes;
  policies = judged c.policies;
  points = judged c.points;
  access = judged c.access;
}
