-- Parts without where they lie in memory.
use Rattle.std.specs.Prelude.{option_map}
use Rattle.der_text.specs.View.{nodes}
use Rattle.tbs_shape.specs.declared.layout.Layout.{Layout}
use Rattle.tbs_shape.specs.declared.layout.Kept.{Kept}
use Rattle.tbs_shape.specs.Shape as shape

abbrev pub layout : Layout → shape.Layout
layout l = record {
  version = option_map (λ version. version.now) l.version;
  serial = l.serial.now;
  validity = nodes l.validity.now;
  subject = nodes l.subject.now;
  key_bits = l.key_bits.now;
  has_unique_id = l.has_unique_id;
  extensions = option_map (λ parts. nodes parts.now) l.extensions;
}

abbrev pub kept : Kept → shape.Kept
kept k = record { algorithm = k.algorithm.now; issuer = k.issuer.now; key_algorithm = k.key_algorithm.now }
