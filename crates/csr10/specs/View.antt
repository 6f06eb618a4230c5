-- Fields and requests without where they lie in memory.
use Rattle.std.specs.Prelude.{map}
use Rattle.csr10.specs.declared.fields.CsrFields.{CsrFields}
use Rattle.csr10.specs.declared.shape.Request.{Request}
use Rattle.csr10.specs.Csr as csr

abbrev pub fields : CsrFields → csr.Fields
fields f = record { spki = f.spki.now; kind = f.kind; san = f.san }

abbrev pub request : Request → csr.Request
request r = record { version = r.version.now; spki = r.spki.now; sans = map (λ value. value.now) r.sans.items }
