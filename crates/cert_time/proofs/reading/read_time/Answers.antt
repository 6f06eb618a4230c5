use Rattle.std.proofs.Common.{◌≡◌, subst}
use Rattle.cert_time.specs.declared.civil.Civil.{Civil}
use Rattle.cert_time.specs.Calendar.{IsReal, seconds_of}
use Rattle.cert_time.proofs.reading.read_time.Goals as goal

pub returns : goal.returns
returns c = λ seconds. (
  λ e. let both = (c.seconds_of.ensures seconds).0 e in
      record { civil = c.in_ok-civil_read.field-0; real = both.0; written = c.in_ok-civil_read.ensures.found; passed = both.1 },
  λ is.
      let read = c.civil_read.ensures.again is.civil is.real is.written in
      let same : is.civil ≡ c.in_ok-civil_read.field-0 = cc (read, c.in_ok-civil_read.was) in
      (c.seconds_of.ensures seconds).1 (subst (λ (x : Civil). IsReal x × (seconds ≡ seconds_of x)) same (is.real, is.passed)),
)
