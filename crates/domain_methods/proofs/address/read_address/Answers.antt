use Rattle.std.proofs.Common.{None, sym, ap, ◌∙◌}
use Rattle.std.specs.Result.{result_ok}
use Rattle.url.specs.Parser.{parse_url}
use Rattle.domain_methods.proofs.AddressLemmas.{address_of-no_text, address_of-text}
use Rattle.domain_methods.proofs.address.read_address.Goals as goal

pub returns-in_default : goal.returns-in_default
returns-in_default c = sym (address_of-no_text c.args.bytes.now c.in_default.ensures.cases.0)

pub returns-in-Ok-parse : goal.returns-in-Ok-parse
returns-in-Ok-parse c =
    let text = c.in-Ok.ensures.cases in
    sym (address_of-text c.args.bytes.now text.1 ∙ ap result_ok (ap (parse_url None) (sym text.0) ∙ c.in-Ok-parse.ensures))
