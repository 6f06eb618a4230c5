use Rattle.std.proofs.Common.{◌≡◌, ap, sym, ◌∙◌}
use Rattle.std.proofs.lemmas.Str.{IsUtf8-from_ascii}
use Rattle.idna.specs.Punycode.{decode}
use Rattle.names_core.proofs.LabelLemmas.{IsAscii-plain, is_punycode-decoded}
use Rattle.names_core.proofs.label.is_punycode.Goals as goal

pub unreachable-requires : goal.unreachable-requires
unreachable-requires c = c.in_default.ensures.cases.0 (IsUtf8-from_ascii _ (IsAscii-plain _ c.requires.plain))

pub returns : goal.returns
returns c =
    let same : c.in-Ok.text.now ≡ c.args.text.now = c.in-Ok.ensures.cases.0 in
    let decoded = c.in-Ok-decode.ensures.value (rw same c.requires.short) in
    sym (is_punycode-decoded _ _ c.requires.plain (sym (ap decode same) ∙ decoded))
