use Rattle.std.proofs.Common.{◌≤◌, ◌↔◌, length, IsTrue, sym, subst, ◌∙◌, arith}
use Rattle.cert_fields.specs.Profile.{IsIssuerName}
use Rattle.cert_fields.proofs.IssuerNames.{name_by_tree, no_name}
use Rattle.cert_fields.proofs.issuer_name.is_issuer_name.Goals as goal

pub returns-in-Err-Der : goal.returns-in-Err-Der
returns-in-Err-Der c =
    let long = c.if-bytes-gt-LONGEST_NAME.false in
    let short : length c.args.bytes.now ≤ 1024 = omega arith in
    let none = rw c.in-Err-Der.field-0-is at c.in-Err-Der.ensures.only in
    (λ e. cc e, λ name. absurd (no_name c.args.bytes.now _ short (c.as_slice.ensures.value ∙ c.in_ok-whole.ensures) none name))

pub returns : goal.returns
returns c =
    let long = c.if-bytes-gt-LONGEST_NAME.false in
    let short : length c.args.bytes.now ≤ 1024 = omega arith in
    let read = c.in-Ok.ensures in
    subst (λ good. IsTrue good ↔ IsIssuerName c.args.bytes.now) (sym c.is_sequence_of_one.ensures)
    (name_by_tree c.an_element_spells_one_content.ensures.contents c.args.bytes.now _ _ short (c.as_slice.ensures.value ∙ c.in_ok-whole.ensures) read.ok read.same)
