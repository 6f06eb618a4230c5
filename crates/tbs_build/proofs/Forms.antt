-- The small body is in the form of DER.
use Rattle.std.proofs.Common.{◌≡◌, ℕ, ◌+◌, ◌*◌, ◌<◌, ◌≤◌, ◌^◌, ◌++◌, IsTrue, List, [], ◌∷◌, length, refl, sym, ap, ◌∙◌, subst, arith}
use Rattle.std.proofs.lemmas.Bool.{ne_eqb}
use Rattle.std.proofs.lemmas.List.{append-nil}
use Rattle.std.specs.List.{AllByRecursion}
use Rattle.gate_base.specs.declared.name.Address.TheVariants.{V4, V6}
use Rattle.gate_base.specs.declared.name.Target.{Target}
use Rattle.gate_base.specs.declared.name.Target.TheVariants.{Dns, Ip}
use Rattle.der_text.specs.Content.{keeps_rule, is_primitive_content}
use Rattle.der_text.specs.Tree.{element, spellings, IsElement, IsInForm, AreInForm, IsDer}
use Rattle.tbs_build.specs.Names.{general_name, general_names, IsShort}
use Rattle.tbs_build.specs.Plan.{IsSerial}
use Rattle.tbs_build.specs.Small.{small_body_tree}

rule_of_sequence : (content : List ℕ) → IsTrue (keeps_rule 48 content)
unfolding keeps_rule
rule_of_sequence content = refl

sequence : (content : List ℕ) → length content < 2 ^ 32 → IsElement 48 content
sequence content size = record { one_byte_tag = λ e. cc e; size = size; rule = rule_of_sequence content }

rule_of_serial : (serial : List ℕ) → IsSerial serial → IsTrue (keeps_rule 2 serial)
unfolding keeps_rule is_primitive_content
rule_of_serial [] is = absurd is
rule_of_serial (b ∷ []) is = refl
rule_of_serial (b ∷ c ∷ rest) is =
    let low = is.0 in
    let high = is.1 in
    rw (ne_eqb b 0 (omega arith), ne_eqb b 255 (omega arith)) refl

pub integer : (serial : List ℕ) → IsSerial serial → length serial ≤ 16 → IsElement 2 serial
integer serial is few = record { one_byte_tag = λ e. cc e; size = omega arith; rule = rule_of_serial serial is }

rule_of_text : (content : List ℕ) → IsTrue (keeps_rule 0x82 content)
unfolding keeps_rule
rule_of_text content = refl

rule_of_octets : (content : List ℕ) → IsTrue (keeps_rule 0x87 content)
unfolding keeps_rule
rule_of_octets content = refl

text : (content : List ℕ) → length content ≤ 253 → IsElement 0x82 content
text content short = record { one_byte_tag = λ e. cc e; size = omega arith; rule = rule_of_text content }

octets : (content : List ℕ) → length content ≤ 253 → IsElement 0x87 content
octets content short = record { one_byte_tag = λ e. cc e; size = omega arith; rule = rule_of_octets content }

name_in_form : (target : Target) → IsShort target → IsInForm 30 (general_name target)
unfolding IsInForm
name_in_form (Dns name) short = (refl, text _ short)
name_in_form (Ip (V4 address)) short = (refl, octets _ short)
name_in_form (Ip (V6 address)) short = (refl, octets _ short)

names_in_form : (targets : List Target) → AllByRecursion IsShort targets → AreInForm 30 (general_names targets)
unfolding AreInForm
names_in_form [] short = tt
names_in_form (target ∷ targets) short = (name_in_form target short.0, names_in_form targets short.1)

pub small_is_der : (serial names content : List ℕ) (targets : List Target) → IsSerial serial → length serial ≤ 16
    → AllByRecursion IsShort targets → names ≡ spellings (general_names targets) → length names ≤ 256 * 255
    → content ≡ element 2 serial ++ element 48 names → length content ≤ 23 + 256 * 255
    → IsDer (element 48 content) (small_body_tree serial targets)
unfolding IsInForm AreInForm
small_is_der serial names content targets is few short named names_few contained content_few =
    let inner = spellings (general_names targets) in
    let last : element 48 names ≡ element 48 inner ++ [] = ap (element 48) named
    ∙ sym (append-nil (element 48 inner)) in
    let same : content ≡ element 2 serial ++ (element 48 inner ++ []) = contained
    ∙ ap (λ (n : List ℕ). element 2 serial ++ n) last in
    let names_size : length names < 2 ^ 32 = omega arith in
    let size : length content < 2 ^ 32 = omega arith in
    record {
      spelled = ap (element 48) same;
      form = (
        refl,
        sequence _ (subst (λ (c : List ℕ). length c < 2 ^ 32) same size),
        (
          (refl, integer serial is few),
          (
            (
              refl,
              sequence _ (subst (λ (c : List ℕ). length c < 2 ^ 32) named names_size),
              names_in_form targets short,
            ),
            tt,
          ),
        ),
      );
    }
