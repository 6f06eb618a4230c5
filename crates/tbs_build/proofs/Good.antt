-- Nodes that are in the form and whose spellings have at most so many bytes.
use Rattle.std.proofs.Common.{◌≡◌, ◌≢◌, ℕ, suc, ◌+◌, ◌%◌, ◌<◌, ◌≤◌, ◌^◌, IsTrue, true, false, List, length, length-append, refl, arith}
use Rattle.der_text.specs.Content.{is_constructed, keeps_rule, is_primitive_content}
use Rattle.der_text.specs.Tree.{Node, primitive, constructed, Nodes, no_nodes, also, spelling, spellings, IsElement, IsInForm, AreInForm}
use Rattle.tbs_build.specs.Extension.{alone}
use Rattle.tbs_build.proofs.Sizes.{length-element}

pub record Good (levels most : ℕ) (node : Node) : Type 0 where
  pub form : IsInForm levels node
  pub size : length (spelling node) ≤ most

pub record AllGood (levels most : ℕ) (nodes : Nodes) : Type 0 where
  pub form : AreInForm levels nodes
  pub size : length (spellings nodes) ≤ most

-- a tag of one byte whose contents are not judged
pub record IsFree (tag : ℕ) : Type 0 where
  pub one_byte_tag : tag % 32 ≢ 31
  pub rule : (content : List ℕ) → IsTrue (keeps_rule tag content)

pub octet_string : IsFree 4
unfolding keeps_rule is_primitive_content
octet_string = record { one_byte_tag = λ e. cc e; rule = λ content. refl }

pub utf8_string : IsFree 12
unfolding keeps_rule is_primitive_content
utf8_string = record { one_byte_tag = λ e. cc e; rule = λ content. refl }

pub utc_time : IsFree 23
unfolding keeps_rule is_primitive_content
utc_time = record { one_byte_tag = λ e. cc e; rule = λ content. refl }

pub generalized_time : IsFree 24
unfolding keeps_rule is_primitive_content
generalized_time = record { one_byte_tag = λ e. cc e; rule = λ content. refl }

pub sequence_tag : IsFree 48
unfolding keeps_rule
sequence_tag = record { one_byte_tag = λ e. cc e; rule = λ content. refl }

pub set_tag : IsFree 49
unfolding keeps_rule
set_tag = record { one_byte_tag = λ e. cc e; rule = λ content. refl }

pub key_identifier : IsFree 0x80
unfolding keeps_rule
key_identifier = record { one_byte_tag = λ e. cc e; rule = λ content. refl }

pub dns_name : IsFree 0x82
unfolding keeps_rule
dns_name = record { one_byte_tag = λ e. cc e; rule = λ content. refl }

pub uri_tag : IsFree 0x86
unfolding keeps_rule
uri_tag = record { one_byte_tag = λ e. cc e; rule = λ content. refl }

pub ip_address : IsFree 0x87
unfolding keeps_rule
ip_address = record { one_byte_tag = λ e. cc e; rule = λ content. refl }

pub first_tag : IsFree 0xa0
unfolding keeps_rule
first_tag = record { one_byte_tag = λ e. cc e; rule = λ content. refl }

pub fourth_tag : IsFree 0xa3
unfolding keeps_rule
fourth_tag = record { one_byte_tag = λ e. cc e; rule = λ content. refl }

-- ---- nodes

pub good_element : (levels tag most : ℕ) (content : List ℕ) → is_constructed tag ≡ false → IsElement tag content
    → length content ≤ most → Good (suc levels) (6 + most) (primitive tag content)
unfolding IsInForm
good_element levels tag most content bit is few =
    record { form = (bit, is); size = omega (arith, length-element tag content) }

pub good_primitive : (levels tag most : ℕ) (content : List ℕ) → IsFree tag → is_constructed tag ≡ false
    → length content ≤ most → most < 2 ^ 32 → Good (suc levels) (6 + most) (primitive tag content)
good_primitive levels tag most content free bit few low =
    good_element levels tag most content bit
    (record { one_byte_tag = free.one_byte_tag; size = omega arith; rule = free.rule content }) few

pub good_constructed : (levels tag most : ℕ) (parts : Nodes) → IsFree tag → is_constructed tag ≡ true
    → most < 2 ^ 32 → AllGood levels most parts → Good (suc levels) (6 + most) (constructed tag parts)
unfolding IsInForm
good_constructed levels tag most parts free bit low good =
    record {
      form = (
        bit,
        record {
          one_byte_tag = free.one_byte_tag;
          size = omega (arith, good.size);
          rule = free.rule
              (spellings parts);
        },
        good.form,
      );
      size = omega (arith, good.size, length-element tag (spellings parts));
    }

pub none : (levels : ℕ) → AllGood levels 0 no_nodes
unfolding AreInForm
none levels = record { form = tt; size = omega arith }

pub and : {levels m n : ℕ} {first : Node} {others : Nodes} → Good levels m first → AllGood levels n others
    → AllGood levels (m + n) (also first others)
unfolding AreInForm
and {first = first} {others = others} good rest =
    record {
      form = (good.form, rest.form);
      size = omega
          (arith, good.size, rest.size, length-append (spelling first) (spellings others));
    }

pub only : {levels m : ℕ} {first : Node} → Good levels m first → AllGood levels (m + 0) (alone first)
only {levels = levels} good = and good (none levels)

pub at_most : {levels m n : ℕ} {node : Node} → Good levels m node → m ≤ n → Good levels n node
at_most good low = record { form = good.form; size = omega (arith, good.size) }

pub all_at_most : {levels m n : ℕ} {nodes : Nodes} → AllGood levels m nodes → m ≤ n → AllGood levels n nodes
all_at_most good low = record { form = good.form; size = omega (arith, good.size) }
