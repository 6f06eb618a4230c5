use Rattle.std.proofs.Common.{◌≡◌, ℕ, List, map, Ok, sym, ap, ap₂, subst, ◌∙◌, [], ◌∷◌, arith}
use Rattle.std.specs.String.{string_bytes}
use Rattle.hex.specs.Hex.{decode_sized}
use Rattle.sample_body.specs.Sample.{IsSeconds}
use Rattle.sample_body.proofs.FiveItems.{five_items}
use Rattle.sample_body.proofs.words.read_words.Goals as goal

pub returns-clause-asked : goal.returns-clause-asked
returns-clause-asked c =
    let items = five_items c.args.words.now c.serial-item.result c.begin-item.result c.subject-item.result
    c.algorithm-item.result _ _ _ _ (omega (arith, c.in-len5.len_at_least, c.in-len5.len_below))
    c.serial-item.is c.begin-item.is c.subject-item.is c.algorithm-item.is in
    let program = string_bytes items.0 in
    let serial = string_bytes c.serial-item.result in
    let begin = string_bytes c.begin-item.result in
    record {
      program = program;
      serial = serial;
      begin = begin;
      are = ap (map string_bytes) items.1
          ∙ ap₂ (λ (subject algorithm : List ℕ). program ∷ serial ∷ begin ∷ subject ∷ algorithm ∷ [])
          (sym c.as_str-3.ensures.value ∙ c.in_ok-read_subject.ensures)
          (sym c.as_str-4.ensures.value ∙ c.in_ok-read_algorithm.ensures);
      number = subst (λ (text : List ℕ). decode_sized text 16 ≡ Ok c.in_ok-read_serial.field-0.0)
          c.as_str.ensures.value c.in_ok-read_serial.ensures.number;
      first = subst (λ (text : List ℕ). IsSeconds text c.in_ok-read_begin.field-0.0) c.as_str-2.ensures.value
          c.in_ok-read_begin.ensures.number;
    }
