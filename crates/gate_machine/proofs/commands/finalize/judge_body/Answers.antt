use Rattle.std.proofs.Common.{◌≡◌, ◌≤◌, List, ℕ, length, refl, subst, sym, ap, ◌∙◌}
use Rattle.std.specs.Option.{option_copied}
use Rattle.std.proofs.lemmas.Bool.{eq-eqb}
use Rattle.gate_entries.specs.declared.entry.Entry.{Entry}
use Rattle.gate_entries.specs.declared.entry.What.TheVariants.{Send}
use Rattle.gate_machine.proofs.Histories.{comes_at}
use Rattle.gate_machine.proofs.Own.{seen_own, signed_as}
use Rattle.gate_machine.proofs.commands.finalize.judge_body.Goals as goal

pub returns-clause-due : goal.returns-clause-due
returns-clause-due c = λ fresh.
    let own = seen_own c.args.caller.now c.args.number c.args.history.now c.args.order.now c.requires.account c.requires.legal.each c.requires.order in
    let unsigned = sym (signed_as c.args.caller.now c.args.number c.args.history.now c.args.order.now c.requires.account c.requires.legal.each c.requires.order) ∙ c.requires.unsigned in
    let what : c.in_ok-entry.entry.what ≡ Send c.args.number c.args.body = ap (λ (e : Entry). e.what) c.in_ok-entry.ensures.entry in
    record {
      follows = comes_at c.args.history.now c.args.place.now c.args.caller.now (Send c.args.number c.args.body) c.in_ok-entry.entry c.requires.next
          (record {
            order = c.args.order.now;
            own = own;
            unsigned = unsigned;
            key = c.in_ok-key.key.now;
            is_key = c.in_ok-key.ensures.key;
            unblocked = sym c.block_of.ensures ∙ ap option_copied c.in_default.is;
            body_is = c.requires.body fresh;
          })
          c.in_ok-entry.ensures.spelled c.in_ok-entry.ensures.entry;
      sends = rw what (eq-eqb c.args.number c.args.number refl);
      caller = subst (λ (l : List ℕ). length l ≤ 64) (sym (ap (λ (e : Entry). e.caller) c.in_ok-entry.ensures.entry)) c.requires.caller;
    }
