use Rattle.std.proofs.Common.{ℕ, List, [], ◌∷◌, ◌++◌, ◌≡◌, sym, ◌∙◌, ap, subst, arith, length, length-append}
use Rattle.std.specs.List.{AllByRecursion}
use Rattle.journal_core.specs.Journal.{IsPayload, no_chain, group, chained, opened, chain_after}
use Rattle.journal_core.proofs.Groups.{gate_front, read_more, place_of_rest, breaks, group_length, chain_after-push, each_push}
use Rattle.journal_core.proofs.reading.read_groups.Goals as goal

pub loop-rest-preserved : goal.loop-rest-preserved
loop-rest-preserved c =
    let inv = c.loop-rest.invariant in
    let found = c.in-Some.ensures in
    let is_open = gate_front c.loop-rest.rest.now c.split_at.result.1.now 1 inv.some c.loop-rest-test.true c.split_at.ensures.back in
    let whole = read_more c.loop-rest.payloads _ _ _ _ c.in-Some.group.payload.now _ inv.whole is_open inv.linked found.whole in
    let payload = c.in-Some.group.payload.now in
    let more = c.loop-rest.payloads ++ payload ∷ [] in
    let pushed : c.push_payload.new.payloads ≡ more = c.in_ok-push_payload-in-Some.ensures in
    record {
      whole = whole ∙ ap (λ (l : List (List ℕ)). opened no_chain l ++ c.in-Some.group.behind.now) (sym pushed);
      linked = found.chain ∙ ap (λ (l : List ℕ). chained l payload) inv.linked ∙ sym (chain_after-push no_chain c.loop-rest.payloads payload)
          ∙ ap (λ (l : List (List ℕ)). chain_after no_chain l) (sym pushed);
      each = subst (AllByRecursion IsPayload) (sym pushed) (each_push c.loop-rest.payloads payload inv.each found.payload);
      some = found.gate;
      count = omega (
        arith,
        inv.count,
        ap length is_open,
        ap length found.whole,
        length-append (group c.loop-rest.chain payload) c.in-Some.group.behind.now,
        group_length c.loop-rest.chain payload,
        found.payload.some,
        ap length pushed,
        length-append c.loop-rest.payloads (payload ∷ []),
      );
    }

pub returns-in-None-clause-fault : goal.returns-in-None-clause-fault
returns-in-None-clause-fault c =
    let inv = c.loop-rest.invariant in
    let is_open = gate_front c.loop-rest.rest.now c.split_at.result.1.now 1 inv.some c.loop-rest-test.true c.split_at.ensures.back in
    breaks c.loop-rest.payloads c.args.bytes.now c.loop-rest.rest.now c.split_at.result.1.now c.loop-rest.chain inv.whole is_open inv.linked inv.each c.in-None.ensures.lacks

pub returns-clause-place : goal.returns-clause-place
returns-clause-place c = place_of_rest c.loop-rest.payloads c.args.bytes.now c.loop-rest.rest.now c.loop-rest.invariant.whole
