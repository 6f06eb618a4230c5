-- What a stop leaves behind the begin of a journal.
use Rattle.std.proofs.Common.{◌≡◌, ℕ, List, [], ◌∷◌, Option, Some, None, sym, subst, ◌∙◌}
use Rattle.plant.specs.Stops.{Stops, LeftNow}
use Rattle.journal_core.specs.Journal.{IsJournal, begun_of}
use Rattle.journal_core.specs.Standing.{KeepsSent, LeavesOnly}
use Rattle.gate_base.specs.declared.moment.Moment.{Moment}
use Rattle.gate_entries.specs.Spelling.{entry_bytes}
use Rattle.gate_entries.specs.Command.{settings_entry}
use Rattle.gate_machine.specs.History.{payloads_of}
use Rattle.gate_machine.specs.Sends.{Within}
use Rattle.gate_machine.specs.Step.{bodies_of}
use Rattle.gate_machine.specs.Renewal.{first_history}
use Rattle.gate_engine.specs.Engine.{held_as}
use Rattle.gate_engine.specs.Kept.{Kept}
use Rattle.gate_engine.proofs.Kept.{now_since}

-- the one list that a plant tells
pub told_list : (told : Option (List (List ℕ))) (left given : List (List ℕ)) → told ≡ Some left → told ≡ Some given → left ≡ given
told_list told left given is was = let same = sym is ∙ was in cc same

pub kept_begun : (moment : Moment) (settings payload : List ℕ) (old new : Stops) → payload ≡ entry_bytes (settings_entry 1 moment settings) → IsJournal (payload ∷ []) (begun_of payload)
    → LeavesOnly (begun_of payload) new → KeepsSent old new → ((image : List ℕ) (sent : List (List ℕ)) → LeftNow old image sent → sent ≡ [])
    → Kept (held_as (first_history moment.0 settings) None) new
kept_begun moment settings payload old new is journal only moments none = record {
  stands = λ image sent left.
      subst (λ (i : List ℕ). IsJournal (payloads_of (first_history moment.0 settings)) i) (sym (only image sent left))
      (subst (λ (p : List ℕ). IsJournal (p ∷ []) (begun_of payload)) is journal);
  recorded = λ image sent left.
      let before = moments.each image sent (now_since old new moments.joins.later image sent left) in
      subst (λ (s : List (List ℕ)). Within s (bodies_of (first_history moment.0 settings))) (sym (none before.0 sent before.1)) tt;
}
