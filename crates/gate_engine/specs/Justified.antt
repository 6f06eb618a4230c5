-- What recovery finds after a stop, over one run of calls behind another, and what the next start works from.
use Rattle.std.specs.Prelude.{ℕ, List}
use Rattle.plant.specs.Stops.{Stops, LeftSince}
use Rattle.plant.specs.Joining.{Joins}
use Rattle.journal_core.specs.Journal.{IsJournal}
use Rattle.gate_entries.specs.declared.entry.Entry.{Entry}
use Rattle.gate_machine.specs.History.{payloads_of, Legal}
use Rattle.gate_machine.specs.Sends.{Within}
use Rattle.gate_machine.specs.Move.{Held, IsSound, Extends}
use Rattle.gate_machine.specs.Step.{bodies_of}
use Rattle.gate_engine.specs.Kept.{Kept}

-- the image is the journal of a legal history that begins with this one; each body that the signer was sent has an entry of its own
-- in it, in order, if what is given here held
pub record FindsJustified (Given : Type 0) (before : List Entry) (image : List ℕ) (sent : List (List ℕ)) : Type 0 where
  pub history : List Entry
  pub legal : Legal history
  pub begins : Extends before history
  pub journal : IsJournal (payloads_of history) image
  pub recorded : Given → Within sent (bodies_of history)

-- so it is of each pair that a stop since the old state may have left
pub record JustifiesSince (Given : Type 0) (before : List Entry) (old now : Stops) : Type 0 where
  pub joins : Joins old now
  pub each : (image : List ℕ) (sent : List (List ℕ)) → LeftSince old now image sent → FindsJustified Given before image sent

-- a gate whose history begins with this one left what a stop now leaves: the next start works from it
pub record IsLeftBehind (before : List Entry) (stops : Stops) : Type 0 where
  pub held : Held
  pub sound : IsSound held
  pub begins : Extends before held.history
  pub kept : Kept held stops
