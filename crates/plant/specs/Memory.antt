-- The outside in memory: calls that fail by a list, and what the objects are.
use Rattle.std.specs.Prelude.{◌≡◌, ℕ, ◌+◌, ◌-◌, ◌^◌, min, max, List, [], ◌∷◌, ◌++◌, ◌⊎◌, map, length, Option, Some, None, find, ◌==◌}
use Rattle.std.specs.Option.{option_map}
use Rattle.sha2.specs.Sha256.{sha256}
use Rattle.plant.specs.declared.fault.Fail.{Fail}
use Rattle.plant.specs.declared.fault.Fail.TheVariants.{Disk, NotReceived, ReplyLost}
use Rattle.plant.specs.Plant.{PlantTold, overwritten}
use Rattle.std.proofs.Common.{inl, inr, refl, sym, ap}
use Rattle.plant.specs.Stops.{Stops, LeftNow}
use Rattle.plant.specs.Past.{Content, stops_of, none_left}
use Rattle.plant.specs.Stream.{SourceTold, SinkTold}

-- one more, up to the type's end
abbrev pub one_more : ℕ → ℕ
one_more count = max count (min (count + 1) (2 ^ 64 - 1))

-- how a call fails: as the first pair with its number says
abbrev pub fail_at : List (ℕ × Fail) → ℕ → Option Fail
fail_at pairs call = option_map (λ pair. pair.1) (find (λ pair. pair.0 == call) pairs)

-- the stand-in's signature of a body. It is not a real signature
abbrev pub stand_in : List ℕ → List ℕ → List ℕ
stand_in secret body = sha256 (secret ++ body)

-- a disk and a stand-in signer in memory; calls are counted over both. The bytes of the last sync, the ranges written since and
-- the contents of the moments before say what a stop may leave
pub record PlantMemory : Type 0 where
  pub bytes : List ℕ
  pub stable : List ℕ
  pub written : List (ℕ × ℕ)
  pub past : List Content
  pub secret : List ℕ
  pub fails : List (ℕ × Fail)
  pub calls : ℕ
  pub sent : List (List ℕ)
  pub answered : List (List ℕ)
  pub disk_faults : ℕ
  pub signer_faults : ℕ
  pub short : ℕ

abbrev pub plant_told : PlantMemory → PlantTold
plant_told plant = record {
  disk = record { bytes = Some plant.bytes; faults = plant.disk_faults };
  signer = record {
    sent = Some plant.sent;
    answers = Some (map (λ body. (body, stand_in plant.secret body)) plant.answered);
    faults = plant.signer_faults;
  };
}

abbrev pub content_of : PlantMemory → Content
content_of plant = record { bytes = plant.bytes; stable = plant.stable; written = plant.written; sent = plant.sent }

unfoldable pub plant_stops : PlantMemory → Stops
plant_stops plant = stops_of (content_of plant) plant.past

-- a call was counted; it failed; memory was wanted for it
abbrev pub called : PlantMemory → PlantMemory
called plant = record plant { calls = one_more plant.calls }

abbrev pub disk_failed : PlantMemory → PlantMemory
disk_failed plant = record plant { disk_faults = one_more plant.disk_faults }

abbrev pub signer_failed : PlantMemory → PlantMemory
signer_failed plant = record plant { signer_faults = one_more plant.signer_faults }

abbrev pub ran_short : PlantMemory → PlantMemory
ran_short plant = record plant { short = one_more plant.short }

-- a moment is over
abbrev pub kept : PlantMemory → PlantMemory
kept plant = record plant { past = content_of plant ∷ plant.past }

-- a range is torn until a sync, whether or not its bytes were written
abbrev pub torn : ℕ → ℕ → PlantMemory → PlantMemory
torn at count plant = record (kept plant) { written = (at, count) ∷ plant.written }

abbrev pub wrote : ℕ → List ℕ → PlantMemory → PlantMemory
wrote at piece plant = record (torn at (length piece) plant) { bytes = overwritten plant.bytes at piece }

-- what reads is durable
abbrev pub synced : PlantMemory → PlantMemory
synced plant = record (kept plant) { stable = plant.bytes; written = [] }

-- the signer got a body; it answered it
abbrev pub received : List ℕ → PlantMemory → PlantMemory
received body plant = record (kept plant) { sent = plant.sent ++ body ∷ [] }

abbrev pub signed : List ℕ → PlantMemory → PlantMemory
signed body plant = record (received body plant) { answered = plant.answered ++ body ∷ [] }

-- what a call of the signer leaves, by how it was to fail
abbrev pub FailsToSign : Option Fail → List ℕ → PlantMemory → PlantMemory → Type 0
FailsToSign None body plant new = new ≡ signer_failed (ran_short plant)
FailsToSign (Some ReplyLost) body plant new = (new ≡ signer_failed (received body plant)) ⊎ (new ≡ signer_failed (ran_short plant))
FailsToSign (Some NotReceived) body plant new = new ≡ signer_failed plant
FailsToSign (Some Disk) body plant new = new ≡ signer_failed plant

pub record SourceMemory : Type 0 where
  pub left : List ℕ
  pub fails : List ℕ
  pub calls : ℕ
  pub faults : ℕ

abbrev pub source_told : SourceMemory → SourceTold
source_told source = record { left = Some source.left; faults = source.faults }

pub record SinkMemory : Type 0 where
  pub held : List ℕ
  pub fails : List ℕ
  pub calls : ℕ
  pub faults : ℕ
  pub short : ℕ

abbrev pub sink_told : SinkMemory → SinkTold
sink_told sink = record { held = Some sink.held; faults = sink.faults }

-- ---- what holds of a plant in memory

pub reads_now : (plant : PlantMemory) (bytes : List ℕ) → (plant_told plant).disk.bytes ≡ Some bytes → (list : List (List ℕ)) × LeftNow (plant_stops plant) bytes list
unfolding plant_stops
reads_now plant bytes told = (plant.sent, inl (inl (cc told), refl))

pub told_beside : (plant : PlantMemory) (image : List ℕ) (list : List (List ℕ)) → LeftNow (plant_stops plant) image list → (plant_told plant).signer.sent ≡ Some list
unfolding plant_stops
told_beside plant image list (inl pair) = ap Some (sym pair.1)
told_beside plant image list (inr left) = absurd (none_left plant.past image list left)
