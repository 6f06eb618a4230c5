-- What a call of a plant in memory makes of the pairs that a stop may leave.
use Rattle.std.proofs.Common.{◌≡◌, ◌⊎◌, ℕ, ◌≤◌, List, [], ◌∷◌, ◌++◌, length, inl, inr, refl, sym, ap, subst, subst₂, Some, arith}
use Rattle.plant.specs.Stops.{Stops, LeftNow, IsDurable}
use Rattle.plant.specs.Joining.{Joins, Stays, Follows, MaySend}
use Rattle.plant.specs.Tearing.{Torn}
use Rattle.plant.specs.Past.{Content, IsTorn, IsPair, LeftSinceMoment, stops_of, none_left}
use Rattle.plant.specs.Plant.{overwritten}
use Rattle.plant.specs.Memory.{PlantMemory, content_of, plant_stops, called, wrote, synced}
use Rattle.plant.proofs.Tears.{torn_none, torn_whole}
use Rattle.plant.proofs.Joins.{joins_still, stays_still}

module _ (old now : Content) (past : List Content) where
  joined_behind : (t : ℕ) (image : List ℕ) (sent : List (List ℕ)) → LeftSinceMoment now (old ∷ past) t image sent
      → LeftSinceMoment old past t image sent ⊎ LeftSinceMoment now (old ∷ past) (length past) image sent
  joined_behind t image sent (inl pair) = inr (inl pair)
  joined_behind t image sent (inr (inl (since, pair))) = inl (inl pair)
  joined_behind t image sent (inr (inr left)) = inl (inr left)

  kept_behind : (t : ℕ) (image : List ℕ) (sent : List (List ℕ)) → t ≤ length past → LeftSinceMoment old past t image sent
      → LeftSinceMoment now (old ∷ past) t image sent
  kept_behind t image sent le (inl pair) = inr (inl (le, pair))
  kept_behind t image sent le (inr left) = inr (inr left)

  joins_behind : Joins (stops_of old past) (stops_of now (old ∷ past))
  joins_behind = record {
    later = omega arith;
    joined = λ t image sent le left. joined_behind t image sent left;
    keeps = kept_behind;
  }

  -- since the call's start: what may be left now, or could be before
  each_behind : (P : List ℕ → List (List ℕ) → Type 0)
      → ((image : List ℕ) (sent : List (List ℕ)) → IsPair now image sent → P image sent)
      → ((image : List ℕ) (sent : List (List ℕ)) → IsPair old image sent → P image sent)
      → (image : List ℕ) (sent : List (List ℕ)) → LeftSinceMoment now (old ∷ past) (length past) image sent → P image sent
  each_behind P here before image sent (inl pair) = here image sent pair
  each_behind P here before image sent (inr (inl (since, pair))) = before image sent pair
  each_behind P here before image sent (inr (inr left)) = absurd (none_left past image sent left)

-- a write, whole or not at all
pub written_behind : (old : Content) (past : List Content) (at count : ℕ) (bytes : List ℕ) → Torn at count old.bytes bytes
    → Follows (Torn at count) (stops_of old past) (stops_of (record old { bytes = bytes; written = (at, count) ∷ old.written }) (old ∷ past))
written_behind old past at count bytes torn =
    let now : Content = record old { bytes = bytes; written = (at, count) ∷ old.written } in
    record {
      joins = joins_behind old now past;
      each = each_behind old now past (λ image sent. (before : List ℕ) × LeftNow (stops_of old past) before sent × Torn at count before image)
          here (λ image sent pair. (image, inl pair, torn_none at count image));
    }
  where
    here : (image : List ℕ) (sent : List (List ℕ)) → IsPair (record old { bytes = bytes; written = (at, count) ∷ old.written }) image sent
        → (before : List ℕ) × LeftNow (stops_of old past) before sent × Torn at count before image
    here image sent (inl same, beside) = (old.bytes, inl (inl refl, beside), subst (Torn at count old.bytes) (sym same) torn)
    here image sent (inr (before, between, step), beside) = (before, inl (inr between, beside), step)

pub synced_behind : (old : Content) (past : List Content) → Stays (stops_of old past) (stops_of (record old { stable = old.bytes; written = [] }) (old ∷ past))
synced_behind old past = record {
  joins = joins_behind old (record old { stable = old.bytes; written = [] }) past;
  each = each_behind old (record old { stable = old.bytes; written = [] }) past (LeftNow (stops_of old past)) here (λ image sent pair. inl pair);
}
  where
    here : (image : List ℕ) (sent : List (List ℕ)) → IsPair (record old { stable = old.bytes; written = [] }) image sent → LeftNow (stops_of old past) image sent
    here image sent (inl same, beside) = inl (inl same, beside)
    here image sent (inr same, beside) = inl (inl same, beside)

pub received_behind : (old : Content) (past : List Content) (body : List ℕ)
    → MaySend body (stops_of old past) (stops_of (record old { sent = old.sent ++ body ∷ [] }) (old ∷ past))
received_behind old past body = record {
  joins = joins_behind old (record old { sent = old.sent ++ body ∷ [] }) past;
  each = each_behind old (record old { sent = old.sent ++ body ∷ [] }) past
      (λ image sent. (before : List (List ℕ)) × LeftNow (stops_of old past) image before × ((sent ≡ before) ⊎ (sent ≡ before ++ body ∷ [])))
      (λ image sent pair. (old.sent, inl (pair.0, refl), inr pair.1)) (λ image sent pair. (sent, inl pair, inl refl));
}

pub unsent : (stops : Stops) (body : List ℕ) → MaySend body stops stops
unsent stops body = record { joins = joins_still stops; each = λ image sent left. (sent, left, inl refl) }

pub durable_behind : (old : Content) (past : List Content) → IsDurable (Some old.bytes) (stops_of (record old { stable = old.bytes; written = [] }) (old ∷ past))
durable_behind old past image sent (inl (inl same, beside)) = ap Some (sym same)
durable_behind old past image sent (inl (inr same, beside)) = ap Some (sym same)
durable_behind old past image sent (inr left) = absurd (none_left (old ∷ past) image sent left)

pub stable_behind : (bytes : List ℕ) (sent : List (List ℕ)) → IsDurable (Some bytes) (stops_of (record { bytes = bytes; stable = bytes; written = []; sent = sent }) [])
stable_behind bytes sent image list (inl (inl same, beside)) = ap Some (sym same)
stable_behind bytes sent image list (inl (inr same, beside)) = ap Some (sym same)
stable_behind bytes sent image list (inr left) = elim left [ ]

-- ---- the same of the plant

pub wrote_stops : (old new : PlantMemory) (at : ℕ) (piece : List ℕ) → at ≤ length old.bytes → new ≡ wrote at piece (called old)
    → Follows (Torn at (length piece)) (plant_stops old) (plant_stops new)
unfolding plant_stops
wrote_stops old new at piece within same = subst (λ plant. Follows (Torn at (length piece)) (plant_stops old) (plant_stops plant)) (sym same)
    (written_behind (content_of old) old.past at (length piece) (overwritten old.bytes at piece) (torn_whole at piece old.bytes within))

-- the content is this, and the contents before are these
abbrev stands_as : (new : PlantMemory) (content : Content) (past : List Content) (P : Content → List Content → Type 0) → new.bytes ≡ content.bytes
    → new.stable ≡ content.stable → new.written ≡ content.written → new.sent ≡ content.sent → new.past ≡ past → P content past → P (content_of new) new.past
stands_as new content past P bytes stable written sent before has =
    subst (λ l. P (record { bytes = l; stable = new.stable; written = new.written; sent = new.sent }) new.past) (sym bytes)
    (subst (λ l. P (record { bytes = content.bytes; stable = l; written = new.written; sent = new.sent }) new.past) (sym stable)
    (subst (λ l. P (record { bytes = content.bytes; stable = content.stable; written = l; sent = new.sent }) new.past) (sym written)
    (subst (λ l. P (record { bytes = content.bytes; stable = content.stable; written = content.written; sent = l }) new.past) (sym sent)
    (subst (P content) (sym before) has))))

pub tore_stops : (old new : PlantMemory) (at count : ℕ) → new.bytes ≡ old.bytes → new.stable ≡ old.stable → new.written ≡ (at, count) ∷ old.written
    → new.sent ≡ old.sent → new.past ≡ content_of old ∷ old.past → Follows (Torn at count) (plant_stops old) (plant_stops new)
unfolding plant_stops
tore_stops old new at count bytes stable written sent past =
    stands_as new (record (content_of old) { written = (at, count) ∷ old.written }) (content_of old ∷ old.past)
    (λ content before. Follows (Torn at count) (plant_stops old) (stops_of content before)) bytes stable written sent past
    (written_behind (content_of old) old.past at count old.bytes (torn_none at count old.bytes))

pub synced_stops : (old new : PlantMemory) → new ≡ synced (called old) → Stays (plant_stops old) (plant_stops new)
unfolding plant_stops
synced_stops old new same = subst (λ plant. Stays (plant_stops old) (plant_stops plant)) (sym same) (synced_behind (content_of old) old.past)

pub durable_stops : (old new : PlantMemory) → new ≡ synced (called old) → IsDurable (Some new.bytes) (plant_stops new)
unfolding plant_stops
durable_stops old new same = subst (λ plant. IsDurable (Some plant.bytes) (plant_stops plant)) (sym same) (durable_behind (content_of old) old.past)

pub failed_stops : (old new : PlantMemory) → new.bytes ≡ old.bytes → new.stable ≡ old.stable → new.written ≡ old.written → new.sent ≡ old.sent
    → new.past ≡ old.past → Stays (plant_stops old) (plant_stops new)
unfolding plant_stops
failed_stops old new bytes stable written sent past = stands_as new (content_of old) old.past (λ content before. Stays (plant_stops old) (stops_of content before))
    bytes stable written sent past (stays_still (plant_stops old))

pub received_stops : (old new : PlantMemory) (body : List ℕ) → new.bytes ≡ old.bytes → new.stable ≡ old.stable → new.written ≡ old.written
    → new.sent ≡ old.sent ++ body ∷ [] → new.past ≡ content_of old ∷ old.past → MaySend body (plant_stops old) (plant_stops new)
unfolding plant_stops
received_stops old new body bytes stable written sent past =
    stands_as new (record (content_of old) { sent = old.sent ++ body ∷ [] }) (content_of old ∷ old.past)
    (λ content before. MaySend body (plant_stops old) (stops_of content before)) bytes stable written sent past
    (received_behind (content_of old) old.past body)

pub unsent_stops : (old new : PlantMemory) (body : List ℕ) → new.bytes ≡ old.bytes → new.stable ≡ old.stable → new.written ≡ old.written
    → new.sent ≡ old.sent → new.past ≡ old.past → MaySend body (plant_stops old) (plant_stops new)
unfolding plant_stops
unsent_stops old new body bytes stable written sent past = stands_as new (content_of old) old.past
    (λ content before. MaySend body (plant_stops old) (stops_of content before)) bytes stable written sent past (unsent (plant_stops old) body)

-- of a disk whose bytes are stable, with no moment before
pub new_stops : (plant : PlantMemory) (disk : List ℕ) → plant.bytes ≡ disk → plant.stable ≡ disk → plant.written ≡ [] → plant.past ≡ []
    → IsDurable (Some disk) (plant_stops plant)
unfolding plant_stops
new_stops plant disk bytes stable written past = stands_as plant (record { bytes = disk; stable = disk; written = []; sent = plant.sent }) []
    (λ content before. IsDurable (Some disk) (stops_of content before)) bytes stable written refl past (stable_behind disk plant.sent)

-- of a disk with one range written since it was stable
pub left_torn : (plant : PlantMemory) (disk image : List ℕ) (at count : ℕ) → plant.stable ≡ disk → plant.written ≡ (at, count) ∷ [] → plant.sent ≡ []
    → Torn at count disk image → LeftNow (plant_stops plant) image []
unfolding plant_stops
left_torn plant disk image at count stable written sent torn =
    inl (inr (subst₂ (λ durable ranges. IsTorn durable ranges image) (sym stable) (sym written) (disk, refl, torn)), sym sent)
