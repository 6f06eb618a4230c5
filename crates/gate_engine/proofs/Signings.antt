-- What is at hand when the signer is called.
use Rattle.std.proofs.Common.{◌≡◌, ◌⊎◌, ℕ, ◌+◌, ◌≤◌, List, [], ◌∷◌, ◌++◌, length, true, Option, Some, None, refl, sym, ap, subst, ◌∙◌, inl, inr, arith}
use Rattle.plant.specs.Causes.{Rose}
use Rattle.plant.specs.Plant.{SignerTold, PlantTold}
use Rattle.gate_entries.specs.declared.entry.Entry.{Entry}
use Rattle.gate_entries.specs.declared.reply.Reply.{Reply}
use Rattle.gate_entries.specs.Spelling.{IsEntry}
use Rattle.gate_machine.specs.History.{journal_place, entry_total, IsSignature, Follows, Legal}
use Rattle.gate_machine.specs.Sends.{is_send_for, order_in, body_in, signed_entry, certificate_bytes}
use Rattle.gate_machine.specs.Answer.{IsReadyToSend}
use Rattle.gate_entries.specs.declared.reply.Reply.TheVariants.{Issued, DiskFault}
use Rattle.gate_machine.specs.declared.answer.Answer.TheVariants.{Send}
use Rattle.gate_machine.specs.Move.{Held, Holds, Waits, SignerCall, Sent, Issues}
use Rattle.gate_machine.specs.Step.{GivesCall}
use Rattle.plant.specs.Stops.{Stops}
use Rattle.plant.specs.Joining.{Joins}
use Rattle.gate_engine.specs.Engine.{held_as, CarriesOut}
use Rattle.gate_engine.specs.Kept.{IsSentOf, MayBeSent, KeepsBetween, Keeps}
use Rattle.gate_engine.proofs.Kept.{between_on}
use Rattle.gate_engine.specs.declared.sending.Signing.{Signing}
use Rattle.gate_engine.specs.Signing.{signed_as, IsSigning, MayBeSigned, KeepsAs, UnsignedAs, SignedAs, SignsAs}

same_entry : (signing : Signing) (entry : Entry) (signature : List ℕ) → IsSigning signing entry → signed_as signing signature ≡ signed_entry entry signature
same_entry signing entry signature is = rw (is.number, is.moment, is.caller, is.order) refl

module _ (place : (history : List Entry) (entry : Entry) → journal_place (history ++ entry ∷ []) ≡ journal_place history + entry_total entry)
    (follows : (before : List Entry) (entry : Entry) (signature : List ℕ) → Legal before → Follows before entry → is_send_for (order_in entry.what) entry.what ≡ true
    → IsSignature signature → IsEntry (signed_entry entry signature) → Follows (before ++ entry ∷ []) (signed_entry entry signature)) where
  pub may_be_signed : (history : List Entry) (entry : Entry) (signing : Signing) → Legal history → IsReadyToSend history entry → IsSigning signing entry
      → (now : List Entry) → now ≡ history ++ entry ∷ [] → MayBeSigned now signing
  may_be_signed history entry signing legal ready is now more =
      subst (λ (h : List Entry). MayBeSigned h signing) (sym more) (record {
        follows = λ signature signed spelled.
            let same = same_entry signing entry signature is in
            subst (λ (e : Entry). Follows (history ++ entry ∷ []) e) (sym same)
            (follows history entry signature legal ready.follows ready.sends signed (subst IsEntry same spelled));
        caller = subst (λ (l : List ℕ). length l ≤ 64) (sym is.caller) ready.caller;
        room = omega (arith, place history entry, ready.room, ap length is.caller);
      })

-- ---- what is signed as an entry sends it

issues : (entry : Entry) (signing : Signing) (signature : List ℕ) (reply : Reply) → IsSigning signing entry
    → reply ≡ Issued signing.order signing.serial (certificate_bytes signing.body signature) → Issues entry signature reply
issues entry signing signature reply is told = record {
  serial = signing.serial;
  serial_is = is.serial;
  told = told ∙ rw (is.order, is.body) refl;
}

keeps : (history : List Entry) (entry : Entry) (signing : Signing) (signature : List ℕ) (reply : Reply) (new : Held) → IsSigning signing entry
    → KeepsAs signing (history ++ entry ∷ []) signature reply new
    → (Issues entry signature reply × Holds new ((history ++ entry ∷ []) ++ signed_entry entry signature ∷ []))
    ⊎ ((reply ≡ DiskFault) × Waits (history ++ entry ∷ []) (signed_entry entry signature) new)
keeps history entry signing signature reply new is kept = elim kept [
  | inl issued ↦ inl (
    issues entry signing signature reply is issued.0,
    subst (λ (e : Entry). Holds new ((history ++ entry ∷ []) ++ e ∷ [])) (same_entry signing entry signature is) issued.1,
  )
  | inr lost ↦ inr (lost.0, subst (λ (e : Entry). Waits (history ++ entry ∷ []) e new) (same_entry signing entry signature is) lost.1)
]

called_as : (signing : Signing) (entry : Entry) (call : Option SignerCall) (signature : Option (List ℕ)) → IsSigning signing entry
    → call ≡ Some (record { body = signing.body; signature = signature }) → call ≡ Some (record { body = body_in entry.what; signature = signature })
called_as signing entry call signature is called =
    subst (λ (b : List ℕ). call ≡ Some (record { body = b; signature = signature })) is.body called

signs_sent : (history : List Entry) (entry : Entry) (signing : Signing) (call : Option SignerCall) (reply : Reply) (new : Held) → IsSigning signing entry
    → UnsignedAs signing (history ++ entry ∷ []) call reply new ⊎ SignedAs signing (history ++ entry ∷ []) call reply new → Sent history entry call reply new
signs_sent history entry signing call reply new is signs = elim signs [
  | inl unsigned ↦ inr (inl (record {
    called = called_as signing entry call None is unsigned.called;
    fault = unsigned.fault;
    held = unsigned.held;
  }))
  | inr signed ↦ inr (inr (record {
    signature = signed.signature;
    called = called_as signing entry call (Some signed.signature) is signed.called;
    follows = subst (λ (e : Entry). Follows (history ++ entry ∷ []) e) (same_entry signing entry signed.signature is) signed.follows;
    commits = keeps history entry signing signed.signature reply new is signed.keeps;
  }))
]

-- the entry is durable, and its body was signed, or it wasn't
pub carries_signed : (history now : List Entry) (entry : Entry) (signing : Signing) (told mid told' : PlantTold) (first then last : Stops) (reply : Reply) (new : Held)
    → IsSigning signing entry
    → now ≡ history ++ entry ∷ [] → mid.signer ≡ told.signer → told.disk.faults ≤ mid.disk.faults → SignsAs signing now mid told' reply new → Joins first last
    → (IsSentOf history first → MayBeSent signing.body now then × IsSentOf now then) → KeepsBetween (IsSentOf history first) history (held_as now None) first then
    → Keeps (MayBeSent signing.body now then × IsSentOf now then) now mid told' then last new
    → (reply ≡ DiskFault → Rose mid.disk.faults told'.disk.faults)
    → CarriesOut (Send entry) history told told' first last reply new
carries_signed history now entry signing told mid told' first then last reply new is more same later signs joins carries one two rose_on =
    let signed : SignsAs signing (history ++ entry ∷ []) mid told' reply new = subst (λ (h : List Entry). SignsAs signing h mid told' reply new) more signs in
    record {
      call = signed.call;
      gives = subst (λ (s : SignerTold). GivesCall s told'.signer signed.call) same signed.gives;
      does = inr (signs_sent history entry signing signed.call reply new is signed.signs);
      leaves = record {
        keeps = record {
          stands = two.stands;
          recorded = λ given. two.recorded (carries given);
          since = between_on (IsSentOf history first) (MayBeSent signing.body now then × IsSentOf now then) carries history now new first then last joins one two.since;
          later = omega (arith, later, two.later);
        };
        cause = λ is. let rose = rose_on is in omega (arith, later, rose);
      };
    }

-- the disk failed before the signer was called
pub carries_unsent : (history : List Entry) (entry : Entry) (told told' : PlantTold) (stops stops' : Stops) (new : Held) → told'.signer ≡ told.signer → Waits history entry new
    → Keeps (IsSentOf history stops) history told told' stops stops' new → Rose told.disk.faults told'.disk.faults
    → CarriesOut (Send entry) history told told' stops stops' DiskFault new
carries_unsent history entry told told' stops stops' new same waits keeps rose = record {
  call = None;
  gives = same;
  does = inr (inl (record { uncalled = refl; fault = refl; waits = waits }));
  leaves = record { keeps = keeps; cause = λ is. rose };
}
