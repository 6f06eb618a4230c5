-- What is at hand when the signer is called.
use Rattle.std.specs.Prelude.{◌≡◌, ℕ, ◌+◌, ◌<◌, ◌≤◌, ◌⊎◌, List, [], ◌∷◌, ◌++◌, length, Option, Some, None, vec_capacity}
use Rattle.gate_entries.specs.declared.entry.Entry.{Entry}
use Rattle.gate_entries.specs.declared.entry.What.TheVariants as whats
use Rattle.gate_entries.specs.declared.reply.Reply.{Reply}
use Rattle.gate_entries.specs.declared.reply.Reply.TheVariants as replies
use Rattle.gate_entries.specs.Command.{entry_with}
use Rattle.gate_entries.specs.Spelling.{IsEntry}
use Rattle.journal_core.specs.Journal.{HasRoom, group_total}
use Rattle.gate_machine.specs.Answer.{most_signed}
use Rattle.gate_machine.specs.History.{IsSignature, journal_place, Follows}
use Rattle.gate_machine.specs.Sends.{order_in, body_in, serial_in, certificate_bytes}
use Rattle.plant.specs.Plant.{PlantTold}
use Rattle.gate_machine.specs.Move.{Held, Holds, Waits, SignerCall}
use Rattle.gate_machine.specs.Step.{GivesCall}
use Rattle.gate_engine.specs.declared.sending.Signing.{Signing}

-- the entry of a signature
abbrev pub signed_as : Signing → List ℕ → Entry
signed_as signing signature = entry_with signing.number signing.moment signing.caller (whats.Signed signing.order signature)

-- it is what an entry sends
pub record IsSigning (signing : Signing) (entry : Entry) : Type 0 where
  pub order : signing.order ≡ order_in entry.what
  pub number : signing.number ≡ entry.number + 1
  pub moment : signing.moment ≡ entry.moment
  pub caller : signing.caller ≡ entry.caller
  pub body : signing.body ≡ body_in entry.what
  pub serial : signing.serial.0 ≡ serial_in (body_in entry.what)

-- there is room for the longest signature, its entry's payload, and its certificate
pub record HasRoomToSign (signing : Signing) : Type 0 where
  pub body : length signing.body < 65536
  pub some : 1 ≤ length signing.body
  pub certificate : signing.certificate.items ≡ []
  pub certificate_room : length signing.body + 1100 ≤ vec_capacity signing.certificate
  pub payload : signing.payload.items ≡ []
  pub payload_room : most_signed signing.caller ≤ vec_capacity signing.payload
  pub signature : signing.signature.items ≡ []
  pub signature_room : 1024 ≤ vec_capacity signing.signature

-- a signature may come behind the history, and its entry fits
pub record MayBeSigned (history : List Entry) (signing : Signing) : Type 0 where
  pub follows : (signature : List ℕ) → IsSignature signature → IsEntry (signed_as signing signature) → Follows history (signed_as signing signature)
  pub caller : length signing.caller ≤ 64
  pub room : HasRoom (journal_place history) (group_total (most_signed signing.caller))

-- the signature's entry is durable and the certificate returned, or the disk failed
abbrev pub KeepsAs : Signing → List Entry → List ℕ → Reply → Held → Type 0
KeepsAs signing history signature reply new =
    ((reply ≡ replies.Issued signing.order signing.serial (certificate_bytes signing.body signature)) × Holds new (history ++ signed_as signing signature ∷ []))
    ⊎ ((reply ≡ replies.DiskFault) × Waits history (signed_as signing signature) new)

-- the signer gave no signature
pub record UnsignedAs (signing : Signing) (history : List Entry) (call : Option SignerCall) (reply : Reply) (new : Held) : Type 0 where
  pub called : call ≡ Some (record { body = signing.body; signature = None })
  pub fault : reply ≡ replies.SignerFault
  pub held : Holds new history

pub record SignedAs (signing : Signing) (history : List Entry) (call : Option SignerCall) (reply : Reply) (new : Held) : Type 0 where
  pub signature : List ℕ
  pub called : call ≡ Some (record { body = signing.body; signature = Some signature })
  pub follows : Follows history (signed_as signing signature)
  pub keeps : KeepsAs signing history signature reply new

-- the signer was called, and gave a signature or none
pub record SignsAs (signing : Signing) (history : List Entry) (told told' : PlantTold) (reply : Reply) (new : Held) : Type 0 where
  pub call : Option SignerCall
  pub gives : GivesCall told.signer told'.signer call
  pub signs : UnsignedAs signing history call reply new ⊎ SignedAs signing history call reply new
