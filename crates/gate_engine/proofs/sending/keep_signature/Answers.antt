use Rattle.std.proofs.Common.{arith, ap, length}
use Rattle.gate_entries.specs.declared.entry.Entry.{Entry}
use Rattle.gate_entries.specs.Spelling.{entry_bytes}
use Rattle.gate_engine.proofs.Sizes.{signed_size}
use Rattle.gate_engine.proofs.sending.keep_signature.Goals as goal

pub put_signed-requires-clause-room : goal.put_signed-requires-clause-room
put_signed-requires-clause-room g c =
    let size = signed_size c.args.signing.number c.args.signing.moment c.as_slice-2.result.now c.args.signing.order c.args.signature.now in
    omega (arith, size, ap length c.as_slice-2.ensures, c.requires.room.payload_room, c.requires.size.most)

pub commit-requires-clause-room : goal.commit-requires-clause-room
commit-requires-clause-room g c =
    let size = signed_size c.args.signing.number c.args.signing.moment c.args.signing.caller c.args.signing.order c.from_vec.result in
    let entry = ap (λ (e : Entry). length (entry_bytes e)) c.signed-entry.ensures.entry in
    omega (arith, size, entry, ap length c.fill.ensures, ap length c.from_vec.ensures, c.requires.may.room, c.requires.size.most)

pub commit-requires-clause-spare : goal.commit-requires-clause-spare
commit-requires-clause-spare g c =
    let size = signed_size c.args.signing.number c.args.signing.moment c.as_slice-2.result.now c.args.signing.order c.args.signature.now in
    omega (arith, size, ap length c.as_slice-2.ensures, ap length c.put_signed.ensures, ap length c.deref.ensures.value, c.requires.size.most, c.requires.spare)
