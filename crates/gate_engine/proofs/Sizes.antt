-- How long what is signed is.
use Rattle.std.proofs.Common.{◌≡◌, ℕ, ◌+◌, ◌≤◌, List, [], ◌∷◌, ◌++◌, length, arith, length-append}
use Rattle.std.specs.Int.{w16, w64, to_be_bytes}
use Rattle.gate_base.specs.declared.moment.Moment.{Moment}
use Rattle.gate_base.specs.declared.profile.SigAlg.TheVariants.{EcdsaSha256}
use Rattle.der_text.specs.Tree.{length_octets, head_length}
use Rattle.tbs_build.specs.Certificate.{algorithm_bytes, bit_string}
use Rattle.gate_entries.specs.declared.entry.What.TheVariants as whats
use Rattle.gate_entries.specs.Command.{entry_with}
use Rattle.gate_machine.specs.Sends.{certificate_bytes}
use Rattle.gate_entries.specs.Field.{counted}
use Rattle.gate_entries.specs.Spelling.{entry_bytes}

-- how long the entry of a signature is
pub signed_size : (number : ℕ) (moment : Moment) (caller : List ℕ) (order : ℕ) (signature : List ℕ)
    → length (entry_bytes (entry_with number moment caller (whats.Signed order signature))) ≡ 29 + length caller + length signature
unfolding entry_bytes
signed_size number moment caller order signature =
    let e1 = length-append ((7 ∷ []) ++ to_be_bytes w64 number ++ to_be_bytes w64 moment.0 ++ counted w16 caller) (to_be_bytes w64 order ++ counted w16 signature) in
    let e2 = length-append (to_be_bytes w16 (length caller)) caller in
    let e3 = length-append (to_be_bytes w16 (length signature)) signature in
    omega (arith, e1, e2, e3)

-- what stands around a body in its certificate
pub certificate_size : ((content : List ℕ) → head_length content ≤ 6) → (body signature : List ℕ) → length signature ≤ 1024
    → length (certificate_bytes body signature) ≤ length body + 1100
certificate_size heads body signature most =
    let bits = bit_string signature in
    let content = body ++ algorithm_bytes EcdsaSha256 ++ bits in
    let e1 = length-append (length_octets (length content)) content in
    let e2 = length-append (body ++ algorithm_bytes EcdsaSha256) bits in
    let e3 = length-append body (algorithm_bytes EcdsaSha256) in
    let e4 = length-append (length_octets (length (0 ∷ signature))) (0 ∷ signature) in
    omega (arith, heads content, heads (0 ∷ signature), e1, e2, e3, e4, most)
