-- Bytes that are no whole reply: none stands at their front, or some stand behind it.
use Rattle.std.proofs.Common.{◌≡◌, ℕ, ◌<◌, List, [], ◌++◌, length, take, drop, Option, None, Some, IfSome, ap, sym, ◌∙◌, arith, append-nil}
use Rattle.std.specs.Int.{w16, to_be_bytes, from_be_bytes}
use Rattle.std.specs.Io.KnownBytes.{Consumes, Keeps}
use Rattle.std.proofs.KnownBytes.{Consumes-kept}
use Rattle.std.proofs.lemmas.List.{length-append}
use Rattle.std.proofs.lemmas.Nat.{from_be_bytes-to_be_bytes_2}
use Rattle.plant.specs.Loopback.{reply_of, IsSignatureSize, HasNoReply, IsNoReply}

pub none_in_front : (left : Option (List ℕ)) → IfSome left HasNoReply → IfSome left IsNoReply
none_in_front None none = tt
none_in_front (Some bytes) none = λ signature size is. none signature [] size (is ∙ sym (append-nil (reply_of signature)))

-- one reply is no front of another
pub one_reply : (signature other rest : List ℕ) → IsSignatureSize (length signature) → IsSignatureSize (length other)
    → reply_of signature ++ rest ≡ reply_of other → length rest ≡ 0
one_reply signature other rest size other_size both =
    let heads : to_be_bytes w16 (length signature) ≡ to_be_bytes w16 (length other) = ap (take 2) both in
    let same : length signature ≡ length other = sym (from_be_bytes-to_be_bytes_2 (length signature) (omega (arith, size.1)))
    ∙ ap (from_be_bytes w16) heads ∙ from_be_bytes-to_be_bytes_2 (length other) (omega (arith, other_size.1)) in
    let tails : signature ++ rest ≡ other = ap (drop 2) both in
    omega (arith, ap length tails, same, length-append signature rest)

pub bytes_behind : (left mid : Option (List ℕ)) (signature : List ℕ) → IsSignatureSize (length signature)
    → Consumes left mid (reply_of signature) → IfSome mid (λ rest. 0 < length rest) → IfSome left IsNoReply
bytes_behind None mid signature size taken more = tt
bytes_behind (Some bytes) None signature size taken more = absurd taken
bytes_behind (Some bytes) (Some rest) signature size taken more = λ other other_size is.
    let none : length rest ≡ 0 = one_reply signature other rest size other_size (sym taken ∙ is) in
    omega (arith, none, more)

pub none_taken : (before now : Option (List ℕ)) → Consumes before now [] → Keeps before now
none_taken None now none = tt
none_taken (Some bytes) None none = none
none_taken (Some bytes) (Some more) none = sym none

pub nothing_more : (before mid now : Option (List ℕ)) (bytes : List ℕ) → Consumes before mid bytes → Keeps mid now → Consumes before now bytes
nothing_more before mid now bytes taken kept = Consumes-kept before mid now bytes taken kept
