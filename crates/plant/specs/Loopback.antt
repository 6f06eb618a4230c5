-- How a body goes out to a signing device, and how its signature comes back.
use Rattle.std.specs.Prelude.{◌≡◌, ℕ, ◌≤◌, List, ◌++◌, length}
use Rattle.std.specs.Int.{w16, w32, to_be_bytes}

-- four bytes of length, high byte first, and the body
abbrev pub request_of : List ℕ → List ℕ
request_of body = to_be_bytes w32 (length body) ++ body

-- two bytes of length, high byte first, and the signature
abbrev pub reply_of : List ℕ → List ℕ
reply_of signature = to_be_bytes w16 (length signature) ++ signature

-- a signature has from 1 to 1,024 bytes
abbrev pub IsSignatureSize : ℕ → Type 0
IsSignatureSize count = (1 ≤ count) × (count ≤ 1024)

-- no whole reply of a signature stands at the front of the bytes
abbrev pub HasNoReply : List ℕ → Type 0
HasNoReply bytes = (signature rest : List ℕ) → IsSignatureSize (length signature) → ¬ (bytes ≡ reply_of signature ++ rest)

-- the bytes are no reply of a signature, whole and with nothing behind it
abbrev pub IsNoReply : List ℕ → Type 0
IsNoReply bytes = (signature : List ℕ) → IsSignatureSize (length signature) → ¬ (bytes ≡ reply_of signature)
