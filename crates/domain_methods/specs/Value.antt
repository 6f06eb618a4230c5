-- The random value of a challenge as text.
use Rattle.std.specs.Prelude.{ℕ, List, ◌∷◌, ◌++◌}
use Rattle.hex.specs.Hex.{encode_lower}
use Rattle.base64.specs.GeneralPurpose.{encode_of}
use Rattle.base64.specs.Engines.{url_safe_no_pad}
use Rattle.gate_base.specs.declared.seen.Method.{Method}
use Rattle.gate_base.specs.declared.seen.Method.TheVariants.{DnsChange, WebChange, AcmeHttp}
use Rattle.domain_methods.specs.declared.challenge.Challenge.{Challenge}

-- hexadecimal digits in lower case; for ACME base64url without padding, as a token has to be (RFC 8555, section 8.3)
abbrev pub text_by : Method → List ℕ → List ℕ
text_by DnsChange value = encode_lower value
text_by WebChange value = encode_lower value
text_by AcmeHttp value = encode_of url_safe_no_pad value

-- the one text of a challenge's random value
abbrev pub value_text : Challenge → List ℕ
value_text c = text_by c.method c.value.0

-- the key authorization (RFC 8555, section 8.1): the token, a full stop and the thumbprint of the account's key (RFC 7638)
abbrev pub key_authorization : Challenge → List ℕ
key_authorization c = value_text c ++ 46 ∷ c.thumb
