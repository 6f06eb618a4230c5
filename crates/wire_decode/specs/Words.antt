-- What the texts of a body stand for.
use Rattle.std.specs.Prelude.{ℕ, List, codes, Ok, Err, if◌then◌else◌}
use Rattle.std.specs.Str.{bytes_eq, is_utf8}
use Rattle.base64.specs.GeneralPurpose.{decode_of}
use Rattle.base64.specs.Engines.{standard}
use Rattle.serde_json.specs.Data.{Data}
use Rattle.serde_json.specs.Read.{read}
use Rattle.gate_base.specs.declared.name.Target.{Target}
use Rattle.gate_base.specs.declared.seen.Method.{Method}
use Rattle.gate_base.specs.declared.seen.Method.TheVariants.{DnsChange, WebChange, AcmeHttp}
use Rattle.names_core.specs.Target.{target_read}
use Rattle.wire_decode.specs.declared.rule.Rule.TheVariants.{W01, W03, W04, W05}
use Rattle.wire_decode.specs.Judgement.{Judgement, ◌>>=◌, some_or, ok_or}
use Rattle.wire_decode.specs.Members.{text_of, text_at, member_of}

-- a JSON text is UTF-8 (RFC 8259, section 8.1)
unfoldable pub json_of : List ℕ → Judgement Data
json_of bytes = if is_utf8 bytes then some_or W01 (read bytes) else Err W01

-- standard base64 with padding, and no bits left over (RFC 4648, section 4)
unfoldable pub base64_of : List ℕ → Judgement (List ℕ)
base64_of text = ok_or W04 (decode_of standard text)

-- a name or an address
unfoldable pub target_of : List ℕ → Judgement Target
target_of text = ok_or W05 (target_read text)

abbrev pub method_of : List ℕ → Judgement Method
method_of text =
    if bytes_eq text (codes "dns") then Ok DnsChange else
    if bytes_eq text (codes "web") then Ok WebChange else
    if bytes_eq text (codes "acme") then Ok AcmeHttp else Err W03

unfoldable pub base64_at : List ℕ → Data → Judgement (List ℕ)
base64_at name d = text_at name d >>= base64_of

abbrev pub target_in : Data → Judgement Target
target_in d = text_of d >>= target_of

unfoldable pub target_at : List ℕ → Data → Judgement Target
target_at name d = member_of name d >>= target_in

unfoldable pub method_at : List ℕ → Data → Judgement Method
method_at name d = text_at name d >>= method_of
