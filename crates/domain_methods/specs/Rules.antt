-- The rules by which what a perspective saw confirms a challenge, after the Baseline Requirements ("BR", version 2.1.5), sections
-- 3.2.2.4.7 (DNS change), 3.2.2.4.18 (agreed-upon change to a website) and 3.2.2.4.19 (the same by ACME). Those on
-- websites serve for addresses too (section 3.2.2.5; RFC 8738).
use Rattle.std.specs.Prelude.{◌≡◌, ℕ, ◌+◌, ◌<◌, Bool, true, false, IsTrue, IsFalse, not, ◌&&◌, ◌||◌, ◌==◌, nat_lt, nat_le, nat_eq, List, [], ◌-◌, ◌∷◌, ◌++◌, length, take, drop, bytes_eq, Option, Some, None}
use Rattle.std.specs.Char.{is_ascii_alphanumeric, is_ascii_whitespace}
use Rattle.std.specs.Int.{is_in_range}
use Rattle.std.specs.List.{list_any, list_all, find, starts_with, before_first, prefix_len, suffix_len}
use Rattle.std.specs.Str.{str_eq_ignore_ascii_case}
use Rattle.gate_base.specs.declared.seen.DnsSeen.{DnsSeen}
use Rattle.gate_base.specs.declared.seen.Hop.{Hop}
use Rattle.gate_base.specs.declared.seen.Method.{Method}
use Rattle.gate_base.specs.declared.seen.Method.TheVariants.{DnsChange, WebChange, AcmeHttp}
use Rattle.gate_base.specs.declared.seen.Seen.{Seen}
use Rattle.gate_base.specs.declared.seen.Seen.TheVariants.{Dns, Web}
use Rattle.gate_base.specs.declared.seen.WebSeen.{WebSeen}
use Rattle.names_core.specs.Name.{is_full_stop}
use Rattle.domain_methods.specs.declared.challenge.Challenge.{Challenge}
use Rattle.domain_methods.specs.declared.verdict.Verdict.{Verdict}
use Rattle.domain_methods.specs.declared.verdict.Verdict.TheVariants.{Good, Broken}
use Rattle.domain_methods.specs.Address.{address_of, is_read_as, is_web_address, is_demanded}
use Rattle.domain_methods.specs.Value.{value_text, key_authorization}

-- ---- all methods

abbrev pub is_by_dns : Method → Bool
is_by_dns DnsChange = true
is_by_dns WebChange = false
is_by_dns AcmeHttp = false

abbrev pub is_of_dns : Seen → Bool
is_of_dns (Dns seen) = true
is_of_dns (Web seen) = false

-- M01: what was seen is not what the method looks at: records for a change in DNS, a fetched file for the two others
-- (BR 2.1.5, sections 3.2.2.4.7, 3.2.2.4.18 and 3.2.2.4.19)
abbrev pub is_of_another_kind : Method → Seen → Bool
is_of_another_kind DnsChange seen = not (is_of_dns seen)
is_of_another_kind WebChange seen = is_of_dns seen
is_of_another_kind AcmeHttp seen = is_of_dns seen

-- a random value serves for 30 days (BR 2.1.5, sections 3.2.2.4.7, 3.2.2.4.18 and 3.2.2.4.19)
abbrev pub value_seconds : ℕ
value_seconds = 2592000

-- M02: it was seen before the value was made, or more than 30 days after it
abbrev pub is_out_of_time : ℕ → ℕ → Bool
is_out_of_time made at = nat_lt at made || nat_lt (made + value_seconds) at

-- ---- changes in DNS (BR 2.1.5, section 3.2.2.4.7)

abbrev pub is_prefix_byte : ℕ → Bool
is_prefix_byte byte = is_ascii_alphanumeric byte || byte == 45 || byte == 95

-- nothing, or a label that begins with an underscore
abbrev pub is_prefix : List ℕ → Bool
is_prefix [] = true
is_prefix (byte ∷ bytes) = byte == 95 && nat_le (length bytes) 62 && list_all is_prefix_byte bytes

-- M03: the records are neither at the name itself nor at it behind such a label (BR 2.1.5, section 3.2.2.4.7)
abbrev pub has_bad_prefix : DnsSeen → Bool
has_bad_prefix seen = not (is_prefix seen.prefix)

-- the first label of a CNAME's target is the text; letters compare without regard to case (RFC 4343)
abbrev pub points_to : List ℕ → List ℕ → Bool
points_to text cname = str_eq_ignore_ascii_case (before_first is_full_stop cname) text

-- M04: no TXT record is the random value, and no CNAME points to it (BR 2.1.5, section 3.2.2.4.7)
abbrev pub lacks_record : Challenge → DnsSeen → Bool
lacks_record c seen =
    not (list_any (bytes_eq (value_text c)) seen.txts || list_any (points_to (value_text c)) seen.cnames)

-- ---- files of websites (BR 2.1.5, sections 3.2.2.4.18 and 3.2.2.4.19)

abbrev pub is_agreed_change : Method → Bool
is_agreed_change DnsChange = false
is_agreed_change WebChange = true
is_agreed_change AcmeHttp = false

abbrev pub is_acme : Method → Bool
is_acme DnsChange = false
is_acme WebChange = false
is_acme AcmeHttp = true

-- M05: what was fetched first isn't the file that the challenge demands (BR 2.1.5, section 3.2.2.4.18; RFC 8555, section 8.3)
abbrev pub begins_elsewhere : Challenge → WebSeen → Bool
begins_elsewhere c seen = not (is_read_as (is_demanded c) (address_of seen.url))

-- the text stands somewhere in the bytes
abbrev pub has_text : List ℕ → List ℕ → Bool
has_text text [] = length text == 0
has_text text (byte ∷ bytes) = starts_with nat_eq (byte ∷ bytes) text || has_text text bytes

-- M06: the required content is shown by the request itself (BR 2.1.5, section 3.2.2.4.18)
abbrev pub asks_with_value : Challenge → WebSeen → Bool
asks_with_value c seen = is_agreed_change c.method && has_text (value_text c) seen.url

abbrev pub is_redirect : ℕ → Bool
is_redirect status = status == 301 || status == 302 || status == 307 || status == 308

-- M07: a redirect has another status than 301, 302, 307 and 308 (BR 2.1.5, sections 3.2.2.4.18 and 3.2.2.4.19)
abbrev pub has_bad_redirect : WebSeen → Bool
has_bad_redirect seen = list_any (λ hop. not (is_redirect hop.status)) seen.hops

-- where a redirect leads is read as an address of http or https on an Authorized Port
abbrev pub leads_on : Hop → Bool
leads_on hop = is_read_as is_web_address (address_of hop.location)

-- M08: a redirect leads elsewhere (BR 2.1.5, sections 3.2.2.4.18 and 3.2.2.4.19)
abbrev pub leaves_web : WebSeen → Bool
leaves_web seen = list_any (λ hop. not (leads_on hop)) seen.hops

-- M09: more than ten redirects, which is this project's own limit
abbrev pub has_many_hops : WebSeen → Bool
has_many_hops seen = nat_lt 10 (length seen.hops)

-- M10: the final status isn't one of success (RFC 9110, section 15.3; BR 2.1.5, sections 3.2.2.4.18 and 3.2.2.4.19)
abbrev pub has_bad_status : WebSeen → Bool
has_bad_status seen = not (is_in_range 200 299 seen.status)

-- the bytes without the ASCII white space at their end
abbrev pub without_trail : List ℕ → List ℕ
without_trail bytes = take (length bytes - suffix_len is_ascii_whitespace bytes) bytes

-- and without that at both ends
abbrev pub trimmed : List ℕ → List ℕ
trimmed bytes = without_trail (drop (prefix_len is_ascii_whitespace bytes) bytes)

-- M11: the file isn't the random value, apart from white space around it (BR 2.1.5, section 3.2.2.4.18)
abbrev pub lacks_value : Challenge → WebSeen → Bool
lacks_value c seen = is_agreed_change c.method && not (bytes_eq (trimmed seen.body) (value_text c))

-- M12: the file isn't the key authorization, apart from white space at its end (RFC 8555, section 8.3)
abbrev pub lacks_authorization : Challenge → WebSeen → Bool
lacks_authorization c seen = is_acme c.method && not (bytes_eq (without_trail seen.body) (key_authorization c))

-- ---- the verdict

pub data Rule : Type 0 where
  M01 : Rule
  M02 : Rule
  M03 : Rule
  M04 : Rule
  M05 : Rule
  M06 : Rule
  M07 : Rule
  M08 : Rule
  M09 : Rule
  M10 : Rule
  M11 : Rule
  M12 : Rule

-- a rule on records of DNS is kept by a website, and the other way round
abbrev pub in_dns : (DnsSeen → Bool) → Seen → Bool
in_dns test (Dns seen) = test seen
in_dns test (Web seen) = false

abbrev pub in_web : (WebSeen → Bool) → Seen → Bool
in_web test (Dns seen) = false
in_web test (Web seen) = test seen

-- whether what was seen at this moment breaks the rule
abbrev pub breaks : Rule → Challenge → Seen → ℕ → Bool
breaks M01 c seen at = is_of_another_kind c.method seen
breaks M02 c seen at = is_out_of_time c.made.0 at
breaks M03 c seen at = in_dns has_bad_prefix seen
breaks M04 c seen at = in_dns (lacks_record c) seen
breaks M05 c seen at = in_web (begins_elsewhere c) seen
breaks M06 c seen at = in_web (asks_with_value c) seen
breaks M07 c seen at = in_web has_bad_redirect seen
breaks M08 c seen at = in_web leaves_web seen
breaks M09 c seen at = in_web has_many_hops seen
breaks M10 c seen at = in_web has_bad_status seen
breaks M11 c seen at = in_web (lacks_value c) seen
breaks M12 c seen at = in_web (lacks_authorization c) seen

abbrev pub number_of : Rule → ℕ
number_of M01 = 1
number_of M02 = 2
number_of M03 = 3
number_of M04 = 4
number_of M05 = 5
number_of M06 = 6
number_of M07 = 7
number_of M08 = 8
number_of M09 = 9
number_of M10 = 10
number_of M11 = 11
number_of M12 = 12

-- what was seen confirms the challenge: it breaks no rule
abbrev pub Confirms : Challenge → Seen → ℕ → Type 0
Confirms c seen at = (rule : Rule) → IsFalse (breaks rule c seen at)

-- it breaks the rule, and none with a lesser number
pub record IsFirstBroken (c : Challenge) (seen : Seen) (at : ℕ) (rule : Rule) : Type 0 where
  pub broken : IsTrue (breaks rule c seen at)
  pub least : (other : Rule) → number_of other < number_of rule → IsFalse (breaks other c seen at)

-- what a verdict says
abbrev pub IsVerdict : Challenge → Seen → ℕ → Verdict → Type 0
IsVerdict c seen at Good = Confirms c seen at
IsVerdict c seen at (Broken number) = (rule : Rule) × (number ≡ number_of rule) × IsFirstBroken c seen at rule

-- the rules by their numbers
abbrev pub rules : List Rule
rules = M01 ∷ M02 ∷ M03 ∷ M04 ∷ M05 ∷ M06 ∷ M07 ∷ M08 ∷ M09 ∷ M10 ∷ M11 ∷ M12 ∷ []

abbrev pub told : Option Rule → Verdict
told None = Good
told (Some rule) = Broken (number_of rule)

-- the verdict by some of the rules: the first that is broken
abbrev pub verdict_by : List Rule → Challenge → Seen → ℕ → Verdict
verdict_by some c seen at = told (find (λ rule. breaks rule c seen at) some)

abbrev pub verdict_of : Challenge → Seen → ℕ → Verdict
verdict_of c seen at = verdict_by rules c seen at

-- ---- in parts

-- the rules on records of DNS
abbrev pub record_rules : List Rule
record_rules = M03 ∷ M04 ∷ []

-- the rules on the way to a file: its first address, the redirects, the final status
abbrev pub way_rules : List Rule
way_rules = M05 ∷ M06 ∷ M07 ∷ M08 ∷ M09 ∷ M10 ∷ []

-- the rules on what the file holds
abbrev pub content_rules : List Rule
content_rules = M11 ∷ M12 ∷ []

-- the rules on websites
abbrev pub website_rules : List Rule
website_rules = way_rules ++ content_rules
