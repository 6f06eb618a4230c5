-- Addresses of websites: how they are read, which a redirect may lead to, and which a challenge demands.
use Rattle.std.specs.Prelude.{ℕ, Bool, false, ◌&&◌, ◌||◌, ◌==◌, nat_eq, nat_lt, List, length, ◌++◌, codes, bytes_eq, Option, Some, None, is_none, if◌then◌else◌}
use Rattle.std.specs.List.{starts_with}
use Rattle.std.specs.Option.{option_or}
use Rattle.std.specs.Result.{result_ok}
use Rattle.std.specs.Str.{is_utf8}
use Rattle.std.specs.Net.Addr.{ipv4_octets, ipv6_octets}
use Rattle.url.specs.declared.host.Host.{Host}
use Rattle.url.specs.declared.host.Host.TheVariants.{Domain, Ipv4, Ipv6}
use Rattle.url.specs.Parser.{parse_url}
use Rattle.url.specs.Parts.{Parts, nonempty_host}
use Rattle.url.specs.Scheme.{default_port}
use Rattle.gate_base.specs.declared.name.Address.TheVariants.{V4, V6}
use Rattle.gate_base.specs.declared.name.Target.{Target}
use Rattle.gate_base.specs.declared.name.Target.TheVariants.{Dns, Ip}
use Rattle.gate_base.specs.declared.seen.Method.{Method}
use Rattle.gate_base.specs.declared.seen.Method.TheVariants.{DnsChange, WebChange, AcmeHttp}
use Rattle.names_core.specs.Target.{name_text}
use Rattle.domain_methods.specs.declared.challenge.Challenge.{Challenge}
use Rattle.domain_methods.specs.Value.{value_text}

-- the parts of an absolute address, as the URL Standard reads it from text; bytes that aren't UTF-8 are no text
abbrev pub address_of : List ℕ → Option Parts
address_of bytes = if is_utf8 bytes then result_ok (parse_url None bytes) else None

-- the address is read, and passes the test
abbrev pub is_read_as : (Parts → Bool) → Option Parts → Bool
is_read_as test None = false
is_read_as test (Some url) = test url

-- the port that a connection uses: the one that is written, or the scheme's own
abbrev pub port_of : Parts → Option ℕ
port_of url = option_or url.port (default_port url.scheme)

abbrev pub is_http : Parts → Bool
is_http url = bytes_eq url.scheme (codes "http")

abbrev pub is_https : Parts → Bool
is_https url = bytes_eq url.scheme (codes "https")

abbrev pub is_port : ℕ → Option ℕ → Bool
is_port wanted None = false
is_port wanted (Some port) = port == wanted

-- the Authorized Ports of http and https (BR 2.1.5, section 1.6.1, "Authorized Ports")
abbrev pub has_authorized_port : Parts → Bool
has_authorized_port url = is_port 80 (port_of url) || is_port 443 (port_of url)

-- what a website may be fetched from, and redirect to (BR 2.1.5, sections 3.2.2.4.18 and 3.2.2.4.19)
abbrev pub is_web_address : Parts → Bool
is_web_address url = (is_http url || is_https url) && has_authorized_port url

-- the host is the target: the name's text, or the address's octets
abbrev pub is_host_of : Target → Option (Host (List ℕ)) → Bool
is_host_of (Dns name) None = false
is_host_of (Dns name) (Some (Domain domain)) = bytes_eq domain (name_text name)
is_host_of (Dns name) (Some (Ipv4 address)) = false
is_host_of (Dns name) (Some (Ipv6 address)) = false
is_host_of (Ip (V4 octets)) None = false
is_host_of (Ip (V4 octets)) (Some (Domain domain)) = false
is_host_of (Ip (V4 octets)) (Some (Ipv4 address)) = bytes_eq (ipv4_octets address) octets
is_host_of (Ip (V4 octets)) (Some (Ipv6 address)) = false
is_host_of (Ip (V6 octets)) None = false
is_host_of (Ip (V6 octets)) (Some (Domain domain)) = false
is_host_of (Ip (V6 octets)) (Some (Ipv4 address)) = false
is_host_of (Ip (V6 octets)) (Some (Ipv6 address)) = bytes_eq (ipv6_octets address) octets

-- the folder of agreed-upon changes (BR 2.1.5, section 3.2.2.4.18)
abbrev pub validation_folder : List ℕ
validation_folder = codes "/.well-known/pki-validation/"

-- the folder of ACME's tokens (RFC 8555, section 8.3)
abbrev pub acme_folder : List ℕ
acme_folder = codes "/.well-known/acme-challenge/"

-- a file of the folder, over http or https (BR 2.1.5, section 3.2.2.4.18)
abbrev pub is_validation_file : Parts → Bool
is_validation_file url =
    is_web_address url && starts_with nat_eq url.path validation_folder
    && nat_lt (length validation_folder) (length url.path)

-- the file that is named by the token, over http on its own port, and with no query (RFC 8555, section 8.3; RFC 8738)
abbrev pub is_token_file : List ℕ → Parts → Bool
is_token_file token url =
    is_http url && is_port 80 (port_of url) && bytes_eq url.path (acme_folder ++ token) && is_none url.query

-- the file that a method looks at, where this is the token; changes in DNS are seen at no address
abbrev pub is_file_of : Method → List ℕ → Parts → Bool
is_file_of DnsChange token url = false
is_file_of WebChange token url = is_validation_file url
is_file_of AcmeHttp token url = is_token_file token url

-- the first address that a challenge demands: of such a file on the target's host, with no fragment
abbrev pub is_demanded : Challenge → Parts → Bool
is_demanded c url =
    is_host_of c.target (nonempty_host url) && is_none url.fragment && is_file_of c.method (value_text c) url
