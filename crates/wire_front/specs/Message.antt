-- The two forms of message, as the bytes of an HTTP/1.1 request of the account `acme` (RFC 9112, section 2.1):
-- an order, with a JSON body, and the finalizing of an order.
use Rattle.std.specs.Prelude.{◌≡◌, ◌≢◌, ℕ, ◌≤◌, List, [], ◌∷◌, ◌++◌, length, codes, Bool, ◌&&◌, ◌||◌, nat_le, IsTrue, false}
use Rattle.std.specs.List.{flat_map, list_all, AllByRecursion}
use Rattle.std.specs.Fmt.{decimal}
use Rattle.std.specs.Str.Parse.{digits_value}
use Rattle.base64.specs.GeneralPurpose.{encode_of, IsBytes}
use Rattle.base64.specs.Engines.{standard}
use Rattle.gate_base.specs.declared.name.Target.{Target}
use Rattle.gate_base.specs.declared.name.Target.TheVariants.{Dns, Ip}
use Rattle.names_core.specs.Target.{name_text}
use Rattle.gate_entries.specs.declared.command.Command.{Command}
use Rattle.gate_entries.specs.declared.command.Command.TheVariants.{Order, Challenge, Observe, ObserveCaa, Finalize, Block}
use Rattle.gate_entries.specs.Command.{IsCommand}
use Rattle.gate_entries.specs.Target.{IsTarget}
use Rattle.wire_front.specs.declared.message.Found.{Found}
use Rattle.wire_front.specs.declared.message.Found.TheVariants as found

-- a lower-case letter; a digit; one of both
abbrev pub is_letter : ℕ → Bool
is_letter byte = nat_le 97 byte && nat_le byte 122

abbrev pub is_digit : ℕ → Bool
is_digit byte = nat_le 48 byte && nat_le byte 57

abbrev pub is_plain_byte : ℕ → Bool
is_plain_byte byte = is_letter byte || is_digit byte

-- the text of a name, with `*.` in front where it is a wildcard; an address has none
abbrev pub domain_text : Target → List ℕ
domain_text (Dns name) = name_text name
domain_text (Ip address) = []

abbrev pub quoted : List ℕ → List ℕ
quoted text = 34 ∷ text ++ 34 ∷ []

-- names in quotes, with a comma between two
abbrev pub names_text : List Target → List ℕ
names_text [] = []
names_text (target ∷ targets) = quoted (domain_text target) ++ flat_map (λ next. 44 ∷ quoted (domain_text next)) targets

-- the body that says an order; another command has none
unfoldable pub body_of : Command → List ℕ
body_of (Order key targets days common request) =
    codes "{\"common\":false,\"days\":" ++ decimal days ++ codes ",\"key\":\"" ++ key ++ codes "\",\"names\":[" ++ names_text targets
    ++ codes "],\"request\":\"" ++ encode_of standard request ++ codes "\"}"
body_of command = []

-- a body behind its head
abbrev pub framed : List ℕ → List ℕ
framed body =
    codes "POST /orders HTTP/1.1\r\nhost: gate\r\nx-gate-key: acme-token\r\ncontent-length: " ++ decimal (length body) ++ codes "\r\n\r\n" ++ body

-- the message that finalizes an order, with these digits as its number
abbrev pub finalize_text : List ℕ → List ℕ
finalize_text digits =
    codes "POST /orders/" ++ digits ++ codes "/finalize HTTP/1.1\r\nhost: gate\r\nx-gate-key: acme-token\r\n\r\n"

-- the last label begins with a letter
abbrev pub last_begins_with_letter : List (List ℕ) → Bool
last_begins_with_letter [] = false
last_begins_with_letter ([] ∷ []) = false
last_begins_with_letter ((byte ∷ bytes) ∷ []) = is_letter byte
last_begins_with_letter (label ∷ next ∷ labels) = last_begins_with_letter (next ∷ labels)

-- the labels have lower-case letters and digits alone, and the last begins with a letter
abbrev pub are_domain_labels : List (List ℕ) → Bool
are_domain_labels labels = list_all (list_all is_plain_byte) labels && last_begins_with_letter labels

-- a name that an entry may keep, maybe a wildcard, with such labels
abbrev pub IsDomain : Target → Type 0
IsDomain (Dns name) = IsTarget (Dns name) × IsTrue (are_domain_labels name.labels)
IsDomain (Ip address) = ⊥

-- no two are equal
abbrev pub AreDistinct : List Target → Type 0
AreDistinct [] = Unit {0}
AreDistinct (target ∷ targets) = AllByRecursion (λ other. other ≢ target) targets × AreDistinct targets

-- 1 to 398 days
abbrev pub IsDays : ℕ → Type 0
IsDays days = (1 ≤ days) × (days ≤ 398)

-- a retry key has 1 to 64 lower-case letters or digits
abbrev pub is_key : List ℕ → Bool
is_key key = nat_le 1 (length key) && nat_le (length key) 64 && list_all is_plain_byte key

-- 1 to 100 domain names
pub record AreNames (targets : List Target) : Type 0 where
  pub some : 1 ≤ length targets
  pub fit : length targets ≤ 100
  pub each : AllByRecursion IsDomain targets
  pub distinct : AreDistinct targets

-- 1 to 16,384 bytes
pub record IsRequest (request : List ℕ) : Type 0 where
  pub some : 1 ≤ length request
  pub fits : length request ≤ 16384
  pub bytes : IsBytes request

pub record IsOrderMessage (key : List ℕ) (targets : List Target) (days : ℕ) (common : Bool) (request : List ℕ) : Type 0 where
  pub plain : common ≡ false
  pub days_fit : IsDays days
  pub key_fits : IsTrue (is_key key)
  pub names_fit : AreNames targets
  pub request_fits : IsRequest request

-- an order that a body can say
abbrev pub IsSaid : Command → Type 0
IsSaid (Order key targets days common request) = IsOrderMessage key targets days common request
IsSaid command = ⊥

-- 1 to 19 digits, of which the first may be zeros
abbrev pub is_order_number : List ℕ → Bool
is_order_number digits = nat_le 1 (length digits) && nat_le (length digits) 19 && list_all is_digit digits

-- ---- what bytes ask

-- an order, in a body of at most 65,536 bytes
pub record AsksOrder (bytes : List ℕ) (command : Command) : Type 0 where
  pub said : IsSaid command
  pub fits : length (body_of command) ≤ 65536
  pub whole : bytes ≡ framed (body_of command)

-- that the order with that number be finalized
pub record AsksFinalize (bytes : List ℕ) (order : ℕ) : Type 0 where
  pub digits : List ℕ
  pub are : IsTrue (is_order_number digits)
  pub number : order ≡ digits_value 10 digits
  pub whole : bytes ≡ finalize_text digits

-- the bytes are a message that asks the command; blocks, challenges, observations and CAA answers have no message as yet
abbrev pub IsMessageOf : List ℕ → Command → Type 0
IsMessageOf bytes (Order key targets days common request) = AsksOrder bytes (Order key targets days common request)
IsMessageOf bytes (Finalize order) = AsksFinalize bytes order
IsMessageOf bytes (Challenge key order target method) = ⊥
IsMessageOf bytes (Observe key challenge seen_at seen) = ⊥
IsMessageOf bytes (ObserveCaa key order target seen_at caa) = ⊥
IsMessageOf bytes (Block key spki) = ⊥

-- no message stands at the front
abbrev pub HasNoMessage : List ℕ → Type 0
HasNoMessage bytes = (message rest : List ℕ) (command : Command) → IsMessageOf message command → bytes ≢ message ++ rest

-- nor will one, whatever follows
abbrev pub NeverHasMessage : List ℕ → Type 0
NeverHasMessage bytes = (more : List ℕ) → HasNoMessage (bytes ++ more)

-- a message stands at the front, with so many bytes behind it
pub record BeginsWith (bytes : List ℕ) (command : Command) (left : ℕ) : Type 0 where
  pub message : List ℕ
  pub asks : IsMessageOf message command
  pub spelled : IsCommand command
  pub rest : List ℕ
  pub whole : bytes ≡ message ++ rest
  pub behind : left ≡ length rest

abbrev pub TellsMessage : List ℕ → Found → Type 0
TellsMessage bytes (found.Message command left) = BeginsWith bytes command left
TellsMessage bytes found.More = HasNoMessage bytes
TellsMessage bytes found.Never = (1 ≤ length bytes) × NeverHasMessage bytes
TellsMessage bytes found.NoMemory = Unit {0}
