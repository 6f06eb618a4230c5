-- The members of a JSON object, each looked up by its name (RFC 8259): of several members with one name the last counts.
use Rattle.std.specs.Prelude.{ℕ, ◌+◌, ◌==◌, ◌^◌, Bool, List, [], Option, Some, None, option_and_then, Ok, Err, nat_lt, if◌then◌else◌}
use Rattle.std.specs.Option.{is_some}
use Rattle.serde_json.specs.Data.{Data, Items, no_items, item, Members, no_members, member}
use Rattle.serde_json.specs.Find.{get, as_bool, as_number, as_str, as_array, as_object, as_u64}
use Rattle.wire_decode.specs.declared.rule.Rule.TheVariants.{W02, W03, W06}
use Rattle.wire_decode.specs.Judgement.{Judgement, ◌>>=◌, some_or, one_before}

-- ---- kinds

abbrev pub truth_of : Data → Judgement Bool
truth_of d = some_or W03 (as_bool d)

abbrev pub text_of : Data → Judgement (List ℕ)
text_of d = some_or W03 (as_str d)

abbrev pub items_of : Data → Judgement Items
items_of d = some_or W03 (as_array d)

-- digits without a sign, a point or an exponent, of a number below 2^64
abbrev pub number_of : Data → Judgement ℕ
number_of d = if is_some (as_number d) then some_or W06 (option_and_then as_u64 (as_number d)) else Err W03

abbrev pub below : ℕ → ℕ → Judgement ℕ
below limit value = if nat_lt value limit then Ok value else Err W06

-- a member that is an object itself
abbrev pub object_of : Data → Judgement Data
object_of d = if is_some (as_object d) then Ok d else Err W03

-- ---- members

abbrev pub member_of : List ℕ → Data → Judgement Data
member_of name d = some_or W02 (get name d)

unfoldable pub truth_at : List ℕ → Data → Judgement Bool
truth_at name d = member_of name d >>= truth_of

unfoldable pub text_at : List ℕ → Data → Judgement (List ℕ)
text_at name d = member_of name d >>= text_of

unfoldable pub items_at : List ℕ → Data → Judgement Items
items_at name d = member_of name d >>= items_of

unfoldable pub u64_at : List ℕ → Data → Judgement ℕ
u64_at name d = member_of name d >>= number_of

unfoldable pub u32_at : List ℕ → Data → Judgement ℕ
u32_at name d = u64_at name d >>= below (2 ^ 32)

unfoldable pub u16_at : List ℕ → Data → Judgement ℕ
u16_at name d = u64_at name d >>= below (2 ^ 16)

unfoldable pub u8_at : List ℕ → Data → Judgement ℕ
u8_at name d = u64_at name d >>= below (2 ^ 8)

-- how many members an object has; another value has none
abbrev pub count_of : Members → ℕ
count_of no_members = 0
count_of (member name d others) = count_of others + 1

abbrev pub counted : Option Members → ℕ
counted None = 0
counted (Some members) = count_of members

abbrev pub member_count : Data → ℕ
member_count d = counted (as_object d)

-- What is read from so many members of an object, if it has no other: each name stands there once, and a member that is
-- missing breaks the same rule, so a strange member is one too many.
unfoldable pub exactly : {A : Type 0} → ℕ → Data → Judgement A → Judgement A
exactly count d read = if member_count d == count then read else Err W02

-- ---- lists

-- what each of some items is
abbrev pub each : {A : Type 0} → (Data → Judgement A) → Items → Judgement (List A)
each read no_items = Ok []
each read (item d others) = one_before (read d) (each read others)

unfoldable pub each_at : {A : Type 0} → (Data → Judgement A) → List ℕ → Data → Judgement (List A)
each_at read name d = items_at name d >>= each read
