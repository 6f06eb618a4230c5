-- How many members an object has, and the items of a list.
use Rattle.std.proofs.Common.{◌≡◌, ℕ, suc, ◌<◌, List, [], ◌∷◌, length, drop, drop-cons, get_or, String, Global, refl, ap, arith}
use Rattle.serde_json.specs.Data.{item}
use Rattle.serde_json.specs.View.{view, items_view, members_view}
use Rattle.serde_json.specs.declared.value.Value.{Value}
use Rattle.wire_decode.specs.Members.{count_of}

pub count_of_view : (members : List (String Global × Value)) → count_of (members_view members) ≡ length members
count_of_view [] = refl
count_of_view (first ∷ others) = let h = count_of_view others in omega arith

-- the values from a place on are the one at the place and those behind it
pub items_from : (values : List Value) (place : ℕ) (other : Value) → place < length values
    → items_view (drop place values) ≡ item (view (get_or values place other)) (items_view (drop (suc place) values))
items_from values place other within = ap items_view (drop-cons values place other within)
