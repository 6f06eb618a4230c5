-- How many members a table has.
use Rattle.std.proofs.Common.{◌≡◌, List, [], ◌∷◌, length, map, BTreeMap, String, Global, refl, ap, ◌∙◌, arith}
use Rattle.toml.specs.Data.{Data}
use Rattle.toml.specs.View.{view, members_of}
use Rattle.toml.proofs.Views.{view-Table}
use Rattle.toml.specs.declared.value.Value.{Value, Table}
use Rattle.gate_settings.specs.Reading.{count_of, member_count}

count_of-map : {A : Type 0} (f : A → String Global × Data) (ms : List A) → count_of (members_of (map f ms)) ≡ length ms
count_of-map f [] = refl
count_of-map f (m ∷ ms) = let h = count_of-map f ms in omega arith

-- a map has as many members as entries
pub member_count-Table : (m : BTreeMap (String Global) Value) → member_count (view (Table m)) ≡ length m.entries
member_count-Table m = ap member_count (view-Table m) ∙ count_of-map (λ e. (e.0, view e.1)) m.entries
