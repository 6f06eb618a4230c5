-- Which command a method and a path name.
use Rattle.std.specs.Prelude.{◌≡◌, ℕ, ◌-◌, ◌&&◌, List, ◌++◌, length, take, drop, codes, Bool, Option, Some, None, option_map, option_and_then, IsTrue, nat_eq, nat_le, if◌then◌else◌}
use Rattle.std.specs.Char.{is_ascii_digit}
use Rattle.std.specs.Cmp.Lexicographic.{pointwise}
use Rattle.std.specs.List.{list_all}
use Rattle.std.specs.Str.{bytes_eq}
use Rattle.std.specs.Str.Parse.{digits_value}
use Rattle.wire_decode.specs.declared.route.Route.{Route}
use Rattle.wire_decode.specs.declared.route.Route.TheVariants.{Orders, Challenges, Finalize, Observations, Caa, Blocks}

-- ---- from a route to its paths

-- 1 to 19 digits, which may begin with zeros
abbrev pub is_number : List ℕ → Bool
is_number text = nat_le 1 (length text) && nat_le (length text) 19 && list_all is_ascii_digit text

-- the path of an order with something behind its number
pub record IsOrderPath (tail : List ℕ) (order : ℕ) (path : List ℕ) : Type 0 where
  pub digits : List ℕ
  pub are : IsTrue (is_number digits)
  pub number : order ≡ digits_value 10 digits
  pub whole : path ≡ codes "/orders/" ++ (digits ++ tail)

abbrev pub IsPathOf : Route → List ℕ → Type 0
IsPathOf Orders path = path ≡ codes "/orders"
IsPathOf (Challenges order) path = IsOrderPath (codes "/challenges") order path
IsPathOf (Finalize order) path = IsOrderPath (codes "/finalize") order path
IsPathOf Observations path = path ≡ codes "/observations"
IsPathOf Caa path = path ≡ codes "/caa"
IsPathOf Blocks path = path ≡ codes "/blocks"

-- all commands come by one method (RFC 9110, section 9.3.3)
abbrev pub IsRouteOf : List ℕ → List ℕ → Route → Type 0
IsRouteOf method path route = (method ≡ codes "POST") × IsPathOf route path

abbrev pub HasRoute : List ℕ → List ℕ → Type 0
HasRoute method path = (route : Route) × IsRouteOf method path route

-- ---- from a path to its route

-- what stands behind a text at the front, and before one at the end
abbrev pub behind : List ℕ → List ℕ → Option (List ℕ)
behind text path = if pointwise nat_eq (take (length text) path) text then Some (drop (length text) path) else None

abbrev pub in_front : List ℕ → List ℕ → Option (List ℕ)
in_front text path =
    if pointwise nat_eq (drop (length path - length text) path) text then Some (take (length path - length text) path) else None

abbrev pub number_in : List ℕ → Option ℕ
number_in text = if is_number text then Some (digits_value 10 text) else None

-- the order's number in a path that ends so
unfoldable pub order_at : List ℕ → List ℕ → Option ℕ
order_at tail path = option_and_then number_in (option_and_then (in_front tail) (behind (codes "/orders/") path))

abbrev pub or_else : {A : Type 0} → Option A → Option A → Option A
or_else (Some x) other = Some x
or_else None other = other

abbrev pub route_for : List ℕ → Option Route
route_for path =
    if bytes_eq path (codes "/orders") then Some Orders else
    if bytes_eq path (codes "/observations") then Some Observations else
    if bytes_eq path (codes "/caa") then Some Caa else
    if bytes_eq path (codes "/blocks") then Some Blocks else
    or_else (option_map Challenges (order_at (codes "/challenges") path)) (option_map Finalize (order_at (codes "/finalize") path))

unfoldable pub route_of : List ℕ → List ℕ → Option Route
route_of method path = if bytes_eq method (codes "POST") then route_for path else None
