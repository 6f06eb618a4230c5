-- Routes and their paths: what is found has the path, and what has the path is found.
use Rattle.std.proofs.Common.{◌≡◌, ℕ, ◌-◌, Bool, true, false, cond, nat_eq, codes, List, ◌++◌, length, take, drop, Option, Some, None, option_map, option_and_then, refl, sym, ap, subst, ◌∙◌, append_assoc, arith, length-append}
use Rattle.std.specs.Cmp.Lexicographic.{pointwise, same_text, other_text}
use Rattle.std.specs.Str.{bytes_eq}
use Rattle.std.specs.Str.Parse.{digits_value}
use Rattle.std.proofs.lemmas.List.{take_at, drop_at, take-append-drop}
use Rattle.std.proofs.lemmas.Slice.Eq.{bytes_eq-Decides}
use Rattle.wire_decode.specs.declared.route.Route.{Route}
use Rattle.wire_decode.specs.declared.route.Route.TheVariants.{Orders, Challenges, Finalize, Observations, Caa, Blocks}
use Rattle.wire_decode.specs.Routes.{is_number, IsOrderPath, IsPathOf, IsRouteOf, HasRoute, behind, in_front, number_in, order_at, or_else, route_for, route_of}

-- ---- options

only_some : {A : Type 0} (b : Bool) (x y : A) → cond b (Some x) None ≡ Some y → (b ≡ true) × (x ≡ y)
only_some true x y e = (refl, cc)
only_some false x y e = absurd cc

then_some : {A B : Type 0} (f : A → Option B) (o : Option A) (y : B) → option_and_then f o ≡ Some y → (x : A) × (o ≡ Some x) × (f x ≡ Some y)
then_some f None y e = absurd cc
then_some f (Some x) y e = (x, refl, e)

then_is : {A B : Type 0} (f : A → Option B) (o : Option A) (x : A) (z : Option B) → o ≡ Some x → f x ≡ z → option_and_then f o ≡ z
then_is f o x z is rest = ap (λ (s : Option _). option_and_then f s) is ∙ rest

some_none : {A : Type 0} (o : Option A) (x : A) → o ≡ Some x → o ≡ None → ⊥
some_none o x is none = absurd cc

-- ---- texts at the front and at the end

alike_case : (xs : List ℕ) (b : Bool) → b ≡ pointwise nat_eq xs xs → pointwise nat_eq xs xs ≡ true
alike_case xs true is = sym is
alike_case xs false is = absurd (other_text xs xs is refl)

alike : (xs : List ℕ) → pointwise nat_eq xs xs ≡ true
alike xs = alike_case xs (pointwise nat_eq xs xs) refl

behind_is : (text rest : List ℕ) → behind text (text ++ rest) ≡ Some rest
behind_is text rest = rw (take_at text rest (length text) refl, drop_at text rest (length text) refl, alike text) refl

behind_found : (text path rest : List ℕ) → behind text path ≡ Some rest → path ≡ text ++ rest
behind_found text path rest e =
    let g = only_some (pointwise nat_eq (take (length text) path) text) (drop (length text) path) rest e in
    let front : take (length text) path ≡ text = same_text _ _ (sym g.0) in
    sym (take-append-drop (length text) path) ∙ ap (λ (t : List ℕ). t ++ drop (length text) path) front ∙ ap (λ (t : List ℕ). text ++ t) g.1

front_size : (front text : List ℕ) → length (front ++ text) - length text ≡ length front
front_size front text = omega (arith, length-append front text)

in_front_is : (front text : List ℕ) → in_front text (front ++ text) ≡ Some front
in_front_is front text =
    rw (front_size front text, take_at front text (length front) refl, drop_at front text (length front) refl, alike text) refl

in_front_found : (text path front : List ℕ) → in_front text path ≡ Some front → path ≡ front ++ text
in_front_found text path front e =
    let n = length path - length text in
    let g = only_some (pointwise nat_eq (drop n path) text) (take n path) front e in
    let back : drop n path ≡ text = same_text _ _ (sym g.0) in
    sym (take-append-drop n path) ∙ ap (λ (t : List ℕ). take n path ++ t) back ∙ ap (λ (t : List ℕ). t ++ text) g.1

-- bytes that end in one letter don't end in the other
other_end : (front : List ℕ) → in_front (codes "s") (front ++ codes "e") ≡ None
other_end front = let size = front_size front (codes "e") in rw (size, drop_at front (codes "e") (length front) refl) refl

-- ---- orders' paths

order_found : (tail path : List ℕ) (order : ℕ) → order_at tail path ≡ Some order → IsOrderPath tail order path
unfolding order_at
order_found tail path order e =
    let stripped = behind (codes "/orders/") path in
    let n = then_some number_in (option_and_then (in_front tail) stripped) order e in
    let f = then_some (in_front tail) stripped n.0 n.1 in
    let g = only_some (is_number n.0) (digits_value 10 n.0) order n.2 in
    record {
      digits = n.0;
      are = g.0;
      number = sym g.1;
      whole = behind_found (codes "/orders/") path f.0 f.1 ∙ ap (λ (t : List ℕ). codes "/orders/" ++ t) (in_front_found tail f.0 n.0 f.2);
    }

order_is : (tail path : List ℕ) (order : ℕ) → IsOrderPath tail order path → order_at tail path ≡ Some order
unfolding order_at
order_is tail path order is =
    let rest = is.digits ++ tail in
    let stripped : behind (codes "/orders/") path ≡ Some rest = ap (behind (codes "/orders/")) is.whole ∙ behind_is (codes "/orders/") rest in
    let cut = then_is (in_front tail) (behind (codes "/orders/") path) rest (Some is.digits) stripped (in_front_is is.digits tail) in
    let value = ap (λ (b : Bool). cond b (Some (digits_value 10 is.digits)) None) is.are ∙ ap Some (sym is.number) in
    then_is number_in (option_and_then (in_front tail) (behind (codes "/orders/") path)) is.digits (Some order) cut value

-- a path that ends so, with the last byte apart
ends : (digits tail last : List ℕ) → codes "/orders/" ++ (digits ++ (tail ++ last)) ≡ (codes "/orders/" ++ (digits ++ tail)) ++ last
ends digits tail last =
    ap (λ (t : List ℕ). codes "/orders/" ++ t) (sym (append_assoc digits tail last)) ∙ sym (append_assoc (codes "/orders/") (digits ++ tail) last)

one_end : (path : List ℕ) (left right : ℕ) → IsOrderPath (codes "/challenges") left path → IsOrderPath (codes "/finalize") right path → ⊥
one_end path left right c f =
    let cs = codes "/orders/" ++ (c.digits ++ codes "/challenge") in
    let fs = codes "/orders/" ++ (f.digits ++ codes "/finaliz") in
    let s = ap (in_front (codes "s")) (c.whole ∙ ends c.digits (codes "/challenge") (codes "s")) ∙ in_front_is cs (codes "s") in
    let e = ap (in_front (codes "s")) (f.whole ∙ ends f.digits (codes "/finaliz") (codes "e")) ∙ other_end fs in
    some_none (in_front (codes "s") path) _ s e

no_challenges : (path : List ℕ) (order : ℕ) → IsOrderPath (codes "/finalize") order path → order_at (codes "/challenges") path ≡ None
no_challenges path order is =
    let go : (o : Option ℕ) → order_at (codes "/challenges") path ≡ o → o ≡ None
    = λ o. elim o as (λ v. order_at (codes "/challenges") path ≡ v → v ≡ None) [
      | None ↦ λ e. refl
      | Some other ↦ λ e. absurd (one_end path other order (order_found (codes "/challenges") path other e) is)
    ] in
    go (order_at (codes "/challenges") path) refl

-- ---- all paths

same_bytes : (path text : List ℕ) (b : Bool) → bytes_eq path text ≡ b → b ≡ true → path ≡ text
same_bytes path text b is holds = (bytes_eq-Decides path text).0 (is ∙ holds)

some_is : {A : Type 0} (x y : A) → Some x ≡ Some y → x ≡ y
some_is x y e = cc

last_found : (path : List ℕ) (route : Route) (c f : Option ℕ) → order_at (codes "/challenges") path ≡ c → order_at (codes "/finalize") path ≡ f
    → or_else (option_map Challenges c) (option_map Finalize f) ≡ Some route → IsPathOf route path
last_found path route (Some order) f p q e = subst (λ r. IsPathOf r path) (some_is _ _ e) (order_found (codes "/challenges") path order p)
last_found path route None (Some order) p q e = subst (λ r. IsPathOf r path) (some_is _ _ e) (order_found (codes "/finalize") path order q)
last_found path route None None p q e = absurd cc

found_by : (path : List ℕ) (route : Route) (a b c d : Bool) → bytes_eq path (codes "/orders") ≡ a → bytes_eq path (codes "/observations") ≡ b
    → bytes_eq path (codes "/caa") ≡ c → bytes_eq path (codes "/blocks") ≡ d
    → cond a (Some Orders) (cond b (Some Observations) (cond c (Some Caa) (cond d (Some Blocks)
    (or_else (option_map Challenges (order_at (codes "/challenges") path)) (option_map Finalize (order_at (codes "/finalize") path))))))
    ≡ Some route
    → IsPathOf route path
found_by path route true b c d p q r s e = subst (λ x. IsPathOf x path) (some_is _ _ e) (same_bytes path (codes "/orders") true p refl)
found_by path route false true c d p q r s e = subst (λ x. IsPathOf x path) (some_is _ _ e) (same_bytes path (codes "/observations") true q refl)
found_by path route false false true d p q r s e = subst (λ x. IsPathOf x path) (some_is _ _ e) (same_bytes path (codes "/caa") true r refl)
found_by path route false false false true p q r s e = subst (λ x. IsPathOf x path) (some_is _ _ e) (same_bytes path (codes "/blocks") true s refl)
found_by path route false false false false p q r s e =
    last_found path route (order_at (codes "/challenges") path) (order_at (codes "/finalize") path) refl refl e

path_found : (path : List ℕ) (route : Route) → route_for path ≡ Some route → IsPathOf route path
path_found path route e =
    found_by path route (bytes_eq path (codes "/orders")) (bytes_eq path (codes "/observations")) (bytes_eq path (codes "/caa"))
    (bytes_eq path (codes "/blocks")) refl refl refl refl e

path_is : (path : List ℕ) (route : Route) → IsPathOf route path → route_for path ≡ Some route
path_is path Orders is = ap route_for is
path_is path Observations is = ap route_for is
path_is path Caa is = ap route_for is
path_is path Blocks is = ap route_for is
path_is path (Challenges order) is =
    let whole = codes "/orders/" ++ (is.digits ++ codes "/challenges") in
    let again : IsOrderPath (codes "/challenges") order whole = record { digits = is.digits; are = is.are; number = is.number; whole = refl } in
    let at = order_is (codes "/challenges") whole order again in
    let other = option_map Finalize (order_at (codes "/finalize") whole) in
    ap route_for is.whole ∙ ap (λ (o : Option ℕ). or_else (option_map Challenges o) other) at
path_is path (Finalize order) is =
    let whole = codes "/orders/" ++ (is.digits ++ codes "/finalize") in
    let again : IsOrderPath (codes "/finalize") order whole = record { digits = is.digits; are = is.are; number = is.number; whole = refl } in
    let at = order_is (codes "/finalize") whole order again in
    let none = no_challenges whole order again in
    let other = option_map Finalize (order_at (codes "/finalize") whole) in
    ap route_for is.whole ∙ ap (λ (o : Option ℕ). or_else (option_map Challenges o) other) none
    ∙ ap (λ (o : Option ℕ). or_else None (option_map Finalize o)) at

-- ---- routes

found_with : (method path : List ℕ) (route : Route) (post : Bool) → bytes_eq method (codes "POST") ≡ post → cond post (route_for path) None ≡ Some route
    → IsRouteOf method path route
found_with method path route true is e = (same_bytes method (codes "POST") true is refl, path_found path route e)
found_with method path route false is e = absurd cc

pub route_found : (method path : List ℕ) (route : Route) → route_of method path ≡ Some route → IsRouteOf method path route
unfolding route_of
route_found method path route e = found_with method path route (bytes_eq method (codes "POST")) refl e

pub route_is : (method path : List ℕ) (route : Route) → IsRouteOf method path route → route_of method path ≡ Some route
unfolding route_of
route_is method path route is =
    ap (λ (m : List ℕ). cond (bytes_eq m (codes "POST")) (route_for path) None) is.0 ∙ path_is path route is.1

pub no_route : (method path : List ℕ) → route_of method path ≡ None → ¬ (HasRoute method path)
no_route method path none has = some_none (route_of method path) has.0 (route_is method path has.0 has.1) none
