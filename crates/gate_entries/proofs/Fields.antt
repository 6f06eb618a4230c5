-- A field that is read is the field that was written.
use Rattle.std.proofs.Common.{◌≡◌, ℕ, zero, suc, ◌+◌, ◌%◌, ◌^◌, ◌<◌, ◌≤◌, Bool, true, false, cond, ltb, List, [], ◌∷◌, ◌++◌, length, get_or, take, drop, Option, Some, None, Result, Ok, Err, refl, sym, ap, subst, ◌∙◌, append_assoc, arith, ◌⊎◌, inl, inr}
use Rattle.std.specs.Prelude.{find, ◌==◌}
use Rattle.std.specs.List.{flat_map, AllByRecursion}
use Rattle.std.specs.Int.{Width, w8, w16, w32, w64, byte_len, from_be_bytes, to_be_bytes}
use Rattle.std.proofs.lemmas.Bool.{cases_lt, ltb-false, le-ltb, eqb-true}
use Rattle.std.proofs.lemmas.List.{take_at, drop_at, length-append, take-append-drop, length-take, get_or-drop, get_or-take, get_or_past}
use Rattle.std.proofs.lemmas.Nat.{be_bytes_2, be_bytes_4, be_bytes_8, from_be_bytes-to_be_bytes_2, from_be_bytes-to_be_bytes_4, from_be_bytes-to_be_bytes_8}
use Rattle.std.proofs.lemmas.List.Concat.{flat_map-cons}
use Rattle.gate_entries.specs.Field.{counted, truth, list_bytes, AreItems, ◌>>=◌, Read, bytes_at, number_at, bytes_behind, counted_at, truth_at, with_number, value_or, one_of_at, items_at, list_at}

abbrev pub IsBytes : List ℕ → Type 0
IsBytes bytes = (i : ℕ) → get_or bytes i 0 < 256

IsBytes-drop : (n : ℕ) (bytes : List ℕ) → IsBytes bytes → IsBytes (drop n bytes)
IsBytes-drop n bytes small i = rw get_or-drop (small (n + i))

IsBytes-take : (n : ℕ) (bytes : List ℕ) → IsBytes bytes → IsBytes (take n bytes)
IsBytes-take n bytes small i =
    elim (cases_lt i n) [
      | inl lt ↦ rw (get_or-take n bytes i 0 lt) (small i)
      | inr le ↦ rw (get_or_past (take n bytes) i 0 (omega (arith, length-take n bytes))) (omega arith)
    ]

pub IsBytes-rest : (byte : ℕ) (bytes : List ℕ) → IsBytes (byte ∷ bytes) → IsBytes bytes
IsBytes-rest byte bytes small i = small (suc i)

-- ---- steps that did not fail

pub bind_ok : {A B : Type 0} (r : Result A ℕ) (f : A → Result B ℕ) (y : B) → (r >>= f) ≡ Ok y → (x : A) × (r ≡ Ok x) × (f x ≡ Ok y)
bind_ok (Ok x) f y e = (x, refl, e)
bind_ok (Err left) f y e = absurd cc

pub guard_ok : {A : Type 0} (b : Bool) (left : ℕ) (x y : A) → cond b (Err left) (Ok x) ≡ Ok y → (b ≡ false) × (x ≡ y)
guard_ok true left x y e = absurd cc
guard_ok false left x y e = (refl, cc)

pub guard_met : {A : Type 0} (b : Bool) (left : ℕ) (x y : A) → cond b (Ok x) (Err left) ≡ Ok y → (b ≡ true) × (x ≡ y)
guard_met true left x y e = (refl, cc)
guard_met false left x y e = absurd cc

abbrev done : {A : Type 0} → A → Result A ℕ
done x = Ok x

pub ok_is : {A : Type 0} (x y : A) → done x ≡ done y → x ≡ y
ok_is x y e = cc

-- what holds of the value that was made holds of the one that was given
pub as_made : {A : Type 0} (P : A → Type 0) (x y : A) → done x ≡ done y → P x → P y
as_made P x y e is = subst P (ok_is x y e) is

-- ---- what a reader took from the front

pub record Takes (bytes text rest : List ℕ) : Type 0 where
  pub parts : bytes ≡ text ++ rest
  pub small : IsBytes rest

pub takes_both : {a x b y c : List ℕ} → Takes a x b → Takes b y c → Takes a (x ++ y) c
takes_both {a = a} {x = x} {b = b} {y = y} {c = c} one two =
    record { parts = one.parts ∙ ap (λ (t : List ℕ). x ++ t) two.parts ∙ sym (append_assoc x y c); small = two.small }

pub takes_behind : {byte : ℕ} {bytes text rest : List ℕ} → Takes bytes text rest → Takes (byte ∷ bytes) (byte ∷ text) rest
takes_behind {byte = byte} takes = record { parts = ap (λ (t : List ℕ). byte ∷ t) takes.parts; small = takes.small }

-- so many bytes
pub bytes_takes : (count : ℕ) (bytes : List ℕ) (x : List ℕ × List ℕ) → IsBytes bytes → bytes_at count bytes ≡ Ok x → Takes bytes x.0 x.1 × (length x.0 ≡ count)
bytes_takes count bytes x small e =
    let g = guard_ok (ltb (length bytes) count) (length bytes) (take count bytes, drop count bytes) x e in
    let long : count ≤ length bytes = ltb-false _ _ g.0 in
    let size : length (take count bytes) ≡ count = omega (arith, length-take count bytes) in
    let takes : Takes bytes (take count bytes) (drop count bytes) = record { parts = sym (take-append-drop count bytes); small = IsBytes-drop count bytes small } in
    subst (λ (y : List ℕ × List ℕ). Takes bytes y.0 y.1 × (length y.0 ≡ count)) g.1 (takes, size)

-- a step that gives a value, and those behind it
pub bind_is : {A B : Type 0} (r : Result A ℕ) (x : A) (f : A → Result B ℕ) (z : Result B ℕ) → r ≡ Ok x → f x ≡ z → (r >>= f) ≡ z
bind_is r x f z is rest = ap (λ (s : Result _ ℕ). s >>= f) is ∙ rest

pub bytes_again : (count : ℕ) (bytes rest : List ℕ) → length bytes ≡ count → bytes_at count (bytes ++ rest) ≡ Ok (bytes, rest)
bytes_again count bytes rest size =
    let long : ltb (length (bytes ++ rest)) count ≡ false = le-ltb _ _ (omega (arith, length-append bytes rest)) in
    rw (long, take_at bytes rest count size, drop_at bytes rest count size) refl

-- ---- numbers

-- what holds of the numbers of a width, which are below a limit
pub record IsWide (width : Width) (limit : ℕ) : Type 0 where
  pub size : (n : ℕ) → length (to_be_bytes width n) ≡ byte_len width
  pub back : (bytes : List ℕ) → length bytes ≡ byte_len width → IsBytes bytes → to_be_bytes width (from_be_bytes width bytes) ≡ bytes
  pub again : (n : ℕ) → n < limit → from_be_bytes width (to_be_bytes width n) ≡ n
  pub below : (bytes : List ℕ) → IsBytes bytes → from_be_bytes width bytes < limit

byte_back : (bytes : List ℕ) → length bytes ≡ 1 → IsBytes bytes → to_be_bytes w8 (from_be_bytes w8 bytes) ≡ bytes
byte_back [] size small = absurd (omega arith)
byte_back (byte ∷ []) size small = let same : from_be_bytes w8 (byte ∷ []) % 256 ≡ byte = omega (arith, small 0) in ap (λ (n : ℕ). n ∷ []) same
byte_back (byte ∷ other ∷ bytes) size small = absurd (omega arith)

pub wide8 : IsWide w8 (2 ^ 8)
wide8 = record {
  size = λ n. refl;
  back = byte_back;
  again = λ n lt. omega arith;
  below = λ bytes small. omega (arith, small 0);
}

pub wide16 : IsWide w16 (2 ^ 16)
wide16 = record {
  size = λ n. refl;
  back = λ bytes size small. be_bytes_2 bytes _ size small refl;
  again = λ n lt. from_be_bytes-to_be_bytes_2 n lt;
  below = λ bytes small. omega (arith, small 0, small 1);
}

pub wide32 : IsWide w32 (2 ^ 32)
wide32 = record {
  size = λ n. refl;
  back = λ bytes size small. be_bytes_4 bytes _ size small refl;
  again = λ n lt. from_be_bytes-to_be_bytes_4 n lt;
  below = λ bytes small. omega (arith, small 0, small 1, small 2, small 3);
}

pub wide64 : IsWide w64 (2 ^ 64)
wide64 = record {
  size = λ n. refl;
  back = λ bytes size small. be_bytes_8 bytes _ size small refl;
  again = λ n lt. from_be_bytes-to_be_bytes_8 n lt;
  below = λ bytes small. omega (arith, small 0, small 1, small 2, small 3, small 4, small 5, small 6, small 7);
}

pub number_takes : (width : Width) (limit : ℕ) (wide : IsWide width limit) (bytes : List ℕ) (x : ℕ × List ℕ) → IsBytes bytes → number_at width bytes ≡ Ok x
    → Takes bytes (to_be_bytes width x.0) x.1 × (x.0 < limit)
number_takes width limit wide bytes x small e =
    let front = take (byte_len width) bytes in
    let g = guard_ok (ltb (length bytes) (byte_len width)) (length bytes) (from_be_bytes width front, drop (byte_len width) bytes) x e in
    let long : byte_len width ≤ length bytes = ltb-false _ _ g.0 in
    let few : IsBytes front = IsBytes-take (byte_len width) bytes small in
    let back : to_be_bytes width (from_be_bytes width front) ≡ front = wide.back front (omega (arith, length-take (byte_len width) bytes)) few in
    let takes : Takes bytes (to_be_bytes width (from_be_bytes width front)) (drop (byte_len width) bytes) =
    record { parts = rw back (sym (take-append-drop (byte_len width) bytes)); small = IsBytes-drop (byte_len width) bytes small } in
    subst (λ (y : ℕ × List ℕ). Takes bytes (to_be_bytes width y.0) y.1 × (y.0 < limit)) g.1 (takes, wide.below front few)

-- ---- bytes behind their number

pub counted_takes : (width : Width) (limit : ℕ) (wide : IsWide width limit) (bytes : List ℕ) (x : List ℕ × List ℕ) → IsBytes bytes → counted_at width bytes ≡ Ok x
    → Takes bytes (counted width x.0) x.1 × (length x.0 < limit)
unfolding counted_at
counted_takes width limit wide bytes x small e =
    let step = bind_ok (number_at width bytes) (bytes_behind (length bytes)) x e in
    let n = step.0 in
    let first = number_takes width limit wide bytes n small step.1 in
    let g = guard_ok (ltb (length n.1) n.0) (length bytes) (take n.0 n.1, drop n.0 n.1) x step.2 in
    let long : n.0 ≤ length n.1 = ltb-false _ _ g.0 in
    let size : length (take n.0 n.1) ≡ n.0 = omega (arith, length-take n.0 n.1) in
    let second : Takes n.1 (take n.0 n.1) (drop n.0 n.1) = record { parts = sym (take-append-drop n.0 n.1); small = IsBytes-drop n.0 n.1 first.0.small } in
    let both = takes_both first.0 second in
    let whole : Takes bytes (counted width (take n.0 n.1)) (drop n.0 n.1) = subst (λ (k : ℕ). Takes bytes (to_be_bytes width k ++ take n.0 n.1) (drop n.0 n.1)) (sym size) both in
    subst (λ (y : List ℕ × List ℕ). Takes bytes (counted width y.0) y.1 × (length y.0 < limit)) g.1 (whole, omega (arith, first.1))

-- ---- truth values

pub truth_takes : (bytes : List ℕ) (x : Bool × List ℕ) → IsBytes bytes → truth_at bytes ≡ Ok x → Takes bytes (truth x.0) x.1
unfolding truth_at
truth_takes [] x small e = absurd cc
truth_takes (zero ∷ bytes) x small e =
    as_made (λ (y : Bool × List ℕ). Takes (0 ∷ bytes) (truth y.0) y.1) (false, bytes) x e (record { parts = refl; small = IsBytes-rest 0 bytes small })
truth_takes (suc zero ∷ bytes) x small e =
    as_made (λ (y : Bool × List ℕ). Takes (1 ∷ bytes) (truth y.0) y.1) (true, bytes) x e (record { parts = refl; small = IsBytes-rest 1 bytes small })
truth_takes (suc (suc byte) ∷ bytes) x small e = absurd cc

-- ---- what was written is read again

pub number_again : (width : Width) (limit : ℕ) (wide : IsWide width limit) (n : ℕ) (rest : List ℕ) → n < limit → number_at width (to_be_bytes width n ++ rest) ≡ Ok (n, rest)
number_again width limit wide n rest lt =
    let size = wide.size n in
    let long : ltb (length (to_be_bytes width n ++ rest)) (byte_len width) ≡ false = le-ltb _ _ (omega (arith, length-append (to_be_bytes width n) rest)) in
    rw (long, take_at (to_be_bytes width n) rest (byte_len width) size, drop_at (to_be_bytes width n) rest (byte_len width) size, wide.again n lt) refl

pub counted_again : (width : Width) (limit : ℕ) (wide : IsWide width limit) (bytes rest : List ℕ) → length bytes < limit
    → counted_at width (counted width bytes ++ rest) ≡ Ok (bytes, rest)
unfolding counted_at
counted_again width limit wide bytes rest lt =
    let number = to_be_bytes width (length bytes) in
    let regrouped : counted width bytes ++ rest ≡ number ++ (bytes ++ rest) = append_assoc number bytes rest in
    let long : ltb (length (bytes ++ rest)) (length bytes) ≡ false = le-ltb _ _ (omega (arith, length-append bytes rest)) in
    ap (counted_at width) regrouped
    ∙ bind_is (number_at width (number ++ (bytes ++ rest))) (length bytes, bytes ++ rest) (bytes_behind (length (number ++ (bytes ++ rest)))) (Ok (bytes, rest))
    (number_again width limit wide (length bytes) (bytes ++ rest) lt)
    (rw (long, take_at bytes rest (length bytes) refl, drop_at bytes rest (length bytes) refl) refl)

pub truth_again : (value : Bool) (rest : List ℕ) → truth_at (truth value ++ rest) ≡ Ok (value, rest)
unfolding truth_at
truth_again true rest = refl
truth_again false rest = refl

-- ---- fields

-- what is read is spelled so, and what is spelled is read again, whatever stands behind it; so one value has one spelling
pub record IsField {A : Type 0} (spelling : A → List ℕ) (HasSpelling : A → Type 0) (reading : List ℕ → Read A) : Type 0 where
  pub takes : (bytes : List ℕ) (x : A × List ℕ) → IsBytes bytes → reading bytes ≡ Ok x → Takes bytes (spelling x.0) x.1 × HasSpelling x.0
  pub again : (a : A) (rest : List ℕ) → HasSpelling a → reading (spelling a ++ rest) ≡ Ok (a, rest)

pub number_field : (width : Width) (limit : ℕ) (wide : IsWide width limit) → IsField (to_be_bytes width) (λ n. n < limit) (number_at width)
number_field width limit wide = record { takes = number_takes width limit wide; again = number_again width limit wide }

pub counted_field : (width : Width) (limit : ℕ) (wide : IsWide width limit) → IsField (counted width) (λ bytes. length bytes < limit) (counted_at width)
counted_field width limit wide = record { takes = counted_takes width limit wide; again = counted_again width limit wide }

pub truth_field : IsField truth (λ value. Unit {0}) truth_at
truth_field = record { takes = λ bytes x small e. (truth_takes bytes x small e, tt); again = λ value rest is. truth_again value rest }

pub bytes_field : (count : ℕ) → IsField (λ bytes. bytes) (λ bytes. length bytes ≡ count) (bytes_at count)
bytes_field count = record { takes = bytes_takes count; again = bytes_again count }

pub key_field : IsField (counted w8) (λ bytes. length bytes < 2 ^ 8) (counted_at w8)
key_field = counted_field w8 (2 ^ 8) wide8

pub counted16_field : IsField (counted w16) (λ bytes. length bytes < 2 ^ 16) (counted_at w16)
counted16_field = counted_field w16 (2 ^ 16) wide16

pub number8_field : IsField (to_be_bytes w8) (λ n. n < 2 ^ 8) (number_at w8)
number8_field = number_field w8 (2 ^ 8) wide8

pub number16_field : IsField (to_be_bytes w16) (λ n. n < 2 ^ 16) (number_at w16)
number16_field = number_field w16 (2 ^ 16) wide16

pub number32_field : IsField (to_be_bytes w32) (λ n. n < 2 ^ 32) (number_at w32)
number32_field = number_field w32 (2 ^ 32) wide32

pub number64_field : IsField (to_be_bytes w64) (λ n. n < 2 ^ 64) (number_at w64)
number64_field = number_field w64 (2 ^ 64) wide64

-- ---- a field and what is behind it

pub record Step {A B : Type 0} (spelling : A → List ℕ) (HasSpelling : A → Type 0) (next : A × List ℕ → Result B ℕ) (bytes : List ℕ) (y : B) : Type 0 where
  pub found : A × List ℕ
  pub takes : Takes bytes (spelling found.0) found.1
  pub is : HasSpelling found.0
  pub goes_on : next found ≡ Ok y

module _ {A B : Type 0} {spelling : A → List ℕ} {HasSpelling : A → Type 0} {reading : List ℕ → Read A} (field : IsField spelling HasSpelling reading) where
  pub step : (bytes : List ℕ) (next : A × List ℕ → Result B ℕ) (y : B) → IsBytes bytes → (reading bytes >>= next) ≡ Ok y → Step spelling HasSpelling next bytes y
  step bytes next y small e =
      let first = bind_ok (reading bytes) next y e in
      let taken = field.takes bytes first.0 small first.1 in
      record { found = first.0; takes = taken.0; is = taken.1; goes_on = first.2 }

  pub step_again : (a : A) (rest : List ℕ) (next : A × List ℕ → Result B ℕ) (z : Result B ℕ) → HasSpelling a → next (a, rest) ≡ z → (reading (spelling a ++ rest) >>= next) ≡ z
  step_again a rest next z is goes_on = bind_is (reading (spelling a ++ rest)) (a, rest) next z (field.again a rest is) goes_on

-- ---- values by their numbers

-- which way a test went
pub chosen : {A : Type 0} (b : Bool) (x y z : A) → cond b x y ≡ z → ((b ≡ true) × (x ≡ z)) ⊎ ((b ≡ false) × (y ≡ z))
chosen true x y z e = inl (refl, e)
chosen false x y z e = inr (refl, e)

found_has : {A : Type 0} (p : A → Bool) (xs : List A) (x : A) → find p xs ≡ Some x → p x ≡ true
found_has p [] x e = absurd cc
found_has p (y ∷ ys) x e =
    elim (chosen (p y) (Some y) (find p ys) (Some x) e) [
      | inl is ↦ let same : y ≡ x = cc in subst (λ (z : _). p z ≡ true) same is.0
      | inr is ↦ found_has p ys x is.1
    ]

value_met : {A : Type 0} (left : ℕ) (rest : List ℕ) (found : Option A) (x : A × List ℕ) → value_or left rest found ≡ Ok x → (found ≡ Some x.0) × (rest ≡ x.1)
value_met left rest None x e = absurd cc
value_met left rest (Some value) x e = let same = ok_is (value, rest) x e in (ap (λ (y : _). Some y.0) same, ap (λ (y : _). y.1) same)

one_of_takes : {A : Type 0} (number_of : A → ℕ) (values : List A) (bytes : List ℕ) (x : A × List ℕ) → IsBytes bytes → one_of_at number_of values bytes ≡ Ok x
    → Takes bytes (number_of x.0 ∷ []) x.1 × Unit {0}
unfolding one_of_at
one_of_takes number_of values [] x small e = absurd cc
one_of_takes number_of values (number ∷ rest) x small e =
    let met = value_met (suc (length rest)) rest (with_number number_of values number) x e in
    let same : number ≡ number_of x.0 = eqb-true _ _ (found_has (λ value. number == number_of value) values x.0 met.0) in
    (record { parts = rw (same, met.1) refl; small = subst IsBytes met.1 (IsBytes-rest number rest small) }, tt)

pub one_of_field : {A : Type 0} (number_of : A → ℕ) (values : List A) → ((a : A) → with_number number_of values (number_of a) ≡ Some a)
    → IsField (λ a. number_of a ∷ []) (λ a. Unit {0}) (one_of_at number_of values)
unfolding one_of_at
one_of_field number_of values each = record {
  takes = one_of_takes number_of values;
  again = λ a rest is. ap (value_or (suc (length rest)) rest) (each a);
}

-- ---- lists

module _ {A : Type 0} {spelling : A → List ℕ} {HasSpelling : A → Type 0} {reading : List ℕ → Read A} (field : IsField spelling HasSpelling reading) where
  abbrev TakesItems : ℕ → List ℕ → List A × List ℕ → Type 0
  TakesItems count bytes x = Takes bytes (flat_map spelling x.0) x.1 × (length x.0 ≡ count) × AllByRecursion HasSpelling x.0

  items_take : (count : ℕ) (bytes : List ℕ) (x : List A × List ℕ) → IsBytes bytes → items_at reading count bytes ≡ Ok x → TakesItems count bytes x
  unfolding items_at
  items_take zero bytes x small e = as_made (TakesItems zero bytes) ([], bytes) x e (record { parts = refl; small = small }, refl, tt)
  items_take (suc count) bytes x small e =
      let first = step field bytes _ x small e in
      let others = bind_ok (items_at reading count first.found.1) _ x first.goes_on in
      let rest = items_take count first.found.1 others.0 first.takes.small others.1 in
      let made : List A × List ℕ = (first.found.0 ∷ others.0.0, others.0.1) in
      as_made (TakesItems (suc count) bytes) made x others.2 (rw flat_map-cons (takes_both first.takes rest.0), ap suc rest.1, (first.is, rest.2))

  items_again : (items : List A) (rest : List ℕ) → AllByRecursion HasSpelling items → items_at reading (length items) (flat_map spelling items ++ rest) ≡ Ok (items, rest)
  unfolding items_at
  items_again [] rest are = refl
  items_again (item ∷ items) rest are =
      let behind = flat_map spelling items ++ rest in
      let regrouped : flat_map spelling (item ∷ items) ++ rest ≡ spelling item ++ behind =
      ap (λ (x : List ℕ). x ++ rest) (flat_map-cons spelling item items) ∙ append_assoc (spelling item) (flat_map spelling items) rest in
      ap (items_at reading (suc (length items))) regrouped
      ∙ step_again field item behind _ (Ok (item ∷ items, rest)) are.0 (bind_is (items_at reading (length items) behind) (items, rest) _ (Ok (item ∷ items, rest)) (items_again items rest are.1) refl)

  list_takes : (bytes : List ℕ) (x : List A × List ℕ) → IsBytes bytes → list_at reading bytes ≡ Ok x → Takes bytes (list_bytes spelling x.0) x.1 × AreItems HasSpelling x.0
  unfolding list_at
  list_takes bytes x small e =
      let count = step number8_field bytes _ x small e in
      let items = items_take count.found.0 count.found.1 x count.takes.small count.goes_on in (
        subst (λ (k : ℕ). Takes bytes (to_be_bytes w8 k ++ flat_map spelling x.0) x.1) (sym items.1) (takes_both count.takes items.0),
        record { count = omega (arith, items.1, count.is); each = items.2 },
      )

  list_again : (items : List A) (rest : List ℕ) → AreItems HasSpelling items → list_at reading (list_bytes spelling items ++ rest) ≡ Ok (items, rest)
  unfolding list_at
  list_again items rest are =
      ap (list_at reading) (append_assoc (to_be_bytes w8 (length items)) (flat_map spelling items) rest)
      ∙ step_again number8_field (length items) (flat_map spelling items ++ rest) _ (Ok (items, rest)) are.count (items_again items rest are.each)

  pub list_field : IsField (list_bytes spelling) (AreItems HasSpelling) (list_at reading)
  list_field = record { takes = list_takes; again = list_again }
