-- Bytes that are cut at fixed texts, at a byte and behind a number.
use Rattle.std.proofs.Common.{rules, ◌≡◌, ◌≢◌, ℕ, zero, suc, ◌+◌, ◌-◌, ◌<◌, ◌≤◌, ◌^◌, Bool, true, false, not, cond, eqb, List, [], ◌∷◌, ◌++◌, length, get_or, take, drop, Option, Some, None, refl, sym, ap, subst, ◌∙◌, append_assoc, arith, add-one, length-append, drop-cons, nat_eq}
use Rattle.std.specs.List.{list_all}
use Rattle.std.specs.Option.{option_map}
use Rattle.std.specs.Cmp.Lexicographic.{pointwise, same_text, other_text}
use Rattle.std.specs.Prelude.{Result, Ok, Err}
use Rattle.std.specs.Result.{OkIff}
use Rattle.std.specs.Str.{IsUtf8}
use Rattle.std.specs.Str.Parse.{digits_value, ParsesUnsigned}
use Rattle.std.specs.Fmt.{decimal}
use Rattle.std.proofs.lemmas.Str.{IsUtf8-from_ascii}
use Rattle.std.proofs.lemmas.Str.Parse.{IsNumeralModel, numerals_by_value, parse_digits}
use Rattle.std.proofs.lemmas.Fmt.{digits_decimal, decimal-digits_value, parse-decimal, first_decimal, decimal_digit, length-decimal-le, IsAscii-decimal, decimal_injective}
use Rattle.std.proofs.lemmas.Bool.{eqb-true, eq-eqb, leb-true}
use Rattle.std.proofs.lemmas.Bool.Decides.{nat_tests}
use Rattle.std.proofs.lemmas.List.{take_at, drop_at, take_all, take-append-drop, take-append-le, length-drop}
use Rattle.wire_front.proofs.Truths.{left_holds, right_holds}
use Rattle.wire_front.specs.Message.{is_digit}
use Rattle.wire_front.specs.Reading.{StartsWith, StartsWithSize, IsNumber, IsSize, is_numeral, with_first, until_at, behind, before, ◌>>=◌, field_at}

abbrev pub is_other : ℕ → ℕ → Bool
is_other byte other = not (eqb other byte)

-- ---- options

pub map_some : {A B : Type 0} (f : A → B) (o : Option A) (y : B) → option_map f o ≡ Some y → (x : A) × (o ≡ Some x) × (f x ≡ y)
map_some f None y e = absurd cc
map_some f (Some x) y e = (x, refl, cc)

pub map_none : {A B : Type 0} (f : A → B) (o : Option A) → option_map f o ≡ None → o ≡ None
map_none f None e = refl
map_none f (Some x) e = absurd cc

pub bind_some : {A B : Type 0} (o : Option A) (f : A → Option B) (y : B) → (o >>= f) ≡ Some y → (x : A) × (o ≡ Some x) × (f x ≡ Some y)
bind_some None f y e = absurd cc
bind_some (Some x) f y e = (x, refl, e)

pub bind_is : {A B : Type 0} (o : Option A) (x : A) (f : A → Option B) (z : Option B) → o ≡ Some x → f x ≡ z → (o >>= f) ≡ z
bind_is o x f z is rest = ap (λ (s : Option _). s >>= f) is ∙ rest

abbrev some : {A : Type 0} → A → Option A
some x = Some x

only_some : {A : Type 0} (b : Bool) (x y : A) → cond b (Some x) None ≡ Some y → (b ≡ true) × (x ≡ y)
only_some true x y e = (refl, cc)
only_some false x y e = absurd cc

some_is : {A : Type 0} (x y : A) → some x ≡ some y → x ≡ y
some_is x y e = cc

-- ---- until a byte

other_is : (byte first : ℕ) → is_other byte first ≡ true → eqb first byte ≡ false
other_is byte first other = elim (eqb first byte) as (λ (b : Bool). not b ≡ true → b ≡ false) [
  | true ↦ λ e. absurd cc
  | false ↦ λ e. refl
] other

pub until_is : (byte : ℕ) (front rest : List ℕ) → list_all (is_other byte) front ≡ true → until_at byte (front ++ byte ∷ rest) ≡ Some (front, rest)
until_is byte [] rest free = rw (eq-eqb byte byte refl) refl
until_is byte (first ∷ front) rest free =
    rw (other_is byte first (left_holds _ _ free)) (ap (option_map (with_first first)) (until_is byte front rest (right_holds _ _ free)))

pub until_none : (byte : ℕ) (bytes : List ℕ) → list_all (is_other byte) bytes ≡ true → until_at byte bytes ≡ None
until_none byte [] free = refl
until_none byte (first ∷ bytes) free =
    rw (other_is byte first (left_holds _ _ free)) (ap (option_map (with_first first)) (until_none byte bytes (right_holds _ _ free)))

-- a text without such a byte, the byte, and the rest
pub record Cuts (byte : ℕ) (bytes : List ℕ) (parts : List ℕ × List ℕ) : Type 0 where
  pub whole : bytes ≡ parts.0 ++ byte ∷ parts.1
  pub free : list_all (is_other byte) parts.0 ≡ true

cuts_here : (byte first : ℕ) (bytes : List ℕ) (parts : List ℕ × List ℕ) → eqb first byte ≡ true → ([], bytes) ≡ parts → Cuts byte (first ∷ bytes) parts
cuts_here byte first bytes parts same is =
    let e : first ≡ byte = eqb-true first byte same in
    subst (λ (x : List ℕ × List ℕ). Cuts byte (first ∷ bytes) x) is (record { whole = ap (λ (b : ℕ). b ∷ bytes) e; free = refl })

cuts_later : (byte first : ℕ) (bytes : List ℕ) (inner parts : List ℕ × List ℕ) → eqb first byte ≡ false → Cuts byte bytes inner → with_first first inner ≡ parts
    → Cuts byte (first ∷ bytes) parts
cuts_later byte first bytes inner parts other cuts is =
    subst (λ (x : List ℕ × List ℕ). Cuts byte (first ∷ bytes) x) is (record { whole = ap (λ (t : List ℕ). first ∷ t) cuts.whole; free = rw other cuts.free })

cuts_step : (byte first : ℕ) (bytes : List ℕ) (parts : List ℕ × List ℕ) (same : Bool) → eqb first byte ≡ same
    → ((inner : List ℕ × List ℕ) → until_at byte bytes ≡ Some inner → Cuts byte bytes inner)
    → cond same (Some ([], bytes)) (option_map (with_first first) (until_at byte bytes)) ≡ Some parts → Cuts byte (first ∷ bytes) parts
cuts_step byte first bytes parts true is later e = cuts_here byte first bytes parts is cc
cuts_step byte first bytes parts false is later e =
    let inner = map_some (with_first first) (until_at byte bytes) parts e in
    cuts_later byte first bytes inner.0 parts is (later inner.0 inner.1) inner.2

pub until_found : (byte : ℕ) (bytes : List ℕ) (parts : List ℕ × List ℕ) → until_at byte bytes ≡ Some parts → Cuts byte bytes parts
until_found byte [] parts e = absurd cc
until_found byte (first ∷ bytes) parts e = cuts_step byte first bytes parts (eqb first byte) refl (until_found byte bytes) e

free_step : (byte first : ℕ) (bytes : List ℕ) (same : Bool) → eqb first byte ≡ same → (until_at byte bytes ≡ None → list_all (is_other byte) bytes ≡ true)
    → cond same (Some ([], bytes)) (option_map (with_first first) (until_at byte bytes)) ≡ None → list_all (is_other byte) (first ∷ bytes) ≡ true
free_step byte first bytes true is later e = absurd cc
free_step byte first bytes false is later e = rw is (later (map_none (with_first first) (until_at byte bytes) e))

pub until_missed : (byte : ℕ) (bytes : List ℕ) → until_at byte bytes ≡ None → list_all (is_other byte) bytes ≡ true
until_missed byte [] e = refl
until_missed byte (first ∷ bytes) e = free_step byte first bytes (eqb first byte) refl (until_missed byte bytes) e

-- at a place before which there is no such byte
pub until_place : (byte : ℕ) (bytes : List ℕ) (at : ℕ) → at < length bytes → get_or bytes at 0 ≡ byte → list_all (is_other byte) (take at bytes) ≡ true
    → until_at byte bytes ≡ Some (take at bytes, take (length bytes - (at + 1)) (drop (at + 1) bytes))
until_place byte bytes at within is free =
    let all : take (length bytes - (at + 1)) (drop (at + 1) bytes) ≡ drop (at + 1) bytes = take_all _ _ (omega (arith, length-drop (at + 1) bytes)) in
    let behind_it : drop at bytes ≡ byte ∷ drop (at + 1) bytes = rw (add-one, drop-cons bytes at 0) (ap (λ (b : ℕ). b ∷ drop (suc at) bytes) is) in
    let whole : bytes ≡ take at bytes ++ byte ∷ drop (at + 1) bytes = sym (take-append-drop at bytes) ∙ ap (λ (t : List ℕ). take at bytes ++ t) behind_it in
    rw all (ap (until_at byte) whole ∙ until_is byte (take at bytes) (drop (at + 1) bytes) free)

pub until_past : (byte : ℕ) (bytes : List ℕ) (at : ℕ) → length bytes ≤ at → list_all (is_other byte) (take at bytes) ≡ true → until_at byte bytes ≡ None
until_past byte bytes at past free = until_none byte bytes (subst (λ (t : List ℕ). list_all (is_other byte) t ≡ true) (take_all at bytes past) free)

-- two cuts of the same bytes are one
pub one_cut : (byte : ℕ) (a b r s : List ℕ) → list_all (is_other byte) a ≡ true → list_all (is_other byte) b ≡ true → a ++ byte ∷ r ≡ b ++ byte ∷ s → (a ≡ b) × (r ≡ s)
one_cut byte a b r s free_a free_b same =
    let e = some_is (a, r) (b, s) (sym (until_is byte a r free_a) ∙ ap (until_at byte) same ∙ until_is byte b s free_b) in
    (ap (λ (x : List ℕ × List ℕ). x.0) e, ap (λ (x : List ℕ × List ℕ). x.1) e)

-- ---- fixed texts

alike_case : (xs : List ℕ) (b : Bool) → b ≡ pointwise nat_eq xs xs → pointwise nat_eq xs xs ≡ true
alike_case xs true is = sym is
alike_case xs false is = absurd (other_text xs xs is refl)

pub alike : (xs : List ℕ) → pointwise nat_eq xs xs ≡ true
alike xs = alike_case xs (pointwise nat_eq xs xs) refl

pub behind_is : (text rest : List ℕ) → behind text (text ++ rest) ≡ Some rest
behind_is text rest = rw (take_at text rest (length text) refl, drop_at text rest (length text) refl, alike text) refl

pub behind_found : (text bytes rest : List ℕ) → behind text bytes ≡ Some rest → bytes ≡ text ++ rest
behind_found text bytes rest e =
    let g = only_some (pointwise nat_eq (take (length text) bytes) text) (drop (length text) bytes) rest e in
    let front : take (length text) bytes ≡ text = same_text _ _ (sym g.0) in
    sym (take-append-drop (length text) bytes) ∙ ap (λ (t : List ℕ). t ++ drop (length text) bytes) front ∙ ap (λ (t : List ℕ). text ++ t) g.1

pub before_is : (front text : List ℕ) → before text (front ++ text) ≡ Some front
before_is front text =
    let size : length (front ++ text) - length text ≡ length front = omega (arith, length-append front text) in
    rw (size, take_at front text (length front) refl, drop_at front text (length front) refl, alike text) refl

pub before_found : (text bytes front : List ℕ) → before text bytes ≡ Some front → bytes ≡ front ++ text
before_found text bytes front e =
    let n = length bytes - length text in
    let g = only_some (pointwise nat_eq (drop n bytes) text) (take n bytes) front e in
    let back : drop n bytes ≡ text = same_text _ _ (sym g.0) in
    sym (take-append-drop n bytes) ∙ ap (λ (t : List ℕ). take n bytes ++ t) back ∙ ap (λ (t : List ℕ). t ++ text) g.1

pub field_is : (text : List ℕ) (end : ℕ) (value rest : List ℕ) → list_all (is_other end) value ≡ true
    → field_at text end (text ++ (value ++ end ∷ rest)) ≡ Some (value, rest)
unfolding field_at
field_is text end value rest free =
    bind_is (behind text (text ++ (value ++ end ∷ rest))) (value ++ end ∷ rest) (until_at end) (Some (value, rest)) (behind_is text (value ++ end ∷ rest))
    (until_is end value rest free)

pub field_found : (text : List ℕ) (end : ℕ) (bytes : List ℕ) (x : List ℕ × List ℕ) → field_at text end bytes ≡ Some x → bytes ≡ text ++ (x.0 ++ end ∷ x.1)
unfolding field_at
field_found text end bytes x e =
    let rest = bind_some (behind text bytes) (until_at end) x e in
    behind_found text bytes rest.0 rest.1 ∙ ap (λ (t : List ℕ). text ++ t) (until_found end rest.0 x rest.2).whole

-- ---- fixed texts that aren't there

-- a list is the front of another
pub record IsFront (short long : List ℕ) : Type 0 where
  pub rest : List ℕ
  pub whole : long ≡ short ++ rest

pub too_short : (text bytes : List ℕ) → length bytes < length text → StartsWith text bytes → ⊥
too_short text bytes less starts =
    omega (arith, ap length starts.whole, length-append text starts.rest)

pub begun_alike : (text bytes more : List ℕ) → length bytes < length text → StartsWith text (bytes ++ more) → pointwise nat_eq bytes (take (length bytes) text) ≡ true
begun_alike text bytes more less starts =
    let fronts : take (length bytes) (bytes ++ more) ≡ take (length bytes) (text ++ starts.rest) = ap (take (length bytes)) starts.whole in
    let front : take (length bytes) (text ++ starts.rest) ≡ take (length bytes) text = take-append-le (length bytes) text starts.rest (omega arith) in
    let same : bytes ≡ take (length bytes) text = sym (take_at bytes more (length bytes) refl) ∙ fronts ∙ front in
    subst (λ (t : List ℕ). pointwise nat_eq bytes t ≡ true) same (alike bytes)

pub other_begun : (text bytes : List ℕ) → length bytes < length text → false ≡ pointwise nat_eq bytes (take (length bytes) text)
    → (more : List ℕ) → StartsWith text (bytes ++ more) → ⊥
other_begun text bytes less other more starts =
    let one = begun_alike text bytes more less starts in
    absurd cc

pub started : (text bytes rest : List ℕ) → pointwise nat_eq (take (length text) bytes) text ≡ true → rest ≡ drop (length text) bytes → bytes ≡ text ++ rest
started text bytes rest alike_front is =
    let front : take (length text) bytes ≡ text = same_text _ _ (sym alike_front) in
    sym (take-append-drop (length text) bytes) ∙ ap (λ (t : List ℕ). t ++ drop (length text) bytes) front ∙ ap (λ (t : List ℕ). text ++ t) (sym is)

pub other_start : (text bytes : List ℕ) → length text ≤ length bytes → pointwise nat_eq (take (length text) bytes) text ≡ false
    → (more : List ℕ) → StartsWith text (bytes ++ more) → ⊥
other_start text bytes long other more starts =
    let fronts : take (length text) (bytes ++ more) ≡ take (length text) (text ++ starts.rest) = ap (take (length text)) starts.whole in
    let front : take (length text) (bytes ++ more) ≡ take (length text) bytes = take-append-le (length text) bytes more long in
    let same : take (length text) bytes ≡ text = sym front ∙ fronts ∙ take_at text starts.rest (length text) refl in
    let one : pointwise nat_eq (take (length text) bytes) text ≡ true = rw same (alike text) in
    absurd cc

-- ---- numbers

pub own : IsNumeralModel (λ (ds : List ℕ). list_all is_digit ds ≡ true) (digits_value 10)
own = numerals_by_value _ (search rules)

numeral_case : (text : List ℕ) → list_all is_digit text ≡ true → 48 < get_or text 0 0 → is_numeral text ≡ true
numeral_case [] digits first = absurd (omega arith)
numeral_case (byte ∷ bytes) digits first =
    let other : eqb byte 48 ≡ false = grind (arith, nat_tests) in
    rw other digits

pub decimal_is_numeral : (number : ℕ) → IsNumber number → is_numeral (decimal number) ≡ true
decimal_is_numeral number is = numeral_case (decimal number) (digits_decimal own number is.1) (first_decimal number is.0 is.1)

pub no_numeral : (text : List ℕ) → is_numeral text ≡ false → (number : ℕ) → IsNumber number → text ≢ decimal number
no_numeral text not_one number is same =
    let one = decimal_is_numeral number is in
    let wrong : is_numeral text ≡ true = rw same one in
    absurd cc

pub no_text : (text : List ℕ) → (IsUtf8 text → ⊥) → (number : ℕ) → IsNumber number → text ≢ decimal number
no_text text not_text number is same = not_text (rw same (IsUtf8-from_ascii (decimal number) (IsAscii-decimal number is.1)))

some_first : (text : List ℕ) → is_numeral text ≡ true → (list_all is_digit text ≡ true) × (0 < length text) × (get_or text 0 0 ≢ 48)
some_first [] is = absurd cc
some_first (byte ∷ bytes) is =
    let other : not (eqb byte 48) ≡ true = left_holds _ _ is in
    (right_holds _ _ is, omega arith, λ zero_first. let e : eqb byte 48 ≡ true = eq-eqb byte 48 zero_first in absurd cc)

nonzero : (number : ℕ) → is_numeral (decimal number) ≡ true → 1 ≤ number
nonzero zero is = let e : decimal 0 ≡ 48 ∷ [] = decimal_digit 0 (omega arith) in let wrong : is_numeral (48 ∷ []) ≡ true = subst (λ (t : List ℕ). is_numeral t ≡ true) e is in absurd cc
nonzero (suc number) is = omega arith

pub parsed : {E : Type 0} (text : List ℕ) (number : ℕ) (r : Result ℕ E) → is_numeral text ≡ true → r ≡ Ok number → ParsesUnsigned 64 10 text r
    → IsNumber number × (text ≡ decimal number)
parsed {E = E} text number r is ok parses =
    let f = some_first text is in
    let read : OkIff {E = E} (Ok number) ((0 < length text) × (digits_value 10 text < 2 ^ 64)) (digits_value 10 text) = parse_digits own {E = E} 64 text (Ok number) (subst (λ (x : Result ℕ E). ParsesUnsigned 64 10 text x) ok parses) f.0 in
    let value : number ≡ digits_value 10 text = read.1 in
    let again : decimal (digits_value 10 text) ≡ text = decimal-digits_value own text f.0 f.1 (λ zero_first. absurd (f.2 zero_first)) read.0.1 in
    let same : text ≡ decimal number = sym again ∙ ap decimal (sym value) in
    ((nonzero number (subst (λ (t : List ℕ). is_numeral t ≡ true) same is), omega (arith, read.0.1, value)), same)

pub unparsed : {E : Type 0} (text : List ℕ) (r : Result ℕ E) (e : E) → r ≡ Err e → ParsesUnsigned 64 10 text r → (number : ℕ) → IsNumber number → text ≢ decimal number
unparsed text r e failed parses number is same =
    let one = parse-decimal 64 number text r is.1 is.1 same parses in
    absurd cc

-- a number above the greatest that is meant
pub too_large : (text : List ℕ) (number most : ℕ) → number < 2 ^ 64 → most < number → text ≡ decimal number → (value : ℕ) → value ≤ most → text ≢ decimal value
too_large text number most fits above is value within same =
    let one = decimal_injective number value fits (omega arith) (sym is ∙ same) in
    omega arith

-- ---- sizes

pub all_other : (p q : ℕ → Bool) → ((x : ℕ) → p x ≡ true → q x ≡ true) → (xs : List ℕ) → list_all p xs ≡ true → list_all q xs ≡ true
all_other p q gives [] all = refl
all_other p q gives (x ∷ xs) all = rw (gives x (left_holds _ _ all)) (all_other p q gives xs (right_holds _ _ all))

pub digit_other : (byte : ℕ) → byte < 48 → (x : ℕ) → is_digit x ≡ true → is_other byte x ≡ true
digit_other byte low x digit =
    let least : 48 ≤ x = leb-true 48 x (left_holds _ _ digit) in
    let other : eqb x byte ≡ false = grind (arith, nat_tests) in
    rw other refl

pub decimal_free : (byte number : ℕ) → byte < 48 → number < 2 ^ 64 → list_all (is_other byte) (decimal number) ≡ true
decimal_free byte number low fits = all_other is_digit (is_other byte) (digit_other byte low) (decimal number) (digits_decimal own number fits)

pub size_found : (bytes number rest : List ℕ) (size : ℕ) → Some (number, rest) ≡ until_at 13 bytes → number ≡ decimal size → bytes ≡ decimal size ++ 13 ∷ rest
size_found bytes number rest size is same = (until_found 13 bytes (number, rest) (sym is)).whole ∙ ap (λ (t : List ℕ). t ++ 13 ∷ rest) same

pub size_small : (size : ℕ) → IsSize size → size < 2 ^ 64
size_small size is = omega (arith, is.1)

pub no_size : (bytes number rest : List ℕ) → Some (number, rest) ≡ until_at 13 bytes → ((size : ℕ) → IsSize size → number ≢ decimal size)
    → (more : List ℕ) → StartsWithSize (bytes ++ more) → ⊥
no_size bytes number rest is none more starts =
    let cut = until_found 13 bytes (number, rest) (sym is) in
    let longer : bytes ++ more ≡ number ++ 13 ∷ (rest ++ more) = ap (λ (t : List ℕ). t ++ more) cut.whole ∙ append_assoc number (13 ∷ rest) more in
    none starts.size starts.is
    (one_cut 13 number (decimal starts.size) (rest ++ more) starts.rest cut.free (decimal_free 13 starts.size (omega arith) (size_small starts.size starts.is))
    (sym longer ∙ starts.whole)).0

pub size_so_far : (bytes : List ℕ) → until_at 13 bytes ≡ None → StartsWithSize bytes → ⊥
size_so_far bytes missed starts =
    let there : until_at 13 bytes ≡ Some (decimal starts.size, starts.rest) = ap (until_at 13) starts.whole ∙ until_is 13 (decimal starts.size) starts.rest (decimal_free 13 starts.size (omega arith) (size_small starts.size starts.is)) in
    absurd cc

pub front_of : (byte : ℕ) (a d more rest : List ℕ) → list_all (is_other byte) a ≡ true → a ++ more ≡ d ++ byte ∷ rest → IsFront a d
front_of byte [] d more rest free same = record { rest = d; whole = refl }
front_of byte (x ∷ a) [] more rest free same =
    let e : x ≡ byte = cc in
    let other : not (eqb x byte) ≡ true = left_holds _ _ free in
    let one : eqb x byte ≡ true = eq-eqb x byte e in
    absurd cc
front_of byte (x ∷ a) (y ∷ d) more rest free same =
    let e : x ≡ y = cc in
    let tails : a ++ more ≡ d ++ byte ∷ rest = cc in
    let later : IsFront a d = front_of byte a d more rest (right_holds (is_other byte x) (list_all (is_other byte) a) free) tails in
    record { rest = later.rest; whole = ap (λ (b : ℕ). b ∷ d) (sym e) ∙ ap (λ (t : List ℕ). x ∷ t) later.whole }

pub front_all : (p : ℕ → Bool) (a b : List ℕ) → list_all p (a ++ b) ≡ true → list_all p a ≡ true
front_all p [] b all = refl
front_all p (x ∷ a) b all = rw (left_holds (p x) (list_all p (a ++ b)) all) (front_all p a b (right_holds (p x) (list_all p (a ++ b)) all))

-- the beginning of a size is some digits
pub size_begun : (bytes more : List ℕ) → until_at 13 bytes ≡ None → StartsWithSize (bytes ++ more) → (length bytes ≤ 5) × (list_all is_digit bytes ≡ true)
size_begun bytes more missed starts =
    let front = front_of 13 bytes (decimal starts.size) more starts.rest (until_missed 13 bytes missed) starts.whole in
    let digits : list_all is_digit (decimal starts.size) ≡ true = digits_decimal own starts.size (size_small starts.size starts.is) in
    let short : length (decimal starts.size) ≤ 5 = length-decimal-le 5 starts.size (omega arith) (omega (arith, starts.is.1)) (size_small starts.size starts.is) in
    (omega (arith, short, ap length front.whole, length-append bytes front.rest), front_all is_digit bytes front.rest (subst (λ (t : List ℕ). list_all is_digit t ≡ true) front.whole digits))
