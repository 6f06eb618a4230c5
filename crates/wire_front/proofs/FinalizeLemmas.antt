-- A message that asks for an order to be finalized.
use Rattle.std.proofs.Common.{◌≡◌, ℕ, zero, suc, ◌<◌, ◌≤◌, true, List, [], ◌∷◌, ◌++◌, length, codes, Some, None, refl, sym, ap, subst, ◌∙◌, append_assoc, arith, length-append}
use Rattle.std.specs.List.{list_all}
use Rattle.std.specs.Prelude.{IsTrue, Result, Ok, slice_index}
use Rattle.std.specs.Str.{IsUtf8}
use Rattle.std.specs.Str.Parse.{digits_value, ParsesUnsigned}
use Rattle.std.proofs.lemmas.Str.{IsUtf8-from_ascii}
use Rattle.std.proofs.lemmas.Str.Parse.{digits_value_short, parse_gives}
use Rattle.std.proofs.lemmas.Bool.{leb-true}
use Rattle.std.proofs.lemmas.List.{append_cancel_left}
use Rattle.wire_front.proofs.Truths.{left_holds, right_holds}
use Rattle.wire_front.specs.declared.cutting.Absent.{Absent}
use Rattle.wire_front.specs.Message.{is_digit, is_order_number, finalize_text, AsksFinalize}
use Rattle.wire_front.specs.Reading.{IsAbsent, StartsWith, StartsWithNumber, StartsWithFinalize, ReadsNumber, ReadsFinalize, until_at}
use Rattle.wire_front.proofs.CutLemmas.{own, is_other, all_other, digit_other, one_cut, until_is, until_found, until_missed, front_of, front_all}
use Rattle.wire_front.proofs.FrameLemmas.{absent_behind}

-- what stands before the number, and behind the slash behind it
abbrev pub start : List ℕ
start = codes "POST /orders/"

abbrev pub end : List ℕ
end = codes "finalize HTTP/1.1\r\nhost: gate\r\nx-gate-key: acme-token\r\n\r\n"

pieces : (a b c rest : List ℕ) → (a ++ b ++ c) ++ rest ≡ a ++ (b ++ (c ++ rest))
pieces a b c rest = simp append_assoc

pub finalize_parts : (digits rest : List ℕ) → finalize_text digits ++ rest ≡ start ++ (digits ++ 47 ∷ (end ++ rest))
finalize_parts digits rest = pieces start digits (47 ∷ end) rest

-- ---- an order's number

number_short : (digits : List ℕ) → IsTrue (is_order_number digits) → length digits ≤ 19
number_short digits are = leb-true (length digits) 19 (right_holds _ _ (left_holds _ _ are))

number_digits : (digits : List ℕ) → IsTrue (is_order_number digits) → list_all is_digit digits ≡ true
number_digits digits are = right_holds _ _ are

number_free : (digits : List ℕ) → IsTrue (is_order_number digits) → list_all (is_other 47) digits ≡ true
number_free digits are = all_other is_digit (is_other 47) (digit_other 47 (omega arith)) digits (number_digits digits are)

digits_ascii : (bytes : List ℕ) → list_all is_digit bytes ≡ true → (i : ℕ) → slice_index bytes i < 128
digits_ascii [] digits i = omega arith
digits_ascii (byte ∷ bytes) digits zero = omega (arith, leb-true byte 57 (right_holds _ _ (left_holds _ _ digits)))
digits_ascii (byte ∷ bytes) digits (suc i) = digits_ascii bytes (right_holds _ _ digits) i

pub number_is_text : (digits : List ℕ) → IsTrue (is_order_number digits) → IsUtf8 digits
number_is_text digits are = IsUtf8-from_ascii digits (digits_ascii digits (number_digits digits are))

-- 19 digits are below 2 ^ 64
pub number_parses : {E : Type 0} (digits : List ℕ) (r : Result ℕ E) → IsTrue (is_order_number digits) → ParsesUnsigned 64 10 digits r → r ≡ Ok (digits_value 10 digits)
number_parses {E = E} digits r are parses =
    let some : 1 ≤ length digits = leb-true 1 (length digits) (left_holds _ _ (left_holds _ _ are)) in
    let below = digits_value_short own digits 19 (number_digits digits are) (number_short digits are) in
    parse_gives own {E = E} 64 digits r parses (number_digits digits are) (omega (arith, some)) (omega (arith, below))

pub number_read : (bytes digits rest : List ℕ) (order : ℕ) → Some (digits, rest) ≡ until_at 47 bytes → IsTrue (is_order_number digits) → order ≡ digits_value 10 digits
    → ReadsNumber bytes order rest
number_read bytes digits rest order is are value = record { digits = digits; are = are; number = value; whole = (until_found 47 bytes (digits, rest) (sym is)).whole }

pub no_number : (bytes digits rest : List ℕ) → Some (digits, rest) ≡ until_at 47 bytes → (IsTrue (is_order_number digits) → ⊥)
    → (more : List ℕ) → StartsWithNumber (bytes ++ more) → ⊥
no_number bytes digits rest is none more starts =
    let cut = until_found 47 bytes (digits, rest) (sym is) in
    let longer : bytes ++ more ≡ digits ++ 47 ∷ (rest ++ more) = ap (λ (t : List ℕ). t ++ more) cut.whole ∙ append_assoc digits (47 ∷ rest) more in
    let same = (one_cut 47 digits starts.reads.digits (rest ++ more) starts.rest cut.free (number_free starts.reads.digits starts.reads.are) (sym longer ∙ starts.reads.whole)).0 in
    none (subst (λ (t : List ℕ). IsTrue (is_order_number t)) (sym same) starts.reads.are)

pub number_so_far : (bytes : List ℕ) → until_at 47 bytes ≡ None → StartsWithNumber bytes → ⊥
number_so_far bytes missed starts =
    let there : until_at 47 bytes ≡ Some (starts.reads.digits, starts.rest) = ap (until_at 47) starts.reads.whole ∙ until_is 47 starts.reads.digits starts.rest (number_free starts.reads.digits starts.reads.are) in
    absurd cc

-- the beginning of a number is some digits
pub number_begun : (bytes more : List ℕ) → until_at 47 bytes ≡ None → StartsWithNumber (bytes ++ more) → (length bytes ≤ 19) × (list_all is_digit bytes ≡ true)
number_begun bytes more missed starts =
    let front = front_of 47 bytes starts.reads.digits more starts.rest (until_missed 47 bytes missed) starts.reads.whole in
    let short = number_short starts.reads.digits starts.reads.are in
    (omega (arith, short, ap length front.whole, length-append bytes front.rest), front_all is_digit bytes front.rest (subst (λ (t : List ℕ). list_all is_digit t ≡ true) front.whole (number_digits starts.reads.digits starts.reads.are)))

-- ---- the message

message_parts : (message rest : List ℕ) (order : ℕ) (asks : AsksFinalize message order) → message ++ rest ≡ start ++ (asks.digits ++ 47 ∷ (end ++ rest))
message_parts message rest order asks = ap (λ (t : List ℕ). t ++ rest) asks.whole ∙ finalize_parts asks.digits rest

starts_with_start : (bytes : List ℕ) → StartsWithFinalize ([] ++ bytes) → StartsWith start bytes
starts_with_start bytes starts = record { rest = starts.reads.asks.digits ++ 47 ∷ (end ++ starts.rest); whole = starts.reads.whole ∙ message_parts starts.reads.message starts.rest starts.order starts.reads.asks }

behind_start : (bytes : List ℕ) → StartsWithFinalize (start ++ bytes) → StartsWithNumber bytes
behind_start bytes starts = record {
  order = starts.order;
  rest = end ++ starts.rest;
  reads = record {
    digits = starts.reads.asks.digits;
    are = starts.reads.asks.are;
    number = starts.reads.asks.number;
    whole = append_cancel_left start bytes (starts.reads.asks.digits ++ 47 ∷ (end ++ starts.rest))
        (starts.reads.whole ∙ message_parts starts.reads.message starts.rest starts.order starts.reads.asks);
  };
}

-- the number and what stands behind its slash, of such a message
same_finalize : (digits bytes message rest : List ℕ) (order : ℕ) → IsTrue (is_order_number digits) → (asks : AsksFinalize message order)
    → start ++ (digits ++ 47 ∷ bytes) ≡ message ++ rest → (digits ≡ asks.digits) × (bytes ≡ end ++ rest)
same_finalize digits bytes message rest order are asks same =
    let behind_it : digits ++ 47 ∷ bytes ≡ asks.digits ++ 47 ∷ (end ++ rest) =
    append_cancel_left start (digits ++ 47 ∷ bytes) (asks.digits ++ 47 ∷ (end ++ rest)) (same ∙ message_parts message rest order asks) in
    one_cut 47 digits asks.digits bytes (end ++ rest) (number_free digits are) (number_free asks.digits asks.are) behind_it

pub no_start : (bytes : List ℕ) (absent : Absent) → IsAbsent (StartsWith start) bytes absent → IsAbsent StartsWithFinalize bytes absent
no_start bytes absent none = absent_behind [] StartsWithFinalize (StartsWith start) starts_with_start bytes bytes refl absent none

pub no_number_behind : (bytes rest : List ℕ) → bytes ≡ start ++ rest → (absent : Absent) → IsAbsent StartsWithNumber rest absent → IsAbsent StartsWithFinalize bytes absent
no_number_behind bytes rest is absent none = absent_behind start StartsWithFinalize StartsWithNumber behind_start bytes rest is absent none

regroup : (a b rest : List ℕ) → (a ++ (b ++ 47 ∷ [])) ++ rest ≡ a ++ (b ++ 47 ∷ rest)
regroup a b rest = append_assoc a (b ++ 47 ∷ []) rest ∙ ap (λ (t : List ℕ). a ++ t) (append_assoc b (47 ∷ []) rest)

behind_number : (digits : List ℕ) → IsTrue (is_order_number digits) → (rest : List ℕ) → StartsWithFinalize ((start ++ (digits ++ 47 ∷ [])) ++ rest) → StartsWith end rest
behind_number digits are rest starts =
    let same = same_finalize digits rest starts.reads.message starts.rest starts.order are starts.reads.asks (sym (regroup start digits rest) ∙ starts.reads.whole) in
    record { rest = starts.rest; whole = same.1 }

pub no_end_behind : (bytes number rest : List ℕ) (order : ℕ) → bytes ≡ start ++ number → ReadsNumber number order rest → (absent : Absent)
    → IsAbsent (StartsWith end) rest absent → IsAbsent StartsWithFinalize bytes absent
no_end_behind bytes number rest order is reads absent none =
    absent_behind (start ++ (reads.digits ++ 47 ∷ [])) StartsWithFinalize (StartsWith end) (behind_number reads.digits reads.are) bytes rest
    (is ∙ ap (λ (t : List ℕ). start ++ t) reads.whole ∙ sym (regroup start reads.digits rest)) absent none

pub finalize_read : (bytes number tail rest : List ℕ) (order : ℕ) → bytes ≡ start ++ number → ReadsNumber number order tail → tail ≡ end ++ rest
    → ReadsFinalize bytes order rest
finalize_read bytes number tail rest order is reads ends = record {
  message = finalize_text reads.digits;
  asks = record { digits = reads.digits; are = reads.are; number = reads.number; whole = refl };
  whole = is ∙ ap (λ (t : List ℕ). start ++ t) reads.whole ∙ ap (λ (t : List ℕ). start ++ (reads.digits ++ 47 ∷ t)) ends ∙ sym (finalize_parts reads.digits rest);
}

-- at most one such message stands at the front
pub one_finalize : (a b r s : List ℕ) (m n : ℕ) → AsksFinalize a m → AsksFinalize b n → a ++ r ≡ b ++ s → (m ≡ n) × (a ≡ b) × (r ≡ s)
one_finalize a b r s m n left right same =
    let e = same_finalize left.digits (end ++ r) b s n left.are right (sym (message_parts a r m left) ∙ same) in (
      left.number ∙ ap (digits_value 10) e.0 ∙ sym right.number,
      left.whole ∙ ap finalize_text e.0 ∙ sym right.whole,
      append_cancel_left end r s e.1,
    )
