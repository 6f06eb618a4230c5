-- A head that was written is read again, and what is read as a head was written so.
use Rattle.std.proofs.Common.{◌≡◌, ◌≢◌, ℕ, zero, suc, ◌+◌, ◌-◌, ◌*◌, ◌/◌, ◌%◌, ◌^◌, ◌<◌, ◌≤◌, Bool, true, false, cond, ltb, eqb, List, [], ◌∷◌, ◌++◌, length, get_or, take, drop, Result, Ok, Err, refl, sym, ap, subst, ◌∙◌, append_assoc, arith, inl, inr}
use Rattle.std.proofs.lemmas.Bool.{cases_lt, ltb-false, lt-ltb, le-ltb, eqb-false, ne_eqb, or_parts}
use Rattle.std.proofs.lemmas.List.{take_at, drop_at, take-append-drop, length-append, length-take}
use Rattle.der_text.specs.declared.fault.DerKind.{DerKind}
use Rattle.der_text.specs.declared.fault.DerKind.TheVariants.{BadContent}
use Rattle.der_text.specs.Content.{keeps_rule}
use Rattle.der_text.specs.Tree.{length_octets, element, IsElement}
use Rattle.der_text.specs.Fault.{◌>>=◌, Front, number_of, begins_with_zero, long_length, length_at, content_at, front_of, IsFront}

abbrev pub IsBytes : List ℕ → Type 0
IsBytes bytes = (i : ℕ) → get_or bytes i 0 < 256

-- a test that did not fail
guard_ok : {A : Type 0} (b : Bool) (d : DerKind) (x : Result A DerKind) (y : A) → cond b (Err d) x ≡ Ok y → (b ≡ false) × (x ≡ Ok y)
guard_ok true d x y e = absurd cc
guard_ok false d x y e = (refl, e)

-- a test that held
guard_held : {A : Type 0} (b : Bool) (d : DerKind) (x y : A) → cond b (Ok x) (Err d) ≡ Ok y → (b ≡ true) × (x ≡ y)
guard_held true d x y e = (refl, cc)
guard_held false d x y e = absurd cc

abbrev done : {A : Type 0} → A → Result A DerKind
done x = Ok x

pub ok_is : {A : Type 0} (x y : A) → done x ≡ done y → x ≡ y
ok_is x y e = cc

-- ---- the octets of a length

octets_short : (n : ℕ) → n < 128 → length_octets n ≡ n ∷ []
unfolding length_octets
octets_short n low = rw (lt-ltb n 128 low) refl

octets_one : (n : ℕ) → 128 ≤ n → n < 2 ^ 8 → length_octets n ≡ 129 ∷ n ∷ []
unfolding length_octets
octets_one n low high = rw (le-ltb n 128 low, lt-ltb n 256 high) refl

octets_two : (n a b : ℕ) → n ≡ 256 * a + b → 0 < a → a < 256 → b < 256 → length_octets n ≡ 130 ∷ a ∷ b ∷ []
unfolding length_octets
octets_two n a b e some high low =
    let first : n / 2 ^ 8 ≡ a = omega arith in
    let second : n % 2 ^ 8 ≡ b = omega arith in
    rw (le-ltb n 128 (omega arith), le-ltb n 256 (omega arith), lt-ltb n 65536 (omega arith), first, second) refl

octets_three : (n a b c : ℕ) → n ≡ 65536 * a + 256 * b + c → 0 < a → a < 256 → b < 256 → c < 256 → length_octets n ≡ 131 ∷ a ∷ b ∷ c ∷ []
unfolding length_octets
octets_three n a b c e some high middle low =
    let first : n / 2 ^ 16 ≡ a = omega arith in
    let second : (n / 2 ^ 8) % 2 ^ 8 ≡ b = omega arith in
    let third : n % 2 ^ 8 ≡ c = omega arith in
    rw (le-ltb n 128 (omega arith), le-ltb n 256 (omega arith), le-ltb n 65536 (omega arith), lt-ltb n 16777216 (omega arith), first, second, third) refl

octets_four : (n a b c d : ℕ) → n ≡ 16777216 * a + 65536 * b + 256 * c + d → 0 < a → a < 256 → b < 256 → c < 256 → d < 256 → length_octets n ≡ 132 ∷ a ∷ b ∷ c ∷ d ∷ []
unfolding length_octets
octets_four n a b c d e some high middle third_low low =
    let first : n / 2 ^ 24 ≡ a = omega arith in
    let second : (n / 2 ^ 16) % 2 ^ 8 ≡ b = omega arith in
    let third : (n / 2 ^ 8) % 2 ^ 8 ≡ c = omega arith in
    let fourth : n % 2 ^ 8 ≡ d = omega arith in
    rw (le-ltb n 128 (omega arith), le-ltb n 256 (omega arith), le-ltb n 65536 (omega arith), le-ltb n 16777216 (omega arith), first, second, third, fourth) refl

pub few_octets : (n : ℕ) → length (length_octets n) ≤ 5
unfolding length_octets
few_octets n =
    elim (cases_lt n 128) [
      | inl a ↦ rw (lt-ltb n 128 a) (omega arith)
      | inr a ↦ elim (cases_lt n 256) [
        | inl b ↦ rw (le-ltb n 128 a, lt-ltb n 256 b) (omega arith)
        | inr b ↦ elim (cases_lt n 65536) [
          | inl c ↦ rw (le-ltb n 128 a, le-ltb n 256 b, lt-ltb n 65536 c) (omega arith)
          | inr c ↦ elim (cases_lt n 16777216) [
            | inl d ↦ rw (le-ltb n 128 a, le-ltb n 256 b, le-ltb n 65536 c, lt-ltb n 16777216 d) (omega arith)
            | inr d ↦ rw (le-ltb n 128 a, le-ltb n 256 b, le-ltb n 65536 c, le-ltb n 16777216 d) (omega arith)
          ]
        ]
      ]
    ]

pub two_octets : (n : ℕ) → n < 2 ^ 8 → length (length_octets n) ≤ 2
unfolding length_octets
two_octets n low =
    elim (cases_lt n 128) [
      | inl a ↦ rw (lt-ltb n 128 a) (omega arith)
      | inr a ↦ rw (le-ltb n 128 a, lt-ltb n 256 low) (omega arith)
    ]

pub three_octets : (n : ℕ) → n < 2 ^ 16 → length (length_octets n) ≤ 3
unfolding length_octets
three_octets n low =
    elim (cases_lt n 128) [
      | inl a ↦ rw (lt-ltb n 128 a) (omega arith)
      | inr a ↦ elim (cases_lt n 256) [
        | inl b ↦ rw (le-ltb n 128 a, lt-ltb n 256 b) (omega arith)
        | inr b ↦ rw (le-ltb n 128 a, le-ltb n 256 b, lt-ltb n 65536 low) (omega arith)
      ]
    ]

-- ---- what is written is read

-- needed length bytes that are none too many
long_again : (count n : ℕ) (octets rest : List ℕ) → length octets ≡ count → number_of octets ≡ n → 128 ≤ n → begins_with_zero octets ≡ false → long_length count (octets ++ rest) ≡ Ok (n, rest)
unfolding long_length
long_again count n octets rest counted value needed first =
    let there : ltb (length (octets ++ rest)) count ≡ false = le-ltb _ _ (omega (arith, length-append octets rest)) in
    let large : ltb n 128 ≡ false = le-ltb n 128 needed in
    rw (there, take_at octets rest count counted, drop_at octets rest count counted, value, large, first) refl

pub length_again : (n : ℕ) (rest : List ℕ) → n < 2 ^ 32 → length_at (length_octets n ++ rest) ≡ Ok (n, rest)
unfolding length_at
length_again n rest high =
    elim (cases_lt n 128) [
      | inl short ↦ rw (octets_short n short, lt-ltb n 128 short) refl
      | inr long ↦ elim (cases_lt n (2 ^ 8)) [
        | inl one ↦ rw (octets_one n long one) (long_again 1 n (n ∷ []) rest refl (omega arith) long (ne_eqb n 0 (λ e. omega arith)))
        | inr more ↦ elim (cases_lt n (2 ^ 16)) [
          | inl two ↦
              let a = n / 256 in
              let b = n % 256 in
              rw (octets_two n a b (omega arith) (omega arith) (omega arith) (omega arith))
              (long_again 2 n (a ∷ b ∷ []) rest refl (omega arith) long (ne_eqb a 0 (λ e. omega arith)))
          | inr further ↦ elim (cases_lt n (2 ^ 24)) [
            | inl three ↦
                let a = n / 65536 in
                let b = (n / 256) % 256 in
                let c = n % 256 in
                rw (octets_three n a b c (omega arith) (omega arith) (omega arith) (omega arith) (omega arith))
                (long_again 3 n (a ∷ b ∷ c ∷ []) rest refl (omega arith) long (ne_eqb a 0 (λ e. omega arith)))
            | inr four ↦
                let a = n / 16777216 in
                let b = (n / 65536) % 256 in
                let c = (n / 256) % 256 in
                let d = n % 256 in
                rw (octets_four n a b c d (omega arith) (omega arith) (omega arith) (omega arith) (omega arith) (omega arith))
                (long_again 4 n (a ∷ b ∷ c ∷ d ∷ []) rest refl (omega arith) long (ne_eqb a 0 (λ e. omega arith)))
          ]
        ]
      ]
    ]

abbrev counted : ℕ → List ℕ → ℕ × List ℕ
counted n rest = (n, rest)

pub one_content : (tag other : ℕ) (content others : List ℕ) → length content < 2 ^ 32 → length others < 2 ^ 32 → element tag content ≡ element other others → content ≡ others
one_content tag other content others size size' e =
    let behind : length_octets (length content) ++ content ≡ length_octets (length others) ++ others = cc e in
    let read = sym (length_again (length content) content size) ∙ ap length_at behind ∙ length_again (length others) others size' in
    ap (λ (p : ℕ × List ℕ). p.1) (ok_is (counted (length content) content) (counted (length others) others) read)

pub front_again : (levels tag : ℕ) (content after : List ℕ) → IsElement tag content → front_of (suc levels) (element tag content ++ after) ≡ Ok (record { tag = tag; content = content; after = after })
unfolding front_of content_at
front_again levels tag content after good =
    let one_byte : eqb (tag % 32) 31 ≡ false = ne_eqb _ _ good.one_byte_tag in
    let sized : length_at ((length_octets (length content) ++ content) ++ after) ≡ Ok (length content, content ++ after) =
    ap length_at (append_assoc (length_octets (length content)) content after) ∙ length_again (length content) (content ++ after) good.size in
    let there : ltb (length (content ++ after)) (length content) ≡ false = le-ltb _ _ (omega (arith, length-append content after)) in
    let shallow : eqb (suc levels) 0 ≡ false = ne_eqb _ _ (λ e. omega arith) in
    let rule : keeps_rule tag content ≡ true = good.rule in
    rw (one_byte, sized, there, shallow, take_at content after (length content) refl, drop_at content after (length content) refl, rule) refl

-- ---- what is read was written

one_found : (more : List ℕ) (n : ℕ) (rest : List ℕ) → IsBytes more → long_length 1 more ≡ Ok (n, rest) → (129 ∷ more ≡ length_octets n ++ rest) × (n < 2 ^ 32)
unfolding long_length
one_found [] n rest fits e = absurd cc
one_found (a ∷ r) n rest fits e =
    let there = guard_ok _ _ _ (n, rest) e in
    let needed = guard_ok _ _ _ (n, rest) there.1 in
    let parts = or_parts _ _ needed.0 in
    let same = ok_is (256 * 0 + a, r) (n, rest) needed.1 in
    let value : 256 * 0 + a ≡ n = ap (λ (p : ℕ × List ℕ). p.0) same in
    let behind : r ≡ rest = ap (λ (p : ℕ × List ℕ). p.1) same in
    let large : 128 ≤ 256 * 0 + a = ltb-false _ _ parts.0 in
    let is : n ≡ a = omega arith in
    (rw (octets_one n (omega arith) (omega (arith, fits 0)), ← behind, is) refl, omega (arith, fits 0))

two_found : (more : List ℕ) (n : ℕ) (rest : List ℕ) → IsBytes more → long_length 2 more ≡ Ok (n, rest) → (130 ∷ more ≡ length_octets n ++ rest) × (n < 2 ^ 32)
unfolding long_length
two_found [] n rest fits e = absurd cc
two_found (a ∷ []) n rest fits e = absurd cc
two_found (a ∷ b ∷ r) n rest fits e =
    let there = guard_ok _ _ _ (n, rest) e in
    let needed = guard_ok _ _ _ (n, rest) there.1 in
    let parts = or_parts _ _ needed.0 in
    let same = ok_is (256 * (256 * 0 + a) + b, r) (n, rest) needed.1 in
    let value : 256 * (256 * 0 + a) + b ≡ n = ap (λ (p : ℕ × List ℕ). p.0) same in
    let behind : r ≡ rest = ap (λ (p : ℕ × List ℕ). p.1) same in
    let some : a ≢ 0 = eqb-false _ _ parts.1 in
    (rw (octets_two n a b (omega arith) (omega arith) (fits 0) (fits 1), ← behind) refl, omega (arith, fits 0, fits 1))

three_found : (more : List ℕ) (n : ℕ) (rest : List ℕ) → IsBytes more → long_length 3 more ≡ Ok (n, rest) → (131 ∷ more ≡ length_octets n ++ rest) × (n < 2 ^ 32)
unfolding long_length
three_found [] n rest fits e = absurd cc
three_found (a ∷ []) n rest fits e = absurd cc
three_found (a ∷ b ∷ []) n rest fits e = absurd cc
three_found (a ∷ b ∷ c ∷ r) n rest fits e =
    let there = guard_ok _ _ _ (n, rest) e in
    let needed = guard_ok _ _ _ (n, rest) there.1 in
    let parts = or_parts _ _ needed.0 in
    let same = ok_is (256 * (256 * (256 * 0 + a) + b) + c, r) (n, rest) needed.1 in
    let value : 256 * (256 * (256 * 0 + a) + b) + c ≡ n = ap (λ (p : ℕ × List ℕ). p.0) same in
    let behind : r ≡ rest = ap (λ (p : ℕ × List ℕ). p.1) same in
    let some : a ≢ 0 = eqb-false _ _ parts.1 in
    (rw (octets_three n a b c (omega arith) (omega arith) (fits 0) (fits 1) (fits 2), ← behind) refl, omega (arith, fits 0, fits 1, fits 2))

four_found : (more : List ℕ) (n : ℕ) (rest : List ℕ) → IsBytes more → long_length 4 more ≡ Ok (n, rest) → (132 ∷ more ≡ length_octets n ++ rest) × (n < 2 ^ 32)
unfolding long_length
four_found [] n rest fits e = absurd cc
four_found (a ∷ []) n rest fits e = absurd cc
four_found (a ∷ b ∷ []) n rest fits e = absurd cc
four_found (a ∷ b ∷ c ∷ []) n rest fits e = absurd cc
four_found (a ∷ b ∷ c ∷ d ∷ r) n rest fits e =
    let there = guard_ok _ _ _ (n, rest) e in
    let needed = guard_ok _ _ _ (n, rest) there.1 in
    let parts = or_parts _ _ needed.0 in
    let same = ok_is (256 * (256 * (256 * (256 * 0 + a) + b) + c) + d, r) (n, rest) needed.1 in
    let value : 256 * (256 * (256 * (256 * 0 + a) + b) + c) + d ≡ n = ap (λ (p : ℕ × List ℕ). p.0) same in
    let behind : r ≡ rest = ap (λ (p : ℕ × List ℕ). p.1) same in
    let some : a ≢ 0 = eqb-false _ _ parts.1 in
    (rw (octets_four n a b c d (omega arith) (omega arith) (fits 0) (fits 1) (fits 2) (fits 3), ← behind) refl, omega (arith, fits 0, fits 1, fits 2, fits 3))

long_found : (first count : ℕ) (more : List ℕ) (n : ℕ) (rest : List ℕ) → IsBytes more → first ≡ 128 + count → 1 ≤ count → count ≤ 4 → long_length count more ≡ Ok (n, rest) → (first ∷ more ≡ length_octets n ++ rest) × (n < 2 ^ 32)
long_found first zero more n rest fits is some few e = absurd (omega arith)
long_found first (suc zero) more n rest fits is some few e = rw is (one_found more n rest fits e)
long_found first (suc (suc zero)) more n rest fits is some few e = rw is (two_found more n rest fits e)
long_found first (suc (suc (suc zero))) more n rest fits is some few e = rw is (three_found more n rest fits e)
long_found first (suc (suc (suc (suc zero)))) more n rest fits is some few e = rw is (four_found more n rest fits e)
long_found first (suc (suc (suc (suc (suc k))))) more n rest fits is some few e = absurd (omega arith)

length_found : (bytes : List ℕ) (n : ℕ) (rest : List ℕ) → IsBytes bytes → length_at bytes ≡ Ok (n, rest) → (bytes ≡ length_octets n ++ rest) × (n < 2 ^ 32)
unfolding length_at
length_found [] n rest fits e = absurd cc
length_found (first ∷ more) n rest fits e =
    elim (cases_lt first 128) [
      | inl short ↦
          let here : done (first, more) ≡ Ok (n, rest) = rw (lt-ltb first 128 short) at e in
          let same = ok_is (first, more) (n, rest) here in
          let value : first ≡ n = ap (λ (p : ℕ × List ℕ). p.0) same in
          let behind : more ≡ rest = ap (λ (p : ℕ × List ℕ). p.1) same in
          (rw (← value, ← behind, octets_short first short) refl, omega arith)
      | inr long ↦
          let here = rw (le-ltb first 128 long) at e in
          let definite = guard_ok _ _ _ (n, rest) here in
          let parts = or_parts _ _ definite.0 in
          let some : first ≢ 128 = eqb-false _ _ parts.0 in
          let few : first ≤ 132 = ltb-false _ _ parts.1 in
          long_found first (first - 128) more n rest (λ i. fits (suc i)) (omega arith) (omega arith) (omega arith) definite.1
    ]

content_found : (levels tag size : ℕ) (rest : List ℕ) (f : Front) → tag % 32 ≢ 31 → size < 2 ^ 32 → content_at levels tag size rest ≡ Ok f → IsFront levels (tag ∷ length_octets size ++ rest) f
unfolding content_at
content_found levels tag size rest f one_byte fits e =
    let there = guard_ok _ _ _ f e in
    let shallow = guard_ok _ _ _ f there.1 in
    let made : Front = record { tag = tag; content = take size rest; after = drop size rest } in
    let kept = guard_held (keeps_rule tag (take size rest)) BadContent made f shallow.1 in
    let long : size ≤ length rest = ltb-false _ _ there.0 in
    let deep : levels ≢ 0 = eqb-false _ _ shallow.0 in
    let len : length (take size rest) ≡ size = omega (arith, length-take size rest) in
    let whole : IsFront levels (tag ∷ length_octets size ++ rest) made = record {
      spelled = rw len (ap (λ (t : List ℕ). tag ∷ t) (ap (λ (t : List ℕ). length_octets size ++ t) (sym (take-append-drop size rest)) ∙ sym (append_assoc (length_octets size) (take size rest) (drop size rest))));
      good = record { one_byte_tag = one_byte; size = omega arith; rule = kept.0 };
      some_levels = omega arith;
    } in
    subst (λ (g : Front). IsFront levels (tag ∷ length_octets size ++ rest) g) kept.1 whole

sized_found : (levels tag : ℕ) (rest : List ℕ) (f : Front) (sized : Result (ℕ × List ℕ) DerKind) → IsBytes rest → tag % 32 ≢ 31 → length_at rest ≡ sized → (sized >>= λ x. content_at levels tag x.0 x.1) ≡ Ok f → IsFront levels (tag ∷ rest) f
sized_found levels tag rest f (Ok x) fits one_byte is e =
    let found = length_found rest x.0 x.1 fits is in
    subst (λ (t : List ℕ). IsFront levels (tag ∷ t) f) (sym found.0) (content_found levels tag x.0 x.1 f one_byte found.1 e)
sized_found levels tag rest f (Err kind) fits one_byte is e = absurd cc

pub front_found : (levels : ℕ) (bytes : List ℕ) (f : Front) → IsBytes bytes → front_of levels bytes ≡ Ok f → IsFront levels bytes f
unfolding front_of
front_found levels [] f fits e = absurd cc
front_found levels (tag ∷ rest) f fits e =
    let one_byte = guard_ok _ _ _ f e in
    sized_found levels tag rest f (length_at rest) (λ i. fits (suc i)) (eqb-false _ _ one_byte.0) refl one_byte.1
