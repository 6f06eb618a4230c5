-- Domain names as texts, and lists of them.
use Rattle.std.proofs.Common.{◌≡◌, ◌≢◌, ℕ, suc, ◌<◌, ◌≤◌, Bool, true, false, eqb, List, [], ◌∷◌, ◌++◌, length, codes, Option, Some, None, Result, Ok, refl, sym, ap, subst, ◌∙◌, append_assoc, arith, length-append}
use Rattle.std.specs.Prelude.{if◌then◌else◌}
use Rattle.std.specs.List.{flat_map, list_all, join_with_byte, AllByRecursion}
use Rattle.std.proofs.lemmas.Bool.{eqb-true}
use Rattle.std.proofs.lemmas.List.Folds.{list_all-append}
use Rattle.gate_base.specs.declared.name.Name.{Name}
use Rattle.gate_base.specs.declared.name.Target.{Target}
use Rattle.gate_base.specs.declared.name.Target.TheVariants.{Dns, Ip}
use Rattle.names_core.specs.declared.fault.NameFault.{NameFault}
use Rattle.names_core.specs.Name.{name_read}
use Rattle.names_core.specs.Target.{name_text}
use Rattle.gate_entries.specs.Target.{IsTarget}
use Rattle.wire_front.specs.Message.{is_plain_byte, domain_text, quoted, names_text, last_begins_with_letter, IsDomain, AreDistinct, AreNames}
use Rattle.wire_front.specs.Reading.{ReadsQuoted, behind, field_at}
use Rattle.wire_front.proofs.Truths.{left_holds, right_holds}
use Rattle.wire_front.proofs.CutLemmas.{is_other, field_is, field_found, behind_is, behind_found}

-- ---- what a domain name's labels are

abbrev are_plain : List (List ℕ) → Bool
are_plain labels = list_all (list_all is_plain_byte) labels

plain : (name : Name) → IsDomain (Dns name) → are_plain name.labels ≡ true
plain name is = left_holds (are_plain name.labels) (last_begins_with_letter name.labels) is.1

-- ---- bytes that no name has

-- neither in a label, nor a dot, nor a star
pub record IsForeign (byte : ℕ) : Type 0 where
  pub no_letter : is_plain_byte byte ≡ false
  pub no_dot : eqb 46 byte ≡ false

other_case : (byte x : ℕ) (same : Bool) → eqb x byte ≡ same → is_plain_byte byte ≡ false → is_plain_byte x ≡ true → is_other byte x ≡ true
other_case byte x true is foreign ok =
    let e : x ≡ byte = eqb-true x byte is in
    let wrong : is_plain_byte byte ≡ true = subst (λ (b : ℕ). is_plain_byte b ≡ true) e ok in
    absurd cc
other_case byte x false is foreign ok = rw is refl

pub label_free : (byte : ℕ) → IsForeign byte → (label : List ℕ) → list_all is_plain_byte label ≡ true → list_all (is_other byte) label ≡ true
label_free byte foreign [] ok = refl
label_free byte foreign (x ∷ label) ok =
    rw (other_case byte x (eqb x byte) refl foreign.no_letter (left_holds (is_plain_byte x) (list_all is_plain_byte label) ok))
    (label_free byte foreign label (right_holds (is_plain_byte x) (list_all is_plain_byte label) ok))

both : (p : ℕ → Bool) (a b : List ℕ) → list_all p a ≡ true → list_all p b ≡ true → list_all p (a ++ b) ≡ true
both p a b in_a in_b = list_all-append p a b ∙ rw (in_a, in_b) refl

joined_free : (byte : ℕ) → IsForeign byte → (labels : List (List ℕ)) → are_plain labels ≡ true → list_all (is_other byte) (join_with_byte 46 labels) ≡ true
joined_free byte foreign [] ok = refl
joined_free byte foreign (label ∷ []) ok = label_free byte foreign label (left_holds _ _ ok)
joined_free byte foreign (label ∷ next ∷ labels) ok =
    let others = join_with_byte 46 (next ∷ labels) in
    let behind : list_all (is_other byte) (46 ∷ others) ≡ true = rw foreign.no_dot (joined_free byte foreign (next ∷ labels) (right_holds _ _ ok)) in
    both (is_other byte) label (46 ∷ others) (label_free byte foreign label (left_holds _ _ ok)) behind

front_free : (byte : ℕ) → IsForeign byte → eqb 42 byte ≡ false → (wild : Bool) → list_all (is_other byte) (if wild then codes "*." else []) ≡ true
front_free byte foreign star true = rw (star, foreign.no_dot) refl
front_free byte foreign star false = refl

pub domain_free : (byte : ℕ) → IsForeign byte → eqb 42 byte ≡ false → (target : Target) → IsDomain target → list_all (is_other byte) (domain_text target) ≡ true
domain_free byte foreign star (Dns name) is =
    both (is_other byte) (if name.wild then codes "*." else []) (join_with_byte 46 name.labels) (front_free byte foreign star name.wild) (joined_free byte foreign name.labels (plain name is))
domain_free byte foreign star (Ip address) is = absurd is

pub quote : IsForeign 34
quote = record { no_letter = refl; no_dot = refl }

pub bracket : IsForeign 93
bracket = record { no_letter = refl; no_dot = refl }

-- ---- one name

abbrev done : Name → Result Name NameFault
done name = Ok name

ok_is : (left right : Name) → done left ≡ done right → left ≡ right
ok_is left right is = cc

-- a text is one name's at most
one_text : (left right : Name) → IsTarget (Dns left) → IsTarget (Dns right) → name_text left ≡ name_text right → left ≡ right
one_text left right is_left is_right same = ok_is left right (sym is_left ∙ ap name_read same ∙ is_right)

pub one_domain : (left right : Target) → IsDomain left → IsDomain right → domain_text left ≡ domain_text right → left ≡ right
one_domain (Dns left) (Dns right) is_left is_right same = ap Dns (one_text left right is_left.0 is_right.0 same)
one_domain (Dns left) (Ip right) is_left is_right same = absurd is_right
one_domain (Ip left) right is_left is_right same = absurd is_left

-- ---- a name in quotes

quoted_parts : (text rest : List ℕ) → quoted text ++ rest ≡ 34 ∷ (text ++ 34 ∷ rest)
quoted_parts text rest = ap (λ (t : List ℕ). 34 ∷ t) (append_assoc text (34 ∷ []) rest)

quoted_is : (target : Target) (rest : List ℕ) → IsDomain target → field_at (34 ∷ []) 34 (quoted (domain_text target) ++ rest) ≡ Some (domain_text target, rest)
quoted_is target rest is = ap (field_at (34 ∷ []) 34) (quoted_parts (domain_text target) rest)
    ∙ field_is (34 ∷ []) 34 (domain_text target) rest (domain_free 34 quote refl target is)

pub quoted_missed : (bytes : List ℕ) → None ≡ field_at (34 ∷ []) 34 bytes → (target : Target) (rest : List ℕ) → IsDomain target → bytes ≢ quoted (domain_text target) ++ rest
quoted_missed bytes missed target rest is same =
    let there : field_at (34 ∷ []) 34 bytes ≡ Some (domain_text target, rest) = ap (field_at (34 ∷ []) 34) same ∙ quoted_is target rest is in
    absurd cc

abbrev some : {A : Type 0} → A → Option A
some x = Some x

some_is : {A : Type 0} (x y : A) → some x ≡ some y → x ≡ y
some_is x y e = cc

pub quoted_other : (bytes name behind : List ℕ) → Some (name, behind) ≡ field_at (34 ∷ []) 34 bytes → ((target : Target) → IsDomain target → name ≢ domain_text target)
    → (target : Target) (rest : List ℕ) → IsDomain target → bytes ≢ quoted (domain_text target) ++ rest
quoted_other bytes name behind cut none target rest is same =
    let e = some_is (name, behind) (domain_text target, rest) (cut ∙ ap (field_at (34 ∷ []) 34) same ∙ quoted_is target rest is) in
    none target is (ap (λ (x : List ℕ × List ℕ). x.0) e)

pub quoted_found : (bytes name behind : List ℕ) (target : Target) → Some (name, behind) ≡ field_at (34 ∷ []) 34 bytes → name ≡ domain_text target
    → bytes ≡ quoted (domain_text target) ++ behind
quoted_found bytes name behind target cut same =
    field_found (34 ∷ []) 34 bytes (name, behind) (sym cut) ∙ ap (λ (t : List ℕ). 34 ∷ (t ++ 34 ∷ behind)) same ∙ sym (quoted_parts (domain_text target) behind)

pub one_quoted : (left right : Target) (r s : List ℕ) → IsDomain left → IsDomain right → quoted (domain_text left) ++ r ≡ quoted (domain_text right) ++ s
    → (left ≡ right) × (r ≡ s)
one_quoted left right r s is_left is_right same =
    let e = some_is (domain_text left, r) (domain_text right, s) (sym (quoted_is left r is_left) ∙ ap (field_at (34 ∷ []) 34) same ∙ quoted_is right s is_right) in
    (one_domain left right is_left is_right (ap (λ (x : List ℕ × List ℕ). x.0) e), ap (λ (x : List ℕ × List ℕ). x.1) e)

-- ---- names with a comma between two

-- a comma and a name in quotes
abbrev next : Target → List ℕ
next target = 44 ∷ quoted (domain_text target)

-- names that are read, each with the comma behind it
abbrev pub front : List Target → List ℕ
front [] = []
front (target ∷ targets) = quoted (domain_text target) ++ (44 ∷ front targets)

pub record Begun (text : List ℕ) (done : List Target) (rest : List ℕ) : Type 0 where
  pub whole : text ≡ front done ++ rest
  pub each : AllByRecursion IsDomain done
  pub distinct : AreDistinct done

-- what the names behind those that are read spell
pub record Left (done targets : List Target) (rest : List ℕ) : Type 0 where
  pub first : Target
  pub others : List Target
  pub whole : targets ≡ done ++ first ∷ others
  pub same : rest ≡ quoted (domain_text first) ++ flat_map next others

quoted_free : (byte : ℕ) → IsForeign byte → eqb 42 byte ≡ false → eqb 34 byte ≡ false → (target : Target) → IsDomain target
    → list_all (is_other byte) (quoted (domain_text target)) ≡ true
quoted_free byte foreign star quotes target is =
    rw quotes (both (is_other byte) (domain_text target) (34 ∷ []) (domain_free byte foreign star target is) (rw quotes refl))

nexts_free : (byte : ℕ) → IsForeign byte → eqb 42 byte ≡ false → eqb 34 byte ≡ false → eqb 44 byte ≡ false → (targets : List Target) → AllByRecursion IsDomain targets
    → list_all (is_other byte) (flat_map next targets) ≡ true
nexts_free byte foreign star quotes comma [] are = refl
nexts_free byte foreign star quotes comma (target ∷ targets) are =
    rw comma (both (is_other byte) (quoted (domain_text target)) (flat_map next targets) (quoted_free byte foreign star quotes target are.0)
    (nexts_free byte foreign star quotes comma targets are.1))

pub names_free : (byte : ℕ) → IsForeign byte → eqb 42 byte ≡ false → eqb 34 byte ≡ false → eqb 44 byte ≡ false → (targets : List Target) → AllByRecursion IsDomain targets
    → list_all (is_other byte) (names_text targets) ≡ true
names_free byte foreign star quotes comma [] are = refl
names_free byte foreign star quotes comma (target ∷ targets) are =
    both (is_other byte) (quoted (domain_text target)) (flat_map next targets) (quoted_free byte foreign star quotes target are.0)
    (nexts_free byte foreign star quotes comma targets are.1)

behind_comma : (a b : List ℕ) → 44 ∷ a ≡ 44 ∷ b → a ≡ b
behind_comma a b same = cc

front_push : (done : List Target) (target : Target) (rest : List ℕ) → front done ++ (quoted (domain_text target) ++ 44 ∷ rest) ≡ front (done ++ target ∷ []) ++ rest
front_push [] target rest = sym (append_assoc (quoted (domain_text target)) (44 ∷ []) rest)
front_push (d ∷ done) target rest =
    append_assoc (quoted (domain_text d)) (44 ∷ front done) (quoted (domain_text target) ++ 44 ∷ rest)
    ∙ ap (λ (t : List ℕ). quoted (domain_text d) ++ (44 ∷ t)) (front_push done target rest)
    ∙ sym (append_assoc (quoted (domain_text d)) (44 ∷ front (done ++ target ∷ [])) rest)

-- the names behind the first one
others_push : (first : Target) (done : List Target) (target : Target) → front (first ∷ done) ++ (quoted (domain_text target) ++ []) ≡ names_text (first ∷ (done ++ target ∷ []))
others_push first [] target =
    append_assoc (quoted (domain_text first)) (44 ∷ []) (quoted (domain_text target) ++ [])
others_push first (d ∷ done) target =
    append_assoc (quoted (domain_text first)) (44 ∷ front (d ∷ done)) (quoted (domain_text target) ++ [])
    ∙ ap (λ (t : List ℕ). quoted (domain_text first) ++ (44 ∷ t)) (others_push d done target)

names_push : (done : List Target) (target : Target) → front done ++ (quoted (domain_text target) ++ []) ≡ names_text (done ++ target ∷ [])
names_push [] target = refl
names_push (d ∷ done) target = others_push d done target

others_same : (left right : List Target) → AllByRecursion IsDomain left → AllByRecursion IsDomain right → flat_map next left ≡ flat_map next right → left ≡ right
others_same [] [] is_left is_right same = refl
others_same [] (b ∷ right) is_left is_right same = absurd cc
others_same (a ∷ left) [] is_left is_right same = absurd cc
others_same (a ∷ left) (b ∷ right) is_left is_right same =
    let tails : quoted (domain_text a) ++ flat_map next left ≡ quoted (domain_text b) ++ flat_map next right = behind_comma _ _ same in
    let e = one_quoted a b (flat_map next left) (flat_map next right) is_left.0 is_right.0 tails in
    ap (λ (t : Target). t ∷ left) e.0 ∙ ap (λ (t : List Target). b ∷ t) (others_same left right is_left.1 is_right.1 e.1)

same_lists : (left right : List Target) → AllByRecursion IsDomain left → AllByRecursion IsDomain right → names_text left ≡ names_text right → left ≡ right
same_lists [] [] is_left is_right same = refl
same_lists [] (b ∷ right) is_left is_right same = absurd cc
same_lists (a ∷ left) [] is_left is_right same = absurd cc
same_lists (a ∷ left) (b ∷ right) is_left is_right same =
    let e = one_quoted a b (flat_map next left) (flat_map next right) is_left.0 is_right.0 same in
    ap (λ (t : Target). t ∷ left) e.0 ∙ ap (λ (t : List Target). b ∷ t) (others_same left right is_left.1 is_right.1 e.1)

pub left_over : (done targets : List Target) (rest : List ℕ) → AllByRecursion IsDomain done → AllByRecursion IsDomain targets → 1 ≤ length targets
    → front done ++ rest ≡ names_text targets → Left done targets rest
left_over [] [] rest are_done are some same = absurd (omega arith)
left_over [] (target ∷ targets) rest are_done are some same = record { first = target; others = targets; whole = refl; same = same }
left_over (d ∷ done) [] rest are_done are some same = absurd (omega arith)
left_over (d ∷ done) (target ∷ []) rest are_done are some same =
    let e = one_quoted d target (44 ∷ (front done ++ rest)) [] are_done.0 are.0 (sym (append_assoc (quoted (domain_text d)) (44 ∷ front done) rest) ∙ same) in
    absurd cc
left_over (d ∷ done) (target ∷ second ∷ targets) rest are_done are some same =
    let e = one_quoted d target (44 ∷ (front done ++ rest)) (flat_map next (second ∷ targets)) are_done.0 are.0
    (sym (append_assoc (quoted (domain_text d)) (44 ∷ front done) rest) ∙ same) in
    let tails : front done ++ rest ≡ names_text (second ∷ targets) = behind_comma (front done ++ rest) (names_text (second ∷ targets)) e.1 in
    let later = left_over done (second ∷ targets) rest are_done.1 are.1 (omega arith) tails in
    record {
      first = later.first;
      others = later.others;
      whole = ap (λ (t : Target). t ∷ second ∷ targets) (sym e.0) ∙ ap (λ (t : List Target). d ∷ t) later.whole;
      same = later.same;
    }

all_middle : {A : Type 0} (P : A → Type 0) (a : List A) (x : A) (b : List A) → AllByRecursion P (a ++ x ∷ b) → P x
all_middle P [] x b all = all.0
all_middle P (y ∷ a) x b all = all_middle P a x b all.1

distinct_middle : (a : List Target) (x : Target) (b : List Target) → AreDistinct (a ++ x ∷ b) → AllByRecursion (λ other. other ≢ x) a
distinct_middle [] x b distinct = tt
distinct_middle (y ∷ a) x b distinct = (λ same. all_middle (λ other. other ≢ y) a x b distinct.0 (sym same), distinct_middle a x b distinct.1)

all_push : {A : Type 0} (P : A → Type 0) (a : List A) (x : A) → AllByRecursion P a → P x → AllByRecursion P (a ++ x ∷ [])
all_push P [] x all is = (is, tt)
all_push P (y ∷ a) x all is = (all.0, all_push P a x all.1 is)

distinct_push : (a : List Target) (x : Target) → AreDistinct a → AllByRecursion (λ other. other ≢ x) a → AreDistinct (a ++ x ∷ [])
distinct_push [] x distinct fresh = (tt, tt)
distinct_push (y ∷ a) x distinct fresh =
    (all_push (λ other. other ≢ y) a x distinct.0 (λ same. fresh.0 (sym same)), distinct_push a x distinct.1 fresh.1)

module _ (text : List ℕ) (done : List Target) (rest : List ℕ) (begun : Begun text done rest) where
  rest_of : (targets : List Target) → AreNames targets → text ≡ names_text targets → Left done targets rest
  rest_of targets are same = left_over done targets rest begun.each are.each are.some (sym begun.whole ∙ same)

  first_is : (targets : List Target) (are : AreNames targets) (l : Left done targets rest) → IsDomain l.first
  first_is targets are l = all_middle IsDomain done l.first l.others (subst (AllByRecursion IsDomain) l.whole are.each)

  pub none_quoted : ReadsQuoted rest None → (targets : List Target) → AreNames targets → text ≢ names_text targets
  none_quoted none targets are same = let l = rest_of targets are same in none l.first (flat_map next l.others) (first_is targets are l) l.same

  pub too_many : 100 ≤ length done → (targets : List Target) → AreNames targets → text ≢ names_text targets
  too_many many targets are same =
      let l = rest_of targets are same in
      omega (arith, many, are.fit, ap length l.whole, length-append done (l.first ∷ l.others))

  module _ (target : Target) (behind : List ℕ) (read : ReadsQuoted rest (Some (target, behind))) where
    same_first : (targets : List Target) (are : AreNames targets) (l : Left done targets rest) → (target ≡ l.first) × (behind ≡ flat_map next l.others)
    same_first targets are l = one_quoted target l.first behind (flat_map next l.others) read.0 (first_is targets are l) (sym read.1 ∙ l.same)

    pub repeated : (AllByRecursion (λ other. other ≢ target) done → ⊥) → (targets : List Target) → AreNames targets → text ≢ names_text targets
    repeated among targets are same =
        let l = rest_of targets are same in
        let e = same_first targets are l in
        among (subst (λ (x : Target). AllByRecursion (λ other. other ≢ x) done) (sym e.0) (distinct_middle done l.first l.others (subst AreDistinct l.whole are.distinct)))

    pub no_comma : behind ≢ [] → ((more : List ℕ) → behind ≢ 44 ∷ more) → (targets : List Target) → AreNames targets → text ≢ names_text targets
    no_comma not_end not_comma targets are same =
        let l = rest_of targets are same in
        neither l.others (same_first targets are l).1
      where
        neither : (others : List Target) → behind ≡ flat_map next others → ⊥
        neither [] e = not_end e
        neither (second ∷ others) e = not_comma (quoted (domain_text second) ++ flat_map next others) e

    pub goes_on : (more : List ℕ) → behind ≡ 44 ∷ more → AllByRecursion (λ other. other ≢ target) done → Begun text (done ++ target ∷ []) more
    goes_on more comma fresh = record {
      whole = begun.whole ∙ ap (λ (t : List ℕ). front done ++ t) (read.1 ∙ ap (λ (t : List ℕ). quoted (domain_text target) ++ t) comma) ∙ front_push done target more;
      each = all_push IsDomain done target begun.each read.0;
      distinct = distinct_push done target begun.distinct fresh;
    }

    pub ends : behind ≡ [] → AllByRecursion (λ other. other ≢ target) done → length done < 100 → AreNames (done ++ target ∷ []) × (text ≡ names_text (done ++ target ∷ []))
    ends end fresh few = (
      record {
        some = omega (arith, length-append done (target ∷ []));
        fit = omega (arith, length-append done (target ∷ []), few);
        each = all_push IsDomain done target begun.each read.0;
        distinct = distinct_push done target begun.distinct fresh;
      },
      begun.whole ∙ ap (λ (t : List ℕ). front done ++ t) (read.1 ∙ ap (λ (t : List ℕ). quoted (domain_text target) ++ t) end) ∙ names_push done target,
    )

pub one_list : (left right : List Target) → AreNames left → AreNames right → names_text left ≡ names_text right → left ≡ right
one_list left right is_left is_right same = same_lists left right is_left.each is_right.each same

-- ---- what stands behind a name

pub nothing : (bytes : List ℕ) → true ≡ eqb (length bytes) 0 → bytes ≡ []
nothing [] is = refl
nothing (byte ∷ bytes) is = let e : suc (length bytes) ≡ 0 = eqb-true (suc (length bytes)) 0 (sym is) in absurd (omega arith)

pub something : (bytes : List ℕ) → false ≡ eqb (length bytes) 0 → bytes ≢ []
something [] is same = absurd cc
something (byte ∷ bytes) is same = absurd cc

pub comma : (bytes more : List ℕ) → Some more ≡ behind (44 ∷ []) bytes → bytes ≡ 44 ∷ more
comma bytes more is = behind_found (44 ∷ []) bytes more (sym is)

pub no_comma_there : (bytes : List ℕ) → None ≡ behind (44 ∷ []) bytes → (more : List ℕ) → bytes ≢ 44 ∷ more
no_comma_there bytes is more same =
    let there : behind (44 ∷ []) bytes ≡ Some more = ap (behind (44 ∷ [])) same ∙ behind_is (44 ∷ []) more in
    absurd cc
