-- A body behind its head.
use Rattle.std.proofs.Common.{◌≡◌, ℕ, ◌<◌, List, [], ◌∷◌, ◌++◌, length, take, drop, codes, refl, sym, ap, subst, ◌∙◌, append_assoc, arith, length-append}
use Rattle.std.specs.Fmt.{decimal}
use Rattle.std.proofs.lemmas.Fmt.{decimal_injective}
use Rattle.std.proofs.lemmas.List.{take_at, drop_at, take-append-drop, append_cancel_left}
use Rattle.wire_front.specs.declared.cutting.Absent.{Absent}
use Rattle.wire_front.specs.declared.cutting.Absent.TheVariants as absents
use Rattle.wire_front.specs.Message.{framed}
use Rattle.wire_front.specs.Reading.{IsAbsent, StartsWith, StartsWithSize, StartsWithFrame, IsSize}
use Rattle.wire_front.proofs.CutLemmas.{decimal_free, one_cut, size_small}

-- the lines up to the body's size, and what stands between that with its carriage return and the body
abbrev pub head : List ℕ
head = codes "POST /orders HTTP/1.1\r\nhost: gate\r\nx-gate-key: acme-token\r\ncontent-length: "

abbrev pub head_end : List ℕ
head_end = codes "\n\r\n"

pieces : (a b c d rest : List ℕ) → (a ++ b ++ c ++ d) ++ rest ≡ a ++ (b ++ (c ++ (d ++ rest)))
pieces a b c d rest = simp append_assoc

pub framed_parts : (body rest : List ℕ) → framed body ++ rest ≡ head ++ (decimal (length body) ++ 13 ∷ (head_end ++ (body ++ rest)))
framed_parts body rest = pieces head (decimal (length body)) (codes "\r\n\r\n") body rest

-- what stands behind a size
pub record HasBody (size : ℕ) (bytes : List ℕ) : Type 0 where
  pub body : List ℕ
  pub rest : List ℕ
  pub sized : size ≡ length body
  pub whole : bytes ≡ head_end ++ (body ++ rest)

pub behind_head : (bytes : List ℕ) → StartsWithFrame (head ++ bytes) → StartsWithSize bytes
behind_head bytes starts = record {
  size = length starts.body;
  rest = head_end ++ (starts.body ++ starts.rest);
  is = starts.is;
  whole = append_cancel_left head bytes (decimal (length starts.body) ++ 13 ∷ (head_end ++ (starts.body ++ starts.rest))) (starts.whole ∙ framed_parts starts.body starts.rest);
}

-- a size and what stands behind it, of a body behind its head
pub same_frame : (size : ℕ) (bytes body rest : List ℕ) → IsSize size → IsSize (length body) → head ++ (decimal size ++ 13 ∷ bytes) ≡ framed body ++ rest
    → (size ≡ length body) × (bytes ≡ head_end ++ (body ++ rest))
same_frame size bytes body rest is is_body same =
    let behind_it : decimal size ++ 13 ∷ bytes ≡ decimal (length body) ++ 13 ∷ (head_end ++ (body ++ rest)) =
    append_cancel_left head (decimal size ++ 13 ∷ bytes) (decimal (length body) ++ 13 ∷ (head_end ++ (body ++ rest))) (same ∙ framed_parts body rest) in
    let cut = one_cut 13 (decimal size) (decimal (length body)) bytes (head_end ++ (body ++ rest)) (decimal_free 13 size (omega arith) (size_small size is))
    (decimal_free 13 (length body) (omega arith) (size_small (length body) is_body)) behind_it in
    (decimal_injective size (length body) (size_small size is) (size_small (length body) is_body) cut.0, cut.1)

pub behind_size : (size : ℕ) (bytes : List ℕ) → IsSize size → StartsWithFrame (head ++ (decimal size ++ 13 ∷ bytes)) → HasBody size bytes
behind_size size bytes is starts =
    let same = same_frame size bytes starts.body starts.rest is starts.is starts.whole in
    record { body = starts.body; rest = starts.rest; sized = same.0; whole = same.1 }

-- ---- what isn't there

pub absent_behind : (text : List ℕ) (Begins Behind : List ℕ → Type 0) → ((rest : List ℕ) → Begins (text ++ rest) → Behind rest)
    → (bytes rest : List ℕ) → bytes ≡ text ++ rest → (absent : Absent) → IsAbsent Behind rest absent → IsAbsent Begins bytes absent
absent_behind text Begins Behind maps bytes rest is absents.SoFar none = λ begins. none (maps rest (subst Begins is begins))
absent_behind text Begins Behind maps bytes rest is absents.ForGood none = λ more begins.
    let longer : bytes ++ more ≡ text ++ (rest ++ more) = ap (λ (t : List ℕ). t ++ more) is ∙ append_assoc text rest more in
    none more (maps (rest ++ more) (subst Begins longer begins))

starts_with_head : (bytes : List ℕ) → StartsWithFrame ([] ++ bytes) → StartsWith head bytes
starts_with_head bytes starts = record { rest = decimal (length starts.body) ++ 13 ∷ (head_end ++ (starts.body ++ starts.rest)); whole = starts.whole ∙ framed_parts starts.body starts.rest }

pub no_head : (bytes : List ℕ) (absent : Absent) → IsAbsent (StartsWith head) bytes absent → IsAbsent StartsWithFrame bytes absent
no_head bytes absent none = absent_behind [] StartsWithFrame (StartsWith head) starts_with_head bytes bytes refl absent none

pub no_size_behind : (bytes rest : List ℕ) → bytes ≡ head ++ rest → (absent : Absent) → IsAbsent StartsWithSize rest absent → IsAbsent StartsWithFrame bytes absent
no_size_behind bytes rest is absent none = absent_behind head StartsWithFrame StartsWithSize behind_head bytes rest is absent none

-- the head up to the size's carriage return
abbrev sized_head : ℕ → List ℕ
sized_head size = head ++ (decimal size ++ 13 ∷ [])

regroup : (a b rest : List ℕ) → (a ++ (b ++ 13 ∷ [])) ++ rest ≡ a ++ (b ++ 13 ∷ rest)
regroup a b rest = append_assoc a (b ++ 13 ∷ []) rest ∙ ap (λ (t : List ℕ). a ++ t) (append_assoc b (13 ∷ []) rest)

ends_head : (size : ℕ) → IsSize size → (rest : List ℕ) → StartsWithFrame (sized_head size ++ rest) → StartsWith head_end rest
ends_head size is rest starts =
    let has = behind_size size rest is (subst StartsWithFrame (regroup head (decimal size) rest) starts) in
    record { rest = has.body ++ has.rest; whole = has.whole }

pub no_end : (bytes rest : List ℕ) (size : ℕ) → IsSize size → bytes ≡ head ++ (decimal size ++ 13 ∷ rest) → (absent : Absent)
    → IsAbsent (StartsWith head_end) rest absent → IsAbsent StartsWithFrame bytes absent
no_end bytes rest size is same absent none =
    absent_behind (sized_head size) StartsWithFrame (StartsWith head_end) (ends_head size is) bytes rest (same ∙ sym (regroup head (decimal size) rest)) absent none

pub no_body : (bytes rest : List ℕ) (size : ℕ) → IsSize size → bytes ≡ head ++ (decimal size ++ 13 ∷ (head_end ++ rest)) → length rest < size → StartsWithFrame bytes
    → ⊥
no_body bytes rest size is same short starts =
    let has = behind_size size (head_end ++ rest) is (subst StartsWithFrame same starts) in
    let cut : rest ≡ has.body ++ has.rest = append_cancel_left head_end rest (has.body ++ has.rest) has.whole in
    omega (arith, ap length cut, length-append has.body has.rest, has.sized, short)

pub frame_found : (bytes rest : List ℕ) (size : ℕ) → bytes ≡ head ++ (decimal size ++ 13 ∷ (head_end ++ rest)) → (body behind : List ℕ) → body ≡ take size rest
    → behind ≡ drop size rest → length body ≡ size → bytes ≡ framed body ++ behind
frame_found bytes rest size same body behind front back sized =
    let whole : rest ≡ body ++ behind = sym (take-append-drop size rest) ∙ ap (λ (t : List ℕ). t ++ drop size rest) (sym front) ∙ ap (λ (t : List ℕ). body ++ t) (sym back) in
    same ∙ ap (λ (n : ℕ). head ++ (decimal n ++ 13 ∷ (head_end ++ rest))) (sym sized)
    ∙ ap (λ (t : List ℕ). head ++ (decimal (length body) ++ 13 ∷ (head_end ++ t))) whole ∙ sym (framed_parts body behind)

-- at most one body stands behind a head at the front
pub one_frame : (left right r s : List ℕ) → IsSize (length left) → IsSize (length right) → framed left ++ r ≡ framed right ++ s → (left ≡ right) × (r ≡ s)
one_frame left right r s is_left is_right same =
    let e = same_frame (length left) (head_end ++ (left ++ r)) right s is_left is_right (sym (framed_parts left r) ∙ same) in
    let both : left ++ r ≡ right ++ s = append_cancel_left head_end (left ++ r) (right ++ s) e.1 in (
      sym (take_at left r (length left) refl) ∙ ap (take (length left)) both ∙ take_at right s (length left) (sym e.0),
      sym (drop_at left r (length left) refl) ∙ ap (drop (length left)) both ∙ drop_at right s (length left) (sym e.0),
    )
