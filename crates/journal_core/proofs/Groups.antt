-- Groups as lists: their parts, how long they are, one more of them, and where they end.
use Rattle.std.proofs.Common.{◌≡◌, ⊎_elim, ◌⊎◌, ℕ, ◌+◌, ◌-◌, ◌≤◌, List, [], ◌∷◌, ◌++◌, length, take, drop, get_or, refl, sym, ◌∙◌, ap, subst, arith, append_assoc, length-append, append-nil}
use Rattle.std.specs.Prelude.{◌≢◌}
use Rattle.std.specs.List.{sum_by, AllByRecursion}
use Rattle.std.specs.Int.{w32, to_be_bytes}
use Rattle.std.proofs.lemmas.List.{take_at, drop_at, drop_more}
use Rattle.std.proofs.lemmas.List.Sums.{sum_by-cons, sum_by-append}
use Rattle.std.proofs.lemmas.Nat.{from_be_bytes-to_be_bytes_4}
use Rattle.sha2.proofs.Facts256.{length-sha256}
use Rattle.journal_core.specs.Journal.{head, no_chain, IsPayload, chained, chain_after, group, opened, total_of, gate_place, length_at_front, LacksGroup, BreaksAt}

pub length-head : length head ≡ 16
unfolding head
length-head = refl

pub group_length : (chain payload : List ℕ) → length (group chain payload) ≡ 36 + length payload
unfolding group
group_length chain payload = omega (arith, length-append (chained chain payload) payload, length-sha256 (chain ++ payload))

pub length-opened : (chain : List ℕ) (payloads : List (List ℕ)) → length (opened chain payloads) ≡ sum_by total_of payloads
length-opened chain [] = refl
length-opened chain (x ∷ payloads) =
    let more = opened (chained chain x) payloads in
    omega (arith, sum_by-cons total_of x payloads, length-append (group chain x) more, group_length chain x, length-opened (chained chain x) payloads)

pub gate_place-push : (payloads : List (List ℕ)) (payload : List ℕ) → gate_place (payloads ++ payload ∷ []) ≡ gate_place payloads + total_of payload
gate_place-push payloads payload = omega (arith, sum_by-append total_of payloads (payload ∷ []), sum_by-cons total_of payload [])

-- a group of its parts
pub whole_group : (chain payload front kept rest more behind bytes : List ℕ) → bytes ≡ front ++ rest → rest ≡ kept ++ more → more ≡ payload ++ behind
    → front ≡ to_be_bytes w32 (length payload) → kept ≡ chained chain payload → bytes ≡ group chain payload ++ behind
unfolding group
whole_group chain payload front kept rest more behind bytes first second third number link =
    let next = chained chain payload in
    first ∙ ap (λ (l : List ℕ). front ++ l) (second ∙ ap (λ (l : List ℕ). kept ++ l) third)
    ∙ ap (λ (l : List ℕ). l ++ (kept ++ (payload ++ behind))) number
    ∙ ap (λ (l : List ℕ). to_be_bytes w32 (length payload) ++ l)
    (ap (λ (l : List ℕ). l ++ (payload ++ behind)) link ∙ sym (append_assoc next payload behind))

-- the parts of a group at the front
pub number_of-group : (chain payload rest : List ℕ) → IsPayload payload → length_at_front (group chain payload ++ rest) ≡ length payload
unfolding group
number_of-group chain payload rest fits = from_be_bytes-to_be_bytes_4 (length payload) (omega (arith, fits.fits))

pub chain_of-group : (chain payload rest : List ℕ) → take 32 (drop 4 (group chain payload ++ rest)) ≡ chained chain payload
unfolding group
chain_of-group chain payload rest =
    ap (λ (l : List ℕ). take 32 l) (append_assoc (chained chain payload) payload rest)
    ∙ take_at (chained chain payload) (payload ++ rest) 32 (length-sha256 (chain ++ payload))

pub behind_chain-group : (chain payload rest : List ℕ) → drop 36 (group chain payload ++ rest) ≡ payload ++ rest
unfolding group
behind_chain-group chain payload rest =
    ap (λ (l : List ℕ). drop 32 l) (append_assoc (chained chain payload) payload rest)
    ∙ drop_at (chained chain payload) (payload ++ rest) 32 (length-sha256 (chain ++ payload))

-- where a group stands and a gate behind it, none is lacking
pub lacks_none : (chain payload rest : List ℕ) → IsPayload payload → 1 ≤ length rest → LacksGroup chain (group chain payload ++ rest) → ⊥
lacks_none chain payload rest fits gate lacks =
    let bytes = group chain payload ++ rest in
    let count : length_at_front bytes ≡ length payload = number_of-group chain payload rest fits in
    let long : length bytes ≡ 36 + length payload + length rest = omega (arith, length-append (group chain payload) rest, group_length chain payload) in
    let front : take (length_at_front bytes) (drop 36 bytes) ≡ payload =
    ap (λ (l : List ℕ). take (length_at_front bytes) l) (behind_chain-group chain payload rest) ∙ take_at payload rest (length_at_front bytes) (sym count) in
    ⊎_elim (λ short. omega (arith, short, count, long, gate))
    (λ other. ⊎_elim (λ none. omega (arith, none, count, fits.some))
    (λ other. ⊎_elim (λ more. omega (arith, more, count, fits.fits))
    (λ wrong. wrong (chain_of-group chain payload rest ∙ ap (λ (l : List ℕ). chained chain l) (sym front))) other) other)
    lacks

-- one more at the end
pub opened-push : (chain : List ℕ) (payloads : List (List ℕ)) (payload rest : List ℕ)
    → opened chain (payloads ++ payload ∷ []) ++ rest ≡ opened chain payloads ++ 1 ∷ (group (chain_after chain payloads) payload ++ rest)
opened-push chain [] payload rest = ap (λ (l : List ℕ). 1 ∷ (l ++ rest)) (append-nil (group chain payload))
opened-push chain (x ∷ payloads) payload rest =
    let next = chained chain x in
    ap (λ (l : List ℕ). 1 ∷ l)
    (append_assoc (group chain x) (opened next (payloads ++ payload ∷ [])) rest
    ∙ ap (λ (l : List ℕ). group chain x ++ l) (opened-push next payloads payload rest)
    ∙ sym (append_assoc (group chain x) (opened next payloads) (1 ∷ (group (chain_after next payloads) payload ++ rest))))

pub chain_after-push : (chain : List ℕ) (payloads : List (List ℕ)) (payload : List ℕ)
    → chain_after chain (payloads ++ payload ∷ []) ≡ chained (chain_after chain payloads) payload
chain_after-push chain [] payload = refl
chain_after-push chain (x ∷ payloads) payload = chain_after-push (chained chain x) payloads payload

pub each_push : (payloads : List (List ℕ)) (payload : List ℕ) → AllByRecursion IsPayload payloads → IsPayload payload → AllByRecursion IsPayload (payloads ++ payload ∷ [])
each_push [] payload each fits = (fits, tt)
each_push (x ∷ payloads) payload each fits = (each.0, each_push payloads payload each.1 fits)

-- the byte in front, and what stands behind it
pub gate_front : (rest behind : List ℕ) (gate : ℕ) → 1 ≤ length rest → get_or rest 0 0 ≡ gate → behind ≡ drop 1 rest → rest ≡ gate ∷ behind
gate_front rest behind gate some is back = drop_more rest 0 0 (omega (arith, some)) ∙ ap (λ (n : ℕ). n ∷ drop 1 rest) is ∙ ap (λ (l : List ℕ). gate ∷ l) (sym back)

-- one more that is read
pub read_more : (payloads : List (List ℕ)) (bytes rest behind chain payload after : List ℕ) → bytes ≡ opened no_chain payloads ++ rest → rest ≡ 1 ∷ behind
    → chain ≡ chain_after no_chain payloads → behind ≡ group chain payload ++ after → bytes ≡ opened no_chain (payloads ++ payload ∷ []) ++ after
read_more payloads bytes rest behind chain payload after whole is_open linked stands =
    whole
    ∙ ap (λ (l : List ℕ). opened no_chain payloads ++ l)
    (is_open ∙ ap (λ (l : List ℕ). 1 ∷ l) (stands ∙ ap (λ (l : List ℕ). group l payload ++ after) linked))
    ∙ sym (opened-push no_chain payloads payload after)

pub place_of_rest : (payloads : List (List ℕ)) (bytes rest : List ℕ) → bytes ≡ opened no_chain payloads ++ rest → 16 + (length bytes - length rest) ≡ gate_place payloads
place_of_rest payloads bytes rest whole =
    omega (arith, ap length whole, length-append (opened no_chain payloads) rest, length-opened no_chain payloads)

-- no group stands behind an open gate
pub breaks : (payloads : List (List ℕ)) (bytes rest behind chain : List ℕ) → bytes ≡ opened no_chain payloads ++ rest → rest ≡ 1 ∷ behind
    → chain ≡ chain_after no_chain payloads → AllByRecursion IsPayload payloads → LacksGroup chain behind → BreaksAt (head ++ bytes) (16 + (length bytes - length rest))
breaks payloads bytes rest behind chain whole is_open linked each lacks = record {
  payloads = payloads;
  rest = behind;
  whole = ap (λ (l : List ℕ). head ++ l) (whole ∙ ap (λ (l : List ℕ). opened no_chain payloads ++ l) is_open);
  each = each;
  place = place_of_rest payloads bytes rest whole;
  lacks = subst (λ (l : List ℕ). LacksGroup l behind) linked lacks;
}

-- groups end at this gate: it isn't open, or no group stands behind it
abbrev pub Ends : List ℕ → ℕ → List ℕ → Type 0
Ends chain gate rest = (gate ≢ 1) ⊎ LacksGroup chain rest

-- an open gate before a group doesn't end them
goes_on : (chain payload behind : List ℕ) (gate : ℕ) (rest : List ℕ) → gate ∷ rest ≡ 1 ∷ (group chain payload ++ behind) → IsPayload payload → 1 ≤ length behind
    → Ends chain gate rest → ⊥
goes_on chain payload behind gate rest same fits more ends =
    let is_open : gate ≡ 1 = ap (λ (l : List ℕ). get_or l 0 0) same in
    let stands : rest ≡ group chain payload ++ behind = ap (λ (l : List ℕ). drop 1 l) same in
    ⊎_elim (λ shut. shut is_open) (λ lacks. lacks_none chain payload behind fits more (subst (LacksGroup chain) stands lacks)) ends

not_empty : (front : List ℕ) (gate : ℕ) (rest : List ℕ) → 1 ≤ length (front ++ gate ∷ rest)
not_empty front gate rest = omega (arith, length-append front (gate ∷ rest))

-- groups up to their end, in one way at most
pub one_split : (chain : List ℕ) (left right : List (List ℕ)) (gate other : ℕ) (rest more : List ℕ)
    → opened chain left ++ gate ∷ rest ≡ opened chain right ++ other ∷ more → AllByRecursion IsPayload left → AllByRecursion IsPayload right
    → Ends (chain_after chain left) gate rest → Ends (chain_after chain right) other more → (left ≡ right) × (gate ≡ other) × (rest ≡ more)
one_split chain [] [] gate other rest more same each_left each_right ends_left ends_right =
    (refl, ap (λ (l : List ℕ). get_or l 0 0) same, ap (λ (l : List ℕ). drop 1 l) same)
one_split chain [] (y ∷ right) gate other rest more same each_left each_right ends_left ends_right =
    let behind = opened (chained chain y) right in
    absurd (goes_on chain y (behind ++ other ∷ more) gate rest (same ∙ ap (λ (l : List ℕ). 1 ∷ l) (append_assoc (group chain y) behind (other ∷ more)))
    each_right.0 (not_empty behind other more) ends_left)
one_split chain (x ∷ left) [] gate other rest more same each_left each_right ends_left ends_right =
    let behind = opened (chained chain x) left in
    absurd (goes_on chain x (behind ++ gate ∷ rest) other more (sym same ∙ ap (λ (l : List ℕ). 1 ∷ l) (append_assoc (group chain x) behind (gate ∷ rest)))
    each_left.0 (not_empty behind gate rest) ends_right)
one_split chain (x ∷ left) (y ∷ right) gate other rest more same each_left each_right ends_left ends_right =
    let xs = opened (chained chain x) left ++ gate ∷ rest in
    let ys = opened (chained chain y) right ++ other ∷ more in
    let whole : group chain x ++ xs ≡ group chain y ++ ys =
    sym (append_assoc (group chain x) (opened (chained chain x) left) (gate ∷ rest)) ∙ ap (λ (l : List ℕ). drop 1 l) same
    ∙ append_assoc (group chain y) (opened (chained chain y) right) (other ∷ more) in
    let lengths : length x ≡ length y =
    sym (number_of-group chain x xs each_left.0) ∙ ap length_at_front whole ∙ number_of-group chain y ys each_right.0 in
    let behind : x ++ xs ≡ y ++ ys = sym (behind_chain-group chain x xs) ∙ ap (λ (l : List ℕ). drop 36 l) whole ∙ behind_chain-group chain y ys in
    let first : x ≡ y = sym (take_at x xs (length x) refl) ∙ ap (λ (l : List ℕ). take (length x) l) behind ∙ take_at y ys (length x) (sym lengths) in
    let next : xs ≡ ys = sym (drop_at x xs (length x) refl) ∙ ap (λ (l : List ℕ). drop (length x) l) behind ∙ drop_at y ys (length x) (sym lengths) in
    let found = one_split (chained chain x) left right gate other rest more
    (next ∙ ap (λ (l : List ℕ). opened (chained chain l) right ++ other ∷ more) (sym first)) each_left.1 each_right.1 ends_left
    (subst (λ (l : List ℕ). Ends (chain_after (chained chain l) right) other more) (sym first) ends_right) in
    (λ i. first i ∷ found.0 i, found.1, found.2)
