-- A piece that is written behind a gate, and then the gate: the bytes, and what a stop may leave.
use Rattle.std.proofs.Common.{◌≡◌, inl, inr, ⊎_elim, ℕ, ◌+◌, ◌<◌, ◌≤◌, List, [], ◌∷◌, ◌++◌, length, take, drop, get_or, Option, Some, None, option_map, Result, Ok, Err, OnOk, OnErr, refl, sym, ◌∙◌, ap, subst, arith, append_assoc, length-append, take-append-drop}
use Rattle.std.proofs.lemmas.List.{drop_at, take-append-le, take-take, drop_more, drop_all, length-take-le, append-nil}
use Rattle.std.specs.Option.{ForSome}
use Rattle.plant.specs.Plant.{overwritten}
use Rattle.plant.specs.Stops.{Stops, IsDurable}
use Rattle.plant.specs.Joining.{Joins, Follows}
use Rattle.plant.specs.Tearing.{Torn, TornTold}
use Rattle.journal_core.specs.Journal.{head}
use Rattle.journal_core.specs.Standing.{Commits, TornCommit}
use Rattle.journal_core.proofs.Moments.{told_before, parted, keeps_on, keeps_follows}

module _ (at : ℕ) (piece : List ℕ) where
  -- a gate that is torn before a whole piece
  torn_gate : (was image : List ℕ) → at + 1 ≤ length was → Torn at 1 (overwritten was (at + 1) piece) image → image ≡ overwritten was at (get_or image at 0 ∷ piece)
  torn_gate was image within torn =
      let rest = drop (at + 1 + length piece) was in
      let gate = get_or image at 0 in
      let mid : overwritten was (at + 1) piece ≡ take (at + 1) was ++ (piece ++ rest) = append_assoc (take (at + 1) was) piece rest in
      let size : length (take (at + 1) was) ≡ at + 1 = length-take-le (at + 1) was within in
      let long : at < length image = omega (arith, torn.no_shorter, ap length mid, length-append (take (at + 1) was) (piece ++ rest), size) in
      let front : take at image ≡ take at was =
      torn.front ∙ ap (λ (l : List ℕ). take at l) mid ∙ take-append-le at (take (at + 1) was) (piece ++ rest) (omega (arith, size))
      ∙ take-take at (at + 1) was (omega arith) in
      let back : drop (at + 1) image ≡ piece ++ rest =
      torn.back ∙ ap (λ (l : List ℕ). drop (at + 1) l) mid ∙ drop_at (take (at + 1) was) (piece ++ rest) (at + 1) size in
      let place : at + 1 + length piece ≡ at + length (gate ∷ piece) = omega arith in
      sym (take-append-drop at image)
      ∙ ap (λ (l : List ℕ). take at image ++ l) (drop_more image at 0 long ∙ ap (λ (l : List ℕ). gate ∷ l) back)
      ∙ ap (λ (l : List ℕ). l ++ (gate ∷ (piece ++ rest))) front
      ∙ sym (append_assoc (take at was) (gate ∷ piece) rest)
      ∙ ap (λ (n : ℕ). (take at was ++ (gate ∷ piece)) ++ drop n was) place

  pub torn_commit : (old now : Option (List ℕ)) → ForSome old (λ bytes. at + 1 ≤ length bytes)
      → TornTold at 1 (option_map (λ bytes. overwritten bytes (at + 1) piece) old) now → TornCommit at piece old now
  torn_commit None None within torn = tt
  torn_commit None (Some now) within torn = torn
  torn_commit (Some was) None within torn = torn
  torn_commit (Some was) (Some now) within torn = inr (get_or now at 0, torn_gate was now (within was refl) torn)

  pub torn_first : (old now : Option (List ℕ)) → TornTold (at + 1) (length piece) old now → TornCommit at piece old now
  torn_first None None torn = tt
  torn_first None (Some now) torn = torn
  torn_first (Some was) None torn = torn
  torn_first (Some was) (Some now) torn = inl torn

  pub commits_first : (bytes : Option (List ℕ)) (old new : Stops) → Follows (Torn (at + 1) (length piece)) old new → Commits at piece bytes old new
  commits_first bytes old new follows = record {
    keeps = keeps_follows _ old new follows;
    each = λ image sent left. inl (follows.each image sent left);
  }

  pub commits_both : (bytes mid : Option (List ℕ)) (a b c : Stops) → ForSome bytes (λ was. at + 1 ≤ length was)
      → mid ≡ option_map (λ was. overwritten was (at + 1) piece) bytes → Follows (Torn (at + 1) (length piece)) a b → IsDurable mid b
      → Follows (Torn at 1) b c → Joins a c → Commits at piece bytes a c
  commits_both bytes mid a b c within written first durable second joined = record {
    keeps = keeps_on a b c joined (keeps_follows _ a b first) (keeps_follows _ b c second);
    each = λ image sent left.
        ⊎_elim (λ here. inl (first.each image sent here))
        (λ there.
        let from = second.each image sent there in
        let was = told_before (λ was. overwritten was (at + 1) piece) bytes from.0 (sym written ∙ durable from.0 sent from.1) in
        inr (
          was.0,
          was.1,
          (
            get_or image at 0,
            torn_gate was.0 image (within was.0 was.1) (subst (λ (l : List ℕ). Torn at 1 l image) was.2 from.2),
          ),
        ))
        (parted a b c first.joins second.joins image sent left);
  }

pub on_err : {T E : Type 0} (r : Result T E) (A B : Type 0) → (A → B) → OnErr r A → OnErr r B
on_err (Ok x) A B goes is = tt
on_err (Err e) A B goes is = goes is

pub on_ok : {T E : Type 0} (r : Result T E) (A B : Type 0) → (A → B) → OnOk r A → OnOk r B
on_ok (Ok x) A B goes is = goes is
on_ok (Err e) A B goes is = tt

-- the head and a closed gate on an empty disk, and then the gate and what stands behind it
pub first_written : (piece : List ℕ) (old : Option (List ℕ)) → ForSome old (λ bytes. bytes ≡ [])
    → option_map (λ bytes. overwritten bytes 16 (1 ∷ piece)) (option_map (λ bytes. overwritten bytes 0 (head ++ 0 ∷ [])) old) ≡ option_map (λ _. head ++ 1 ∷ piece) old
unfolding head
first_written piece None empty = refl
first_written piece (Some bytes) empty =
    let blank = head ++ 0 ∷ [] in
    let written : overwritten bytes 0 blank ≡ blank = ap (λ (l : List ℕ). overwritten l 0 blank) (empty bytes refl) in
    ap (λ (l : List ℕ). Some (overwritten l 16 (1 ∷ piece))) written
    ∙ ap (λ (l : List ℕ). Some ((head ++ 1 ∷ piece) ++ l)) (drop_all (16 + length (1 ∷ piece)) blank (omega arith))
    ∙ ap (λ (l : List ℕ). Some l) (append-nil (head ++ 1 ∷ piece))
