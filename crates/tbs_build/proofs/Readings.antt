-- Two sound plans with one body say the same.
use Rattle.std.proofs.Common.{◌≡◌, ℕ, ◌≤◌, Bool, true, false, not, if◌then◌else◌, List, [], ◌∷◌, Some, ℤ, pos, refl, sym, ap, subst, ◌∙◌, arith}
use Rattle.gate_base.specs.declared.profile.KeyKind.{KeyKind}
use Rattle.gate_base.specs.declared.profile.SigAlg.{SigAlg}
use Rattle.gate_base.specs.declared.profile.SigAlg.TheVariants.{RsaSha256, EcdsaSha256, EcdsaSha384}
use Rattle.der_text.specs.Tree.{Node, primitive, constructed, no_nodes, spelling, content_of, parts_of, part_of, IsDer}
use Rattle.public_key.specs.Key.{IsKeyOf}
use Rattle.cert_time.specs.Time.{time_of, tag_of, text_of, IsTimeText}
use Rattle.tbs_build.specs.Body.{algorithm_tree, time_node, subject, body_of, body_tree, SaysTheSame}
use Rattle.tbs_build.specs.Extension.{extension_with, alone, uri}
use Rattle.tbs_build.specs.Plan.{Plan, IsSound}
use Rattle.tbs_build.proofs.Bodies.{tree_of, body_is_der, is_body_tree}
use Rattle.tbs_build.proofs.Values.{all_spelled}

tag_in : Node → ℕ
tag_in (primitive tag content) = tag
tag_in (constructed tag parts) = tag

same_algorithm : (a b : SigAlg) → algorithm_tree a ≡ algorithm_tree b → a ≡ b
same_algorithm RsaSha256 RsaSha256 e = refl
same_algorithm RsaSha256 EcdsaSha256 e = absurd (cc e)
same_algorithm RsaSha256 EcdsaSha384 e = absurd (cc e)
same_algorithm EcdsaSha256 RsaSha256 e = absurd (cc e)
same_algorithm EcdsaSha256 EcdsaSha256 e = refl
same_algorithm EcdsaSha256 EcdsaSha384 e = absurd (cc e)
same_algorithm EcdsaSha384 RsaSha256 e = absurd (cc e)
same_algorithm EcdsaSha384 EcdsaSha256 e = absurd (cc e)
same_algorithm EcdsaSha384 EcdsaSha384 e = refl

same_choice : (a b : Bool) (x y : Node) → (if a then alone x else no_nodes) ≡ (if b then alone y else no_nodes) → a ≡ b
same_choice true true x y e = refl
same_choice true false x y e = absurd (cc e)
same_choice false true x y e = absurd (cc e)
same_choice false false x y e = refl

same_string : (identifier : List ℕ) (a b : Bool) (x y : List ℕ)
    → extension_with identifier a x ≡ extension_with identifier b y → x ≡ y
same_string identifier true true x y e = cc e
same_string identifier true false x y e = absurd (cc e)
same_string identifier false true x y e = absurd (cc e)
same_string identifier false false x y e = cc e

unwrapped : {A : Type 0} {x y : A} → Some x ≡ Some y → x ≡ y
unwrapped e = cc e

within : (plan : Plan) → IsSound plan → plan.not_before ≤ 253402300799
within plan sound = omega (arith, sound.times, sound.last_time)

module _ (alone_der : (bytes : List ℕ) (tree other : Node) → IsDer bytes tree → IsDer bytes other → tree ≡ other)
    (written : (moment : ℕ) → moment ≤ 253402300799
    → IsTimeText (tag_of (time_of moment)) (text_of (time_of moment)) (pos moment))
    (one_number : (tag : ℕ) (content : List ℕ) (seconds other : ℤ) → IsTimeText tag content seconds
    → IsTimeText tag content other → seconds ≡ other)
    (one_kind : (bytes : List ℕ) (kind other : KeyKind) → IsKeyOf bytes kind → IsKeyOf bytes other → kind ≡ other) where
  same_moment : (m n : ℕ) → m ≤ 253402300799 → n ≤ 253402300799 → time_node m ≡ time_node n → m ≡ n
  unfolding tag_in
  same_moment m n low low' e =
      let tag = ap tag_in e in
      let text = ap content_of e in
      let here : IsTimeText (tag_of (time_of m)) (text_of (time_of m)) (pos n) =
      subst (λ (t : ℕ). IsTimeText t (text_of (time_of m)) (pos n)) (sym tag)
      (subst (λ (c : List ℕ). IsTimeText (tag_of (time_of n)) c (pos n)) (sym text) (written n low')) in
      cc (one_number _ _ (pos m) (pos n) (written m low) here)

  same_value : (identifier : List ℕ) (a b : Bool) (x y : Node) → IsDer (spelling x) x → IsDer (spelling y) y
      → extension_with identifier a (spelling x) ≡ extension_with identifier b (spelling y) → x ≡ y
  same_value identifier a b x y is is' e =
      alone_der (spelling x) x y is (subst (λ (bytes : List ℕ). IsDer bytes y)
      (sym (same_string identifier a b (spelling x) (spelling y) e)) is')

  pub one_plan : (plan other : Plan) → IsSound plan → IsSound other → body_of plan ≡ body_of other
      → SaysTheSame plan other
  one_plan plan other sound sound' e =
      let p = is_body_tree plan sound in
      let q = is_body_tree other sound' in
      let same : body_tree plan p.issuer p.key ≡ body_tree other q.issuer q.key =
      sym p.is ∙ alone_der (body_of plan) _ _ (body_is_der plan sound)
      (subst (λ (b : List ℕ). IsDer b (tree_of other sound')) (sym e) (body_is_der other sound')) ∙ q.is in
      let serial : Some (primitive 2 plan.serial) ≡ Some (primitive 2 other.serial) = ap (part_of (1 ∷ [])) same in
      let algorithm : Some (algorithm_tree plan.profile.alg) ≡ Some (algorithm_tree other.profile.alg) = ap
      (part_of (2 ∷ [])) same in
      let issuer : Some p.issuer ≡ Some q.issuer = ap (part_of (3 ∷ [])) same in
      let first : Some (time_node plan.not_before) ≡ Some (time_node other.not_before) = ap
      (part_of (4 ∷ 0 ∷ [])) same in
      let last : Some (time_node plan.not_after) ≡ Some (time_node other.not_after) = ap (part_of (4 ∷ 1 ∷ [])) same in
      let subjects : Some (subject plan) ≡ Some (subject other) = ap (part_of (5 ∷ [])) same in
      let key : Some p.key ≡ Some q.key = ap (part_of (6 ∷ [])) same in
      let spki : plan.spki ≡ other.spki = sym p.key_spelled ∙ ap spelling (unwrapped key) ∙ q.key_spelled in
      let here = all_spelled plan sound in
      let there = all_spelled other sound' in
      let key_id = same_value _ false false _ _ here.0 there.0 (unwrapped (ap (part_of (7 ∷ 0 ∷ 0 ∷ [])) same)) in
      let names = same_value _ (not plan.common) (not other.common) _ _ here.1.1.1.0 there.1.1.1.0
      (unwrapped (ap (part_of (7 ∷ 0 ∷ 3 ∷ [])) same)) in
      let crl = same_value _ false false _ _ here.1.1.1.1.1.0 there.1.1.1.1.1.0
      (unwrapped (ap (part_of (7 ∷ 0 ∷ 5 ∷ [])) same)) in
      let aia = same_value _ false false _ _ here.1.1.1.1.1.1.0 there.1.1.1.1.1.1.0
      (unwrapped (ap (part_of (7 ∷ 0 ∷ 6 ∷ [])) same)) in
      let key_ids : Some (primitive 0x80 plan.profile.key_id.0) ≡ Some (primitive 0x80 other.profile.key_id.0) = ap
      (part_of (0 ∷ [])) key_id in
      let crls : Some (uri plan.profile.crl) ≡ Some (uri other.profile.crl) = ap (part_of (0 ∷ 0 ∷ 0 ∷ 0 ∷ [])) crl in
      let aias : Some (uri plan.profile.aia) ≡ Some (uri other.profile.aia) = ap (part_of (0 ∷ 1 ∷ [])) aia in
      record {
        serial = ap content_of (unwrapped serial);
        not_before = same_moment _ _ (within plan sound) (within other sound') (unwrapped first);
        not_after = same_moment _ _ sound.last_time sound'.last_time (unwrapped last);
        spki = spki;
        kind = one_kind plan.spki plan.kind other.kind sound.key
            (subst (λ (b : List ℕ). IsKeyOf b other.kind) (sym spki) sound'.key);
        names = ap parts_of names;
        common = same_choice plan.common other.common _ _ (ap parts_of (unwrapped subjects));
        issuer = sym p.issuer_spelled ∙ ap spelling (unwrapped issuer) ∙ q.issuer_spelled;
        alg = same_algorithm _ _ (unwrapped algorithm);
        key_id = ap content_of (unwrapped key_ids);
        crl = ap content_of (unwrapped crls);
        aia = ap content_of (unwrapped aias);
      }
