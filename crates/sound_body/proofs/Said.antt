-- What is read of the body of a sound plan.
use Rattle.std.proofs.Common.{◌≡◌, ℕ, ◌≤◌, Bool, true, false, not, List, [], ◌∷◌, map, Some, pos, refl, sym, ap, ◌∙◌, arith}
use Rattle.gate_base.specs.declared.profile.KeyKind.{KeyKind}
use Rattle.gate_base.specs.declared.profile.KeyKind.TheVariants.{Rsa, P256, P384, P521}
use Rattle.gate_base.specs.declared.profile.SigAlg.{SigAlg}
use Rattle.gate_base.specs.declared.profile.SigAlg.TheVariants.{RsaSha256, EcdsaSha256, EcdsaSha384}
use Rattle.der_text.specs.Tree.{Node, constructed, Nodes, length_octets, spelling, IsInForm, AreInForm, IsDer}
use Rattle.public_key.specs.Key.{key_tree, AreBitsOf, algorithm_bytes as key_algorithm_bytes}
use Rattle.cert_time.specs.Time.{time_of, tag_of, text_of, IsTimeText}
use Rattle.tbs_build.specs.Body.{algorithm_tree, body_of, body_tree, IsBodyTree}
use Rattle.tbs_build.specs.Certificate.{algorithm_bytes}
use Rattle.tbs_build.specs.Extension.{extensions_of}
use Rattle.tbs_build.specs.Plan.{Plan, IsSound}
use Rattle.tbs_shape.specs.Body.{Body, Primitive}
use Rattle.tbs_shape.specs.Shape as shape
use Rattle.tbs_shape.specs.Shape.{IsBody}
use Rattle.sound_body.specs.Said.{extension_read, subject_read, SaysPlan}
use Rattle.sound_body.proofs.Trees.{deeper, is_sequence}

-- ---- the tree, down to the parts that the reader looks at

abbrev tree_with : Plan → Nodes → Nodes → List ℕ → Node
tree_with plan issuer algorithm bits = body_tree plan (constructed 48 issuer) (key_tree (constructed 48 algorithm) bits)

record IsTreeOf (plan : Plan) (tree : Node) : Type 0 where
  issuer : Nodes
  issuer_spelled : spelling (constructed 48 issuer) ≡ plan.profile.issuer
  algorithm : Nodes
  algorithm_spelled : spelling (constructed 48 algorithm) ≡ key_algorithm_bytes plan.kind
  bits : List ℕ
  good : AreBitsOf plan.kind bits
  is : tree ≡ tree_with plan issuer algorithm bits

sequence_first : (kind : KeyKind) → (rest : List ℕ) × (key_algorithm_bytes kind ≡ 48 ∷ rest)
sequence_first Rsa = (_, refl)
sequence_first P256 = (_, refl)
sequence_first P384 = (_, refl)
sequence_first P521 = (_, refl)

spelling-algorithm : (alg : SigAlg) → spelling (algorithm_tree alg) ≡ algorithm_bytes alg
unfolding length_octets
spelling-algorithm RsaSha256 = refl
spelling-algorithm EcdsaSha256 = refl
spelling-algorithm EcdsaSha384 = refl

issuer_form : (plan : Plan) (issuer key : Node) → IsInForm 32 (body_tree plan issuer key) → IsInForm 31 issuer
unfolding IsInForm AreInForm
issuer_form plan issuer key form = form.2.1.1.1.0

key_form : (plan : Plan) (issuer key : Node) → IsInForm 32 (body_tree plan issuer key) → IsInForm 31 key
unfolding IsInForm AreInForm
key_form plan issuer key form = form.2.1.1.1.1.1.1.0

algorithm_form : (algorithm : Node) (bits : List ℕ) → IsInForm 32 (key_tree algorithm bits) → IsInForm 31 algorithm
unfolding IsInForm AreInForm
algorithm_form algorithm bits form = form.2.0

-- ---- what the reader makes of it

abbrev time_read : ℕ → Primitive
time_read moment = record { tag = tag_of (time_of moment); content = text_of (time_of moment) }

abbrev body_read : Plan → Nodes → Nodes → List ℕ → Body
body_read plan issuer algorithm bits = record {
  version = Some (2 ∷ []);
  serial = plan.serial;
  algorithm = spelling (algorithm_tree plan.profile.alg);
  issuer = spelling (constructed 48 issuer);
  not_before = time_read plan.not_before;
  not_after = time_read plan.not_after;
  subject_is_empty = not plan.common;
  subject = subject_read plan;
  key_algorithm = spelling (constructed 48 algorithm);
  key_bits = 0 ∷ bits;
  has_unique_id = false;
  extensions = Some (map extension_read (extensions_of plan));
}

body_is_read : (plan : Plan) (issuer algorithm : Nodes) (bits : List ℕ) (common : Bool) (alg : SigAlg)
    → plan.common ≡ common → plan.profile.alg ≡ alg
    → shape.body_of (tree_with plan issuer algorithm bits) ≡ Some (body_read plan issuer algorithm bits)
unfolding shape.body_of shape.layout_of
body_is_read plan issuer algorithm bits true RsaSha256 e f = rw (e, f) refl
body_is_read plan issuer algorithm bits true EcdsaSha256 e f = rw (e, f) refl
body_is_read plan issuer algorithm bits true EcdsaSha384 e f = rw (e, f) refl
body_is_read plan issuer algorithm bits false RsaSha256 e f = rw (e, f) refl
body_is_read plan issuer algorithm bits false EcdsaSha256 e f = rw (e, f) refl
body_is_read plan issuer algorithm bits false EcdsaSha384 e f = rw (e, f) refl

unwrapped : {A : Type 0} {x y : A} → Some x ≡ Some y → x ≡ y
unwrapped e = cc e

module _ (one_tree : (bytes : List ℕ) (tree other : Node) → IsDer bytes tree → IsDer bytes other → tree ≡ other)
    (written : (moment : ℕ) → moment ≤ 253402300799
    → IsTimeText (tag_of (time_of moment)) (text_of (time_of moment)) (pos moment)) where
  tree_of : (plan : Plan) (tree : Node) → IsSound plan → IsDer (body_of plan) tree → IsBodyTree plan tree
      → IsTreeOf plan tree
  tree_of plan tree sound der parts =
      let form : IsInForm 32 (body_tree plan parts.issuer parts.key) = rw parts.is at der.form in
      let issuer = is_sequence 31 parts.issuer _ (issuer_form plan parts.issuer parts.key form)
      (parts.issuer_spelled ∙ sound.profile.issuer.spelled) in
      let key : parts.key ≡ key_tree sound.key.algorithm sound.key.bits = one_tree plan.spki _ _
      (record {
        spelled = sym parts.key_spelled;
        form = deeper 31 parts.key (key_form plan parts.issuer parts.key form);
      })
      sound.key.spelled in
      let named = sequence_first plan.kind in
      let algorithm = is_sequence 31 sound.key.algorithm named.0
      (algorithm_form sound.key.algorithm sound.key.bits sound.key.spelled.form) (sound.key.named ∙ named.1) in
      record {
        issuer = issuer.0;
        issuer_spelled = ap spelling (sym issuer.1) ∙ parts.issuer_spelled;
        algorithm = algorithm.0;
        algorithm_spelled = ap spelling (sym algorithm.1) ∙ sound.key.named;
        bits = sound.key.bits;
        good = sound.key.good;
        is = parts.is ∙ ap (λ (n : Node). body_tree plan n parts.key) issuer.1
            ∙ ap (λ (n : Node). body_tree plan (constructed 48 issuer.0) n)
            (key ∙ ap (λ (n : Node). key_tree n sound.key.bits) algorithm.1);
      }

  read_of : (plan : Plan) (tree : Node) (is : IsTreeOf plan tree)
      → shape.body_of tree ≡ Some (body_read plan is.issuer is.algorithm is.bits)
  read_of plan tree is =
      ap shape.body_of is.is
      ∙ body_is_read plan is.issuer is.algorithm is.bits plan.common plan.profile.alg refl refl

  pub has_shape : (plan : Plan) (tree : Node) → IsSound plan → IsDer (body_of plan) tree → IsBodyTree plan tree
      → (body : Body) × IsBody (body_of plan) body
  has_shape plan tree sound der parts =
      let is = tree_of plan tree sound der parts in (
        body_read plan is.issuer is.algorithm is.bits,
        record { tree = tree; spelled = der; says = read_of plan tree is },
      )

  pub says_plan : (plan : Plan) (body : Body) (is_body : IsBody (body_of plan) body) → IsSound plan
      → IsBodyTree plan is_body.tree → SaysPlan plan body
  says_plan plan body is_body sound parts =
      let is = tree_of plan is_body.tree sound is_body.spelled parts in
      let same : body ≡ body_read plan is.issuer is.algorithm is.bits = unwrapped
      (sym is_body.says ∙ read_of plan is_body.tree is) in
      rw same record {
        version = refl;
        serial = refl;
        algorithm = spelling-algorithm plan.profile.alg;
        issuer = is.issuer_spelled;
        not_before = written plan.not_before (omega (arith, sound.times, sound.last_time));
        not_after = written plan.not_after sound.last_time;
        subject_is_empty = refl;
        subject = refl;
        key_algorithm = is.algorithm_spelled;
        bits = is.bits;
        key_bits = refl;
        good_bits = is.good;
        no_unique_id = refl;
        extensions = refl;
      }
