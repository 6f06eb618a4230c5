-- The body of a sound plan is in the form of DER.
use Rattle.std.proofs.Common.{◌≡◌, ℕ, suc, ◌+◌, ◌*◌, ◌^◌, ◌<◌, ◌≤◌, ◌++◌, IsTrue, Bool, true, false, List, [], ◌∷◌, length, length-append, append_assoc, refl, sym, ap, subst, ◌∙◌, arith}
use Rattle.std.proofs.lemmas.List.{append-nil}
use Rattle.gate_base.specs.declared.name.Target.{Target}
use Rattle.gate_base.specs.declared.profile.KeyKind.{KeyKind}
use Rattle.gate_base.specs.declared.profile.KeyKind.TheVariants.{Rsa, P256, P384, P521}
use Rattle.gate_base.specs.declared.profile.SigAlg.{SigAlg}
use Rattle.gate_base.specs.declared.profile.SigAlg.TheVariants.{RsaSha256, EcdsaSha256, EcdsaSha384}
use Rattle.der_text.specs.Content.{keeps_rule, is_primitive_content}
use Rattle.der_text.specs.Tree.{Node, primitive, constructed, also, element, length_octets, spelling, IsElement, IsInForm, AreInForm, IsDer}
use Rattle.public_key.specs.Key.{key_tree, algorithm_bytes as key_algorithm_bytes}
use Rattle.cert_time.specs.Time.{time_of, tag_of, text_of}
use Rattle.cert_time.specs.declared.time.Time.{Time}
use Rattle.cert_time.specs.declared.time.Time.TheVariants.{Utc, Generalized}
use Rattle.tbs_build.specs.Body.{version, serial_number, algorithm_tree, time_node, validity, common_name, common_name_type, first_text, subject_parts, subject, extensions, body_of, body_tree, IsBodyTree}
use Rattle.tbs_build.specs.Certificate.{algorithm_bytes}
use Rattle.tbs_build.specs.Extension.{alone}
use Rattle.tbs_build.specs.Plan.{Plan, IsSound}
use Rattle.tbs_build.proofs.Forms.{integer}
use Rattle.tbs_build.proofs.Plans.{common_is_short}
use Rattle.tbs_build.proofs.Good.{Good, AllGood, utf8_string, utc_time, generalized_time, sequence_tag, set_tag, first_tag, fourth_tag, good_element, good_primitive, good_constructed, none, and, only, at_most, all_at_most}
use Rattle.tbs_build.proofs.Values.{object_good, all_good}

version_good : Good 31 13 version
unfolding keeps_rule is_primitive_content
version_good =
    let two : IsElement 2 (2 ∷ []) = record { one_byte_tag = λ e. cc e; size = omega arith; rule = refl } in
    good_constructed 30 0xa0 7 _ first_tag refl (omega arith)
    (only (good_element 29 2 1 (2 ∷ []) refl two (omega arith)))

serial_good : (plan : Plan) → IsSound plan → Good 31 22 (serial_number plan)
serial_good plan sound = good_element 30 2 16 plan.serial refl
    (integer plan.serial sound.serial (omega (arith, sound.serial_size))) (omega (arith, sound.serial_size))

null_is : IsElement 5 []
unfolding keeps_rule is_primitive_content
null_is = record { one_byte_tag = λ e. cc e; size = omega arith; rule = refl }

algorithm_good : (alg : SigAlg) → Good 31 40 (algorithm_tree alg)
unfolding keeps_rule is_primitive_content
algorithm_good RsaSha256 =
    at_most (good_constructed 30 48 21 _ sequence_tag refl (omega arith)
    (and (object_good _ (omega arith) refl) (only (good_element 29 5 0 [] refl null_is (omega arith)))))
    (omega arith)
algorithm_good EcdsaSha256 = at_most
    (good_constructed 30 48 15 _ sequence_tag refl (omega arith) (only (object_good _ (omega arith) refl)))
    (omega arith)
algorithm_good EcdsaSha384 = at_most
    (good_constructed 30 48 15 _ sequence_tag refl (omega arith) (only (object_good _ (omega arith) refl)))
    (omega arith)

-- ---- times

text_good : (levels : ℕ) (time : Time) → length (text_of time) ≤ 15
    → Good (suc levels) 21 (primitive (tag_of time) (text_of time))
text_good levels (Utc text) short = good_primitive levels 23 15 text utc_time refl short (omega arith)
text_good levels (Generalized text) short = good_primitive levels 24 15 text generalized_time refl short (omega arith)

text_is_short : (moment : ℕ) → length (text_of (time_of moment)) ≤ 15
text_is_short moment = grind arith

time_good : (levels moment : ℕ) → Good (suc levels) 21 (time_node moment)
time_good levels moment = text_good levels (time_of moment) (text_is_short moment)

validity_good : (plan : Plan) → Good 31 48 (validity plan)
validity_good plan = good_constructed 30 48 42 _ sequence_tag refl (omega arith)
    (and (time_good 29 plan.not_before) (only (time_good 29 plan.not_after)))

-- ---- the subject

common_name_good : (text : List ℕ) → length text ≤ 253 → Good 30 286 (common_name text)
unfolding keeps_rule is_primitive_content
common_name_good text short =
    let string = only (good_primitive 27 12 253 text utf8_string refl short (omega arith)) in
    let attribute = good_constructed 28 48 274 _ sequence_tag refl (omega arith)
    (and (object_good common_name_type (omega arith) refl) string) in
    good_constructed 29 49 280 _ set_tag refl (omega arith) (only attribute)

subject_parts_good : (plan : Plan) (common : Bool) (text : List ℕ) → plan.common ≡ common
    → first_text plan.targets ≡ text → (IsTrue common → length text ≤ 253) → AllGood 30 286 (subject_parts plan)
subject_parts_good plan true text e same short = rw (e, same) (only (common_name_good text (short refl)))
subject_parts_good plan false text e same short = rw e (all_at_most (none 30) (omega arith))

first_text_is_short : (plan : Plan) (targets : List Target) → IsSound plan → plan.targets ≡ targets
    → IsTrue plan.common → length (first_text plan.targets) ≤ 253
first_text_is_short plan [] sound e common = absurd (cc (rw e at (sound.named common)))
first_text_is_short plan (first ∷ rest) sound e common = rw e (common_is_short plan first rest sound e common)

subject_good : (plan : Plan) → IsSound plan → Good 31 292 (subject plan)
subject_good plan sound =
    good_constructed 30 48 286 _ sequence_tag refl (omega arith)
    (subject_parts_good plan plan.common (first_text plan.targets) refl refl
    (first_text_is_short plan plan.targets sound refl))

-- ---- the extensions

extensions_good : (plan : Plan) (most : ℕ) → IsSound plan → length plan.targets ≤ most → most ≤ 255
    → Good 31 (1424 + 259 * most) (extensions plan)
extensions_good plan most sound count low =
    at_most (good_constructed 30 0xa3 (1418 + 259 * most) _ fourth_tag refl (omega arith)
    (all_at_most (only (good_constructed 29 48 (1412 + 259 * most) _ sequence_tag refl (omega arith)
    (all_good 27 most plan sound count low))) (omega arith))) (omega arith)

-- ---- the key

key_algorithm : KeyKind → Node
key_algorithm Rsa = constructed 48
    (also (primitive 6 (0x2a ∷ 0x86 ∷ 0x48 ∷ 0x86 ∷ 0xf7 ∷ 0x0d ∷ 0x01 ∷ 0x01 ∷ 0x01 ∷ [])) (alone (primitive 5 [])))
key_algorithm P256 = constructed 48
    (also (primitive 6 (0x2a ∷ 0x86 ∷ 0x48 ∷ 0xce ∷ 0x3d ∷ 0x02 ∷ 0x01 ∷ []))
    (alone (primitive 6 (0x2a ∷ 0x86 ∷ 0x48 ∷ 0xce ∷ 0x3d ∷ 0x03 ∷ 0x01 ∷ 0x07 ∷ []))))
key_algorithm P384 = constructed 48
    (also (primitive 6 (0x2a ∷ 0x86 ∷ 0x48 ∷ 0xce ∷ 0x3d ∷ 0x02 ∷ 0x01 ∷ []))
    (alone (primitive 6 (0x2b ∷ 0x81 ∷ 0x04 ∷ 0x00 ∷ 0x22 ∷ []))))
key_algorithm P521 = constructed 48
    (also (primitive 6 (0x2a ∷ 0x86 ∷ 0x48 ∷ 0xce ∷ 0x3d ∷ 0x02 ∷ 0x01 ∷ []))
    (alone (primitive 6 (0x2b ∷ 0x81 ∷ 0x04 ∷ 0x00 ∷ 0x23 ∷ []))))

spelling-key_algorithm : (kind : KeyKind) → spelling (key_algorithm kind) ≡ key_algorithm_bytes kind
unfolding key_algorithm length_octets
spelling-key_algorithm Rsa = refl
spelling-key_algorithm P256 = refl
spelling-key_algorithm P384 = refl
spelling-key_algorithm P521 = refl

key_algorithm_good : (kind : KeyKind) → Good 30 40 (key_algorithm kind)
unfolding key_algorithm keeps_rule is_primitive_content
key_algorithm_good Rsa =
    at_most (good_constructed 29 48 21 _ sequence_tag refl (omega arith)
    (and (object_good _ (omega arith) refl) (only (good_element 28 5 0 [] refl null_is (omega arith)))))
    (omega arith)
key_algorithm_good P256 = at_most
    (good_constructed 29 48 30 _ sequence_tag refl (omega arith)
    (and (object_good _ (omega arith) refl) (only (object_good _ (omega arith) refl)))) (omega arith)
key_algorithm_good P384 = at_most
    (good_constructed 29 48 30 _ sequence_tag refl (omega arith)
    (and (object_good _ (omega arith) refl) (only (object_good _ (omega arith) refl)))) (omega arith)
key_algorithm_good P521 = at_most
    (good_constructed 29 48 30 _ sequence_tag refl (omega arith)
    (and (object_good _ (omega arith) refl) (only (object_good _ (omega arith) refl)))) (omega arith)

key_node : (plan : Plan) → IsSound plan → Node
key_node plan sound = key_tree (key_algorithm plan.kind) sound.key.bits

spelling-key_node : (plan : Plan) (sound : IsSound plan) → spelling (key_node plan sound) ≡ plan.spki
unfolding key_node
spelling-key_node plan sound =
    ap (λ (algorithm : List ℕ). element 48 (algorithm ++ (element 3 (0 ∷ sound.key.bits) ++ [])))
    (spelling-key_algorithm plan.kind ∙ sym sound.key.named)
    ∙ sym sound.key.spelled.spelled

bits_are : (algorithm : Node) (bits : List ℕ) → IsInForm 32 (key_tree algorithm bits) → IsElement 3 (0 ∷ bits)
unfolding IsInForm AreInForm
bits_are algorithm bits form = form.2.1.0.1

inside : (tag tag' : ℕ) (front content : List ℕ)
    → length content ≤ length (element tag (front ++ (element tag' content ++ [])))
inside tag tag' front content =
    omega (
      arith,
      length-append front (element tag' content ++ []),
      length-append (element tag' content) [],
      length-append (length_octets (length content)) content,
      length-append (length_octets (length (front ++ (element tag' content ++ []))))
          (front ++ (element tag' content ++ [])),
    )

key_good : (plan : Plan) (sound : IsSound plan) → Good 31 16384 (key_node plan sound)
unfolding key_node
key_good plan sound =
    let same = spelling-key_node plan sound in
    let bits = bits_are sound.key.algorithm sound.key.bits sound.key.spelled.form in
    let whole : length (spelling (key_node plan sound)) ≤ 16384 = subst (λ (b : List ℕ). length b ≤ 16384)
    (sym same) sound.key_size in
    let few : length (0 ∷ sound.key.bits) ≤ 16384 = omega
    (arith, whole, inside 48 3 (spelling (key_algorithm plan.kind)) (0 ∷ sound.key.bits)) in
    let good = good_constructed 30 48 16430 _ sequence_tag refl (omega arith)
    (and (key_algorithm_good plan.kind) (only (good_element 29 3 16384 (0 ∷ sound.key.bits) refl bits few))) in
    record { form = good.form; size = whole }

-- ---- the whole

issuer_node : (plan : Plan) → IsSound plan → Node
issuer_node plan sound = constructed 48 sound.profile.issuer.parts

issuer_good : (plan : Plan) (sound : IsSound plan) → Good 31 1024 (issuer_node plan sound)
unfolding issuer_node
issuer_good plan sound =
    let issuer = sound.profile.issuer in
    record { form = issuer.form; size = subst (λ (b : List ℕ). length b ≤ 1024) issuer.spelled issuer.short }

-- with at most so many targets
body_good : (plan : Plan) (sound : IsSound plan) (most : ℕ) → length plan.targets ≤ most → most ≤ 255
    → Good 32 (19253 + 259 * most) (body_tree plan (issuer_node plan sound) (key_node plan sound))
body_good plan sound most count low =
    at_most (good_constructed 31 48 (19247 + 259 * most) _ sequence_tag refl (omega arith)
    (all_at_most (and version_good (and (serial_good plan sound) (and (algorithm_good plan.profile.alg)
    (and (issuer_good plan sound) (and (validity_good plan) (and (subject_good plan sound)
    (and (key_good plan sound) (only (extensions_good plan most sound count low))))))))) (omega arith))) (omega arith)

spelling-algorithm : (alg : SigAlg) → spelling (algorithm_tree alg) ≡ algorithm_bytes alg
unfolding length_octets
spelling-algorithm RsaSha256 = refl
spelling-algorithm EcdsaSha256 = refl
spelling-algorithm EcdsaSha384 = refl

-- the same pieces, once in two groups and once one after another
regrouped : (v s a i d t k e : List ℕ)
    → (v ++ s ++ a ++ i ++ d) ++ t ++ k ++ e ≡ v ++ (s ++ (a ++ (i ++ (d ++ (t ++ (k ++ (e ++ [])))))))
regrouped v s a i d t k e = simp (append_assoc, append-nil) refl

body_spelled : (plan : Plan) (issuer key : Node) → spelling issuer ≡ plan.profile.issuer → spelling key ≡ plan.spki
    → body_of plan ≡ spelling (body_tree plan issuer key)
body_spelled plan issuer key issuer_is key_is =
    ap (element 48) (regrouped (spelling version) (spelling (serial_number plan))
    (algorithm_bytes plan.profile.alg) plan.profile.issuer (spelling (validity plan))
    (spelling (subject plan)) plan.spki (spelling (extensions plan))
    ∙ ap (λ (x : List ℕ). spelling version ++
    (spelling (serial_number plan) ++
    (x ++ (plan.profile.issuer ++ (spelling (validity plan) ++
    (spelling (subject plan) ++ (plan.spki ++ (spelling (extensions plan) ++ []))))))))
    (sym (spelling-algorithm plan.profile.alg))
    ∙ ap (λ (x : List ℕ). spelling version ++
    (spelling (serial_number plan) ++
    (spelling (algorithm_tree plan.profile.alg) ++
    (x ++ (spelling (validity plan) ++
    (spelling (subject plan) ++ (plan.spki ++ (spelling (extensions plan) ++ [])))))))) (sym issuer_is)
    ∙ ap (λ (x : List ℕ). spelling version ++
    (spelling (serial_number plan) ++
    (spelling (algorithm_tree plan.profile.alg) ++
    (spelling issuer ++ (spelling (validity plan) ++
    (spelling (subject plan) ++ (x ++ (spelling (extensions plan) ++ [])))))))) (sym key_is))

pub tree_of : (plan : Plan) → IsSound plan → Node
tree_of plan sound = body_tree plan (issuer_node plan sound) (key_node plan sound)

pub body_is_der : (plan : Plan) (sound : IsSound plan) → IsDer (body_of plan) (tree_of plan sound)
unfolding tree_of issuer_node
body_is_der plan sound = record {
  spelled = body_spelled plan (issuer_node plan sound) (key_node plan sound) (sym sound.profile.issuer.spelled)
      (spelling-key_node plan sound);
  form = (body_good plan sound 255 sound.count (omega arith)).form;
}

pub body_is_short : (plan : Plan) → IsSound plan → length plan.targets ≤ 100 → length (body_of plan) < 2 ^ 16
unfolding tree_of
body_is_short plan sound few =
    let good = body_good plan sound 100 few (omega arith) in
    subst (λ (b : List ℕ). length b < 2 ^ 16) (sym (body_is_der plan sound).spelled) (omega (arith, good.size))

pub is_body_tree : (plan : Plan) (sound : IsSound plan) → IsBodyTree plan (tree_of plan sound)
unfolding tree_of issuer_node
is_body_tree plan sound = record {
  issuer = issuer_node plan sound;
  key = key_node plan sound;
  issuer_spelled = sym sound.profile.issuer.spelled;
  key_spelled = spelling-key_node plan sound;
  is = refl;
}
