-- Each rule on the contents of a sound plan's body.
use Rattle.std.proofs.Common.{◌≡◌, inl, inr, ℕ, Bool, true, false, not, List, Option, Some, refl, ap, ap₂, ◌∙◌}
use Rattle.std.specs.List.{AllByRecursion}
use Rattle.gate_base.specs.Tables.{row_at}
use Rattle.gate_base.specs.declared.moment.Moment.{Moment}
use Rattle.gate_base.specs.declared.profile.KeyKind.{KeyKind}
use Rattle.names_core.specs.declared.rule.Rule.{Rule}
use Rattle.public_key.specs.Key.{behind_zero, kind_of}
use Rattle.tbs_build.specs.Body.{first_text, body_of}
use Rattle.tbs_build.specs.Extension.{Extension as Built, extensions_of, IsSpelled}
use Rattle.tbs_build.specs.Plan.{Plan, IsSound}
use Rattle.tbs_shape.specs.Body.{Body, Extension}
use Rattle.tbs_shape.specs.Shape.{IsBody}
use Rattle.profile_lint.specs.Contents.{Contents, Judged, IsReading, IsReadingOf, Says}
use Rattle.profile_lint.specs.Lint.{IsBroken, head_rows, time_rows, subject_rows, key_rows, name_rows, usage_rows, issuer_rows, rows}
use Rattle.profile_lint.specs.Names.{targets_of}
use Rattle.profile_lint.specs.Parts.{shown}
use Rattle.profile_lint.specs.Rules as rules
use Rattle.sound_body.specs.Rules.{HasItsOctets, CanBeBroken}
use Rattle.sound_body.specs.Said.{SaysPlan}
use Rattle.sound_body.proofs.Contents.{IsOf, AreOfPlan, are_of_plan, key_identifier_named, no_basic_constraints, no_name_constraints}
use Rattle.sound_body.proofs.Keys.{same_bytes, serial_is_kept, algorithm_is_kept, order_is_kept, attributes_are_kept, country_is_kept, kind_is_named, modulus_is_kept, exponent_is_kept, point_is_kept}
use Rattle.sound_body.proofs.Lists.{Fine, kept, all_fine, broken_is_fine}
use Rattle.sound_body.proofs.Values.{judged_of, names_are_kept, critical_is_kept, usage_is_kept, usage_is_right, purposes_are_kept, purposes_are_right, policies_are_kept, key_identifier_is_kept, access_is_kept, points_are_kept}

-- a record, field by field
abbrev again : Judged → Judged
again judged = record { extension = judged.extension; tree = judged.tree }

-- a question to an extension that is there is the question to what was built
asked : (bad : Judged → Bool) (judged : Judged) (e : Built) → IsOf judged e → bad (judged_of e) ≡ false
    → bad judged ≡ false
asked bad judged e is fine =
    let same : again judged ≡ judged_of e = cc (is.extension, is.tree) in
    ap bad same ∙ fine

-- What holds of the six rules that such a body can break, where it breaks them.
pub record MayBreak (holds : ℕ → Type 0) (c : Contents) (suffixes : List Rule) (moment : Moment) : Type 0 where
  pub days : rules.lasts_too_long (row_at moment.0).validity c.begins c.ends ≡ true → holds 7
  pub common : rules.a_common_name_is_bad (targets_of (shown c.names.tree)) c.body.subject ≡ true → holds 11
  pub names : rules.a_name_is_bad (shown c.names.tree) ≡ true → holds 20
  pub bases : rules.a_name_has_no_base suffixes (targets_of (shown c.names.tree)) ≡ true → holds 21
  pub addresses : rules.an_address_is_reserved (targets_of (shown c.names.tree)) ≡ true → holds 22
  pub count : rules.names_are_many (shown c.names.tree) ≡ true → holds 34

module _ (plan : Plan) (sound : IsSound plan) (octets : AllByRecursion HasItsOctets plan.targets) (c : Contents)
    (is : AreOfPlan plan c) (key : IsReadingOf (behind_zero c.body.key_bits) c.key) (holds : ℕ → Type 0)
    (suffixes : List Rule) (moment : Moment) (may : MayBreak holds c suffixes moment) where
  head_is_fine : AllByRecursion (Fine holds) (head_rows c plan.profile)
  unfolding head_rows
  head_is_fine = (
    kept (ap rules.version_is_bad is.body.version),
    (
      kept (ap rules.serial_is_bad is.body.serial ∙ serial_is_kept plan.serial sound.serial sound.serial_size),
      (
        kept (ap (λ (a : List ℕ). rules.algorithm_is_bad a plan.profile) is.body.algorithm
            ∙ algorithm_is_kept plan.profile.alg),
        (
          kept (ap (λ (i : List ℕ). rules.issuer_is_bad i plan.profile) is.body.issuer
              ∙ ap not (same_bytes plan.profile.issuer)),
          tt,
        ),
      ),
    ),
  )

  times_are_fine : AllByRecursion (Fine holds) (time_rows c moment)
  unfolding time_rows
  times_are_fine = (
    kept (ap₂ rules.a_time_is_bad is.begins is.ends),
    (
      kept (ap₂ rules.ends_early is.begins is.ends ∙ order_is_kept plan.not_before plan.not_after sound.times),
      (may.days, (kept is.body.no_unique_id, tt)),
    ),
  )

  subject_is_fine : AllByRecursion (Fine holds) (subject_rows c)
  unfolding subject_rows
  subject_is_fine = (
    kept (ap rules.an_attribute_is_bad is.body.subject ∙ attributes_are_kept plan.common (first_text plan.targets)),
    (
      kept (ap rules.a_country_is_bad is.body.subject ∙ country_is_kept plan.common (first_text plan.targets)),
      (may.common, tt),
    ),
  )

  kind : kind_of c.body.key_algorithm ≡ Some plan.kind
  kind = ap kind_of is.body.key_algorithm ∙ kind_is_named plan.kind

  bits_read : IsReading is.body.bits c.key
  bits_read = rw is.body.key_bits at key

  key_is_fine : AllByRecursion (Fine holds) (key_rows c)
  unfolding key_rows
  key_is_fine = (
    kept (ap rules.key_algorithm_is_bad kind),
    (
      kept (ap (λ (k : Option KeyKind). rules.modulus_is_bad k c.key) kind
          ∙ modulus_is_kept plan.kind is.body.bits c.key is.body.good_bits bits_read),
      (
        kept (ap (λ (k : Option KeyKind). rules.exponent_is_bad k c.key) kind
            ∙ exponent_is_kept plan.kind is.body.bits c.key is.body.good_bits bits_read),
        (
          kept (ap₂ rules.point_is_bad kind is.body.key_bits
              ∙ point_is_kept plan.kind is.body.bits is.body.good_bits),
          tt,
        ),
      ),
    ),
  )

  names_are_fine : AllByRecursion (Fine holds) (name_rows c suffixes)
  unfolding name_rows
  names_are_fine = (
    kept (ap rules.extensions_are_bad is.body.extensions),
    (
      kept (ap rules.an_extension_is_unknown is.body.extensions),
      (
        kept (asked rules.names_are_absent c.names _ is.names refl),
        (
          kept (asked rules.names_are_bad c.names _ is.names
              (names_are_kept plan.common plan.targets sound.some octets)),
          (
            may.names,
            (
              may.bases,
              (
                may.addresses,
                (
                  kept (ap₂ rules.names_are_wrongly_critical is.names.extension is.body.subject_is_empty
                      ∙ critical_is_kept plan.common),
                  tt,
                ),
              ),
            ),
          ),
        ),
      ),
    ),
  )

  usage_is_fine : AllByRecursion (Fine holds) (usage_rows c)
  unfolding usage_rows
  usage_is_fine = (
    kept (asked rules.usage_is_bad c.usage _ is.usage (usage_is_kept plan.kind)),
    (
      kept (ap₂ rules.usage_is_wrong kind is.usage.extension ∙ usage_is_right plan.kind),
      (
        kept (asked rules.purposes_are_bad c.purposes _ is.purposes purposes_are_kept),
        (
          kept (asked rules.purposes_are_wrong c.purposes _ is.purposes purposes_are_right),
          (
            kept (ap rules.constraints_are_bad (no_basic_constraints plan c.body is.body)),
            (kept (asked rules.policies_are_bad c.policies _ is.policies policies_are_kept), tt),
          ),
        ),
      ),
    ),
  )

  issuer_is_fine : AllByRecursion (Fine holds) (issuer_rows c plan.profile)
  unfolding issuer_rows
  issuer_is_fine = (
    kept (ap rules.names_are_constrained (no_name_constraints plan c.body is.body)),
    (
      kept (ap (λ (e : Option Extension). rules.authority_key_is_bad e plan.profile)
          (key_identifier_named plan c.body is.body)
          ∙ key_identifier_is_kept plan.profile.key_id.0 sound.profile.key_id),
      (
        kept (asked rules.access_is_bad c.access _ is.access (access_is_kept plan.profile.aia sound.profile.aia)),
        (
          kept (asked rules.points_are_bad c.points _ is.points (points_are_kept plan.profile.crl sound.profile.crl)),
          (may.count, tt),
        ),
      ),
    ),
  )

  pub rows_are_fine : AllByRecursion (Fine holds) (rows c plan.profile suffixes moment)
  rows_are_fine =
      let times = all_fine holds (head_rows c plan.profile) (time_rows c moment) head_is_fine times_are_fine in
      let subject = all_fine holds _ (subject_rows c) times subject_is_fine in
      let key = all_fine holds _ (key_rows c) subject key_is_fine in
      let names = all_fine holds _ (name_rows c suffixes) key names_are_fine in
      let usage = all_fine holds _ (usage_rows c) names usage_is_fine in
      all_fine holds _ (issuer_rows c plan.profile) usage issuer_is_fine

-- what is known of the bodies of sound plans
pub record Known : Type 0 where
  pub shape : (plan : Plan) → IsSound plan → (body : Body) × IsBody (body_of plan) body
  pub says : (plan : Plan) (body : Body) → IsSound plan → IsBody (body_of plan) body → SaysPlan plan body
  pub values : (plan : Plan) → IsSound plan → AllByRecursion IsSpelled (extensions_of plan)

pub known_of : ((plan : Plan) → IsSound plan → (body : Body) × IsBody (body_of plan) body)
    → ((plan : Plan) (body : Body) → IsSound plan → IsBody (body_of plan) body → SaysPlan plan body)
    → ((plan : Plan) → IsSound plan → AllByRecursion IsSpelled (extensions_of plan)) → Known
known_of shape says values = record { shape = shape; says = says; values = values }

module _ (known : Known) (plan : Plan) (sound : IsSound plan) where
  pub contents_are : (c : Contents) → Says (body_of plan) c → AreOfPlan plan c
  contents_are c says = are_of_plan plan c (known.says plan c.body sound says.body) (known.values plan sound) says

  pub broken_by_a_sound_body : (holds : ℕ → Type 0) (suffixes : List Rule) (moment : Moment) (rule : ℕ)
      → AllByRecursion HasItsOctets plan.targets → ((c : Contents) → AreOfPlan plan c → MayBreak holds c suffixes moment)
      → IsBroken rule (body_of plan) plan.profile suffixes moment → holds rule
  broken_by_a_sound_body holds suffixes moment rule octets may (inl shapeless) =
      let body = known.shape plan sound in
      absurd (shapeless.1 body.0 body.1)
  broken_by_a_sound_body holds suffixes moment rule octets may (inr judged) =
      let c = judged.0 in
      let is = contents_are c judged.1 in
      broken_is_fine holds _ rule (rows_are_fine plan sound octets c is judged.1.key holds suffixes moment (may c is)) judged.2

pub any_may_break : (c : Contents) (suffixes : List Rule) (moment : Moment) → MayBreak CanBeBroken c suffixes moment
any_may_break c suffixes moment = record {
  days = λ broken. refl;
  common = λ broken. refl;
  names = λ broken. refl;
  bases = λ broken. refl;
  addresses = λ broken. refl;
  count = λ broken. refl;
}
