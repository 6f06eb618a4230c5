-- What the rules look at in the body of a sound plan: its times, and its extensions with the trees of their values.
use Rattle.std.proofs.Common.{◌≡◌, ℕ, pos, List, Some, None, refl, ◌∙◌}
use Rattle.std.specs.List.{AllByRecursion}
use Rattle.der_text.specs.Tree.{spelling}
use Rattle.tbs_build.specs.Body.{body_of}
use Rattle.tbs_build.specs.Extension.{Extension as Built, authority_key_identifier, key_usage, extended_key_usage, subject_alt_name, certificate_policies, crl_distribution_points, authority_info_access, extensions_of, IsSpelled}
use Rattle.tbs_build.specs.Plan.{Plan}
use Rattle.tbs_shape.specs.Body.{Body}
use Rattle.profile_lint.specs.Identifiers as identifiers
use Rattle.profile_lint.specs.Contents.{extension_named, IsReadingOf, Judged, IsJudged, Contents, Says}
use Rattle.sound_body.specs.Said.{extension_read, SaysPlan}

-- the judged extension is this one, and so is its value
pub record IsOf (judged : Judged) (e : Built) : Type 0 where
  pub extension : judged.extension ≡ Some (extension_read e)
  pub tree : judged.tree ≡ Some e.value

pub record AreOfPlan (plan : Plan) (c : Contents) : Type 0 where
  pub body : SaysPlan plan c.body
  pub begins : c.begins ≡ Some (pos plan.not_before)
  pub ends : c.ends ≡ Some (pos plan.not_after)
  pub names : IsOf c.names (subject_alt_name plan.common plan.targets)
  pub usage : IsOf c.usage (key_usage plan.kind)
  pub purposes : IsOf c.purposes extended_key_usage
  pub policies : IsOf c.policies certificate_policies
  pub points : IsOf c.points (crl_distribution_points plan.profile.crl)
  pub access : IsOf c.access (authority_info_access plan.profile.aia)

judged_is : (body : Body) (identifier : List ℕ) (judged : Judged) (e : Built) → IsJudged body identifier judged
    → extension_named identifier body ≡ Some (extension_read e) → IsSpelled e → IsOf judged e
judged_is body identifier judged e is named spelled =
    let first : judged.extension ≡ Some (extension_read e) = is.first ∙ named in
    let read : IsReadingOf (Some (spelling e.value)) judged.tree = rw first at is.read in
    record { extension = first; tree = (read e.value).0 spelled }

module _ (plan : Plan) (body : Body) (says : SaysPlan plan body) where
  pub key_identifier_named : extension_named identifiers.authority_key_identifier body
      ≡ Some (extension_read (authority_key_identifier plan.profile.key_id.0))
  key_identifier_named = rw says.extensions refl

  names_named : extension_named identifiers.subject_alt_name body
      ≡ Some (extension_read (subject_alt_name plan.common plan.targets))
  names_named = rw says.extensions refl

  usage_named : extension_named identifiers.key_usage body ≡ Some (extension_read (key_usage plan.kind))
  usage_named = rw says.extensions refl

  purposes_named : extension_named identifiers.ext_key_usage body ≡ Some (extension_read extended_key_usage)
  purposes_named = rw says.extensions refl

  policies_named : extension_named identifiers.certificate_policies body ≡ Some (extension_read certificate_policies)
  policies_named = rw says.extensions refl

  points_named : extension_named identifiers.crl_distribution_points body
      ≡ Some (extension_read (crl_distribution_points plan.profile.crl))
  points_named = rw says.extensions refl

  access_named : extension_named identifiers.authority_info_access body
      ≡ Some (extension_read (authority_info_access plan.profile.aia))
  access_named = rw says.extensions refl

  pub no_basic_constraints : extension_named identifiers.basic_constraints body ≡ None
  no_basic_constraints = rw says.extensions refl

  pub no_name_constraints : extension_named identifiers.name_constraints body ≡ None
  no_name_constraints = rw says.extensions refl

pub are_of_plan : (plan : Plan) (c : Contents) → SaysPlan plan c.body
    → AllByRecursion IsSpelled (extensions_of plan) → Says (body_of plan) c → AreOfPlan plan c
are_of_plan plan c body spelled says = record {
  body = body;
  begins = (says.begins.exact (pos plan.not_before)).1 body.not_before;
  ends = (says.ends.exact (pos plan.not_after)).1 body.not_after;
  names = judged_is c.body _ c.names _ says.names (names_named plan c.body body) spelled.1.1.1.0;
  usage = judged_is c.body _ c.usage _ says.usage (usage_named plan c.body body) spelled.1.0;
  purposes = judged_is c.body _ c.purposes _ says.purposes (purposes_named plan c.body body) spelled.1.1.0;
  policies = judged_is c.body _ c.policies _ says.policies (policies_named plan c.body body) spelled.1.1.1.1.0;
  points = judged_is c.body _ c.points _ says.points (points_named plan c.body body) spelled.1.1.1.1.1.0;
  access = judged_is c.body _ c.access _ says.access (access_named plan c.body body) spelled.1.1.1.1.1.1.0;
}
