-- Bytes say one thing at most.
use Rattle.std.proofs.Common.{◌≡◌, ◌↔◌, ℕ, ℤ, List, Option, Some, None, refl, sym, ◌∙◌}
use Rattle.der_text.specs.Tree.{Node, IsDer}
use Rattle.tbs_shape.specs.Body.{Body, Primitive}
use Rattle.tbs_shape.specs.Shape.{IsBody}
use Rattle.cert_time.specs.Time.{IsTimeText}
use Rattle.public_key.specs.Key.{behind_zero}
use Rattle.profile_lint.specs.Identifiers as identifiers
use Rattle.profile_lint.specs.Contents.{IsReadingOf, value_of, Judged, IsJudged, IsTime, Contents, Says}

-- two answers of which the same holds
same_answer : {A : Type 0} (holds : A → Type 0) (found other : Option A) → ((x : A) → found ≡ Some x ↔ holds x) → ((x : A) → other ≡ Some x ↔ holds x) → found ≡ other
same_answer holds (Some x) other is also = sym ((also x).1 ((is x).0 refl))
same_answer holds None (Some y) is also = (is y).1 ((also y).0 refl)
same_answer holds None None is also = refl

same_reading : (bytes : Option (List ℕ)) (found other : Option Node) → IsReadingOf bytes found
    → IsReadingOf bytes other → found ≡ other
same_reading None found other none also = none ∙ sym also
same_reading (Some bytes) found other is also =
    same_answer (IsDer bytes) found other (λ tree. ((is tree).1, (is tree).0)) (λ tree. ((also tree).1, (also tree).0))

-- records, field by field
abbrev judged_again : Judged → Judged
judged_again j = record { extension = j.extension; tree = j.tree }

abbrev again : Contents → Contents
again c = record {
  body = c.body;
  begins = c.begins;
  ends = c.ends;
  key = c.key;
  names = c.names;
  usage = c.usage;
  purposes = c.purposes;
  policies = c.policies;
  points = c.points;
  access = c.access;
}

same_judged : (body : Body) (identifier : List ℕ) (judged other : Judged) → IsJudged body identifier judged
    → IsJudged body identifier other → judged ≡ other
same_judged body identifier judged other is also =
    let first : judged.extension ≡ other.extension = is.first ∙ sym also.first in
    let read : IsReadingOf (value_of judged.extension) other.tree = rw first also.read in
    let tree : judged.tree ≡ other.tree = same_reading (value_of judged.extension) judged.tree other.tree is.read read in
    let whole : judged_again judged ≡ judged_again other = cc (first, tree) in
    whole

same_time : (time : Primitive) (found other : Option ℤ) → IsTime time found → IsTime time other → found ≡ other
same_time time found other is also = same_answer (IsTimeText time.tag time.content) found other is.exact also.exact

pub one_reading : (bytes : List ℕ) (c other : Contents) → ((bytes : List ℕ) (body other : Body)
    → IsBody bytes body → IsBody bytes other → body ≡ other) → Says bytes c → Says bytes other → c ≡ other
one_reading bytes c other one says also =
    let body : c.body ≡ other.body = one bytes c.body other.body says.body also.body in
    let begins = same_time c.body.not_before c.begins other.begins says.begins (rw body also.begins) in
    let ends = same_time c.body.not_after c.ends other.ends says.ends (rw body also.ends) in
    let key = same_reading (behind_zero c.body.key_bits) c.key other.key says.key (rw body also.key) in
    let names = same_judged c.body identifiers.subject_alt_name c.names other.names says.names (rw body also.names) in
    let usage = same_judged c.body identifiers.key_usage c.usage other.usage says.usage (rw body also.usage) in
    let purposes = same_judged c.body identifiers.ext_key_usage c.purposes other.purposes says.purposes (rw body also.purposes) in
    let policies = same_judged c.body identifiers.certificate_policies c.policies other.policies says.policies (rw body also.policies) in
    let points = same_judged c.body identifiers.crl_distribution_points c.points other.points says.points (rw body also.points) in
    let access = same_judged c.body identifiers.authority_info_access c.access other.access says.access (rw body also.access) in
    let whole : again c ≡ again other = cc (body, begins, ends, key, names, usage, purposes, policies, points, access) in
    whole
