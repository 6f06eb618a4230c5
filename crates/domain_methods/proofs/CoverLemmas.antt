-- The test of what evidence covers decides what it covers.
use Rattle.std.proofs.Common.{◌≡◌, ℕ, ◌-◌, ◌≤◌, Bool, true, false, not, nat_le, List, [], ◌++◌, length, take, bytes_eq, Option, Some, None, refl, sym, ap, ap₂, ◌∙◌, arith}
use Rattle.std.specs.Bool.{Decides}
use Rattle.std.specs.List.{ends_with}
use Rattle.std.proofs.lemmas.Bool.Decides.{Decides-and, nat_tests}
use Rattle.std.proofs.lemmas.Slice.Eq.{bytes_eq-Decides, ends_is, slice_eq-Decides}
use Rattle.gate_base.specs.declared.name.Address.{Address}
use Rattle.gate_base.specs.declared.name.Address.TheVariants.{V4, V6}
use Rattle.gate_base.specs.declared.name.Name.{Name}
use Rattle.gate_base.specs.declared.name.Target.{Target}
use Rattle.gate_base.specs.declared.name.Target.TheVariants.{Dns, Ip}
use Rattle.gate_base.specs.declared.seen.Method.{Method}
use Rattle.gate_base.specs.declared.seen.Method.TheVariants.{DnsChange, WebChange, AcmeHttp}
use Rattle.names_core.specs.declared.rule.Rule.{Rule}
use Rattle.names_core.specs.Suffix.{base_len, labels_eq}
use Rattle.domain_methods.specs.Cover.{Covers, CoversBelow, CoversItself, IsAuthorizationName, covers, covers_below, covers_itself, is_authorization_name, is_within}

Decides-by : {P Q : Type 0} (test : Bool) → (P → Q) → (Q → P) → Decides test P → Decides test Q
Decides-by test f g d = (λ h. f (d.0 h), λ q. d.1 (g q))

Decides-not : (wild : Bool) → Decides (not wild) (wild ≡ false)
Decides-not true = (λ h. absurd (cc), λ h. absurd (cc))
Decides-not false = (λ h. refl, λ h. refl)

Decides-le : (a b : ℕ) → Decides (nat_le a b) (a ≤ b)
Decides-le a b = (λ h. grind (arith, nat_tests), λ h. grind (arith, nat_tests))

Decides-within : (count : ℕ) (len : Option ℕ) → Decides (is_within count len) ((base : ℕ) × (len ≡ Some base) × (base ≤ count))
Decides-within count None = (λ h. absurd (cc), λ h. let same = h.1 in absurd (cc))
Decides-within count (Some base) =
    let d = Decides-le base count in
    (λ h. (base, refl, d.0 h), λ h. let same : base ≡ h.0 = cc (h.1) in d.1 (rw same h.2))

Decides-ends : (labels tail : List (List ℕ)) → Decides (ends_with bytes_eq labels tail) ((front : List (List ℕ)) × (labels ≡ front ++ tail))
Decides-ends labels tail =
    let is = ends_is bytes_eq-Decides labels tail (ends_with bytes_eq labels tail) refl in
    (λ h. (take (length labels - length tail) labels, is.0 h), λ h. is.1 h.0 h.1)

Decides-labels : (labels others : List (List ℕ)) → Decides (labels_eq labels others) (labels ≡ others)
Decides-labels labels others = slice_eq-Decides bytes_eq-Decides labels others (labels_eq labels others) refl

Decides-authorization : (proved wanted : Name) (rules : List Rule) → Decides (is_authorization_name proved wanted rules) (IsAuthorizationName proved wanted rules)
Decides-authorization proved wanted rules =
    Decides-by _
    (λ h. record { plain = h.0.0; front = h.1.0; ending = h.1.1; base = h.0.1.0; has_base = h.0.1.1; above_base = h.0.1.2 })
    (λ is. ((is.plain, (is.base, is.has_base, is.above_base)), (is.front, is.ending)))
    (Decides-and _ _ (Decides-and _ _ (Decides-not proved.wild) (Decides-within (length proved.labels) (base_len rules wanted.labels)))
    (Decides-ends wanted.labels proved.labels))

Decides-below : (proved wanted : Target) (rules : List Rule) → Decides (covers_below proved wanted rules) (CoversBelow proved wanted rules)
Decides-below (Dns proved) (Dns wanted) rules = Decides-authorization proved wanted rules
Decides-below (Dns proved) (Ip wanted) rules = (λ h. absurd (cc), λ h. absurd h)
Decides-below (Ip proved) wanted rules = (λ h. absurd (cc), λ h. absurd h)

-- the name of a target, or else this one
abbrev name_or : Name → Target → Name
name_or other (Dns name) = name
name_or other (Ip address) = other

-- the octets of a target, if it is an address
abbrev octets_in : Target → List ℕ
octets_in (Dns name) = []
octets_in (Ip (V4 octets)) = octets
octets_in (Ip (V6 octets)) = octets

same_names : (proved wanted : Name) → proved.wild ≡ false → wanted.wild ≡ false → proved.labels ≡ wanted.labels → Dns proved ≡ Dns wanted
same_names proved wanted plain other labels = ap₂ (λ l w. Dns (record { labels = l; wild = w })) labels (plain ∙ sym other)

Decides-names : (proved wanted : Name) → Decides (covers_itself (Dns proved) (Dns wanted)) (CoversItself (Dns proved) (Dns wanted))
Decides-names proved wanted =
    Decides-by _
    (λ h. (same_names proved wanted h.0.0 h.0.1 h.1, h.0.0))
    (λ is. let same = ap (name_or proved) is.0 in ((is.1, sym (ap (λ (n : Name). n.wild) same) ∙ is.1), ap (λ (n : Name). n.labels) same))
    (Decides-and _ _ (Decides-and _ _ (Decides-not proved.wild) (Decides-not wanted.wild)) (Decides-labels proved.labels wanted.labels))

Decides-octets : (family : List ℕ → Address) (proved wanted : List ℕ) → ((octets : List ℕ) → octets_in (Ip (family octets)) ≡ octets) → Decides (bytes_eq proved wanted) (Ip (family proved) ≡ Ip (family wanted))
Decides-octets family proved wanted again =
    Decides-by _
    (λ same. ap (λ octets. Ip (family octets)) same)
    (λ same. sym (again proved) ∙ ap octets_in same ∙ again wanted)
    (bytes_eq-Decides proved wanted)

Decides-itself : (proved wanted : Target) → Decides (covers_itself proved wanted) (CoversItself proved wanted)
Decides-itself (Dns proved) (Dns wanted) = Decides-names proved wanted
Decides-itself (Dns proved) (Ip wanted) = (λ h. absurd (cc), λ h. let same = h.0 in absurd (cc))
Decides-itself (Ip proved) (Dns wanted) = (λ h. absurd (cc), λ h. let same = h.0 in absurd (cc))
Decides-itself (Ip (V4 proved)) (Ip (V4 wanted)) = Decides-by _ (λ same. (same, tt)) (λ is. is.0) (Decides-octets V4 proved wanted (λ octets. refl))
Decides-itself (Ip (V4 proved)) (Ip (V6 wanted)) = (λ h. absurd (cc), λ h. let same = h.0 in absurd (cc))
Decides-itself (Ip (V6 proved)) (Ip (V4 wanted)) = (λ h. absurd (cc), λ h. let same = h.0 in absurd (cc))
Decides-itself (Ip (V6 proved)) (Ip (V6 wanted)) = Decides-by _ (λ same. (same, tt)) (λ is. is.0) (Decides-octets V6 proved wanted (λ octets. refl))

pub Decides-covers : (method : Method) (proved wanted : Target) (rules : List Rule) → Decides (covers method proved wanted rules) (Covers method proved wanted rules)
Decides-covers DnsChange proved wanted rules = Decides-below proved wanted rules
Decides-covers WebChange proved wanted rules = Decides-itself proved wanted
Decides-covers AcmeHttp proved wanted rules = Decides-itself proved wanted
