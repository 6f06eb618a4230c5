-- What bytes are read to, they are read to alone.
use Rattle.std.proofs.Common.{◌≡◌, ◌≢◌, ℕ, ◌≤◌, List, [], ◌∷◌, length, Option, Some, Ok, Err, refl, sym, ap, ◌∙◌, subst, arith}
use Rattle.gate_base.specs.declared.profile.KeyKind.{KeyKind}
use Rattle.gate_base.specs.declared.name.Target.{Target}
use Rattle.der_text.specs.declared.fault.DerFault.{DerFault}
use Rattle.der_text.specs.Tree.{Node, constructed, Nodes, IsDer}
use Rattle.der_text.specs.Fault as der
use Rattle.public_key.specs.Key.{IsKeyOf}
use Rattle.csr10.specs.declared.fault.CsrFault.{CsrFault}
use Rattle.csr10.specs.declared.fault.CsrFault.TheVariants.{Der, Shape, Version, Key, SanTwice, SanName, NoMemory}
use Rattle.csr10.specs.Shape.{request_of, each_of, sans_of_attribute}
use Rattle.csr10.specs.Names.{targets_of}
use Rattle.csr10.specs.Csr.{Request, Fields, SpellsNames, spki_of, IsRequest, AreFields, IsSan, IsCsr, HasBadName, HasFault, OfRequest, IsFirstFault}

abbrev Alone : Type 0
Alone = (bytes : List ℕ) (tree other : Node) → IsDer bytes tree → IsDer bytes other → tree ≡ other

abbrev Faultless : Type 0
Faultless = (bytes : List ℕ) (tree : Node) (fault : DerFault) → IsDer bytes tree → ¬ (der.IsFirstFault bytes fault)

abbrev OneFault : Type 0
OneFault = (bytes : List ℕ) (fault other : DerFault) → der.IsFirstFault bytes fault → der.IsFirstFault bytes other → fault ≡ other

abbrev OneKind : Type 0
OneKind = (bytes : List ℕ) (kind other : KeyKind) → IsKeyOf bytes kind → IsKeyOf bytes other → kind ≡ other

some_same : {A : Type 0} (o : Option A) (x y : A) → o ≡ Some x → o ≡ Some y → x ≡ y
some_same o x y e f = cc (e, f)

request : List ℕ → List ℕ → List (List ℕ) → Request
request version spki sans = record { version = version; spki = spki; sans = sans }

same_request : (r s : Request) → r.version ≡ s.version → r.spki ≡ s.spki → r.sans ≡ s.sans → r ≡ s
unfolding request
same_request r s version spki sans =
    let same : request r.version r.spki r.sans ≡ request s.version s.spki s.sans = cc (version, spki, sans) in
    same

fields_of : List ℕ → KeyKind → Option (List Target) → Fields
fields_of spki kind san = record { spki = spki; kind = kind; san = san }

same_fields : (f g : Fields) → f.spki ≡ g.spki → f.kind ≡ g.kind → f.san ≡ g.san → f ≡ g
unfolding fields_of
same_fields f g spki kind san =
    let same : fields_of f.spki f.kind f.san ≡ fields_of g.spki g.kind g.san = cc (spki, kind, san) in
    same

module _ (alone : Alone) where
  pub one_request : (bytes : List ℕ) (r s : Request) → IsRequest bytes r → IsRequest bytes s → r ≡ s
  one_request bytes r s is is' =
      let same = alone bytes is.tree is'.tree is.spelled is'.spelled in
      let parts = some_same _ (r.version, is.attributes) (s.version, is'.attributes) is.parts (ap request_of same ∙ is'.parts) in
      let keys = some_same _ _ _ is.key (ap spki_of same ∙ is'.key) in
      let attributes : is.attributes ≡ is'.attributes = ap (λ (p : List ℕ × Nodes). p.1) parts in
      let sans = some_same _ _ _ is.sans (ap (each_of sans_of_attribute) attributes ∙ is'.sans) in
      same_request r s (ap (λ (p : List ℕ × Nodes). p.0) parts) keys sans

  one_names : (value : List ℕ) (names others : Nodes) → SpellsNames value names → SpellsNames value others → names ≡ others
  one_names value names others is is' =
      let same : constructed 48 names ≡ constructed 48 others = alone value _ _ is is' in
      cc same

  one_san : (sans : List (List ℕ)) (san other : Option (List Target)) → IsSan sans san → IsSan sans other → san ≡ other
  one_san [] san other is is' = is ∙ sym is'
  one_san (value ∷ []) san other is is' =
      let names = one_names value is.0 is'.0 is.2 is'.2 in
      let read : Ok is.1 ≡ Ok is'.1 = sym is.3 ∙ ap targets_of names ∙ is'.3 in
      let targets : is.1 ≡ is'.1 = cc read in
      is.4 ∙ ap (λ (t : List Target). Some t) targets ∙ sym is'.4
  one_san (value ∷ second ∷ others) san other is is' = absurd is

  module _ (one_kind : OneKind) where
    same_asked : (request : Request) (f g : Fields) → AreFields request f → AreFields request g → f ≡ g
    same_asked request f g is is' =
        same_fields f g (is.spki ∙ sym is'.spki) (one_kind request.spki f.kind g.kind is.key is'.key) (one_san request.sans f.san g.san is.san is'.san)

    pub one_fields : (bytes : List ℕ) (f g : Fields) → IsCsr bytes f → IsCsr bytes g → f ≡ g
    one_fields bytes f g is is' =
        let same = one_request bytes is.request is'.request is.is is'.is in
        same_asked is'.request f g (subst (λ (r : Request). AreFields r f) same is.asks) is'.asks

  -- ---- fields and faults exclude each other

  not_twice : (sans : List (List ℕ)) (san : Option (List Target)) → IsSan sans san → 2 ≤ length sans → ⊥
  not_twice [] san is h = absurd (omega (arith, h))
  not_twice (value ∷ []) san is h = absurd (omega (arith, h))
  not_twice (value ∷ second ∷ others) san is h = is

  good_names : (sans : List (List ℕ)) (san : Option (List Target)) (value : List ℕ) (names : Nodes) (place : ℕ) → IsSan sans san → sans ≡ value ∷ [] → SpellsNames value names → targets_of names ≡ Err place → ⊥
  good_names [] san value names place is e spelled bad = cc e
  good_names (first ∷ []) san value names place is e spelled bad =
      let same : first ≡ value = cc e in
      let one = one_names value is.0 names (subst (λ (v : List ℕ). SpellsNames v is.0) same is.2) spelled in
      cc (is.3, ap targets_of one, bad)
  good_names (first ∷ second ∷ others) san value names place is e spelled bad = is

  no_fault : (request : Request) (fields : Fields) (fault : CsrFault) → AreFields request fields → HasFault request fault → fault ≡ NoMemory
  no_fault request fields (Der fault) are e = absurd e
  no_fault request fields Shape are e = absurd e
  no_fault request fields Version are e = absurd (e are.version)
  no_fault request fields Key are e = absurd (e.1 fields.kind are.key)
  no_fault request fields SanTwice are e = absurd (not_twice request.sans fields.san are.san e.2)
  no_fault request fields (SanName place) are e = absurd (good_names request.sans fields.san e.3.value e.3.names place are.san e.3.only e.3.spelled e.3.first)
  no_fault request fields NoMemory are e = refl

  of_request : (bytes : List ℕ) (fields : Fields) (fault : CsrFault) → IsCsr bytes fields → OfRequest bytes fault → fault ≡ NoMemory
  of_request bytes fields fault is bad =
      no_fault bad.0 fields fault (subst (λ (r : Request). AreFields r fields) (one_request bytes is.request bad.0 is.is bad.1) is.asks) bad.2

  module _ (faultless : Faultless) where
    pub no_first_fault : (bytes : List ℕ) (fields : Fields) (fault : CsrFault) → IsCsr bytes fields → IsFirstFault bytes fault → fault ≡ NoMemory
    no_first_fault bytes fields (Der fault) is e = absurd (faultless bytes is.is.tree fault is.is.spelled e)
    no_first_fault bytes fields Shape is e = absurd (e.none is.request is.is)
    no_first_fault bytes fields Version is e = of_request bytes fields Version is e
    no_first_fault bytes fields Key is e = of_request bytes fields Key is e
    no_first_fault bytes fields SanTwice is e = of_request bytes fields SanTwice is e
    no_first_fault bytes fields (SanName place) is e = of_request bytes fields (SanName place) is e
    no_first_fault bytes fields NoMemory is e = refl

  -- ---- one first fault

  one_place : (request : Request) (i j : ℕ) → HasBadName request i → HasBadName request j → i ≡ j
  one_place request i j bad bad' =
      let values : bad.value ≡ bad'.value = cc (bad.only, bad'.only) in
      let names = one_names bad'.value bad.names bad'.names (subst (λ (v : List ℕ). SpellsNames v bad.names) values bad.spelled) bad'.spelled in
      let read : Err i ≡ Err j = sym bad.first ∙ ap targets_of names ∙ bad'.first in
      cc read

  one_of_request : (request : Request) (fault other : CsrFault) → fault ≢ NoMemory → other ≢ NoMemory → HasFault request fault → HasFault request other → fault ≡ other
  one_of_request request (Der f) other n m e g = absurd e
  one_of_request request Shape other n m e g = absurd e
  one_of_request request NoMemory other n m e g = absurd (n refl)
  one_of_request request fault (Der f) n m e g = absurd g
  one_of_request request fault Shape n m e g = absurd g
  one_of_request request fault NoMemory n m e g = absurd (m refl)
  one_of_request request Version Version n m e g = refl
  one_of_request request Version Key n m e g = absurd (g.0 e)
  one_of_request request Version SanTwice n m e g = absurd (g.0 e)
  one_of_request request Version (SanName j) n m e g = absurd (g.0 e)
  one_of_request request Key Version n m e g = absurd (e.0 g)
  one_of_request request Key Key n m e g = refl
  one_of_request request Key SanTwice n m e g = absurd (g.1 e.1)
  one_of_request request Key (SanName j) n m e g = absurd (g.1 e.1)
  one_of_request request SanTwice Version n m e g = absurd (e.0 g)
  one_of_request request SanTwice Key n m e g = absurd (e.1 g.1)
  one_of_request request SanTwice SanTwice n m e g = refl
  one_of_request request SanTwice (SanName j) n m e g = absurd (g.2 e.2)
  one_of_request request (SanName i) Version n m e g = absurd (e.0 g)
  one_of_request request (SanName i) Key n m e g = absurd (e.1 g.1)
  one_of_request request (SanName i) SanTwice n m e g = absurd (e.2 g.2)
  one_of_request request (SanName i) (SanName j) n m e g = ap (λ (k : ℕ). SanName k) (one_place request i j e.3 g.3)

  both_of_request : (bytes : List ℕ) (fault other : CsrFault) → fault ≢ NoMemory → other ≢ NoMemory → OfRequest bytes fault → OfRequest bytes other → fault ≡ other
  both_of_request bytes fault other n m e g =
      one_of_request g.0 fault other n m (subst (λ (r : Request). HasFault r fault) (one_request bytes e.0 g.0 e.1 g.1) e.2) g.2

  module _ (faultless : Faultless) (one_fault : OneFault) where
    -- bytes with a fault of DER are no request, and have no tree of another shape
    der_alone : {P : Type 0} (bytes : List ℕ) (f : DerFault) (tree : Node) → IsDer bytes tree → der.IsFirstFault bytes f → P
    der_alone bytes f tree is e = absurd (faultless bytes tree f is e)

    pub one_first : (bytes : List ℕ) (fault other : CsrFault) → fault ≢ NoMemory → other ≢ NoMemory → IsFirstFault bytes fault → IsFirstFault bytes other → fault ≡ other
    one_first bytes NoMemory other n m e g = absurd (n refl)
    one_first bytes fault NoMemory n m e g = absurd (m refl)
    one_first bytes (Der f) (Der h) n m e g = ap (λ (k : DerFault). Der k) (one_fault bytes f h e g)
    one_first bytes (Der f) Shape n m e g = der_alone bytes f g.tree g.spelled e
    one_first bytes (Der f) Version n m e g = der_alone bytes f g.1.tree g.1.spelled e
    one_first bytes (Der f) Key n m e g = der_alone bytes f g.1.tree g.1.spelled e
    one_first bytes (Der f) SanTwice n m e g = der_alone bytes f g.1.tree g.1.spelled e
    one_first bytes (Der f) (SanName j) n m e g = der_alone bytes f g.1.tree g.1.spelled e
    one_first bytes Shape (Der h) n m e g = der_alone bytes h e.tree e.spelled g
    one_first bytes Shape Shape n m e g = refl
    one_first bytes Shape Version n m e g = absurd (e.none g.0 g.1)
    one_first bytes Shape Key n m e g = absurd (e.none g.0 g.1)
    one_first bytes Shape SanTwice n m e g = absurd (e.none g.0 g.1)
    one_first bytes Shape (SanName j) n m e g = absurd (e.none g.0 g.1)
    one_first bytes Version (Der h) n m e g = der_alone bytes h e.1.tree e.1.spelled g
    one_first bytes Version Shape n m e g = absurd (g.none e.0 e.1)
    one_first bytes Version Version n m e g = refl
    one_first bytes Version Key n m e g = both_of_request bytes Version Key n m e g
    one_first bytes Version SanTwice n m e g = both_of_request bytes Version SanTwice n m e g
    one_first bytes Version (SanName j) n m e g = both_of_request bytes Version (SanName j) n m e g
    one_first bytes Key (Der h) n m e g = der_alone bytes h e.1.tree e.1.spelled g
    one_first bytes Key Shape n m e g = absurd (g.none e.0 e.1)
    one_first bytes Key Version n m e g = both_of_request bytes Key Version n m e g
    one_first bytes Key Key n m e g = refl
    one_first bytes Key SanTwice n m e g = both_of_request bytes Key SanTwice n m e g
    one_first bytes Key (SanName j) n m e g = both_of_request bytes Key (SanName j) n m e g
    one_first bytes SanTwice (Der h) n m e g = der_alone bytes h e.1.tree e.1.spelled g
    one_first bytes SanTwice Shape n m e g = absurd (g.none e.0 e.1)
    one_first bytes SanTwice Version n m e g = both_of_request bytes SanTwice Version n m e g
    one_first bytes SanTwice Key n m e g = both_of_request bytes SanTwice Key n m e g
    one_first bytes SanTwice SanTwice n m e g = refl
    one_first bytes SanTwice (SanName j) n m e g = both_of_request bytes SanTwice (SanName j) n m e g
    one_first bytes (SanName i) (Der h) n m e g = der_alone bytes h e.1.tree e.1.spelled g
    one_first bytes (SanName i) Shape n m e g = absurd (g.none e.0 e.1)
    one_first bytes (SanName i) Version n m e g = both_of_request bytes (SanName i) Version n m e g
    one_first bytes (SanName i) Key n m e g = both_of_request bytes (SanName i) Key n m e g
    one_first bytes (SanName i) SanTwice n m e g = both_of_request bytes (SanName i) SanTwice n m e g
    one_first bytes (SanName i) (SanName j) n m e g = both_of_request bytes (SanName i) (SanName j) n m e g
