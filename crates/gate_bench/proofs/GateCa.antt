-- The name of the example's issuer.
use Rattle.std.proofs.Common.{◌≡◌, List, ℕ, [], ◌∷◌, refl, arith, subst, sym}
use Rattle.der_text.specs.Content.{keeps_rule, is_primitive_content}
use Rattle.der_text.specs.Tree.{primitive, constructed, no_nodes, also, length_octets, IsInForm, AreInForm}
use Rattle.cert_fields.specs.Profile.{IsIssuerName}

gate_ca : List ℕ
gate_ca =
    0x30 ∷ 0x12 ∷ 0x31 ∷ 0x10 ∷ 0x30 ∷ 0x0e ∷ 0x06 ∷ 0x03 ∷ 0x55 ∷ 0x04 ∷ 0x03 ∷ 0x0c ∷ 0x07
    ∷ 0x47 ∷ 0x61 ∷ 0x74 ∷ 0x65 ∷ 0x20 ∷ 0x43 ∷ 0x41 ∷ []

is_issuer : IsIssuerName gate_ca
unfolding gate_ca length_octets IsInForm AreInForm keeps_rule is_primitive_content
is_issuer = record {
  short = omega arith;
  parts = also (constructed 49 (also
      (constructed 48 (also (primitive 6 (0x55 ∷ 0x04 ∷ 0x03 ∷ []))
      (also (primitive 12 (0x47 ∷ 0x61 ∷ 0x74 ∷ 0x65 ∷ 0x20 ∷ 0x43 ∷ 0x41 ∷ [])) no_nodes))) no_nodes)) no_nodes;
  spelled = refl;
  form = (
    refl,
    record { one_byte_tag = λ e. cc e; size = omega arith; rule = refl },
    (
      (
        refl,
        record { one_byte_tag = λ e. cc e; size = omega arith; rule = refl },
        (
          (
            refl,
            record { one_byte_tag = λ e. cc e; size = omega arith; rule = refl },
            (
              (refl, record { one_byte_tag = λ e. cc e; size = omega arith; rule = refl }),
              ((refl, record { one_byte_tag = λ e. cc e; size = omega arith; rule = refl }), tt),
            ),
          ),
          tt,
        ),
      ),
      tt,
    ),
  );
}

pub gate_ca_is_issuer : (bytes : List ℕ)
    → bytes ≡ 0x30 ∷ 0x12 ∷ 0x31 ∷ 0x10 ∷ 0x30 ∷ 0x0e ∷ 0x06 ∷ 0x03 ∷ 0x55 ∷ 0x04 ∷ 0x03 ∷ 0x0c ∷ 0x07
    ∷ 0x47 ∷ 0x61 ∷ 0x74 ∷ 0x65 ∷ 0x20 ∷ 0x43 ∷ 0x41 ∷ []
    → IsIssuerName bytes
unfolding gate_ca
gate_ca_is_issuer bytes e = subst IsIssuerName (sym e) is_issuer
