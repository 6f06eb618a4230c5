-- An algorithm's last byte tells the kind.
use Rattle.std.proofs.Common.{◌≡◌, ◌==◌, ℕ, List, refl, Some, ap, sym, ◌∙◌, [], ◌∷◌, if◌then◌else◌}
use Rattle.gate_base.specs.declared.profile.KeyKind.{KeyKind}
use Rattle.gate_base.specs.declared.profile.KeyKind.TheVariants.{Rsa, P256, P384, P521}
use Rattle.der_text.specs.Content.{last_of}
use Rattle.der_text.specs.Tree.{Node, spelling, part_of}
use Rattle.public_key.specs.Key.{algorithm_bytes, key_tree}

kind_ending : List ℕ → KeyKind
kind_ending bytes =
    if last_of 0 bytes == 0 then Rsa else if last_of 0 bytes == 0x07 then P256 else if last_of 0 bytes == 0x22 then P384 else P521

kind_ending-algorithm_bytes : (kind : KeyKind) → kind_ending (algorithm_bytes kind) ≡ kind
unfolding kind_ending
kind_ending-algorithm_bytes Rsa = refl
kind_ending-algorithm_bytes P256 = refl
kind_ending-algorithm_bytes P384 = refl
kind_ending-algorithm_bytes P521 = refl

same_kind : (kind other : KeyKind) → algorithm_bytes kind ≡ algorithm_bytes other → kind ≡ other
same_kind kind other e = sym (kind_ending-algorithm_bytes kind) ∙ ap kind_ending e ∙ kind_ending-algorithm_bytes other

-- the algorithm of a key's tree
pub same_algorithm : (kind other : KeyKind) (a b : Node) (bits others : List ℕ) → key_tree a bits ≡ key_tree b others → spelling a ≡ algorithm_bytes kind → spelling b ≡ algorithm_bytes other → kind ≡ other
same_algorithm kind other a b bits others e named named' =
    let part : Some a ≡ Some b = ap (part_of (0 ∷ [])) e in
    let same : a ≡ b = cc part in
    same_kind kind other (sym named ∙ ap spelling same ∙ named')
