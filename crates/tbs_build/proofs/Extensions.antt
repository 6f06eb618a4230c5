-- Extensions one after another.
use Rattle.std.proofs.Common.{◌≡◌, List, ℕ, [], ◌∷◌, ◌++◌, refl, sym, ap, ◌∙◌, append_assoc}
use Rattle.der_text.specs.Tree.{spelling, spellings}
use Rattle.tbs_build.specs.Extension.{Extension, extension_tree, extension_trees}

pub spellings-append : (es others : List Extension)
    → spellings (extension_trees (es ++ others)) ≡ spellings (extension_trees es) ++ spellings
    (extension_trees others)
spellings-append [] others = refl
spellings-append (e ∷ es) others =
    ap (λ (rest : List ℕ). spelling (extension_tree e) ++ rest) (spellings-append es others)
    ∙ sym (append_assoc (spelling (extension_tree e)) (spellings (extension_trees es))
    (spellings (extension_trees others)))
