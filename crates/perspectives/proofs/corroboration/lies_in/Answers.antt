use Rattle.std.proofs.Common.{◌≡◌, refl, ◌∙◌}
use Rattle.perspectives.specs.Quorum.{is_same}
use Rattle.perspectives.specs.declared.perspective.Region.{Region}
use Rattle.perspectives.specs.declared.perspective.Region.TheVariants.{Afrinic, Apnic, Arin, Lacnic, Ripe}
use Rattle.perspectives.specs.contracts.perspective.Region.{the_type}
use denote.Enum.Bare.{sameb}
use Rattle.perspectives.proofs.corroboration.lies_in.Goals as goal

same : (a b : Region) → sameb the_type a b ≡ is_same a b
same Afrinic Afrinic = refl
same Apnic Apnic = refl
same Arin Arin = refl
same Lacnic Lacnic = refl
same Ripe Ripe = refl
same _ _ = refl

pub returns : goal.returns
returns c = c.eq.ensures ∙ same _ _
