-- A panel has no fault.
use Rattle.std.proofs.Common.{◌≡◌, ℕ, pos, false, List, [], Result, Ok, sym, ◌∙◌, subst, arith}
use Rattle.std.proofs.lemmas.List.Quantifiers.{position-Some}
use Rattle.std.specs.List.{AllPass, position}
use Rattle.std.specs.Prelude.{not, Some}
use Rattle.perspectives.specs.declared.perspective.Perspective.{Perspective}
use Rattle.perspectives.specs.declared.perspective.Region.TheVariants.{Arin}
use Rattle.perspectives.specs.declared.fault.PanelFault.{PanelFault}
use Rattle.perspectives.specs.declared.fault.PanelFault.TheVariants.{TooMany, NoPrimary, TwicePrimary, TwiceNamed, BadPlace, TooNear, NoMemory}
use Rattle.perspectives.specs.Panel.{IsPanel, IsFirstFault, is_placed}
use Rattle.gate_settings.specs.Rules.{BreaksPanel, IsRowOf}

somewhere : Perspective
somewhere = record { id = []; primary = false; region = Arin; x = pos 0; y = pos 0; z = pos 0 }

none_misplaced : (members : List Perspective) (k : ℕ) → AllPass is_placed members → position (λ p. not (is_placed p)) members ≡ Some k → ⊥
none_misplaced members k placed found =
    let here = position-Some (λ p. not (is_placed p)) members k somewhere found in
    cc (here.1, placed k somewhere here.0)

no_fault : (members : List Perspective) (fault : PanelFault) (row : ℕ) → IsPanel members → IsFirstFault members fault → IsRowOf fault row → ⊥
no_fault members TooMany row panel h r = let few = panel.few in omega arith
no_fault members NoPrimary row panel h r = let one = panel.primary in let none = h.1 in cc (sym none ∙ one)
no_fault members TwicePrimary row panel h r = let one = panel.primary in let more = h.1 in omega arith
no_fault members TwiceNamed row panel h r = panel.names h.2 h.3 h.4
no_fault members (BadPlace k) row panel h r = none_misplaced members k panel.places h.3
no_fault members (TooNear i j) row panel h r = panel.apart i j h.4.here
no_fault members NoMemory row panel h r = r

pub panel_kept : (read : Result (List Perspective) ℕ) (members : List Perspective) → read ≡ Ok members → IsPanel members → (row : ℕ) → ¬ (BreaksPanel read row)
panel_kept read members e panel row h =
    let told : BreaksPanel (Ok members) row = subst (λ r. BreaksPanel r row) e h in
    no_fault members told.0 row panel told.1 told.2
