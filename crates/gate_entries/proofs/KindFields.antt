-- What reading an entry's fields takes.
use Rattle.std.proofs.Common.{◌≡◌, ℕ, List, [], ◌∷◌, Some, refl}
use Rattle.gate_entries.specs.declared.entry.What.{What}
use Rattle.gate_entries.specs.declared.kind.Kind.{Kind}
use Rattle.gate_entries.specs.declared.kind.Kind.TheVariants.{Settings, Order, Challenge, Observation, CaaAnswer, Send, Signed, Blocked}
use Rattle.gate_entries.specs.Kind.{kind_number, kinds, kind_with, kind_at, kind_of}
use Rattle.gate_entries.specs.Spelling.{what_bytes, IsWhat}
use Rattle.gate_entries.proofs.Fields.{Takes, IsField, one_of_field}

-- the fields of a kind take their bytes
abbrev pub TakesWhat : Kind → List ℕ → What × List ℕ → Type 0
TakesWhat kind bytes x = Takes bytes (what_bytes x.0) x.1 × IsWhat x.0 × (kind_of x.0 ≡ kind)

each_kind : (kind : Kind) → kind_with (kind_number kind) ≡ Some kind
each_kind Settings = refl
each_kind Order = refl
each_kind Challenge = refl
each_kind Observation = refl
each_kind CaaAnswer = refl
each_kind Send = refl
each_kind Signed = refl
each_kind Blocked = refl

pub kind_field : IsField (λ kind. kind_number kind ∷ []) (λ kind. Unit {0}) kind_at
kind_field = one_of_field kind_number kinds each_kind
