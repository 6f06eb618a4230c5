-- The network perspectives that a file names.
use Rattle.std.specs.Prelude.{ℕ, ◌+◌, List, [], ◌∷◌, ◌++◌, Option, Some, None, option_map, Result, Ok, Err}
use Rattle.perspectives.specs.declared.perspective.Perspective.{Perspective}
use Rattle.perspectives.specs.declared.perspective.Region.{Region}
use Rattle.gate_settings.specs.declared.document.PerspectiveTable.{PerspectiveTable}

abbrev pub member_in : PerspectiveTable → Region → Perspective
member_in p region = record { id = p.id; primary = p.primary; region = region; x = p.x; y = p.y; z = p.z }

-- the member of a row whose region is known
abbrev pub member_of : PerspectiveTable → Option Perspective
member_of p = option_map (member_in p) p.region

-- a member in front of others, or the place of a row whose region is unknown, counted from 1
abbrev pub member_before : ℕ → Option Perspective → Result (List Perspective) ℕ → Result (List Perspective) ℕ
member_before place None members = Err place
member_before place (Some member) (Ok members) = Ok (member ∷ members)
member_before place (Some member) (Err other) = Err other

abbrev pub members_from : ℕ → List PerspectiveTable → Result (List Perspective) ℕ
members_from place [] = Ok []
members_from place (p ∷ ps) = member_before place (member_of p) (members_from (place + 1) ps)

-- the members of all rows, or the place of the first whose region is unknown
unfoldable pub members_of : List PerspectiveTable → Result (List Perspective) ℕ
members_of ps = members_from 1 ps

-- members in front of others
abbrev pub members_then : List Perspective → Result (List Perspective) ℕ → Result (List Perspective) ℕ
members_then front (Ok members) = Ok (front ++ members)
members_then front (Err place) = Err place
