use Rattle.std.proofs.Common.{option_map, sym, ap, ◌∙◌}
use Rattle.serde_json.specs.View.{members_view}
use Rattle.wire_decode.specs.Members.{counted}
use Rattle.wire_decode.proofs.Counts.{count_of_view}
use Rattle.wire_decode.proofs.member.member_count.Goals as goal

pub returns-in-Some : goal.returns-in-Some
returns-in-Some c =
    c.len.ensures.len ∙ sym (count_of_view c.in-Some.members.now.entries)
    ∙ ap (λ o. counted (option_map (λ m. members_view m.now.entries) o)) (sym c.in-Some.is) ∙ ap counted c.as_object.ensures
