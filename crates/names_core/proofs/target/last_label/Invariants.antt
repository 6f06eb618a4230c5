use Rattle.std.proofs.Common.{◌≡◌, ◌+◌, ◌≤◌, not, length, take}
use Rattle.std.specs.List.{suffix_len}
use Rattle.names_core.specs.Name.{is_full_stop}
use Rattle.names_core.proofs.target.last_label.Given as goal

abbrev pub invariant-loop-start : goal.invariant-loop-start
invariant-loop-start l =
    (l.start ≤ length l.text)
    × (l.start + suffix_len (λ byte. not (is_full_stop byte)) l.text ≡ length l.text + suffix_len (λ byte. not (is_full_stop byte)) (take l.start l.text))

abbrev pub decreases-loop-start : goal.decreases-loop-start
decreases-loop-start l = l.start
