use Rattle.std.proofs.Common.{◌≡◌, length}
use Rattle.std.specs.List.{find}
use Rattle.profile_lint.specs.Contents.{is_named, extension_named}
use Rattle.profile_lint.proofs.extension.extension_named.Given as goal

-- the first of the rest is the first of all
abbrev pub invariant-loop-rest : goal.invariant-loop-rest
invariant-loop-rest l =
    extension_named l.identifier l.body ≡ find (is_named l.identifier) l.rest

abbrev pub decreases-loop-rest : goal.decreases-loop-rest
decreases-loop-rest l = length l.rest
