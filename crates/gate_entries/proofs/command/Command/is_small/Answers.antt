use Rattle.std.proofs.Common.{◌≡◌, ◌+◌, ◌≤◌, sym, subst, arith, refl, inl, inr}
use Rattle.gate_entries.specs.declared.command.Command.{Command}
use Rattle.gate_entries.specs.declared.command.Command.TheVariants.{Order, Challenge, Finalize, Block}
use Rattle.gate_entries.specs.Spelling.{most_bytes}
use Rattle.gate_entries.specs.Fits.{FieldsFit, given_length}
use Rattle.gate_entries.proofs.Sizes.{order_given, challenge_given, block_given}
use Rattle.gate_entries.proofs.command.Command.is_small.Goals as goal

abbrev IsSmall : Command → Type 0
IsSmall command = 83 + given_length command ≤ most_bytes

small_as : (command other : Command) → command ≡ other → FieldsFit command → (FieldsFit other → IsSmall other) → IsSmall command
small_as command other is fits small = subst IsSmall (sym is) (small (subst FieldsFit is fits))

pub returns-in-Order : goal.returns-in-Order
returns-in-Order c =
    let self = c.args.self.now in
    let small : IsSmall self = elim c.in-Order.is [
      | inl o ↦ small_as self (Order o.0 o.1 o.2 o.3 o.4) o.5 c.requires (order_given o.0 o.1 o.2 o.3 o.4)
      | inr others ↦ elim others [
        | inl h ↦ small_as self (Challenge h.0 h.1 h.2 h.3) h.4 c.requires (λ fits. challenge_given h.0 h.1 h.2 h.3 fits.0 fits.1)
        | inr rest ↦ elim rest [
          | inl f ↦ small_as self (Finalize f.0) f.1 c.requires (λ fits. omega arith)
          | inr b ↦ small_as self (Block b.0 b.1) b.2 c.requires (block_given b.0 b.1)
        ]
      ]
    ] in
    (λ yes. small, λ fits. refl)
