use Rattle.gate_machine.proofs.Serials.{one_order_each}
use Rattle.gate_machine.proofs.law.a_serial_number_has_one_order.Goals as goal

pub returns : goal.returns
returns c = one_order_each
