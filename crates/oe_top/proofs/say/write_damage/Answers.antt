use Rattle.oe_top.proofs.Writings.{stops_both, then_writes}
use Rattle.oe_top.specs.Lines.{number_said}
use Rattle.oe_top.proofs.say.write_damage.Goals as goal

pub returns-in-Ok : goal.returns-in-Ok
returns-in-Ok g c =
    then_writes _ _ _ _ _ _ _ (number_said c.args.number) _ c.write_number.result
    (rw c.as_slice.ensures at c.in-Ok.ensures) (rw c.from.ensures at c.write_number.ensures)

pub returns-in-Err : goal.returns-in-Err
returns-in-Err g c =
    stops_both _ _ _ _ _ (number_said c.args.number) c.in-Err.failed c.in-Err.failed
    (rw c.as_slice.ensures at c.in-Err.ensures)
