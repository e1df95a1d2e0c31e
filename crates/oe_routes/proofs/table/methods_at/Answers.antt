use Rattle.std.proofs.Common.{[], arith}
use Rattle.oe_routes.proofs.TableLemmas.{found_route}
use Rattle.oe_routes.proofs.table.methods_at.Goals as goal

pub returns-then-number-entries : goal.returns-then-number-entries
returns-then-number-entries c =
    found_route c.args.entries.now c.args.number (record { ref_ptr = (0, 0); now = [] }, record { ref_ptr = (0, 0); now = [] })
    (omega (arith, c.if-number-entries.true))
