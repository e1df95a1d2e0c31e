use Rattle.std.proofs.Common.{◌∙◌, ap, sym}
use Rattle.oe_kernel.specs.Totals.{total_of}
use Rattle.oe_kernel.proofs.SumLemmas.{row_added-none}
use Rattle.oe_kernel.proofs.rows.with_slice.Goals as goal

pub returns-in-Other : goal.returns-in-Other
returns-in-Other c =
    c.with_rest-in-Other.ensures (total_of c.args.total) (sym (ap total_of c.in-Other.is) ∙ sym (row_added-none _ _))
