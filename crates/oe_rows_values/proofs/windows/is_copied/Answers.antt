use Rattle.std.proofs.Common.{arith}
use Rattle.std.proofs.lemmas.Grind.{elements}
use Rattle.oe_rows_values.proofs.windows.is_copied.Goals as goal

pub copy_window-requires-clause-inside : goal.copy_window-requires-clause-inside
copy_window-requires-clause-inside c = grind (arith, elements) steps 2000000
