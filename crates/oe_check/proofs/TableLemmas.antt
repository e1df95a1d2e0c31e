-- The tables are tied to one another.
use Rattle.std.proofs.Common.{refl}
use Rattle.oe_check.specs.Tables.{AreTied}

pub are_tied : AreTied
are_tied = record {
  processes_of_graphs = refl;
  processes_of_callbacks = refl;
  running_sums = refl;
  rows_of_graphs = λ rows r cubes. refl;
  rows_of_callbacks = λ scope context at r. refl;
}
