use Rattle.std.proofs.Common.{◌≡◌, ◌+◌, ◌*◌, ◌%◌, ◌<◌, ℕ, Some}
use Rattle.std.specs.Prelude.{slice_get}
use Rattle.oe_sources.specs.Generated.{rest_cell}
use Rattle.oe_sources.proofs.generated_cube.make_rests.Given as goal

abbrev pub invariant-loop-k : goal.invariant-loop-k
invariant-loop-k l = record {
  rest : l.rest ≡ (l.first + 7 * l.k) % 101;
  made : (j : ℕ) → j < l.k → slice_get l.into j ≡ Some (rest_cell ((l.first + 7 * j) % 101));
}
