use Rattle.std.specs.Cmp.{signed_Decides}
use Rattle.std.proofs.lemmas.Slice.Eq.{slice_eq-Decides}
use Rattle.oe_ops.proofs.run.are_same.Goals as goal

pub returns : goal.returns
returns c = slice_eq-Decides signed_Decides _ _ c.eq.result c.eq.ensures
