use Rattle.std.proofs.Common.{rules}
use Rattle.std.specs.Int.Signed.{lt_z}
use Rattle.std.proofs.lemmas.List.Sorted.{IsPartitionPoint-from_clause}
use Rattle.oe_dims.proofs.RunLemmas.{below_stand_first}
use Rattle.oe_dims.proofs.search.count_below.Goals as goal

pub returns-clause-point : goal.returns-clause-point
returns-clause-point c =
    IsPartitionPoint-from_clause (λ l. lt_z l c.args.bound) _ _ c.partition_point.ensures.partitioned (below_stand_first c.args.labels.now c.args.bound c.requires) (λ a r f h. search rules)
