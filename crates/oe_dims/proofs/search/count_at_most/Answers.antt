use Rattle.std.proofs.Common.{rules}
use Rattle.std.specs.Int.Signed.{le_z}
use Rattle.std.proofs.lemmas.List.Sorted.{IsPartitionPoint-from_clause}
use Rattle.oe_dims.proofs.RunLemmas.{at_most_stand_first}
use Rattle.oe_dims.proofs.search.count_at_most.Goals as goal

pub returns-clause-point : goal.returns-clause-point
returns-clause-point c =
    IsPartitionPoint-from_clause (λ l. le_z l c.args.bound) _ _ c.partition_point.ensures.partitioned (at_most_stand_first c.args.labels.now c.args.bound c.requires) (λ a r f h. search rules)
