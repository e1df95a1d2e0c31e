use Rattle.std.proofs.Common.{rules}
use Rattle.std.proofs.lemmas.List.Sorted.{IsPartitionPoint-from_clause}
use Rattle.oe_requests.specs.Extents.{has_not_ended}
use Rattle.oe_meanings.proofs.PartLemmas.{unended_stand_first, count_from_point}
use Rattle.oe_meanings.proofs.operation_scope.count_until.Goals as goal

pub returns-clause-count : goal.returns-clause-count
returns-clause-count c =
    let time = c.args.time.now in
    let labels = c.args.labels.now in
    count_from_point (has_not_ended time) labels c.partition_point.result c.partition_point.ensures.bound
    (IsPartitionPoint-from_clause (has_not_ended time) _ _ c.partition_point.ensures.partitioned (unended_stand_first time labels c.requires) (λ a r f h. search rules))
