use Rattle.std.proofs.Common.{not, rules, ℤ}
use Rattle.std.proofs.lemmas.List.Sorted.{IsPartitionPoint-from_clause}
use Rattle.oe_requests.specs.Extents.{has_begun}
use Rattle.oe_meanings.proofs.PartLemmas.{before_stand_first, count_from_point}
use Rattle.oe_meanings.proofs.operation_scope.count_before.Goals as goal

pub returns-clause-count : goal.returns-clause-count
returns-clause-count c =
    let time = c.args.time.now in
    let labels = c.args.labels.now in
    let before = λ (l : ℤ). not (has_begun time l) in
    count_from_point before labels c.partition_point.result c.partition_point.ensures.bound
    (IsPartitionPoint-from_clause before _ _ c.partition_point.ensures.partitioned (before_stand_first time labels c.requires) (λ a r f h. search rules))
