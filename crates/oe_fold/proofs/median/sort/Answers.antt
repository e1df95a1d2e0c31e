use Rattle.std.proofs.Common.{rules}
use Rattle.std.proofs.lemmas.List.Sorted.{answers_always}
use Rattle.oe_fold.specs.Order.{is_before}
use Rattle.oe_fold.proofs.OrderLemmas.{before-ranks}
use Rattle.oe_fold.proofs.median.sort.Goals as goal

pub returns-clause-sorted : goal.returns-clause-sorted
returns-clause-sorted c = c.sort_unstable_by.ensures.sorted is_before before-ranks (answers_always _ _ _ (λ f a r q k. search rules))
