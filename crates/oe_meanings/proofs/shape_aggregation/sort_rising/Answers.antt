use Rattle.std.proofs.Common.{◌≡◌, rules}
use Rattle.std.proofs.lemmas.Fn.{always_returns_same}
use Rattle.oe_meanings.proofs.SortLemmas.{compares_below, compares_below_ranks, rising_is}
use Rattle.oe_meanings.proofs.shape_aggregation.sort_rising.Goals as goal

pub returns : goal.returns
returns c =
    let order = c.sort_unstable_by.ensures.sorted compares_below compares_below_ranks (always_returns_same _ _ _ (λ a r f h. search rules)) in
    rising_is _ _ c.sort_unstable_by.ensures.permutation order c.requires.differ
