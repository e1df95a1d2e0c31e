use Rattle.std.proofs.Common.{◌≡◌, ◌∙◌, ap, true, sym, subst}
use Rattle.oe_dims.specs.Indices.{same_number}
use Rattle.oe_meanings.proofs.AmongLemmas.{rising_differ}
use Rattle.oe_requests.specs.Labels.{are_distinct}
use Rattle.oe_meanings.proofs.shape_merge.all_rising.Goals as goal

pub sort_rising-requires : goal.sort_rising-requires
sort_rising-requires c =
    record { differ = ap (are_distinct same_number) (c.as_mut_slice.ensures.value ∙ c.in_ok-labels.ensures) ∙ rising_differ c.args.kind c.args.one.now c.args.two.now c.requires.rising c.count.ensures.valid c.count-else-is_none.ensures.valid }
