use Rattle.std.proofs.Common.{◌≡◌}
use Rattle.oe_dims.specs.declared.kind.Kind.TheVariants.{Time, Y, X}
use Rattle.oe_plan.proofs.HaloLemmas.{none_in_time}
use Rattle.oe_plan.proofs.SizeLemmas.{side_is, cut_none}
use Rattle.oe_plan.specs.Figures.{halo_along, is_whole_along, most_along}
use Rattle.oe_plan.proofs.bound.sides_of.Goals as goal

pub returns-clause-t : goal.returns-clause-t
returns-clause-t c =
    let graph = c.args.checked.now in
    side_is c.is_whole_along-whole_t.result (is_whole_along graph Time) c.most_along.result (most_along graph Time) c.args.size.t
    0 (halo_along graph Time) c.side_with_reach.result c.is_whole_along-whole_t.ensures c.most_along.ensures.value
    c.most_along.ensures.most (cut_none (halo_along graph Time) (none_in_time graph)) c.side_with_reach.ensures.value

pub returns-clause-y : goal.returns-clause-y
returns-clause-y c =
    let graph = c.args.checked.now in
    side_is c.is_whole_along-whole_y.result (is_whole_along graph Y) c.most_along-3.result (most_along graph Y) c.args.size.y
    c.halos-halo_x.result.1 (halo_along graph Y) c.side_with_reach-2.result c.is_whole_along-whole_y.ensures
    c.most_along-3.ensures.value c.most_along-3.ensures.most c.halos-halo_x.ensures.y c.side_with_reach-2.ensures.value

pub returns-clause-x : goal.returns-clause-x
returns-clause-x c =
    let graph = c.args.checked.now in
    side_is c.is_whole_along-whole_x.result (is_whole_along graph X) c.most_along-4.result (most_along graph X) c.args.size.x
    c.halos-halo_x.result.0 (halo_along graph X) c.side_with_reach-3.result c.is_whole_along-whole_x.ensures
    c.most_along-4.ensures.value c.most_along-4.ensures.most c.halos-halo_x.ensures.x c.side_with_reach-3.ensures.value
