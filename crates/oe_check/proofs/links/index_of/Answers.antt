use Rattle.std.proofs.Common.{◌<◌, length, sym, subst}
use Rattle.oe_check.proofs.LinkLemmas.{referred_within}
use Rattle.oe_check.proofs.links.index_of.Goals as goal

pub returns-clause-within : goal.returns-clause-within
returns-clause-within c =
    subst (λ k. k < length c.args.nodes.now) (sym c.index_or_first.ensures.index)
    (referred_within c.args.nodes.now c.args.id.now c.requires.rise c.requires.named)
