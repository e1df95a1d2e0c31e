use Rattle.std.proofs.Common.{◌∙◌, arith}
use Rattle.oe_meanings.specs.Meaning.{joined}
use Rattle.oe_window.specs.Windows.{positions}
use Rattle.oe_window.proofs.WholeLemmas.{position_in}
use Rattle.oe_ops.specs.Indices.{found_in}
use Rattle.oe_ops.proofs.KeepLemmas.{are_held}
use Rattle.oe_ops.proofs.KindLemmas.{all_fit}
use Rattle.oe_ops.proofs.MergeLemmas.{merged_fits, merged_is}
use Rattle.oe_ops.proofs.NodeLemmas.{resolver_keeps, resolver_takes}
use Rattle.oe_ops.proofs.merge.eval_merge.Goals as goal

pub fill_planes-requires-clause-serves : goal.fill_planes-requires-clause-serves
fill_planes-requires-clause-serves c = λ p h.
    let x = h.x in (
      c.requires.one.counted,
      c.requires.two.counted,
      c.requires.one.valid,
      c.requires.two.valid,
      resolver_takes c.args.resolver.now c.args.one.slice c.args.two.slice c.requires.resolver,
      x.begun,
      omega (arith, x, c.indices.ensures),
      position_in c.args.shape.now p (c.requires.out.within p h),
      are_held c.args.shape.now c.args.one.shape.now c.args.one.slice c.args.window.now c.requires.one.need p h,
      are_held c.args.shape.now c.args.two.shape.now c.args.two.slice c.args.window.now c.requires.two.need p h,
    )

pub returns-clause-value : goal.returns-clause-value
returns-clause-value c = λ one two whole same on two_whole two_same two_on.
    c.fill_planes.ensures
    ∙ merged_is c.args.resolver.now one two c.args.one.slice c.args.two.slice c.args.window.now c.args.shape.now c.args.one.shape.now c.args.two.shape.now same two_same c.requires.merged c.requires.one.valid c.requires.two.valid whole on two_whole two_on c.requires.out.within c.requires.one.need c.requires.two.need

pub returns-clause-kinds : goal.returns-clause-kinds
returns-clause-kinds c = λ kind h k same.
    all_fit kind (λ p. joined c.args.resolver.now (found_in c.args.shape.now c.args.one.shape.now c.args.one.slice p) (found_in c.args.shape.now c.args.two.shape.now c.args.two.slice p)) (positions c.args.window.now) _ c.fill_planes.ensures
    (λ p. merged_fits kind c.args.resolver.now c.args.shape.now c.args.one.shape.now c.args.two.shape.now c.args.one.slice c.args.two.slice p (resolver_takes c.args.resolver.now c.args.one.slice c.args.two.slice c.requires.resolver) (resolver_keeps c.args.resolver.now c.args.one.slice c.args.two.slice c.requires.resolver) same h k)
