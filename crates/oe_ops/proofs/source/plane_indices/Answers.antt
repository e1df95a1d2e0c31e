use Rattle.std.proofs.Common.{ap, ◌∙◌}
use Rattle.oe_dims.specs.declared.kind.Kind.TheVariants.{Time, Bands}
use Rattle.oe_ops.specs.Indices.{index_in_argument}
use Rattle.oe_ops.proofs.FoundLemmas.{has_ends, on_plane}
use Rattle.oe_ops.proofs.source.plane_indices.Goals as goal

pub index_in-requires : goal.index_in-requires
index_in-requires c = (has_ends c.args.shape.now c.args.window.now c.requires.some c.requires.inside).t

pub index_in-requires-2 : goal.index_in-requires-2
index_in-requires-2 c = (has_ends c.args.shape.now c.args.window.now c.requires.some c.requires.inside).bands

pub run_of-requires-clause-some : goal.run_of-requires-clause-some
run_of-requires-clause-some c = (has_ends c.args.shape.now c.args.window.now c.requires.some c.requires.inside).y_some

pub run_of-requires-clause-inside : goal.run_of-requires-clause-inside
run_of-requires-clause-inside c = (has_ends c.args.shape.now c.args.window.now c.requires.some c.requires.inside).y

pub run_of-requires-2-clause-some : goal.run_of-requires-2-clause-some
run_of-requires-2-clause-some c = (has_ends c.args.shape.now c.args.window.now c.requires.some c.requires.inside).x_some

pub run_of-requires-2-clause-inside : goal.run_of-requires-2-clause-inside
run_of-requires-2-clause-inside c = (has_ends c.args.shape.now c.args.window.now c.requires.some c.requires.inside).x

pub returns-clause-value : goal.returns-clause-value
returns-clause-value c = λ p h.
    let here = on_plane c.args.window.now p c.requires.one h in
    record {
      t = c.index_in.ensures.value ∙ ap (index_in_argument Time c.args.shape.now c.args.argument.now) here.0;
      band = c.index_in-2.ensures.value ∙ ap (index_in_argument Bands c.args.shape.now c.args.argument.now) here.1;
      y = c.run_of.ensures p.y h.y;
      x = c.run_of-2.ensures p.x h.x;
    }
