use Rattle.std.proofs.Common.{sym, subst}
use Rattle.oe_parts.specs.declared.whole.Misfit.{Misfit}
use Rattle.oe_top.proofs.Joins.{IsThere, misfit_there, refusal_named}
use Rattle.oe_top.specs.JoinAnswer.{IsMisfitNamed}
use Rattle.oe_top.specs.declared.join.JoinRefusal.TheVariants as join
use Rattle.oe_top.proofs.join.refusal_of_misfit.Goals as goal

pub name_of-requires : goal.name_of-requires
name_of-requires g c =
    subst (IsThere c.args.parts.now) c.in-Graph.is (misfit_there c.requires.0 c.args.parts.now c.args.misfit c.requires.1)

pub returns-in-Graph : goal.returns-in-Graph
returns-in-Graph g c =
    subst (λ (wrong : Misfit). IsMisfitNamed c.args.parts.now wrong (join.Graph c.name_of.result)) (sym c.in-Graph.is)
    (refusal_named c.args.parts.now c.in-Graph.index c.name_of.result join.Graph c.name_of.ensures)

pub name_of-requires-in-Shape : goal.name_of-requires-in-Shape
name_of-requires-in-Shape g c =
    subst (IsThere c.args.parts.now) c.in-Shape.is (misfit_there c.requires.0 c.args.parts.now c.args.misfit c.requires.1)

pub returns-in-Shape : goal.returns-in-Shape
returns-in-Shape g c =
    subst (λ (wrong : Misfit). IsMisfitNamed c.args.parts.now wrong (join.Shape c.name_of-in-Shape.result)) (sym c.in-Shape.is)
    (refusal_named c.args.parts.now c.in-Shape.index c.name_of-in-Shape.result join.Shape c.name_of-in-Shape.ensures)

pub name_of-requires-in-Sides : goal.name_of-requires-in-Sides
name_of-requires-in-Sides g c =
    subst (IsThere c.args.parts.now) c.in-Sides.is (misfit_there c.requires.0 c.args.parts.now c.args.misfit c.requires.1)

pub returns-in-Sides : goal.returns-in-Sides
returns-in-Sides g c =
    subst (λ (wrong : Misfit). IsMisfitNamed c.args.parts.now wrong (join.Sides c.name_of-in-Sides.result)) (sym c.in-Sides.is)
    (refusal_named c.args.parts.now c.in-Sides.index c.name_of-in-Sides.result join.Sides c.name_of-in-Sides.ensures)

pub name_of-requires-in-Overlap : goal.name_of-requires-in-Overlap
name_of-requires-in-Overlap g c =
    subst (IsThere c.args.parts.now) c.in-Overlap.is (misfit_there c.requires.0 c.args.parts.now c.args.misfit c.requires.1)

pub returns-in-Overlap : goal.returns-in-Overlap
returns-in-Overlap g c =
    subst (λ (wrong : Misfit). IsMisfitNamed c.args.parts.now wrong (join.Overlap c.name_of-in-Overlap.result)) (sym c.in-Overlap.is)
    (refusal_named c.args.parts.now c.in-Overlap.index c.name_of-in-Overlap.result join.Overlap c.name_of-in-Overlap.ensures)
