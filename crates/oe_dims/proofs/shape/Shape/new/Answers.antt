use Rattle.std.proofs.Common.{sym}
use Rattle.oe_dims.specs.Lists.{dimensions_with}
use Rattle.oe_dims.proofs.RuleLemmas.{IsFirstFault-shape_fault, KeepsEveryRule-IsShape, IsShape-KeepsEveryRule}
use Rattle.oe_dims.proofs.shape.Shape.new.Goals as goal

pub returns-in-Some-clause-rules : goal.returns-in-Some-clause-rules
returns-in-Some-clause-rules c =
    let d = dimensions_with c.args.epsg c.args.t c.args.bands c.args.y c.args.x in
    (KeepsEveryRule-IsShape d, IsShape-KeepsEveryRule d)

pub returns-in-Some-clause-first : goal.returns-in-Some-clause-first
returns-in-Some-clause-first c =
    let found = rw (c.listed.ensures, c.listed-2.ensures, c.listed-3.ensures, c.listed-4.ensures) at c.in-Some.ensures in
    IsFirstFault-shape_fault (dimensions_with c.args.epsg c.args.t c.args.bands c.args.y c.args.x) c.in-Some.fault (sym found)

pub returns-in-None-clause-rules : goal.returns-in-None-clause-rules
returns-in-None-clause-rules c =
    let d = dimensions_with c.args.epsg c.args.t c.args.bands c.args.y c.args.x in
    (KeepsEveryRule-IsShape d, IsShape-KeepsEveryRule d)
