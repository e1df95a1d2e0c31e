use Rattle.std.proofs.Common.{◌≡◌, ◌∙◌, sym, ap, refl}
use Rattle.std.specs.Result.{result_err}
use Rattle.oe_dims.specs.Dimensions.{shape_fault}
use Rattle.oe_dims.specs.Lists.{dimensions_with}
use Rattle.oe_meanings.proofs.ResultLemmas.{valid_within, none_within}
use Rattle.oe_meanings.proofs.shape_parts.shape_within.Goals as goal

pub returns-in-Ok : goal.returns-in-Ok
returns-in-Ok c = rw (c.in-Ok.ensures.ok) (sym (valid_within (dimensions_with c.args.epsg c.args.t c.args.bands c.args.y c.args.x) (sym c.in-Ok.ensures.fault)))

pub returns-in-Err : goal.returns-in-Err
returns-in-Err c = sym (none_within (dimensions_with c.args.epsg c.args.t c.args.bands c.args.y c.args.x) _ c.requires.valid (sym c.in-Err.ensures.fault))
