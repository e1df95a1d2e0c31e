use Rattle.std.proofs.Common.{◌<◌, sym, subst, arith}
use Rattle.std.proofs.lemmas.Result.{IfErr-weaker}
use Rattle.oe_dims.specs.Rules.{fault_rank}
use Rattle.oe_dims.specs.declared.kind.Kind.TheVariants.{Time}
use Rattle.oe_dims.specs.declared.shape.ShapeFault.{ShapeFault}
use Rattle.oe_dims.specs.declared.shape.ShapeFault.TheVariants.{OrderWrong}
use Rattle.oe_rows.proofs.laws.with_times.Goals as goal

pub returns : goal.returns
returns c = IfErr-weaker c.new.result _ _
    (λ fault h is. h.first (OrderWrong Time) (subst (λ (f : ShapeFault). 0 < fault_rank f) (sym is) (omega (arith))))
    c.new.ensures.first
