use Rattle.std.proofs.Common.{◌++◌, ◌∷◌, [], sym, subst}
use Rattle.oe_expr.specs.KindCounts.{AreKindsOf}
use Rattle.oe_expr.proofs.KindCountLemmas.{open_more}
use Rattle.oe_expr.proofs.kinds.Kinds.with.Goals as goal

pub returns-in-None : goal.returns-in-None
returns-in-None c = λ kinds is.
    subst (λ k. AreKindsOf (kinds ++ k ∷ []) c.args.self) (sym c.in-None.is) (open_more kinds c.args.self is)

pub returns-in-Some : goal.returns-in-Some
returns-in-Some c = λ kinds is.
    subst (λ k. AreKindsOf (kinds ++ k ∷ []) c.with_known.result) (sym c.in-Some.is) (c.with_known.ensures kinds is)
