use Rattle.std.proofs.Common.{◌++◌, ◌∷◌, [], Some, true, refl, ap, sym, subst, ◌∙◌}
use Rattle.std.specs.Option.{option_or}
use Rattle.oe_expr.specs.KindCounts.{AreKindsOf}
use Rattle.oe_expr.specs.declared.kinds.Kinds.{Kinds}
use Rattle.oe_expr.proofs.KindCountLemmas.{numbers_more, flags_more}
use Rattle.oe_expr.proofs.kinds.Kinds.with_known.Goals as goal

pub returns-in-Numbers : goal.returns-in-Numbers
returns-in-Numbers c = λ kinds is.
    let more : Kinds = record { first = c.or-first.result; numbers = true; flags = c.args.self.flags } in
    subst (λ k. AreKindsOf (kinds ++ Some k ∷ []) more) (sym c.in-Numbers.is)
    (numbers_more kinds c.args.self more is (c.or-first.ensures ∙ ap (λ k. option_or c.args.self.first (Some k)) c.in-Numbers.is) refl refl)

pub returns-in-Flags : goal.returns-in-Flags
returns-in-Flags c = λ kinds is.
    let more : Kinds = record { first = c.or-first.result; numbers = c.args.self.numbers; flags = true } in
    subst (λ k. AreKindsOf (kinds ++ Some k ∷ []) more) (sym c.in-Flags.is)
    (flags_more kinds c.args.self more is (c.or-first.ensures ∙ ap (λ k. option_or c.args.self.first (Some k)) c.in-Flags.is) refl refl)
