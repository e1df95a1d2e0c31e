use Rattle.std.proofs.Common.{◌||◌, ◌∷◌, [], Some, sym, ap, ◌∙◌}
use Rattle.oe_dims.specs.declared.kind.CellKind.TheVariants.{Flags}
use Rattle.oe_expr.specs.Kinds.{are_mixed, kind_among}
use Rattle.oe_expr.specs.States.{kind_unless}
use Rattle.oe_expr.proofs.judge.judge_choice.Goals as goal

pub returns-then-are_mixed : goal.returns-then-are_mixed
returns-then-are_mixed c =
    let mixed = sym (c.are_mixed.ensures (Some Flags ∷ c.args.value ∷ []) (c.with.ensures (Some Flags ∷ []) c.of.ensures)) ∙ c.if-are_mixed.true in
    sym (ap (λ b. kind_unless (b || are_mixed (c.args.accept ∷ c.args.reject ∷ [])) (kind_among (c.args.accept ∷ c.args.reject ∷ []))) mixed)

pub returns : goal.returns
returns c =
    let branches = c.args.accept ∷ c.args.reject ∷ [] in
    let plain = sym (c.are_mixed.ensures (Some Flags ∷ c.args.value ∷ []) (c.with.ensures (Some Flags ∷ []) c.of.ensures)) ∙ c.if-are_mixed.false in
    let both = c.with-branches.ensures (c.args.accept ∷ []) c.of-2.ensures in
    c.unless_mixed.ensures branches both
    ∙ (ap (kind_unless (are_mixed branches)) both.first
    ∙ sym (ap (λ b. kind_unless (b || are_mixed branches) (kind_among branches)) plain))
