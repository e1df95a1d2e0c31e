use Rattle.std.proofs.Common.{sym, ap, ◌∙◌, codes}
use Rattle.oe_dims.specs.Names.{same_name}
use Rattle.oe_requests.proofs.RunningSumLemmas.{of_another, of_other_cells, by_flag}
use Rattle.oe_requests.proofs.running_sums.running_sum_at.Goals as goal

pub returns-then-not-is_cumsum : goal.returns-then-not-is_cumsum
returns-then-not-is_cumsum c =
    of_another c.args.node.now (sym (c.is_cumsum.ensures ∙ ap (λ id. same_name id (codes "cumsum")) c.as_str.ensures) ∙ c.if-not-is_cumsum.true)

pub returns-then-not-has_data : goal.returns-then-not-has_data
returns-then-not-has_data c =
    of_other_cells c.args.node.now (sym (c.is_cumsum.ensures ∙ ap (λ id. same_name id (codes "cumsum")) c.as_str.ensures) ∙ c.if-not-is_cumsum.false)
    (sym c.has_data.ensures ∙ c.if-not-has_data.true)

pub returns : goal.returns
returns c =
    c.flag_at.ensures
    ∙ by_flag c.args.node.now (sym (c.is_cumsum.ensures ∙ ap (λ id. same_name id (codes "cumsum")) c.as_str.ensures) ∙ c.if-not-is_cumsum.false)
    (sym c.has_data.ensures ∙ c.if-not-has_data.false)
