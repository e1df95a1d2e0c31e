use Rattle.std.proofs.Common.{sym, ap, ◌∙◌, option_map, true≢false}
use Rattle.oe_expr.specs.PlainRequests.{plain_scalar, plain_items, plain_label, plain_cell_request}
use Rattle.oe_expr.specs.Scope.{plain_scope}
use Rattle.oe_expr.specs.States.{kind_named, judged_request}
use Rattle.oe_expr.proofs.JudgeLemmas.{judged_binary, judged_choice, judged_element}
use Rattle.oe_expr.proofs.judge.judge.Goals as goal
use Rattle.oe_expr.proofs.judge.judge.Goals.{else-not-return_nodata-via-then-not-return_nodata+else-lacks_element, else-not-return_nodata-via-else-not-return_nodata}

pub returns-in-Binary : goal.returns-in-Binary
returns-in-Binary c =
    let scope = plain_scope c.args.scope.now in
    let at = kind_named c.args.nodes.now c.args.states.now in
    c.judge_binary.ensures
    ∙ (judged_binary scope c.args.context.now at c.in-Binary.f (plain_scalar c.in-Binary.x) (plain_scalar c.in-Binary.y) _ _ c.scalar_kind-x-in-Binary.ensures c.scalar_kind-y.ensures
    ∙ sym (ap (λ r. judged_request scope c.args.context.now at (plain_cell_request r)) c.in-Binary.is))

pub returns-in-Choice : goal.returns-in-Choice
returns-in-Choice c =
    let scope = plain_scope c.args.scope.now in
    let at = kind_named c.args.nodes.now c.args.states.now in
    c.judge_choice.ensures
    ∙ (judged_choice scope c.args.context.now at (plain_scalar c.in-Choice.value) (plain_scalar c.in-Choice.accept) (plain_scalar c.in-Choice.reject) _ _ _
    c.scalar_kind-value.ensures c.scalar_kind-accept.ensures c.scalar_kind-reject.ensures
    ∙ sym (ap (λ r. judged_request scope c.args.context.now at (plain_cell_request r)) c.in-Choice.is))

pub returns-else-not-return_nodata : goal.returns-else-not-return_nodata
returns-else-not-return_nodata c =
    let scope = plain_scope c.args.scope.now in
    let at = kind_named c.args.nodes.now c.args.states.now in
    let e = c.in-Element in
    c.judge_elements.ensures
    ∙ (judged_element scope c.args.context.now at (plain_items e.items) e.index (option_map plain_label e.label) e.return_nodata
    (sym c.presence_of-none.ensures.none ∙ c.if-none.false) (sym c.presence_of-none.ensures.both ∙ c.if-both.false)
    (λ null. elim c.else-not-return_nodata.branch [
      | else-not-return_nodata-via-then-not-return_nodata+else-lacks_element w ↦ sym w.lacks_element.ensures ∙ w.if-lacks_element.false
      | else-not-return_nodata-via-else-not-return_nodata w ↦ absurd (true≢false (sym w.if-not-return_nodata.false ∙ null))
    ])
    ∙ sym (ap (λ r. judged_request scope c.args.context.now at (plain_cell_request r)) e.is))
