use Rattle.oe_expr.specs.Scope.{plain_scope}
use Rattle.oe_expr.proofs.VerdictLemmas.{judged_sound, judged_fault}
use Rattle.oe_expr.proofs.walk.judge_node.Goals as goal

pub returns-in-Ok : goal.returns-in-Ok
returns-in-Ok c =
    judged_sound (plain_scope c.args.scope.now) c.args.context.now c.args.nodes.now c.args.states.now c.args.node.now
    c.in_ok-request.field-0 c.in-Some.request c.in_ok-request.ensures c.in-Some.is
    c.judge.result c.judge.ensures c.in-Ok.kind c.in-Ok.is

pub returns : goal.returns
returns c =
    judged_fault (plain_scope c.args.scope.now) c.args.context.now c.args.nodes.now c.args.states.now c.args.node.now
    c.in_ok-request.field-0 c.in-Some.request c.in_ok-request.ensures c.in-Some.is
    c.judge.result c.judge.ensures c.in-Err.code c.in-Err.is
