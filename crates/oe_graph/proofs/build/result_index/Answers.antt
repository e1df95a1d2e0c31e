use Rattle.std.proofs.Common.{◌≡◌, suc, [], ◌∷◌, ◌++◌, if◌then◌else◌, sym, ap, ◌∙◌, append_assoc, arith}
use Rattle.serde_json.specs.View.{members_view}
use Rattle.serde_json.proofs.Views.{Entry}
use Rattle.oe_graph.specs.Built.{result_index}
use Rattle.oe_graph.proofs.build.result_index.Goals as goal

pub loop-node-preserved : goal.loop-node-preserved
loop-node-preserved c =
    let l = c.loop-node in
    let done = l.invariant.0 in
    let e : Entry = (c.in-Some.field-0-0.now, c.in-Some.node.now) in
    let left = c.next.new.self in
    let all : c.args.nodes.now.entries ≡ done ++ e ∷ left = l.invariant.1 ∙ ap (λ es. done ++ es) c.in-Some.ensures.steps in
    let here : result_index (members_view l.node-iterator) ≡ (if c.is_result.result then 0 else suc (result_index (members_view left))) =
    ap (λ es. result_index (members_view es)) c.in-Some.ensures.steps
    ∙ ap (λ b. if b then 0 else suc (result_index (members_view left))) (sym c.is_result.ensures) in
    let other : result_index (members_view l.node-iterator) ≡ suc (result_index (members_view left)) =
    here ∙ ap (λ b. if b then 0 else suc (result_index (members_view left))) c.if-is_result.false in (
      done ++ e ∷ [],
      all ∙ sym (append_assoc done (e ∷ []) left),
      omega (arith, l.invariant.2, other),
    )
