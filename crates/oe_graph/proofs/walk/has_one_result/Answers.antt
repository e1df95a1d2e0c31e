use Rattle.std.proofs.Common.{◌≡◌, ◌+◌, [], ◌∷◌, ◌++◌, if◌then◌else◌, sym, ap, ◌∙◌, append_assoc, arith}
use Rattle.serde_json.specs.View.{members_view}
use Rattle.serde_json.proofs.Views.{Entry}
use Rattle.oe_graph.specs.Form.{result_count}
use Rattle.oe_graph.proofs.walk.has_one_result.Goals as goal

pub loop-node-preserved-then-is_result : goal.loop-node-preserved-then-is_result
loop-node-preserved-then-is_result c =
    let l = c.loop-node in
    let done = l.invariant.0 in
    let e : Entry = (c.in-Some.field-0-0.now, c.in-Some.node.now) in
    let left = c.next.new.self in
    let all : c.args.nodes.now.entries ≡ done ++ e ∷ left = l.invariant.1 ∙ ap (λ es. done ++ es) c.in-Some.ensures.steps in
    let here : result_count (members_view l.node-iterator) ≡ (if c.is_result.result then 1 else 0) + result_count (members_view left) =
    ap (λ es. result_count (members_view es)) c.in-Some.ensures.steps
    ∙ ap (λ b. (if b then 1 else 0) + result_count (members_view left)) (sym c.is_result.ensures) in
    let one : result_count (members_view l.node-iterator) ≡ 1 + result_count (members_view left) =
    here ∙ ap (λ b. (if b then 1 else 0) + result_count (members_view left)) c.if-is_result.true in
    (done ++ e ∷ [], all ∙ sym (append_assoc done (e ∷ []) left), omega (arith, l.invariant.2, l.invariant.3, one, c.if-count-eq1.false), omega arith)

pub loop-node-preserved : goal.loop-node-preserved
loop-node-preserved c =
    let l = c.loop-node in
    let done = l.invariant.0 in
    let e : Entry = (c.in-Some.field-0-0.now, c.in-Some.node.now) in
    let left = c.next.new.self in
    let all : c.args.nodes.now.entries ≡ done ++ e ∷ left = l.invariant.1 ∙ ap (λ es. done ++ es) c.in-Some.ensures.steps in
    let here : result_count (members_view l.node-iterator) ≡ (if c.is_result.result then 1 else 0) + result_count (members_view left) =
    ap (λ es. result_count (members_view es)) c.in-Some.ensures.steps
    ∙ ap (λ b. (if b then 1 else 0) + result_count (members_view left)) (sym c.is_result.ensures) in
    let none : result_count (members_view l.node-iterator) ≡ 0 + result_count (members_view left) =
    here ∙ ap (λ b. (if b then 1 else 0) + result_count (members_view left)) c.if-is_result.false in
    (done ++ e ∷ [], all ∙ sym (append_assoc done (e ∷ []) left), omega (arith, l.invariant.2, none), l.invariant.3)
