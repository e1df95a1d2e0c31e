use Rattle.std.proofs.Common.{◌≡◌, ◌≤◌, ◌<◌, ◌∙◌, Some, None, length, slice_get, sym, ap, arith}
use Rattle.std.proofs.lemmas.Option.{slice_get-get_or}
use Rattle.oe_graph.specs.Form.{node_name}
use Rattle.oe_graph.specs.Plain.{plain_nodes}
use Rattle.oe_graph.specs.declared.code.Code.TheVariants.{ProcessParameterInvalid}
use Rattle.oe_graph.specs.declared.tree.Node.{Node}
use Rattle.oe_requests.proofs.RunningSumLemmas.{sum_fault, first_sum, skip_index, stop_node, end_nodes}
use Rattle.oe_requests.proofs.running_sums.sums_fault.Goals as goal

pub returns-then-fault_stands_at : goal.returns-then-fault_stands_at
returns-then-fault_stands_at c = λ index.
    let id = c.args.id.now in
    let ns = c.args.nodes.now.items in
    let i = c.loop-index.index in
    let n : Node = c.index.result.now in
    let fault = c.in_ok-fault.fault in
    let below : i < length ns = omega (arith, c.loop-index-test.true, c.len-index-end.ensures, c.args.nodes.now.ok.0) in
    let at : slice_get ns i ≡ Some n = slice_get-get_or ns i n below ∙ ap Some (sym c.index.ensures) in
    let named : fault ≡ sum_fault id n.id =
    c.in_ok-fault.ensures
    ∙ (ap (λ callback. record { code = ProcessParameterInvalid; node = node_name callback c.as_str-then-fault_stands_at.result.now })
    (c.as_str.ensures.value ∙ c.in_ok-callback.ensures)
    ∙ ap (sum_fault id) c.as_str-then-fault_stands_at.ensures) in
    first_sum id ns index (Some fault) c.requires
    (c.loop-index.invariant (Some fault)
    (stop_node id (plain_nodes ns) ns i n fault below c.index.ensures
    (sym (c.fault_stands_at.ensures n at) ∙ c.if-fault_stands_at.true) named))

pub loop-index-preserved : goal.loop-index-preserved
loop-index-preserved c = λ o rest.
    let id = c.args.id.now in
    let ns = c.args.nodes.now.items in
    let i = c.loop-index.index in
    let below : i < length ns = omega (arith, c.loop-index-test.true, c.len-index-end.ensures, c.args.nodes.now.ok.0) in
    c.loop-index.invariant o
    (skip_index id (plain_nodes ns) ns i o below
    (λ n at. sym (c.fault_stands_at.ensures n at) ∙ c.if-fault_stands_at.false) rest)

pub returns : goal.returns
returns c = λ index.
    let id = c.args.id.now in
    let ns = c.args.nodes.now.items in
    let i = c.loop-index.index in
    let past : length ns ≤ i = omega (arith, c.loop-index-test.false, c.len-index-end.ensures, c.args.nodes.now.ok.0) in
    first_sum id ns index None c.requires
    (c.loop-index.invariant None (end_nodes id (plain_nodes ns) ns i past))
