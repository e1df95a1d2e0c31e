use Rattle.std.proofs.Common.{◌≡◌, ℕ, ◌<◌, length, refl, subst, true, arith}
use Rattle.std.proofs.lemmas.List.{get_or_read}
use Rattle.oe_expr.specs.Places.{null}
use Rattle.oe_expr.specs.Walked.{AreResolved}
use Rattle.oe_graph.specs.Plain.{plain_nodes}
use Rattle.oe_graph.specs.Resolved.{itself}
use Rattle.oe_expr.specs.Scope.{scope_parameters, plain_scope}
use Rattle.oe_expr.proofs.LoopLemmas.{last_step}
use Rattle.oe_expr.proofs.StateLemmas.{count_plain}
use Rattle.oe_expr.proofs.compile.compile.Goals as goal

pub needed_nodes-requires-clause-resolved : goal.needed_nodes-requires-clause-resolved
needed_nodes-requires-clause-resolved c =
    (plain_scope c.args.scope.now, record { result = c.args.last; resolved = c.requires.resolved true (scope_parameters (plain_scope c.args.scope.now)) (plain_nodes c.args.nodes.now.items) c.args.last itself })

pub needed_nodes-requires-clause-last : goal.needed_nodes-requires-clause-last
needed_nodes-requires-clause-last c =
    let object = c.requires.resolved true (scope_parameters (plain_scope c.args.scope.now)) (plain_nodes c.args.nodes.now.items) c.args.last itself in
    subst (λ (n : ℕ). c.args.last < n) (count_plain c.args.nodes.now.items) object.has_result

pub compile_nodes-requires-clause-resolved : goal.compile_nodes-requires-clause-resolved
compile_nodes-requires-clause-resolved c =
    record { result = c.args.last; resolved = c.requires.resolved true (scope_parameters (plain_scope c.args.scope.now)) (plain_nodes c.args.nodes.now.items) c.args.last itself }

pub index-requires : goal.index-requires
index-requires c =
    let object = c.requires.resolved true (scope_parameters (plain_scope c.args.scope.now)) (plain_nodes c.args.nodes.now.items) c.args.last itself in
    let last : c.args.last < length c.args.nodes.now.items = subst (λ (n : ℕ). c.args.last < n) (count_plain c.args.nodes.now.items) object.has_result in
    let long : length c.compile_nodes.new.places.items ≡ length c.args.nodes.now.items = (c.in_ok-compile_nodes.ensures c.args.last).long in
    omega arith

pub returns : goal.returns
returns c =
    let nodes = c.args.nodes.now.items in
    let scope = plain_scope c.args.scope.now in
    let resolved : AreResolved scope nodes = record { result = c.args.last; resolved = c.requires.resolved true (scope_parameters scope) (plain_nodes nodes) c.args.last itself } in
    let last : c.args.last < length nodes = subst (λ (n : ℕ). c.args.last < n) (count_plain nodes) resolved.resolved.has_result in
    let compiled = c.in_ok-compile_nodes.ensures c.args.last in
    let long : length c.compile_nodes.new.places.items ≡ length nodes = compiled.long in
    let p = c.compile_nodes.new.program in
    last_step scope c.args.context.now nodes resolved c.args.order.now.items c.requires.order c.requires.scope c.args.last
    c.in_ok-needed.needed.items c.compile_nodes.new.places.items p
    (record { steps = p.steps; elements = p.elements; starts = p.starts; result = c.index.result.now })
    c.in_ok-needed.ensures.last last compiled refl refl refl
    (get_or_read c.compile_nodes.new.places.items c.args.last c.index.result.now (omega arith) c.index.ensures null)
