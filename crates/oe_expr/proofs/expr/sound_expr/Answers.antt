use Rattle.std.proofs.Common.{sym, ap, subst, ◌∙◌, arith}
use Rattle.std.proofs.lemmas.List.{get_or_read}
use Rattle.std.specs.Option.{unwrap_or}
use Rattle.oe_dims.specs.declared.kind.CellKind.TheVariants.{Numbers}
use Rattle.oe_graph.specs.Plain.{plain_graph}
use Rattle.oe_graph.specs.declared.node_state.NodeState.TheVariants.{Unseen}
use Rattle.oe_graph.specs.declared.tree.Graph.{Graph, out-Graph}
use Rattle.oe_expr.specs.Callback.{callback_of}
use Rattle.oe_expr.specs.Compiled.{IsCompiled}
use Rattle.oe_expr.specs.Scope.{plain_scope}
use Rattle.oe_expr.specs.States.{kept_kind}
use Rattle.oe_expr.specs.declared.scope.Scope.{Scope}
use Rattle.oe_expr.proofs.BuildLemmas.{compiled, result_within, resolved_parts}
use Rattle.oe_expr.proofs.expr.sound_expr.Goals as goal

pub index-requires : goal.index-requires
index-requires c =
    let within = result_within (plain_scope c.args.scope.now) c.args.context.now c.args.graph.now c.args.states.now.items c.args.order.now.items c.requires.resolved c.requires.sound in
    omega arith

pub compile-requires : goal.compile-requires
compile-requires c = record {
  resolved = resolved_parts (plain_scope c.args.scope.now) c.args.graph.now c.requires.resolved;
  scope = c.requires.scope;
  order = c.requires.sound.order_is;
}

pub invariant_of-expr : goal.invariant_of-expr
invariant_of-expr c =
    let scope = plain_scope c.args.scope.now in
    let graph = c.args.graph.now in
    let states = c.args.states.now.items in
    let within = result_within scope c.args.context.now graph states c.args.order.now.items c.requires.resolved c.requires.sound in
    let state = get_or_read states (out-Graph graph).result c.index.result.now within c.index.ensures Unseen in
    let kind = c.known_kind-kind.ensures ∙ ap (λ s. unwrap_or (kept_kind s) Numbers) state in
    subst (λ (g : Graph). IsCompiled (callback_of (plain_graph g) (plain_scope c.of-2.result.value) c.args.context.now) c.known_kind-kind.result c.in_ok-reducer.reducer c.in_ok-program.program) (sym c.of.ensures)
    (subst (λ (s : Scope). IsCompiled (callback_of (plain_graph graph) (plain_scope s) c.args.context.now) c.known_kind-kind.result c.in_ok-reducer.reducer c.in_ok-program.program) (sym c.of-2.ensures)
    (compiled scope c.args.context.now graph states c.args.order.now.items c.requires.resolved c.requires.sound c.known_kind-kind.result c.in_ok-reducer.reducer c.in_ok-program.program kind c.in_ok-program.ensures c.in_ok-reducer.ensures))

pub returns : goal.returns
returns c = record {
  built =
      ap (λ (g : Graph). callback_of (plain_graph g) (plain_scope c.of-2.result.value) c.args.context.now) c.of.ensures
      ∙ ap (λ (s : Scope). callback_of (plain_graph c.args.graph.now) (plain_scope s) c.args.context.now) c.of-2.ensures;
}
