use Rattle.std.proofs.Common.{sym, subst}
use Rattle.oe_graph.specs.declared.tree.Graph.{out-Graph}
use Rattle.oe_graph.specs.Plain.{plain_graph}
use Rattle.oe_expr.specs.Callback.{IsFaultlessCallback, KeepsKind, callback_of}
use Rattle.oe_expr.specs.Scope.{plain_scope}
use Rattle.oe_expr.specs.Walked.{IsChecked}
use Rattle.oe_expr.proofs.BuildLemmas.{are_resolved, faultless, least_in}
use Rattle.oe_expr.proofs.KindLemmas.{keeps_kind}
use Rattle.oe_expr.proofs.expr.build.Goals as goal

pub walk_nodes-requires : goal.walk_nodes-requires
walk_nodes-requires c = record {
  resolved = are_resolved (plain_scope c.args.scope.now) c.args.graph.now c.requires.resolved;
  scope = c.requires.scope;
}

pub sound_expr-requires : goal.sound_expr-requires
sound_expr-requires c = record {
  resolved = c.requires.resolved;
  scope = c.requires.scope;
  sound =
      subst (IsChecked (plain_scope c.args.scope.now) c.args.context (out-Graph c.args.graph.now).nodes.items c.args.path.now c.in_ok-walk.walk.states.items c.in_ok-walk.walk.order.items)
      c.in-None.is c.in_ok-walk.ensures;
}

pub returns-in-Some : goal.returns-in-Some
returns-in-Some c = record {
  built = tt;
  valid = tt;
  keeps_kind = tt;
  refused =
      least_in (plain_scope c.args.scope.now) c.args.context c.args.graph.now c.args.path.now c.in-Some.fault
      (subst (IsChecked (plain_scope c.args.scope.now) c.args.context (out-Graph c.args.graph.now).nodes.items c.args.path.now c.in_ok-walk.walk.states.items c.in_ok-walk.walk.order.items)
      c.in-Some.is c.in_ok-walk.ensures);
}

pub returns-clause-valid : goal.returns-clause-valid
returns-clause-valid c =
    subst IsFaultlessCallback (sym c.in_ok-sound_expr-in-None.ensures.built)
    (faultless (plain_scope c.args.scope.now) c.args.context c.args.graph.now c.in_ok-walk.walk.states.items c.in_ok-walk.walk.order.items c.requires.resolved
    (subst (IsChecked (plain_scope c.args.scope.now) c.args.context (out-Graph c.args.graph.now).nodes.items c.args.path.now c.in_ok-walk.walk.states.items c.in_ok-walk.walk.order.items)
    c.in-None.is c.in_ok-walk.ensures))

pub returns-clause-keeps_kind : goal.returns-clause-keeps_kind
returns-clause-keeps_kind c =
    subst KeepsKind (sym c.in_ok-sound_expr-in-None.ensures.built)
    (keeps_kind (callback_of (plain_graph c.args.graph.now) (plain_scope c.args.scope.now) c.args.context) c.requires.resolved
    (faultless (plain_scope c.args.scope.now) c.args.context c.args.graph.now c.in_ok-walk.walk.states.items c.in_ok-walk.walk.order.items c.requires.resolved
    (subst (IsChecked (plain_scope c.args.scope.now) c.args.context (out-Graph c.args.graph.now).nodes.items c.args.path.now c.in_ok-walk.walk.states.items c.in_ok-walk.walk.order.items)
    c.in-None.is c.in_ok-walk.ensures)))
