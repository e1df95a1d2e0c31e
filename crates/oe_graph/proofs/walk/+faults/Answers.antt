use Rattle.std.proofs.Common.{◌≡◌, ◌++◌, ℕ, List, [], ◌∷◌, Bool, true, false, if◌then◌else◌, string_bytes, codes, sym, ap, ◌∙◌, append_assoc, refl, Option, Some, None, arith}
use Rattle.serde_json.specs.View.{view, members_view}
use Rattle.serde_json.proofs.Views.{Entry}
use Rattle.oe_graph.specs.declared.fault.Fault.{Fault}
use Rattle.oe_graph.specs.Faults.{least}
use Rattle.oe_graph.specs.Form.{node_name, callback_name}
use Rattle.oe_graph.specs.Walked.{graph_fault, node_fault, nodes_fault, own_fault, inside_fault, fault_at, callbacks_fault, callback_fault}
use Rattle.oe_graph.specs.declared.code.Code.TheVariants.{NodeInvalid}
use Rattle.oe_graph.proofs.Depths.{inner_depth, within}
use Rattle.oe_graph.proofs.Finds.{inside_with, inside_without, callback_with, callback_without}
use Rattle.oe_graph.proofs.walk.+faults.Goals as goal

least_none : (o : Option Fault) → least o None ≡ o
least_none None = refl
least_none (Some a) = refl

pub callbacks_fault-graph_fault-requires : goal.callbacks_fault-graph_fault-requires
callbacks_fault-graph_fault-requires t c =
    let l = c.loop-argument in
    let e : Entry = (c.in-Some.argument.now, c.in-Some.value.now) in
    let here = within c.args.arguments.now.entries l.invariant.0 e c.next.new.self (l.invariant.1 ∙ ap (λ es. l.invariant.0 ++ es) c.in-Some.ensures.steps) in
    let deep = inner_depth (codes "process_graph") (view c.in-Some.value.now) (members_view c.in-Some-nodes_in.nodes.now.entries) (sym c.in-Some-nodes_in.ensures) in
    (omega arith, tt)

pub callbacks_fault-loop-argument-preserved-in-Some-nodes_in : goal.callbacks_fault-loop-argument-preserved-in-Some-nodes_in
callbacks_fault-loop-argument-preserved-in-Some-nodes_in t c =
    let l = c.loop-argument in
    let done = l.invariant.0 in
    let e : Entry = (c.in-Some.argument.now, c.in-Some.value.now) in
    let left = c.next.new.self in
    let name = node_name c.args.name.now c.args.id.now in
    let all : c.args.arguments.now.entries ≡ done ++ e ∷ left = l.invariant.1 ∙ ap (λ es. done ++ es) c.in-Some.ensures.steps in
    let at : c.as_str-in-Some-nodes_in-2.result.now ≡ callback_name name (string_bytes e.0) =
    c.as_str-in-Some-nodes_in-2.ensures.value
    ∙ (c.in_ok-inner.ensures
    ∙ (ap (λ of. callback_name of c.as_str-in-Some-nodes_in.result.now) (c.as_str.ensures.value ∙ c.in_ok-node.ensures)
    ∙ ap (callback_name name) c.as_str-in-Some-nodes_in.ensures.value)) in
    let found : c.in_ok-found.found ≡ callback_fault (callback_name name (string_bytes e.0)) (view e.1) =
    c.in_ok-found.ensures ∙ (ap (λ p. graph_fault p (members_view c.in-Some-nodes_in.nodes.now.entries)) at ∙ callback_with _ (view e.1) _ c.in-Some-nodes_in.ensures) in
    let next : c.least-fault.result ≡ least l.fault (callback_fault (callback_name name (string_bytes e.0)) (view e.1)) =
    c.least-fault.ensures ∙ ap (least l.fault) found in (
      done ++ e ∷ [],
      all ∙ sym (append_assoc done (e ∷ []) left),
      l.invariant.2 ∙ (ap (λ es. callbacks_fault name l.fault (members_view es)) c.in-Some.ensures.steps ∙ sym (ap (λ f. callbacks_fault name f (members_view left)) next)),
    )

pub callbacks_fault-loop-argument-preserved : goal.callbacks_fault-loop-argument-preserved
callbacks_fault-loop-argument-preserved t c =
    let l = c.loop-argument in
    let done = l.invariant.0 in
    let e : Entry = (c.in-Some.argument.now, c.in-Some.value.now) in
    let left = c.next.new.self in
    let name = node_name c.args.name.now c.args.id.now in
    let all : c.args.arguments.now.entries ≡ done ++ e ∷ left = l.invariant.1 ∙ ap (λ es. done ++ es) c.in-Some.ensures.steps in
    let next : l.fault ≡ least l.fault (callback_fault (callback_name name (string_bytes e.0)) (view e.1)) =
    sym (least_none l.fault) ∙ ap (least l.fault) (callback_without _ (view e.1) c.in_default.ensures) in (
      done ++ e ∷ [],
      all ∙ sym (append_assoc done (e ∷ []) left),
      l.invariant.2 ∙ (ap (λ es. callbacks_fault name l.fault (members_view es)) c.in-Some.ensures.steps ∙ sym (ap (λ f. callbacks_fault name f (members_view left)) next)),
    )

pub graph_fault-node_fault-requires : goal.graph_fault-node_fault-requires
graph_fault-node_fault-requires t c =
    let l = c.loop-id in
    let e : Entry = (c.in-Some.id.now, c.in-Some.node.now) in
    let here = within c.args.nodes.now.entries l.invariant.0 e c.next.new.self (l.invariant.1 ∙ ap (λ es. l.invariant.0 ++ es) c.in-Some.ensures.steps) in
    (omega arith, tt)

-- the least fault of a node of an id
abbrev of_node : List ℕ → List ℕ → Entry → Option Fault
of_node name id e = node_fault name id (view e.1) (inside_fault (node_name name id) (view e.1))

pub graph_fault-loop-id-preserved : goal.graph_fault-loop-id-preserved
graph_fault-loop-id-preserved t c =
    let l = c.loop-id in
    let done = l.invariant.0 in
    let e : Entry = (c.in-Some.id.now, c.in-Some.node.now) in
    let left = c.next.new.self in
    let all : c.args.nodes.now.entries ≡ done ++ e ∷ left = l.invariant.1 ∙ ap (λ es. done ++ es) c.in-Some.ensures.steps in
    let found : c.in_ok-found.found ≡ of_node c.args.name.now (string_bytes e.0) e =
    c.in_ok-found.ensures ∙ ap (λ id. of_node c.args.name.now id e) c.as_str.ensures.value in
    let next : c.least-fault.result ≡ least l.fault (of_node c.args.name.now (string_bytes e.0) e) = c.least-fault.ensures ∙ ap (least l.fault) found in (
      done ++ e ∷ [],
      all ∙ sym (append_assoc done (e ∷ []) left),
      l.invariant.2 ∙ (ap (λ es. nodes_fault c.args.name.now l.fault (members_view es)) c.in-Some.ensures.steps ∙ sym (ap (λ f. nodes_fault c.args.name.now f (members_view left)) next)),
    )

pub node_fault-callbacks_fault-requires : goal.node_fault-callbacks_fault-requires
node_fault-callbacks_fault-requires t c =
    let deep = inner_depth (codes "arguments") (view c.args.node.now) (members_view c.in-Some.arguments.now.entries) (sym c.in-Some.ensures) in
    (omega arith, tt)

-- a node whose id is valid
named : (name id : List ℕ) (own inside : Option Fault) (valid : Bool) → valid ≡ true
    → least own inside ≡ (if valid then least own inside else fault_at NodeInvalid name)
named name id own inside true is = refl
named name id own inside false is = absurd cc

pub node_fault-returns-in_ok-inside-in-Some : goal.node_fault-returns-in_ok-inside-in-Some
node_fault-returns-in_ok-inside-in-Some t c =
    let name = node_name c.args.name.now c.args.id.now in
    let d = view c.args.node.now in
    c.least.ensures
    ∙ (ap (λ o. least o c.in_ok-inside-in-Some.inside) c.in_ok-own.ensures
    ∙ (ap (least (own_fault name d)) (c.in_ok-inside-in-Some.ensures ∙ inside_with name d _ c.in-Some.ensures)
    ∙ named c.args.name.now c.args.id.now (own_fault name d) (inside_fault name d) _ (sym c.is_name.ensures ∙ c.if-not-is_name.false)))

pub node_fault-returns-in-None : goal.node_fault-returns-in-None
node_fault-returns-in-None t c =
    let name = node_name c.args.name.now c.args.id.now in
    let d = view c.args.node.now in
    c.in_ok-own.ensures
    ∙ (sym (least_none (own_fault name d))
    ∙ (ap (least (own_fault name d)) (inside_without name d c.in-None.ensures)
    ∙ named c.args.name.now c.args.id.now (own_fault name d) (inside_fault name d) _ (sym c.is_name.ensures ∙ c.if-not-is_name.false)))
