-- In a graph without a fault of names no reference dangles, so clearing them leaves it as it is.
use Rattle.std.proofs.Common.{◌≡◌, ℕ, Bool, true, false, List, [], ◌++◌, if◌then◌else◌, Contains, refl, sym, ap, ◌∙◌}
use Rattle.std.proofs.lemmas.List.Elements.{Contains-append_left, Contains-append_right}
use Rattle.oe_graph.specs.Form.{node_name, callback_name}
use Rattle.oe_graph.specs.Printed.{ids_of}
use Rattle.oe_graph.specs.References.{each_node, references_in, references_each, references_named, callbacks_in, callbacks_each, callbacks_named}
use Rattle.oe_graph.specs.Resolved.{scope_inside}
use Rattle.oe_graph.specs.Tree.{Argument, null, flag, whole, inexact, text, list, object, from_node, from_parameter, callback, ListValues, no_arguments, argument, Named, no_named, named, Nodes, no_nodes, node, PlainGraph, PlainNode, PlainStored}
use Rattle.oe_graph.specs.declared.code.Code.TheVariants.{NodeUnknown}
use Rattle.oe_graph.specs.declared.fault.Fault.{Fault}
use Rattle.oe_calls.specs.HasCall.{nodes_call}
use Rattle.oe_resolve.specs.NameFaults as name_faults
use Rattle.oe_resolve.specs.NameFaults.{IsInside, OfObject}
use Rattle.oe_calls.specs.Rounds.{cleared_id, cleared, cleared_each, cleared_named, cleared_nodes, cleared_graph}
use Rattle.oe_calls.proofs.Along.{first_there, later_there}
use Rattle.oe_resolve.proofs.CodeLemmas.{among}
use Rattle.oe_resolve.proofs.ResolvingLemmas.{callback_of, stands_among}
use Rattle.oe_calls.proofs.UncalledLemmas.{node_uncalled, callback_uncalled}

-- in a graph object and in all callbacks in it each reference names a node beside it
abbrev AreKnown : Nodes → Type 0
AreKnown nodes =
    (inner : Nodes) (n : PlainNode) (id : List ℕ) → IsInside inner nodes → Contains (each_node inner) n
    → Contains (references_named n.arguments) id → Contains (ids_of inner) id

abbrev AreKnownIn : List PlainGraph → Type 0
AreKnownIn callbacks = (g : PlainGraph) → Contains callbacks g → AreKnown g.nodes

-- each of some references is one of these ids
abbrev AreAmong : List (List ℕ) → List (List ℕ) → Type 0
AreAmong ids references = (id : List ℕ) → Contains references id → Contains ids id

same_id : (ids : List (List ℕ)) (id : List ℕ) → Contains ids id → cleared_id ids id ≡ id
same_id ids id has = ap (λ b. if b then id else []) (among ids id has)

mutual
  same_nodes : (ids : List (List ℕ)) (ns : Nodes)
      → ((n : PlainNode) → Contains (each_node ns) n
      → AreAmong ids (references_named n.arguments) × AreKnownIn (callbacks_named n.arguments))
      → cleared_nodes ids ns ≡ ns
  same_nodes ids no_nodes each = refl
  same_nodes ids (node id p s args rest) each =
      let n : PlainNode = record { id = id; process_id = p; namespace = s; arguments = args } in
      let here = each n (first_there n (each_node rest)) in
      ap (λ ms. node id p s ms (cleared_nodes ids rest)) (same_named ids args here.0 here.1)
      ∙ ap (node id p s args) (same_nodes ids rest (λ m has. each m (later_there n (each_node rest) m has)))

  same_named : (ids : List (List ℕ)) (ms : Named) → AreAmong ids (references_named ms) → AreKnownIn (callbacks_named ms)
      → cleared_named ids ms ≡ ms
  same_named ids no_named in_ids each = refl
  same_named ids (named k a rest) in_ids each =
      ap (λ b. named k b (cleared_named ids rest)) (same_argument ids a
      (λ id has. in_ids id (Contains-append_left (references_in a) (references_named rest) id has))
      (λ g has. each g (Contains-append_left (callbacks_in a) (callbacks_named rest) g has)))
      ∙ ap (named k a) (same_named ids rest
      (λ id has. in_ids id (Contains-append_right (references_in a) (references_named rest) id has))
      (λ g has. each g (Contains-append_right (callbacks_in a) (callbacks_named rest) g has)))

  same_argument : (ids : List (List ℕ)) (a : Argument) → AreAmong ids (references_in a) → AreKnownIn (callbacks_in a)
      → cleared ids a ≡ a
  same_argument ids null in_ids each = refl
  same_argument ids (flag b) in_ids each = refl
  same_argument ids (whole z) in_ids each = refl
  same_argument ids inexact in_ids each = refl
  same_argument ids (text s) in_ids each = refl
  same_argument ids (list rest) in_ids each = ap list (same_each ids rest in_ids each)
  same_argument ids (object ms) in_ids each = ap object (same_named ids ms in_ids each)
  same_argument ids (from_node id) in_ids each = ap from_node (same_id ids id (in_ids id (first_there id [])))
  same_argument ids (from_parameter name) in_ids each = refl
  same_argument ids (callback ns result) in_ids each =
      let all = each (record { nodes = ns; result = result }) (first_there (record { nodes = ns; result = result }) []) in
      ap (λ ms. callback ms result) (same_nodes (ids_of ns) ns (λ n has.
      (λ id refers. all ns n id name_faults.itself has refers, λ g there inner m id inside. all inner m id (name_faults.deeper has there inside))))

  same_each : (ids : List (List ℕ)) (rest : ListValues) → AreAmong ids (references_each rest) → AreKnownIn (callbacks_each rest)
      → cleared_each ids rest ≡ rest
  same_each ids no_arguments in_ids each = refl
  same_each ids (argument a rest) in_ids each =
      ap (λ b. argument b (cleared_each ids rest)) (same_argument ids a
      (λ id has. in_ids id (Contains-append_left (references_in a) (references_each rest) id has))
      (λ g has. each g (Contains-append_left (callbacks_in a) (callbacks_each rest) g has)))
      ∙ ap (argument a) (same_each ids rest
      (λ id has. in_ids id (Contains-append_right (references_in a) (references_each rest) id has))
      (λ g has. each g (Contains-append_right (callbacks_in a) (callbacks_each rest) g has)))

module _ (stored : List PlainStored) (last : Bool) where
  -- an unknown reference is a fault
  never_unknown : (inner outer : Nodes) (n : PlainNode) (id at : List ℕ) (scope : List (List ℕ)) → IsInside inner outer
      → Contains (each_node inner) n → Contains (references_named n.arguments) id
      → nodes_call stored outer ≡ false
      → ((f : Fault) → ¬ OfObject stored last f at scope outer) → (Contains (ids_of inner) id → ⊥) → ⊥
  never_unknown inner outer n id at scope name_faults.itself has refers no_call none absent =
      none (record { code = NodeUnknown; node = node_name at n.id })
      (name_faults.by_itself has (record { at = refl; has = name_faults.node_unknown refers absent }))
  never_unknown inner outer n id at scope (name_faults.deeper {n = m} {g = g} there calls inside) has refers no_call none absent =
      let a = callback_of m.arguments g calls in
      let uncalled = node_uncalled stored outer m no_call there in
      never_unknown inner g.nodes n id (callback_name (node_name at m.id) a.argument.0) (scope_inside m scope) inside has refers
      (callback_uncalled stored m.arguments g uncalled.1 calls)
      (λ f of. none f (name_faults.inside there uncalled.0 a.has a.calls of)) absent

  pub cleared_same : (g : PlainGraph) → nodes_call stored g.nodes ≡ false → ((f : Fault) → ¬ OfObject stored last f [] [] g.nodes) → cleared_graph g ≡ g
  cleared_same g no_call none =
      let all : AreKnown g.nodes = λ inner n id inside has refers.
      stands_among (ids_of inner) id (never_unknown inner g.nodes n id [] [] inside has refers no_call none) in
      ap (λ ns. record { nodes = ns; result = g.result }) (same_nodes (ids_of g.nodes) g.nodes (λ n has.
      (λ id refers. all g.nodes n id name_faults.itself has refers, λ h there inner m id inside. all inner m id (name_faults.deeper has there inside))))
