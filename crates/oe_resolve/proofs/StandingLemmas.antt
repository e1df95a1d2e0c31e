-- What judging the rounds finds, and the faults of names that stand.
use Rattle.std.proofs.Common.{◌≡◌, ℕ, ◌⊎◌, inl, inr, Bool, true, false, List, [], Contains, refl, sym, ap, ◌∙◌, subst, true≢false, arith}
use Rattle.oe_graph.specs.Codes.{phase_of}
use Rattle.oe_graph.specs.Form.{node_name}
use Rattle.oe_graph.specs.References.{each_node}
use Rattle.oe_graph.specs.Tree.{Nodes, PlainGraph, PlainNode, PlainStored}
use Rattle.oe_graph.specs.declared.code.Code.{Code}
use Rattle.oe_graph.specs.declared.fault.Fault.{Fault}
use Rattle.oe_calls.specs.Faults as faults
use Rattle.oe_calls.specs.Faults.{IsWithin, HasNode, StandsWithStored}
use Rattle.oe_resolve.specs.NameFaults as name_faults
use Rattle.oe_resolve.specs.NameFaults.{HasFault, OfObject}
use Rattle.oe_calls.specs.Rounds.{expanded_by, expanded, most_rounds}

-- a fault of a node of a graph object that stands within one
record Found (stored : List PlainStored) (last : Bool) (f : Fault) (at : List ℕ) (outer_scope : List (List ℕ)) (outer : Nodes)
    : Type 0 where
  pub name : List ℕ
  pub scope : List (List ℕ)
  pub object : Nodes
  pub node : PlainNode
  pub within : IsWithin stored name scope object at outer_scope outer
  pub is_node : Contains (each_node object) node
  pub is_named : f.node ≡ node_name name node.id
  pub has : HasFault stored last scope object node f.code

module _ (stored : List PlainStored) (last : Bool) (f : Fault) where
  found_of : (at : List ℕ) (scope : List (List ℕ)) (outer : Nodes) → OfObject stored last f at scope outer
      → Found stored last f at scope outer
  found_of at scope outer (name_faults.by_itself {n = n} there own) = record {
    name = at;
    scope = scope;
    object = outer;
    node = n;
    within = faults.itself;
    is_node = there;
    is_named = own.at;
    has = own.has;
  }
  found_of at scope outer (name_faults.inside there none argument callback of) =
      let r = found_of _ _ _ of in record {
        name = r.name;
        scope = r.scope;
        object = r.object;
        node = r.node;
        within = faults.inside there none argument callback r.within;
        is_node = r.is_node;
        is_named = r.is_named;
        has = r.has;
      }

  of_found : (name : List ℕ) (scope : List (List ℕ)) (object : Nodes) (at : List ℕ) (outer_scope : List (List ℕ)) (outer : Nodes)
      (n : PlainNode) → IsWithin stored name scope object at outer_scope outer → Contains (each_node object) n
      → f.node ≡ node_name name n.id → HasFault stored last scope object n f.code → OfObject stored last f at outer_scope outer
  of_found name scope object at outer_scope outer n faults.itself there named has =
      name_faults.by_itself there (record { at = named; has = has })
  of_found name scope object at outer_scope outer n (faults.inside outer_there none argument callback within) there named has =
      name_faults.inside outer_there none argument callback (of_found name scope object _ _ _ n within there named has)

  pub of_node : (g : PlainGraph) (n : PlainNode) (h : HasNode stored g n f.node) → HasFault stored last h.scope h.object n f.code
      → OfObject stored last f [] [] g.nodes
  of_node g n h has = of_found h.object_name h.scope h.object [] [] g.nodes n h.within h.is_node (sym h.is_named) has

module _ (stored : List PlainStored) (g : PlainGraph) where
  -- ---- what is found stands

  early : (times : ℕ) (code : Code) (at : List ℕ) (n : PlainNode)
      → (h : HasNode stored (expanded_by times stored g) n at) → HasFault stored false h.scope h.object n code → StandsWithStored stored g code at
  early times code at n h (name_faults.argument_unknown same there absent) = faults.argument_unknown times h same there absent
  early times code at n h (name_faults.process_parameter_missing same there default optional absent) =
      faults.process_parameter_missing times h same there default optional absent
  early times code at n h (name_faults.parameter_unknown is there absent) = absurd (true≢false (sym is))
  early times code at n h (name_faults.node_unknown there absent) = faults.node_unknown times h there absent
  early times code at n h (name_faults.graph_cycle is leads) = absurd (true≢false (sym is))

  late : (code : Code) (at : List ℕ) (n : PlainNode)
      → (h : HasNode stored (expanded stored g) n at) → HasFault stored true h.scope h.object n code → StandsWithStored stored g code at
  late code at n h (name_faults.argument_unknown same there absent) =
      faults.argument_unknown most_rounds h same there absent
  late code at n h (name_faults.process_parameter_missing same there default optional absent) =
      faults.process_parameter_missing most_rounds h same there default optional absent
  late code at n h (name_faults.parameter_unknown is there absent) = faults.parameter_unknown h there absent
  late code at n h (name_faults.node_unknown there absent) = faults.node_unknown most_rounds h there absent
  late code at n h (name_faults.graph_cycle is leads) = faults.graph_cycle h leads

  pub early_stands : (times : ℕ) (f : Fault)
      → OfObject stored false f [] [] (expanded_by times stored g).nodes → StandsWithStored stored g f.code f.node
  early_stands times f of =
      let r = found_of stored false f [] [] (expanded_by times stored g).nodes of in
      early times f.code f.node r.node (record {
        object = r.object;
        object_name = r.name;
        scope = r.scope;
        within = r.within;
        is_node = r.is_node;
        is_named = sym r.is_named;
      }) r.has

  pub last_stands : (f : Fault) → OfObject stored true f [] [] (expanded stored g).nodes → StandsWithStored stored g f.code f.node
  last_stands f of =
      let r = found_of stored true f [] [] (expanded stored g).nodes of in
      late f.code f.node r.node (record {
        object = r.object;
        object_name = r.name;
        scope = r.scope;
        within = r.within;
        is_node = r.is_node;
        is_named = sym r.is_named;
      }) r.has

  -- ---- what stands is found

  -- in an earlier round, or in the last one
  pub data InRound (f : Fault) : Type 0 where
    earlier : (times : ℕ) → OfObject stored false f [] [] (expanded_by times stored g).nodes → InRound f
    last_round : OfObject stored true f [] [] (expanded stored g).nodes → InRound f

  pub in_round : (code : Code) (at : List ℕ) → StandsWithStored stored g code at → phase_of code ≡ 4
      → InRound (record { code = code; node = at })
  in_round code at (faults.process_unsupported has brings stands) phase = absurd (omega arith)
  in_round code at (faults.process_recursive has reach reaches) phase = absurd (omega arith)
  in_round code at (faults.graph_too_large more) phase = absurd (omega arith)
  in_round code at (faults.callback_too_large has brings written more) phase = absurd (omega arith)
  in_round code at (faults.argument_unknown times {n = n} h same there absent) phase =
      earlier times (of_node stored false (record { code = code; node = at }) (expanded_by times stored g) n h
      (name_faults.argument_unknown same there absent))
  in_round code at (faults.process_parameter_missing times {n = n} h same there default optional absent) phase =
      earlier times (of_node stored false (record { code = code; node = at }) (expanded_by times stored g) n h
      (name_faults.process_parameter_missing same there default optional absent))
  in_round code at (faults.parameter_unknown {n = n} h there absent) phase =
      last_round (of_node stored true (record { code = code; node = at }) (expanded stored g) n h
      (name_faults.parameter_unknown refl there absent))
  in_round code at (faults.node_unknown times {n = n} h there absent) phase =
      earlier times (of_node stored false (record { code = code; node = at }) (expanded_by times stored g) n h
      (name_faults.node_unknown there absent))
  in_round code at (faults.graph_cycle {n = n} h leads) phase =
      last_round (of_node stored true (record { code = code; node = at }) (expanded stored g) n h
      (name_faults.graph_cycle refl leads))
