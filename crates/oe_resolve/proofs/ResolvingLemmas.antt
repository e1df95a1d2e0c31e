-- Where no fault stands in a graph, and its expansion is in order, fits its sizes and calls no stored process, the graph
-- with defaults is resolved.
use Rattle.std.proofs.Common.{◌≡◌, inl, inr, ℕ, suc, ◌<◌, ◌≤◌, ◌||◌, not, Bool, true, false, if◌then◌else◌, List, [], ◌∷◌, ◌++◌, map, Contains, Decides, Option, Some, None, is_some, option_map, refl, sym, ap, ◌∙◌, subst, true≢false}
use Rattle.std.specs.Option.{option_map_or, option_or}
use Rattle.std.specs.Set.{is_member}
use Rattle.std.proofs.lemmas.List.{map-append}
use Rattle.std.proofs.lemmas.List.Elements.{Contains-append_cases}
use Rattle.std.proofs.lemmas.Map.Made.{is_member-Decides}
use Rattle.oe_dims.specs.Names.{same_name, names_rise}
use Rattle.oe_dims.proofs.OrderLemmas.{same_name_is, same_name_refl}
use Rattle.oe_graph.specs.Catalogue.{Parameter, Process, process_named, plain_parameter, literal_value}
use Rattle.oe_graph.specs.Form.{node_name, callback_name}
use Rattle.oe_graph.specs.Printed.{ids_of, names_of, node_count}
use Rattle.oe_graph.specs.References.{each_node, references_in, references_each, references_named, parameters_in, parameters_each, callbacks_in, callbacks_each, callbacks_named, Refers, Leads, refers, onwards}
use Rattle.oe_graph.specs.References as named_references
use Rattle.oe_graph.specs.Resolved.{parameter_names, IsResolvedNode, IsResolvedObject, IsResolved, IsScopedWithin, itself, inside, scope_inside, most_nodes}
use Rattle.oe_graph.specs.Tree.{Argument, null, flag, whole, inexact, text, list, object, from_node, from_parameter, callback, ListValues, no_arguments, argument, Named, no_named, named, Nodes, no_nodes, node, PlainGraph, PlainNode, PlainStored}
use Rattle.oe_graph.specs.declared.code.Code.{Code}
use Rattle.oe_calls.specs.HasCall.{nodes_call}
use Rattle.oe_calls.specs.Calls.{callee, means_catalogue, row_meant, stands_in, parameters_of}
use Rattle.oe_calls.specs.Faults as faults
use Rattle.oe_calls.specs.Faults.{each_argument, HasNode, names_among, StandsWithStored, argument_unknown, process_parameter_missing, parameter_unknown, node_unknown, graph_cycle}
use Rattle.oe_resolve.specs.Defaults.{parameters_named, with_defaults, each_with_defaults, named_with_defaults, nodes_with_defaults, node_with_defaults, graph_with_defaults, put_defaults, resolved}
use Rattle.oe_calls.specs.Rounds.{expanded, most_rounds}
use Rattle.oe_calls.proofs.Along.{none_there, in_first, later_there, Image, in_map, map_there}
use Rattle.oe_resolve.proofs.DefaultLemmas.{the_names, references-defaults, parameters-defaults, callbacks-defaults, names-defaults, names-given, names_rise-defaults}
use Rattle.oe_calls.proofs.UncalledLemmas.{node_uncalled, callback_uncalled}
use Rattle.oe_calls.proofs.OrderLemmas.{IsOrderedObject, EachObject}

-- ---- names

name_decides : (a b : List ℕ) → Decides (same_name a b) (a ≡ b)
name_decides a b = (λ is. sym (same_name_is a b is), λ is. subst (λ n. same_name a n ≡ true) is (same_name_refl a))

decide_by : (xs : List (List ℕ)) (x : List ℕ) (among : Bool) → Decides among (Contains xs x)
    → ((Contains xs x → ⊥) → ⊥) → Contains xs x
decide_by xs x true decides not_not = decides.0 refl
decide_by xs x false decides not_not = absurd (not_not (λ has. true≢false (sym (decides.1 has))))

-- a name that cannot but stand among names stands there
pub stands_among : (xs : List (List ℕ)) (x : List ℕ) → ((Contains xs x → ⊥) → ⊥) → Contains xs x
stands_among xs x not_not = decide_by xs x (is_member same_name xs x) (is_member-Decides name_decides xs x) not_not

-- ---- what defaults keep

pub each_node-with_defaults : (nodes : Nodes) → each_node (nodes_with_defaults nodes) ≡ map node_with_defaults (each_node nodes)
each_node-with_defaults no_nodes = refl
each_node-with_defaults (node id p s args rest) =
    ap (λ xs. node_with_defaults (record { id = id; process_id = p; namespace = s; arguments = args }) ∷ xs) (each_node-with_defaults rest)

pub ids_of-with_defaults : (nodes : Nodes) → ids_of (nodes_with_defaults nodes) ≡ ids_of nodes
ids_of-with_defaults no_nodes = refl
ids_of-with_defaults (node id p s args rest) = ap (λ xs. id ∷ xs) (ids_of-with_defaults rest)

pub node_count-with_defaults : (nodes : Nodes) → node_count (nodes_with_defaults nodes) ≡ node_count nodes
node_count-with_defaults no_nodes = refl
node_count-with_defaults (node id p s args rest) = ap suc (node_count-with_defaults rest)

pub names_of-with_defaults : (ms : Named) → names_of (named_with_defaults ms) ≡ names_of ms
names_of-with_defaults no_named = refl
names_of-with_defaults (named k a rest) = ap (λ xs. k ∷ xs) (names_of-with_defaults rest)

mutual
  references-with_defaults : (a : Argument) → references_in (with_defaults a) ≡ references_in a
  references-with_defaults null = refl
  references-with_defaults (flag b) = refl
  references-with_defaults (whole z) = refl
  references-with_defaults inexact = refl
  references-with_defaults (text s) = refl
  references-with_defaults (list rest) = references_each-with_defaults rest
  references-with_defaults (object ms) = references_named-with_defaults ms
  references-with_defaults (from_node id) = refl
  references-with_defaults (from_parameter name) = refl
  references-with_defaults (callback ns result) = refl

  references_each-with_defaults : (rest : ListValues) → references_each (each_with_defaults rest) ≡ references_each rest
  references_each-with_defaults no_arguments = refl
  references_each-with_defaults (argument a rest) =
      ap (λ xs. xs ++ references_each (each_with_defaults rest)) (references-with_defaults a)
      ∙ ap (λ xs. references_in a ++ xs) (references_each-with_defaults rest)

  pub references_named-with_defaults : (ms : Named) → references_named (named_with_defaults ms) ≡ references_named ms
  references_named-with_defaults no_named = refl
  references_named-with_defaults (named k a rest) =
      ap (λ xs. xs ++ references_named (named_with_defaults rest)) (references-with_defaults a)
      ∙ ap (λ xs. references_in a ++ xs) (references_named-with_defaults rest)

mutual
  parameters-with_defaults : (a : Argument) → parameters_in (with_defaults a) ≡ parameters_in a
  parameters-with_defaults null = refl
  parameters-with_defaults (flag b) = refl
  parameters-with_defaults (whole z) = refl
  parameters-with_defaults inexact = refl
  parameters-with_defaults (text s) = refl
  parameters-with_defaults (list rest) = parameters_each-with_defaults rest
  parameters-with_defaults (object ms) = parameters_named-with_defaults ms
  parameters-with_defaults (from_node id) = refl
  parameters-with_defaults (from_parameter name) = refl
  parameters-with_defaults (callback ns result) = refl

  parameters_each-with_defaults : (rest : ListValues) → parameters_each (each_with_defaults rest) ≡ parameters_each rest
  parameters_each-with_defaults no_arguments = refl
  parameters_each-with_defaults (argument a rest) =
      ap (λ xs. xs ++ parameters_each (each_with_defaults rest)) (parameters-with_defaults a)
      ∙ ap (λ xs. parameters_in a ++ xs) (parameters_each-with_defaults rest)

  pub parameters_named-with_defaults : (ms : Named)
      → named_references.parameters_named (named_with_defaults ms) ≡ named_references.parameters_named ms
  parameters_named-with_defaults no_named = refl
  parameters_named-with_defaults (named k a rest) =
      ap (λ xs. xs ++ named_references.parameters_named (named_with_defaults rest)) (parameters-with_defaults a)
      ∙ ap (λ xs. parameters_in a ++ xs) (parameters_named-with_defaults rest)

mutual
  callbacks-with_defaults : (a : Argument) → callbacks_in (with_defaults a) ≡ map graph_with_defaults (callbacks_in a)
  callbacks-with_defaults null = refl
  callbacks-with_defaults (flag b) = refl
  callbacks-with_defaults (whole z) = refl
  callbacks-with_defaults inexact = refl
  callbacks-with_defaults (text s) = refl
  callbacks-with_defaults (list rest) = callbacks_each-with_defaults rest
  callbacks-with_defaults (object ms) = callbacks_named-with_defaults ms
  callbacks-with_defaults (from_node id) = refl
  callbacks-with_defaults (from_parameter name) = refl
  callbacks-with_defaults (callback ns result) = refl

  callbacks_each-with_defaults : (rest : ListValues) → callbacks_each (each_with_defaults rest) ≡ map graph_with_defaults (callbacks_each rest)
  callbacks_each-with_defaults no_arguments = refl
  callbacks_each-with_defaults (argument a rest) =
      ap (λ xs. xs ++ callbacks_each (each_with_defaults rest)) (callbacks-with_defaults a)
      ∙ (ap (λ xs. map graph_with_defaults (callbacks_in a) ++ xs) (callbacks_each-with_defaults rest)
      ∙ sym (map-append graph_with_defaults (callbacks_in a) (callbacks_each rest)))

  pub callbacks_named-with_defaults : (ms : Named) → callbacks_named (named_with_defaults ms) ≡ map graph_with_defaults (callbacks_named ms)
  callbacks_named-with_defaults no_named = refl
  callbacks_named-with_defaults (named k a rest) =
      ap (λ xs. xs ++ callbacks_named (named_with_defaults rest)) (callbacks-with_defaults a)
      ∙ (ap (λ xs. map graph_with_defaults (callbacks_in a) ++ xs) (callbacks_named-with_defaults rest)
      ∙ sym (map-append graph_with_defaults (callbacks_in a) (callbacks_named rest)))

-- the parameters of a row of the catalogue
abbrev of_row : Option Process → List Parameter
of_row row = option_map_or (λ (p : Process). p.parameters) row []

plain_of_row : (row : Option Process)
    → option_map_or (λ (p : Process). map plain_parameter p.parameters) row [] ≡ map plain_parameter (of_row row)
plain_of_row None = refl
plain_of_row (Some p) = refl

-- the arguments of a node with defaults
arguments_with_defaults : (n : PlainNode)
    → (node_with_defaults n).arguments ≡ put_defaults (map plain_parameter (of_row (process_named n.process_id))) (named_with_defaults n.arguments)
arguments_with_defaults n = ap (λ ps. put_defaults ps (named_with_defaults n.arguments)) (plain_of_row (process_named n.process_id))

-- ---- the graph objects of a graph with defaults are those of the graph, with defaults

pub record WithinBefore (in_callback : Bool) (scope : List (List ℕ)) (nodes : Nodes) (result : ℕ)
    (outer_in_callback : Bool) (outer_scope : List (List ℕ)) (outer : Nodes) (outer_result : ℕ) : Type 0 where
  pub before : Nodes
  pub is_with_defaults : nodes ≡ nodes_with_defaults before
  pub within : IsScopedWithin in_callback scope before result outer_in_callback outer_scope outer outer_result

callback_before : (m : PlainNode) (g : PlainGraph) → Contains (callbacks_named (node_with_defaults m).arguments) g
    → Image graph_with_defaults (callbacks_named m.arguments) g
callback_before m g has =
    in_map graph_with_defaults (callbacks_named m.arguments) g
    (subst (λ gs. Contains gs g) (callbacks_named-with_defaults m.arguments)
    (callbacks-defaults (of_row (process_named m.process_id)) (named_with_defaults m.arguments) g
    (subst (λ ms. Contains (callbacks_named ms) g) (arguments_with_defaults m) has)))

pub node_before : (outer whole_outer : Nodes) (n : PlainNode) → whole_outer ≡ nodes_with_defaults outer → Contains (each_node whole_outer) n
    → Image node_with_defaults (each_node outer) n
node_before outer whole_outer n is has =
    in_map node_with_defaults (each_node outer) n
    (subst (λ ns. Contains ns n) (ap each_node is ∙ each_node-with_defaults outer) has)

pub within_before : (in_callback : Bool) (scope : List (List ℕ)) (nodes : Nodes) (result : ℕ)
    (outer_in_callback : Bool) (outer_scope : List (List ℕ)) (whole_outer : Nodes) (outer_result : ℕ) (outer : Nodes)
    → IsScopedWithin in_callback scope nodes result outer_in_callback outer_scope whole_outer outer_result
    → whole_outer ≡ nodes_with_defaults outer
    → WithinBefore in_callback scope nodes result outer_in_callback outer_scope outer outer_result
within_before in_callback scope nodes result outer_in_callback outer_scope whole_outer outer_result outer itself is =
    record { before = outer; is_with_defaults = is; within = itself }
within_before in_callback scope nodes result outer_in_callback outer_scope whole_outer outer_result outer (inside {n = n} {g = g} has calls within) is =
    let m = node_before outer whole_outer n is has in
    let h = callback_before m.of g (subst (λ (k : PlainNode). Contains (callbacks_named k.arguments) g) (sym m.is) calls) in
    let deep = within_before in_callback scope nodes result true (scope_inside n outer_scope) g.nodes g.result h.of.nodes within
    (ap (λ (x : PlainGraph). x.nodes) (sym h.is)) in
    let same_scope : scope_inside n outer_scope ≡ scope_inside m.of outer_scope =
    ap (λ (k : PlainNode). scope_inside k outer_scope) (sym m.is) in
    let same_result : g.result ≡ h.of.result = ap (λ (x : PlainGraph). x.result) (sym h.is) in
    record {
      before = deep.before;
      is_with_defaults = deep.is_with_defaults;
      within = inside m.has h.has
          (subst (λ r. IsScopedWithin in_callback scope deep.before result true (scope_inside m.of outer_scope) h.of.nodes r) same_result
          (subst (λ s. IsScopedWithin in_callback scope deep.before result true s h.of.nodes g.result) same_scope deep.within));
    }

-- ---- a graph object has a name

pub record HasName (stored : List PlainStored) (scope : List (List ℕ)) (nodes : Nodes) (at : List ℕ) (outer_scope : List (List ℕ))
    (outer : Nodes) : Type 0 where
  pub name : List ℕ
  pub within : faults.IsWithin stored name scope nodes at outer_scope outer

pub record CallbackOf (ms : Named) (g : PlainGraph) : Type 0 where
  pub argument : List ℕ × Argument
  pub has : Contains (each_argument ms) argument
  pub calls : Contains (callbacks_in argument.1) g

pub callback_of : (ms : Named) (g : PlainGraph) → Contains (callbacks_named ms) g → CallbackOf ms g
callback_of no_named g has = absurd (none_there g has)
callback_of (named k a rest) g has =
    elim (Contains-append_cases (callbacks_in a) (callbacks_named rest) g has) as (λ _. CallbackOf (named k a rest) g) [
      | inl here ↦ record { argument = (k, a); has = in_first (k, a) (each_argument rest) (k, a) refl; calls = here }
      | inr there ↦ let later = callback_of rest g there in
          record { argument = later.argument; has = later_there (k, a) (each_argument rest) later.argument later.has; calls = later.calls }
    ]

pub has_name : (stored : List PlainStored) (in_callback : Bool) (scope : List (List ℕ)) (nodes : Nodes) (result : ℕ)
    (outer_in_callback : Bool) (outer_scope : List (List ℕ)) (outer : Nodes) (outer_result : ℕ)
    → IsScopedWithin in_callback scope nodes result outer_in_callback outer_scope outer outer_result
    → nodes_call stored outer ≡ false → (at : List ℕ) → HasName stored scope nodes at outer_scope outer
has_name stored in_callback scope nodes result outer_in_callback outer_scope outer outer_result itself none at =
    record { name = at; within = faults.itself }
has_name stored in_callback scope nodes result outer_in_callback outer_scope outer outer_result (inside {n = n} {g = g} has calls within) none at =
    let a = callback_of n.arguments g calls in
    let uncalled = node_uncalled stored outer n none has in
    let deep = has_name stored in_callback scope nodes result true (scope_inside n outer_scope) g.nodes g.result within
    (callback_uncalled stored n.arguments g uncalled.1 calls) (callback_name (node_name at n.id) a.argument.0) in
    record { name = deep.name; within = faults.inside has uncalled.0 a.has a.calls deep.within }

-- ---- the row of a node that may stand where it does, and calls no stored process

record RowOf (stored : List PlainStored) (in_callback : Bool) (n : PlainNode) : Type 0 where
  pub process : Process
  pub is_process : process_named n.process_id ≡ Some process
  pub stands : process.in_callback ≡ in_callback
  pub parameters : parameters_of stored n ≡ Some (map plain_parameter process.parameters)

stands_as : (in_callback is : Bool) → (if in_callback then is else not is) ≡ true → is ≡ in_callback
stands_as true is stands = stands
stands_as false true stands = absurd (true≢false (sym stands))
stands_as false false stands = refl

record Meant (row : Option Process) (in_callback : Bool) : Type 0 where
  pub process : Process
  pub is_row : row ≡ Some process
  pub stands : process.in_callback ≡ in_callback

meant : (row : Option Process) (in_callback : Bool)
    → option_map_or (λ (p : Process). if in_callback then p.in_callback else not p.in_callback) row false ≡ true
    → Meant row in_callback
meant None in_callback stands = absurd (true≢false (sym stands))
meant (Some p) in_callback stands = record { process = p; is_row = refl; stands = stands_as in_callback p.in_callback stands }

in_catalogue : (means : Bool) (row : Option Process) (p : Process) → (if means then row else None) ≡ Some p → row ≡ Some p
in_catalogue true row p is = is
in_catalogue false row p is = absurd cc

row_of : (stored : List PlainStored) (in_callback : Bool) (n : PlainNode)
    → callee stored n.namespace n.process_id ≡ None → stands_in stored in_callback n ≡ true → RowOf stored in_callback n
row_of stored in_callback n no_call stands =
    let by_row = sym (ap (λ (o : Option PlainStored). is_some o
    || option_map_or (λ (p : Process). if in_callback then p.in_callback else not p.in_callback) (row_meant n.namespace n.process_id) false) no_call)
    ∙ stands in
    let row = meant (row_meant n.namespace n.process_id) in_callback by_row in
    record {
      process = row.process;
      is_process = in_catalogue (means_catalogue n.namespace) (process_named n.process_id) row.process row.is_row;
      stands = row.stands;
      parameters =
          ap (λ (o : Option PlainStored). option_or (option_map (λ (s : PlainStored). s.parameters) o)
          (option_map (λ (p : Process). map plain_parameter p.parameters) (row_meant n.namespace n.process_id))) no_call
          ∙ ap (λ o. option_map (λ (p : Process). map plain_parameter p.parameters) o) row.is_row;
    }

-- ---- one graph object

-- each node calls no stored process and may stand where it does
abbrev pub StandInCatalogue : List PlainStored → Bool → Nodes → ℕ → Type 0
StandInCatalogue stored in_callback nodes result =
    (n : PlainNode) → Contains (each_node nodes) n
    → (callee stored n.namespace n.process_id ≡ None) × (stands_in stored in_callback n ≡ true)

names_map : (ps : List Parameter) → names_among (map plain_parameter ps) ≡ the_names ps
names_map [] = refl
names_map (p ∷ ps) = ap (λ xs. p.name ∷ xs) (names_map ps)

module _ (stored : List PlainStored) (g : PlainGraph) (faultless : (code : Code) (node : List ℕ) → ¬ StandsWithStored stored g code node)
    (none : nodes_call stored (expanded stored g).nodes ≡ false) (in_callback : Bool) (scope : List (List ℕ)) (nodes : Nodes) (result : ℕ)
    (within : IsScopedWithin in_callback scope nodes result false [] (expanded stored g).nodes (expanded stored g).result) where
  abbrev named_object : HasName stored scope nodes [] [] (expanded stored g).nodes
  named_object = has_name stored in_callback scope nodes result false [] (expanded stored g).nodes (expanded stored g).result within none []

  abbrev has_node : (n : PlainNode) → Contains (each_node nodes) n → HasNode stored (expanded stored g) n (node_name named_object.name n.id)
  has_node n has = record {
    object = nodes;
    object_name = named_object.name;
    scope = scope;
    within = named_object.within;
    is_node = has;
    is_named = refl;
  }

  before_of : (n : PlainNode) → Contains (each_node (nodes_with_defaults nodes)) n → Image node_with_defaults (each_node nodes) n
  before_of n has = node_before nodes (nodes_with_defaults nodes) n refl has

  references_before : (m : PlainNode) (id : List ℕ) → Contains (references_named (node_with_defaults m).arguments) id
      → Contains (references_named m.arguments) id
  references_before m id has =
      subst (λ ids. Contains ids id) (references_named-with_defaults m.arguments)
      (references-defaults (of_row (process_named m.process_id)) (named_with_defaults m.arguments) id
      (subst (λ ms. Contains (references_named ms) id) (arguments_with_defaults m) has))

  parameters_before : (m : PlainNode) (name : List ℕ) → Contains (named_references.parameters_named (node_with_defaults m).arguments) name
      → Contains (named_references.parameters_named m.arguments) name
  parameters_before m name has =
      subst (λ ps. Contains ps name) (parameters_named-with_defaults m.arguments)
      (parameters-defaults (of_row (process_named m.process_id)) (named_with_defaults m.arguments) name
      (subst (λ ms. Contains (named_references.parameters_named ms) name) (arguments_with_defaults m) has))

  -- the arguments with defaults where the row is known
  arguments_by : (m : PlainNode) (p : Process) → process_named m.process_id ≡ Some p
      → (node_with_defaults m).arguments ≡ put_defaults (map plain_parameter p.parameters) (named_with_defaults m.arguments)
  arguments_by m p is =
      arguments_with_defaults m ∙ ap (λ row. put_defaults (map plain_parameter (of_row row)) (named_with_defaults m.arguments)) is

  given_or_default : (m : PlainNode) (row : RowOf stored in_callback m) → Contains (each_node nodes) m
      → (q : Parameter) → Contains row.process.parameters q → q.default ≡ None → Contains (names_of (named_with_defaults m.arguments)) q.name
  given_or_default m row has q is_parameter none =
      subst (λ xs. Contains xs q.name) (sym (names_of-with_defaults m.arguments))
      (stands_among (names_of m.arguments) q.name
      (λ missing. faultless _ _ (process_parameter_missing most_rounds (has_node m has) row.parameters
      (map_there plain_parameter row.process.parameters q is_parameter)
      (ap (λ d. option_map literal_value d) none) (ap is_some none) missing)))

  has_each_parameter : (m : PlainNode) (row : RowOf stored in_callback m) → Contains (each_node nodes) m
      → (name : List ℕ) → Contains (parameter_names row.process) name → Contains (names_of (node_with_defaults m).arguments) name
  has_each_parameter m row has name is_parameter =
      let q = in_map (λ (p : Parameter). p.name) row.process.parameters name is_parameter in
      subst (λ x. Contains (names_of (node_with_defaults m).arguments) x) q.is
      (subst (λ ms. Contains (names_of ms) q.of.name) (sym (arguments_by m row.process row.is_process))
      (names-given row.process.parameters (named_with_defaults m.arguments) q.of q.has (given_or_default m row has q.of q.has)))

  has_no_other_argument : (m : PlainNode) (row : RowOf stored in_callback m) → Contains (each_node nodes) m
      → (name : List ℕ) → Contains (names_of (node_with_defaults m).arguments) name → Contains (parameter_names row.process) name
  has_no_other_argument m row has name is_argument =
      elim (names-defaults row.process.parameters (named_with_defaults m.arguments) name
      (subst (λ ms. Contains (names_of ms) name) (arguments_by m row.process row.is_process) is_argument))
      as (λ _. Contains (parameter_names row.process) name) [
        | inl there ↦ there
        | inr given ↦ stands_among (parameter_names row.process) name
            (λ unknown. faultless _ _ (argument_unknown most_rounds (has_node m has) row.parameters
            (subst (λ xs. Contains xs name) (names_of-with_defaults m.arguments) given)
            (λ known. unknown (subst (λ xs. Contains xs name) (names_map row.process.parameters) known))))
      ]

  resolved_node : (ordered : IsOrderedObject nodes result) (stand : StandInCatalogue stored in_callback nodes result)
      (m : PlainNode) → Contains (each_node nodes) m
      → IsResolvedNode in_callback scope (ids_of (nodes_with_defaults nodes)) (node_with_defaults m)
  resolved_node ordered stand m has =
      let row = row_of stored in_callback m (stand m has).0 (stand m has).1 in
      record {
        names_rise =
            subst (λ ms. names_rise (names_of ms) ≡ true) (sym (arguments_by m row.process row.is_process))
            (names_rise-defaults row.process.parameters (named_with_defaults m.arguments)
            (ap names_rise (names_of-with_defaults m.arguments) ∙ ordered.names_rise m has));
        process = row.process;
        is_process = row.is_process;
        stands = row.stands;
        has_each = has_each_parameter m row has;
        has_no_other = has_no_other_argument m row has;
        names_nodes = λ id refers_to. subst (λ xs. Contains xs id) (sym (ids_of-with_defaults nodes))
            (stands_among (ids_of nodes) id
            (λ unknown. faultless _ _ (node_unknown most_rounds (has_node m has)
            (references_before m id refers_to) unknown)));
        names_parameters = λ name refers_to. stands_among scope name
            (λ unknown. faultless _ _ (parameter_unknown (has_node m has) (parameters_before m name refers_to) unknown));
      }

  refers_before : (a b : List ℕ) → Refers (nodes_with_defaults nodes) a b → Refers nodes a b
  refers_before a b one =
      let m = before_of one.from one.is_node in
      record {
        from = m.of;
        is_node = m.has;
        is_named = ap (λ (n : PlainNode). n.id) m.is ∙ one.is_named;
        refers = references_before m.of b (subst (λ (n : PlainNode). Contains (references_named n.arguments) b) (sym m.is) one.refers);
      }

  leads_before : (a b : List ℕ) → Leads (nodes_with_defaults nodes) a b → Leads nodes a b
  leads_before a b (refers one) = refers (refers_before a b one)
  leads_before a b (onwards {b = c} one rest) = onwards (refers_before a c one) (leads_before c b rest)

  no_cycle_at : (a b : List ℕ) → Refers nodes a b → Leads nodes a a → ⊥
  no_cycle_at a b one leads =
      faultless _ _ (graph_cycle (has_node one.from one.is_node)
      (subst (λ c. Leads nodes c c) (sym one.is_named) leads))

  no_cycle_from : (a b : List ℕ) → Leads nodes a b → Leads nodes a a → ⊥
  no_cycle_from a b (refers one) leads = no_cycle_at a b one leads
  no_cycle_from a b (onwards {b = c} one rest) leads = no_cycle_at a c one leads

  no_cycle : (id : List ℕ) → Leads nodes id id → ⊥
  no_cycle id leads = no_cycle_from id id leads leads

  resolved_object : IsOrderedObject nodes result → StandInCatalogue stored in_callback nodes result
      → node_count nodes ≤ most_nodes in_callback
      → IsResolvedObject in_callback scope (nodes_with_defaults nodes) result
  resolved_object ordered stand fits = record {
    ids_rise = ap names_rise (ids_of-with_defaults nodes) ∙ ordered.ids_rise;
    has_result = subst (λ count. result < count) (sym (node_count-with_defaults nodes)) ordered.has_result;
    fits = subst (λ count. count ≤ most_nodes in_callback) (sym (node_count-with_defaults nodes)) fits;
    each = λ n has. let m = before_of n has in
        subst (λ k. IsResolvedNode in_callback scope (ids_of (nodes_with_defaults nodes)) k) m.is (resolved_node ordered stand m.of m.has);
    acyclic = λ id leads. no_cycle id (leads_before id id leads);
  }

-- ---- the whole graph

-- the graph that a graph without a fault resolves to
pub resolved-is : (stored : List PlainStored) (g : PlainGraph)
    → ((code : Code) (node : List ℕ) → ¬ StandsWithStored stored g code node)
    → nodes_call stored (expanded stored g).nodes ≡ false
    → EachObject (λ in_callback nodes result. IsOrderedObject nodes result) (expanded stored g)
    → EachObject (λ in_callback nodes result. node_count nodes ≤ most_nodes in_callback) (expanded stored g)
    → EachObject (StandInCatalogue stored) (expanded stored g)
    → IsResolved (resolved stored g)
resolved-is stored g faultless none ordered fits stand in_callback scope nodes result within =
    let e = expanded stored g in
    let w = within_before in_callback scope nodes result false [] (nodes_with_defaults e.nodes) e.result e.nodes within refl in
    subst (λ ns. IsResolvedObject in_callback scope ns result) (sym w.is_with_defaults)
    (resolved_object stored g faultless none in_callback scope w.before result w.within
    (ordered in_callback scope w.before result w.within)
    (stand in_callback scope w.before result w.within)
    (fits in_callback scope w.before result w.within))
