-- No fault of the processes, the size and the names of the graph of the demonstration stands.
use Rattle.std.proofs.Common.{◌≡◌, ℕ, zero, suc, ◌<◌, inl, inr, Bool, true, false, List, [], ◌∷◌, Option, Some, None, codes, Contains, option_map, slice_get, if◌then◌else◌, refl, ap, ◌∙◌, subst, arith}
use Rattle.std.specs.Prelude.{⊤}
use Rattle.oe_dims.specs.Names.{same_name}
use Rattle.oe_graph.specs.Codes.{phase_of}
use Rattle.oe_graph.specs.Form.{callback_name, node_name}
use Rattle.oe_graph.specs.Printed.{ids_of}
use Rattle.oe_graph.specs.Read.{IsFaultless}
use Rattle.oe_graph.specs.References.{each_node, references_named, callbacks_in, Leads, Refers}
use Rattle.oe_graph.specs.References as references
use Rattle.oe_graph.specs.Resolved.{scope_inside}
use Rattle.oe_graph.specs.Tree.{Argument, Named, no_named, named, Nodes, PlainGraph, PlainNode, PlainStored}
use Rattle.oe_graph.specs.declared.code.Code.{Code}
use Rattle.oe_graph.specs.declared.code.Code.TheVariants.{GraphTooLarge}
use Rattle.oe_graph.specs.declared.fault.Fault.{Fault}
use Rattle.oe_graph.specs.Faults.{IsLeastFault}
use Rattle.oe_calls.specs.Calls as calls
use Rattle.oe_calls.specs.Calls.{callee, CallsReach}
use Rattle.oe_calls.specs.Faults as faults
use Rattle.oe_calls.specs.Faults.{StandsWithStored, each_argument}
use Rattle.oe_resolve.specs.NameFaults as name_faults
use Rattle.oe_resolve.specs.NameFaults.{IsMark, OfItself, OfObject, know_named, node_code}
use Rattle.oe_calls.specs.Reached.{AreReached, IsCallGraph, IsReached, supports_node}
use Rattle.oe_calls.specs.Rounds.{expanded, expanded_by, most_rounds, round}
use Rattle.oe_calls.proofs.Along.{none_there, there_cases}
use Rattle.oe_calls.proofs.CallFaultLemmas.{all_stand, callee_at}
use Rattle.oe_resolve.proofs.CodeLemmas.{own_least}
use Rattle.oe_calls.proofs.LargeLemmas.{none_large}
use Rattle.oe_resolve.proofs.StandingLemmas.{InRound, earlier, in_round, last_round}
use Rattle.oe_top.proofs.DemoReadings.{demo_plain, main_nodes, max_nodes, max_arguments, load_arguments, sum_arguments, top_arguments}

-- ---- what holds of each of a few things holds of all

module _ {X : Type 0} (P : X → Type 0) where
  pub of_one : (a : X) → P a → (x : X) → Contains (a ∷ []) x → P x
  of_one a p x has = elim (there_cases a [] x has) [
    | inl is ↦ subst P is p
    | inr more ↦ absurd (none_there x more)
  ]

  of_two : (a b : X) → P a → P b → (x : X) → Contains (a ∷ b ∷ []) x → P x
  of_two a b p q x has = elim (there_cases a (b ∷ []) x has) [
    | inl is ↦ subst P is p
    | inr more ↦ of_one b q x more
  ]

  pub of_three : (a b c : X) → P a → P b → P c → (x : X) → Contains (a ∷ b ∷ c ∷ []) x → P x
  of_three a b c p q r x has = elim (there_cases a (b ∷ c ∷ []) x has) [
    | inl is ↦ subst P is p
    | inr more ↦ of_two b c q r x more
  ]

-- ---- the nodes

abbrev pub node_with : List ℕ → List ℕ → Named → PlainNode
node_with id process_id arguments = record { id = id; process_id = process_id; namespace = None; arguments = arguments }

abbrev load : PlainNode
load = node_with (codes "load") (codes "load_collection") load_arguments

abbrev sum : PlainNode
sum = node_with (codes "sum") (codes "apply_kernel") sum_arguments

abbrev top : PlainNode
top = node_with (codes "top") (codes "reduce_dimension") top_arguments

abbrev max : PlainNode
max = node_with (codes "max") (codes "max") max_arguments

each_main : (P : PlainNode → Type 0) → P load → P sum → P top → (n : PlainNode) → Contains (each_node main_nodes) n → P n
each_main P a b c n has = of_three P load sum top a b c n has

-- ---- calls: there is no stored process

no_call : (namespace : Option (List ℕ)) (process_id : List ℕ) (called : PlainStored) → callee [] namespace process_id ≡ Some called → ⊥
no_call namespace process_id called is = none_at (callee_at [] namespace process_id called is)
  where
    none_at : (k : ℕ) × (slice_get [] k ≡ Some called) → ⊥
    none_at found = let at = found.1 in cc

none_reached : (n : PlainNode) (index : ℕ) → IsReached [] n index → ⊥
none_reached n index r = no_call r.caller.namespace r.caller.process_id r.called r.calls

none_stored : (place : ℕ) (s : PlainStored) → slice_get [] place ≡ Some s → ⊥
none_stored place s is = cc

no_links : IsCallGraph [] [] []
no_links = record {
  each = refl;
  each_marked = refl;
  linked = λ place in_callback s is. absurd (none_stored place s is);
  marked = λ place in_callback s is. absurd (none_stored place s is);
}

nothing_reached : (n : PlainNode) → AreReached [] n []
nothing_reached n = record {
  sound = λ index has. absurd (none_there index has);
  complete = λ index r. absurd (none_reached n index r);
}

supported : (n : PlainNode) → Contains (each_node main_nodes) n → supports_node [] false n ≡ true
supported n has = each_main (λ m. supports_node [] false m ≡ true) refl refl refl n has

none_recurs : (n : PlainNode) (s : PlainStored) → CallsReach [] n s → ⊥
none_recurs n s (calls.directly c) = no_call c.caller.namespace c.caller.process_id s c.calls
none_recurs n s (calls.onwards {called = called} c reaches) = no_call c.caller.namespace c.caller.process_id called c.calls

-- ---- sizes

not_large : ¬ StandsWithStored [] demo_plain GraphTooLarge []
not_large = none_large [] demo_plain (omega arith) refl (λ n k has r. absurd (none_reached n k r))

-- ---- cycles

-- how many references lead down from a node
abbrev rank : List ℕ → ℕ
rank id = if same_name id (codes "load") then 0 else (if same_name id (codes "sum") then 1 else 2)

falls : (a b : List ℕ) → Refers main_nodes a b → rank b < rank a
falls a b r =
    subst (λ id. rank b < rank id) r.is_named
    (each_main (λ n. Contains (references_named n.arguments) b → rank b < rank n.id)
    (λ none. absurd (none_there b none))
    (of_one (λ id. rank id < 1) (codes "load") (omega arith) b)
    (of_one (λ id. rank id < 2) (codes "sum") (omega arith) b)
    r.from r.is_node r.refers)

leads_down : (a b : List ℕ) → Leads main_nodes a b → rank b < rank a
leads_down a b (references.refers r) = falls a b r
leads_down a b (references.onwards {b = c} r more) = omega (arith, falls a c r, leads_down c b more)

none_refers : (a b : List ℕ) → Refers max_nodes a b → ⊥
none_refers a b r =
    of_one (λ (n : PlainNode). Contains (references_named n.arguments) b → ⊥) max (none_there b) r.from r.is_node r.refers

none_leads : (a b : List ℕ) → Leads max_nodes a b → ⊥
none_leads a b (references.refers r) = none_refers a b r
none_leads a b (references.onwards {b = c} r more) = none_refers a c r

-- ---- the nodes of the main graph and of the reducer, in an earlier round and in the last

unmarked : (last : Bool) (nodes : Nodes) (n : PlainNode) → ¬ Leads nodes n.id n.id → IsMark last nodes n false
unmarked last nodes n acyclic = (λ is. absurd cc, λ both. absurd (acyclic both.1))

-- a node without a code has no fault by itself
without : (last : Bool) (scope : List (List ℕ)) (nodes : Nodes) (n : PlainNode) (at : List ℕ) → ¬ Leads nodes n.id n.id
    → node_code [] last scope n (know_named (ids_of nodes) n.arguments) false ≡ None
    → (f : Fault) → ¬ OfItself [] last at scope nodes n f
without last scope nodes n at acyclic none =
    subst (λ (code : Option Code). IsLeastFault (OfItself [] last at scope nodes n) (option_map (λ c. record { code = c; node = at }) code)) none
    (own_least [] last scope nodes n false at (unmarked last nodes n acyclic))

main_acyclic : (id : List ℕ) → ¬ Leads main_nodes id id
main_acyclic id leads = let below = leads_down id id leads in omega arith

abbrev inner_scope : List (List ℕ)
inner_scope = codes "data" ∷ codes "context" ∷ []

main_code : (last : Bool) (n : PlainNode) → Contains (each_node main_nodes) n
    → node_code [] last [] n (know_named (ids_of main_nodes) n.arguments) false ≡ None
main_code true n has = each_main (λ m. node_code [] true [] m (know_named (ids_of main_nodes) m.arguments) false ≡ None) refl refl refl n has
main_code false n has = each_main (λ m. node_code [] false [] m (know_named (ids_of main_nodes) m.arguments) false ≡ None) refl refl refl n has

max_code : (last : Bool) (n : PlainNode) → Contains (each_node max_nodes) n
    → node_code [] last inner_scope n (know_named (ids_of max_nodes) n.arguments) false ≡ None
max_code true n has = of_one (λ m. node_code [] true inner_scope m (know_named (ids_of max_nodes) m.arguments) false ≡ None) max refl n has
max_code false n has = of_one (λ m. node_code [] false inner_scope m (know_named (ids_of max_nodes) m.arguments) false ≡ None) max refl n has

-- ---- the callbacks

-- what holds of each argument
abbrev OfAll : (List ℕ × Argument → Type 0) → Named → Type 0
OfAll P no_named = ⊤
OfAll P (named name a rest) = P (name, a) × OfAll P rest

of_argument : (P : List ℕ × Argument → Type 0) (ms : Named) → OfAll P ms → (a : List ℕ × Argument) → Contains (each_argument ms) a → P a
of_argument P no_named all a has = absurd (none_there a has)
of_argument P (named name b rest) all a has = elim (there_cases (name, b) (each_argument rest) a has) [
  | inl is ↦ subst P is all.0
  | inr more ↦ of_argument P rest all.1 a more
]

-- a callback in an argument of a node is the reducer, and sees its parameters
abbrev IsReducerOf : PlainNode → PlainGraph → Type 0
IsReducerOf n g = (scope_inside n [] ≡ inner_scope) × (g.nodes ≡ max_nodes)

abbrev HasReducerAlone : PlainNode → List ℕ × Argument → Type 0
HasReducerAlone n a = (g : PlainGraph) → Contains (callbacks_in a.1) g → IsReducerOf n g

no_graph : (n : PlainNode) (g : PlainGraph) → Contains [] g → IsReducerOf n g
no_graph n g has = absurd (none_there g has)

main_callbacks : (n : PlainNode) → Contains (each_node main_nodes) n → (a : List ℕ × Argument) → Contains (each_argument n.arguments) a
    → HasReducerAlone n a
main_callbacks n has =
    each_main (λ m. (a : List ℕ × Argument) → Contains (each_argument m.arguments) a → HasReducerAlone m a)
    (of_argument (HasReducerAlone load) load_arguments (no_graph load, (no_graph load, (no_graph load, tt))))
    (of_argument (HasReducerAlone sum) sum_arguments (no_graph sum, (no_graph sum, (no_graph sum, tt))))
    (of_argument (HasReducerAlone top) top_arguments
    (no_graph top, (no_graph top, (of_one (IsReducerOf top) (record { nodes = max_nodes; result = 0 }) (refl, refl), tt))))
    n has

max_callbacks : (n : PlainNode) → Contains (each_node max_nodes) n → (a : List ℕ × Argument) → Contains (each_argument n.arguments) a
    → (g : PlainGraph) → Contains (callbacks_in a.1) g → ⊥
max_callbacks n has =
    of_one (λ (m : PlainNode). (a : List ℕ × Argument) → Contains (each_argument m.arguments) a
    → (g : PlainGraph) → Contains (callbacks_in a.1) g → ⊥) max
    (of_argument (λ a. (g : PlainGraph) → Contains (callbacks_in a.1) g → ⊥) max_arguments ((λ g. none_there g), tt)) n has

-- ---- no fault of names

of_reducer : (last : Bool) (f : Fault) (at : List ℕ) (scope : List (List ℕ)) (nodes : Nodes)
    → OfObject [] last f at scope nodes → scope ≡ inner_scope → nodes ≡ max_nodes → ⊥
of_reducer last f at scope nodes (name_faults.by_itself {n = n} has own) s is =
    let here : Contains (each_node max_nodes) n = subst (λ (ns : Nodes). Contains (each_node ns) n) is has in
    without last inner_scope max_nodes n (node_name at n.id) (none_leads n.id n.id) (max_code last n here) f
    (subst (λ (ns : Nodes). OfItself [] last (node_name at n.id) inner_scope ns n f) is
    (subst (λ (names : List (List ℕ)). OfItself [] last (node_name at n.id) names nodes n f) s own))
of_reducer last f at scope nodes (name_faults.inside {n = n} {a = a} {g = g} has none argument callback inner) s is =
    max_callbacks n (subst (λ (ns : Nodes). Contains (each_node ns) n) is has) a argument g callback

of_main : (last : Bool) (f : Fault) (at : List ℕ) (scope : List (List ℕ)) (nodes : Nodes)
    → OfObject [] last f at scope nodes → scope ≡ [] → nodes ≡ main_nodes → ⊥
of_main last f at scope nodes (name_faults.by_itself {n = n} has own) s is =
    let here : Contains (each_node main_nodes) n = subst (λ (ns : Nodes). Contains (each_node ns) n) is has in
    without last [] main_nodes n (node_name at n.id) (main_acyclic n.id) (main_code last n here) f
    (subst (λ (ns : Nodes). OfItself [] last (node_name at n.id) [] ns n f) is
    (subst (λ (names : List (List ℕ)). OfItself [] last (node_name at n.id) names nodes n f) s own))
of_main last f at scope nodes (name_faults.inside {n = n} {a = a} {g = g} has none argument callback inner) s is =
    let reducer = main_callbacks n (subst (λ (ns : Nodes). Contains (each_node ns) n) is has) a argument g callback in
    of_reducer last f (callback_name (node_name at n.id) a.0) (scope_inside n scope) g.nodes inner
    (ap (scope_inside n) s ∙ reducer.0) reducer.1

-- a round changes nothing
pub same_graph : (times : ℕ) → expanded_by times [] demo_plain ≡ expanded_by 0 [] demo_plain
same_graph zero = refl
same_graph (suc times) = ap (λ (h : PlainGraph). round [] h) (same_graph times)

expanded_main : (times : ℕ) → (expanded_by times [] demo_plain).nodes ≡ main_nodes
expanded_main times = ap (λ (h : PlainGraph). h.nodes) (same_graph times)

no_name : (f : Fault) → InRound [] demo_plain f → ⊥
no_name f (earlier times of) = of_main false f [] [] (expanded_by times [] demo_plain).nodes of refl (expanded_main times)
no_name f (last_round of) = of_main true f [] [] (expanded [] demo_plain).nodes of refl (expanded_main most_rounds)

named_fault : (code : Code) (at : List ℕ) → StandsWithStored [] demo_plain code at → phase_of code ≡ 4 → ⊥
named_fault code at stands phase = no_name (record { code = code; node = at }) (in_round [] demo_plain code at stands phase)

-- ---- no fault at all

pub names_valid : IsFaultless (StandsWithStored [] demo_plain)
names_valid code at (faults.process_unsupported {n = n} {m = m} {in_callback = in_callback} has brings denied) =
    all_stand [] [] [] no_links n [] (nothing_reached n) (supported n has) refl
    (record { in_callback = in_callback; brought = m; brings = brings; stands_not = denied })
names_valid code at (faults.process_recursive {n = n} {s = s} has reach reaches) = none_recurs n s reach
names_valid code at (faults.graph_too_large more) = not_large (faults.graph_too_large more)
names_valid code at (faults.callback_too_large has brings there more) = not_large (faults.callback_too_large has brings there more)
names_valid code at (faults.argument_unknown times has same there absent) =
    named_fault code at (faults.argument_unknown times has same there absent) refl
names_valid code at (faults.process_parameter_missing times has same there default optional absent) =
    named_fault code at (faults.process_parameter_missing times has same there default optional absent) refl
names_valid code at (faults.parameter_unknown has there absent) = named_fault code at (faults.parameter_unknown has there absent) refl
names_valid code at (faults.node_unknown times has there absent) = named_fault code at (faults.node_unknown times has there absent) refl
names_valid code at (faults.graph_cycle has leads) = named_fault code at (faults.graph_cycle has leads) refl
