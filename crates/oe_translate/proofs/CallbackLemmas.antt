-- Both callbacks that are written are resolved, and no fault stands in them.
use Rattle.std.proofs.Common.{◌≡◌, ◌⊎◌, inl, inr, ℕ, ◌||◌, Bool, true, false, List, [], ◌∷◌, Option, Some, None, Contains, refl, sym, ◌∙◌, subst, true≢false, arith}
use Rattle.std.specs.Prelude.{codes, unwrap_or}
use Rattle.std.specs.List.{list_any}
use Rattle.oe_cell.specs.declared.cell.Cell.TheVariants.{Empty}
use Rattle.oe_dims.specs.Names.{same_name, names_rise}
use Rattle.oe_dims.specs.Plain.{PlainLabels}
use Rattle.oe_dims.specs.declared.kind.CellKind.TheVariants.{Numbers}
use Rattle.oe_dims.proofs.OrderLemmas.{same_name_is}
use Rattle.oe_graph.specs.Catalogue.{Process, process_named, process_from}
use Rattle.oe_graph.specs.Printed.{names_of}
use Rattle.oe_graph.specs.References.{Leads, Refers, callbacks_named, each_node, onwards, parameters_named, references_named, refers}
use Rattle.oe_graph.specs.Resolved.{IsResolvedNode, IsResolvedObject, IsResolvedUnder, IsScopedWithin, inside, itself, parameter_names, scope_inside}
use Rattle.oe_graph.specs.Tree as tree
use Rattle.oe_graph.specs.Tree.{Nodes, PlainGraph, PlainNode}
use Rattle.oe_graph.specs.declared.code.Code.{Code}
use Rattle.oe_expr.specs.Callback.{IsFaultlessCallback, callback_kind, callback_of}
use Rattle.oe_expr.specs.Nodes.{down_from}
use Rattle.oe_expr.specs.Scope as scope
use Rattle.oe_expr.specs.Stands.{own_fault}
use Rattle.oe_expr.specs.declared.scope.ListPart.{ListPart}
use Rattle.oe_expr.proofs.NodeLemmas.{node_is}
use Rattle.oe_meanings.proofs.OrderedLemmas.{left_of, right_of}
use Rattle.oe_requests.specs.Labels.{are_among}
use Rattle.oe_calls.proofs.Along.{there_cases, in_first, none_there, later_there}
use Rattle.oe_translate.specs.Written.{add_node, multiply_node}
use Rattle.oe_translate.proofs.SumLemmas.{merge_graph, sum_graph}

-- ---- names among others

pub name_among : (name : List ℕ) (names : List (List ℕ)) → list_any (same_name name) names ≡ true → Contains names name
name_among name [] h = absurd (true≢false (sym h))
name_among name (x ∷ names) h = by (same_name name x) refl h (name_among name names)
  where
    by : (b : Bool) → same_name name x ≡ b → (b || list_any (same_name name) names) ≡ true
        → (list_any (same_name name) names ≡ true → Contains names name) → Contains (x ∷ names) name
    by true e there later = in_first x names name (same_name_is name x e)
    by false e there later = later_there x names name (later there)

names_among : (wanted names : List (List ℕ)) → are_among same_name names wanted ≡ true → (name : List ℕ) → Contains wanted name → Contains names name
names_among [] names h name has = absurd (none_there name has)
names_among (x ∷ wanted) names h name has =
    elim (there_cases x wanted name has) as (λ _. Contains names name) [
      | inl is ↦ subst (Contains names) is (name_among x names (left_of (list_any (same_name x) names) _ h))
      | inr there ↦ names_among wanted names (right_of (list_any (same_name x) names) _ h) name there
    ]

-- a node with exactly the arguments of its row
pub resolved_node : (in_callback : Bool) (scope ids : List (List ℕ)) (n : PlainNode) (p : Process) → names_rise (names_of n.arguments) ≡ true
    → process_named n.process_id ≡ Some p → p.in_callback ≡ in_callback
    → are_among same_name (names_of n.arguments) (parameter_names p) ≡ true → are_among same_name (parameter_names p) (names_of n.arguments) ≡ true
    → ((id : List ℕ) → Contains (references_named n.arguments) id → Contains ids id)
    → ((name : List ℕ) → Contains (parameters_named n.arguments) name → Contains scope name)
    → IsResolvedNode in_callback scope ids n
resolved_node in_callback scope ids n p rise is stands each no_other nodes parameters = record {
  names_rise = rise;
  process = p;
  is_process = is;
  stands = stands;
  has_each = names_among (parameter_names p) (names_of n.arguments) each;
  has_no_other = names_among (names_of n.arguments) (parameter_names p) no_other;
  names_nodes = nodes;
  names_parameters = parameters;
}

-- the row of a process
abbrev pub row_of : List ℕ → Process
row_of name = unwrap_or (process_named name) (process_from [] false [] [])

-- a graph object within another is resolved, where that one is and the callbacks of its nodes are
pub within_resolved : (in_callback : Bool) (scope : List (List ℕ)) (nodes : Nodes) (result : ℕ)
    (outer_in_callback : Bool) (outer_scope : List (List ℕ)) (outer : Nodes) (outer_result : ℕ)
    → IsScopedWithin in_callback scope nodes result outer_in_callback outer_scope outer outer_result
    → IsResolvedObject outer_in_callback outer_scope outer outer_result
    → ((n : PlainNode) (g : PlainGraph) → Contains (each_node outer) n → Contains (callbacks_named n.arguments) g
    → IsResolvedUnder true (scope_inside n outer_scope) g)
    → IsResolvedObject in_callback scope nodes result
within_resolved in_callback scope nodes result outer_in_callback outer_scope outer outer_result itself is callbacks = is
within_resolved in_callback scope nodes result outer_in_callback outer_scope outer outer_result (inside {n = n} {g = g} has calls deeper) is callbacks =
    callbacks n g has calls in_callback scope nodes result deeper

-- one without callbacks
alone : (scope : List (List ℕ)) (g : PlainGraph) → IsResolvedObject true scope g.nodes g.result
    → ((n : PlainNode) → Contains (each_node g.nodes) n → callbacks_named n.arguments ≡ []) → IsResolvedUnder true scope g
alone scope g is none in_callback inner_scope nodes result within =
    within_resolved in_callback inner_scope nodes result true scope g.nodes g.result within is
    (λ n inner has calls. absurd (none_there inner (subst (λ gs. Contains gs inner) (none n has) calls)))

-- ---- `sum` of the list

module _ (ignore : Bool) where
  abbrev sum_node : PlainNode
  sum_node = record {
    id = codes "sum";
    process_id = codes "sum";
    namespace = None;
    arguments = tree.named (codes "data") (tree.from_parameter (codes "data"))
        (tree.named (codes "ignore_nodata") (tree.flag ignore) tree.no_named);
  }

  the_sum : (n : PlainNode) → Contains (each_node (sum_graph ignore).nodes) n → sum_node ≡ n
  the_sum n has = elim (there_cases sum_node [] n has) as (λ _. sum_node ≡ n) [ inl is ↦ is | inr none ↦ absurd (none_there n none) ]

  sum_refers : (a b : List ℕ) → Refers (sum_graph ignore).nodes a b → ⊥
  sum_refers a b r = none_there b (subst (λ (n : PlainNode). Contains (references_named n.arguments) b) (sym (the_sum r.from r.is_node)) r.refers)

  sum_leads : (a b : List ℕ) → Leads (sum_graph ignore).nodes a b → ⊥
  sum_leads a b (refers r) = sum_refers a b r
  sum_leads a b (onwards {b = next} r rest) = sum_refers a next r

  pub sum_resolved : (names : List (List ℕ)) → list_any (same_name (codes "data")) names ≡ true → IsResolvedUnder true names (sum_graph ignore)
  sum_resolved names sees =
      let one : IsResolvedNode true names (codes "sum" ∷ []) sum_node =
      resolved_node true names (codes "sum" ∷ []) sum_node (row_of (codes "sum")) refl refl refl refl refl
      (λ id has. absurd (none_there id has))
      (λ name has. elim (there_cases (codes "data") [] name has) as (λ _. Contains names name) [
        | inl is ↦ subst (Contains names) is (name_among (codes "data") names sees)
        | inr none ↦ absurd (none_there name none)
      ]) in
      alone names (sum_graph ignore)
      (record {
        ids_rise = refl;
        has_result = omega arith;
        fits = omega arith;
        each = λ n has. subst (IsResolvedNode true names (codes "sum" ∷ [])) (the_sum n has) one;
        acyclic = λ id leads. sum_leads id id leads;
      })
      (λ n has. subst (λ (m : PlainNode). callbacks_named m.arguments ≡ []) (the_sum n has) refl)

  -- on numbers it has no fault
  sum_has_none : (labels : PlainLabels) (lists : List ListPart)
      → own_fault (scope.reduce Numbers labels lists) Empty (sum_graph ignore).nodes sum_node ≡ None
  sum_has_none labels lists = refl

  pub sum_faultless : (labels : PlainLabels) (lists : List ListPart)
      → IsFaultlessCallback (callback_of (sum_graph ignore) (scope.reduce Numbers labels lists) Empty)
  sum_faultless labels lists path code name s =
      let at = s.at in
      let is : sum_node ≡ at.node = the_sum at.node (node_is (sum_graph ignore).nodes s.id at.node at.is_node).0 in
      let none : own_fault (scope.reduce Numbers labels lists) Empty (sum_graph ignore).nodes at.node ≡ None =
      subst (λ (n : PlainNode). own_fault (scope.reduce Numbers labels lists) Empty (sum_graph ignore).nodes n ≡ None) is (sum_has_none labels lists) in
      not_both (own_fault (scope.reduce Numbers labels lists) Empty (sum_graph ignore).nodes at.node) code none at.first
    where
      not_both : (o : Option Code) (code : Code) → o ≡ None → o ≡ Some code → ⊥
      not_both o code e f = absurd cc

-- ---- `add(x, multiply(y, 0))`

either_node : (n : PlainNode) → Contains (each_node merge_graph.nodes) n → (add_node ≡ n) ⊎ (multiply_node ≡ n)
either_node n has =
    elim (there_cases add_node (multiply_node ∷ []) n has) as (λ _. (add_node ≡ n) ⊎ (multiply_node ≡ n)) [
      | inl is ↦ inl is
      | inr later ↦ elim (there_cases multiply_node [] n later) as (λ _. (add_node ≡ n) ⊎ (multiply_node ≡ n)) [
        | inl is ↦ inr is
        | inr none ↦ absurd (none_there n none)
      ]
    ]

-- what holds of both nodes holds of each
of_each : (P : PlainNode → Type 0) → P add_node → P multiply_node → (n : PlainNode) → Contains (each_node merge_graph.nodes) n → P n
of_each P one two n has =
    elim (either_node n has) as (λ _. P n) [ inl is ↦ subst P is one | inr is ↦ subst P is two ]

-- only `add` refers, to `multiply`
abbrev FromAdd : PlainNode → Type 0
FromAdd n = (b : List ℕ) → Contains (references_named n.arguments) b → (n.id ≡ codes "add") × (codes "multiply" ≡ b)

from_add : (n : PlainNode) → Contains (each_node merge_graph.nodes) n → FromAdd n
from_add = of_each FromAdd
    (λ b has. elim (there_cases (codes "multiply") [] b has) as (λ _. (codes "add" ≡ codes "add") × (codes "multiply" ≡ b)) [
      | inl is ↦ (refl, is)
      | inr none ↦ absurd (none_there b none)
    ])
    (λ b has. absurd (none_there b has))

other_names : codes "add" ≡ codes "multiply" → ⊥
other_names is =
    let same : same_name (codes "add") (codes "multiply") ≡ true = subst (λ x. same_name (codes "add") x ≡ true) is refl in
    true≢false (sym same)

merge_refers_to : (a b : List ℕ) → Refers merge_graph.nodes a b → (a ≡ codes "add") × (codes "multiply" ≡ b)
merge_refers_to a b r = let is = from_add r.from r.is_node b r.refers in (sym r.is_named ∙ is.0, is.1)

first_is_add : (a b : List ℕ) → Leads merge_graph.nodes a b → a ≡ codes "add"
first_is_add a b (refers r) = (merge_refers_to a b r).0
first_is_add a b (onwards {b = next} r rest) = (merge_refers_to a next r).0

merge_acyclic : (id : List ℕ) → Leads merge_graph.nodes id id → ⊥
merge_acyclic id (refers r) = let is = merge_refers_to id id r in other_names (sym is.0 ∙ sym is.1)
merge_acyclic id (onwards {b = next} r rest) =
    let is = merge_refers_to id next r in other_names (sym (first_is_add next id rest) ∙ sym is.1)

pub merge_resolved : (names : List (List ℕ)) → list_any (same_name (codes "x")) names ≡ true → list_any (same_name (codes "y")) names ≡ true
    → IsResolvedUnder true names merge_graph
merge_resolved names sees_x sees_y =
    let ids : List (List ℕ) = codes "add" ∷ codes "multiply" ∷ [] in
    let one : IsResolvedNode true names ids add_node =
    resolved_node true names ids add_node (row_of (codes "add")) refl refl refl refl refl
    (λ id has. elim (there_cases (codes "multiply") [] id has) as (λ _. Contains ids id) [
      | inl is ↦ later_there (codes "add") (codes "multiply" ∷ []) id (in_first (codes "multiply") [] id is)
      | inr none ↦ absurd (none_there id none)
    ])
    (λ name has. elim (there_cases (codes "x") [] name has) as (λ _. Contains names name) [
      | inl is ↦ subst (Contains names) is (name_among (codes "x") names sees_x)
      | inr none ↦ absurd (none_there name none)
    ]) in
    let two : IsResolvedNode true names ids multiply_node =
    resolved_node true names ids multiply_node (row_of (codes "multiply")) refl refl refl refl refl
    (λ id has. absurd (none_there id has))
    (λ name has. elim (there_cases (codes "y") [] name has) as (λ _. Contains names name) [
      | inl is ↦ subst (Contains names) is (name_among (codes "y") names sees_y)
      | inr none ↦ absurd (none_there name none)
    ]) in
    alone names merge_graph
    (record {
      ids_rise = refl;
      has_result = omega arith;
      fits = omega arith;
      each = of_each (IsResolvedNode true names ids) one two;
      acyclic = merge_acyclic;
    })
    (of_each (λ (n : PlainNode). callbacks_named n.arguments ≡ []) refl refl)

-- on numbers neither has a fault, and numbers come of them
add_has_none : own_fault (scope.merge Numbers) Empty merge_graph.nodes add_node ≡ None
unfolding down_from
add_has_none = refl

multiply_has_none : own_fault (scope.merge Numbers) Empty merge_graph.nodes multiply_node ≡ None
multiply_has_none = refl

pub merge_faultless : IsFaultlessCallback (callback_of merge_graph (scope.merge Numbers) Empty)
merge_faultless path code name s =
    let at = s.at in
    let none : own_fault (scope.merge Numbers) Empty merge_graph.nodes at.node ≡ None =
    of_each (λ (n : PlainNode). own_fault (scope.merge Numbers) Empty merge_graph.nodes n ≡ None) add_has_none multiply_has_none
    at.node (node_is merge_graph.nodes s.id at.node at.is_node).0 in
    not_both (own_fault (scope.merge Numbers) Empty merge_graph.nodes at.node) code none at.first
  where
    not_both : (o : Option Code) (code : Code) → o ≡ None → o ≡ Some code → ⊥
    not_both o code e f = absurd cc

pub merge_gives_numbers : callback_kind (callback_of merge_graph (scope.merge Numbers) Empty) ≡ Numbers
unfolding down_from
merge_gives_numbers = refl
