-- Each round keeps the order of a graph: at any depth of its callbacks ids and names rise, the result is the index of a
-- node, and no id is another one followed by `/`.
use Rattle.std.proofs.Common.{◌≡◌, ◌⊎◌, inl, inr, ℕ, suc, ◌<◌, ◌&&◌, cond, unwrap_or, nat_le, Bool, true, false, if◌then◌else◌, List, [], ◌∷◌, ◌++◌, length, Contains, Option, Some, None, is_some, refl, sym, ap, ◌∙◌, subst, true≢false, arith}
use Rattle.std.specs.List.{list_all, list_any}
use Rattle.std.specs.Option.{option_or}
use Rattle.std.proofs.lemmas.Bool.{and_parts}
use Rattle.std.proofs.lemmas.List.Elements.{Contains-append_left, Contains-append_right, Contains-append_cases}
use Rattle.std.proofs.lemmas.Bool.Decides.{nat_tests}
use Rattle.oe_dims.specs.Names.{same_name, is_name, is_name_byte, is_name_before, names_rise}
use Rattle.oe_graph.specs.Printed.{ids_of, names_of, node_count}
use Rattle.oe_graph.specs.References.{each_node, argument_named, callbacks_in, callbacks_each, callbacks_named}
use Rattle.oe_graph.specs.Resolved.{IsScopedWithin, itself, inside}
use Rattle.oe_graph.specs.Tree.{Argument, null, flag, whole, inexact, text, list, object, from_node, from_parameter, callback, ListValues, no_arguments, argument, Named, no_named, named, Nodes, no_nodes, node, PlainGraph, PlainNode, PlainParameter, PlainStored}
use Rattle.oe_calls.specs.Calls.{means_stored, stored_named, callee, callback_parameters, HoldsNode, by_callback}
use Rattle.oe_calls.specs.Calls as calls
use Rattle.oe_calls.specs.Renamed.{dangling, renamed, renamed_each, renamed_named, renamed_nodes}
use Rattle.oe_calls.specs.Substituted as substituted
use Rattle.oe_calls.specs.Substituted.{default_of, value_before, values_given, without_names}
use Rattle.oe_calls.specs.Rounds as rounds
use Rattle.oe_calls.specs.Rounds.{cleared, cleared_each, cleared_named, cleared_nodes, cleared_graph, cleared_stored, under_id, put_node, put_nodes, opened, round}
use Rattle.oe_graph.specs.Valid.{is_valid, are_valid, are_valid_named, are_valid_nodes, IsValidGraph, is_plain, are_plain, are_plain_named, IsValidStored}
use Rattle.oe_calls.proofs.Along.{there_cases, none_there, in_first, later_there}
use Rattle.oe_calls.proofs.PlaceLemmas.{Place, places_of, places_of-cleared, places_of-substituted}
use Rattle.oe_calls.proofs.IdLemmas.{HasNoSlash, HasNames, InOrder, round_in_order}

-- ids and names rise, and the result is the index of a node
pub record IsOrderedObject (nodes : Nodes) (result : ℕ) : Type 0 where
  pub ids_rise : names_rise (ids_of nodes) ≡ true
  pub has_result : result < node_count nodes
  pub names_rise : (n : PlainNode) → Contains (each_node nodes) n → names_rise (names_of n.arguments) ≡ true

-- what holds of each graph object of a graph
abbrev pub EachObject : (Bool → Nodes → ℕ → Type 0) → PlainGraph → Type 0
EachObject holds g =
    (in_callback : Bool) (scope : List (List ℕ)) (nodes : Nodes) (result : ℕ)
    → IsScopedWithin in_callback scope nodes result false [] g.nodes g.result → holds in_callback nodes result

-- ---- changes that keep ids and names

same_order : (ns ms : Nodes) (result : ℕ) → ids_of ms ≡ ids_of ns → node_count ms ≡ node_count ns → InOrder ns result
    → InOrder ms result
same_order ns ms result ids count order = record {
  rise = ap names_rise ids ∙ order.rise;
  full = λ has. order.full (subst (λ xs. Contains xs []) ids has);
  apart = λ a b rest has_a has_b is.
      order.apart a b rest (subst (λ xs. Contains xs a) ids has_a) (subst (λ xs. Contains xs b) ids has_b) is;
  has_result = subst (λ k. result < k) (sym count) order.has_result;
}

cleared_ids : (ids : List (List ℕ)) (ns : Nodes) → ids_of (cleared_nodes ids ns) ≡ ids_of ns
cleared_ids ids no_nodes = refl
cleared_ids ids (node id p s args rest) = ap (λ xs. id ∷ xs) (cleared_ids ids rest)

cleared_count : (ids : List (List ℕ)) (ns : Nodes) → node_count (cleared_nodes ids ns) ≡ node_count ns
cleared_count ids no_nodes = refl
cleared_count ids (node id p s args rest) = ap suc (cleared_count ids rest)

cleared_names : (ids : List (List ℕ)) (ms : Named) → names_of (cleared_named ids ms) ≡ names_of ms
cleared_names ids no_named = refl
cleared_names ids (named k a rest) = ap (λ xs. k ∷ xs) (cleared_names ids rest)

substituted_ids : (stored : List PlainStored) (values : Named) (ns : Nodes) → ids_of (substituted.substituted_nodes stored values ns) ≡ ids_of ns
substituted_ids stored values no_nodes = refl
substituted_ids stored values (node id p s args rest) = ap (λ xs. id ∷ xs) (substituted_ids stored values rest)

substituted_count : (stored : List PlainStored) (values : Named) (ns : Nodes)
    → node_count (substituted.substituted_nodes stored values ns) ≡ node_count ns
substituted_count stored values no_nodes = refl
substituted_count stored values (node id p s args rest) = ap suc (substituted_count stored values rest)

substituted_names : (stored : List PlainStored) (own : List (List ℕ)) (values : Named) (ms : Named)
    → names_of (substituted.substituted_named stored own values ms) ≡ names_of ms
substituted_names stored own values no_named = refl
substituted_names stored own values (named k a rest) = ap (λ xs. k ∷ xs) (substituted_names stored own values rest)

renamed_names : (rename : List ℕ → List ℕ) (ms : Named) → names_of (renamed_named rename ms) ≡ names_of ms
renamed_names rename no_named = refl
renamed_names rename (named k a rest) = ap (λ xs. k ∷ xs) (renamed_names rename rest)

-- ---- order at any depth

-- of each node holds something, by where it stands and what it calls, and of the nodes of each callback together
module _ (Holding : Bool → Option (List ℕ) → List ℕ → Type 0) (Forming : List Place → Type 0) where
  abbrev mutual
    pub Ordered : Argument → Type 0
    Ordered null = Unit {0}
    Ordered (flag b) = Unit {0}
    Ordered (whole z) = Unit {0}
    Ordered inexact = Unit {0}
    Ordered (text s) = Unit {0}
    Ordered (list rest) = OrderedEach rest
    Ordered (object ms) = OrderedNamed ms
    Ordered (from_node id) = Unit {0}
    Ordered (from_parameter name) = Unit {0}
    Ordered (callback ns result) = (InOrder ns result × Forming (places_of ns)) × OrderedNodes true ns

    pub OrderedEach : ListValues → Type 0
    OrderedEach no_arguments = Unit {0}
    OrderedEach (argument a rest) = Ordered a × OrderedEach rest

    pub OrderedNamed : Named → Type 0
    OrderedNamed no_named = Unit {0}
    OrderedNamed (named name a rest) = Ordered a × OrderedNamed rest

    pub OrderedNodes : Bool → Nodes → Type 0
    OrderedNodes in_callback no_nodes = Unit {0}
    OrderedNodes in_callback (node id p s args rest) =
        (names_rise (names_of args) ≡ true) × OrderedNamed args × Holding in_callback s p × OrderedNodes in_callback rest

  -- a graph in order, or a callback
  abbrev pub IsInOrder : Bool → PlainGraph → Type 0
  IsInOrder in_callback g = InOrder g.nodes g.result × OrderedNodes in_callback g.nodes

  abbrev IsCallbackInOrder : PlainGraph → Type 0
  IsCallbackInOrder g = (InOrder g.nodes g.result × Forming (places_of g.nodes)) × OrderedNodes true g.nodes

  -- ---- each graph object of a graph in order

  mutual
    ordered_callback : (a : Argument) (g : PlainGraph) → Ordered a → Contains (callbacks_in a) g → IsCallbackInOrder g
    ordered_callback null g is has = absurd (none_there g has)
    ordered_callback (flag b) g is has = absurd (none_there g has)
    ordered_callback (whole z) g is has = absurd (none_there g has)
    ordered_callback inexact g is has = absurd (none_there g has)
    ordered_callback (text s) g is has = absurd (none_there g has)
    ordered_callback (list rest) g is has = ordered_callback_each rest g is has
    ordered_callback (object ms) g is has = ordered_callback_named ms g is has
    ordered_callback (from_node id) g is has = absurd (none_there g has)
    ordered_callback (from_parameter name) g is has = absurd (none_there g has)
    ordered_callback (callback ns result) g is has =
        elim (there_cases (record { nodes = ns; result = result }) [] g has) as (λ _. IsCallbackInOrder g) [
          | inl same ↦ subst IsCallbackInOrder same is
          | inr there ↦ absurd (none_there g there)
        ]

    ordered_callback_each : (rest : ListValues) (g : PlainGraph) → OrderedEach rest → Contains (callbacks_each rest) g → IsCallbackInOrder g
    ordered_callback_each no_arguments g is has = absurd (none_there g has)
    ordered_callback_each (argument a rest) g is has =
        elim (Contains-append_cases (callbacks_in a) (callbacks_each rest) g has) as (λ _. IsCallbackInOrder g) [
          | inl here ↦ ordered_callback a g is.0 here
          | inr there ↦ ordered_callback_each rest g is.1 there
        ]

    ordered_callback_named : (ms : Named) (g : PlainGraph) → OrderedNamed ms → Contains (callbacks_named ms) g → IsCallbackInOrder g
    ordered_callback_named no_named g is has = absurd (none_there g has)
    ordered_callback_named (named k a rest) g is has =
        elim (Contains-append_cases (callbacks_in a) (callbacks_named rest) g has) as (λ _. IsCallbackInOrder g) [
          | inl here ↦ ordered_callback a g is.0 here
          | inr there ↦ ordered_callback_named rest g is.1 there
        ]

  -- a node in order
  abbrev OrderedNode : Bool → PlainNode → Type 0
  OrderedNode in_callback n =
      (names_rise (names_of n.arguments) ≡ true) × OrderedNamed n.arguments × Holding in_callback n.namespace n.process_id

  ordered_node : (in_callback : Bool) (ns : Nodes) (n : PlainNode) → OrderedNodes in_callback ns → Contains (each_node ns) n
      → OrderedNode in_callback n
  ordered_node in_callback no_nodes n is has = absurd (none_there n has)
  ordered_node in_callback (node id p s args rest) n is has =
      let first : PlainNode = record { id = id; process_id = p; namespace = s; arguments = args } in
      elim (there_cases first (each_node rest) n has) as (λ _. OrderedNode in_callback n) [
        | inl same ↦ subst (OrderedNode in_callback) same (is.0, is.1, is.2)
        | inr there ↦ ordered_node in_callback rest n is.3 there
      ]

  pub ordered_within : (in_callback : Bool) (scope : List (List ℕ)) (nodes : Nodes) (result : ℕ)
      (outer_in_callback : Bool) (outer_scope : List (List ℕ)) (outer : Nodes) (outer_result : ℕ)
      → IsScopedWithin in_callback scope nodes result outer_in_callback outer_scope outer outer_result
      → InOrder outer outer_result → OrderedNodes outer_in_callback outer → InOrder nodes result × OrderedNodes in_callback nodes
  ordered_within in_callback scope nodes result outer_in_callback outer_scope outer outer_result itself order each = (order, each)
  ordered_within in_callback scope nodes result outer_in_callback outer_scope outer outer_result (inside {n = n} {g = g} has calls within) order each =
      let inner = ordered_callback_named n.arguments g (ordered_node outer_in_callback outer n each has).1 calls in
      ordered_within in_callback scope nodes result true _ g.nodes g.result within inner.0.0 inner.1

  -- a graph object within one is that one, or a callback
  formed_within : (in_callback : Bool) (scope : List (List ℕ)) (nodes : Nodes) (result : ℕ)
      (outer_in_callback : Bool) (outer_scope : List (List ℕ)) (outer : Nodes) (outer_result : ℕ)
      → IsScopedWithin in_callback scope nodes result outer_in_callback outer_scope outer outer_result
      → OrderedNodes outer_in_callback outer
      → ((nodes ≡ outer) × (in_callback ≡ outer_in_callback)) ⊎ (Forming (places_of nodes) × (in_callback ≡ true))
  formed_within in_callback scope nodes result outer_in_callback outer_scope outer outer_result itself each = inl (refl, refl)
  formed_within in_callback scope nodes result outer_in_callback outer_scope outer outer_result (inside {n = n} {g = g} has calls within) each =
      let inner = ordered_callback_named n.arguments g (ordered_node outer_in_callback outer n each has).1 calls in
      elim (formed_within in_callback scope nodes result true _ g.nodes g.result within inner.1)
      as (λ _. ((nodes ≡ outer) × (in_callback ≡ outer_in_callback)) ⊎ (Forming (places_of nodes) × (in_callback ≡ true))) [
        | inl one ↦ inr (subst (λ ns. Forming (places_of ns)) (sym one.0) inner.0.1, one.1)
        | inr formed ↦ inr formed
      ]

  pub each_formed : (g : PlainGraph) → IsInOrder false g
      → EachObject (λ in_callback nodes result.
      ((nodes ≡ g.nodes) × (in_callback ≡ false)) ⊎ (Forming (places_of nodes) × (in_callback ≡ true))) g
  each_formed g is in_callback scope nodes result within =
      formed_within in_callback scope nodes result false [] g.nodes g.result within is.1

  -- each graph object is in order, and of each of its nodes holds what holds of all
  pub each_ordered : (g : PlainGraph) → IsInOrder false g → EachObject (λ in_callback nodes result. IsOrderedObject nodes result) g
  each_ordered g is in_callback scope nodes result within =
      let object = ordered_within in_callback scope nodes result false [] g.nodes g.result within is.0 is.1 in
      record {
        ids_rise = object.0.rise;
        has_result = object.0.has_result;
        names_rise = λ n has. (ordered_node in_callback nodes n object.1 has).0;
      }

  pub each_holding : (g : PlainGraph) → IsInOrder false g
      → EachObject (λ in_callback nodes result. (n : PlainNode) → Contains (each_node nodes) n → Holding in_callback n.namespace n.process_id) g
  each_holding g is in_callback scope nodes result within n has =
      let object = ordered_within in_callback scope nodes result false [] g.nodes g.result within is.0 is.1 in
      (ordered_node in_callback nodes n object.1 has).2

  -- ---- order is kept by a change that keeps ids

  -- dangling references cleared

  mutual
    cleared_ordered : (ids : List (List ℕ)) (a : Argument) → Ordered a → Ordered (cleared ids a)
    cleared_ordered ids null is = tt
    cleared_ordered ids (flag b) is = tt
    cleared_ordered ids (whole z) is = tt
    cleared_ordered ids inexact is = tt
    cleared_ordered ids (text s) is = tt
    cleared_ordered ids (list rest) is = cleared_ordered_each ids rest is
    cleared_ordered ids (object ms) is = cleared_ordered_named ids ms is
    cleared_ordered ids (from_node id) is = tt
    cleared_ordered ids (from_parameter name) is = tt
    cleared_ordered ids (callback ns result) is = (
      (
        same_order ns (cleared_nodes (ids_of ns) ns) result (cleared_ids (ids_of ns) ns) (cleared_count (ids_of ns) ns) is.0.0,
        subst Forming (sym (places_of-cleared (ids_of ns) ns)) is.0.1,
      ),
      cleared_ordered_nodes true (ids_of ns) ns is.1,
    )

    cleared_ordered_each : (ids : List (List ℕ)) (rest : ListValues) → OrderedEach rest → OrderedEach (cleared_each ids rest)
    cleared_ordered_each ids no_arguments is = tt
    cleared_ordered_each ids (argument a rest) is = (cleared_ordered ids a is.0, cleared_ordered_each ids rest is.1)

    cleared_ordered_named : (ids : List (List ℕ)) (ms : Named) → OrderedNamed ms → OrderedNamed (cleared_named ids ms)
    cleared_ordered_named ids no_named is = tt
    cleared_ordered_named ids (named k a rest) is = (cleared_ordered ids a is.0, cleared_ordered_named ids rest is.1)

    cleared_ordered_nodes : (in_callback : Bool) (ids : List (List ℕ)) (ns : Nodes)
        → OrderedNodes in_callback ns → OrderedNodes in_callback (cleared_nodes ids ns)
    cleared_ordered_nodes in_callback ids no_nodes is = tt
    cleared_ordered_nodes in_callback ids (node id p s args rest) is = (
      ap names_rise (cleared_names ids args) ∙ is.0,
      cleared_ordered_named ids args is.1,
      is.2,
      cleared_ordered_nodes in_callback ids rest is.3,
    )

  -- values with other references
  mutual
    renamed_ordered : (rename : List ℕ → List ℕ) (a : Argument) → Ordered a → Ordered (renamed rename a)
    renamed_ordered rename null is = tt
    renamed_ordered rename (flag b) is = tt
    renamed_ordered rename (whole z) is = tt
    renamed_ordered rename inexact is = tt
    renamed_ordered rename (text s) is = tt
    renamed_ordered rename (list rest) is = renamed_ordered_each rename rest is
    renamed_ordered rename (object ms) is = renamed_ordered_named rename ms is
    renamed_ordered rename (from_node id) is = tt
    renamed_ordered rename (from_parameter name) is = tt
    renamed_ordered rename (callback ns result) is = is

    renamed_ordered_each : (rename : List ℕ → List ℕ) (rest : ListValues) → OrderedEach rest → OrderedEach (renamed_each rename rest)
    renamed_ordered_each rename no_arguments is = tt
    renamed_ordered_each rename (argument a rest) is = (renamed_ordered rename a is.0, renamed_ordered_each rename rest is.1)

    renamed_ordered_named : (rename : List ℕ → List ℕ) (ms : Named) → OrderedNamed ms → OrderedNamed (renamed_named rename ms)
    renamed_ordered_named rename no_named is = tt
    renamed_ordered_named rename (named k a rest) is = (renamed_ordered rename a is.0, renamed_ordered_named rename rest is.1)

  without_if : (hidden : Bool) (k : List ℕ) (a : Argument) (rest : Named) → Ordered a → OrderedNamed rest
      → OrderedNamed (if hidden then rest else named k a rest)
  without_if true k a rest is later = later
  without_if false k a rest is later = (is, later)

  without_ordered : (names : List (List ℕ)) (ms : Named) → OrderedNamed ms → OrderedNamed (without_names names ms)
  without_ordered names no_named is = tt
  without_ordered names (named k a rest) is =
      without_if (list_any (same_name k) names) k a (without_names names rest) is.0 (without_ordered names rest is.1)

  -- values substituted for parameters
  value_if : (same : Bool) (a b : Argument) (found : Option Argument) → Ordered a
      → (found ≡ Some b → Ordered b) → (if same then Some a else found) ≡ Some b → Ordered b
  value_if true a b found is later there = let same : a ≡ b = cc in subst Ordered same is
  value_if false a b found is later there = later there

  value_ordered : (name : List ℕ) (ms : Named) (b : Argument) → OrderedNamed ms → argument_named name ms ≡ Some b → Ordered b
  value_ordered name no_named b is there = absurd cc
  value_ordered name (named k a rest) b is there =
      value_if (same_name k name) a b (argument_named name rest) is.0 (value_ordered name rest b is.1) there

  unwrap_ordered : (o : Option Argument) (name : List ℕ) → ((b : Argument) → o ≡ Some b → Ordered b)
      → Ordered (unwrap_or o (from_parameter name))
  unwrap_ordered None name each = tt
  unwrap_ordered (Some b) name each = each b refl

  mutual
    substituted_ordered : (stored : List PlainStored) (own : List (List ℕ)) (values : Named) (a : Argument)
        → OrderedNamed values → Ordered a → Ordered (substituted.substituted stored own values a)
    substituted_ordered stored own values null v is = tt
    substituted_ordered stored own values (flag b) v is = tt
    substituted_ordered stored own values (whole z) v is = tt
    substituted_ordered stored own values inexact v is = tt
    substituted_ordered stored own values (text s) v is = tt
    substituted_ordered stored own values (list rest) v is = substituted_ordered_each stored own values rest v is
    substituted_ordered stored own values (object ms) v is = substituted_ordered_named stored own values ms v is
    substituted_ordered stored own values (from_node id) v is = tt
    substituted_ordered stored own values (from_parameter name) v is =
        unwrap_ordered (argument_named name values) name (λ b there. value_ordered name values b v there)
    substituted_ordered stored own values (callback ns result) v is =
        let seen = substituted.inside own values in (
          (
            same_order ns (substituted.substituted_nodes stored seen ns) result (substituted_ids stored seen ns) (substituted_count stored seen ns) is.0.0,
            subst Forming (sym (places_of-substituted stored seen ns)) is.0.1,
          ),
          substituted_ordered_nodes true stored seen ns (renamed_ordered_named dangling (without_names own values) (without_ordered own values v)) is.1,
        )

    substituted_ordered_each : (stored : List PlainStored) (own : List (List ℕ)) (values : Named) (rest : ListValues)
        → OrderedNamed values → OrderedEach rest → OrderedEach (substituted.substituted_each stored own values rest)
    substituted_ordered_each stored own values no_arguments v is = tt
    substituted_ordered_each stored own values (argument a rest) v is =
        (substituted_ordered stored own values a v is.0, substituted_ordered_each stored own values rest v is.1)

    substituted_ordered_named : (stored : List PlainStored) (own : List (List ℕ)) (values : Named) (ms : Named)
        → OrderedNamed values → OrderedNamed ms → OrderedNamed (substituted.substituted_named stored own values ms)
    substituted_ordered_named stored own values no_named v is = tt
    substituted_ordered_named stored own values (named k a rest) v is =
        (substituted_ordered stored own values a v is.0, substituted_ordered_named stored own values rest v is.1)

    substituted_ordered_nodes : (in_callback : Bool) (stored : List PlainStored) (values : Named) (ns : Nodes)
        → OrderedNamed values → OrderedNodes in_callback ns → OrderedNodes in_callback (substituted.substituted_nodes stored values ns)
    substituted_ordered_nodes in_callback stored values no_nodes v is = tt
    substituted_ordered_nodes in_callback stored values (node id p s args rest) v is = (
      ap names_rise (substituted_names stored (callback_parameters stored s p) values args) ∙ is.0,
      substituted_ordered_named stored (callback_parameters stored s p) values args v is.1,
      is.2,
      substituted_ordered_nodes in_callback stored values rest v is.3,
    )

  -- nodes under a call
  under_ordered_nodes : (in_callback : Bool) (call : List ℕ) (ns : Nodes) → OrderedNodes in_callback ns
      → OrderedNodes in_callback (renamed_nodes (under_id call) ns)
  under_ordered_nodes in_callback call no_nodes is = tt
  under_ordered_nodes in_callback call (node id p s args rest) is = (
    ap names_rise (renamed_names (under_id call) args) ∙ is.0,
    renamed_ordered_named (under_id call) args is.1,
    is.2,
    under_ordered_nodes in_callback call rest is.3,
  )

  -- nodes put at their indices
  put_if : (in_callback before : Bool) (n m : PlainNode) (put rest : Nodes)
      → OrderedNode in_callback n → OrderedNode in_callback m → OrderedNodes in_callback rest → OrderedNodes in_callback put
      → OrderedNodes in_callback (if before then node m.id m.process_id m.namespace m.arguments put
      else node n.id n.process_id n.namespace n.arguments (node m.id m.process_id m.namespace m.arguments rest))
  put_if in_callback true n m put rest is is_m each later = (is_m.0, is_m.1, is_m.2, later)
  put_if in_callback false n m put rest is is_m each later = (is.0, is.1, is.2, (is_m.0, is_m.1, is_m.2, each))

  put_ordered : (in_callback : Bool) (n : PlainNode) (found : Nodes) → OrderedNode in_callback n
      → OrderedNodes in_callback found → OrderedNodes in_callback (put_node n found)
  put_ordered in_callback n no_nodes is each = (is.0, is.1, is.2, tt)
  put_ordered in_callback n (node id p s args rest) is each =
      put_if in_callback (is_name_before id n.id) n (record { id = id; process_id = p; namespace = s; arguments = args })
      (put_node n rest) rest is (each.0, each.1, each.2) each.3 (put_ordered in_callback n rest is each.3)

  puts_ordered : (in_callback : Bool) (more found : Nodes) → OrderedNodes in_callback more → OrderedNodes in_callback found
      → OrderedNodes in_callback (put_nodes more found)
  puts_ordered in_callback no_nodes found is each = each
  puts_ordered in_callback (node id p s args rest) found is each =
      let n : PlainNode = record { id = id; process_id = p; namespace = s; arguments = args } in
      puts_ordered in_callback rest (put_node n found) is.3 (put_ordered in_callback n found (is.0, is.1, is.2) each)

  -- ---- values that are given

  -- a stored process in order where it is called: its nodes are, and its defaults
  pub record IsStoredInOrder (in_callback : Bool) (s : PlainStored) : Type 0 where
    pub nodes : OrderedNodes in_callback s.graph.nodes
    pub defaults : (p : PlainParameter) (a : Argument) → Contains s.parameters p → p.default ≡ Some a → Ordered a

  optional_ordered : (optional : Bool) (b : Argument) → (if optional then Some null else None) ≡ Some b → Ordered b
  optional_ordered true b there = let same : null ≡ b = cc in subst Ordered same tt
  optional_ordered false b there = absurd cc

  default_by : (d : Option Argument) (optional : Bool) (b : Argument) → ((a : Argument) → d ≡ Some a → Ordered a)
      → option_or d (if optional then Some null else None) ≡ Some b → Ordered b
  default_by None optional b each there = optional_ordered optional b there
  default_by (Some a) optional b each there = let same : a ≡ b = cc in subst Ordered same (each a refl)

  either_by : (given : Option Argument) (other : Option Argument) (b : Argument) → ((a : Argument) → given ≡ Some a → Ordered a)
      → (other ≡ Some b → Ordered b) → option_or given other ≡ Some b → Ordered b
  either_by None other b each later there = later there
  either_by (Some a) other b each later there = let same : a ≡ b = cc in subst Ordered same (each a refl)

  before_ordered : (name : List ℕ) (o : Option Argument) (rest : Named) → ((b : Argument) → o ≡ Some b → Ordered b) → OrderedNamed rest
      → OrderedNamed (value_before name o rest)
  before_ordered name None rest each later = later
  before_ordered name (Some a) rest each later = (each a refl, later)

  given_ordered : (ps : List PlainParameter) (arguments : Named)
      → ((p : PlainParameter) (a : Argument) → Contains ps p → p.default ≡ Some a → Ordered a)
      → OrderedNamed arguments → OrderedNamed (values_given ps arguments)
  given_ordered [] arguments defaults is = tt
  given_ordered (p ∷ ps) arguments defaults is =
      before_ordered p.name (option_or (argument_named p.name arguments) (default_of p)) (values_given ps arguments)
      (λ b there. either_by (argument_named p.name arguments) (default_of p) b
      (λ a found. value_ordered p.name arguments a is found)
      (λ by_default. default_by p.default p.optional b (λ a is_default. defaults p a (in_first p ps p refl) is_default) by_default)
      there)
      (given_ordered ps arguments (λ q a has. defaults q a (later_there p ps q has)) is)

-- ---- one round

round_names : (stored : List PlainStored) (waits : Bool) (all : Nodes) (ms : Named)
    → names_of (rounds.round_named stored waits all ms) ≡ names_of ms
round_names stored waits all no_named = refl
round_names stored waits all (named k a rest) = ap (λ xs. k ∷ xs) (round_names stored waits all rest)

-- A round keeps a graph in order, where what holds of a node holds of those that a call gives way to.
module _ (Holding : Bool → Option (List ℕ) → List ℕ → Type 0) (Forming : List Place → Type 0) (stored : List PlainStored)
    (names : (namespace : Option (List ℕ)) (p : List ℕ) (s : PlainStored) → callee stored namespace p ≡ Some s → HasNames s)
    (called : (in_callback : Bool) (namespace : Option (List ℕ)) (p : List ℕ) (s : PlainStored) → Holding in_callback namespace p
    → callee stored namespace p ≡ Some s → IsStoredInOrder Holding Forming in_callback s)
    (formed : (ns : Nodes) → Forming (places_of ns) → Forming (places_of (rounds.round_nodes stored ns ns no_nodes))) where
  opened_ordered : (in_callback : Bool) (n : PlainNode) (call : Option PlainStored) → Holding in_callback n.namespace n.process_id
      → ((s : PlainStored) → call ≡ Some s → IsStoredInOrder Holding Forming in_callback s)
      → (names_rise (names_of n.arguments) ≡ true) → OrderedNamed Holding Forming n.arguments
      → OrderedNodes Holding Forming in_callback (opened stored n call)
  opened_ordered in_callback n None holds stored_is rise is = (rise, is, holds, tt)
  opened_ordered in_callback n (Some s) holds stored_is rise is =
      let s_is = stored_is s refl in
      substituted_ordered_nodes Holding Forming in_callback stored (values_given s.parameters n.arguments) (renamed_nodes (under_id n.id) s.graph.nodes)
      (given_ordered Holding Forming s.parameters n.arguments s_is.defaults is)
      (under_ordered_nodes Holding Forming in_callback n.id s.graph.nodes s_is.nodes)

  mutual
    round_ordered_nodes : (in_callback : Bool) (all ns found : Nodes) → OrderedNodes Holding Forming in_callback ns
        → OrderedNodes Holding Forming in_callback found → OrderedNodes Holding Forming in_callback (rounds.round_nodes stored all ns found)
    round_ordered_nodes in_callback all no_nodes found is each = each
    round_ordered_nodes in_callback all (node id p s args rest) found is each =
        let waits = is_some (callee stored s p) in
        let n : PlainNode = record { id = id; process_id = p; namespace = s; arguments = rounds.round_named stored waits all args } in
        let put = opened stored n (callee stored s p) in
        round_ordered_nodes in_callback all rest (put_nodes put found) is.3
        (puts_ordered Holding Forming in_callback put found
        (opened_ordered in_callback n (callee stored s p) is.2
        (λ t calls. called in_callback s p t is.2 calls)
        (ap names_rise (round_names stored waits all args) ∙ is.0) (round_ordered_named waits all args is.1))
        each)

    round_ordered_named : (waits : Bool) (all : Nodes) (ms : Named) → OrderedNamed Holding Forming ms
        → OrderedNamed Holding Forming (rounds.round_named stored waits all ms)
    round_ordered_named waits all no_named is = tt
    round_ordered_named waits all (named k a rest) is = (round_ordered waits all a is.0, round_ordered_named waits all rest is.1)

    round_ordered : (waits : Bool) (all : Nodes) (a : Argument) → Ordered Holding Forming a
        → Ordered Holding Forming (rounds.round_argument stored waits all a)
    round_ordered waits all null is = tt
    round_ordered waits all (flag b) is = tt
    round_ordered waits all (whole z) is = tt
    round_ordered waits all inexact is = tt
    round_ordered waits all (text s) is = tt
    round_ordered waits all (list rest) is = round_ordered_each waits all rest is
    round_ordered waits all (object ms) is = round_ordered_named waits all ms is
    round_ordered waits all (from_node id) is = tt
    round_ordered waits all (from_parameter name) is = tt
    round_ordered true all (callback ns result) is = is
    round_ordered false all (callback ns result) is =
        ((round_in_order stored names ns result is.0.0, formed ns is.0.1), round_ordered_nodes true ns ns no_nodes is.1 tt)

    round_ordered_each : (waits : Bool) (all : Nodes) (rest : ListValues) → OrderedEach Holding Forming rest
        → OrderedEach Holding Forming (rounds.round_each stored waits all rest)
    round_ordered_each waits all no_arguments is = tt
    round_ordered_each waits all (argument a rest) is = (round_ordered waits all a is.0, round_ordered_each waits all rest is.1)

  pub round_is_in_order : (in_callback : Bool) (g : PlainGraph) → IsInOrder Holding Forming in_callback g
      → IsInOrder Holding Forming in_callback (round stored g)
  round_is_in_order in_callback g is =
      (round_in_order stored names g.nodes g.result is.0, round_ordered_nodes in_callback g.nodes g.nodes no_nodes is.1 tt)

-- ---- valid graphs are in order

all_inner : (test : ℕ → Bool) (a : List ℕ) (x : ℕ) (b : List ℕ) → list_all test (a ++ x ∷ b) ≡ true → test x ≡ true
all_inner test [] x b is = (and_parts (test x) (list_all test b) is).0
all_inner test (y ∷ a) x b is = all_inner test a x b (and_parts (test y) (list_all test (a ++ x ∷ b)) is).1

name_parts : (name : List ℕ) → is_name name ≡ true → (nat_le 1 (length name) ≡ true) × (list_all is_name_byte name ≡ true)
name_parts name is =
    let parts = and_parts (nat_le 1 (length name) && nat_le (length name) 64) (list_all is_name_byte name) is in
    ((and_parts (nat_le 1 (length name)) (nat_le (length name) 64) parts.0).0, parts.1)

name_no_slash : (name : List ℕ) → is_name name ≡ true → HasNoSlash name
name_no_slash name is a b same =
    true≢false (sym (all_inner is_name_byte a 47 b (subst (λ n. list_all is_name_byte n ≡ true) same (name_parts name is).1)))

name_full : (name : List ℕ) → is_name name ≡ true → name ≡ [] → ⊥
name_full name is empty = true≢false (sym (name_parts [] (subst (λ n. is_name n ≡ true) empty is)).0)

ids_are_names : (ns : Nodes) (id : List ℕ) → are_valid_nodes ns ≡ true → Contains (ids_of ns) id → is_name id ≡ true
ids_are_names no_nodes id is has = absurd (none_there id has)
ids_are_names (node other p s args rest) id is has =
    let parts = node_parts other p s args rest is in
    elim (there_cases other (ids_of rest) id has) as (λ _. is_name id ≡ true) [
      | inl same ↦ subst (λ n. is_name n ≡ true) same parts.0
      | inr there ↦ ids_are_names rest id parts.3 there
    ]
  where
    node_parts : (id p : List ℕ) (s : Option (List ℕ)) (args : Named) (rest : Nodes) → are_valid_nodes (node id p s args rest) ≡ true
        → (is_name id ≡ true) × (names_rise (names_of args) ≡ true) × (are_valid_named args ≡ true) × (are_valid_nodes rest ≡ true)
    node_parts id p s args rest is =
        let last = and_parts (is_name id && names_rise (names_of args) && are_valid_named args) (are_valid_nodes rest) is in
        let third = and_parts (is_name id && names_rise (names_of args)) (are_valid_named args) last.0 in
        let second = and_parts (is_name id) (names_rise (names_of args)) third.0 in
        (second.0, second.1, third.1, last.1)

below : (result count : ℕ) → nat_le (suc result) count ≡ true → result < count
below result count is = grind (arith, nat_tests)

valid_object : (ns : Nodes) (result : ℕ) → nat_le (suc result) (node_count ns) ≡ true → names_rise (ids_of ns) ≡ true
    → are_valid_nodes ns ≡ true → InOrder ns result
valid_object ns result has_result rise valid = record {
  rise = rise;
  full = λ has. name_full [] (ids_are_names ns [] valid has) refl;
  apart = λ a b rest has_a has_b is. name_no_slash b (ids_are_names ns b valid has_b) a rest is;
  has_result = below result (node_count ns) has_result;
}

object_parts : (ns : Nodes) (result : ℕ) → is_valid (callback ns result) ≡ true
    → (nat_le (suc result) (node_count ns) ≡ true) × (names_rise (ids_of ns) ≡ true) × (are_valid_nodes ns ≡ true)
object_parts ns result is =
    let last = and_parts (nat_le (suc result) (node_count ns) && names_rise (ids_of ns)) (are_valid_nodes ns) is in
    let first = and_parts (nat_le (suc result) (node_count ns)) (names_rise (ids_of ns)) last.0 in
    (first.0, first.1, last.1)

-- of the nodes of each of some callbacks, and of each node in them at any depth, holds something
abbrev pub HoldsInside : (Bool → Option (List ℕ) → List ℕ → Type 0) → (List Place → Type 0) → List PlainGraph → Type 0
HoldsInside Holding Forming gs =
    (g : PlainGraph) → Contains gs g
    → Forming (places_of g.nodes)
    × ((k m : PlainNode) → Contains (each_node g.nodes) k → HoldsNode k m
    → Holding true m.namespace m.process_id
    × ((h : PlainGraph) → Contains (callbacks_named m.arguments) h → Forming (places_of h.nodes)))

module _ (Holding : Bool → Option (List ℕ) → List ℕ → Type 0) (Forming : List Place → Type 0) where
  inner : (k : PlainNode)
      → ((m : PlainNode) → HoldsNode k m → Holding true m.namespace m.process_id
      × ((h : PlainGraph) → Contains (callbacks_named m.arguments) h → Forming (places_of h.nodes)))
      → HoldsInside Holding Forming (callbacks_named k.arguments)
  inner k each g has_g = ((each k calls.itself).1 g has_g, λ h m has_h holds. each m (by_callback has_g has_h holds))

  mutual
    valid_ordered : (a : Argument) → is_valid a ≡ true → HoldsInside Holding Forming (callbacks_in a) → Ordered Holding Forming a
    valid_ordered null is each = tt
    valid_ordered (flag b) is each = tt
    valid_ordered (whole z) is each = tt
    valid_ordered inexact is each = tt
    valid_ordered (text s) is each = tt
    valid_ordered (list rest) is each = valid_ordered_each rest is each
    valid_ordered (object ms) is each = valid_ordered_named ms is each
    valid_ordered (from_node id) is each = tt
    valid_ordered (from_parameter name) is each = tt
    valid_ordered (callback ns result) is each =
        let parts = object_parts ns result is in
        let g : PlainGraph = record { nodes = ns; result = result } in
        let here = in_first g [] g refl in
        let held = each g here in (
          (valid_object ns result parts.0 parts.1 parts.2, held.0),
          valid_ordered_nodes true ns parts.2 (λ k has. (held.1 k k has calls.itself).0)
              (λ k has. inner k (λ m holds. held.1 k m has holds)),
        )

    valid_ordered_each : (rest : ListValues) → are_valid rest ≡ true → HoldsInside Holding Forming (callbacks_each rest) → OrderedEach Holding Forming rest
    valid_ordered_each no_arguments is each = tt
    valid_ordered_each (argument a rest) is each =
        let parts = and_parts (is_valid a) (are_valid rest) is in (
          valid_ordered a parts.0 (λ g has. each g (Contains-append_left (callbacks_in a) (callbacks_each rest) g has)),
          valid_ordered_each rest parts.1 (λ g has. each g (Contains-append_right (callbacks_in a) (callbacks_each rest) g has)),
        )

    valid_ordered_named : (ms : Named) → are_valid_named ms ≡ true → HoldsInside Holding Forming (callbacks_named ms) → OrderedNamed Holding Forming ms
    valid_ordered_named no_named is each = tt
    valid_ordered_named (named k a rest) is each =
        let parts = and_parts (is_valid a) (are_valid_named rest) is in (
          valid_ordered a parts.0 (λ g has. each g (Contains-append_left (callbacks_in a) (callbacks_named rest) g has)),
          valid_ordered_named rest parts.1 (λ g has. each g (Contains-append_right (callbacks_in a) (callbacks_named rest) g has)),
        )

    pub valid_ordered_nodes : (in_callback : Bool) (ns : Nodes) → are_valid_nodes ns ≡ true
        → ((k : PlainNode) → Contains (each_node ns) k → Holding in_callback k.namespace k.process_id)
        → ((k : PlainNode) → Contains (each_node ns) k → HoldsInside Holding Forming (callbacks_named k.arguments))
        → OrderedNodes Holding Forming in_callback ns
    valid_ordered_nodes in_callback no_nodes is each inside_each = tt
    valid_ordered_nodes in_callback (node id p s args rest) is each inside_each =
        let last = and_parts (is_name id && names_rise (names_of args) && are_valid_named args) (are_valid_nodes rest) is in
        let third = and_parts (is_name id && names_rise (names_of args)) (are_valid_named args) last.0 in
        let second = and_parts (is_name id) (names_rise (names_of args)) third.0 in
        let n : PlainNode = record { id = id; process_id = p; namespace = s; arguments = args } in
        let here = in_first n (each_node rest) n refl in (
          second.1,
          valid_ordered_named args third.1 (inside_each n here),
          each n here,
          valid_ordered_nodes in_callback rest last.1 (λ k has. each k (later_there n (each_node rest) k has))
              (λ k has. inside_each k (later_there n (each_node rest) k has)),
        )

  mutual
    pub plain_ordered : (a : Argument) → is_plain a ≡ true → Ordered Holding Forming a
    plain_ordered null is = tt
    plain_ordered (flag b) is = tt
    plain_ordered (whole z) is = tt
    plain_ordered inexact is = tt
    plain_ordered (text s) is = tt
    plain_ordered (list rest) is = plain_ordered_each rest is
    plain_ordered (object ms) is = plain_ordered_named ms is
    plain_ordered (from_node id) is = tt
    plain_ordered (from_parameter name) is = tt
    plain_ordered (callback ns result) is = absurd (true≢false (sym is))

    plain_ordered_each : (rest : ListValues) → are_plain rest ≡ true → OrderedEach Holding Forming rest
    plain_ordered_each no_arguments is = tt
    plain_ordered_each (argument a rest) is =
        let parts = and_parts (is_plain a) (are_plain rest) is in
        (plain_ordered a parts.0, plain_ordered_each rest parts.1)

    plain_ordered_named : (ms : Named) → are_plain_named ms ≡ true → OrderedNamed Holding Forming ms
    plain_ordered_named no_named is = tt
    plain_ordered_named (named k a rest) is =
        let parts = and_parts (is_plain a) (are_plain_named rest) is in
        (plain_ordered a parts.0, plain_ordered_named rest parts.1)

  pub valid_in_order : (in_callback : Bool) (g : PlainGraph) → IsValidGraph g
      → ((k : PlainNode) → Contains (each_node g.nodes) k → Holding in_callback k.namespace k.process_id)
      → ((k : PlainNode) → Contains (each_node g.nodes) k → HoldsInside Holding Forming (callbacks_named k.arguments))
      → IsInOrder Holding Forming in_callback g
  valid_in_order in_callback g valid each inside_each =
      let parts = object_parts g.nodes g.result valid in
      (valid_object g.nodes g.result parts.0 parts.1 parts.2, valid_ordered_nodes in_callback g.nodes parts.2 each inside_each)

  pub cleared_in_order : (in_callback : Bool) (g : PlainGraph) → IsInOrder Holding Forming in_callback g
      → IsInOrder Holding Forming in_callback (cleared_graph g)
  cleared_in_order in_callback g is =
      let ids = ids_of g.nodes in (
        same_order g.nodes (cleared_nodes ids g.nodes) g.result (cleared_ids ids g.nodes) (cleared_count ids g.nodes) is.0,
        cleared_ordered_nodes Holding Forming in_callback ids g.nodes is.1,
      )

-- the ids of a stored process without dangling references
pub cleared_has_names : (s : PlainStored) → IsValidStored s → HasNames (cleared_stored s)
cleared_has_names s valid =
    let parts = object_parts s.graph.nodes s.graph.result valid.graph in
    let ids = cleared_ids (ids_of s.graph.nodes) s.graph.nodes in
    let order = same_order s.graph.nodes (cleared_graph s.graph).nodes s.graph.result ids
    (cleared_count (ids_of s.graph.nodes) s.graph.nodes) (valid_object s.graph.nodes s.graph.result parts.0 parts.1 parts.2) in
    record {
      rise = order.rise;
      full = order.full;
      plain = λ id has. name_no_slash id (ids_are_names s.graph.nodes id parts.2 (subst (λ xs. Contains xs id) ids has));
      has_result = order.has_result;
    }

found_in_if : (passes : Bool) (x y : PlainStored) (xs : List PlainStored) (rest : Option PlainStored)
    → (rest ≡ Some y → Contains xs y) → cond passes (Some x) rest ≡ Some y → Contains (x ∷ xs) y
found_in_if true x y xs rest later is = let same : x ≡ y = cc in in_first x xs y same
found_in_if false x y xs rest later is = later_there x xs y (later is)

pub found_in : (id : List ℕ) (xs : List PlainStored) (y : PlainStored) → stored_named id xs ≡ Some y → Contains xs y
found_in id [] y is = absurd cc
found_in id (x ∷ xs) y is = found_in_if (same_name x.id id) x y xs (stored_named id xs) (found_in id xs y) is

called_in : (means : Bool) (id : List ℕ) (xs : List PlainStored) (y : PlainStored)
    → (if means then stored_named id xs else None) ≡ Some y → Contains xs y
called_in true id xs y is = found_in id xs y is
called_in false id xs y is = absurd cc

-- what a node calls is one of the stored processes
pub callee_in : (stored : List PlainStored) (namespace : Option (List ℕ)) (id : List ℕ) (s : PlainStored)
    → callee stored namespace id ≡ Some s → Contains stored s
callee_in stored namespace id s is = called_in (means_stored namespace) id stored s is
