-- How much graphs hold after changes: what a round puts in place of calls, and values that stand for parameters.
use Rattle.std.proofs.Common.{◌≡◌, ◌<◌, ◌≤◌, ◌+◌, ◌||◌, ℕ, Bool, true, false, if◌then◌else◌, List, [], ◌∷◌, ◌++◌, map, length, drop, take, get_or, Option, Some, None, is_some, option_map, unwrap_or, refl, sym, ap, ◌∙◌, subst, arith}
use denote.Bor.{Bor}
use Rattle.std.specs.List.{list_any}
use Rattle.std.specs.Option.{option_or}
use Rattle.std.proofs.lemmas.List.{drop_more, take_more, map-append}
use Rattle.oe_dims.specs.Names.{same_name, is_name_before}
use Rattle.oe_graph.specs.Plain.{plain_graph, plain_named, plain_node, plain_nodes, plain_parameter, plain_stored}
use Rattle.oe_graph.specs.Printed.{ids_of}
use Rattle.oe_graph.specs.References.{argument_named}
use Rattle.oe_graph.specs.Tree.{Argument, null, flag, whole, inexact, text, list, object, from_node, from_parameter, callback, ListValues, no_arguments, argument, Named, no_named, named, Nodes, no_nodes, node, PlainGraph, PlainNode, PlainParameter, PlainStored}
use Rattle.oe_graph.specs.declared.catalogue.ParameterRow.{ParameterRow}
use Rattle.oe_graph.specs.declared.stored.StoredProcess.{StoredProcess}
use Rattle.oe_graph.specs.declared.tree.Graph.{Graph, out-Graph}
use Rattle.oe_graph.specs.declared.tree.Node.{Node}
use Rattle.oe_graph.proofs.PartLemmas.{graph_parts, node_parts}
use Rattle.oe_calls.specs.Calls.{callee, callback_parameters}
use Rattle.oe_calls.specs.Renamed.{dangling, renamed, renamed_each, renamed_named, renamed_nodes}
use Rattle.oe_calls.specs.Substituted.{default_of, value_before, values_given, inside, substituted, substituted_each, substituted_named, substituted_nodes}
use Rattle.oe_calls.specs.Rounds.{cleared, cleared_each, cleared_named, cleared_nodes, cleared_graph, under_id, put_node, put_nodes, opened, round_argument, round_each, round_named, round_nodes, round}
use Rattle.oe_calls.specs.PlainValues.{names_behind, plain_sizes}
use Rattle.oe_calls.specs.Sizes.{value_size, size_in, size_each, size_named, size_nodes, name_size, most, IsWithinLimits, round_size, given_size, given_sizes, size_or, size_for, HasSizes}
use Rattle.oe_calls.specs.declared.sizes.ParameterSize.{ParameterSize}
use Rattle.oe_calls.specs.declared.sizes.Measure.{Measure}
use Rattle.oe_calls.specs.declared.sizes.Measure.TheVariants.{Values, TextBytes, NameBytes}
use Rattle.oe_calls.proofs.BareLemmas.{bare_known, callee_none}
use Rattle.oe_calls.proofs.ValueLemmas.{argument_named-inside, any_append}

both : (a b c d : ℕ) → a ≡ b → c ≡ d → a + c ≡ b + d
both a b c d first second = omega (arith, first, second)

module _ (m : Measure) where
  -- ---- references count nothing

  mutual
    size_cleared : (ids : List (List ℕ)) (a : Argument) → size_in m (cleared ids a) ≡ size_in m a
    size_cleared ids null = refl
    size_cleared ids (flag b) = refl
    size_cleared ids (whole z) = refl
    size_cleared ids inexact = refl
    size_cleared ids (text s) = refl
    size_cleared ids (list rest) = ap (λ n. value_size m + n) (size_cleared_each ids rest)
    size_cleared ids (object ms) = ap (λ n. value_size m + n) (size_cleared_named ids ms)
    size_cleared ids (from_node id) = refl
    size_cleared ids (from_parameter name) = refl
    size_cleared ids (callback ns result) =
        ap (λ n. value_size m + n) (both _ _ _ _ (bare_known m (ids_of ns) ns) (size_cleared_nodes (ids_of ns) ns))

    size_cleared_each : (ids : List (List ℕ)) (rest : ListValues) → size_each m (cleared_each ids rest) ≡ size_each m rest
    size_cleared_each ids no_arguments = refl
    size_cleared_each ids (argument a rest) = both _ _ _ _ (size_cleared ids a) (size_cleared_each ids rest)

    size_cleared_named : (ids : List (List ℕ)) (ms : Named) → size_named m (cleared_named ids ms) ≡ size_named m ms
    size_cleared_named ids no_named = refl
    size_cleared_named ids (named name a rest) =
        both _ _ _ _ (ap (λ n. name_size m name + n) (size_cleared ids a)) (size_cleared_named ids rest)

    pub size_cleared_nodes : (ids : List (List ℕ)) (ns : Nodes) → size_nodes m (cleared_nodes ids ns) ≡ size_nodes m ns
    size_cleared_nodes ids no_nodes = refl
    size_cleared_nodes ids (node id p s args rest) = both _ _ _ _ (size_cleared_named ids args) (size_cleared_nodes ids rest)

  mutual
    pub size_dangling : (a : Argument) → size_in m (renamed dangling a) ≡ size_in m a
    size_dangling null = refl
    size_dangling (flag b) = refl
    size_dangling (whole z) = refl
    size_dangling inexact = refl
    size_dangling (text s) = refl
    size_dangling (list rest) = ap (λ n. value_size m + n) (size_dangling_each rest)
    size_dangling (object ms) = ap (λ n. value_size m + n) (size_dangling_named ms)
    size_dangling (from_node id) = refl
    size_dangling (from_parameter name) = refl
    size_dangling (callback ns result) = refl

    size_dangling_each : (rest : ListValues) → size_each m (renamed_each dangling rest) ≡ size_each m rest
    size_dangling_each no_arguments = refl
    size_dangling_each (argument a rest) = both _ _ _ _ (size_dangling a) (size_dangling_each rest)

    size_dangling_named : (ms : Named) → size_named m (renamed_named dangling ms) ≡ size_named m ms
    size_dangling_named no_named = refl
    size_dangling_named (named name a rest) =
        both _ _ _ _ (ap (λ n. name_size m name + n) (size_dangling a)) (size_dangling_named rest)

  -- nor do ids under a call
  module _ (stored : List PlainStored) (values : Named) (call : List ℕ) where
    mutual
      size_under : (own : List (List ℕ)) (a : Argument)
          → size_in m (substituted stored own values (renamed (under_id call) a)) ≡ size_in m (substituted stored own values a)
      size_under own null = refl
      size_under own (flag b) = refl
      size_under own (whole z) = refl
      size_under own inexact = refl
      size_under own (text s) = refl
      size_under own (list rest) = ap (λ n. value_size m + n) (size_under_each own rest)
      size_under own (object ms) = ap (λ n. value_size m + n) (size_under_named own ms)
      size_under own (from_node id) = refl
      size_under own (from_parameter name) = refl
      size_under own (callback ns result) = refl

      size_under_each : (own : List (List ℕ)) (rest : ListValues)
          → size_each m (substituted_each stored own values (renamed_each (under_id call) rest)) ≡ size_each m (substituted_each stored own values rest)
      size_under_each own no_arguments = refl
      size_under_each own (argument a rest) = both _ _ _ _ (size_under own a) (size_under_each own rest)

      size_under_named : (own : List (List ℕ)) (ms : Named)
          → size_named m (substituted_named stored own values (renamed_named (under_id call) ms)) ≡ size_named m (substituted_named stored own values ms)
      size_under_named own no_named = refl
      size_under_named own (named name a rest) =
          both _ _ _ _ (ap (λ n. name_size m name + n) (size_under own a)) (size_under_named own rest)

    pub size_under_nodes : (ns : Nodes)
        → size_nodes m (substituted_nodes stored values (renamed_nodes (under_id call) ns)) ≡ size_nodes m (substituted_nodes stored values ns)
    size_under_nodes no_nodes = refl
    size_under_nodes (node id p s args rest) =
        both _ _ _ _ (size_under_named (callback_parameters stored s p) args) (size_under_nodes rest)

  -- ---- nodes beside others

  put_by : (before : Bool) (n : PlainNode) (id p : List ℕ) (s : Option (List ℕ)) (args : Named) (rest : Nodes)
      → size_nodes m (put_node n rest) ≡ size_named m n.arguments + size_nodes m rest
      → size_nodes m (if before then node id p s args (put_node n rest) else node n.id n.process_id n.namespace n.arguments (node id p s args rest))
      ≡ size_named m n.arguments + (size_named m args + size_nodes m rest)
  put_by true n id p s args rest later = omega (arith, later)
  put_by false n id p s args rest later = refl

  size_put : (n : PlainNode) (ns : Nodes) → size_nodes m (put_node n ns) ≡ size_named m n.arguments + size_nodes m ns
  size_put n no_nodes = refl
  size_put n (node id p s args rest) = put_by (is_name_before id n.id) n id p s args rest (size_put n rest)

  size_put_nodes : (ns found : Nodes) → size_nodes m (put_nodes ns found) ≡ size_nodes m ns + size_nodes m found
  size_put_nodes no_nodes found = omega arith
  size_put_nodes (node id p s args rest) found =
      let n : PlainNode = record { id = id; process_id = p; namespace = s; arguments = args } in
      let later = size_put_nodes rest (put_node n found) in
      let here = size_put n found in
      omega (arith, later, here)

  size_round : (stored : List PlainStored) (all ns found : Nodes)
      → size_nodes m (round_nodes stored all ns found) ≡ size_nodes m found + round_size m stored all ns
  size_round stored all no_nodes found = omega arith
  size_round stored all (node id p s args rest) found =
      let n : PlainNode = record { id = id; process_id = p; namespace = s; arguments = round_named stored (is_some (callee stored s p)) all args } in
      let more = opened stored n (callee stored s p) in
      let later = size_round stored all rest (put_nodes more found) in
      let here = size_put_nodes more found in
      omega (arith, later, here)

  -- a graph object after a round
  pub size_round_all : (stored : List PlainStored) (ns : Nodes)
      → size_nodes m (round_nodes stored ns ns no_nodes) ≡ round_size m stored ns ns
  size_round_all stored ns =
      let is = size_round stored ns ns no_nodes in
      omega (arith, is)

  -- ---- the sizes of what stands for parameters

  given_by : (same : Bool) (value : Option Argument) (name key : List ℕ) (rest : Named) (other : ℕ)
      → same_name key name ≡ same
      → size_in m (unwrap_or (argument_named name rest) (from_parameter name)) ≡ other
      → size_in m (unwrap_or (argument_named name (value_before key value rest)) (from_parameter name))
      ≡ size_or same (option_map (size_in m) value) other
  given_by same None name key rest other is later = later
  given_by true (Some a) name key rest other is later =
      ap (λ b. size_in m (unwrap_or (if b then Some a else argument_named name rest) (from_parameter name))) is
  given_by false (Some a) name key rest other is later =
      ap (λ b. size_in m (unwrap_or (if b then Some a else argument_named name rest) (from_parameter name))) is ∙ later

  -- the values of a call have the sizes that are given
  pub has_given : (ps : List PlainParameter) (arguments : Named)
      → HasSizes m (given_sizes m arguments ps) [] (values_given ps arguments)
  has_given [] arguments name = refl
  has_given (p ∷ ps) arguments name =
      given_by (same_name p.name name) (option_or (argument_named p.name arguments) (default_of p)) name p.name
      (values_given ps arguments) (size_for m (given_sizes m arguments ps) name) refl (has_given ps arguments name)

  size_dangling_or : (found : Option Argument) (name : List ℕ)
      → size_in m (unwrap_or (option_map (renamed dangling) found) (from_parameter name)) ≡ size_in m (unwrap_or found (from_parameter name))
  size_dangling_or None name = refl
  size_dangling_or (Some a) name = size_dangling a

  inside_by : (here before : Bool) (found : Option Argument) (name : List ℕ) (size : ℕ)
      → size_in m (unwrap_or found (from_parameter name)) ≡ (if before then size_in m (from_parameter name) else size)
      → size_in m (unwrap_or (option_map (renamed dangling) (if here then None else found)) (from_parameter name))
      ≡ (if here || before then size_in m (from_parameter name) else size)
  inside_by true before found name size is = refl
  inside_by false before found name size is = size_dangling_or found name ∙ is

  -- so has what a callback sees of them
  pub has_inside : (sizes : List (List ℕ × Option ℕ)) (own hidden : List (List ℕ)) (values : Named)
      → HasSizes m sizes hidden values → HasSizes m sizes (own ++ hidden) (inside own values)
  has_inside sizes own hidden values has name =
      ap (λ found. size_in m (unwrap_or found (from_parameter name))) (argument_named-inside name own values)
      ∙ inside_by (list_any (same_name name) own) (list_any (same_name name) hidden) (argument_named name values) name
      (size_for m sizes name) (has name)
      ∙ ap (λ b. if b then size_in m (from_parameter name) else size_for m sizes name) (sym (any_append (same_name name) own hidden))

  -- of names behind references
  pub has_inside_behind : (sizes : List (List ℕ × Option ℕ)) (own hidden : List (Bor (List ℕ))) (values : Named)
      → HasSizes m sizes (names_behind hidden) values → HasSizes m sizes (names_behind (own ++ hidden)) (inside (names_behind own) values)
  has_inside_behind sizes own hidden values has =
      subst (λ names. HasSizes m sizes names (inside (names_behind own) values))
      (sym (map-append (λ (name : Bor (List ℕ)). name.now) own hidden))
      (has_inside sizes (names_behind own) (names_behind hidden) values has)

  -- what stands in place of a call
  pub size_call : (stored : List PlainStored) (n : PlainNode) (s : PlainStored) (budget left : ℕ)
      → ((values : Named) → HasSizes m (given_sizes m n.arguments s.parameters) [] values
      → budget ≡ left + size_nodes m (substituted_nodes stored values s.graph.nodes))
      → budget ≡ left + size_nodes m (opened stored n (Some s))
  size_call stored n s budget left each =
      let values = values_given s.parameters n.arguments in
      each values (has_given s.parameters n.arguments)
      ∙ ap (λ k. left + k) (sym (size_under_nodes stored values n.id s.graph.nodes))

-- one element more
pub size_next : {X : Type 0} (size : List X → ℕ) (xs : List X) (i : ℕ) (x : X) → i < length xs → x ≡ get_or xs i x
    → size (drop i xs) ≡ size (x ∷ drop (i + 1) xs)
size_next size xs i x below is = ap size (drop_more xs i x below ∙ ap (λ y. y ∷ drop (i + 1) xs) (sym is))

-- a node that calls no stored process
pub size_uncalled : (m : Measure) (stored : List PlainStored) (n : PlainNode) (o : Option PlainStored) (budget left : ℕ) → o ≡ None
    → budget ≡ left + size_named m n.arguments → budget ≡ left + size_nodes m (opened stored n o)
size_uncalled m stored n o budget left is taken =
    subst (λ p. budget ≡ left + size_nodes m (opened stored n p)) (sym is) (omega (arith, taken))

-- what stands in place of a node of the code that calls no stored process
pub node_uncalled : (m : Measure) (stored : List PlainStored) (n : Node) (arguments : Bool → Named → Named) (o : Option (Bor StoredProcess))
    (budget left : ℕ)
    → option_map (λ (s : Bor StoredProcess). plain_stored s.now) o ≡ callee stored n.namespace n.process_id
    → ((s : Bor StoredProcess) → o ≡ Some s → ⊥)
    → budget ≡ left + size_named m (arguments false (plain_named n.arguments.items))
    → budget ≡ left
    + size_nodes m
    (opened stored
    (record (plain_node n) { arguments = arguments (is_some (callee stored n.namespace n.process_id)) (plain_node n).arguments })
    (callee stored n.namespace n.process_id))
node_uncalled m stored n arguments o budget left is none taken =
    subst (λ p. budget ≡ left
    + size_nodes m (opened stored (record (plain_node n) { arguments = arguments (is_some p) (plain_node n).arguments }) p))
    (sym (callee_none o (callee stored n.namespace n.process_id) is none))
    (subst (λ ms. budget ≡ left + (size_named m (arguments false ms) + 0))
    (sym (ap (λ (k : PlainNode). k.arguments) (node_parts n))) (omega (arith, taken)))

-- ---- arguments of a call, whose callbacks wait

module _ (m : Measure) (stored : List PlainStored) (all : Nodes) where
  mutual
    size_waiting : (a : Argument) → size_in m (round_argument stored true all a) ≡ size_in m a
    size_waiting null = refl
    size_waiting (flag b) = refl
    size_waiting (whole z) = refl
    size_waiting inexact = refl
    size_waiting (text s) = refl
    size_waiting (list rest) = ap (λ n. value_size m + n) (size_waiting_each rest)
    size_waiting (object ms) = ap (λ n. value_size m + n) (size_waiting_named ms)
    size_waiting (from_node id) = refl
    size_waiting (from_parameter name) = refl
    size_waiting (callback ns result) = refl

    size_waiting_each : (rest : ListValues) → size_each m (round_each stored true all rest) ≡ size_each m rest
    size_waiting_each no_arguments = refl
    size_waiting_each (argument a rest) = both _ _ _ _ (size_waiting a) (size_waiting_each rest)

    size_waiting_named : (ms : Named) → size_named m (round_named stored true all ms) ≡ size_named m ms
    size_waiting_named no_named = refl
    size_waiting_named (named name a rest) =
        both _ _ _ _ (ap (λ n. name_size m name + n) (size_waiting a)) (size_waiting_named rest)

  found_by : (same : Bool) (a : Argument) (found rest : Option Argument)
      → option_map (size_in m) found ≡ option_map (size_in m) rest
      → option_map (size_in m) (if same then Some (round_argument stored true all a) else found)
      ≡ option_map (size_in m) (if same then Some a else rest)
  found_by true a found rest later = ap Some (size_waiting a)
  found_by false a found rest later = later

  found_waiting : (name : List ℕ) (ms : Named)
      → option_map (size_in m) (argument_named name (round_named stored true all ms)) ≡ option_map (size_in m) (argument_named name ms)
  found_waiting name no_named = refl
  found_waiting name (named k a rest) =
      found_by (same_name k name) a (argument_named name (round_named stored true all rest)) (argument_named name rest)
      (found_waiting name rest)

  or_sized : (found rest other : Option Argument) → option_map (size_in m) found ≡ option_map (size_in m) rest
      → option_map (size_in m) (option_or found other) ≡ option_map (size_in m) (option_or rest other)
  or_sized None None other is = refl
  or_sized None (Some a) other is = absurd cc
  or_sized (Some a) None other is = absurd cc
  or_sized (Some a) (Some b) other is = is

  -- they have the sizes that they have as they were written
  pub given_waiting : (ms : Named) (ps : List PlainParameter)
      → given_sizes m (round_named stored true all ms) ps ≡ given_sizes m ms ps
  given_waiting ms [] = refl
  given_waiting ms (p ∷ ps) =
      ap (λ (size : Option ℕ). (p.name, size) ∷ given_sizes m (round_named stored true all ms) ps)
      (or_sized (argument_named p.name (round_named stored true all ms)) (argument_named p.name ms) (default_of p) (found_waiting p.name ms))
      ∙ ap (λ sizes. (p.name, given_size m ms p) ∷ sizes) (given_waiting ms ps)

-- and of one that calls this process
pub node_called : (m : Measure) (stored : List PlainStored) (n : Node) (all : Nodes) (o : Option (Bor StoredProcess))
    (process : Bor StoredProcess) (budget left : ℕ) (sizes : List (List ℕ × Option ℕ))
    → option_map (λ (s : Bor StoredProcess). plain_stored s.now) o ≡ callee stored n.namespace n.process_id → o ≡ Some process
    → sizes ≡ given_sizes m (plain_named n.arguments.items) (map plain_parameter process.now.parameters.items)
    → ((values : Named) → HasSizes m sizes [] values
    → budget ≡ left + size_nodes m (substituted_nodes stored values (plain_nodes (out-Graph process.now.graph).nodes.items)))
    → budget ≡ left
    + size_nodes m
    (opened stored
    (record (plain_node n) {
      arguments = round_named stored (is_some (callee stored n.namespace n.process_id)) all (plain_node n).arguments;
    })
    (callee stored n.namespace n.process_id))
node_called m stored n all o process budget left sizes is found sized each =
    let k : PlainNode = record (plain_node n) { arguments = round_named stored true all (plain_node n).arguments } in
    let parameters = map plain_parameter process.now.parameters.items in
    let given : sizes ≡ given_sizes m k.arguments parameters =
    sized
    ∙ (ap (λ ms. given_sizes m ms parameters) (sym (ap (λ (q : PlainNode). q.arguments) (node_parts n)))
    ∙ sym (given_waiting m stored all (plain_node n).arguments parameters)) in
    let called : callee stored n.namespace n.process_id ≡ Some (plain_stored process.now) =
    sym is ∙ ap (option_map (λ (s : Bor StoredProcess). plain_stored s.now)) found in
    subst (λ p. budget ≡ left + size_nodes m
    (opened stored (record (plain_node n) { arguments = round_named stored (is_some p) all (plain_node n).arguments }) p)) (sym called)
    (size_call m stored k (plain_stored process.now) budget left
    (λ values has. subst (λ (h : PlainGraph). budget ≡ left + size_nodes m (substituted_nodes stored values h.nodes))
    (sym (graph_parts process.now.graph))
    (each values (subst (λ ks. HasSizes m ks [] values) (sym given) has))))

-- the size of one parameter more
pub sizes_next : (m : Measure) (arguments : Named) (each more : List ParameterSize) (entry : ParameterSize) (xs : List ParameterRow) (i : ℕ)
    (x : ParameterRow) → i < length xs → x ≡ get_or xs i x
    → plain_sizes each ≡ given_sizes m arguments (map plain_parameter (take i xs))
    → more ≡ each ++ entry ∷ [] → entry.name ≡ x.name → entry.size ≡ given_size m arguments (plain_parameter x)
    → plain_sizes more ≡ given_sizes m arguments (map plain_parameter (take (i + 1) xs))
sizes_next m arguments each more entry xs i x below is before pushed name size =
    let one : (entry.name, entry.size) ≡ (x.name, given_size m arguments (plain_parameter x)) =
    ap (λ (n : List ℕ). (n, entry.size)) name ∙ ap (λ (k : Option ℕ). (x.name, k)) size in
    let taken : take (i + 1) xs ≡ take i xs ++ x ∷ [] = take_more xs i x below ∙ ap (λ y. take i xs ++ y ∷ []) (sym is) in
    let listed : map plain_parameter (take (i + 1) xs) ≡ map plain_parameter (take i xs) ++ plain_parameter x ∷ [] =
    ap (map plain_parameter) taken ∙ map-append plain_parameter (take i xs) (x ∷ []) in
    ap plain_sizes pushed
    ∙ (map-append (λ (k : ParameterSize). (k.name, k.size)) each (entry ∷ [])
    ∙ (ap (λ (ks : List (List ℕ × Option ℕ)). ks ++ (entry.name, entry.size) ∷ []) before
    ∙ (ap (λ (k : List ℕ × Option ℕ). given_sizes m arguments (map plain_parameter (take i xs)) ++ k ∷ []) one
    ∙ (sym (map-append (λ (q : PlainParameter). (q.name, given_size m arguments q)) (map plain_parameter (take i xs)) (plain_parameter x ∷ []))
    ∙ sym (ap (given_sizes m arguments) listed)))))

-- ---- limits

within_sizes : (size : Measure → ℕ) (a b c : ℕ) → 1048576 ≡ a + size Values → 16777216 ≡ b + size TextBytes
    → 16777216 ≡ c + size NameBytes → (m : Measure) → size m ≤ most m
within_sizes size a b c values texts names Values = omega (arith, values)
within_sizes size a b c values texts names TextBytes = omega (arith, texts)
within_sizes size a b c values texts names NameBytes = omega (arith, names)

-- a graph from whose budgets its sizes were taken
pub within_budgets : (g : Graph) (a b c : ℕ) → 1048576 ≡ a + size_nodes Values (plain_nodes (out-Graph g).nodes.items)
    → 16777216 ≡ b + size_nodes TextBytes (plain_nodes (out-Graph g).nodes.items)
    → 16777216 ≡ c + size_nodes NameBytes (plain_nodes (out-Graph g).nodes.items) → IsWithinLimits (plain_graph g)
within_budgets g a b c values texts names =
    subst (λ (h : PlainGraph). IsWithinLimits h) (sym (graph_parts g))
    (within_sizes (λ m. size_nodes m (plain_nodes (out-Graph g).nodes.items)) a b c values texts names)

-- and one that is so after a round
pub round_within_budgets : (stored : List PlainStored) (g : Graph) (a b c : ℕ)
    → ((all : Nodes) → 1048576 ≡ a + round_size Values stored all (plain_nodes (out-Graph g).nodes.items))
    → ((all : Nodes) → 16777216 ≡ b + round_size TextBytes stored all (plain_nodes (out-Graph g).nodes.items))
    → ((all : Nodes) → 16777216 ≡ c + round_size NameBytes stored all (plain_nodes (out-Graph g).nodes.items))
    → IsWithinLimits (round stored (plain_graph g))
round_within_budgets stored g a b c values texts names =
    let ns = plain_nodes (out-Graph g).nodes.items in
    subst (λ (h : PlainGraph). IsWithinLimits (round stored h)) (sym (graph_parts g))
    (λ m. subst (λ k. k ≤ most m) (sym (size_round_all m stored ns))
    (within_sizes (λ k. round_size k stored ns ns) a b c (values ns) (texts ns) (names ns) m))

pub cleared_within : (g : PlainGraph) → IsWithinLimits g → IsWithinLimits (cleared_graph g)
cleared_within g within m = subst (λ n. n ≤ most m) (sym (size_cleared_nodes m (ids_of g.nodes) g.nodes)) (within m)
