-- Node by node, in the order of the walk, a program comes to have the value of each node that is needed.
use Rattle.std.proofs.Common.{◌≡◌, ◌≢◌, inl, inr, ℕ, zero, suc, ◌+◌, ◌<◌, ◌≤◌, ◌∷◌, [], ◌++◌, List, Bool, true, false, Option, Some, None, refl, sym, ap, ◌∙◌, subst, length, slice_get, slice_set, Contains, codes, arith, eqb, length-append, length-set, get_or-set_other, get_or-set_same}
use Rattle.std.specs.Bool.{⊤}
use Rattle.std.specs.Prelude.{if◌then◌else◌, nat_le}
use Rattle.std.specs.List.{slice_index_or}
use Rattle.std.specs.Option.{option_map_or}
use Rattle.std.proofs.lemmas.Bool.{cases_Bool}
use Rattle.std.proofs.lemmas.Bool.Decides.{Decides-eqb, nat_tests}
use Rattle.std.proofs.lemmas.List.Concat.{flat_map-cons}
use Rattle.std.proofs.lemmas.List.Elements.{Contains-append_left, Contains-append_right}
use Rattle.std.proofs.lemmas.Option.{get_or_from_slice_get, slice_get_within}
use Rattle.oe_cell.specs.declared.cell.Cell.{Cell}
use Rattle.oe_cell.specs.declared.cell.Cell.TheVariants.{Empty}
use Rattle.oe_dims.specs.Names.{same_name}
use Rattle.oe_fold.specs.declared.reducer.Reducer.{Reducer}
use Rattle.oe_graph.specs.Plain.{plain_nodes}
use Rattle.oe_graph.specs.Printed.{node_count}
use Rattle.oe_graph.specs.References.{argument_named, each_node, parameters_named}
use Rattle.oe_graph.specs.States.{IsNodeAt}
use Rattle.oe_graph.specs.Tree as tree
use Rattle.oe_graph.specs.Tree.{Argument, Named, Nodes, no_nodes, node, PlainGraph, PlainNode}
use Rattle.oe_graph.specs.declared.tree.Node.{Node}
use Rattle.oe_expr.specs.Callback.{Callback, callback_of, environment}
use Rattle.oe_expr.specs.Compiled.{IsProgramOf}
use Rattle.oe_expr.specs.Nodes.{id_at}
use Rattle.oe_expr.specs.Operations.{operation_named}
use Rattle.oe_expr.specs.Orders.{IsWalkOrder}
use Rattle.oe_expr.specs.Placed.{IsNeeded, AreMarked, IsCompiling}
use Rattle.oe_expr.specs.Places.{null, scalar_names, items_names, request_names, addition_of, no_step, IsStarted, Follows, IsPlace}
use Rattle.oe_expr.specs.PlainRequests.{plain_cell_request}
use Rattle.oe_expr.specs.Requests.{Scalar, literal, of_node, of_x, of_y, of_context, Items, the_data, written, CellRequest, unary, binary, choice, reduction, element, scalar_in, scalars_in, items_in, written_list, read, two_cells, binary_request, cell_request_of, cell_request_at, has_plain_equality, flag_in, passes, is_scalar_literal, counter_in, list_index_in, label_in}
use Rattle.oe_expr.specs.Scope.{PlainScope, Environment, IsScope, scope_parameters}
use Rattle.oe_expr.specs.Value.{node_value_at, node_value, request_value}
use Rattle.oe_expr.specs.Walked.{AreResolved}
use Rattle.oe_expr.specs.declared.operation.Binary.{Binary}
use Rattle.oe_expr.specs.declared.operation.Binary.TheVariants.{Add, Subtract, Multiply, Divide, Modulo, Equal, NotEqual, Greater, GreaterOrEqual, Less, LessOrEqual, And, Or, Xor}
use Rattle.oe_expr.specs.declared.operation.Operation.{Operation}
use Rattle.oe_expr.specs.declared.operation.Operation.TheVariants.{OfOne, OfTwo, Choice, Reduction, Counting, Element}
use Rattle.oe_expr.specs.declared.program.Operand.{Operand}
use Rattle.oe_expr.specs.declared.program.Program.{Program}
use Rattle.oe_expr.specs.declared.walk.Judged.{Judged}
use Rattle.oe_expr.proofs.FitLemmas.{Sees}
use Rattle.oe_expr.proofs.KindLemmas.{sees_of}
use Rattle.oe_expr.proofs.MarkLemmas.{named_before, index_before, entry_within, entries_differ, few_entries}
use Rattle.oe_expr.proofs.NodeLemmas.{unfolds}
use Rattle.oe_expr.proofs.PlaceLemmas.{HasPlace, HasFew, AsksFew, HasGrown, place_kept, none_more, request_grown}
use Rattle.oe_expr.proofs.RequestLemmas.{OfScalar, OfScalars, OfItems, OfRequest, both_there, found_there, mapped_there, passed_there, of_node_request, value_looks_down}
use Rattle.oe_expr.proofs.StateLemmas.{named_at, count_plain}
use Rattle.oe_memory.proofs.Lists.{append_none}

-- ---- lists that are written are short

written_few : (b : Bool) (ss : List Scalar) (items : Items) → (b ≡ true → length ss ≤ 64) → (if b then Some (written ss) else None) ≡ Some items → HasFew items
written_few true ss items few e = let is : written ss ≡ items = cc in subst HasFew is (few refl)
written_few false ss items few e = absurd cc

data_few : (b : Bool) (items : Items) → (if b then Some the_data else None) ≡ Some items → HasFew items
data_few true items e = let is : the_data ≡ items = cc in subst HasFew is tt
data_few false items e = absurd cc

short : (n : ℕ) → nat_le n 64 ≡ true → n ≤ 64
short n h = grind (arith, nat_tests)

items_few : (a : Argument) (items : Items) → items_in a ≡ Some items → HasFew items
items_few tree.null items e = absurd cc
items_few (tree.flag b) items e = absurd cc
items_few (tree.whole z) items e = absurd cc
items_few tree.inexact items e = absurd cc
items_few (tree.text t) items e = absurd cc
items_few (tree.list rest) items e =
    let found = found_there written_list (scalars_in rest) items e in
    written_few (nat_le (length found.0) 64) found.0 items (short (length found.0)) found.2
items_few (tree.object ms) items e = absurd cc
items_few (tree.from_node id) items e = absurd cc
items_few (tree.from_parameter name) items e = data_few (same_name name (codes "data")) items e
items_few (tree.callback ns result) items e = absurd cc

read_few : (name : List ℕ) (given : Named) (items : Items) → read items_in name given ≡ Some items → HasFew items
read_few name given items e = let found = found_there items_in (argument_named name given) items e in items_few found.0 items found.2

two_few : (given : Named) (f : Binary) (r : CellRequest) → two_cells f given ≡ Some r → AsksFew r
two_few given f r e = let parts = both_there (binary f) (read scalar_in (codes "x") given) (read scalar_in (codes "y") given) r e in subst AsksFew parts.4 tt

binary_few : (given : Named) (f : Binary) (r : CellRequest) → binary_request f given ≡ Some r → AsksFew r
binary_few given Equal r e = two_few given Equal r (passed_there (has_plain_equality given) (two_cells Equal given) r e)
binary_few given NotEqual r e = two_few given NotEqual r (passed_there (has_plain_equality given) (two_cells NotEqual given) r e)
binary_few given Add r e = two_few given Add r e
binary_few given Subtract r e = two_few given Subtract r e
binary_few given Multiply r e = two_few given Multiply r e
binary_few given Divide r e = two_few given Divide r e
binary_few given Modulo r e = two_few given Modulo r e
binary_few given Greater r e = two_few given Greater r e
binary_few given GreaterOrEqual r e = two_few given GreaterOrEqual r e
binary_few given Less r e = two_few given Less r e
binary_few given LessOrEqual r e = two_few given LessOrEqual r e
binary_few given And r e = two_few given And r e
binary_few given Or r e = two_few given Or r e
binary_few given Xor r e = two_few given Xor r e

request_few : (given : Named) (operation : Operation) (r : CellRequest) → cell_request_of operation given ≡ Some r → AsksFew r
request_few given (OfOne f) r e = let found = mapped_there (unary f) (read scalar_in (codes "x") given) r e in subst AsksFew found.2 tt
request_few given (OfTwo f) r e = binary_few given f r e
request_few given Choice r e =
    let first = found_there _ (read scalar_in (codes "value") given) r e in
    let parts = both_there (choice first.0) (read scalar_in (codes "accept") given) (read scalar_in (codes "reject") given) r first.2 in
    subst AsksFew parts.4 tt
request_few given (Reduction reducer) r e =
    let parts = both_there (reduction reducer) (read flag_in (codes "ignore_nodata") given) (read items_in (codes "data") given) r e in
    subst AsksFew parts.4 (read_few (codes "data") given parts.1 parts.3)
request_few given Counting r e =
    let passed = passed_there (passes is_scalar_literal (codes "context") given) _ r e in
    let parts = both_there (λ (counter : Reducer) (items : Items). reduction counter true items) (read counter_in (codes "condition") given) (read items_in (codes "data") given) r passed in
    subst AsksFew parts.4 (read_few (codes "data") given parts.1 parts.3)
request_few given Element r e =
    let first = found_there _ (read items_in (codes "data") given) r e in
    let second = found_there _ (read list_index_in (codes "index") given) r first.2 in
    let parts = both_there (element first.0 second.0) (read label_in (codes "label") given) (read flag_in (codes "return_nodata") given) r second.2 in
    subst AsksFew parts.4 (read_few (codes "data") given first.0 first.1)

pub asks_few : (n : PlainNode) (r : CellRequest) → cell_request_at n ≡ Some r → AsksFew r
asks_few n r e = let found = found_there _ (operation_named n.process_id) r e in request_few n.arguments found.0 r found.2

-- ---- what holds of the names of a request

module _ (P Q : List ℕ → Type 0) where
  abbrev Any : List ℕ → Type 0
  Any name = ⊤

  scalar_by : (s : Scalar) → OfScalar (λ (name : List ℕ). ⊤) Q s → ((name : List ℕ) → Contains (scalar_names s) name → P name) → OfScalar P Q s
  scalar_by (literal c) q p = tt
  scalar_by (of_node id) q p = p id (0, omega arith, refl)
  scalar_by of_x q p = q
  scalar_by of_y q p = q
  scalar_by of_context q p = q

  scalars_by : (ss : List Scalar) → OfScalars (λ (name : List ℕ). ⊤) Q ss → ((name : List ℕ) → Contains (items_names (written ss)) name → P name) → OfScalars P Q ss
  scalars_by [] q p = tt
  scalars_by (s ∷ ss) q p =
      let whole = flat_map-cons scalar_names s ss in (
        scalar_by s q.0 (λ name there. p name (subst (λ (names : List (List ℕ)). Contains names name) (sym whole) (Contains-append_left (scalar_names s) (items_names (written ss)) name there))),
        scalars_by ss q.1 (λ name there. p name (subst (λ (names : List (List ℕ)). Contains names name) (sym whole) (Contains-append_right (scalar_names s) (items_names (written ss)) name there))),
      )

  items_by : (items : Items) → OfItems (λ (name : List ℕ). ⊤) Q items → ((name : List ℕ) → Contains (items_names items) name → P name) → OfItems P Q items
  items_by the_data q p = q
  items_by (written ss) q p = scalars_by ss q p

  pub request_by : (r : CellRequest) → OfRequest (λ (name : List ℕ). ⊤) Q r → ((name : List ℕ) → Contains (request_names r) name → P name) → OfRequest P Q r
  request_by (unary f x) q p = scalar_by x q p
  request_by (binary f x y) q p = (
    scalar_by x q.0 (λ name there. p name (Contains-append_left (scalar_names x) (scalar_names y) name there)),
    scalar_by y q.1 (λ name there. p name (Contains-append_right (scalar_names x) (scalar_names y) name there)),
  )
  request_by (choice value accept reject) q p = (
    scalar_by value q.0 (λ name there. p name (Contains-append_left (scalar_names value ++ scalar_names accept) (scalar_names reject) name (Contains-append_left (scalar_names value) (scalar_names accept) name there))),
    scalar_by accept q.1 (λ name there. p name (Contains-append_left (scalar_names value ++ scalar_names accept) (scalar_names reject) name (Contains-append_right (scalar_names value) (scalar_names accept) name there))),
    scalar_by reject q.2 (λ name there. p name (Contains-append_right (scalar_names value ++ scalar_names accept) (scalar_names reject) name there)),
  )
  request_by (reduction reducer ignore items) q p = items_by items q p
  request_by (element items index label return_nodata) q p = items_by items q p

-- ---- one entry more

one_at_most : (scope : PlainScope) (context : Cell) (nodes : List Node) (places : List Operand) (number from : ℕ) (r : CellRequest) → length (addition_of scope context nodes places number from r).steps ≤ 1
one_at_most scope context nodes places number from (unary f x) = omega arith
one_at_most scope context nodes places number from (binary f x y) = omega arith
one_at_most scope context nodes places number from (choice value accept reject) = omega arith
one_at_most scope context nodes places number from (reduction reducer ignore the_data) = omega arith
one_at_most scope context nodes places number from (reduction reducer ignore (written ss)) = omega arith
one_at_most scope context nodes places number from (element items index label return_nodata) = omega arith

module _ (scope : PlainScope) (context : Cell) (nodes : List Node) (is : AreResolved scope nodes) (order : List Judged) (walk : IsWalkOrder (plain_nodes nodes) order) (is_scope : IsScope scope) (index : ℕ) where
  abbrev G : PlainGraph
  G = record { nodes = plain_nodes nodes; result = index }

  abbrev D : Callback
  D = callback_of (record { nodes = plain_nodes nodes; result = index }) scope context

  seen : (n : PlainNode) (k : ℕ) → IsNodeAt (plain_nodes nodes) k n → (name : List ℕ) → Contains (parameters_named n.arguments) name → Sees scope name
  seen n k at name there =
      let has : Contains (each_node (plain_nodes nodes)) n = (k, slice_get_within (each_node (plain_nodes nodes)) k n at, get_or_from_slice_get (each_node (plain_nodes nodes)) k n n at) in
      let in_scope = (is.resolved.each n has).names_parameters name there in
      sees_of (scope_parameters scope) name in_scope.0 in_scope.1 in_scope.2

  node_is : (e : Environment) (n : PlainNode) (k : ℕ) → IsNodeAt (plain_nodes nodes) k n → (r : CellRequest) → cell_request_at n ≡ Some r
      → request_value e (node_value_at e (plain_nodes nodes)) r ≡ node_value_at e (plain_nodes nodes) n.id
  node_is e n k at r asks =
      ap (λ (o : Option CellRequest). option_map_or (request_value e (node_value_at e (plain_nodes nodes))) o Empty) (sym asks)
      ∙ sym (unfolds (plain_nodes nodes) Empty (node_value e) (value_looks_down e) is.resolved.acyclic n.id n (named_at scope nodes is k n at))

  module _ (needed : List Bool) (long : length needed ≡ length nodes) (marked : AreMarked nodes order needed 0) (places : List Operand) (p : Program) (k : ℕ) (entry : Judged) (at : slice_get order k ≡ Some entry)
      (h : IsCompiling (callback_of (record { nodes = plain_nodes nodes; result = index }) scope context) nodes order needed places p k) where
    abbrev Asked : CellRequest
    Asked = plain_cell_request entry.request

    has_places : IsNeeded needed entry.node → (name : List ℕ) → Contains (request_names (plain_cell_request entry.request)) name → HasPlace D p nodes places name
    has_places is_needed name there =
        let b = named_before scope nodes is order walk k entry at name there in
        let found = index_before scope nodes is order walk k name b in
        let other : IsNeeded needed b.entry.node = marked k entry (omega arith) at is_needed name there b.entry.node found in
        let place = h.placed b.index b.entry b.node b.is_before b.at b.is_entry.stands other in
        record {
          index = b.entry.node;
          is_index = found;
          is_place = subst (λ (id : List ℕ). IsPlace D p (λ (e : Environment). node_value_at e (plain_nodes nodes) id) (slice_index_or places b.entry.node null)) b.is_named place;
        }

    grown : IsNeeded needed entry.node → (q : Program) → Follows p q (addition_of scope context nodes places (length p.steps.items) (length p.elements.items) (plain_cell_request entry.request))
        → HasGrown D q (λ (e : Environment). request_value e (λ (name : List ℕ). node_value_at e (plain_nodes nodes) name) (plain_cell_request entry.request))
        (addition_of scope context nodes places (length p.steps.items) (length p.elements.items) (plain_cell_request entry.request)).place
    grown is_needed q follows =
        let e = walk.entry k entry at in
        let asked = of_node_request (λ (name : List ℕ). ⊤) (Sees scope) e.node (plain_cell_request entry.request) e.is_entry.asks (λ name there. tt) (seen e.node entry.node e.is_entry.stands) in
        request_grown G scope context p q nodes places h.started is_scope (plain_cell_request entry.request)
        (request_by (HasPlace D p nodes places) (Sees scope) (plain_cell_request entry.request) asked (has_places is_needed))
        (asks_few e.node (plain_cell_request entry.request) e.is_entry.asks) follows

    pub compile_step : IsNeeded needed entry.node → (q : Program) → Follows p q (addition_of scope context nodes places (length p.steps.items) (length p.elements.items) (plain_cell_request entry.request))
        → (o : Operand) → o ≡ (addition_of scope context nodes places (length p.steps.items) (length p.elements.items) (plain_cell_request entry.request)).place
        → IsCompiling (callback_of (record { nodes = plain_nodes nodes; result = index }) scope context) nodes order needed (slice_set places entry.node o) q (k + 1)
    compile_step is_needed q follows o same =
        let a = addition_of scope context nodes places (length p.steps.items) (length p.elements.items) (plain_cell_request entry.request) in
        let more = grown is_needed q follows in
        let some = one_at_most scope context nodes places (length p.steps.items) (length p.elements.items) (plain_cell_request entry.request) in
        let count : length q.steps.items ≡ length p.steps.items + length a.steps = ap length follows.steps ∙ length-append p.steps.items a.steps in
        let few = h.few in
        let wide = h.long in
        let within : entry.node < length places = let there = entry_within scope nodes is order walk k entry at in omega arith in
        record {
          started = more.started;
          few = omega arith;
          long = length-set places entry.node o ∙ wide;
          placed = λ j other n below at_j stands other_needed. elim (cases_Bool (eqb j k)) [
            | inl e ↦
                let here : j ≡ k = (Decides-eqb j k).0 e in
                let twice : Some other ≡ Some entry = sym at_j ∙ ap (slice_get order) here ∙ at in
                let one : other ≡ entry = cc in
                let w = walk.entry k entry at in
                let both : Some n ≡ Some w.node = sym stands ∙ ap (λ (x : Judged). slice_get (each_node (plain_nodes nodes)) x.node) one ∙ w.is_entry.stands in
                let same_node : n ≡ w.node = cc in
                let value : IsPlace D q (λ (e : Environment). node_value_at e (plain_nodes nodes) w.node.id) a.place = record {
                  is_operand = more.place.is_operand;
                  has_value = λ x y cells list given. more.place.has_value x y cells list given
                      ∙ node_is (environment D x y cells list) w.node entry.node w.is_entry.stands (plain_cell_request entry.request) w.is_entry.asks;
                } in
                let read : slice_index_or (slice_set places entry.node o) other.node null ≡ a.place =
                ap (λ (x : Judged). slice_index_or (slice_set places entry.node o) x.node null) one ∙ get_or-set_same places entry.node o null within ∙ same in
                subst (λ (m : PlainNode). IsPlace D q (λ (e : Environment). node_value_at e (plain_nodes nodes) m.id) (slice_index_or (slice_set places entry.node o) other.node null)) (sym same_node)
                (subst (λ (v : Operand). IsPlace D q (λ (e : Environment). node_value_at e (plain_nodes nodes) w.node.id) v) (sym read) value)
            | inr e ↦
                let before : j < k = grind (arith, nat_tests) in
                let apart : other.node ≢ entry.node = entries_differ scope nodes is order walk j k other entry before at_j at in
                subst (λ (v : Operand). IsPlace D q (λ (e : Environment). node_value_at e (plain_nodes nodes) n.id) v) (sym (get_or-set_other places entry.node other.node o null apart))
                (place_kept D p q a follows h.started (λ (e : Environment). node_value_at e (plain_nodes nodes) n.id) (slice_index_or places other.node null) (h.placed j other n before at_j stands other_needed))
          ];
        }

    pub skip_step : ¬ IsNeeded needed entry.node → IsCompiling (callback_of (record { nodes = plain_nodes nodes; result = index }) scope context) nodes order needed places p (k + 1)
    skip_step not = record {
      started = h.started;
      few = let few = h.few in omega arith;
      long = h.long;
      placed = λ j other n below at_j stands other_needed. elim (cases_Bool (eqb j k)) [
        | inl e ↦
            let here : j ≡ k = (Decides-eqb j k).0 e in
            let twice : Some other ≡ Some entry = sym at_j ∙ ap (slice_get order) here ∙ at in
            let one : other ≡ entry = cc in
            absurd (not (subst (λ (x : Judged). IsNeeded needed x.node) one other_needed))
        | inr e ↦ let before : j < k = grind (arith, nat_tests) in h.placed j other n before at_j stands other_needed
      ];
    }

  -- before the first entry
  pub first_step : (needed : List Bool) (places : List Operand) (p : Program) → IsStarted scope p → p.steps.items ≡ [] → length places ≡ length nodes
      → IsCompiling (callback_of (record { nodes = plain_nodes nodes; result = index }) scope context) nodes order needed places p 0
  first_step needed places p started none long = record {
    started = started;
    few = let count : length p.steps.items ≡ 0 = ap length none in omega arith;
    long = long;
    placed = λ j other n below. absurd (omega arith);
  }

  id_is : (ns : Nodes) (k : ℕ) (n : PlainNode) → slice_get (each_node ns) k ≡ Some n → n.id ≡ id_at k ns
  id_is no_nodes k n e = absurd cc
  id_is (node id process_id namespace arguments rest) zero n e =
      let same : record { id = id; process_id = process_id; namespace = namespace; arguments = arguments } ≡ n = cc in sym (ap (λ (m : PlainNode). m.id) same)
  id_is (node id process_id namespace arguments rest) (suc k) n e = id_is rest k n e

  -- behind the last entry
  pub last_step : (needed : List Bool) (places : List Operand) (p q : Program) → IsNeeded needed index → index < length nodes
      → IsCompiling (callback_of (record { nodes = plain_nodes nodes; result = index }) scope context) nodes order needed places p (length order)
      → q.steps.items ≡ p.steps.items → q.elements.items ≡ p.elements.items → q.starts.items ≡ p.starts.items → q.result ≡ slice_index_or places index null
      → IsProgramOf (callback_of (record { nodes = plain_nodes nodes; result = index }) scope context) q
  last_step needed places p q is_needed within h steps elements starts result =
      let all : index < node_count (plain_nodes nodes) = subst (λ (n : ℕ). index < n) (sym (count_plain nodes)) within in
      let own = walk.each index all in
      let w = walk.entry own.index own.entry own.at in
      let inside : own.index < length order = slice_get_within order own.index own.entry own.at in
      let needs : IsNeeded needed own.entry.node = subst (λ (n : ℕ). IsNeeded needed n) (sym own.is_node) is_needed in
      let placed = h.placed own.index own.entry w.node inside own.at w.is_entry.stands needs in
      let o : Operand = slice_index_or places own.entry.node null in
      let follows : Follows p q (no_step o) = record { steps = steps ∙ sym (append_none p.steps.items); elements = elements ∙ sym (append_none p.elements.items); starts = starts } in
      let more = none_more G scope context p q nodes places h.started is_scope (λ (e : Environment). node_value_at e (plain_nodes nodes) w.node.id) o follows placed in
      let same : q.result ≡ o = result ∙ ap (λ (n : ℕ). slice_index_or places n null) (sym own.is_node) in
      let few = few_entries scope nodes is order walk in
      let count : length q.steps.items ≡ length p.steps.items = ap length steps in
      let less = h.few in
      let id : w.node.id ≡ id_at index (plain_nodes nodes) = id_is (plain_nodes nodes) own.entry.node w.node w.is_entry.stands ∙ ap (λ (n : ℕ). id_at n (plain_nodes nodes)) own.is_node in
      let placed_last : IsPlace D q (λ (e : Environment). node_value_at e (plain_nodes nodes) w.node.id) q.result =
      subst (λ (v : Operand). IsPlace D q (λ (e : Environment). node_value_at e (plain_nodes nodes) w.node.id) v) (sym same) more.place in
      record {
        is_program = record { few = omega arith; steps = more.started.steps; result = placed_last.is_operand };
        computes = λ x y cells list given. placed_last.has_value x y cells list given ∙ ap (node_value_at (environment D x y cells list) (plain_nodes nodes)) id;
      }
