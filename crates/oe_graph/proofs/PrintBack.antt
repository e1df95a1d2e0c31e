-- What is written for a graph that keeps the rules of its form is that graph again.
use Rattle.std.proofs.Common.{◌≡◌, ◌≢◌, ℕ, ℤ, pos, negsuc, suc, ◌+◌, ◌≤◌, ◌<◌, ◌==◌, nat_lt, List, [], codes, Bool, true, false, ◌&&◌, ◌||◌, if◌then◌else◌, Option, Some, None, unwrap_or, refl, sym, ap, ◌∙◌, true≢false, arith, eqb-true, eq-eqb}
use Rattle.std.proofs.lemmas.Bool.{false≢true, and_parts, and_from, leb-true, not-true}
use Rattle.serde_json.specs.Data.{Data, Members, no_members, member, object}
use Rattle.serde_json.specs.Find.{of_integer}
use Rattle.oe_dims.specs.Names.{is_name, same_name}
use Rattle.oe_graph.specs.Tree as tree
use Rattle.oe_graph.specs.Tree.{Argument, ListValues, Named, Nodes}
use Rattle.oe_graph.specs.Built as built
use Rattle.oe_graph.specs.Faults.{least}
use Rattle.oe_graph.specs.declared.fault.Fault.{Fault}
use Rattle.oe_graph.specs.Built.{graph_of, number_argument, reference, reference_by, value_of, values_of, members_of, argument_of, each_argument, callback_among, callback_in, process_id_of, namespace_of, result_index}
use Rattle.oe_graph.specs.Form.{is_node, is_result, result_count, node_name, callback_name}
use Rattle.oe_graph.specs.Walked.{nodes_fault, node_fault, inside_fault, callbacks_fault, callback_fault, graph_among, graph_in, count_fault, graph_fault}
use Rattle.oe_graph.specs.Printed.{argument_data, arguments_data, named_data, nodes_data, node_data, node_count, is_whole, is_object, is_reference_like, is_callback_like, is_process_text, is_namespace_text, is_plain_value, are_plain_values, are_plain_members, is_printable_argument, are_printable_arguments, are_printable_nodes}
use Rattle.oe_graph.proofs.Straight.{named_list, nodes_list, named_straight, nodes_straight}

-- ---- values

not_least : (n : ℕ) → nat_lt n 9223372036854775807 ≡ true → (n == 9223372036854775807) ≡ false
not_least n h = grind (arith, h)

whole_back : (z : ℤ) → is_whole z ≡ true → number_argument (of_integer z) ≡ tree.whole z
whole_back (pos n) h = rw h refl
whole_back (negsuc n) h = rw (not_least n h) refl

neither : (p q : Bool) (x y : Option Argument) → (if p then true else q) ≡ false
    → (if p then x else (if q then y else None)) ≡ None
neither true q x y h = absurd (true≢false h)
neither false true x y h = absurd (true≢false h)
neither false false x y h = refl

abbrev none : Option Argument
none = None

no_name : (p q : Bool) → (if p then none else (if q then none else none)) ≡ none
no_name true q = refl
no_name false true = refl
no_name false false = refl

no_text : (name : List ℕ) (a : Argument) → is_reference_like (tree.named name a tree.no_named) ≡ false
    → reference_by (name, argument_data a) ≡ None
no_text name tree.null h = no_name (same_name name (codes "from_node")) (same_name name (codes "from_parameter"))
no_text name (tree.flag b) h = no_name (same_name name (codes "from_node")) (same_name name (codes "from_parameter"))
no_text name (tree.whole z) h = no_name (same_name name (codes "from_node")) (same_name name (codes "from_parameter"))
no_text name tree.inexact h = no_name (same_name name (codes "from_node")) (same_name name (codes "from_parameter"))
no_text name (tree.text s) h =
    neither (same_name name (codes "from_node")) (same_name name (codes "from_parameter"))
    (Some (tree.from_node s)) (Some (tree.from_parameter s)) h
no_text name (tree.list rest) h = no_name (same_name name (codes "from_node")) (same_name name (codes "from_parameter"))
no_text name (tree.object ms) h = no_name (same_name name (codes "from_node")) (same_name name (codes "from_parameter"))
no_text name (tree.from_node id) h = no_name (same_name name (codes "from_node")) (same_name name (codes "from_parameter"))
no_text name (tree.from_parameter other) h = no_name (same_name name (codes "from_node")) (same_name name (codes "from_parameter"))
no_text name (tree.callback ns result) h = no_name (same_name name (codes "from_node")) (same_name name (codes "from_parameter"))

no_reference : (ms : Named) → is_reference_like ms ≡ false → reference (named_list ms) ≡ None
no_reference tree.no_named h = refl
no_reference (tree.named name a tree.no_named) h = no_text name a h
no_reference (tree.named name a (tree.named other b rest)) h = refl

object_back : (ds : Members) (ms : Named) → reference ds ≡ None → members_of false ds ≡ ms
    → value_of false (object ds) ≡ tree.object ms
object_back ds ms none is = ap (λ o. unwrap_or o (tree.object (members_of false ds))) none ∙ ap tree.object is

mutual
  value_back : (a : Argument) → is_plain_value a ≡ true → value_of false (argument_data a) ≡ a
  value_back tree.null h = refl
  value_back (tree.flag b) h = refl
  value_back (tree.whole z) h = whole_back z h
  value_back tree.inexact h = refl
  value_back (tree.text s) h = refl
  value_back (tree.list rest) h = ap tree.list (values_back rest h)
  value_back (tree.object ms) h =
      let parts = and_parts _ _ h in
      let heads = and_parts _ _ parts.0 in
      let straight = named_straight ms heads.1 in
      object_back (named_data ms no_members) ms (ap reference straight ∙ no_reference ms (not-true _ heads.0))
      (ap (members_of false) straight ∙ members_back ms parts.1)
  value_back (tree.from_node id) h = refl
  value_back (tree.from_parameter name) h = refl
  value_back (tree.callback ns result) h = absurd (false≢true h)

  values_back : (args : ListValues) → are_plain_values args ≡ true → values_of false (arguments_data args) ≡ args
  values_back tree.no_arguments h = refl
  values_back (tree.argument a rest) h =
      let parts = and_parts _ _ h in
      let first : value_of false (argument_data a) ≡ a = value_back a parts.0 in
      let others : values_of false (arguments_data rest) ≡ rest = values_back rest parts.1 in
      cc

  members_back : (ms : Named) → are_plain_members ms ≡ true → members_of false (named_list ms) ≡ ms
  members_back tree.no_named h = refl
  members_back (tree.named name a rest) h =
      let parts = and_parts _ _ h in
      let first : value_of false (argument_data a) ≡ a = value_back a parts.0 in
      let others : members_of false (named_list rest) ≡ rest = members_back rest parts.1 in
      cc

-- ---- nodes

process_of_node : (arguments : Members) (namespace : Option (List ℕ)) (process_id : List ℕ) (is_result : Bool)
    → process_id_of (node_data arguments namespace process_id is_result) ≡ process_id
process_of_node arguments None process_id true = refl
process_of_node arguments None process_id false = refl
process_of_node arguments (Some s) process_id true = refl
process_of_node arguments (Some s) process_id false = refl

namespace_of_node : (arguments : Members) (namespace : Option (List ℕ)) (process_id : List ℕ) (is_result : Bool)
    → namespace_of (node_data arguments namespace process_id is_result) ≡ namespace
namespace_of_node arguments None process_id true = refl
namespace_of_node arguments None process_id false = refl
namespace_of_node arguments (Some s) process_id true = refl
namespace_of_node arguments (Some s) process_id false = refl

result_of_node : (arguments : Members) (namespace : Option (List ℕ)) (process_id : List ℕ) (b : Bool)
    → is_result (node_data arguments namespace process_id b) ≡ b
result_of_node arguments None process_id true = refl
result_of_node arguments None process_id false = refl
result_of_node arguments (Some s) process_id true = refl
result_of_node arguments (Some s) process_id false = refl

either_name : (a b : Bool) → (if a then true else b) ≡ true → (a || b) ≡ true
either_name true b h = refl
either_name false b h = h

node_tests : (p n : Bool) → p ≡ true → n ≡ true → (p && true && n && true && true) ≡ true
node_tests p n is fits = rw (is, fits) refl

is_node_of : (arguments : Members) (namespace : Option (List ℕ)) (process_id : List ℕ) (b : Bool)
    → is_process_text process_id ≡ true → is_namespace_text namespace ≡ true
    → is_node (node_data arguments namespace process_id b) ≡ true
is_node_of arguments None process_id true p n = rw p refl
is_node_of arguments None process_id false p n = rw p refl
is_node_of arguments (Some s) process_id true p n =
    node_tests (is_process_text process_id) (same_name s (codes "user") || same_name s (codes "backend")) p
    (either_name (same_name s (codes "user")) (same_name s (codes "backend")) n)
is_node_of arguments (Some s) process_id false p n =
    node_tests (is_process_text process_id) (same_name s (codes "user") || same_name s (codes "backend")) p
    (either_name (same_name s (codes "user")) (same_name s (codes "backend")) n)

-- ---- the result node

first_result : (b : Bool) (index result rest : ℕ) → (index == result) ≡ b → index ≤ result
    → (index < result → suc index + rest ≡ result) → index + (if b then 0 else suc rest) ≡ result
first_result true index result rest same h later = let e = eqb-true index result same in omega arith
first_result false index result rest other h later =
    let apart : index ≢ result = λ e. true≢false (sym (eq-eqb index result e) ∙ other) in
    let less : index < result = omega arith in
    let found = later less in omega arith

result_back : (index result : ℕ) (ns : Nodes) → index ≤ result → result < index + node_count ns
    → index + result_index (nodes_list index result ns) ≡ result
result_back index result tree.no_nodes low high = absurd (omega arith)
result_back index result (tree.node id process_id namespace arguments rest) low high =
    let is = result_of_node (named_data arguments no_members) namespace process_id (index == result) in
    ap (λ b. index + (if b then 0 else suc (result_index (nodes_list (suc index) result rest)))) is
    ∙ first_result (index == result) index result _ refl low (λ less. result_back (suc index) result rest (omega arith) (omega arith))

count_past : (index result : ℕ) (ns : Nodes) → result < index → result_count (nodes_list index result ns) ≡ 0
count_past index result tree.no_nodes past = refl
count_past index result (tree.node id process_id namespace arguments rest) past =
    let other : (index == result) ≡ false = grind (arith, past) in
    let is = result_of_node (named_data arguments no_members) namespace process_id (index == result) ∙ other in
    let none = count_past (suc index) result rest (omega arith) in
    ap (λ b. (if b then 1 else 0) + result_count (nodes_list (suc index) result rest)) is ∙ omega (arith, none)

first_count : (b : Bool) (index result rest : ℕ) → (index == result) ≡ b → index ≤ result
    → (result < suc index → rest ≡ 0) → (index < result → rest ≡ 1) → (if b then 1 else 0) + rest ≡ 1
first_count true index result rest same h none later =
    let e = eqb-true index result same in
    let no_other = none (omega arith) in omega arith
first_count false index result rest other h none later =
    let apart : index ≢ result = λ e. true≢false (sym (eq-eqb index result e) ∙ other) in
    let less : index < result = omega arith in
    let found = later less in omega arith

count_one : (index result : ℕ) (ns : Nodes) → index ≤ result → result < index + node_count ns
    → result_count (nodes_list index result ns) ≡ 1
count_one index result tree.no_nodes low high = absurd (omega arith)
count_one index result (tree.node id process_id namespace arguments rest) low high =
    let is = result_of_node (named_data arguments no_members) namespace process_id (index == result) in
    ap (λ b. (if b then 1 else 0) + result_count (nodes_list (suc index) result rest)) is
    ∙ first_count (index == result) index result _ refl low (count_past (suc index) result rest)
    (λ less. count_one (suc index) result rest (omega arith) (omega arith))

-- ---- whole arguments

no_graph : (a : Argument) → is_object a ≡ false → callback_in (argument_data a) ≡ None
no_graph tree.null h = refl
no_graph (tree.flag b) h = refl
no_graph (tree.whole z) h = refl
no_graph tree.inexact h = refl
no_graph (tree.text s) h = refl
no_graph (tree.list rest) h = refl
no_graph (tree.object ms) h = absurd (true≢false h)
no_graph (tree.from_node id) h = absurd (true≢false h)
no_graph (tree.from_parameter name) h = absurd (true≢false h)
no_graph (tree.callback ns result) h = absurd (true≢false h)

no_callback_by : (b : Bool) (a : Argument) (rest : Bool) (among : Option Argument)
    → (if b then is_object a else rest) ≡ false → (rest ≡ false → among ≡ None)
    → (if b then callback_in (argument_data a) else among) ≡ None
no_callback_by true a rest among h later = no_graph a h
no_callback_by false a rest among h later = later h

no_callback : (ms : Named) → is_callback_like ms ≡ false → callback_among (named_list ms) ≡ None
no_callback tree.no_named h = refl
no_callback (tree.named name a rest) h =
    no_callback_by (same_name (codes "process_graph") name) a (is_callback_like rest) _ h (no_callback rest)

plain_back : (ds : Members) (ms : Named) → callback_among ds ≡ None → value_of false (object ds) ≡ tree.object ms
    → argument_of (object ds) ≡ tree.object ms
plain_back ds ms none is = ap (λ o. unwrap_or o (value_of false (object ds))) none ∙ is

callback_back : (ds : Members) (ns : Nodes) (result : ℕ) → built.nodes_from_data ds ≡ ns → result_index ds ≡ result
    → argument_of (object (member (codes "process_graph") (object ds) no_members)) ≡ tree.callback ns result
callback_back ds ns result nodes index = cc

same_node : (id p q : List ℕ) (s t : Option (List ℕ)) (m n : Named) (ns rest : Nodes) → p ≡ q → s ≡ t → m ≡ n → ns ≡ rest
    → tree.node id p s m ns ≡ tree.node id q t n rest
same_node id p q s t m n ns rest a b c d = cc

mutual
  argument_back : (a : Argument) → is_printable_argument a ≡ true → argument_of (argument_data a) ≡ a
  argument_back tree.null h = refl
  argument_back (tree.flag b) h = refl
  argument_back (tree.whole z) h = whole_back z h
  argument_back tree.inexact h = refl
  argument_back (tree.text s) h = refl
  argument_back (tree.list rest) h = ap tree.list (values_back rest h)
  argument_back (tree.object ms) h =
      let parts = and_parts _ _ h in
      let heads = and_parts _ _ parts.0 in
      let firsts = and_parts _ _ heads.0 in
      let straight = named_straight ms heads.1 in
      plain_back (named_data ms no_members) ms (ap callback_among straight ∙ no_callback ms (not-true _ firsts.0))
      (value_back (tree.object ms) (and_from _ _ (and_from _ _ firsts.1 heads.1) parts.1))
  argument_back (tree.from_node id) h = refl
  argument_back (tree.from_parameter name) h = refl
  argument_back (tree.callback ns result) h =
      let parts = and_parts _ _ h in
      let heads = and_parts _ _ parts.0 in
      let straight = nodes_straight 0 result ns heads.1 in
      let within : suc result ≤ node_count ns = leb-true _ _ heads.0 in
      let at : 0 + result_index (nodes_list 0 result ns) ≡ result = result_back 0 result ns (omega arith) (omega arith) in
      callback_back (nodes_data 0 result ns no_members) ns result
      (ap built.nodes_from_data straight ∙ nodes_back 0 result ns parts.1) (ap result_index straight ∙ omega arith)

  named_back : (ms : Named) → are_printable_arguments ms ≡ true → each_argument (named_list ms) ≡ ms
  named_back tree.no_named h = refl
  named_back (tree.named name a rest) h =
      let parts = and_parts _ _ h in
      let first : argument_of (argument_data a) ≡ a = argument_back a parts.0 in
      let others : each_argument (named_list rest) ≡ rest = named_back rest parts.1 in
      cc

  nodes_back : (index result : ℕ) (ns : Nodes) → are_printable_nodes ns ≡ true
      → built.nodes_from_data (nodes_list index result ns) ≡ ns
  nodes_back index result tree.no_nodes h = refl
  nodes_back index result (tree.node id process_id namespace arguments rest) h =
      let parts = and_parts _ _ h in
      let heads = and_parts _ _ parts.0 in
      let rise = (and_parts _ _ heads.0).1 in
      let inner : each_argument (named_data arguments no_members) ≡ arguments =
      ap each_argument (named_straight arguments rise) ∙ named_back arguments heads.1 in
      let process = process_of_node (named_data arguments no_members) namespace process_id (index == result) in
      let space = namespace_of_node (named_data arguments no_members) namespace process_id (index == result) in
      let others : built.nodes_from_data (nodes_list (suc index) result rest) ≡ rest = nodes_back (suc index) result rest parts.1 in
      same_node id _ process_id _ namespace _ arguments _ rest process space inner others

-- ---- no fault stands

no_graph_in : (at : List ℕ) (a : Argument) → is_object a ≡ false → graph_in at (argument_data a) ≡ None
no_graph_in at tree.null h = refl
no_graph_in at (tree.flag b) h = refl
no_graph_in at (tree.whole z) h = refl
no_graph_in at tree.inexact h = refl
no_graph_in at (tree.text s) h = refl
no_graph_in at (tree.list rest) h = refl
no_graph_in at (tree.object ms) h = absurd (true≢false h)
no_graph_in at (tree.from_node id) h = absurd (true≢false h)
no_graph_in at (tree.from_parameter name) h = absurd (true≢false h)
no_graph_in at (tree.callback ns result) h = absurd (true≢false h)

no_graph_by : (b : Bool) (at : List ℕ) (a : Argument) (rest : Bool) (among : Option Fault)
    → (if b then is_object a else rest) ≡ false → (rest ≡ false → among ≡ None)
    → (if b then graph_in at (argument_data a) else among) ≡ None
no_graph_by true at a rest among h later = no_graph_in at a h
no_graph_by false at a rest among h later = later h

no_graph_among : (at : List ℕ) (ms : Named) → is_callback_like ms ≡ false → graph_among at (named_list ms) ≡ None
no_graph_among at tree.no_named h = refl
no_graph_among at (tree.named name a rest) h =
    no_graph_by (same_name (codes "process_graph") name) at a (is_callback_like rest) _ h (no_graph_among at rest)

no_node_fault : (at id : List ℕ) (d : Data) (inside : Option Fault) → is_name id ≡ true → is_node d ≡ true → inside ≡ None
    → node_fault at id d inside ≡ None
no_node_fault at id d inside name is none = rw (name, is, none) refl

no_count_fault : (at : List ℕ) (ms : Members) → result_count ms ≡ 1 → count_fault at ms ≡ None
no_count_fault at ms one = rw one refl

-- of one more member, after none
one_after : (at id : List ℕ) (d : Data) (rest : Members) → node_fault at id d (inside_fault (node_name at id) d) ≡ None
    → nodes_fault at None rest ≡ None → nodes_fault at None (member id d rest) ≡ None
one_after at id d rest here later = ap (λ f. nodes_fault at (least None f) rest) here ∙ later

call_after : (name a : List ℕ) (d : Data) (rest : Members) → callback_fault (callback_name name a) d ≡ None
    → callbacks_fault name None rest ≡ None → callbacks_fault name None (member a d rest) ≡ None
call_after name a d rest here later = ap (λ f. callbacks_fault name (least None f) rest) here ∙ later

mutual
  callback_whole : (at : List ℕ) (a : Argument) → is_printable_argument a ≡ true → callback_fault at (argument_data a) ≡ None
  callback_whole at tree.null h = refl
  callback_whole at (tree.flag b) h = refl
  callback_whole at (tree.whole z) h = refl
  callback_whole at tree.inexact h = refl
  callback_whole at (tree.text s) h = refl
  callback_whole at (tree.list rest) h = refl
  callback_whole at (tree.object ms) h =
      let parts = and_parts _ _ h in
      let heads = and_parts _ _ parts.0 in
      let firsts = and_parts _ _ heads.0 in
      ap (graph_among at) (named_straight ms heads.1) ∙ no_graph_among at ms (not-true _ firsts.0)
  callback_whole at (tree.from_node id) h = refl
  callback_whole at (tree.from_parameter name) h = refl
  callback_whole at (tree.callback ns result) h =
      let parts = and_parts _ _ h in
      let heads = and_parts _ _ parts.0 in
      let within : suc result ≤ node_count ns = leb-true _ _ heads.0 in
      let one : result_count (nodes_list 0 result ns) ≡ 1 = count_one 0 result ns (omega arith) (omega arith) in
      ap (graph_fault at) (nodes_straight 0 result ns heads.1)
      ∙ (ap (λ f. nodes_fault at f (nodes_list 0 result ns)) (no_count_fault at (nodes_list 0 result ns) one)
      ∙ nodes_whole at 0 result ns parts.1)

  callbacks_whole : (name : List ℕ) (ms : Named) → are_printable_arguments ms ≡ true → callbacks_fault name None (named_list ms) ≡ None
  callbacks_whole name tree.no_named h = refl
  callbacks_whole name (tree.named a value rest) h =
      let parts = and_parts _ _ h in
      call_after name a (argument_data value) (named_list rest) (callback_whole (callback_name name a) value parts.0)
      (callbacks_whole name rest parts.1)

  nodes_whole : (at : List ℕ) (index result : ℕ) (ns : Nodes) → are_printable_nodes ns ≡ true
      → nodes_fault at None (nodes_list index result ns) ≡ None
  nodes_whole at index result tree.no_nodes h = refl
  nodes_whole at index result (tree.node id process_id namespace arguments rest) h =
      let parts = and_parts _ _ h in
      let heads = and_parts _ _ parts.0 in
      let rising = and_parts _ _ heads.0 in
      let texts = and_parts _ _ rising.0 in
      let names = and_parts _ _ texts.0 in
      let d = node_data (named_data arguments no_members) namespace process_id (index == result) in
      one_after at id d (nodes_list (suc index) result rest)
      (no_node_fault at id d (inside_fault (node_name at id) d) names.0
      (is_node_of (named_data arguments no_members) namespace process_id (index == result) names.1 texts.1)
      (ap (callbacks_fault (node_name at id) None) (named_straight arguments rising.1)
      ∙ callbacks_whole (node_name at id) arguments heads.1))
      (nodes_whole at (suc index) result rest parts.1)

-- ---- the whole graph

pub graph_back : (ns : Nodes) (result : ℕ) → is_printable_argument (tree.callback ns result) ≡ true
    → record { nodes = ns; result = result } ≡ graph_of (nodes_data 0 result ns no_members)
graph_back ns result h =
    let parts = and_parts _ _ h in
    let heads = and_parts _ _ parts.0 in
    let straight = nodes_straight 0 result ns heads.1 in
    let within : suc result ≤ node_count ns = leb-true _ _ heads.0 in
    let at : 0 + result_index (nodes_list 0 result ns) ≡ result = result_back 0 result ns (omega arith) (omega arith) in
    let nodes : built.nodes_from_data (nodes_data 0 result ns no_members) ≡ ns = ap built.nodes_from_data straight ∙ nodes_back 0 result ns parts.1 in
    let index : result_index (nodes_data 0 result ns no_members) ≡ result = ap result_index straight ∙ omega arith in
    cc

pub graph_whole : (ns : Nodes) (result : ℕ) → is_printable_argument (tree.callback ns result) ≡ true
    → graph_fault [] (nodes_data 0 result ns no_members) ≡ None
graph_whole ns result h = callback_whole [] (tree.callback ns result) h
