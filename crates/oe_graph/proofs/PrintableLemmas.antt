-- A graph without a fault of its form, of a value in the form that reading gives, is printable.
use Rattle.std.proofs.Common.{◌≡◌, ◌≢◌, ℕ, suc, pos, negsuc, ℤ, ◌+◌, ◌<◌, ◌≤◌, ◌==◌, ◌^◌, ◌&&◌, ◌||◌, not, nat_lt, List, [], ◌∷◌, codes, Bool, true, false, if◌then◌else◌, Option, Some, None, IfSome, unwrap_or, option_map, option_and_then, is_some, refl, sym, ap, ◌∙◌, true≢false, arith, eqb-true}
use Rattle.std.specs.Option.{option_map_or}
use Rattle.std.specs.Prelude.{nat_eq}
use Rattle.std.proofs.lemmas.Bool.{and_parts, and_from, false≢true, le-leb}
use Rattle.serde_json.specs.Data.{Num, unsigned, negative, float, Data, null, boolean, number, string, array, object, Items, no_items, item, Members, no_members, member}
use Rattle.serde_json.specs.Find.{get, as_str}
use Rattle.oe_dims.specs.Names.{is_name, same_name, names_rise}
use Rattle.oe_graph.specs.AsRead.{is_number_as_read, member_names, is_as_read, are_as_read, members_as_read}
use Rattle.oe_graph.specs.Built.{is_literal, number_argument, reference, reference_by, value_of, values_of, members_of, argument_of, arguments_from_data, arguments_among, named_in, each_argument, callback_among, callback_in, process_id_of, namespace_of, nodes_from_data, result_index, graph_of}
use Rattle.oe_graph.specs.Faults.{least, is_before}
use Rattle.oe_graph.specs.Form.{is_absent_or, is_process_id, is_namespace, is_flag, is_description, arguments_in, is_node, is_result, result_count, node_name, callback_name}
use Rattle.oe_graph.specs.Printed.{names_of, ids_of, node_count, is_whole, is_object, is_reference_like, is_callback_like, is_process_text, is_namespace_text, is_plain_value, are_plain_values, are_plain_members, is_printable_argument, are_printable_arguments, are_printable_nodes, IsPrintable}
use Rattle.oe_graph.specs.Tree as tree
use Rattle.oe_graph.specs.Tree.{Argument, Named}
use Rattle.oe_graph.specs.Walked.{nodes_fault, own_fault, node_fault, inside_fault, arguments_fault, each_fault, callbacks_fault, callback_fault, graph_among, graph_in, count_fault, graph_fault}
use Rattle.oe_graph.specs.declared.fault.Fault.{Fault}

-- ---- no fault was found

picks : (b : Bool) (f g : Fault) → (if b then Some f else Some g) ≢ None
picks true f g = λ is. absurd cc
picks false f g = λ is. absurd cc

least_none : (a b : Option Fault) → least a b ≡ None → (a ≡ None) × (b ≡ None)
least_none None b h = (refl, h)
least_none (Some a) None h = absurd cc
least_none (Some a) (Some b) h = absurd (picks (is_before b a) b a h)

unless : (b : Bool) (f : Fault) → (if b then None else Some f) ≡ None → b ≡ true
unless true f h = refl
unless false f h = absurd cc

by_name : (b : Bool) (own inside : Option Fault) (f : Fault) → (if b then least own inside else Some f) ≡ None
    → (b ≡ true) × ((own ≡ None) × (inside ≡ None))
by_name true own inside f h = (refl, least_none own inside h)
by_name false own inside f h = absurd cc

nodes_stay : (at : List ℕ) (found : Option Fault) (ms : Members) → nodes_fault at found ms ≡ None → found ≡ None
nodes_stay at found no_members h = h
nodes_stay at found (member id d rest) h =
    let here = node_fault at id d (inside_fault (node_name at id) d) in
    (least_none found here (nodes_stay at (least found here) rest h)).0

callbacks_stay : (name : List ℕ) (found : Option Fault) (ms : Members) → callbacks_fault name found ms ≡ None
    → found ≡ None
callbacks_stay name found no_members h = h
callbacks_stay name found (member a d rest) h =
    let here = callback_fault (callback_name name a) d in
    (least_none found here (callbacks_stay name (least found here) rest h)).0

-- ---- numbers

-- a whole number that is a literal, or a number that is none
data IsNumber : Argument → Type 0 where
  literal : (z : ℤ) → is_whole z ≡ true → IsNumber (tree.whole z)
  no_literal : IsNumber tree.inexact

least_apart : (n : ℕ) → nat_lt n (2 ^ 63) ≡ true → not (nat_eq n 9223372036854775807) ≡ true
    → nat_lt n 9223372036854775807 ≡ true
least_apart n fits other = grind (arith, fits, other)

fitting : (n : ℕ) (b : Bool) → nat_lt n (2 ^ 63) ≡ b
    → IsNumber (unwrap_or (option_map (λ z. if is_literal z then tree.whole z else tree.inexact)
    (if b then Some (pos n) else None)) tree.inexact)
fitting n true is = literal (pos n) is
fitting n false is = no_literal

below : (n : ℕ) (b : Bool) → nat_lt n (2 ^ 63) ≡ true → not (nat_eq n 9223372036854775807) ≡ b
    → IsNumber (if b then tree.whole (negsuc n) else tree.inexact)
below n true fits is = literal (negsuc n) (least_apart n fits is)
below n false fits is = no_literal

number_is : (n : Num) → is_number_as_read n ≡ true → IsNumber (number_argument n)
number_is (unsigned n) h = fitting n (nat_lt n (2 ^ 63)) refl
number_is (negative (pos n)) h = absurd (false≢true h)
number_is (negative (negsuc n)) h = below n (not (nat_eq n 9223372036854775807)) h refl
number_is (float x) h = no_literal

plain_number : (a : Argument) → IsNumber a → is_plain_value a ≡ true
plain_number a (literal z is) = is
plain_number a no_literal = refl

printable_number : (a : Argument) → IsNumber a → is_printable_argument a ≡ true
printable_number a (literal z is) = is
printable_number a no_literal = refl

no_object_number : (a : Argument) → IsNumber a → is_object a ≡ false
no_object_number a (literal z is) = refl
no_object_number a no_literal = refl

-- ---- references

data IsReference : Argument → Type 0 where
  to_node : (id : List ℕ) → IsReference (tree.from_node id)
  to_parameter : (name : List ℕ) → IsReference (tree.from_parameter name)

text_reference : (f : List ℕ → Argument) → ((s : List ℕ) → IsReference (f s)) → (d : Data)
    → IfSome (option_map f (as_str d)) IsReference
text_reference f refers null = tt
text_reference f refers (boolean b) = tt
text_reference f refers (number n) = tt
text_reference f refers (string s) = refers s
text_reference f refers (array ds) = tt
text_reference f refers (object ms) = tt

reference_if : (b c : Bool) (o p : Option Argument) → IfSome o IsReference → IfSome p IsReference
    → IfSome (if b then o else (if c then p else None)) IsReference
reference_if true c o p h k = h
reference_if false true o p h k = k
reference_if false false o p h k = tt

reference_is : (ms : Members) → IfSome (reference ms) IsReference
reference_is no_members = tt
reference_is (member name d no_members) =
    reference_if (same_name name (codes "from_node")) (same_name name (codes "from_parameter"))
    (option_map tree.from_node (as_str d)) (option_map tree.from_parameter (as_str d))
    (text_reference tree.from_node to_node d) (text_reference tree.from_parameter to_parameter d)
reference_is (member name d (member other e rest)) = tt

-- an object is a reference or an object
data IsObject (ms : Members) : Argument → Type 0 where
  refers : {a : Argument} → IsReference a → IsObject ms a
  plain : reference ms ≡ None → IsObject ms (tree.object (members_of false ms))

object_by : (ms : Members) (o : Option Argument) → reference ms ≡ o → IfSome o IsReference
    → IsObject ms (unwrap_or o (tree.object (members_of false ms)))
object_by ms None is h = plain is
object_by ms (Some a) is h = refers h

object_is : (ms : Members) → IsObject ms (value_of false (object ms))
object_is ms = object_by ms (reference ms) refl (reference_is ms)

-- ---- no object has the form of a reference

one_like : (name : List ℕ) (a : Argument) → ((s : List ℕ) → a ≢ tree.text s)
    → is_reference_like (tree.named name a tree.no_named) ≡ false
one_like name tree.null h = refl
one_like name (tree.flag b) h = refl
one_like name (tree.whole z) h = refl
one_like name tree.inexact h = refl
one_like name (tree.text s) h = absurd (h s refl)
one_like name (tree.list rest) h = refl
one_like name (tree.object ms) h = refl
one_like name (tree.from_node id) h = refl
one_like name (tree.from_parameter other) h = refl
one_like name (tree.callback ns result) h = refl

two_like : (name : List ℕ) (a : Argument) (other : List ℕ) (b : Argument) (rest : Named)
    → is_reference_like (tree.named name a (tree.named other b rest)) ≡ false
two_like name tree.null other b rest = refl
two_like name (tree.flag c) other b rest = refl
two_like name (tree.whole z) other b rest = refl
two_like name tree.inexact other b rest = refl
two_like name (tree.text s) other b rest = refl
two_like name (tree.list items) other b rest = refl
two_like name (tree.object ms) other b rest = refl
two_like name (tree.from_node id) other b rest = refl
two_like name (tree.from_parameter p) other b rest = refl
two_like name (tree.callback ns result) other b rest = refl

number_no_text : (a : Argument) → IsNumber a → (s : List ℕ) → a ≢ tree.text s
number_no_text a (literal z is) s = λ e. absurd cc
number_no_text a no_literal s = λ e. absurd cc

object_no_text : (ms : Members) (a : Argument) → IsObject ms a → (s : List ℕ) → a ≢ tree.text s
object_no_text ms a (refers (to_node id)) s = λ e. absurd cc
object_no_text ms a (refers (to_parameter name)) s = λ e. absurd cc
object_no_text ms a (plain none) s = λ e. absurd cc

neither : (b c : Bool) (x y : Argument) → (if b then Some x else (if c then Some y else None)) ≡ None
    → (if b then true else c) ≡ false
neither true c x y h = absurd cc
neither false true x y h = absurd cc
neither false false x y h = refl

member_like : (name : List ℕ) (d : Data) → is_as_read d ≡ true → reference_by (name, d) ≡ None
    → is_reference_like (tree.named name (value_of false d) tree.no_named) ≡ false
member_like name null h none = refl
member_like name (boolean b) h none = refl
member_like name (number n) h none =
    one_like name (number_argument n) (number_no_text (number_argument n) (number_is n h))
member_like name (string s) h none =
    neither (same_name name (codes "from_node")) (same_name name (codes "from_parameter")) (tree.from_node s)
    (tree.from_parameter s) none
member_like name (array ds) h none = refl
member_like name (object ms) h none =
    one_like name (value_of false (object ms)) (object_no_text ms (value_of false (object ms)) (object_is ms))

reference_like : (ms : Members) → members_as_read ms ≡ true → reference ms ≡ None
    → is_reference_like (members_of false ms) ≡ false
reference_like no_members h none = refl
reference_like (member name d no_members) h none = member_like name d (and_parts (is_as_read d) true h).0 none
reference_like (member name d (member other e rest)) h none =
    two_like name (value_of false d) other (value_of false e) (members_of false rest)

-- ---- values

names-members_of : (b : Bool) (ms : Members) → names_of (members_of b ms) ≡ member_names ms
names-members_of b no_members = refl
names-members_of b (member name d ms) = ap (λ names. name ∷ names) (names-members_of b ms)

not_false : (b : Bool) → b ≡ false → not b ≡ true
not_false true h = absurd (true≢false h)
not_false false h = refl

rises : (names others : List (List ℕ)) → others ≡ names → names_rise names ≡ true → names_rise others ≡ true
rises names others same h = ap names_rise same ∙ h

plain_object : (ms : Members) (a : Argument) → IsObject ms a → names_rise (member_names ms) ≡ true
    → members_as_read ms ≡ true
    → are_plain_members (members_of false ms) ≡ true → is_plain_value a ≡ true
plain_object ms a (refers (to_node id)) rise h values = refl
plain_object ms a (refers (to_parameter name)) rise h values = refl
plain_object ms a (plain none) rise h values =
    and_from _ _ (and_from _ _ (not_false _ (reference_like ms h none))
    (rises (member_names ms) (names_of (members_of false ms)) (names-members_of false ms) rise)) values

mutual
  value_plain : (d : Data) → is_as_read d ≡ true → is_plain_value (value_of false d) ≡ true
  value_plain null h = refl
  value_plain (boolean b) h = refl
  value_plain (number n) h = plain_number (number_argument n) (number_is n h)
  value_plain (string s) h = refl
  value_plain (array ds) h = values_plain ds h
  value_plain (object ms) h =
      let parts = and_parts (names_rise (member_names ms)) (members_as_read ms) h in
      plain_object ms (value_of false (object ms)) (object_is ms) parts.0 parts.1 (members_plain ms parts.1)

  values_plain : (ds : Items) → are_as_read ds ≡ true → are_plain_values (values_of false ds) ≡ true
  values_plain no_items h = refl
  values_plain (item d ds) h =
      let parts = and_parts (is_as_read d) (are_as_read ds) h in
      and_from _ _ (value_plain d parts.0) (values_plain ds parts.1)

  members_plain : (ms : Members) → members_as_read ms ≡ true → are_plain_members (members_of false ms) ≡ true
  members_plain no_members h = refl
  members_plain (member name d ms) h =
      let parts = and_parts (is_as_read d) (members_as_read ms) h in
      and_from _ _ (value_plain d parts.0) (members_plain ms parts.1)

-- ---- no object that is a whole argument has the form of a callback

no_object : (d : Data) → is_as_read d ≡ true → callback_in d ≡ None → is_object (value_of false d) ≡ false
no_object null h none = refl
no_object (boolean b) h none = refl
no_object (number n) h none = no_object_number (number_argument n) (number_is n h)
no_object (string s) h none = refl
no_object (array ds) h none = refl
no_object (object ms) h none = absurd cc

like_if : (b : Bool) (o p : Option Argument) (x y : Bool) → (if b then o else p) ≡ None → (o ≡ None → x ≡ false)
    → (p ≡ None → y ≡ false) → (if b then x else y) ≡ false
like_if true o p x y h first later = first h
like_if false o p x y h first later = later h

callback_like : (ms : Members) → members_as_read ms ≡ true → callback_among ms ≡ None
    → is_callback_like (members_of false ms) ≡ false
callback_like no_members h none = refl
callback_like (member name d rest) h none =
    let parts = and_parts (is_as_read d) (members_as_read rest) h in
    like_if (same_name (codes "process_graph") name) (callback_in d) (callback_among rest)
    (is_object (value_of false d))
    (is_callback_like (members_of false rest)) none (no_object d parts.0) (callback_like rest parts.1)

-- ---- the texts of a node

process_in : (d : Data) → is_process_id d ≡ true → is_process_text (unwrap_or (as_str d) []) ≡ true
process_in null h = absurd (false≢true h)
process_in (boolean b) h = absurd (false≢true h)
process_in (number n) h = absurd (false≢true h)
process_in (string s) h = h
process_in (array ds) h = absurd (false≢true h)
process_in (object ms) h = absurd (false≢true h)

process_text : (o : Option Data) → option_map_or is_process_id o false ≡ true
    → is_process_text (unwrap_or (option_and_then as_str o) []) ≡ true
process_text None h = absurd (false≢true h)
process_text (Some d) h = process_in d h

or_if : (a b : Bool) → (a || b) ≡ true → (if a then true else b) ≡ true
or_if true b h = refl
or_if false b h = h

namespace_in : (d : Data) → is_namespace d ≡ true → is_namespace_text (as_str d) ≡ true
namespace_in null h = refl
namespace_in (boolean b) h = refl
namespace_in (number n) h = refl
namespace_in (string s) h = or_if (same_name s (codes "user")) (same_name s (codes "backend")) h
namespace_in (array ds) h = refl
namespace_in (object ms) h = refl

namespace_text : (o : Option Data) → option_map_or is_namespace o true ≡ true
    → is_namespace_text (option_and_then as_str o) ≡ true
namespace_text None h = refl
namespace_text (Some d) h = namespace_in d h

-- ---- the result

index_if : (b : Bool) (c i n : ℕ) → 0 < (if b then 1 else 0) + c → (0 < c → i < n) → (if b then 0 else suc i) < suc n
index_if true c i n h later = omega arith
index_if false c i n h later = let less = later (omega arith) in omega arith

result_within : (ms : Members) → 0 < result_count ms → result_index ms < node_count (nodes_from_data ms)
result_within no_members h = absurd (omega arith)
result_within (member id d rest) h =
    index_if (is_result d) (result_count rest) (result_index rest) (node_count (nodes_from_data rest)) h
    (result_within rest)

ids-nodes_from_data : (ms : Members) → ids_of (nodes_from_data ms) ≡ member_names ms
ids-nodes_from_data no_members = refl
ids-nodes_from_data (member id d rest) = ap (λ names. id ∷ names) (ids-nodes_from_data rest)

names-each_argument : (ms : Members) → names_of (each_argument ms) ≡ member_names ms
names-each_argument no_members = refl
names-each_argument (member name d rest) = ap (λ names. name ∷ names) (names-each_argument rest)

-- ---- nodes and whole arguments

abbrev ArePrintable : Named → Type 0
ArePrintable ms = (names_rise (names_of ms) ≡ true) × (are_printable_arguments ms ≡ true)

abbrev IfPrintable : Option Argument → Type 0
IfPrintable o = IfSome o (λ a. is_printable_argument a ≡ true)

arguments_if : (b : Bool) (x y : Option Fault) (m n : Named) → (if b then x else y) ≡ None → (x ≡ None → ArePrintable m)
    → (y ≡ None → ArePrintable n) → ArePrintable (if b then m else n)
arguments_if true x y m n h first later = first h
arguments_if false x y m n h first later = later h

callback_if : (b : Bool) (x y : Option Fault) (o p : Option Argument) → (if b then x else y) ≡ None
    → (x ≡ None → IfPrintable o)
    → (y ≡ None → IfPrintable p) → IfPrintable (if b then o else p)
callback_if true x y o p h first later = first h
callback_if false x y o p h first later = later h

printable_object : (ms : Members) (a : Argument) → IsObject ms a → callback_among ms ≡ None
    → names_rise (member_names ms) ≡ true
    → members_as_read ms ≡ true → is_printable_argument a ≡ true
printable_object ms a (refers (to_node id)) none rise h = refl
printable_object ms a (refers (to_parameter name)) none rise h = refl
printable_object ms a (plain no_reference) none rise h =
    and_from _ _ (and_from _ _
    (and_from _ _ (not_false _ (callback_like ms h none)) (not_false _ (reference_like ms h no_reference)))
    (rises (member_names ms) (names_of (members_of false ms)) (names-members_of false ms) rise)) (members_plain ms h)

callback_or : (ms : Members) (o : Option Argument) → callback_among ms ≡ o → IfPrintable o
    → names_rise (member_names ms) ≡ true
    → members_as_read ms ≡ true → is_printable_argument (unwrap_or o (value_of false (object ms))) ≡ true
callback_or ms None is found rise h = printable_object ms (value_of false (object ms)) (object_is ms) is rise h
callback_or ms (Some a) is found rise h = found

counted : (at : List ℕ) (ms : Members) → count_fault at ms ≡ None → result_count ms ≡ 1
counted at ms none = eqb-true (result_count ms) 1 (unless (result_count ms == 1) _ none)

callback_of : (at : List ℕ) (ns : Members) → count_fault at ns ≡ None → names_rise (member_names ns) ≡ true
    → are_printable_nodes (nodes_from_data ns) ≡ true
    → is_printable_argument (tree.callback (nodes_from_data ns) (result_index ns)) ≡ true
callback_of at ns none rise nodes =
    let one = counted at ns none in
    let within : suc (result_index ns) ≤ node_count (nodes_from_data ns) =
    let less = result_within ns (omega arith) in omega arith in
    and_from _ _ (and_from _ _ (le-leb _ _ within)
    (rises (member_names ns) (ids_of (nodes_from_data ns)) (ids-nodes_from_data ns) rise)) nodes

one_node : (id : List ℕ) (d : Data) (rest : Members) → is_name id ≡ true → is_node d ≡ true
    → ArePrintable (arguments_from_data d) → are_printable_nodes (nodes_from_data rest) ≡ true
    → are_printable_nodes (nodes_from_data (member id d rest)) ≡ true
one_node id d rest name is arguments nodes =
    let process = option_map_or is_process_id (get (codes "process_id") d) false in
    let arguments_there = is_some (arguments_in d) in
    let space = is_absent_or is_namespace (codes "namespace") d in
    let flag = is_absent_or is_flag (codes "result") d in
    let described = and_parts (process && arguments_there && space && flag) (is_absent_or is_description (codes "description") d) is in
    let flagged = and_parts (process && arguments_there && space) flag described.0 in
    let spaced = and_parts (process && arguments_there) space flagged.0 in
    let named = and_parts process arguments_there spaced.0 in
    let text : is_process_text (process_id_of d) ≡ true = process_text (get (codes "process_id") d) named.0 in
    let fits : is_namespace_text (namespace_of d) ≡ true = namespace_text (get (codes "namespace") d) spaced.1 in
    and_from _ _ (and_from _ _ (and_from _ _ (and_from _ _ (and_from _ _ name text) fits) arguments.0) arguments.1) nodes

mutual
  nodes_printable : (at : List ℕ) (ms : Members) → members_as_read ms ≡ true → nodes_fault at None ms ≡ None
      → are_printable_nodes (nodes_from_data ms) ≡ true
  nodes_printable at no_members h none = refl
  nodes_printable at (member id d rest) h none =
      let parts = and_parts (is_as_read d) (members_as_read rest) h in
      let name = node_name at id in
      let here = node_fault at id d (inside_fault name d) in
      let no_fault : here ≡ None = nodes_stay at here rest none in
      let found = by_name (is_name id) (own_fault name d) (inside_fault name d) _ no_fault in
      let others : nodes_fault at None rest ≡ None = ap (λ f. nodes_fault at f rest) (sym no_fault) ∙ none in
      one_node id d rest found.0 (unless (is_node d) _ found.1.0) (node_printable name d parts.0 found.1.1)
      (nodes_printable at rest parts.1 others)

  node_printable : (name : List ℕ) (d : Data) → is_as_read d ≡ true → inside_fault name d ≡ None
      → ArePrintable (arguments_from_data d)
  node_printable name null h none = (refl, refl)
  node_printable name (boolean b) h none = (refl, refl)
  node_printable name (number n) h none = (refl, refl)
  node_printable name (string s) h none = (refl, refl)
  node_printable name (array ds) h none = (refl, refl)
  node_printable name (object ms) h none =
      arguments_printable name ms (and_parts (names_rise (member_names ms)) (members_as_read ms) h).1 none

  arguments_printable : (name : List ℕ) (ms : Members) → members_as_read ms ≡ true → arguments_fault name ms ≡ None
      → ArePrintable (arguments_among ms)
  arguments_printable name no_members h none = (refl, refl)
  arguments_printable name (member k d rest) h none =
      let parts = and_parts (is_as_read d) (members_as_read rest) h in
      arguments_if (same_name (codes "arguments") k) (each_fault name d) (arguments_fault name rest) (named_in d)
      (arguments_among rest)
      none (each_printable name d parts.0) (arguments_printable name rest parts.1)

  each_printable : (name : List ℕ) (d : Data) → is_as_read d ≡ true → each_fault name d ≡ None
      → ArePrintable (named_in d)
  each_printable name null h none = (refl, refl)
  each_printable name (boolean b) h none = (refl, refl)
  each_printable name (number n) h none = (refl, refl)
  each_printable name (string s) h none = (refl, refl)
  each_printable name (array ds) h none = (refl, refl)
  each_printable name (object ms) h none =
      let parts = and_parts (names_rise (member_names ms)) (members_as_read ms) h in (
        rises (member_names ms) (names_of (each_argument ms)) (names-each_argument ms) parts.0,
        members_printable name ms parts.1 none,
      )

  members_printable : (name : List ℕ) (ms : Members) → members_as_read ms ≡ true → callbacks_fault name None ms ≡ None
      → are_printable_arguments (each_argument ms) ≡ true
  members_printable name no_members h none = refl
  members_printable name (member a d rest) h none =
      let parts = and_parts (is_as_read d) (members_as_read rest) h in
      let here = callback_fault (callback_name name a) d in
      let no_fault : here ≡ None = callbacks_stay name here rest none in
      let others : callbacks_fault name None rest ≡ None = ap (λ f. callbacks_fault name f rest) (sym no_fault) ∙ none
      in
      and_from _ _ (argument_printable (callback_name name a) d parts.0 no_fault)
      (members_printable name rest parts.1 others)

  argument_printable : (at : List ℕ) (d : Data) → is_as_read d ≡ true → callback_fault at d ≡ None
      → is_printable_argument (argument_of d) ≡ true
  argument_printable at null h none = refl
  argument_printable at (boolean b) h none = refl
  argument_printable at (number n) h none = printable_number (number_argument n) (number_is n h)
  argument_printable at (string s) h none = refl
  argument_printable at (array ds) h none = values_plain ds h
  argument_printable at (object ms) h none =
      let parts = and_parts (names_rise (member_names ms)) (members_as_read ms) h in
      callback_or ms (callback_among ms) refl (callback_printable at ms parts.1 none) parts.0 parts.1

  callback_printable : (at : List ℕ) (ms : Members) → members_as_read ms ≡ true → graph_among at ms ≡ None
      → IfPrintable (callback_among ms)
  callback_printable at no_members h none = tt
  callback_printable at (member k d rest) h none =
      let parts = and_parts (is_as_read d) (members_as_read rest) h in
      callback_if (same_name (codes "process_graph") k) (graph_in at d) (graph_among at rest) (callback_in d)
      (callback_among rest)
      none (graph_printable at d parts.0) (callback_printable at rest parts.1)

  graph_printable : (at : List ℕ) (d : Data) → is_as_read d ≡ true → graph_in at d ≡ None → IfPrintable (callback_in d)
  graph_printable at null h none = tt
  graph_printable at (boolean b) h none = tt
  graph_printable at (number n) h none = tt
  graph_printable at (string s) h none = tt
  graph_printable at (array ds) h none = tt
  graph_printable at (object ns) h none =
      let parts = and_parts (names_rise (member_names ns)) (members_as_read ns) h in
      let no_fault : count_fault at ns ≡ None = nodes_stay at (count_fault at ns) ns none in
      let nodes : nodes_fault at None ns ≡ None = ap (λ f. nodes_fault at f ns) (sym no_fault) ∙ none in
      callback_of at ns no_fault parts.0 (nodes_printable at ns parts.1 nodes)

-- the main graph
pub main_printable : (at : List ℕ) (nodes : Members) → (names_rise (member_names nodes) && members_as_read nodes) ≡ true
    → graph_fault at nodes ≡ None → IsPrintable (graph_of nodes)
main_printable at nodes h none = graph_printable at (object nodes) h none
