-- What a definition that goes through the members of an object finds is the member that a look-up finds.
use Rattle.std.proofs.Common.{◌≡◌, ℕ, List, codes, refl, sym, ap, ◌∙◌, subst, Option, Some, None, Ordering, Less, Equal, Greater, nat_cmp, is_eq, Bool, true, false, if◌then◌else◌, option_and_then, unwrap_or}
use Rattle.std.specs.Cmp.Lexicographic.{slice_cmp}
use Rattle.std.specs.Ordering.{match_ordering}
use Rattle.std.proofs.lemmas.Map.Text.{is_eq-slice_cmp}
use Rattle.serde_json.specs.Data.{Data, null, boolean, number, string, array, object, Members, no_members, member}
use Rattle.serde_json.specs.Find.{get, get_member, as_object}
use Rattle.oe_dims.specs.Names.{same_name}
use Rattle.oe_dims.proofs.OrderLemmas.{same_name-bytes_eq}
use Rattle.oe_graph.specs.Form.{arguments_in, nodes_in}
use Rattle.oe_graph.specs.Tree as tree
use Rattle.oe_graph.specs.Tree.{Argument, Named}
use Rattle.oe_graph.specs.Built.{arguments_from_data, arguments_among, named_in, each_argument, argument_of, callback_among, callback_in, value_of, nodes_from_data, result_index}
use Rattle.oe_graph.specs.Walked.{inside_fault, arguments_fault, each_fault, callbacks_fault, callback_fault, graph_among, graph_in, graph_fault}
use Rattle.oe_graph.specs.declared.fault.Fault.{Fault}

pick_at : {A : Type 0} (f : Option Data → A) (o : Ordering) (b : Bool) (d : Data) (rest : Option Data)
    → is_eq o ≡ b → f (match_ordering o rest (Some d) rest) ≡ (if b then f (Some d) else f rest)
pick_at f Less b d rest e = subst (λ b. f rest ≡ (if b then f (Some d) else f rest)) e refl
pick_at f Equal b d rest e = subst (λ b. f (Some d) ≡ (if b then f (Some d) else f rest)) e refl
pick_at f Greater b d rest e = subst (λ b. f rest ≡ (if b then f (Some d) else f rest)) e refl

pick : {A : Type 0} (f : Option Data → A) (name k : List ℕ) (d : Data) (rest : Option Data)
    → f (match_ordering (slice_cmp nat_cmp name k) rest (Some d) rest) ≡ (if same_name name k then f (Some d) else f rest)
pick f name k d rest = pick_at f _ _ d rest (is_eq-slice_cmp name k ∙ same_name-bytes_eq name k)

abbrev or_none : {A : Type 0} → A → (Data → A) → Option Data → A
or_none none f None = none
or_none none f (Some d) = f d

abbrev of_found : {A : Type 0} → A → (Members → A) → Option Members → A
of_found none some None = none
of_found none some (Some ms) = some ms

-- A definition `among` goes through members to the one of a key, and `of` makes of its value what `some` does of an
-- object's members, and `none` of any other.
module _ {A : Type 0} (none : A) (some : Members → A) (key : List ℕ) (of : Data → A) (among : Members → A)
    (of_null : of null ≡ none) (of_boolean : (b : Bool) → of (boolean b) ≡ none) (of_number : (n : _) → of (number n) ≡ none)
    (of_string : (s : List ℕ) → of (string s) ≡ none) (of_array : (ds : _) → of (array ds) ≡ none)
    (of_object : (ms : Members) → of (object ms) ≡ some ms)
    (among_none : among no_members ≡ none)
    (among_more : (k : List ℕ) (d : Data) (rest : Members)
    → among (member k d rest) ≡ (if same_name key k then of d else among rest)) where
  found : (ms : Members) → or_none none of (get_member key ms) ≡ among ms
  found no_members = sym among_none
  found (member k d rest) =
      pick (or_none none of) key k d (get_member key rest)
      ∙ (ap (λ (x : A). if same_name key k then of d else x) (found rest) ∙ sym (among_more k d rest))

  by_object : (o : Option Data) → of_found none some (option_and_then as_object o) ≡ or_none none of o
  by_object None = refl
  by_object (Some null) = sym of_null
  by_object (Some (boolean b)) = sym (of_boolean b)
  by_object (Some (number n)) = sym (of_number n)
  by_object (Some (string s)) = sym (of_string s)
  by_object (Some (array ds)) = sym (of_array ds)
  by_object (Some (object ms)) = sym (of_object ms)

  pub object_among : (ms : Members) → of_found none some (option_and_then as_object (get_member key ms)) ≡ among ms
  object_among ms = by_object (get_member key ms) ∙ found ms

-- ---- the arguments of a node

arguments_by : (d : Data) → of_found tree.no_named each_argument (arguments_in d) ≡ arguments_from_data d
arguments_by null = refl
arguments_by (boolean b) = refl
arguments_by (number n) = refl
arguments_by (string s) = refl
arguments_by (array ds) = refl
arguments_by (object ms) =
    object_among tree.no_named each_argument (codes "arguments") named_in arguments_among
    refl (λ b. refl) (λ n. refl) (λ s. refl) (λ ds. refl) (λ ns. refl) refl (λ k d rest. refl) ms

pub arguments_with : (d : Data) (ms : Members) → Some ms ≡ arguments_in d → each_argument ms ≡ arguments_from_data d
arguments_with d ms is = ap (of_found tree.no_named each_argument) is ∙ arguments_by d

pub arguments_without : (d : Data) → None ≡ arguments_in d → tree.no_named ≡ arguments_from_data d
arguments_without d is = ap (of_found tree.no_named each_argument) is ∙ arguments_by d

-- ---- a whole argument

abbrev callback_of : Members → Option Argument
callback_of ns = Some (tree.callback (nodes_from_data ns) (result_index ns))

callback_by : (ms : Members) → of_found None callback_of (nodes_in (object ms)) ≡ callback_among ms
callback_by ms =
    object_among None callback_of (codes "process_graph") callback_in callback_among
    refl (λ b. refl) (λ n. refl) (λ s. refl) (λ ds. refl) (λ ns. refl) refl (λ k d rest. refl) ms

pub argument_with : (d : Data) (ns : Members) → Some ns ≡ nodes_in d → tree.callback (nodes_from_data ns) (result_index ns) ≡ argument_of d
argument_with null ns is = absurd cc
argument_with (boolean b) ns is = absurd cc
argument_with (number n) ns is = absurd cc
argument_with (string s) ns is = absurd cc
argument_with (array ds) ns is = absurd cc
argument_with (object ms) ns is =
    ap (λ o. unwrap_or o (value_of false (object ms))) (ap (of_found None callback_of) is ∙ callback_by ms)

pub argument_without : (d : Data) → None ≡ nodes_in d → value_of false d ≡ argument_of d
argument_without null is = refl
argument_without (boolean b) is = refl
argument_without (number n) is = refl
argument_without (string s) is = refl
argument_without (array ds) is = refl
argument_without (object ms) is =
    ap (λ o. unwrap_or o (value_of false (object ms))) (ap (of_found None callback_of) is ∙ callback_by ms)

-- ---- the least faults inside

inside_by : (name : List ℕ) (d : Data) → of_found None (callbacks_fault name None) (arguments_in d) ≡ inside_fault name d
inside_by name null = refl
inside_by name (boolean b) = refl
inside_by name (number n) = refl
inside_by name (string s) = refl
inside_by name (array ds) = refl
inside_by name (object ms) =
    object_among None (callbacks_fault name None) (codes "arguments") (each_fault name) (arguments_fault name)
    refl (λ b. refl) (λ n. refl) (λ s. refl) (λ ds. refl) (λ ns. refl) refl (λ k d rest. refl) ms

pub inside_with : (name : List ℕ) (d : Data) (ms : Members) → Some ms ≡ arguments_in d → callbacks_fault name None ms ≡ inside_fault name d
inside_with name d ms is = ap (of_found None (callbacks_fault name None)) is ∙ inside_by name d

pub inside_without : (name : List ℕ) (d : Data) → None ≡ arguments_in d → None ≡ inside_fault name d
inside_without name d is = ap (of_found None (callbacks_fault name None)) is ∙ inside_by name d

callback_fault_by : (at : List ℕ) (d : Data) → of_found None (graph_fault at) (nodes_in d) ≡ callback_fault at d
callback_fault_by at null = refl
callback_fault_by at (boolean b) = refl
callback_fault_by at (number n) = refl
callback_fault_by at (string s) = refl
callback_fault_by at (array ds) = refl
callback_fault_by at (object ms) =
    object_among None (graph_fault at) (codes "process_graph") (graph_in at) (graph_among at)
    refl (λ b. refl) (λ n. refl) (λ s. refl) (λ ds. refl) (λ ns. refl) refl (λ k d rest. refl) ms

pub callback_with : (at : List ℕ) (d : Data) (ns : Members) → Some ns ≡ nodes_in d → graph_fault at ns ≡ callback_fault at d
callback_with at d ns is = ap (of_found None (graph_fault at)) is ∙ callback_fault_by at d

pub callback_without : (at : List ℕ) (d : Data) → None ≡ nodes_in d → None ≡ callback_fault at d
callback_without at d is = ap (of_found None (graph_fault at)) is ∙ callback_fault_by at d
