-- What is read is printable and valid: graphs, and stored processes, whose defaults are plain values.
use Rattle.std.proofs.Common.{◌≡◌, ℕ, zero, suc, ◌<◌, ◌&&◌, List, [], length, slice_index_or, Contains, codes, Bool, true, false, if◌then◌else◌, Option, Some, None, unwrap_or, option_map, refl, sym, ap, ◌∙◌, subst, arith}
use Rattle.std.proofs.lemmas.Bool.{and_parts, and_from, false≢true}
use Rattle.std.specs.Prelude.{ℤ}
use Rattle.serde_json.specs.Data.{Data, null, boolean, number, string, array, object, Items, no_items, item, Members, no_members, member}
use Rattle.serde_json.specs.Find.{get, as_i64}
use Rattle.oe_dims.specs.Names.{is_name, names_rise}
use Rattle.oe_graph.specs.AsRead.{is_as_read}
use Rattle.oe_graph.specs.Built.{is_literal, value_of, values_of, members_of, graph_of}
use Rattle.oe_graph.specs.Form.{nodes_in, StandsIn, of_value}
use Rattle.oe_graph.specs.Parameters.{each_parameter, listed_parameters, of_graph}
use Rattle.oe_graph.specs.Printed.{names_of, is_process_text, is_namespace_text, is_plain_value, are_plain_values, are_plain_members, is_printable_argument, are_printable_arguments, are_printable_nodes, IsPrintable}
use Rattle.oe_graph.specs.Read.{IsFaultless, IsGraphOf, Reads, ReadsStored}
use Rattle.oe_graph.specs.Tree as tree
use Rattle.oe_graph.specs.Tree.{Argument, ListValues, Named, Nodes, PlainGraph, PlainParameter, PlainStored}
use Rattle.oe_graph.specs.Valid.{is_valid, are_valid, are_valid_named, are_valid_nodes, IsValidGraph, is_plain, are_plain, are_plain_named, IsValidStored}
use Rattle.oe_graph.specs.Walked.{graph_fault}
use Rattle.oe_graph.specs.declared.fault.Fault.{Fault}
use Rattle.oe_graph.proofs.AsReadLemmas.{read_as_read, nodes_as_read}
use Rattle.oe_graph.specs.Faults.{IsLeastFault}
use Rattle.oe_graph.proofs.PrintableLemmas.{main_printable}
use Rattle.oe_graph.proofs.ReadLemmas.{value_least}

-- ---- a printable graph is valid

mutual
  value_valid : (a : Argument) → is_plain_value a ≡ true → is_valid a ≡ true
  value_valid tree.null h = refl
  value_valid (tree.flag b) h = refl
  value_valid (tree.whole z) h = refl
  value_valid tree.inexact h = refl
  value_valid (tree.text s) h = refl
  value_valid (tree.list rest) h = values_valid rest h
  value_valid (tree.object ms) h = members_valid ms (and_parts _ (are_plain_members ms) h).1
  value_valid (tree.from_node id) h = refl
  value_valid (tree.from_parameter name) h = refl
  value_valid (tree.callback ns result) h = absurd (false≢true h)

  values_valid : (rest : ListValues) → are_plain_values rest ≡ true → are_valid rest ≡ true
  values_valid tree.no_arguments h = refl
  values_valid (tree.argument a rest) h =
      let parts = and_parts (is_plain_value a) (are_plain_values rest) h in
      and_from _ _ (value_valid a parts.0) (values_valid rest parts.1)

  members_valid : (ms : Named) → are_plain_members ms ≡ true → are_valid_named ms ≡ true
  members_valid tree.no_named h = refl
  members_valid (tree.named name a rest) h =
      let parts = and_parts (is_plain_value a) (are_plain_members rest) h in
      and_from _ _ (value_valid a parts.0) (members_valid rest parts.1)

mutual
  argument_valid : (a : Argument) → is_printable_argument a ≡ true → is_valid a ≡ true
  argument_valid tree.null h = refl
  argument_valid (tree.flag b) h = refl
  argument_valid (tree.whole z) h = refl
  argument_valid tree.inexact h = refl
  argument_valid (tree.text s) h = refl
  argument_valid (tree.list rest) h = values_valid rest h
  argument_valid (tree.object ms) h = members_valid ms (and_parts _ (are_plain_members ms) h).1
  argument_valid (tree.from_node id) h = refl
  argument_valid (tree.from_parameter name) h = refl
  argument_valid (tree.callback ns result) h =
      let parts = and_parts _ (are_printable_nodes ns) h in
      and_from _ _ parts.0 (nodes_valid ns parts.1)

  named_valid : (ms : Named) → are_printable_arguments ms ≡ true → are_valid_named ms ≡ true
  named_valid tree.no_named h = refl
  named_valid (tree.named name a rest) h =
      let parts = and_parts (is_printable_argument a) (are_printable_arguments rest) h in
      and_from _ _ (argument_valid a parts.0) (named_valid rest parts.1)

  nodes_valid : (ns : Nodes) → are_printable_nodes ns ≡ true → are_valid_nodes ns ≡ true
  nodes_valid tree.no_nodes h = refl
  nodes_valid (tree.node id process_id namespace arguments rest) h =
      let parts = and_parts _ (are_printable_nodes rest) h in
      let heads = and_parts _ (are_printable_arguments arguments) parts.0 in
      let rising = and_parts (is_name id && is_process_text process_id && is_namespace_text namespace)
      (names_rise (names_of arguments)) heads.0 in
      let texts = and_parts (is_name id && is_process_text process_id) (is_namespace_text namespace) rising.0 in
      let names = and_parts (is_name id) (is_process_text process_id) texts.0 in
      and_from _ _ (and_from _ _ (and_from _ _ names.0 rising.1) (named_valid arguments heads.1))
      (nodes_valid rest parts.1)

pub IsPrintable-valid : (g : PlainGraph) → IsPrintable g → IsValidGraph g
IsPrintable-valid g h = argument_valid (tree.callback g.nodes g.result) h

-- ---- a graph that is read

no_least : (P : Fault → Type 0) (o : Option Fault) → IsLeastFault P o → ((f : Fault) → ¬ P f) → o ≡ None
no_least P None least none = refl
no_least P (Some f) least none = absurd (none f least.0)

pub IsGraphOf-printable : (d : Data) (g : PlainGraph) → IsGraphOf d g → IsFaultless (StandsIn d) → is_as_read d ≡ true
    → IsPrintable g
IsGraphOf-printable d g is valid read =
    let none : graph_fault [] is.nodes ≡ None =
    no_least (λ f. StandsIn d f.code f.node) (graph_fault [] is.nodes) (value_least d is.nodes is.is_main)
    (λ f. valid f.code f.node) in
    subst IsPrintable (sym is.built) (main_printable [] is.nodes (nodes_as_read d is.nodes read is.is_main) none)

-- as the reader has it: no fault was found, and this was built
pub built_printable : (d : Data) (main : Members) (g : PlainGraph) → nodes_in d ≡ Some main → g ≡ graph_of main
    → None ≡ graph_fault [] main → is_as_read d ≡ true → IsPrintable g
built_printable d main g is built none read =
    subst IsPrintable (sym built) (main_printable [] main (nodes_as_read d main read is) (sym none))

pub Reads-printable : (bytes : List ℕ) (g : PlainGraph) → Reads bytes g → IsPrintable g
Reads-printable bytes g is =
    IsGraphOf-printable is.value g is.is_graph (λ code node s. is.valid code node (of_value is.is_read s))
    (read_as_read bytes is.value is.is_read.value)

pub Reads-valid : (bytes : List ℕ) (g : PlainGraph) → Reads bytes g → IsValidGraph g
Reads-valid bytes g is = IsPrintable-valid g (Reads-printable bytes g is)

-- ---- a stored process that is read

number_by : (b : Bool) (z : ℤ) → is_plain (if b then tree.whole z else tree.inexact) ≡ true
number_by true z = refl
number_by false z = refl

number_among : (o : Option ℤ)
    → is_plain (unwrap_or (option_map (λ z. if is_literal z then tree.whole z else tree.inexact) o) tree.inexact) ≡ true
number_among None = refl
number_among (Some z) = number_by (is_literal z) z

mutual
  default_plain : (d : Data) → is_plain (value_of true d) ≡ true
  default_plain null = refl
  default_plain (boolean b) = refl
  default_plain (number n) = number_among (as_i64 n)
  default_plain (string s) = refl
  default_plain (array ds) = defaults_plain ds
  default_plain (object ms) = members_plain ms

  defaults_plain : (ds : Items) → are_plain (values_of true ds) ≡ true
  defaults_plain no_items = refl
  defaults_plain (item d ds) = and_from _ _ (default_plain d) (defaults_plain ds)

  members_plain : (ms : Members) → are_plain_named (members_of true ms) ≡ true
  members_plain no_members = refl
  members_plain (member name d ms) = and_from _ _ (default_plain d) (members_plain ms)

default_of : (o : Option Data) (a : Argument) → option_map (value_of true) o ≡ Some a → is_plain a ≡ true
default_of None a is = absurd cc
default_of (Some d) a is = let same : value_of true d ≡ a = cc in subst (λ x. is_plain x ≡ true) same (default_plain d)

default_at : (ds : Items) (k : ℕ) (p : PlainParameter) (a : Argument) → k < length (each_parameter ds)
    → slice_index_or (each_parameter ds) k p ≡ p → p.default ≡ Some a → is_plain a ≡ true
default_at no_items k p a below at is = absurd (omega arith)
default_at (item d ds) zero p a below at is =
    default_of (get (codes "default") d) a (ap (λ (q : PlainParameter). q.default) at ∙ is)
default_at (item d ds) (suc k) p a below at is = default_at ds k p a (omega arith) at is

abbrev ArePlain : List PlainParameter → Type 0
ArePlain ps = (p : PlainParameter) (a : Argument) → Contains ps p → p.default ≡ Some a → is_plain a ≡ true

none_plain : ArePlain []
none_plain p a has is = absurd (let below = has.1 in omega arith)

listed_plain : (d : Data) → ArePlain (listed_parameters d)
listed_plain null = none_plain
listed_plain (boolean b) = none_plain
listed_plain (number n) = none_plain
listed_plain (string s) = none_plain
listed_plain (array ds) = λ p a has is. default_at ds has.0 p a has.1 has.2 is
listed_plain (object ms) = none_plain

parameters_plain : (o : Option Data) → ArePlain (unwrap_or (option_map listed_parameters o) [])
parameters_plain None = none_plain
parameters_plain (Some d) = listed_plain d

pub ReadsStored-printable : (id bytes : List ℕ) (p : PlainStored) → ReadsStored id bytes p → IsPrintable p.graph
ReadsStored-printable id bytes p is =
    IsGraphOf-printable is.value p.graph is.is_graph
    (λ code node s. is.valid code node (of_graph (of_value is.is_read s)))
    (read_as_read bytes is.value is.is_read.value)

pub ReadsStored-valid : (id bytes : List ℕ) (p : PlainStored) → ReadsStored id bytes p → IsValidStored p
ReadsStored-valid id bytes p is = record {
  graph = IsPrintable-valid p.graph (ReadsStored-printable id bytes p is);
  plain = subst ArePlain (sym is.parameters) (parameters_plain (get (codes "parameters") is.value));
}
