use Rattle.std.proofs.Common.{◌≡◌, ◌≤◌, false, List, ℕ, length, IsUtf8, ap, ◌∙◌, refl, subst}
use Rattle.std.proofs.lemmas.Result.{IfOk-weaker}
use Rattle.serde_json.specs.View.{view}
use Rattle.serde_json.specs.Data.{no_members}
use Rattle.serde_json.specs.Written.{has_float, compact_text}
use Rattle.oe_graph.specs.Form.{IsReading, StandsIn, most_input}
use Rattle.oe_graph.specs.Plain.{plain_graph}
use Rattle.oe_graph.specs.Printed.{graph_data, nodes_data, IsPrintable}
use Rattle.oe_graph.specs.Read.{Reads, IsFaultless}
use Rattle.oe_graph.specs.Tree as tree
use Rattle.oe_graph.specs.Tree.{PlainGraph}
use Rattle.oe_graph.specs.Faults.{IsLeastFault}
use Rattle.oe_graph.proofs.WalkLemmas.{at_code}
use Rattle.oe_graph.proofs.ReadLemmas.{value_least, bytes_valid, reading_of}
use Rattle.oe_graph.proofs.PrintLemmas.{argument_no_float}
use Rattle.oe_graph.proofs.PrintBack.{graph_back, graph_whole}
use Rattle.oe_graph.proofs.print.print_graph.Goals as goal

pub returns-clause-text : goal.returns-clause-text
returns-clause-text c =
    let g = plain_graph c.args.graph.now in
    let whole : has_float (graph_data g) ≡ false = argument_no_float (tree.callback g.nodes g.result) in
    let same : view c.in_ok-value.value ≡ graph_data g = c.in_ok-value.ensures in
    IfOk-weaker c.of.result _ _
    (λ text is. is ∙ (c.as_str.ensures.value ∙ (c.in_ok-text.ensures.text (ap has_float same ∙ whole) ∙ ap compact_text same))) c.of.ensures

faultless : (g : PlainGraph) → IsPrintable g → IsFaultless (StandsIn (graph_data g))
faultless g printable code node stands =
    let nodes = nodes_data 0 g.result g.nodes no_members in
    let none = subst (λ o. IsLeastFault (λ f. StandsIn (graph_data g) f.code f.node) o) (graph_whole g.nodes g.result printable)
    (value_least (graph_data g) nodes refl) in
    none (at_code code node) stands

reads_again : (g : PlainGraph) (text : List ℕ) → IsReading text (graph_data g) → IsPrintable g → length text ≤ most_input
    → Reads text g
reads_again g text reading printable fits = record {
  value = graph_data g;
  is_read = reading;
  is_graph = record {
    nodes = nodes_data 0 g.result g.nodes no_members;
    is_main = refl;
    built = graph_back g.nodes g.result printable;
  };
  valid = bytes_valid text (graph_data g) reading fits (faultless g printable);
}

pub returns-clause-reads_back : goal.returns-clause-reads_back
returns-clause-reads_back c =
    let g = plain_graph c.args.graph.now in
    let same : view c.in_ok-value.value ≡ graph_data g = c.in_ok-value.ensures in
    IfOk-weaker c.of.result _ _
    (λ text is printable fits deep. reads_again g text
    (reading_of _ (graph_data g) text _ (is ∙ c.as_str.ensures.value) (subst IsUtf8 c.as_str.ensures.value c.as_str.utf8) same c.in_ok-text.ensures.reads_back deep) printable fits)
    c.of.ensures
