-- Bytes are the text of one graph at most, and of one process under an id.
use Rattle.std.proofs.Common.{◌≡◌, ℕ, List, Some, sym, ap, ◌∙◌}
use Rattle.serde_json.specs.Data.{Data}
use Rattle.oe_graph.specs.Built.{graph_of}
use Rattle.oe_graph.specs.Form.{nodes_in}
use Rattle.oe_graph.specs.Parameters.{parameters_of}
use Rattle.oe_graph.specs.Read.{IsGraphOf, Reads, ReadsStored}
use Rattle.oe_graph.specs.Tree.{PlainGraph, PlainStored}
use Rattle.oe_graph.proofs.ReadLemmas.{same_value}

pub IsGraphOf-unique : (d e : Data) (g h : PlainGraph) → d ≡ e → IsGraphOf d g → IsGraphOf e h → g ≡ h
IsGraphOf-unique d e g h same a b =
    let both : Some a.nodes ≡ Some b.nodes = sym a.is_main ∙ (ap nodes_in same ∙ b.is_main) in
    let nodes : a.nodes ≡ b.nodes = cc in
    a.built ∙ (ap graph_of nodes ∙ sym b.built)

pub Reads-unique : (bytes : List ℕ) (g h : PlainGraph) → Reads bytes g → Reads bytes h → g ≡ h
Reads-unique bytes g h a b =
    let same = same_value bytes a.value b.value a.is_read b.is_read in
    IsGraphOf-unique a.value b.value g h same a.is_graph b.is_graph

-- by its parts
same_stored : (p q : PlainStored) → p.id ≡ q.id → p.parameters ≡ q.parameters → p.graph ≡ q.graph → p.text ≡ q.text
    → p ≡ q
same_stored p q id parameters graph text =
    ap (λ i. record { id = i; parameters = p.parameters; graph = p.graph; text = p.text }) id
    ∙ (ap (λ ps. record { id = q.id; parameters = ps; graph = p.graph; text = p.text }) parameters
    ∙ (ap (λ g. record { id = q.id; parameters = q.parameters; graph = g; text = p.text }) graph
    ∙ ap (λ t. record { id = q.id; parameters = q.parameters; graph = q.graph; text = t }) text))

pub ReadsStored-unique : (id bytes : List ℕ) (p q : PlainStored) → ReadsStored id bytes p → ReadsStored id bytes q
    → p ≡ q
ReadsStored-unique id bytes p q a b =
    let same = same_value bytes a.value b.value a.is_read b.is_read in
    let graph : p.graph ≡ q.graph = IsGraphOf-unique a.value b.value p.graph q.graph same a.is_graph b.is_graph in
    let named : p.id ≡ q.id = a.named ∙ sym b.named in
    let parameters : p.parameters ≡ q.parameters = a.parameters ∙ (ap parameters_of same ∙ sym b.parameters) in
    let text : p.text ≡ q.text = a.text ∙ sym b.text in
    same_stored p q named parameters graph text
