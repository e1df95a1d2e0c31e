use Rattle.std.proofs.Common.{◌≡◌, ◌<◌, [], Bool, List, ℕ, length, get_or, sym, ap, ◌∙◌, arith, below_more}
use Rattle.std.proofs.lemmas.Option.{get_or_from_slice_get}
use Rattle.oe_dims.specs.Names.{same_name}
use Rattle.oe_dims.proofs.IndexLemmas.{index_where_found, index_where_none}
use Rattle.oe_graph.specs.Plain.{plain_nodes}
use Rattle.oe_graph.specs.Printed.{ids_of}
use Rattle.oe_graph.specs.declared.tree.Node.{Node}
use Rattle.oe_graph.proofs.SearchLemmas.{id_at_index, ids_count}
use Rattle.oe_graph.proofs.search.index_in.Goals as goal

-- the test of the node that was read
read : (ns : List Node) (i : ℕ) (n : Node) (id : List ℕ) (b : Bool) → i < length ns → n ≡ get_or ns i n → b ≡ same_name n.id id
    → same_name (get_or (ids_of (plain_nodes ns)) i []) id ≡ b
read ns i n id b below is same =
    ap (λ name. same_name name id) (get_or_from_slice_get (ids_of (plain_nodes ns)) i n.id [] (id_at_index ns i n below is)) ∙ sym same

pub loop-index-preserved : goal.loop-index-preserved
loop-index-preserved c =
    let ns = c.args.nodes.now.items in
    let below : c.loop-index.index < length ns = omega (arith, c.loop-index-test.true, c.len-index-end.ensures, c.args.nodes.now.ok.0) in
    below_more _ _ c.loop-index.invariant
    (read ns c.loop-index.index c.index.result.now c.args.id.now c.same_text.result below c.index.ensures
    (c.same_text.ensures ∙ ap (λ name. same_name name c.args.id.now) c.as_str.ensures) ∙ c.if-same_text.false)

pub returns-then-same_text : goal.returns-then-same_text
returns-then-same_text c =
    let ns = c.args.nodes.now.items in
    let below : c.loop-index.index < length ns = omega (arith, c.loop-index-test.true, c.len-index-end.ensures, c.args.nodes.now.ok.0) in
    let count = ids_count ns in
    sym (index_where_found (λ (other : List ℕ). same_name other c.args.id.now) (ids_of (plain_nodes ns)) c.loop-index.index []
    (omega (arith, below, count)) c.loop-index.invariant
    (read ns c.loop-index.index c.index.result.now c.args.id.now c.same_text.result below c.index.ensures
    (c.same_text.ensures ∙ ap (λ name. same_name name c.args.id.now) c.as_str.ensures) ∙ c.if-same_text.true))

pub returns : goal.returns
returns c =
    let ns = c.args.nodes.now.items in
    let count = ids_count ns in
    sym (index_where_none (λ (other : List ℕ). same_name other c.args.id.now) (ids_of (plain_nodes ns)) []
    (λ k h. c.loop-index.invariant k (omega (arith, h, count, c.loop-index-test.false, c.len-index-end.ensures, c.loop-index.auto.index-end, c.args.nodes.now.ok.0))))
