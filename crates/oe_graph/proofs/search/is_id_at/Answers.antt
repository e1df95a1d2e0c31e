use Rattle.std.proofs.Common.{◌≡◌, ◌<◌, Some, length, true≢false, sym, ap, ◌∙◌, arith}
use Rattle.oe_dims.specs.Names.{same_name}
use Rattle.oe_dims.proofs.OrderLemmas.{same_name_refl}
use Rattle.oe_graph.specs.Plain.{plain_nodes}
use Rattle.oe_graph.specs.Printed.{ids_of}
use Rattle.oe_graph.proofs.ElementLemmas.{get_below}
use Rattle.oe_graph.proofs.SearchLemmas.{ids_count, id_by, id_at_index}
use Rattle.oe_graph.proofs.search.is_id_at.Goals as goal

pub returns-then-index-len-clause-found : goal.returns-then-index-len-clause-found
returns-then-index-len-clause-found c is =
    id_by c.args.nodes.now.items c.args.index c.index.result.now c.args.id.now (omega arith) c.index.ensures
    (ap (λ name. same_name name c.args.id.now) (sym c.as_str.ensures) ∙ (sym c.same_text.ensures ∙ is))

pub returns-then-index-len-clause-missed : goal.returns-then-index-len-clause-missed
returns-then-index-len-clause-missed c is there =
    let ns = c.args.nodes.now.items in
    let id = c.args.id.now in
    let below : c.args.index < length ns = omega arith in
    let here : Some c.index.result.now.id ≡ Some id =
    sym (id_at_index ns c.args.index c.index.result.now below c.index.ensures) ∙ there in
    let same : c.index.result.now.id ≡ id = cc in
    true≢false (sym (same_name_refl id)
    ∙ ap (λ name. same_name name id) (sym same ∙ sym c.as_str.ensures)
    ∙ sym c.same_text.ensures ∙ is)

pub returns-else-index-len-clause-missed : goal.returns-else-index-len-clause-missed
returns-else-index-len-clause-missed c is there =
    let ns = c.args.nodes.now.items in
    let below : c.args.index < length (ids_of (plain_nodes ns)) = get_below (ids_of (plain_nodes ns)) c.args.index c.args.id.now there in
    let count = ids_count ns in
    omega (arith, below, count, c.if-index-len.false, c.len.ensures)
