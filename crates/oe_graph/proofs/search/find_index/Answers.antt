use Rattle.std.proofs.Common.{◌≡◌, true, sym, ◌∙◌}
use Rattle.oe_dims.specs.Names.{names_rise}
use Rattle.oe_graph.specs.Plain.{plain_nodes}
use Rattle.oe_graph.specs.Printed.{ids_of}
use Rattle.oe_graph.proofs.SearchLemmas.{absent_at, found_at}
use Rattle.oe_graph.proofs.search.find_index.Goals as goal

pub returns-then-is_id_at : goal.returns-then-is_id_at
returns-then-is_id_at c =
    let ids = ids_of (plain_nodes c.args.beside.now.nodes.now.items) in
    let rise : names_rise ids ≡ true = sym c.requires.rise ∙ c.if-not-beside.false in
    sym (found_at ids c.guess_index-guess.result c.args.id.now rise (c.is_id_at.ensures.found c.if-is_id_at.true))

pub returns-then-is_id_at-2 : goal.returns-then-is_id_at-2
returns-then-is_id_at-2 c =
    let ids = ids_of (plain_nodes c.args.beside.now.nodes.now.items) in
    let rise : names_rise ids ≡ true = sym c.requires.rise ∙ c.if-not-beside.false in
    sym (found_at ids c.index_by_halves-index.result c.args.id.now rise (c.is_id_at-2.ensures.found c.if-is_id_at-2.true))

pub returns : goal.returns
returns c =
    let ids = ids_of (plain_nodes c.args.beside.now.nodes.now.items) in
    let rise : names_rise ids ≡ true = sym c.requires.rise ∙ c.if-not-beside.false in
    absent_at ids c.index_by_halves-index.result c.args.id.now (c.index_by_halves-index.ensures rise)
    (c.is_id_at-2.ensures.missed c.if-is_id_at-2.false)
