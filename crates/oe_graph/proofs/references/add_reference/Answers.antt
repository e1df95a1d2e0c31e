use Rattle.std.proofs.Common.{◌<◌, sym, ◌∙◌, arith}
use Rattle.oe_graph.specs.Plain.{plain_nodes}
use Rattle.oe_graph.specs.Printed.{node_count}
use Rattle.oe_graph.proofs.ReferenceGraphLemmas.{known_one, pushed_none, pushed_one, unknown_one}
use Rattle.oe_graph.proofs.SearchLemmas.{named_within, node_count-plain}
use Rattle.oe_memory.proofs.Lists.{append_none}
use Rattle.oe_graph.proofs.references.add_reference.Goals as goal

pub overflow_cast-index : goal.overflow_cast-index
overflow_cast-index c =
    let ns = c.args.beside.now.nodes.now.items in
    let below : c.in-Some.index < node_count (plain_nodes ns) =
    named_within (plain_nodes ns) c.args.id.now c.in-Some.index (sym c.find_index.ensures ∙ c.in-Some.is) in
    let count = node_count-plain ns in
    omega (arith, c.requires.few)

pub returns-in_ok-push-in-Some-clause-found : goal.returns-in_ok-push-in-Some-clause-found
returns-in_ok-push-in-Some-clause-found c =
    pushed_one (plain_nodes c.args.beside.now.nodes.now.items) c.args.id.now c.in-Some.index c.args.found.now.items
    c.push.new.self.items (sym c.in-Some.is ∙ c.find_index.ensures) c.in_ok-push-in-Some.ensures.items

pub returns-in_ok-push-in-Some-clause-known : goal.returns-in_ok-push-in-Some-clause-known
returns-in_ok-push-in-Some-clause-known c =
    known_one (plain_nodes c.args.beside.now.nodes.now.items) c.args.id.now c.in-Some.index (sym c.in-Some.is ∙ c.find_index.ensures)

pub returns-in-None-clause-found : goal.returns-in-None-clause-found
returns-in-None-clause-found c =
    sym (append_none c.args.found.now.items)
    ∙ pushed_none (plain_nodes c.args.beside.now.nodes.now.items) c.args.id.now c.args.found.now.items (sym c.in-None.is ∙ c.find_index.ensures)

pub returns-in-None-clause-known : goal.returns-in-None-clause-known
returns-in-None-clause-known c =
    unknown_one (plain_nodes c.args.beside.now.nodes.now.items) c.args.id.now (sym c.in-None.is ∙ c.find_index.ensures)
