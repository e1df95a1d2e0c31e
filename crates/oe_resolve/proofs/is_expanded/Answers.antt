use Rattle.std.proofs.Common.{◌∙◌, ap, map, not, sym}
use Rattle.oe_graph.specs.Plain.{plain_graph, plain_stored}
use Rattle.oe_resolve.proofs.ExpandLemmas.{rise_of, itself_expanded}
use Rattle.oe_resolve.proofs.is_expanded.Goals as goal

pub names_fault-requires : goal.names_fault-requires
names_fault-requires c = record { rise = rise_of (plain_graph c.args.graph.now) c.requires.graph_valid }

pub returns : goal.returns
returns c is =
    itself_expanded (map plain_stored c.args.stored.now) c.args.graph.now c.in_ok-fault.fault
    c.requires.stored_valid c.requires.graph_valid c.requires.within (sym c.has_call.ensures ∙ c.if-has_call.false)
    c.in_ok-fault.ensures (c.is_none.ensures ∙ ap not is)
