use Rattle.std.proofs.Common.{[], Contains, sym, subst}
use Rattle.oe_dims.specs.Plain.{plain_rows}
use Rattle.oe_graph.specs.Plain.{plain_graph}
use Rattle.oe_graph.specs.References.{each_node}
use Rattle.oe_graph.specs.Tree.{PlainGraph, PlainNode, PlainStored}
use Rattle.oe_graph.specs.Valid.{AreValidStored}
use Rattle.oe_calls.specs.Calls.{Calls}
use Rattle.oe_calls.proofs.Along.{none_there}
use Rattle.oe_translate.specs.Laws.{HasFewNodes, HasRoomForSums}
use Rattle.oe_rows_graphs.proofs.translated.checked_translation.Goals as goal

none_stored : AreValidStored []
none_stored = record { each = λ s has. absurd (none_there s has); differ = λ i j a b below is other. absurd cc }

pub check_all-requires-clause-room : goal.check_all-requires-clause-room
check_all-requires-clause-room c =
    subst (λ (g : PlainGraph). HasRoomForSums g.nodes) (sym c.in_ok-resolved.ensures.graph)
    (c.names_leave_room.ensures.each [] (plain_graph c.args.graph.now) none_stored c.requires)

pub check_all-requires-clause-few : goal.check_all-requires-clause-few
check_all-requires-clause-few c =
    subst (λ (g : PlainGraph). HasFewNodes (plain_rows c.args.dims.now) g.nodes) (sym c.in_ok-resolved.ensures.graph)
    (c.translations_are_small.ensures.each [] (plain_graph c.args.graph.now) none_stored c.in_ok-resolved.ensures.without_fault
    (λ n s has. subst (λ (g : PlainGraph). (m : PlainNode) (t : PlainStored) → Contains (each_node g.nodes) m → ¬ Calls [] m t)
    c.in_ok-resolved.ensures.graph c.in_ok-resolved.ensures.calls_none n s has) (plain_rows c.args.dims.now))
