use Rattle.std.proofs.Common.{◌≡◌, map, drop}
use Rattle.std.specs.List.{list_all}
use Rattle.oe_graph.specs.Plain.{plain_args, plain_named, plain_stored}
use Rattle.oe_graph.specs.References.{callbacks_each, callbacks_named}
use Rattle.oe_calls.specs.Calls.{fits_callback}
use Rattle.oe_calls.proofs.calls.+fits.Given as goal

abbrev pub invariant-named_fit-loop-member : goal.invariant-named_fit-loop-member
invariant-named_fit-loop-member l =
    list_all (fits_callback (map plain_stored l.stored) l.of_dimension) (callbacks_named (plain_named l.member-items))
    ≡ list_all (fits_callback (map plain_stored l.stored) l.of_dimension)
    (callbacks_named (plain_named (drop l.member-index l.member-items)))

abbrev pub invariant-args_fit-loop-item : goal.invariant-args_fit-loop-item
invariant-args_fit-loop-item l =
    list_all (fits_callback (map plain_stored l.stored) l.of_dimension) (callbacks_each (plain_args l.item-items))
    ≡ list_all (fits_callback (map plain_stored l.stored) l.of_dimension)
    (callbacks_each (plain_args (drop l.item-index l.item-items)))
