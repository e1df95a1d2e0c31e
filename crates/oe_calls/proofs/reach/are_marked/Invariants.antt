use Rattle.std.proofs.Common.{◌≡◌, false, drop, slice_index_or}
use Rattle.std.specs.List.{list_all}
use Rattle.oe_calls.proofs.reach.are_marked.Given as goal

abbrev pub invariant-loop-index : goal.invariant-loop-index
invariant-loop-index l =
    list_all (λ n. slice_index_or l.marks.items n false) l.found
    ≡ list_all (λ n. slice_index_or l.marks.items n false) (drop l.index-index l.found)
