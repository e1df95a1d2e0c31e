use Rattle.std.proofs.Common.{◌≡◌, ◌-◌, nat_le, drop}
use Rattle.std.specs.List.{list_any}
use Rattle.oe_expr.specs.declared.scope.ListPart.{ListPart}
use Rattle.oe_expr.proofs.labels.any_list_ends_before.Given as goal

abbrev pub invariant-loop-part : goal.invariant-loop-part
invariant-loop-part l =
    list_any (λ (part : ListPart). nat_le (part.to - part.from) l.index) (drop l.part-index l.lists)
    ≡ list_any (λ (part : ListPart). nat_le (part.to - part.from) l.index) l.lists
