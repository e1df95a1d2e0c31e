use Rattle.std.proofs.Common.{◌≡◌, ◌≤◌, take}
use Rattle.std.specs.Prelude.{count_by}
use Rattle.oe_dims.specs.Names.{is_name_before}
use Rattle.oe_plan.proofs.turns.count_before.Given as goal

-- of the names so far
abbrev pub invariant-loop-other : goal.invariant-loop-other
invariant-loop-other l =
    (l.count ≡ count_by (λ other. is_name_before other l.name) (take l.other-index l.names)) × (l.count ≤ l.other-index)
