use Rattle.std.proofs.Common.{◌≡◌, ◌≤◌}
use Rattle.oe_plan.proofs.WidthLemmas.{most_live, width_so_far}
use Rattle.oe_plan.proofs.widths.width_of.Given as goal

-- the most at the steps so far
abbrev pub invariant-loop-step : goal.invariant-loop-step
invariant-loop-step l =
    (l.width ≡ width_so_far l.checked (most_live l.checked) l.step) × (l.width ≤ 4294967296)
