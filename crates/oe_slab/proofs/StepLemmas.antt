-- The steps of the part before a time cut.
use Rattle.std.proofs.Common.{◌≡◌, ◌≤◌, ◌<◌, ◌*◌, ◌+◌, ◌-◌, ℕ, true, length, Option, None, min, sym, subst, arith}
use Rattle.std.proofs.lemmas.Nat.{le-div}
use Rattle.std.proofs.Math.Nat.{mul-le-mul}
use Rattle.oe_order.specs.Graph.{is_load}
use Rattle.oe_plan.specs.Schedules.{ScheduleOf, is_load_at, links_given, node_at}
use Rattle.oe_check.specs.Checked.{CheckedGraph}
use Rattle.oe_check.specs.Links.{links_of}
use Rattle.oe_steps.specs.Steps.{EachLive, loads_at}
use Rattle.oe_steps.proofs.StepLoadLemmas.{count_first}
use Rattle.oe_window.specs.Chunks.{parts_along}
use Rattle.oe_slab.specs.Schedules.{load_count}

-- where no cube is given, a step that counts as one that loads does
pub loads_here : (c : CheckedGraph) (schedule : ScheduleOf) → schedule.given ≡ None → (step : ℕ) → is_load_at c schedule step ≡ true → loads_at c schedule step ≡ true
loads_here c schedule none step loads =
    subst (λ (given : Option ℕ). is_load (links_given (links_of c.nodes) given) (node_at schedule step) ≡ true) none loads

-- before the first step none is
pub none_live : (c : CheckedGraph) (schedule : ScheduleOf) (Holds : ℕ → Type 0) → EachLive c schedule 0 Holds
none_live c schedule Holds i below live = absurd (omega arith)

-- loads stand first, so that there are as many at least as steps before one that is none
pub loads_counted : (c : CheckedGraph) (schedule : ScheduleOf) (count : ℕ) → count ≤ length schedule.order.steps
    → ((step : ℕ) → step < count → is_load_at c schedule step ≡ true) → count ≤ load_count c schedule
loads_counted c schedule count most loads =
    count_first (is_load_at c schedule) 0 count (length schedule.order.steps) most (λ i from to. loads i (omega arith))

-- one more of some, each of so many cells
pub one_more : (n count cells : ℕ) → n < count → ((n + 1) * cells ≡ n * cells + cells) × (n * cells + cells ≤ count * cells)
one_more n count cells below =
    let same : (n + 1) * cells ≡ n * cells + cells = omega arith in
    let most : (n + 1) * cells ≤ count * cells = mul-le-mul (omega arith) (omega arith) in
    (same, omega (arith, same, most))

-- where a slab begins before the last date there is one more, and it ends at the next, or at the last date
pub one_slab : (k side dates from to : ℕ) → 1 ≤ side → min (k * side) dates ≡ from → from < dates → to ≡ min (from + side) dates
    → (k + 1 ≤ parts_along dates side) × (min ((k + 1) * side) dates ≡ to)
one_slab k side dates from to some is below ends =
    let here : k * side ≡ from = omega arith in
    let next : (k + 1) * side ≡ k * side + side = omega arith in
    (le-div (k + 1) (dates + side - 1) side some (omega (arith, here, next)), omega (arith, here, next))

-- what holds of a graph and a schedule, by the names that the code has for them
module _ (P : CheckedGraph → ScheduleOf → Type 0) (graph graph' : CheckedGraph) (schedule schedule' : ScheduleOf)
    (same : graph' ≡ graph) (is : schedule' ≡ schedule) where
  pub as_read : P graph schedule → P graph' schedule'
  as_read h = subst (λ g. P g schedule') (sym same) (subst (P graph) (sym is) h)

  pub as_is : P graph' schedule' → P graph schedule
  as_is h = subst (P graph) is (subst (λ g. P g schedule') same h)
