-- The schedules of a run that is cut at a node, and how a plan keeps them.
use Rattle.std.proofs.Common.{◌≡◌, ◌<◌, ◌≤◌, ◌+◌, ◌*◌, ℕ, List, Contains, Option, Some, None, Result, Ok, Err, IfOk, inl, refl, sym, subst, arith}
use Rattle.std.proofs.Math.Nat.{mul-le-mul}
use Rattle.oe_graph.specs.Printed.{node_count}
use Rattle.oe_order.proofs.Reach.{IsInRun-push}
use Rattle.oe_order.specs.Evaluation.{IsEvaluationOrder}
use Rattle.oe_order.specs.Graph.{IsInRun, Node}
use Rattle.oe_order.specs.Live.{IsSlotted, Steps}
use Rattle.oe_order.specs.Order.{IsListing}
use Rattle.oe_plan.specs.Figures.{most_held_cells, steps_of}
use Rattle.oe_plan.specs.Laws.{IsOrdered}
use Rattle.oe_plan.specs.Schedules.{IsSchedule, ScheduleOf, as_load, links_along, links_given, part_of}
use Rattle.oe_plan.specs.Windows.{IsOrderOf}
use Rattle.oe_plan.proofs.NodeLemmas.{argument_below}
use Rattle.oe_plan.proofs.RunLemmas.{some_width}
use Rattle.oe_plan.proofs.ScheduleLemmas.{schedules_serve}
use Rattle.oe_check.specs.Checked.{AreFaultless, CheckedGraph}
use Rattle.oe_check.specs.Links.{links_of}
use Rattle.oe_window.specs.declared.grid.ChunkSize.{ChunkSize}
use Rattle.oe_slab.specs.Cuts.{IsTimeCut, links_behind}
use Rattle.oe_slab.specs.Figures.{largest_plane, largest_slab, taken_by, width_before, width_behind}
use Rattle.oe_slab.specs.Schedules.{AreSchedules, IsOrderAlong}
use Rattle.oe_slab.proofs.LawLemmas.{takes_one}

-- what is answered of an order clause by clause
pub orders_along : {E : Type 0} (nodes : List Node) (last : ℕ) (result : Result Steps E) → IfOk result (λ o. IsListing nodes last o.steps)
    → IfOk result (λ o. IsEvaluationOrder nodes last o.steps) → IfOk result (λ o. IsSlotted nodes last o) → IfOk result (IsOrderAlong nodes last)
orders_along nodes last (Ok order) listing evaluation slotted = record { listing = listing; evaluation = evaluation; slotted = slotted }
orders_along nodes last (Err error) listing evaluation slotted = tt

-- a slot is no larger than all of them together
pub slot_small : (nodes : List Node) (last : ℕ) (order : Steps) (cells most : ℕ) → IsOrderAlong nodes last order
    → order.width * cells ≤ most → cells ≤ most
slot_small nodes last order cells most is all =
    let some : 1 ≤ order.width = some_width nodes last order is.listing is.slotted in
    let one : 1 * cells ≤ order.width * cells = mul-le-mul some (omega arith) in
    omega arith

module _ (c : CheckedGraph) (f : AreFaultless c) (fold : ℕ) (cut : IsTimeCut c fold) where
  -- the cube that is folded is one of the run
  pub taken_of_run : IsInRun (links_of c.nodes) c.result (taken_by c fold)
  taken_of_run =
      IsInRun-push (links_of c.nodes) c.result fold (taken_by c fold) cut.lone.of_run
      (subst (λ xs. Contains xs (taken_by c fold)) (sym (takes_one c f fold cut)) (0, omega arith, refl))

  -- they are the three schedules, where the slots are small
  module _ (size : ChunkSize) (whole before behind : Steps) (whole_is : IsOrderAlong (links_of c.nodes) c.result whole)
      (steps_are : whole.steps ≡ steps_of c) (before_is : IsOrderAlong (links_of c.nodes) (taken_by c fold) before)
      (before_steps : before.steps ≡ steps_of (record c { result = taken_by c fold })) (before_width : before.width ≡ width_before c fold)
      (behind_is : IsOrderAlong (links_behind c fold) c.result behind) (behind_width : behind.width ≡ width_behind c fold)
      (slab plane : ℕ) (slab_small : slab ≤ most_held_cells) (plane_small : plane ≤ most_held_cells) where
    ordered : IsOrdered c
    ordered = subst (IsListing (links_of c.nodes) c.result) steps_are whole_is.listing

    schedule_of : (last : ℕ) (given : Option ℕ) (order : Steps) (largest : ℕ) → IsInRun (links_of c.nodes) c.result last
        → IsOrderAlong (links_given (links_of c.nodes) given) last order → largest ≤ most_held_cells
        → IsSchedule c (record { last = last; given = given; order = order; largest = largest })
    schedule_of last given order largest reached is small =
        schedules_serve.orders c (record { last = last; given = given; order = order; largest = largest }) f ordered reached
        is.listing is.evaluation is.slotted small

    pub are_schedules : slab ≡ largest_slab c size → plane ≡ largest_plane c size → AreSchedules c size fold
        (record { last = c.result; given = None; order = whole; largest = 0 })
        (record { last = taken_by c fold; given = None; order = before; largest = slab })
        (record { last = c.result; given = Some fold; order = behind; largest = plane })
    are_schedules slab_is plane_is = record {
      whole = schedule_of c.result None whole 0 (inl refl) whole_is (omega arith);
      whole_last = refl;
      whole_given = refl;
      whole_steps = steps_are;
      whole_largest = refl;
      before = schedule_of (taken_by c fold) None before slab taken_of_run before_is slab_small;
      before_last = refl;
      before_given = refl;
      before_steps = before_steps;
      before_width = before_width;
      before_largest = slab_is;
      behind = schedule_of c.result (Some fold) behind plane (inl refl) behind_is plane_small;
      behind_last = refl;
      behind_given = refl;
      behind_width = behind_width;
      behind_largest = plane_is;
    }

-- by the names that the code has for them
module _ (c : CheckedGraph) (size : ChunkSize) (fold : ℕ) (whole before behind whole' before' behind' : ScheduleOf)
    (whole_is : whole' ≡ whole) (before_is : before' ≡ before) (behind_is : behind' ≡ behind) where
  pub same_schedules : AreSchedules c size fold whole before behind → AreSchedules c size fold whole' before' behind'
  same_schedules are =
      subst (λ s. AreSchedules c size fold s before' behind') (sym whole_is)
      (subst (λ s. AreSchedules c size fold whole s behind') (sym before_is)
      (subst (λ s. AreSchedules c size fold whole before s) (sym behind_is) are))

-- the parts of a bound
pub bound_parts : (before plane behind scratch most : ℕ) → before + 2 * plane + behind + scratch ≤ most → (before ≤ most) × (plane ≤ most)
bound_parts before plane behind scratch most all = (omega arith, omega arith)

-- the steps of the whole run are an order to work by
pub ordered_by : (c : CheckedGraph) (size : ChunkSize) (fold : ℕ) (whole before behind : ScheduleOf)
    → AreSchedules c size fold whole before behind → IsOrdered c
ordered_by c size fold whole before behind are =
    subst (IsListing (links_of c.nodes) c.result) are.whole_steps
    (subst (λ (g : Option ℕ). IsListing (links_given (links_of c.nodes) g) c.result whole.order.steps) are.whole_given
    (subst (λ (n : ℕ). IsListing (links_along c whole) n whole.order.steps) are.whole_last are.whole.listing))

-- the order before the cut is that of the graph whose result is the cube that is folded
pub order_before : (c : CheckedGraph) (size : ChunkSize) (fold : ℕ) (whole before behind : ScheduleOf)
    → AreSchedules c size fold whole before behind → IsOrderOf (part_of c before) before.order
order_before c size fold whole before behind are = record {
  steps_are = are.before_steps;
  listing = subst (λ (g : Option ℕ). IsListing (links_given (links_of c.nodes) g) before.last before.order.steps) are.before_given are.before.listing;
}

-- the cube that is folded is that of a node
pub last_below : (c : CheckedGraph) (f : AreFaultless c) (fold : ℕ) (cut : IsTimeCut c fold) (before : ScheduleOf) → before.last ≡ taken_by c fold
    → before.last < node_count c.nodes
last_below c f fold cut before is =
    subst (λ n. n < node_count c.nodes) (sym is)
    (argument_below c f fold cut.lone.within (taken_by c fold)
    (subst (λ xs. Contains xs (taken_by c fold)) (sym (takes_one c f fold cut)) (0, omega arith, refl)))

-- the order behind the cut, by the names that the code has for the links and the result
pub order_there : (c : CheckedGraph) (fold : ℕ) (nodes : List Node) (last : ℕ) (order : Steps) → nodes ≡ links_of c.nodes → last ≡ c.result
    → IsOrderAlong (as_load nodes fold) last order → IsOrderAlong (links_behind c fold) c.result order
order_there c fold nodes last order nodes_are last_is is =
    subst (λ (n : ℕ). IsOrderAlong (links_behind c fold) n order) last_is
    (subst (λ (ns : List Node). IsOrderAlong (as_load ns fold) last order) nodes_are is)
