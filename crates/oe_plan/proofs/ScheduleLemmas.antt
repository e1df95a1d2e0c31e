-- Schedules: that of a plan is one, windows of a run are windows for it, and what counts as loaded takes nothing.
use Rattle.std.proofs.Common.{◌≡◌, ◌≢◌, ◌<◌, ◌≤◌, ◌+◌, ◌*◌, ℕ, zero, suc, true, false, List, [], ◌∷◌, length, get_or, Contains, Option, Some, None, inl, inr, refl, sym, ap, ◌∙◌, subst, arith}
use Rattle.std.specs.List.{slice_get}
use Rattle.std.proofs.lemmas.Bool.{true≢false}
use Rattle.std.proofs.lemmas.List.{get_or_default}
use Rattle.std.proofs.lemmas.List.Elements.{Contains-get_or}
use Rattle.oe_graph.specs.Printed.{node_count}
use Rattle.oe_order.proofs.Reach.{Reaches-trans}
use Rattle.oe_order.specs.Evaluation.{IsEvaluationOrder}
use Rattle.oe_order.specs.Graph.{IsInRun, Node, Reaches, arguments, is_load, onwards, refers}
use Rattle.oe_order.specs.Live.{IsSlotted, Steps}
use Rattle.oe_order.specs.Order.{IsListing}
use Rattle.oe_check.specs.Checked.{AreFaultless, CheckedGraph}
use Rattle.oe_check.specs.Links.{links_of}
use Rattle.oe_window.specs.Chunks.{Tiling, tiling_of}
use Rattle.oe_window.specs.Windows.{Holds, IsIn, whole_window}
use Rattle.oe_window.specs.declared.grid.ChunkSize.{ChunkSize}
use Rattle.oe_window.specs.declared.window.Window.{Window}
use Rattle.oe_plan.specs.Figures.{bound_of, largest_window, most_held_cells, scratch_of, shape_of_node, steps_of, width_of_run}
use Rattle.oe_plan.specs.Laws.{ArePicked, FitSlots, IsOrdered, SchedulesServe}
use Rattle.oe_plan.specs.Plans.{IsKeptPlan, IsPlan, PlanOf, schedule_of}
use Rattle.oe_plan.specs.Schedules.{AreWindowsFor, IsSchedule, ScheduleOf, TakesAt, as_load, links_along, links_given, node_at, part_of, steps_to_last}
use Rattle.oe_plan.specs.Steps.{NeedsOfNode, Takes, arguments_of_node}
use Rattle.oe_plan.specs.Windows.{AreWindows, window_at}
use Rattle.oe_plan.proofs.FitLemmas.{fit_memory}
use Rattle.oe_plan.proofs.RunLemmas.{argument_before}
use Rattle.oe_plan.proofs.SideLemmas.{step_below}
use Rattle.oe_plan.proofs.WidenLemmas.{needs_in_part}

-- ---- a node that counts as one that loads

-- a node that does not count as one that loads is none, and takes what it took
pub works_before : (nodes : List Node) (f n : ℕ) → is_load (as_load nodes f) n ≡ false → is_load nodes n ≡ false
works_before [] f n works = works
works_before (x ∷ xs) zero zero works = absurd (true≢false works)
works_before (x ∷ xs) zero (suc n) works = works
works_before (x ∷ xs) (suc f) zero works = works
works_before (x ∷ xs) (suc f) (suc n) works = works_before xs f n works

pub takes_as_before : (nodes : List Node) (f n : ℕ) → is_load (as_load nodes f) n ≡ false
    → arguments (as_load nodes f) n ≡ arguments nodes n
takes_as_before [] f n works = refl
takes_as_before (x ∷ xs) zero zero works = absurd (true≢false works)
takes_as_before (x ∷ xs) zero (suc n) works = refl
takes_as_before (x ∷ xs) (suc f) zero works = refl
takes_as_before (x ∷ xs) (suc f) (suc n) works = takes_as_before xs f n works

-- where nodes that load take nothing, those that count as such do neither
pub none_taken_after : (nodes : List Node) (f n : ℕ) → (is_load nodes n ≡ true → arguments nodes n ≡ [])
    → is_load (as_load nodes f) n ≡ true → arguments (as_load nodes f) n ≡ []
none_taken_after [] f n none loads = none loads
none_taken_after (x ∷ xs) zero zero none loads = refl
none_taken_after (x ∷ xs) zero (suc n) none loads = none loads
none_taken_after (x ∷ xs) (suc f) zero none loads = none loads
none_taken_after (x ∷ xs) (suc f) (suc n) none loads = none_taken_after xs f n none loads

pub works_along : (nodes : List Node) (given : Option ℕ) (n : ℕ) → is_load (links_given nodes given) n ≡ false
    → is_load nodes n ≡ false
works_along nodes None n works = works
works_along nodes (Some f) n works = works_before nodes f n works

pub takes_along : (nodes : List Node) (given : Option ℕ) (n : ℕ) → is_load (links_given nodes given) n ≡ false
    → arguments (links_given nodes given) n ≡ arguments nodes n
takes_along nodes None n works = refl
takes_along nodes (Some f) n works = takes_as_before nodes f n works

pub none_taken_along : (nodes : List Node) (given : Option ℕ) (n : ℕ) → (is_load nodes n ≡ true → arguments nodes n ≡ [])
    → is_load (links_given nodes given) n ≡ true → arguments (links_given nodes given) n ≡ []
none_taken_along nodes None n none loads = none loads
none_taken_along nodes (Some f) n none loads = none_taken_after nodes f n none loads

-- whether it counts as one that loads, by whether it is the one that is given
pub load_where_given : (nodes : List Node) (f n : ℕ) → n < length nodes → n ≡ f → is_load (as_load nodes f) n ≡ true
load_where_given [] f n below is = absurd (omega arith)
load_where_given (x ∷ xs) zero zero below is = refl
load_where_given (x ∷ xs) zero (suc n) below is = absurd (omega arith)
load_where_given (x ∷ xs) (suc f) zero below is = absurd (omega arith)
load_where_given (x ∷ xs) (suc f) (suc n) below is = load_where_given xs f n (omega arith) (omega arith)

pub load_elsewhere : (nodes : List Node) (f n : ℕ) → n ≢ f → is_load (as_load nodes f) n ≡ is_load nodes n
load_elsewhere [] f n other = refl
load_elsewhere (x ∷ xs) zero zero other = absurd (other refl)
load_elsewhere (x ∷ xs) zero (suc n) other = refl
load_elsewhere (x ∷ xs) (suc f) zero other = refl
load_elsewhere (x ∷ xs) (suc f) (suc n) other = load_elsewhere xs f n (λ e. other (ap suc e))

-- ---- the schedule of a plan

module _ (p : PlanOf) (is : IsPlan p) where
  pub plan_schedule : IsSchedule p.graph (schedule_of p)
  plan_schedule = record {
    faultless = is.faultless;
    within = is.within;
    of_run = λ i below. subst (λ (steps : List ℕ). Contains steps (get_or p.order.steps i 0)) is.steps_are
        (Contains-get_or p.order.steps i 0 below);
    listing = is.listing;
    evaluation = is.evaluation;
    slotted = is.slotted;
    small = (fit_memory.each p is).largest;
  }

-- ---- windows of a run

-- the windows of a run up to the last node serve a schedule that has its steps, where each fits a slot
module _ (c : CheckedGraph) (schedule : ScheduleOf) (are : schedule.order.steps ≡ steps_to_last c schedule)
    (size : ChunkSize) (chunk : Window) (windows : List Window) (w : AreWindows (part_of c schedule) size chunk windows)
    (fit : FitSlots schedule windows) where
  long : (s : ℕ) → s < length schedule.order.steps → s < length windows
  long s below = subst (λ n. s < n) (ap length are ∙ sym w.each) below

  takes_in_run : (s number r : ℕ) → TakesAt c schedule s number r → Takes (part_of c schedule) s number r
  takes_in_run s number r t = record {
    within = subst (λ (steps : List ℕ). s < length steps) are t.within;
    earlier = t.earlier;
    works = works_along (links_of c.nodes) schedule.given (get_or (steps_to_last c schedule) s 0)
        (subst (λ (steps : List ℕ). is_load (links_along c schedule) (get_or steps s 0) ≡ false) are t.works);
    taken = subst (λ (steps : List ℕ). slice_get (arguments_of_node c (get_or steps s 0)) number ≡ Some (get_or steps r 0)) are t.taken;
  }

  pub windows_serve : AreWindowsFor c schedule windows
  windows_serve = record {
    each = w.each ∙ ap length (sym are);
    inside = λ s below.
        subst (λ (steps : List ℕ). Holds (whole_window (shape_of_node c (get_or steps s 0))) (window_at windows s)) (sym are)
        (w.inside s (long s below));
    needed = λ s number r takes p q h needs.
        w.closed.needed s number r (takes_in_run s number r takes) p q h
        (needs_in_part c schedule.last (get_or (steps_to_last c schedule) s 0) number p q
        (subst (λ (steps : List ℕ). NeedsOfNode c (get_or steps s 0) number p q) are needs));
    few = λ s below. fit s (long s below);
  }

-- those of a plan's run serve its schedule
pub plan_windows : (p : PlanOf) → IsPlan p → (chunk : Window) (windows : List Window) → AreWindows p.graph p.size chunk windows
    → AreWindowsFor p.graph (schedule_of p) windows
plan_windows p is chunk windows w = windows_serve p.graph (schedule_of p) is.steps_are p.size chunk windows w w.few

-- ---- orders that are schedules

taken_before : (nodes : List Node) (given : Option ℕ) (n a : ℕ) → Contains (arguments (links_given nodes given) n) a → Contains (arguments nodes n) a
taken_before nodes None n a has = has
taken_before nodes (Some f) n a has = by nodes f n has
  where
    by : (nodes : List Node) (f n : ℕ) → Contains (arguments (as_load nodes f) n) a → Contains (arguments nodes n) a
    by [] f n has = has
    by (x ∷ xs) zero zero has = let below = has.1 in absurd (omega arith)
    by (x ∷ xs) zero (suc n) has = has
    by (x ∷ xs) (suc f) zero has = has
    by (x ∷ xs) (suc f) (suc n) has = by xs f n has

reached_before : (nodes : List Node) (given : Option ℕ) {a b : ℕ} → Reaches (links_given nodes given) a b → Reaches nodes a b
reached_before nodes given {a} {b} (refers has) = refers (taken_before nodes given a b has)
reached_before nodes given {a} (onwards {b = m} has rest) = onwards (taken_before nodes given a m has) (reached_before nodes given rest)

run_before : (nodes : List Node) (given : Option ℕ) (result last n : ℕ) → IsInRun nodes result last → IsInRun (links_given nodes given) last n
    → IsInRun nodes result n
run_before nodes given result last n reached here = elim here [
  | inl same ↦ subst (IsInRun nodes result) (sym same) reached
  | inr on ↦ elim reached [
    | inl is ↦ inr (subst (λ m. Reaches nodes m n) is (reached_before nodes given on))
    | inr to ↦ inr (Reaches-trans to (reached_before nodes given on))
  ]
]

module _ (c : CheckedGraph) (schedule : ScheduleOf) (f : AreFaultless c) (ordered : IsOrdered c)
    (reached : IsInRun (links_of c.nodes) c.result schedule.last)
    (listing : IsListing (links_along c schedule) schedule.last schedule.order.steps) where
  stands : (i : ℕ) → i < length schedule.order.steps → Contains (steps_of c) (node_at schedule i)
  stands i below =
      (ordered.members (node_at schedule i)).1
      (run_before (links_of c.nodes) schedule.given c.result schedule.last (node_at schedule i) reached
      ((listing.members (node_at schedule i)).0 (Contains-get_or schedule.order.steps i 0 below)))

  pub order_is_schedule : IsEvaluationOrder (links_along c schedule) schedule.last schedule.order.steps
      → IsSlotted (links_along c schedule) schedule.last schedule.order → schedule.largest ≤ most_held_cells → IsSchedule c schedule
  order_is_schedule evaluation slotted small = record {
    faultless = f;
    within = λ i below.
        let at = stands i below in
        subst (λ n. n < node_count c.nodes) (get_or_default (steps_of c) at.0 0 (node_at schedule i) at.1 ∙ at.2)
        (step_below c f ordered at.0 at.1);
    of_run = stands;
    listing = listing;
    evaluation = evaluation;
    slotted = slotted;
    small = small;
  }

-- ---- windows of some of the steps

module _ (c : CheckedGraph) (schedule : ScheduleOf) (is : IsSchedule c schedule) (ordered : IsOrdered c) (size : ChunkSize) (chunk : Window)
    (windows picked : List Window) (w : AreWindows c size chunk windows) (each : length picked ≡ length schedule.order.steps)
    (same : ArePicked c schedule windows picked) (fit : FitSlots schedule picked) where
  -- the step of the run at which the node of a step stands
  run_step : (s : ℕ) → s < length schedule.order.steps → (r : ℕ) × (r < length (steps_of c)) × (get_or (steps_of c) r 0 ≡ node_at schedule s)
  run_step s below =
      let at = is.of_run s below in (at.0, at.1, get_or_default (steps_of c) at.0 0 (node_at schedule s) at.1 ∙ at.2)

  window_is : (s : ℕ) (below : s < length schedule.order.steps) → window_at picked s ≡ window_at windows (run_step s below).0
  window_is s below =
      let r = run_step s below in same s r.0 (subst (λ n. s < n) (sym each) below) r.1 r.2

  -- what is taken along the schedule is taken in the run
  takes_between : (s number r : ℕ) (below : s < length schedule.order.steps) (under : r < length schedule.order.steps)
      → TakesAt c schedule s number r → Takes c (run_step s below).0 number (run_step r under).0
  takes_between s number r below under t =
      let at = run_step s below in
      let from = run_step r under in
      let works = works_along (links_of c.nodes) schedule.given (node_at schedule s) t.works in
      let works_here : is_load (links_of c.nodes) (get_or (steps_of c) at.0 0) ≡ false = subst (λ n. is_load (links_of c.nodes) n ≡ false) (sym at.2) works in
      let taken : slice_get (arguments_of_node c (get_or (steps_of c) at.0 0)) number ≡ Some (get_or (steps_of c) from.0 0) =
      subst (λ n. slice_get (arguments_of_node c n) number ≡ Some (get_or (steps_of c) from.0 0)) (sym at.2) (t.taken ∙ ap Some (sym from.2)) in
      record {
        within = at.1;
        earlier = argument_before (links_of c.nodes) c.result (steps_of c) ordered at.0 number from.0 at.1 from.1 works_here taken;
        works = works_here;
        taken = taken;
      }

  pub windows_picked : AreWindowsFor c schedule picked
  windows_picked = record {
    each = each;
    inside = λ s below.
        let at = run_step s below in
        subst (λ n. Holds (whole_window (shape_of_node c n)) (window_at picked s)) at.2
        (subst (Holds (whole_window (shape_of_node c (get_or (steps_of c) at.0 0)))) (sym (window_is s below))
        (w.inside at.0 (subst (λ n. at.0 < n) (sym w.each) at.1)));
    needed = λ s number r t p q h needs.
        let below = t.within in
        let earlier = t.earlier in
        let under : r < length schedule.order.steps = omega arith in
        let at = run_step s below in
        subst (λ v. IsIn v q) (sym (window_is r under))
        (w.closed.needed at.0 number (run_step r under).0 (takes_between s number r below under t) p q
        (subst (λ v. IsIn v p) (window_is s below) h) (subst (λ n. NeedsOfNode c n number p q) (sym at.2) needs));
    few = λ s below. fit s (subst (λ n. s < n) (sym each) below);
  }

pub schedules_serve : SchedulesServe
schedules_serve = record {
  orders = λ c schedule f ordered reached listing evaluation slotted small.
      order_is_schedule c schedule f ordered reached listing evaluation slotted small;
  own = λ c schedule are size chunk windows w fit. windows_serve c schedule are size chunk windows w fit;
  picked = λ c schedule is ordered size chunk windows picked w each same fit.
      windows_picked c schedule is ordered size chunk windows picked w each same fit;
}

-- ---- how a plan is kept

pub is_bounded : (c : CheckedGraph) (size : ChunkSize) (workers width large scratch bound : ℕ) → width ≡ width_of_run c
    → large ≡ largest_window c size → scratch ≡ scratch_of c → bound ≡ 2 * workers * (width * large + scratch)
    → bound ≤ most_held_cells → bound_of c size workers ≤ most_held_cells
is_bounded c size workers width large scratch bound width_is large_is scratch_is is small =
    subst (λ (n : ℕ). n ≤ most_held_cells)
    (is ∙ ap (λ (w : ℕ). 2 * workers * (w * large + scratch)) width_is
    ∙ ap (λ (l : ℕ). 2 * workers * (width_of_run c * l + scratch)) large_is
    ∙ ap (λ (s : ℕ). 2 * workers * (width_of_run c * largest_window c size + s)) scratch_is)
    small

-- with the schedule that is made of its order
module _ (c : CheckedGraph) (size : ChunkSize) (workers last large : ℕ) (order : Steps) (schedule : ScheduleOf)
    (is : schedule ≡ record { last = last; given = None; order = order; largest = large }) where
  pub still_plan : IsPlan (record { graph = c; size = size; workers = workers; order = order })
      → IsPlan (record { graph = c; size = size; workers = workers; order = schedule.order })
  still_plan p = subst (λ (s : ScheduleOf). IsPlan (record { graph = c; size = size; workers = workers; order = s.order })) (sym is) p

  pub kept_plan : (grid : Tiling) (scratch : ℕ) → last ≡ c.result → large ≡ largest_window c size
      → grid ≡ tiling_of (shape_of_node c c.result) size → scratch ≡ scratch_of c
      → IsPlan (record { graph = c; size = size; workers = workers; order = order })
      → IsKeptPlan (record { graph = c; size = size; workers = workers; order = schedule.order }) schedule grid scratch
  kept_plan grid scratch last_is large_is grid_is scratch_is p =
      subst (λ (s : ScheduleOf). IsKeptPlan (record { graph = c; size = size; workers = workers; order = s.order }) s grid scratch) (sym is)
      (record {
        plan = p;
        schedule_is = ap (λ (l : ℕ). record { last = l; given = None; order = order; largest = large }) last_is
            ∙ ap (λ (g : ℕ). record { last = c.result; given = None; order = order; largest = g }) large_is;
        grid_is = grid_is;
        scratch_is = scratch_is;
      })
