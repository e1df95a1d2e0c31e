-- The steps of a schedule: their nodes, their slots, and the steps whose cubes they take.
use Rattle.std.proofs.Common.{◌≡◌, ◌≢◌, inl, inr, ℕ, suc, ◌^◌, ◌<◌, ◌≤◌, true, false, List, [], ◌∷◌, length, get_or, slice_get, Contains, Option, Some, None, is_some, refl, sym, ap, ◌∙◌, subst, arith}
use Rattle.std.proofs.lemmas.Bool.{false_from_ne_true}
use Rattle.std.proofs.lemmas.List.{get_or_default, length-map, length-take-le}
use Rattle.std.proofs.lemmas.Option.{slice_get_within, get_or_from_slice_get}
use Rattle.std.specs.List.{All}
use Rattle.oe_cell.specs.declared.cell.Cell.{Cell}
use Rattle.oe_cube.specs.Kinds.{IsOfKind}
use Rattle.oe_graph.specs.Printed.{node_count}
use Rattle.oe_graph.specs.References.{each_node}
use Rattle.oe_graph.proofs.SearchLemmas.{each_count}
use Rattle.oe_order.proofs.Lists.{Apart, contains-to, length-apart}
use Rattle.oe_order.specs.Graph.{arguments, is_load}
use Rattle.oe_order.specs.Live.{is_live}
use Rattle.oe_order.specs.Order.{contains}
use Rattle.oe_plan.proofs.ScheduleLemmas.{takes_along, works_along}
use Rattle.oe_plan.proofs.RunLemmas.{only_step}
use Rattle.oe_plan.specs.Figures.{most_held_cells}
use Rattle.oe_plan.specs.Schedules.{is_load_at, node_at, links_along, ScheduleOf, IsSchedule, AreWindowsFor, TakesAt}
use Rattle.oe_plan.specs.Steps.{arguments_of_node}
use Rattle.oe_plan.specs.Windows.{window_at}
use Rattle.oe_check.proofs.LinkLemmas.{few as few_nodes}
use Rattle.oe_check.proofs.LoadLemmas.{loads_where}
use Rattle.oe_check.specs.Checked.{collection_of_node, CheckedGraph}
use Rattle.oe_check.specs.Links.{link_of, links_of}
use Rattle.oe_requests.specs.Operations.{Operation}
use Rattle.oe_window.specs.Windows.{position_count}
use Rattle.oe_window.specs.declared.window.Window.{Window}
use Rattle.oe_steps.proofs.NodeLemmas.{WorksOn, cube_count}
use Rattle.oe_steps.proofs.StepLemmas.{AreBoth, at_most_two, one_argument, one_at_least, two_arguments}
use Rattle.oe_steps.specs.Buffers.{buffer_at}
use Rattle.oe_steps.specs.Inputs.{IsInput}
use Rattle.oe_steps.specs.Steps.{AreArguments, AreOfKind, HaveRoomFor, buffer_cells_at, cell_kind_at}

none_loaded : (o : Option (List ℕ)) → false ≡ is_some o → o ≡ None
none_loaded None e = refl
none_loaded (Some id) e = absurd cc

-- numbers that differ
apart_of : (xs : List ℕ) → ((i j : ℕ) → i < j → j < length xs → get_or xs i 0 ≢ get_or xs j 0) → Apart xs
apart_of [] once = tt
apart_of (x ∷ xs) once = (
  false_from_ne_true (contains xs x) (λ e.
      let has = contains-to xs x e in
      let below = has.1 in
      once 0 (suc has.0) (omega arith) (omega arith) (sym (get_or_default xs has.0 0 x below ∙ has.2))),
  apart_of xs (λ i j before below. once (suc i) (suc j) (omega arith) (omega arith)),
)

module _ (graph : CheckedGraph) (schedule : ScheduleOf) (is : IsSchedule graph schedule) where
  -- there are fewer steps than 2^32, one for each node at most
  pub few_steps : length schedule.order.steps < 2 ^ 32
  few_steps =
      let count = node_count graph.nodes in
      let most = length-apart count schedule.order.steps (apart_of schedule.order.steps is.listing.once) (λ n has.
      let one = contains-to schedule.order.steps n has in
      let at : get_or schedule.order.steps one.0 0 ≡ n = get_or_default schedule.order.steps one.0 0 n one.1 ∙ one.2 in
      subst (λ m. m < count) at (is.within one.0 one.1)) in
      let nodes_are : length (links_of graph.nodes) ≡ count = length-map (each_node graph.nodes) (link_of graph.nodes) ∙ each_count graph.nodes in
      let below = few_nodes graph.nodes is.faultless.resolved in
      omega arith

  -- each step is that of a node of the graph
  pub node_within : (step : ℕ) → step < length schedule.order.steps → node_at schedule step < node_count graph.nodes
  node_within step h = is.within step h

  -- a step that is no load works on cubes of nodes
  pub works_at : (step : ℕ) → is_load_at graph schedule step ≡ false → is_load (links_of graph.nodes) (node_at schedule step) ≡ false
  works_at step works = works_along (links_of graph.nodes) schedule.given (node_at schedule step) works

  pub loads_none : (step : ℕ) → step < length schedule.order.steps → is_load_at graph schedule step ≡ false
      → collection_of_node graph (node_at schedule step) ≡ None
  loads_none step h works =
      none_loaded (collection_of_node graph (node_at schedule step))
      (sym (works_at step works) ∙ loads_where graph is.faultless (node_at schedule step) (node_within step h))

  -- no window has more cells than a buffer
  pub few : (windows : List Window) → AreWindowsFor graph schedule windows
      → (step : ℕ) → step < length schedule.order.steps → position_count (window_at windows step) ≤ schedule.largest
  few windows are step h = are.few step h

  pub few_cells : schedule.largest ≤ most_held_cells
  few_cells = is.small

  pub few_positions : (windows : List Window) → AreWindowsFor graph schedule windows
      → (step : ℕ) → step < length schedule.order.steps → position_count (window_at windows step) < 2 ^ 64
  few_positions windows are step h =
      let some = few windows are step h in
      let most = few_cells in
      omega arith

  pub step_of_windows : (windows : List Window) → AreWindowsFor graph schedule windows
      → length windows ≡ length schedule.order.steps
  step_of_windows windows are = are.each

  -- ---- the cells of a step in its slot

  pub slot_below : (step : ℕ) → step < length schedule.order.steps → get_or schedule.order.slots step 0 < schedule.order.width
  slot_below step h = is.slotted.below step h

  pub is_input : (windows : List Window) → AreWindowsFor graph schedule windows → (buffers : List (List Cell))
      → HaveRoomFor schedule buffers → (step : ℕ) → step < length schedule.order.steps → (cells : List Cell)
      → cells ≡ buffer_cells_at schedule windows buffers step → AreOfKind graph schedule windows buffers step → IsInput graph schedule windows step cells
  is_input windows are buffers room step within cells same kinds =
      let some = few windows are step within in
      let long = room.each (get_or schedule.order.slots step 0) (slot_below step within) in
      record {
        within = within;
        counted = ap length same ∙ length-take-le (position_count (window_at windows step)) (buffer_at buffers (get_or schedule.order.slots step 0)) (omega arith);
        of_kind = subst (All (IsOfKind (cell_kind_at graph schedule step))) (sym same) kinds;
      }

  -- ---- what a step takes

  module _ (step : ℕ) (within : step < length schedule.order.steps) (works : is_load_at graph schedule step ≡ false) where
    abbrev pub args : List ℕ
    args = arguments_of_node graph (node_at schedule step)

    pub taken_at : (number r : ℕ) → TakesAt graph schedule step number r → slice_get args number ≡ Some (node_at schedule r)
    taken_at number r t = t.taken

    -- the step of each argument
    pub record IsTaken (number a : ℕ) : Type 0 where
      pub step_of : ℕ
      pub takes : TakesAt graph schedule step number step_of
      pub node_is : node_at schedule step_of ≡ a
      pub live : is_live (links_along graph schedule) schedule.last schedule.order.steps step step_of ≡ true

    pub is_taken : (number a : ℕ) → slice_get args number ≡ Some a → IsTaken number a
    is_taken number a at =
        let along = takes_along (links_of graph.nodes) schedule.given (node_at schedule step) works in
        let has : Contains (arguments (links_along graph schedule) (node_at schedule step)) a =
        subst (λ (xs : List ℕ). Contains xs a) (sym along) (number, slice_get_within args number a at, get_or_from_slice_get args number a a at) in
        let held = is.evaluation.arguments_held step a within works has in
        record {
          step_of = held.at;
          takes = record { within = within; earlier = held.earlier; works = works; taken = at ∙ ap Some (sym held.is) };
          node_is = held.is;
          live = held.live;
        }

    pub taken_below : (number a : ℕ) (t : IsTaken number a) → t.step_of < length schedule.order.steps
    taken_below number a t = let earlier = t.takes.earlier in omega arith

    pub taken_stands : (number a : ℕ) → IsTaken number a → Contains schedule.order.steps a
    taken_stands number a t =
        let below = taken_below number a t in
        (t.step_of, below, get_or_default schedule.order.steps t.step_of a 0 below ∙ t.node_is)

    -- it is live at the step, and so has another slot
    pub taken_live : (number r : ℕ) → TakesAt graph schedule step number r
        → is_live (links_along graph schedule) schedule.last schedule.order.steps step r ≡ true
    taken_live number r t =
        let one = is_taken number (node_at schedule r) (taken_at number r t) in
        let earlier = t.earlier in
        let other = one.takes.earlier in
        let same : one.step_of ≡ r = only_step schedule.order.steps is.listing.once one.step_of r (omega arith) (omega arith) one.node_is in
        subst (λ i. is_live (links_along graph schedule) schedule.last schedule.order.steps step i ≡ true) same one.live

    pub taken_apart : (number r : ℕ) → TakesAt graph schedule step number r → get_or schedule.order.slots r 0 ≢ get_or schedule.order.slots step 0
    taken_apart number r t =
        let earlier = t.earlier in
        is.slotted.apart step r step within (taken_live number r t) (is.evaluation.own_live step) (omega arith)

    -- the second too is the step of an argument
    pub second_takes : (first second : ℕ) → AreArguments graph schedule step first second → (number : ℕ) × TakesAt graph schedule step number second
    second_takes first second are = elim are.second_taken [
      | inl taken ↦ (1, taken)
      | inr one ↦ (0, subst (TakesAt graph schedule step 0) (sym one.0) are.first_taken)
    ]

    -- a node has a first argument, and of others than these two none
    module _ (operation : Operation) (w : WorksOn graph (node_at schedule step) operation) where
      pub are_both : (first second : ℕ) → AreArguments graph schedule step first second
          → AreBoth args (node_at schedule first) (node_at schedule second) (cube_count operation)
      are_both first second are =
          let many = w.as_many in
          let most = at_most_two operation in
          let a = taken_at 0 first are.first_taken in
          elim are.second_taken [
            | inl two ↦ inl (two_arguments args (node_at schedule first) (node_at schedule second) a (taken_at 1 second two) (omega arith))
            | inr one ↦ inr (one_argument args (node_at schedule first) a one.1, ap (node_at schedule) one.0, sym many ∙ one.1)
          ]

      -- as many arguments as its operation works on
      pub argument_count_is : length args ≡ cube_count operation
      argument_count_is = w.as_many

      pub some_argument : 0 < length args
      some_argument =
          let many = w.as_many in
          let some = one_at_least operation in
          omega arith

      pub few_arguments : length args ≤ 2
      few_arguments =
          let many = w.as_many in
          let most = at_most_two operation in
          omega arith

      -- one that has no second argument has one alone
      pub single : (count first : ℕ) → count ≡ length args → count < 2 → TakesAt graph schedule step 0 first
          → AreArguments graph schedule step first first
      single count first is_count less taken =
          let some = some_argument in
          record { first_taken = taken; second_taken = inr (refl, omega arith) }
