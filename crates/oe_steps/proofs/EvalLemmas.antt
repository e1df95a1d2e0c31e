-- One step from its two inputs: what its operation asks of them, and that its cells are those of its node.
use Rattle.std.proofs.Common.{◌≡◌, inl, inr, ℕ, ◌<◌, false, List, [], ◌∷◌, length, Some, sym, ap, ◌∙◌, subst, arith}
use Rattle.std.specs.List.{All}
use Rattle.std.proofs.lemmas.List.{get_or_default}
use Rattle.oe_cell.specs.declared.cell.Cell.TheVariants.{Empty}
use Rattle.oe_cell.specs.declared.cell.Cell.{Cell}
use Rattle.oe_cube.specs.Kinds.{IsOfKind}
use Rattle.oe_dims.specs.Cube.{Cube, IsCube}
use Rattle.oe_dims.specs.Dimensions.{Dimensions}
use Rattle.oe_dims.specs.declared.kind.CellKind.{CellKind}
use Rattle.oe_ops.specs.Needs.{HoldsNeed, Needs}
use Rattle.oe_ops.specs.Nodes.{FitsFirstKind, HasScratch, TakesInputs}
use Rattle.oe_plan.specs.Figures.{scratch_of, shape_of_node, steps_of}
use Rattle.oe_plan.specs.Schedules.{is_load_at, node_at, ScheduleOf, IsSchedule, AreWindowsFor, TakesAt}
use Rattle.oe_plan.specs.Steps.{NeedsOfNode, arguments_of_node}
use Rattle.oe_plan.specs.Windows.{window_at}
use Rattle.oe_check.proofs.CheckedLemmas.{give_cubes}
use Rattle.oe_check.specs.Checked.{operation_of_node, CheckedGraph}
use Rattle.oe_meanings.specs.Graphs.{Collections}
use Rattle.oe_check.specs.Laws.{AreCollectionsOf, meaning_of_node}
use Rattle.oe_meanings.specs.Meaning.{cube_of}
use Rattle.oe_requests.specs.Operations.{Operation, Outline, operation_kind, shape_of}
use Rattle.oe_window.specs.Cells.{cells_on}
use Rattle.oe_window.specs.Windows.{Holds, whole_window}
use Rattle.oe_window.specs.declared.window.Window.{Window}
use Rattle.oe_steps.proofs.FigureLemmas.{has_room}
use Rattle.oe_steps.proofs.InputLemmas.{fits_kind, takes_inputs}
use Rattle.oe_steps.proofs.NodeLemmas.{WorksOn, cube_count, works_on}
use Rattle.oe_steps.proofs.ScheduleLemmas.{are_both, loads_none, node_within, taken_at}
use Rattle.oe_steps.proofs.StepLemmas.{AreBoth, both_kind, both_mean, both_shape, both_sound, first_needs, one_argument, only_needs, second_needs, two_arguments, at_most_two}
use Rattle.oe_steps.specs.Steps.{AreArguments, cell_kind_at, node_cells}

module _ (graph : CheckedGraph) (schedule : ScheduleOf) (is : IsSchedule graph schedule) where
  abbrev shape_at : ℕ → Dimensions
  shape_at step = shape_of_node graph (node_at schedule step)

  -- ---- of any step

  -- there is room for its shape
  pub room_at : (step : ℕ) (d : Dimensions) → step < length schedule.order.steps → d ≡ shape_at step → HasScratch d (scratch_of graph)
  room_at step d within same =
      let stands = is.of_run step within in
      let is_node = get_or_default (steps_of graph) stands.0 0 (node_at schedule step) stands.1 ∙ stands.2 in
      subst (λ s. HasScratch s (scratch_of graph)) (sym same)
      (subst (λ n. HasScratch (shape_of_node graph n) (scratch_of graph)) is_node (has_room graph stands.0 stands.1))

  -- its window lies in its shape
  pub inside_at : (windows : List Window) → AreWindowsFor graph schedule windows
      → (step : ℕ) (d : Dimensions) (w : Window) → step < length schedule.order.steps → d ≡ shape_at step → w ≡ window_at windows step
      → Holds (whole_window d) w
  inside_at windows are step d w within same is_window = rw (same, is_window) (are.inside step within)

  -- what it has of the cube of its node over collections
  pub cube_at : (collections : Collections) → AreCollectionsOf graph collections → (step : ℕ) → step < length schedule.order.steps
      → IsCube (meaning_of_node collections graph (node_at schedule step)).cube
  cube_at collections has step within =
      (give_cubes.cube graph is.faultless collections has (node_at schedule step) (node_within graph schedule is step within)).counted

  pub cube_shape_at : (collections : Collections) → AreCollectionsOf graph collections → (step : ℕ) → step < length schedule.order.steps
      → (d : Dimensions) → d ≡ shape_at step → (meaning_of_node collections graph (node_at schedule step)).cube.shape ≡ d
  cube_shape_at collections has step within d same =
      ap (λ (o : Outline). o.shape) (give_cubes.cube graph is.faultless collections has (node_at schedule step) (node_within graph schedule is step within)).outline_is
      ∙ sym same

  -- ---- of a step that is no load, from its two inputs

  module _ (step : ℕ) (within : step < length schedule.order.steps) (works : is_load_at graph schedule step ≡ false) (first second : ℕ)
      (arguments : AreArguments graph schedule step first second) (operation : Operation)
      (operates : operation_of_node graph (node_at schedule step) ≡ Some operation) where
    w : WorksOn graph (node_at schedule step) operation
    w = works_on graph is.faultless (node_at schedule step) (node_within graph schedule is step within) operation operates (loads_none graph schedule is step within works)

    both : AreBoth (arguments_of_node graph (node_at schedule step)) (node_at schedule first) (node_at schedule second) (cube_count operation)
    both = are_both graph schedule is step within works operation w first second arguments

    pub shape_goal : (d e f : Dimensions) → d ≡ shape_at step → e ≡ shape_at first → f ≡ shape_at second
        → d ≡ shape_of operation (e ∷ f ∷ [])
    shape_goal d e f here one two =
        let is_shape = both_shape graph (node_at schedule step) (node_at schedule first) (node_at schedule second) operation operates w both in
        rw (one, two) (here ∙ is_shape)

    pub takes_goal : (e : Dimensions) (one two : List Cell) → e ≡ shape_at first → All (IsOfKind (cell_kind_at graph schedule first)) one
        → All (IsOfKind (cell_kind_at graph schedule second)) two → TakesInputs operation e one two
    takes_goal e one two same h k =
        let sound = both_sound graph (node_at schedule step) (node_at schedule first) (node_at schedule second) operation operates w both in
        rw same (takes_inputs operation (shape_at first) (shape_at second) (cell_kind_at graph schedule first) (cell_kind_at graph schedule second) one two sound h k)

    pub fits_goal : (two : List Cell) → All (IsOfKind (cell_kind_at graph schedule second)) two → FitsFirstKind operation (cell_kind_at graph schedule first) two
    fits_goal two k =
        let sound = both_sound graph (node_at schedule step) (node_at schedule first) (node_at schedule second) operation operates w both in
        fits_kind operation (shape_at first) (shape_at second) (cell_kind_at graph schedule first) (cell_kind_at graph schedule second) two sound k

    pub kinds_goal : (out : List Cell) → All (IsOfKind (operation_kind operation (cell_kind_at graph schedule first ∷ []))) out → All (IsOfKind (cell_kind_at graph schedule step)) out
    kinds_goal out h =
        subst (λ (kind : CellKind). All (IsOfKind kind) out)
        (sym (both_kind graph (node_at schedule step) (node_at schedule first) (node_at schedule second) operation operates w both)) h

    pub means_goal : (collections : Collections) → AreCollectionsOf graph collections → (windows : List Window) (out : List Cell)
        → out ≡ cells_on Empty (cube_of operation ((meaning_of_node collections graph (node_at schedule first)).cube
        ∷ (meaning_of_node collections graph (node_at schedule second)).cube ∷ [])) (window_at windows step)
        → out ≡ node_cells collections graph (node_at schedule step) (window_at windows step)
    means_goal collections has windows out e =
        let means = give_cubes.operated graph is.faultless collections has (node_at schedule step) (node_within graph schedule is step within)
        operation operates (loads_none graph schedule is step within works) in
        e ∙ ap (λ (cube : Cube Cell). cells_on Empty cube (window_at windows step))
        (sym (both_mean graph (node_at schedule step) (node_at schedule first) (node_at schedule second) operation operates w both collections means))

    module _ (windows : List Window) (are : AreWindowsFor graph schedule windows) where
      closed_at : (number r : ℕ) → TakesAt graph schedule step number r
          → HoldsNeed (NeedsOfNode graph (node_at schedule step) number) (window_at windows step) (window_at windows r)
      closed_at number r takes = are.needed step number r takes

      pub need_goal : (e f : Dimensions) (box : Window) → e ≡ shape_at first → f ≡ shape_at second → box ≡ window_at windows first
          → HoldsNeed (Needs operation (e ∷ f ∷ []) 0) (window_at windows step) box
      need_goal e f box one two is_window = rw (one, two, is_window) (λ q r inside needs.
          closed_at 0 first arguments.first_taken q r inside
          (first_needs graph (node_at schedule step) (node_at schedule first) (node_at schedule second) operation operates w both q r needs))

      pub second_goal : (e f : Dimensions) (box : Window) → e ≡ shape_at first → f ≡ shape_at second → box ≡ window_at windows second
          → HoldsNeed (Needs operation (e ∷ f ∷ []) 1) (window_at windows step) box
      second_goal e f box one two is_window = rw (one, two, is_window) (λ q r inside needs.
          let many = w.as_many in
          let most = at_most_two operation in
          let args = arguments_of_node graph (node_at schedule step) in
          let a = taken_at graph schedule is step within works 0 first arguments.first_taken in
          elim arguments.second_taken [
            | inl taken ↦
                let pair = two_arguments args (node_at schedule first) (node_at schedule second) a (taken_at graph schedule is step within works 1 second taken) (omega arith) in
                closed_at 1 second taken q r inside
                (second_needs graph (node_at schedule step) (node_at schedule first) (node_at schedule second) operation operates w both q r pair needs)
            | inr alone ↦
                let single = one_argument args (node_at schedule first) a alone.1 in
                let again = only_needs graph (node_at schedule step) (node_at schedule first) (node_at schedule second) operation operates w both q r single
                (ap (node_at schedule) alone.0) (sym many ∙ alone.1) needs in
                rw alone.0 (closed_at 0 first arguments.first_taken q r inside again)
          ])
