-- The loop over the steps of a schedule.
use Rattle.std.proofs.Common.{◌≡◌, ◌≢◌, ℕ, ◌+◌, ◌<◌, ◌≤◌, true, false, List, length, get_or, take, sym, ap, ◌∙◌, subst, arith, inl, inr}
use Rattle.std.proofs.lemmas.Bool.{cases_eq, false_from_ne_true, false≢true}
use Rattle.std.specs.List.{All}
use Rattle.oe_cell.specs.declared.cell.Cell.{Cell}
use Rattle.oe_cube.specs.Kinds.{IsOfKind}
use Rattle.std.proofs.lemmas.List.{length-map}
use Rattle.oe_order.proofs.Graphs.{is_load-graph_of}
use Rattle.oe_graph.specs.Printed.{node_count}
use Rattle.oe_graph.specs.References.{each_node}
use Rattle.oe_graph.proofs.SearchLemmas.{each_count}
use Rattle.oe_order.specs.Graph.{Node, graph_of, is_load}
use Rattle.oe_order.specs.declared.Links.{Links}
use Rattle.oe_plan.specs.Schedules.{is_load_at, links_along, ScheduleOf, IsSchedule, TakesAt}
use Rattle.oe_check.specs.Checked.{CheckedGraph}
use Rattle.oe_check.specs.Links.{link_of, links_of}
use Rattle.oe_meanings.specs.Graphs.{Collections}
use Rattle.oe_window.specs.declared.window.Window.{Window}
use Rattle.oe_steps.proofs.LiveLemmas.{live_after}
use Rattle.oe_steps.proofs.ScheduleLemmas.{taken_live}
use Rattle.oe_steps.specs.Buffers.{buffer_at}
use Rattle.oe_steps.specs.Steps.{AreCells, AreOfKind, EachLive, EachLoad, OfLast, buffer_cells_at, cell_kind_at}

module _ (graph : CheckedGraph) (schedule : ScheduleOf) (is : IsSchedule graph schedule) where
  -- before the first step that is no load
  pub live_first : (Holds : ℕ → Type 0) (first : ℕ) → first ≤ length schedule.order.steps
      → ((step : ℕ) → step < first → is_load_at graph schedule step ≡ true) → EachLoad graph schedule Holds → EachLive graph schedule first Holds
  live_first Holds first most load each i lt live = each i (omega arith) (load i lt)

  -- after the last step
  pub live_last : (Holds : ℕ → Type 0) → EachLive graph schedule (length schedule.order.steps) Holds → OfLast schedule Holds
  live_last Holds each step within is_last =
      each step within (is.evaluation.result_live (length schedule.order.steps) step (omega arith) is_last)

  -- a step takes steps that are live
  pub live_taken : (Holds : ℕ → Type 0) (step : ℕ) → step < length schedule.order.steps → is_load_at graph schedule step ≡ false
      → EachLive graph schedule step Holds → (number r : ℕ) → TakesAt graph schedule step number r → Holds r
  live_taken Holds step within works each number r takes =
      each r takes.earlier (taken_live graph schedule is step within works number r takes)

  module _ (windows : List Window) (old new : List (List Cell)) (step : ℕ) (within : step < length schedule.order.steps)
      (others : (slot : ℕ) → slot ≢ get_or schedule.order.slots step 0 → buffer_at new slot ≡ buffer_at old slot) where
    same_cells : (i : ℕ) → get_or schedule.order.slots i 0 ≢ get_or schedule.order.slots step 0
        → buffer_cells_at schedule windows new i ≡ buffer_cells_at schedule windows old i
    same_cells i apart = ap (take _) (others (get_or schedule.order.slots i 0) apart)

    pub kinds_after : EachLive graph schedule step (AreOfKind graph schedule windows old) → AreOfKind graph schedule windows new step
        → EachLive graph schedule (step + 1) (AreOfKind graph schedule windows new)
    kinds_after before own =
        live_after (links_along graph schedule) schedule.last schedule.order is.evaluation is.slotted
        (AreOfKind graph schedule windows old) (AreOfKind graph schedule windows new) step within
        (λ i apart kinds. subst (All (IsOfKind (cell_kind_at graph schedule i))) (sym (same_cells i apart)) kinds) own before

    pub cells_after : (collections : Collections) → EachLive graph schedule step (AreCells collections graph schedule windows old)
        → AreCells collections graph schedule windows new step → EachLive graph schedule (step + 1) (AreCells collections graph schedule windows new)
    cells_after collections before own =
        live_after (links_along graph schedule) schedule.last schedule.order is.evaluation is.slotted
        (AreCells collections graph schedule windows old) (AreCells collections graph schedule windows new) step within
        (λ i apart cells. same_cells i apart ∙ cells) own before

  -- once a step is no load, none is that follows
  pub works_from : (first : ℕ) → is_load_at graph schedule first ≡ false → (step : ℕ) → first ≤ step → step < length schedule.order.steps
      → is_load_at graph schedule step ≡ false
  works_from first works step from within = elim (cases_eq step first) [
    | inl here ↦ ap (is_load_at graph schedule) here ∙ works
    | inr later ↦ false_from_ne_true (is_load_at graph schedule step) (λ loads.
        false≢true (sym works ∙ is.evaluation.loads_first first step (omega arith) within loads))
  ]

-- whether a node loads a collection, by its link
pub link_is : (graph : CheckedGraph) (links : List Links) (node : ℕ) (link : Links) → graph_of links ≡ links_of graph.nodes
    → node < length links → link ≡ get_or links node link → is_load (links_of graph.nodes) node ≡ link.load
link_is graph links node link are within at =
    ap (λ (g : List Node). is_load g node) (sym are) ∙ is_load-graph_of links node link within at

-- each node has its links
pub links_counted : (graph : CheckedGraph) (node : ℕ) → node < node_count graph.nodes → node < length (links_of graph.nodes)
links_counted graph node below =
    subst (λ n. node < n) (sym (length-map (each_node graph.nodes) (link_of graph.nodes) ∙ each_count graph.nodes)) below
