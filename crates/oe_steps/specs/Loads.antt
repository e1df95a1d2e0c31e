-- What reading the cells of a load gives.
use Rattle.std.specs.Prelude.{◌≡◌, ◌≤◌, ⊤, ℕ, ◌+◌, false, List, take, Some, IsErrOf, IfErr, Result, Ok, Err}
use Rattle.std.specs.List.{All}
use Rattle.oe_cell.specs.declared.cell.Cell.{Cell}
use Rattle.oe_cube.specs.Kinds.{IsOfKind}
use Rattle.oe_plan.specs.Windows.{window_at}
use Rattle.oe_check.specs.Checked.{CheckedGraph, collection_of_node, outline_of_node}
use Rattle.oe_meanings.specs.Graphs.{Collections}
use Rattle.oe_check.specs.Laws.{AreCollectionsOf}
use Rattle.oe_sources.specs.Catalogue.{CountsRow, IsFaultAt, Row, cells_asked}
use Rattle.oe_sources.specs.declared.source.LookFail.{LookFail}
use Rattle.oe_sources.specs.declared.source.LookFail.TheVariants as look
use Rattle.oe_sources.specs.declared.source.ReadFault.{ReadFault}
use Rattle.oe_sources.specs.declared.source.SourceFail.{SourceFail}
use Rattle.oe_sources.specs.declared.source.SourceFail.TheVariants.{Failed, Damaged}
use Rattle.oe_window.specs.declared.window.Window.{Window}
use Rattle.oe_plan.specs.Schedules.{ScheduleOf, node_at}
use Rattle.oe_steps.specs.Collections.{AreRead, IsMountedAt, KeepsOtherRows, LoadRose, Shows}
use Rattle.oe_steps.specs.Refusals.{IsOfSource, KeepsDamage, RefusalSays}
use Rattle.oe_steps.specs.Steps.{buffer_cells_at, node_cells}
use Rattle.oe_steps.specs.declared.fail.RunFail.{RunFail}
use Rattle.oe_steps.specs.declared.fail.RunFail.TheVariants.{SourceFailed, SourceDamaged}

-- a look at the collection that a node loads met this fault
abbrev pub IsFaultOf : CheckedGraph → List Row → ℕ → ReadFault → Type 0
IsFaultOf c rows node fault =
    (id : List ℕ) (index : ℕ) → collection_of_node c node ≡ Some id → IsMountedAt c rows id index
    → IsFaultAt rows index fault

-- what the refusal of a look for a node says
abbrev pub TellsWhy : CheckedGraph → List Row → ℕ → Result (Unit {0}) LookFail → Type 0
TellsWhy c rows node (Ok done) = ⊤
TellsWhy c rows node (Err (look.Failed fault)) = IsFaultOf c rows node fault
TellsWhy c rows node (Err (look.Damaged number)) = KeepsDamage c rows node number

-- the answer of a run to that of a look for a node
abbrev pub refusal_for : ℕ → Result (Unit {0}) SourceFail → Result (Unit {0}) RunFail
refusal_for node (Ok u) = Ok u
refusal_for node (Err Failed) = Err SourceFailed
refusal_for node (Err (Damaged number)) = Err (SourceDamaged node number)

-- reading asked for so many cells at most, changed nothing but counters of the collections that the run loads, and was
-- refused for a cause
pub record HasRead (c : CheckedGraph) (most : ℕ) (before after : List Row)
    (result : Result (Unit {0}) RunFail) : Type 0 where
  pub read : AreRead before after
  pub others : KeepsOtherRows c before after
  pub asked : cells_asked after ≤ cells_asked before + most
  pub cause : IsErrOf result SourceFailed → LoadRose c before after
  pub says : IfErr result (λ refusal. IsOfSource refusal × RefusalSays c before refusal)

-- of the collection that a node loads so many cells more are asked for, and no fault is counted; all else in the
-- catalogue stays
pub record CountsLoad (c : CheckedGraph) (node cells : ℕ) (before after : List Row) : Type 0 where
  pub id : List ℕ
  pub index : ℕ
  pub loads : collection_of_node c node ≡ Some id
  pub mounted : IsMountedAt c before id index
  pub counts : CountsRow before index cells false after

-- these are the cells of a node on a window, over the collections that are visible, and each is null or of its kind
pub record AreLoaded (c : CheckedGraph) (rows : List Row) (node : ℕ) (window : Window)
    (cells : List Cell) : Type 0 where
  pub values : (collections : Collections) → AreCollectionsOf c collections → Shows c rows collections
      → cells ≡ node_cells collections c node window
  pub kinds : All (IsOfKind (outline_of_node c node).kind) cells

-- the cells from the first on, as many as are done, are those of the node over the collections that are visible
pub record HasLoadedTo (c : CheckedGraph) (rows : List Row) (node : ℕ) (window : Window) (done : ℕ)
    (buffer : List Cell) : Type 0 where
  pub values : (collections : Collections) → AreCollectionsOf c collections → Shows c rows collections
      → take done buffer ≡ take done (node_cells collections c node window)
  pub kinds : All (IsOfKind (outline_of_node c node).kind) (take done buffer)

-- the same of a step, at the front of the buffer of its slot
abbrev pub IsLoadedAt : CheckedGraph → ScheduleOf → List Row → List Window → List (List Cell) → ℕ → Type 0
IsLoadedAt c schedule rows windows buffers step = AreLoaded c rows (node_at schedule step) (window_at windows step)
    (buffer_cells_at schedule windows buffers step)
