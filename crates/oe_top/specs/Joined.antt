-- Parts and runs: however the chunks of a run are dealt out, what is joined of its parts is what the run writes.
use Rattle.std.specs.Prelude.{◌≡◌, ℕ, List, slice_get, Some}
use Rattle.oe_engine.specs.Laws.{collections_of}
use Rattle.oe_engine.specs.Results.{IsVisible, IsWithoutOver, result_of}
use Rattle.oe_outside.specs.Visible.{Appends}
use Rattle.oe_parts.specs.Head.{AreSides}
use Rattle.oe_parts.specs.Parts.{PartState, ShowsPartOf, heads_of}
use Rattle.oe_parts.specs.Whole.{AreWhole, Tile}
use Rattle.oe_plan.specs.Figures.{chunks_of, shape_of_node}
use Rattle.oe_render.specs.Text.{cube_text}
use Rattle.oe_check.specs.Checked.{AreFaultless, CheckedGraph}
use Rattle.oe_check.specs.Laws.{AreCollectionsOf}
use Rattle.oe_sources.specs.Catalogue.{Row}
use Rattle.oe_window.specs.declared.grid.ChunkSize.{ChunkSize}
use Rattle.oe_top.specs.JoinAnswer.{WritesJoined, outline_of_run}
use Rattle.oe_top.specs.Objects.{Objects}
use Rattle.oe_top.specs.PartAnswer.{head_for}

-- a part is what `part` writes of a graph over the collections of a catalogue, whose text this is, in chunks of a
-- size, for some range
pub record IsPartOfMeaning (rows : List Row) (text : List ℕ) (c : CheckedGraph) (size : ChunkSize) (part : PartState) : Type 0 where
  pub head_is : part.head ≡ head_for text c size part.head.first part.head.end
  pub shows : ShowsPartOf (result_of rows c) part

abbrev pub ArePartsOfMeaning : List Row → List ℕ → CheckedGraph → ChunkSize → List PartState → Type 0
ArePartsOfMeaning rows text c size parts =
    (index : ℕ) (part : PartState) → slice_get parts index ≡ Some part → IsPartOfMeaning rows text c size part

-- Where parts are what `part` writes of a graph without a fault over the collections of a catalogue, and their ranges
-- tile the chunks of its run, they are a whole. So where `join` ends by 0 over a visible spool, no cell of what the
-- graph means is Over, and its text follows what the output held: the words of `run`, in which neither sides nor
-- ranges nor workers occur.
abbrev pub JoinedIsRun : Type 0
JoinedIsRun = (rows : List Row) (text : List ℕ) (c : CheckedGraph) (size : ChunkSize) (parts : List PartState)
    → AreFaultless c → AreCollectionsOf c (collections_of rows) → AreSides size
    → ArePartsOfMeaning rows text c size parts → Tile (heads_of parts) (chunks_of c size)
    → AreWhole (outline_of_run text c) (heads_of parts)
    × ((before after : Objects) → IsVisible before.spool → WritesJoined (shape_of_node c c.result) parts before after
    → IsWithoutOver (result_of rows c) × Appends before.out (cube_text (result_of rows c)) after.out)
