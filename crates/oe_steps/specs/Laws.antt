-- What the layers above may rely on of collections that are read.
use Rattle.std.specs.Prelude.{List}
use Rattle.oe_check.specs.Checked.{AreFaultless, CheckedGraph}
use Rattle.oe_sources.specs.Catalogue.{Row}
use Rattle.oe_sources.specs.CatalogueDims.{AreDimsOf}
use Rattle.oe_steps.specs.Collections.{HasCollections}

-- A graph that was checked over the rows of a catalogue has its collections mounted there.
abbrev pub AreMounted : Type 0
AreMounted = (c : CheckedGraph) (rows : List Row) → AreFaultless c → AreDimsOf rows c.rows → HasCollections c rows
