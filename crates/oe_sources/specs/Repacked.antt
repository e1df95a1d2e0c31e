-- The cube file that is written of a mounted collection, and why it is not.
use Rattle.std.specs.Prelude.{◌≡◌, ℕ, ◌+◌, ◌-◌, ◌*◌, ◌^◌, ◌<◌, ◌≤◌, ◌⊎◌, List, Option, Result, Vec, length, take, drop, vec_len, IfErr, IfSome, OnOk}
use Rattle.std.specs.List.{Contains, range_with_len}
use Rattle.std.specs.declared.alloc.Global.{Global}
use Rattle.std.specs.declared.dyn_box.DynBox.{DynBox}
use Rattle.oe_cell.specs.declared.cell.Cell.{Cell}
use Rattle.oe_dims.specs.Dimensions.{Dimensions, cell_count, extent, most_labels}
use Rattle.oe_outside.specs.Faults.{HasCauseOf}
use Rattle.oe_outside.specs.Visible.{Appends, AppendsPrefix}
use Rattle.oe_sources.specs.Catalogue.{Row, source_at}
use Rattle.oe_sources.specs.CatalogueRows.{rows_in}
use Rattle.oe_sources.specs.Packed.{AppendsPacked, AreLeastWidths, IsPacked, plane_size, section_records}
use Rattle.oe_sources.specs.Source.{AreCellsOf, Contents, Source}
use Rattle.oe_sources.specs.declared.catalogue.Catalogue.{Catalogue}
use Rattle.oe_sources.specs.declared.repacking.Part.{Part}
use Rattle.oe_sources.specs.declared.repacking.RepackFail.{RepackFail}
use Rattle.oe_sources.specs.declared.repacking.RepackFail.TheVariants.{SourceFailed, SourceDamaged, SinkFailed, OutOfMemory}
use Rattle.oe_sources.specs.declared.repacking.Sides.{Sides}
use Rattle.oe_wide.specs.Wide.{AllFitIn, IsLeastWidth, records_in}
use Rattle.oe_wide.specs.declared.width.Width.{Width}
use Rattle.oe_window.specs.Runs.{window_numbers}
use Rattle.oe_window.specs.Windows.{position_count, span_at}
use Rattle.oe_window.specs.declared.window.Window.{Window}

-- ---- what was written

-- where the cells of a source are visible, its packed file under an id follows what was written
abbrev pub AppendsRepacked : List ℕ → Source → Option (List ℕ) → Option (List ℕ) → Type 0
AppendsRepacked id source before after =
    IfSome source.contents (λ c. AppendsPacked id source.shape source.kind c.cells before after)

-- a prefix of that file follows what was written
abbrev pub AppendsPartOfRepacked : List ℕ → Source → Option (List ℕ) → Option (List ℕ) → Type 0
AppendsPartOfRepacked id source before after =
    IfSome source.contents (λ c. (bytes : List ℕ)
    × IsPacked id source.shape source.kind c.cells bytes × AppendsPrefix before bytes after)

-- ---- sections

-- the cells of a section of a source
abbrev pub section_cells : Source → ℕ → Contents → List Cell
section_cells source section c = take (plane_size source.shape) (drop (section * plane_size source.shape) c.cells)

-- where the cells of a source are visible, those of a section all have records in a width
abbrev pub FitsSection : Source → ℕ → Width → Type 0
FitsSection source section width = IfSome source.contents (λ c. AllFitIn width (section_cells source section c))

-- their records in the width follow what was written, or a prefix of them does
abbrev pub AppendsSection : Source → ℕ → Width → Option (List ℕ) → Option (List ℕ) → Type 0
AppendsSection source section width before after =
    IfSome source.contents (λ c. Appends before (records_in width (section_cells source section c)) after)

abbrev pub AppendsPartOfSection : Source → ℕ → Width → Option (List ℕ) → Option (List ℕ) → Type 0
AppendsPartOfSection source section width before after =
    IfSome source.contents (λ c. AppendsPrefix before (records_in width (section_cells source section c)) after)

-- the records of all sections in their widths do, or a prefix of them
abbrev pub AppendsSections : Source → List Width → Option (List ℕ) → Option (List ℕ) → Type 0
AppendsSections source widths before after =
    IfSome source.contents (λ c. Appends before (section_records (plane_size source.shape) widths c.cells) after)

abbrev pub AppendsPartOfSections : Source → List Width → Option (List ℕ) → Option (List ℕ) → Type 0
AppendsPartOfSections source widths before after =
    IfSome source.contents (λ c. AppendsPrefix before (section_records (plane_size source.shape) widths c.cells) after)

-- of an output of type O: where the writing of a section succeeds its records follow what was written, where it fails a
-- prefix of them does
pub record WritesSection {O T : Type 0} (written : O → Option (List ℕ)) (out out_after : O) (source : Source)
    (section : ℕ) (width : Width) (result : Result T RepackFail) : Type 0 where
  pub whole : OnOk result (AppendsSection source section width (written out) (written out_after))
  pub part : IfErr result (λ _. AppendsPartOfSection source section width (written out) (written out_after))

-- the same of the records of all sections
pub record WritesSections {O T : Type 0} (written : O → Option (List ℕ)) (out out_after : O) (source : Source)
    (widths : List Width) (result : Result T RepackFail) : Type 0 where
  pub whole : OnOk result (AppendsSections source widths (written out) (written out_after))
  pub part : IfErr result (λ _. AppendsPartOfSections source widths (written out) (written out_after))

-- there is room for the cells that are read at once, and for as many bytes
pub record HasRoom (cells : List Cell) (buffer : Vec ℕ Global) : Type 0 where
  pub for_cells : length cells ≡ 65536
  pub for_bytes : vec_len buffer ≡ 65536

-- ---- damage

-- none of so many positions is damaged, by their row-major numbers from a first one on
abbrev pub AreUndamaged : Contents → ℕ → ℕ → Type 0
AreUndamaged contents first count =
    (number : ℕ) → first ≤ number → number < first + count → ¬ Contains contents.damaged number

-- where the contents of a source are visible, no position of it is damaged
abbrev pub IsUndamaged : Source → Type 0
IsUndamaged source = IfSome source.contents (λ c. AreUndamaged c 0 (cell_count source.shape))

-- What a refusal leaves of an output of type O: after a failed read nothing or a prefix of the file was written; after a
-- failed write a prefix, of contents without damage. Of damage that is visible, and for want of memory, the output is as
-- it was, its fault counter too.
abbrev pub LeavesWritten : {O : Type 0} → (O → Option (List ℕ)) → List ℕ → Source → O → O → RepackFail → Type 0
LeavesWritten written id source out out_after SourceFailed =
    (written out_after ≡ written out) ⊎ AppendsPartOfRepacked id source (written out) (written out_after)
LeavesWritten written id source out out_after (SourceDamaged number) = IfSome source.contents (λ c. out_after ≡ out)
LeavesWritten written id source out out_after SinkFailed =
    IsUndamaged source × AppendsPartOfRepacked id source (written out) (written out_after)
LeavesWritten written id source out out_after OutOfMemory = out_after ≡ out

-- a position of a source has this number, and where the contents are visible it is damaged
pub record IsDamagedPosition (source : Source) (number : ℕ) : Type 0 where
  pub inside : number < cell_count source.shape
  pub damaged : IfSome source.contents (λ c. Contains c.damaged number)

-- what a refusal says of the contents: it names a position, and where they are visible one that is damaged
abbrev pub TellsRepackDamage : Source → RepackFail → Type 0
TellsRepackDamage source SourceFailed = Unit {0}
TellsRepackDamage source (SourceDamaged number) = IsDamagedPosition source number
TellsRepackDamage source SinkFailed = Unit {0}
TellsRepackDamage source OutOfMemory = Unit {0}

-- what it says of the source of a row
abbrev pub TellsDamageAt : List Row → ℕ → RepackFail → Type 0
TellsDamageAt rows place = TellsRepackDamage (source_at rows place)

-- a read of the source of a row fails only where its fault counter rises
abbrev pub HasReadCause : {T : Type 0} → List Row → ℕ → List Row → Result T RepackFail → Type 0
HasReadCause before place after result =
    HasCauseOf SourceFailed (source_at before place).faults (source_at after place).faults result

-- the same of the rows of a catalogue
abbrev pub HasReadCauseIn : {X : Type 0} {F : X → Type 0} {T : Type 0} → (DynBox X Global F → Source) → Catalogue X F
    → ℕ → Catalogue X F → Result T RepackFail → Type 0
HasReadCauseIn seen before place after result = HasReadCause (rows_in seen before) place (rows_in seen after) result

-- a refusal of a read
abbrev pub IsReadRefusal : RepackFail → Type 0
IsReadRefusal SourceFailed = Unit {0}
IsReadRefusal (SourceDamaged number) = Unit {0}
IsReadRefusal SinkFailed = ⊥
IsReadRefusal OutOfMemory = ⊥

-- ---- widths

-- the width is the least of so many cells from a number on, and none of their positions is damaged
pub record IsWidthFrom (contents : Contents) (first count : ℕ) (width : Width) : Type 0 where
  pub least : IsLeastWidth (λ w. AllFitIn w (take count (drop first contents.cells))) width
  pub undamaged : AreUndamaged contents first count

-- the widths are the least of the sections, and no position is damaged
pub record AreWidthsOf (shape : Dimensions) (contents : Contents) (widths : List Width) : Type 0 where
  pub least : AreLeastWidths (plane_size shape) widths contents.cells
  pub undamaged : AreUndamaged contents 0 (cell_count shape)

-- where the cells of a source are visible, the widths are those of its sections, or the width is that of one
abbrev pub HasWidths : Source → List Width → Type 0
HasWidths source widths = IfSome source.contents (λ c. AreWidthsOf source.shape c widths)

abbrev pub HasSectionWidth : Source → ℕ → Width → Type 0
HasSectionWidth source section width =
    IfSome source.contents (λ c. IsWidthFrom c (section * plane_size source.shape) (plane_size source.shape) width)

-- there is one width for each section of a source, and where its cells are visible they are those of its sections
pub record HasAllWidths (source : Source) (widths : List Width) : Type 0 where
  pub counted : length widths ≡ extent source.shape.t
  pub least : HasWidths source widths

-- ---- the parts of a section

-- where the cells of a source are visible, these are those on a window
abbrev pub GivesCells : Source → Window → List Cell → Type 0
GivesCells source window cells = IfSome source.contents (λ c. AreCellsOf source.shape c window cells)

-- there is a section of this number in the source of a row, and a number for the one behind it
pub record IsSectionAt (rows : List Row) (place section : ℕ) : Type 0 where
  pub mounted : place < length rows
  pub below : section < extent (source_at rows place).shape.t
  pub last : section < 2 ^ 32 - 1

-- how many indices a section of a cube has along bands, y and x
pub record AreSidesOf (d : Dimensions) (sides : Sides) : Type 0 where
  pub bands : sides.bands ≡ extent d.bands
  pub y : sides.y ≡ extent d.y
  pub x : sides.x ≡ extent d.x
  pub few : (sides.bands ≤ most_labels) × (sides.y ≤ most_labels) × (sides.x ≤ most_labels)

-- the part has some rows of a section, the next ones after so many, and these are not too many to be read at once
pub record IsNextPart (sides : Sides) (section done : ℕ) (part : Part) : Type 0 where
  pub some : (0 < part.rows) × (0 < part.rows * sides.x)
  pub within : done + part.rows ≤ sides.bands * sides.y
  pub few : part.rows * sides.x ≤ 65536
  pub counted : position_count part.window ≡ part.rows * sides.x
  pub t : part.window.t ≡ span_at section
  pub ends : (part.window.bands.to ≤ sides.bands) × (part.window.y.to ≤ sides.y) × (part.window.x.to ≤ sides.x)
  pub numbers : (d : Dimensions) → AreSidesOf d sides → window_numbers d part.window
      ≡ range_with_len ((section * (sides.bands * sides.y) + done) * sides.x) (part.rows * sides.x)
