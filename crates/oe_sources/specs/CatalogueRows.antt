-- What contracts see of a catalogue and of what it answers. `seen` is what they see of a boxed source.
use Rattle.std.specs.Prelude.{ℕ, List, Option, Some, None}
use Rattle.std.specs.declared.alloc.Global.{Global}
use Rattle.std.specs.declared.dyn_box.DynBox.{DynBox}
use Rattle.oe_sources.specs.Catalogue.{MountRefusal, Row, rows_shown}
use Rattle.oe_sources.specs.Catalogue.MountRefusal.{id_invalid, id_taken, is_full}
use Rattle.oe_sources.specs.Source.{Source}
use Rattle.oe_sources.specs.declared.catalogue.Catalogue.{Catalogue}
use Rattle.oe_sources.specs.declared.catalogue.MountFail.{MountFail}
use Rattle.oe_sources.specs.declared.catalogue.MountFail.TheVariants.{IdInvalid, IdTaken, Full, OutOfMemory}

-- The seal of a catalogue: permits and faults are of the catalogue whose seal they have. No contract tells its value,
-- nor that two catalogues have the same; mounting and reading keep it, and what takes a box out leaves another.
abbrev pub seal_of : {X : Type 0} {F : X → Type 0} → Catalogue X F → ℕ
seal_of catalogue = catalogue.seal

-- the rows of a catalogue
abbrev pub rows_in : {X : Type 0} {F : X → Type 0} → (DynBox X Global F → Source) → Catalogue X F → List Row
rows_in seen catalogue = rows_shown seen catalogue.seal catalogue.rows.items

-- the same in a signature that names no box
abbrev pub rows_of : {X : Type 0} {F : X → Type 0} → ((x : X) × F x → Source) → Catalogue X F → List Row
rows_of seen catalogue = rows_in (λ cube. seen (cube.vtable, cube.value)) catalogue

-- the reason of a refusal, none where it is out of memory
abbrev pub refusal_of : {X : Type 0} {F : X → Type 0} → MountFail X F → Option MountRefusal
refusal_of (IdInvalid cube) = Some id_invalid
refusal_of (IdTaken cube) = Some id_taken
refusal_of (Full cube) = Some is_full
refusal_of (OutOfMemory cube) = None

-- the box that it hands back
abbrev pub box_of : {X : Type 0} {F : X → Type 0} → MountFail X F → DynBox X Global F
box_of (IdInvalid cube) = cube
box_of (IdTaken cube) = cube
box_of (Full cube) = cube
box_of (OutOfMemory cube) = cube
