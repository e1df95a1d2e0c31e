-- The collections of a catalogue as graphs see them: by their ids, shapes and kinds, in byte order of the ids.
use Rattle.std.specs.Prelude.{◌≡◌, ℕ, List, [], ◌∷◌, if◌then◌else◌}
use Rattle.std.specs.List.{find}
use Rattle.std.specs.Option.{option_map}
use Rattle.oe_dims.specs.Names.{is_name_before, same_name}
use Rattle.oe_dims.specs.declared.dims.DimsRow.{DimsRow}
use Rattle.oe_sources.specs.Catalogue.{Row, row_of}

-- the shape and the kind of a collection under its id
abbrev pub dims_row : Row → DimsRow
dims_row row = record { id = row.id; shape = row.source.shape; kind = row.source.kind }

-- a row put before the first whose id is greater
abbrev pub put_row : DimsRow → List DimsRow → List DimsRow
put_row row [] = row ∷ []
put_row row (first ∷ rows) = if is_name_before row.id first.id then row ∷ first ∷ rows else first ∷ put_row row rows

-- rows put among others, one after the other
abbrev pub put_rows : List DimsRow → List Row → List DimsRow
put_rows done [] = done
put_rows done (row ∷ rows) = put_rows (put_row (dims_row row) done) rows

-- the collections of a catalogue by rising ids
abbrev pub dims_of : List Row → List DimsRow
dims_of rows = put_rows [] rows

-- these rows are those of the catalogue: of each id the one, and none of an id that is not mounted
abbrev pub AreDimsOf : List Row → List DimsRow → Type 0
AreDimsOf rows dims =
    (id : List ℕ) → find (λ (row : DimsRow). same_name row.id id) dims ≡ option_map dims_row (row_of rows id)
