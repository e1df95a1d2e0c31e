-- What contracts compare of lists of labels and of collections: their lists, and no capacity or allocator.
use Rattle.std.specs.Prelude.{◌≡◌, ℕ, ℤ, true, List, map}
use Rattle.oe_dims.specs.declared.dims.Dims.{Dims}
use Rattle.oe_dims.specs.declared.dims.DimsRow.{DimsRow}
use Rattle.oe_dims.specs.Names.{names_rise}
use Rattle.oe_dims.specs.declared.kind.Labels.{Labels}
use Rattle.oe_dims.specs.declared.kind.Labels.TheVariants.{Instants, Names, Places}

-- the labels of one dimension
pub data PlainLabels : Type 0 where
  plain_instants : List ℤ → PlainLabels
  plain_names : List (List ℕ) → PlainLabels
  plain_coordinates : List ℤ → PlainLabels

abbrev pub plain_labels : Labels → PlainLabels
plain_labels (Instants v) = plain_instants v.items
plain_labels (Names v) = plain_names v.items
plain_labels (Places v) = plain_coordinates v.items

-- the collections in their order
abbrev pub plain_rows : Dims → List DimsRow
plain_rows d = d.rows.items

-- the ids of the collections, in their order
abbrev pub collection_ids : Dims → List (List ℕ)
collection_ids d = map (λ row. row.id) d.rows.items

-- in byte order each id stands before the next, so that no two collections have one id
abbrev pub HaveRisingIds : Dims → Type 0
HaveRisingIds d = names_rise (collection_ids d) ≡ true
