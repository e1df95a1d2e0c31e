-- Collections, as the openEO API describes them (openEO API, collections; STAC and its datacube extension; which members
-- there are is this profile's own).
use Rattle.std.specs.Prelude.{ℕ, ℤ, pos, neg_ℤ, ◌-◌, List, [], ◌∷◌, map, length, Option, Some, None, codes}
use Rattle.std.specs.List.{slice_get}
use Rattle.std.specs.Option.{option_map, option_map_or}
use Rattle.serde_json.specs.Data.{Data, null, number, unsigned, string, object, Members, no_members, member}
use Rattle.oe_dims.specs.Dimensions.{Dimensions, band_names, label_count, number_labels}
use Rattle.oe_dims.specs.declared.dims.DimsRow.{DimsRow}
use Rattle.oe_dims.specs.declared.kind.Kind.{Kind}
use Rattle.oe_dims.specs.declared.kind.Kind.TheVariants.{Time, Bands, Y, X}
use Rattle.oe_replies.specs.Json.{list_data, listing_data, member_where, moment_data, no_links, whole_data}

-- ---- extents

-- the first and the last label
abbrev pub first_label : List ℤ → Option ℤ
first_label labels = slice_get labels 0

abbrev pub last_label : List ℤ → Option ℤ
last_label labels = slice_get labels (length labels - 1)

-- a label as the extent of its dimension has it, null where there is none
abbrev pub end_data : (ℤ → Data) → Option ℤ → Data
end_data spell label = option_map_or spell label null

abbrev pub pair_data : Data → Data → Data
pair_data a b = list_data (a ∷ b ∷ [])

-- from the least label to the greatest: instants and `x` rise, and `y` falls
abbrev pub instants_extent : List ℤ → Data
instants_extent labels = pair_data (end_data moment_data (first_label labels)) (end_data moment_data (last_label labels))

abbrev pub rising_extent : List ℤ → Data
rising_extent labels = pair_data (end_data whole_data (first_label labels)) (end_data whole_data (last_label labels))

abbrev pub falling_extent : List ℤ → Data
falling_extent labels = pair_data (end_data whole_data (last_label labels)) (end_data whole_data (first_label labels))

-- ---- dimensions

abbrev pub time_data : Dimensions → Data
time_data d = object (
    member (codes "extent") (instants_extent (number_labels d Time)) (
    member (codes "type") (string (codes "temporal")) no_members))

abbrev pub bands_data : Dimensions → Data
bands_data d = object (
    member (codes "type") (string (codes "bands")) (
    member (codes "values") (list_data (map string (band_names d))) no_members))

-- a spatial dimension of this axis and extent
abbrev pub spatial_data : Dimensions → List ℕ → Data → Data
spatial_data d axis extent = object (
    member (codes "axis") (string axis) (
    member (codes "extent") extent (
    member (codes "reference_system") (number (unsigned d.epsg)) (
    member (codes "type") (string (codes "spatial")) no_members))))

abbrev pub dimension_data : Dimensions → Kind → Data
dimension_data d Time = time_data d
dimension_data d Bands = bands_data d
dimension_data d Y = spatial_data d (codes "y") (falling_extent (number_labels d Y))
dimension_data d X = spatial_data d (codes "x") (rising_extent (number_labels d X))

-- a dimension, where the cube has it
abbrev pub dimension_where : Dimensions → Kind → Option Data
dimension_where d kind = option_map (λ _. dimension_data d kind) (label_count d kind)

abbrev pub dimensions_data : Dimensions → Data
dimensions_data d = object (
    member_where (codes "bands") (dimension_where d Bands) (
    member_where (codes "t") (dimension_where d Time) (
    member_where (codes "x") (dimension_where d X) (
    member_where (codes "y") (dimension_where d Y) no_members))))

-- ---- collections

-- the whole earth, in degrees: west, south, east, north
abbrev pub whole_earth : Data
whole_earth = list_data (list_data (
    whole_data (neg_ℤ (pos 180)) ∷ whole_data (neg_ℤ (pos 90)) ∷ whole_data (pos 180) ∷ whole_data (pos 90) ∷ []) ∷ [])

abbrev pub extent_data : Dimensions → Data
extent_data d = object (
    member (codes "spatial") (object (member (codes "bbox") whole_earth no_members)) (
    member (codes "temporal")
    (object (member (codes "interval") (list_data (instants_extent (number_labels d Time) ∷ [])) no_members))
    no_members))

-- the members of a collection but its dimensions
abbrev pub collection_members : DimsRow → Members
collection_members row =
    member (codes "description") (string row.id) (
    member (codes "extent") (extent_data row.shape) (
    member (codes "id") (string row.id) (
    member (codes "license") (string (codes "proprietary")) (
    member (codes "links") no_links (
    member (codes "stac_version") (string (codes "1.0.0")) (
    member (codes "type") (string (codes "Collection")) no_members))))))

-- a collection by itself
abbrev pub collection_data : DimsRow → Data
collection_data row =
    object (member (codes "cube:dimensions") (dimensions_data row.shape) (collection_members row))

-- all collections, without their dimensions
abbrev pub collections_data : List DimsRow → Data
collections_data rows = listing_data (codes "collections") (map (λ row. object (collection_members row)) rows)
