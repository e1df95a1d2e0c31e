-- Worked values of the definitions.
use Rattle.std.specs.Prelude.{◌≡◌, ℕ, List, pos, negsuc, true, false, [], ◌∷◌, Some, None, codes, refl}
use Rattle.std.specs.Fmt.{digits}
use Rattle.serde_json.specs.Data.{Num, unsigned, negative, Data, string, number, array, object, no_items, item, no_members, member}
use Rattle.oe_cell.specs.declared.cell.Cell.TheVariants.{Empty, Flag, Number}
use Rattle.oe_dims.specs.Calendar.{civil_date}
use Rattle.oe_dims.specs.Dimensions.{Dimensions}
use Rattle.oe_dims.specs.Instant.{instant_text}
use Rattle.oe_dims.specs.declared.kind.CellKind.TheVariants.{Numbers, Flags}
use Rattle.oe_dims.specs.declared.kind.Kind.TheVariants.{Time, Bands, Y, X}
use Rattle.oe_render.specs.CubeText.{label_values, common_system, system_in, same_code, dimension_in, behind, after_y, kind_of}
use Rattle.oe_render.specs.Text.{cube_text, listed_text, more_text}

bare : Dimensions
bare = record { epsg = 0; t = None; bands = None; y = None; x = None }

banded : Dimensions
banded = record { epsg = 0; t = Some (pos 1704067200 ∷ []); bands = Some (codes "B2" ∷ codes "B1" ∷ []); y = None; x = None }

square : Dimensions
square = record { epsg = 4326; t = None; bands = None; y = Some (pos 10 ∷ pos 0 ∷ []); x = Some [] }

one_fraction : cube_text (record { shape = bare; cells = Number (record { num = negsuc 2; den = 2 }) ∷ [] }) ≡ codes "{\"type\":\"FractionCube\",\"dimensions\":[],\"data\":[\"-3/2\"]}"
unfolding cube_text bare digits
one_fraction = refl

two_bands : cube_text (record { shape = banded; cells = Flag true ∷ Empty ∷ [] }) ≡ codes "{\"type\":\"FractionCube\",\"dimensions\":[{\"name\":\"t\",\"type\":\"temporal\",\"labels\":[\"2024-01-01T00:00:00Z\"]},{\"name\":\"bands\",\"type\":\"bands\",\"labels\":[\"B2\",\"B1\"]}],\"data\":[true,null]}"
unfolding cube_text banded instant_text civil_date
two_bands = refl

no_columns : cube_text (record { shape = square; cells = [] }) ≡ codes "{\"type\":\"FractionCube\",\"dimensions\":[{\"name\":\"y\",\"type\":\"spatial\",\"axis\":\"y\",\"reference_system\":4326,\"labels\":[10,0]},{\"name\":\"x\",\"type\":\"spatial\",\"axis\":\"x\",\"reference_system\":4326,\"labels\":[]}],\"data\":[]}"
unfolding cube_text square digits
no_columns = refl

three_parts : listed_text (codes "a" ∷ [] ∷ codes "b" ∷ []) ≡ codes "a,,b"
three_parts = refl

parts_behind : more_text 2 (codes "a" ∷ codes "b" ∷ []) ≡ codes ",a,b"
parts_behind = refl

-- ---- cube texts

abbrev time_value : Data
time_value = object (member (codes "labels") (array no_items) (member (codes "name") (string (codes "t")) (member (codes "type") (string (codes "temporal")) no_members)))

abbrev y_value : List ℕ → Num → Data
y_value axis system = object (member (codes "axis") (string axis) (member (codes "labels") (array no_items) (member (codes "name") (string (codes "y"))
    (member (codes "reference_system") (number system) (member (codes "type") (string (codes "spatial")) no_members)))))

time_labels : label_values Time time_value ≡ Some no_items
time_labels = refl

time_is_no_band : label_values Bands time_value ≡ None
time_is_no_band = refl

y_labels : label_values Y (y_value (codes "y") (unsigned 4326)) ≡ Some no_items
y_labels = refl

another_axis : label_values Y (y_value (codes "x") (unsigned 4326)) ≡ None
another_axis = refl

a_system : common_system (Some (y_value (codes "y") (unsigned 4326))) None ≡ Some 4326
a_system = refl

no_system : common_system None None ≡ Some 0
no_system = refl

too_high : system_in (y_value (codes "y") (unsigned 1000000)) ≡ None
too_high = refl

below_zero : system_in (y_value (codes "y") (negative (negsuc 0))) ≡ None
below_zero = refl

two_systems : same_code (Some 4326) (Some 3857) ≡ None
two_systems = refl

-- t before y, and y before t
in_order : dimension_in Y (item time_value (item (y_value (codes "y") (unsigned 1)) no_items)) ≡ Some (y_value (codes "y") (unsigned 1))
in_order = refl

none_left : behind X (after_y (item time_value (item (y_value (codes "y") (unsigned 1)) no_items))) ≡ no_items
none_left = refl

out_of_order : behind X (after_y (item (y_value (codes "y") (unsigned 1)) (item time_value no_items))) ≡ item time_value no_items
out_of_order = refl

-- kinds of cells
nulls_alone : kind_of (Empty ∷ []) ≡ Some Numbers
nulls_alone = refl

flags : kind_of (Empty ∷ Flag false ∷ []) ≡ Some Flags
flags = refl

both_kinds : kind_of (Flag false ∷ Number (record { num = pos 1; den = 2 }) ∷ []) ≡ None
both_kinds = refl
