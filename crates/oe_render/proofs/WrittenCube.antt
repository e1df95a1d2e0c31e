-- The text of a cube is read as that cube.
use Rattle.std.proofs.Common.{◌≡◌, ℕ, ◌≤◌, ◌==◌, ◌&&◌, ◌||◌, nat_le, ℤ, List, [], ◌∷◌, ◌++◌, length, map, filter, codes, decimal, Bool, true, false, Option, Some, None, is_some, IsUtf8, refl, sym, ap, ◌∙◌, subst, append_assoc, arith, eq-eqb, eqb-true}
use Rattle.std.specs.Prelude.{if◌then◌else◌, unwrap_or}
use Rattle.std.specs.Fmt.{signed_decimal}
use Rattle.std.specs.List.{filter_map, list_all}
use Rattle.std.specs.Option.{option_map}
use Rattle.std.proofs.lemmas.Bool.{and_parts, leb-true}
use Rattle.json.specs.Print.{escape_byte}
use Rattle.json.proofs.Printed.Utf8.{are_ascii, IsUtf8-are_ascii}
use Rattle.serde_json.specs.Data.{Data, Items, number, string, array, object, unsigned, no_members, member, depth, items_depth}
use Rattle.serde_json.specs.Read.{read, max_depth}
use Rattle.serde_json.specs.Written.{compact_text, items_text}
use Rattle.oe_cell.specs.Spelling.{cell_text}
use Rattle.oe_cell.specs.declared.cell.Cell.{Cell}
use Rattle.oe_dims.specs.Cube.{IsCube}
use Rattle.oe_dims.specs.Dimensions.{Dimensions, IsShape, all_kinds, all_between, first_instant, last_instant, number_labels, band_names, label_count}
use Rattle.oe_dims.specs.Names.{is_name}
use Rattle.oe_dims.specs.declared.kind.CellKind.{CellKind}
use Rattle.oe_dims.specs.declared.kind.Kind.{Kind}
use Rattle.oe_dims.specs.declared.kind.Kind.TheVariants.{Time, Bands, Y, X}
use Rattle.oe_dims.proofs.ShapeLemmas.{t_in_range, y_in_range, x_in_range, bands_are_names, fitting_epsg}
use Rattle.oe_render.specs.CubeText.{Each, Along, AreDimensions, IsCubeText, SpellsTime, SpellsName, SpellsCoordinate, SpellsCell, common_system, kind_of, most_text}
use Rattle.oe_render.specs.Text.{listed_text, quoted, dimension_text, present_text, cube_text}
use Rattle.oe_render.proofs.Leaves.{AreLeaves, AreTexts, items, count_leaf, items_more, leaves_written, leaves_shallow, leaves_same, leaves_texts}
use Rattle.oe_render.proofs.ReadBack.{IsWritten, AreWritten, ordered, items_ordered, written_utf8, written_read}
use Rattle.oe_render.proofs.Spells.{time_data, time_text, whole_data, cell_data, time_leaves, each_time, name_leaves, each_name, coordinate_leaves, each_coordinate, AreFit, cell_leaves, each_cell, are_near}
use Rattle.oe_render.proofs.Texts.{listed_is_more}

-- ---- dimensions

abbrev time_value : List ℤ → Data
time_value labels = object (
    member (codes "name") (string (codes "t")) (member (codes "type") (string (codes "temporal"))
    (member (codes "labels") (array (items time_data labels)) no_members)))

abbrev bands_value : List (List ℕ) → Data
bands_value names = object (
    member (codes "name") (string (codes "bands")) (member (codes "type") (string (codes "bands"))
    (member (codes "labels") (array (items string names)) no_members)))

abbrev axis_value : List ℕ → ℕ → List ℤ → Data
axis_value name epsg labels = object (
    member (codes "name") (string name) (member (codes "type") (string (codes "spatial"))
    (member (codes "axis") (string name) (member (codes "reference_system") (number (unsigned epsg))
    (member (codes "labels") (array (items whole_data labels)) no_members)))))

abbrev dimension_value : Dimensions → Kind → Data
dimension_value d Time = time_value (number_labels d Time)
dimension_value d Bands = bands_value (band_names d)
dimension_value d Y = axis_value (codes "y") d.epsg (number_labels d Y)
dimension_value d X = axis_value (codes "x") d.epsg (number_labels d X)

-- the end of an array in an object
closed : {A : Type 0} (f : A → Data) (g : A → List ℕ) (xs : List A) (rest : List ℕ) → AreTexts f g xs → items_text false (items f xs) ++ rest ≡ listed_text (map g xs) ++ (93 ∷ rest)
closed f g xs rest h =
    ap (λ text. text ++ rest) (items_more f g xs 0 h ∙ ap (λ text. text ++ 93 ∷ []) (sym (listed_is_more (map g xs))))
    ∙ append_assoc (listed_text (map g xs)) (93 ∷ []) rest

regroup_four : (a b c d : List ℕ) → a ++ (b ++ (c ++ d)) ≡ a ++ b ++ c ++ d
regroup_four a b c d = simp append_assoc

regroup : (a b c d e : List ℕ) → a ++ (b ++ (c ++ (d ++ e))) ≡ a ++ b ++ c ++ d ++ e
regroup a b c d e = simp append_assoc

-- the leaves of a valid shape
record HasLeaves (d : Dimensions) : Type 0 where
  t : AreLeaves time_data time_text (number_labels d Time)
  bands : AreLeaves string quoted (band_names d)
  y : AreLeaves whole_data signed_decimal (number_labels d Y)
  x : AreLeaves whole_data signed_decimal (number_labels d X)
  epsg : d.epsg ≤ 999999

pub epsg_within : (d : Dimensions) (there : Bool) → (if there then nat_le 1 d.epsg && nat_le d.epsg 999999 else d.epsg == 0) ≡ true → d.epsg ≤ 999999
epsg_within d true h = leb-true d.epsg 999999 (and_parts _ _ h).1
epsg_within d false h = let none : d.epsg ≡ 0 = eqb-true d.epsg 0 h in omega (arith, none)

pub epsg_of_shape : (d : Dimensions) → IsShape d → d.epsg ≤ 999999
epsg_of_shape d valid = epsg_within d (is_some d.y || is_some d.x) (fitting_epsg d valid)

leaves_of : (d : Dimensions) → IsShape d → HasLeaves d
leaves_of d valid = record {
  t = time_leaves (number_labels d Time) (t_in_range d valid);
  bands = name_leaves (band_names d) (bands_are_names d valid);
  y = coordinate_leaves (number_labels d Y) (y_in_range d valid);
  x = coordinate_leaves (number_labels d X) (x_in_range d valid);
  epsg = epsg_of_shape d valid;
}

value_text : (d : Dimensions) (kind : Kind) → HasLeaves d → compact_text (dimension_value d kind) ≡ dimension_text d kind
unfolding escape_byte
value_text d Time h =
    ap (λ text. codes "{\"name\":\"t\",\"type\":\"temporal\",\"labels\":[" ++ text) (closed time_data time_text (number_labels d Time) (125 ∷ []) (leaves_texts time_data time_text (number_labels d Time) h.t))
value_text d Bands h =
    ap (λ text. codes "{\"name\":\"bands\",\"type\":\"bands\",\"labels\":[" ++ text) (closed string quoted (band_names d) (125 ∷ []) (leaves_texts string quoted (band_names d) h.bands))
value_text d Y h =
    ap (λ text. codes "{\"name\":\"y\",\"type\":\"spatial\",\"axis\":\"y\",\"reference_system\":" ++ text)
    (ap (λ text. decimal d.epsg ++ (codes ",\"labels\":[" ++ text)) (closed whole_data signed_decimal (number_labels d Y) (125 ∷ []) (leaves_texts whole_data signed_decimal (number_labels d Y) h.y))
    ∙ regroup (decimal d.epsg) (codes ",") (codes "\"labels\":[") (listed_text (map signed_decimal (number_labels d Y))) (codes "]}"))
value_text d X h =
    ap (λ text. codes "{\"name\":\"x\",\"type\":\"spatial\",\"axis\":\"x\",\"reference_system\":" ++ text)
    (ap (λ text. decimal d.epsg ++ (codes ",\"labels\":[" ++ text)) (closed whole_data signed_decimal (number_labels d X) (125 ∷ []) (leaves_texts whole_data signed_decimal (number_labels d X) h.x))
    ∙ regroup (decimal d.epsg) (codes ",") (codes "\"labels\":[") (listed_text (map signed_decimal (number_labels d X))) (codes "]}"))

key : (s : List ℕ) → are_ascii s ≡ true → IsUtf8 s
key s h = IsUtf8-are_ascii s h

value_written : (d : Dimensions) (kind : Kind) → HasLeaves d → IsWritten (dimension_value d kind)
value_written d Time h = (key _ refl, key _ refl, (key _ refl, key _ refl, (key _ refl, leaves_written time_data time_text (number_labels d Time) h.t, tt)))
value_written d Bands h = (key _ refl, key _ refl, (key _ refl, key _ refl, (key _ refl, leaves_written string quoted (band_names d) h.bands, tt)))
value_written d Y h =
    let fits : d.epsg ≤ 999999 = h.epsg in
    (key _ refl, key _ refl, (key _ refl, key _ refl, (key _ refl, key _ refl, (key _ refl, (count_leaf d.epsg (omega (arith, fits))).written, (key _ refl, leaves_written whole_data signed_decimal (number_labels d Y) h.y, tt)))))
value_written d X h =
    let fits : d.epsg ≤ 999999 = h.epsg in
    (key _ refl, key _ refl, (key _ refl, key _ refl, (key _ refl, key _ refl, (key _ refl, (count_leaf d.epsg (omega (arith, fits))).written, (key _ refl, leaves_written whole_data signed_decimal (number_labels d X) h.x, tt)))))

value_shallow : (d : Dimensions) (kind : Kind) → HasLeaves d → depth (dimension_value d kind) ≡ 2
value_shallow d Time h = rw (leaves_shallow time_data time_text (number_labels d Time) h.t) refl
value_shallow d Bands h = rw (leaves_shallow string quoted (band_names d) h.bands) refl
value_shallow d Y h = rw (leaves_shallow whole_data signed_decimal (number_labels d Y) h.y) refl
value_shallow d X h = rw (leaves_shallow whole_data signed_decimal (number_labels d X) h.x) refl

-- ---- all dimensions

abbrev has : Dimensions → Kind → Bool
has d kind = is_some (label_count d kind)

abbrev kinds : Dimensions → List Kind
kinds d = filter (has d) all_kinds

next_text : (d : Dimensions) (k : Kind) (ks : List Kind) (there : Bool) → has d k ≡ there → filter_map (present_text d) ks ≡ map (dimension_text d) (filter (has d) ks)
    → filter_map (present_text d) (k ∷ ks) ≡ map (dimension_text d) (filter (has d) (k ∷ ks))
next_text d k ks true e rest = rw e (ap (λ texts. dimension_text d k ∷ texts) rest)
next_text d k ks false e rest = rw e rest

kind_texts : (d : Dimensions) (ks : List Kind) → filter_map (present_text d) ks ≡ map (dimension_text d) (filter (has d) ks)
kind_texts d [] = refl
kind_texts d (k ∷ ks) = next_text d k ks (has d k) refl (kind_texts d ks)

values_texts : (d : Dimensions) (ks : List Kind) → HasLeaves d → AreTexts (dimension_value d) (dimension_text d) ks
values_texts d [] h = tt
values_texts d (k ∷ ks) h = (value_text d k h, values_texts d ks h)

values_written : (d : Dimensions) (ks : List Kind) → HasLeaves d → AreWritten (items (dimension_value d) ks)
values_written d [] h = tt
values_written d (k ∷ ks) h = (value_written d k h, values_written d ks h)

values_shallow : (d : Dimensions) (ks : List Kind) → HasLeaves d → items_depth (items (dimension_value d) ks) ≤ 2
values_shallow d [] h = omega arith
values_shallow d (k ∷ ks) h = omega (arith, value_shallow d k h, values_shallow d ks h)

-- ---- the cube

abbrev cube_value : Dimensions → List Cell → Data
cube_value d cells = object (
    member (codes "type") (string (codes "FractionCube")) (
    member (codes "dimensions") (array (items (dimension_value d) (kinds d))) (
    member (codes "data") (array (items cell_data cells)) no_members)))

cube_value_text : (d : Dimensions) (cells : List Cell) → HasLeaves d → AreLeaves cell_data cell_text cells → compact_text (cube_value d cells) ≡ cube_text (record { shape = d; cells = cells })
unfolding escape_byte cube_text
cube_value_text d cells h k =
    let listed = listed_text (filter_map (present_text d) all_kinds) in
    ap (λ text. codes "{\"type\":\"FractionCube\",\"dimensions\":[" ++ text)
    (closed (dimension_value d) (dimension_text d) (kinds d) _ (values_texts d (kinds d) h)
    ∙ ap (λ texts. listed_text texts ++ (93 ∷ (codes ",\"data\":[" ++ (items_text false (items cell_data cells) ++ 125 ∷ [])))) (sym (kind_texts d all_kinds))
    ∙ ap (λ text. listed ++ (codes "],\"data\":[" ++ text)) (closed cell_data cell_text cells (125 ∷ []) (leaves_texts cell_data cell_text cells k))
    ∙ regroup_four listed (codes "],\"data\":[") (listed_text (map cell_text cells)) (codes "]}"))

cube_value_written : (d : Dimensions) (cells : List Cell) → HasLeaves d → AreLeaves cell_data cell_text cells → IsWritten (cube_value d cells)
cube_value_written d cells h k =
    (key _ refl, key _ refl, (key _ refl, values_written d (kinds d) h, (key _ refl, leaves_written cell_data cell_text cells k, tt)))

cube_value_shallow : (d : Dimensions) (cells : List Cell) → HasLeaves d → AreLeaves cell_data cell_text cells → depth (cube_value d cells) ≤ max_depth
cube_value_shallow d cells h k = omega (arith, values_shallow d (kinds d) h, leaves_shallow cell_data cell_text cells k)

-- ---- what is read of it

time_along : (o : Option (List ℤ)) → all_between first_instant last_instant (unwrap_or o []) ≡ true → Along Time SpellsTime (option_map (λ labels. ordered (time_value labels)) o) o
time_along None h = tt
time_along (Some labels) h =
    (items_ordered (items time_data labels), refl, subst (λ ds. Each SpellsTime ds labels) (sym (leaves_same time_data time_text labels (time_leaves labels h))) (each_time labels h))

bands_along : (o : Option (List (List ℕ))) → list_all is_name (unwrap_or o []) ≡ true → Along Bands SpellsName (option_map (λ names. ordered (bands_value names)) o) o
bands_along None h = tt
bands_along (Some names) h =
    (items_ordered (items string names), refl, subst (λ ds. Each SpellsName ds names) (sym (leaves_same string quoted names (name_leaves names h))) (each_name names))

each_ordered : (labels : List ℤ) → are_near labels ≡ true → Each SpellsCoordinate (items_ordered (items whole_data labels)) labels
each_ordered labels h =
    subst (λ ds. Each SpellsCoordinate ds labels) (sym (leaves_same whole_data signed_decimal labels (coordinate_leaves labels h))) (each_coordinate labels h)

y_along : (epsg : ℕ) (o : Option (List ℤ)) → are_near (unwrap_or o []) ≡ true → Along Y SpellsCoordinate (option_map (λ labels. ordered (axis_value (codes "y") epsg labels)) o) o
y_along epsg None h = tt
y_along epsg (Some labels) h = (items_ordered (items whole_data labels), refl, each_ordered labels h)

x_along : (epsg : ℕ) (o : Option (List ℤ)) → are_near (unwrap_or o []) ≡ true → Along X SpellsCoordinate (option_map (λ labels. ordered (axis_value (codes "x") epsg labels)) o) o
x_along epsg None h = tt
x_along epsg (Some labels) h = (items_ordered (items whole_data labels), refl, each_ordered labels h)

abbrev y_seen : ℕ → Option (List ℤ) → Option Data
y_seen epsg o = option_map (λ labels. ordered (axis_value (codes "y") epsg labels)) o

abbrev x_seen : ℕ → Option (List ℤ) → Option Data
x_seen epsg o = option_map (λ labels. ordered (axis_value (codes "x") epsg labels)) o

system_along : (epsg : ℕ) (y x : Option (List ℤ)) → (if is_some y || is_some x then nat_le 1 epsg && nat_le epsg 999999 else epsg == 0) ≡ true → common_system (y_seen epsg y) (x_seen epsg x) ≡ Some epsg
system_along epsg None None h = ap Some (sym (eqb-true epsg 0 h))
system_along epsg (Some y) None h = let fits = (and_parts (nat_le 1 epsg) (nat_le epsg 999999) h).1 in rw fits refl
system_along epsg None (Some x) h = let fits = (and_parts (nat_le 1 epsg) (nat_le epsg 999999) h).1 in rw fits refl
system_along epsg (Some y) (Some x) h = let fits = (and_parts (nat_le 1 epsg) (nat_le epsg 999999) h).1 in rw (fits, eq-eqb epsg epsg refl) refl

-- the values of the dimensions are those of the shape
along_all : (epsg : ℕ) (t : Option (List ℤ)) (bands : Option (List (List ℕ))) (y x : Option (List ℤ))
    → Along Time SpellsTime (option_map (λ labels. ordered (time_value labels)) t) t
    → Along Bands SpellsName (option_map (λ names. ordered (bands_value names)) bands) bands
    → Along Y SpellsCoordinate (y_seen epsg y) y → Along X SpellsCoordinate (x_seen epsg x) x
    → common_system (y_seen epsg y) (x_seen epsg x) ≡ Some epsg
    → let d : Dimensions = record { epsg = epsg; t = t; bands = bands; y = y; x = x } in AreDimensions (items_ordered (items (dimension_value d) (kinds d))) d
along_all epsg None None None None a b c e s = record { t = a; bands = b; y = c; x = e; system = s; last = refl }
along_all epsg None None None (Some _) a b c e s = record { t = a; bands = b; y = c; x = e; system = s; last = refl }
along_all epsg None None (Some _) None a b c e s = record { t = a; bands = b; y = c; x = e; system = s; last = refl }
along_all epsg None None (Some _) (Some _) a b c e s = record { t = a; bands = b; y = c; x = e; system = s; last = refl }
along_all epsg None (Some _) None None a b c e s = record { t = a; bands = b; y = c; x = e; system = s; last = refl }
along_all epsg None (Some _) None (Some _) a b c e s = record { t = a; bands = b; y = c; x = e; system = s; last = refl }
along_all epsg None (Some _) (Some _) None a b c e s = record { t = a; bands = b; y = c; x = e; system = s; last = refl }
along_all epsg None (Some _) (Some _) (Some _) a b c e s = record { t = a; bands = b; y = c; x = e; system = s; last = refl }
along_all epsg (Some _) None None None a b c e s = record { t = a; bands = b; y = c; x = e; system = s; last = refl }
along_all epsg (Some _) None None (Some _) a b c e s = record { t = a; bands = b; y = c; x = e; system = s; last = refl }
along_all epsg (Some _) None (Some _) None a b c e s = record { t = a; bands = b; y = c; x = e; system = s; last = refl }
along_all epsg (Some _) None (Some _) (Some _) a b c e s = record { t = a; bands = b; y = c; x = e; system = s; last = refl }
along_all epsg (Some _) (Some _) None None a b c e s = record { t = a; bands = b; y = c; x = e; system = s; last = refl }
along_all epsg (Some _) (Some _) None (Some _) a b c e s = record { t = a; bands = b; y = c; x = e; system = s; last = refl }
along_all epsg (Some _) (Some _) (Some _) None a b c e s = record { t = a; bands = b; y = c; x = e; system = s; last = refl }
along_all epsg (Some _) (Some _) (Some _) (Some _) a b c e s = record { t = a; bands = b; y = c; x = e; system = s; last = refl }

dimensions_read : (d : Dimensions) → IsShape d → AreDimensions (items_ordered (items (dimension_value d) (kinds d))) d
dimensions_read d valid =
    along_all d.epsg d.t d.bands d.y d.x
    (time_along d.t (t_in_range d valid)) (bands_along d.bands (bands_are_names d valid))
    (y_along d.epsg d.y (y_in_range d valid)) (x_along d.epsg d.x (x_in_range d valid))
    (system_along d.epsg d.y d.x (fitting_epsg d valid))

-- the text of a valid cube is UTF-8
pub text_utf8 : (d : Dimensions) (cells : List Cell) → IsShape d → AreFit cells → IsUtf8 (cube_text (record { shape = d; cells = cells }))
text_utf8 d cells valid fit =
    let h = leaves_of d valid in
    let k = cell_leaves cells fit in
    subst IsUtf8 (cube_value_text d cells h k) (written_utf8 (cube_value d cells) (cube_value_written d cells h k))

-- the text of a cube of one kind is a cube text, and says that cube
pub cube_text_read : (d : Dimensions) (kind : CellKind) (cells : List Cell) → IsShape d → AreFit cells → IsCube (record { shape = d; cells = cells }) → kind_of cells ≡ Some kind
    → length (cube_text (record { shape = d; cells = cells })) ≤ most_text → IsCubeText (cube_text (record { shape = d; cells = cells })) d kind cells
cube_text_read d kind cells valid fit cube is within =
    let h = leaves_of d valid in
    let k = cell_leaves cells fit in
    let text = cube_value_text d cells h k in
    let w = cube_value_written d cells h k in
    record {
      value = ordered (cube_value d cells);
      text = record {
        within = within;
        utf8 = text_utf8 d cells valid fit;
        is_read = ap read (sym text) ∙ written_read (cube_value d cells) w (cube_value_shallow d cells h k);
      };
      cube = record {
        typed = refl;
        dimensions = items_ordered (items (dimension_value d) (kinds d));
        dimensions_at = refl;
        dimensions_are = dimensions_read d valid;
        valid = valid;
        values = items_ordered (items cell_data cells);
        values_at = refl;
        cells_are = subst (λ ds. Each SpellsCell ds cells) (sym (leaves_same cell_data cell_text cells k)) (each_cell cells fit);
        whole_cube = cube;
        kind_is = is;
      };
    }

-- ---- the dimensions alone, as another text has them too

-- the values that the dimensions of a shape are written as
pub shape_values : Dimensions → Items
shape_values d = items (dimension_value d) (kinds d)

pub shape_values_text : (d : Dimensions) (rest : List ℕ) → IsShape d → items_text false (shape_values d) ++ rest ≡ listed_text (filter_map (present_text d) all_kinds) ++ (93 ∷ rest)
unfolding shape_values
shape_values_text d rest valid =
    closed (dimension_value d) (dimension_text d) (kinds d) rest (values_texts d (kinds d) (leaves_of d valid))
    ∙ ap (λ texts. listed_text texts ++ (93 ∷ rest)) (sym (kind_texts d all_kinds))

pub shape_values_written : (d : Dimensions) → IsShape d → AreWritten (shape_values d)
unfolding shape_values
shape_values_written d valid = values_written d (kinds d) (leaves_of d valid)

pub shape_values_shallow : (d : Dimensions) → IsShape d → items_depth (shape_values d) ≤ 2
unfolding shape_values
shape_values_shallow d valid = values_shallow d (kinds d) (leaves_of d valid)

pub shape_values_read : (d : Dimensions) → IsShape d → AreDimensions (items_ordered (shape_values d)) d
unfolding shape_values
shape_values_read d valid = dimensions_read d valid
