-- The cube text: JSON that says what a result text says, with members and blanks in any order, and other members
-- besides.
use Rattle.std.specs.Prelude.{◌≡◌, ◌≢◌, ⊤, ℕ, ◌≤◌, ◌==◌, ◌&&◌, Bool, true, false, nat_le, ℤ, List, [], ◌∷◌, ◌++◌, length, Option, Some, None, codes, decimal, IsUtf8, option_and_then, if◌then◌else◌}
use Rattle.std.specs.Fmt.{signed_decimal}
use Rattle.std.specs.List.{All, list_any}
use Rattle.std.specs.Option.{option_map_or}
use Rattle.serde_json.specs.Data.{Data, null, boolean, number, string, array, object, Items, no_items, item}
use Rattle.serde_json.specs.Find.{get, as_array, as_number, as_str, as_i64, as_u64}
use Rattle.serde_json.specs.Read.{read}
use Rattle.oe_cell.specs.Cells.{IsCell}
use Rattle.oe_cell.specs.Fraction.{Fraction, IsNumber}
use Rattle.oe_cell.specs.Kinds.{is_number}
use Rattle.oe_cell.specs.declared.cell.Cell.{Cell}
use Rattle.oe_cell.specs.declared.cell.Cell.TheVariants.{Empty, Flag, Number, Over}
use Rattle.oe_dims.specs.Cube.{Cube, IsCube}
use Rattle.oe_dims.specs.Dimensions.{Dimensions, IsShape}
use Rattle.oe_dims.specs.Instant.{SpellsInstant}
use Rattle.oe_dims.specs.Names.{same_name}
use Rattle.oe_dims.specs.declared.kind.CellKind.{CellKind}
use Rattle.oe_dims.specs.declared.kind.CellKind.TheVariants.{Numbers, Flags}
use Rattle.oe_dims.specs.declared.kind.Kind.{Kind}
use Rattle.oe_dims.specs.declared.kind.Kind.TheVariants.{Time, Bands, Y, X}

-- the most bytes of a cube text
abbrev pub most_text : ℕ
most_text = 1048576

-- ---- members of a value

-- this text
abbrev pub is_text : List ℕ → Data → Bool
is_text text d = option_map_or (same_name text) (as_str d) false

-- the member of this name is this text
abbrev pub has_text : List ℕ → List ℕ → Data → Bool
has_text name text d = option_map_or (is_text text) (get name d) false

-- the values of the member of this name, where it is a list
abbrev pub list_in : List ℕ → Data → Option Items
list_in name d = option_and_then as_array (get name d)

-- the values spell these things, one each and in order
abbrev pub Each : {A : Type 0} → (Data → A → Type 0) → Items → List A → Type 0
Each Spells no_items [] = ⊤
Each Spells (item d ds) (a ∷ more) = Spells d a × Each Spells ds more
Each Spells no_items (a ∷ more) = ⊥
Each Spells (item d ds) [] = ⊥

-- ---- labels

-- a text that is an instant in either spelling
abbrev pub SpellsTime : Data → ℤ → Type 0
SpellsTime d seconds = (text : List ℕ) × (as_str d ≡ Some text) × SpellsInstant text seconds

-- any text
abbrev pub SpellsName : Data → List ℕ → Type 0
SpellsName d name = as_str d ≡ Some name

-- a literal
abbrev pub SpellsCoordinate : Data → ℤ → Type 0
SpellsCoordinate d coordinate = option_and_then as_i64 (as_number d) ≡ Some coordinate

-- ---- dimensions

abbrev pub kind_name : Kind → List ℕ
kind_name Time = codes "t"
kind_name Bands = codes "bands"
kind_name Y = codes "y"
kind_name X = codes "x"

abbrev pub kind_type : Kind → List ℕ
kind_type Time = codes "temporal"
kind_type Bands = codes "bands"
kind_type Y = codes "spatial"
kind_type X = codes "spatial"

-- y and x have their name as their axis too
abbrev pub has_axis : Kind → Data → Bool
has_axis Time d = true
has_axis Bands d = true
has_axis Y d = has_text (codes "axis") (codes "y") d
has_axis X d = has_text (codes "axis") (codes "x") d

-- the values of the labels, where the value is a dimension of the kind
abbrev pub label_values : Kind → Data → Option Items
label_values kind d =
    if has_text (codes "type") (kind_type kind) d && has_axis kind d then list_in (codes "labels") d else None

-- the value is a dimension of the kind, and these are its labels
abbrev pub IsDimension : {A : Type 0} → Kind → (Data → A → Type 0) → Data → List A → Type 0
IsDimension kind Spells d labels = (values : Items) × (label_values kind d ≡ Some values) × Each Spells values labels

-- a dimension that is there has these labels; one that is not has none
abbrev pub Along : {A : Type 0} → Kind → (Data → A → Type 0) → Option Data → Option (List A) → Type 0
Along kind Spells None None = ⊤
Along kind Spells (Some d) (Some labels) = IsDimension kind Spells d labels
Along kind Spells None (Some labels) = ⊥
Along kind Spells (Some d) None = ⊥

-- a dimension that may be there has no labels that are spelled so
abbrev pub HasNoneAlong : {A : Type 0} → Kind → (Data → A → Type 0) → Option Data → Type 0
HasNoneAlong {A} kind Spells found = (labels : Option (List A)) → ¬ Along kind Spells found labels

-- the first value, where it has the name of the kind, and the values behind it
abbrev pub first_of : Kind → Items → Option Data
first_of kind no_items = None
first_of kind (item d ds) = if has_text (codes "name") (kind_name kind) d then Some d else None

abbrev pub behind : Kind → Items → Items
behind kind no_items = no_items
behind kind (item d ds) = if has_text (codes "name") (kind_name kind) d then ds else item d ds

-- the EPSG code of a dimension
abbrev pub system_in : Data → Option ℕ
system_in d =
    option_and_then (λ code. if nat_le code 999999 then Some code else None)
    (option_and_then as_u64 (option_and_then as_number (get (codes "reference_system") d)))

-- one code, if both are the same
abbrev pub same_code : Option ℕ → Option ℕ → Option ℕ
same_code a b = option_and_then (λ m. option_and_then (λ n. if m == n then Some m else None) b) a

-- the EPSG code that y and x have, where they have the same, and 0 where both are missing
abbrev pub common_system : Option Data → Option Data → Option ℕ
common_system None None = Some 0
common_system (Some y) None = system_in y
common_system None (Some x) = system_in x
common_system (Some y) (Some x) = same_code (system_in y) (system_in x)

-- the values of t, bands, y and x: each is the next value, where that has its name
abbrev pub after_t : Items → Items
after_t ds = behind Time ds

abbrev pub after_bands : Items → Items
after_bands ds = behind Bands (after_t ds)

abbrev pub after_y : Items → Items
after_y ds = behind Y (after_bands ds)

abbrev pub dimension_in : Kind → Items → Option Data
dimension_in Time ds = first_of Time ds
dimension_in Bands ds = first_of Bands (after_t ds)
dimension_in Y ds = first_of Y (after_bands ds)
dimension_in X ds = first_of X (after_y ds)

-- the values are the dimensions of the shape in the order t, bands, y, x, and nothing else
pub record AreDimensions (values : Items) (shape : Dimensions) : Type 0 where
  pub t : Along Time SpellsTime (dimension_in Time values) shape.t
  pub bands : Along Bands SpellsName (dimension_in Bands values) shape.bands
  pub y : Along Y SpellsCoordinate (dimension_in Y values) shape.y
  pub x : Along X SpellsCoordinate (dimension_in X values) shape.x
  pub system : common_system (dimension_in Y values) (dimension_in X values) ≡ Some shape.epsg
  pub last : behind X (after_y values) ≡ no_items

-- ---- cells

abbrev pub whole : ℤ → Fraction
whole z = record { num = z; den = 1 }

-- the text n/d of a number with another denominator than 1
abbrev pub IsFraction : List ℕ → Fraction → Type 0
IsFraction text q = IsNumber q × (2 ≤ q.den) × (text ≡ signed_decimal q.num ++ codes "/" ++ decimal q.den)

-- null, a flag, a literal, or a text n/d
abbrev pub SpellsCell : Data → Cell → Type 0
SpellsCell null cell = cell ≡ Empty
SpellsCell (boolean flag) cell = cell ≡ Flag flag
SpellsCell (number n) cell = (z : ℤ) × (as_i64 n ≡ Some z) × IsNumber (whole z) × (cell ≡ Number (whole z))
SpellsCell (string text) cell = (q : Fraction) × IsFraction text q × (cell ≡ Number q)
SpellsCell (array ds) cell = ⊥
SpellsCell (object ms) cell = ⊥

abbrev pub is_flag : Cell → Bool
is_flag (Flag flag) = true
is_flag (Number q) = false
is_flag Empty = false
is_flag Over = false

-- flags where one occurs, else numbers; none where both occur
abbrev pub kind_of : List Cell → Option CellKind
kind_of cells =
    if list_any is_flag cells then (if list_any is_number cells then None else Some Flags) else Some Numbers

-- ---- the whole text

-- the value says this cube
pub record IsCubeValue (value : Data) (shape : Dimensions) (kind : CellKind) (cells : List Cell) : Type 0 where
  pub typed : has_text (codes "type") (codes "FractionCube") value ≡ true
  pub dimensions : Items
  pub dimensions_at : list_in (codes "dimensions") value ≡ Some dimensions
  pub dimensions_are : AreDimensions dimensions shape
  pub valid : IsShape shape
  pub values : Items
  pub values_at : list_in (codes "data") value ≡ Some values
  pub cells_are : Each SpellsCell values cells
  pub whole_cube : IsCube (record { shape = shape; cells = cells })
  pub kind_is : kind_of cells ≡ Some kind

-- the value says no cube
abbrev pub IsNoCubeValue : Data → Type 0
IsNoCubeValue value = (shape : Dimensions) (kind : CellKind) (cells : List Cell) → ¬ IsCubeValue value shape kind cells

-- the bytes are the JSON text of this value, and not too many
pub record IsValueText (bytes : List ℕ) (value : Data) : Type 0 where
  pub within : length bytes ≤ most_text
  pub utf8 : IsUtf8 bytes
  pub is_read : read bytes ≡ Some value

-- the bytes are a cube text, and it says this cube
pub record IsCubeText (bytes : List ℕ) (shape : Dimensions) (kind : CellKind) (cells : List Cell) : Type 0 where
  pub value : Data
  pub text : IsValueText bytes value
  pub cube : IsCubeValue value shape kind cells

-- a cube of a valid shape, with cells of one kind, none of them Over
pub record IsReadable (cube : Cube Cell) : Type 0 where
  pub valid : IsShape cube.shape
  pub whole_cube : IsCube cube
  pub fit : All IsCell cube.cells
  pub numbered : All (λ c. c ≢ Over) cube.cells
  pub kind : CellKind
  pub kind_is : kind_of cube.cells ≡ Some kind
