-- What the parameters of the processes on cubes may hold, one reader for each kind of parameter: none where the
-- argument is something else. Null, a flag or a number that is written as such is a literal; a whole number is one that
-- a cell may hold.
use Rattle.std.specs.Prelude.{ℕ, ◌+◌, ◌-◌, ◌*◌, ◌==◌, ◌&&◌, ◌||◌, Bool, true, false, nat_le, ℤ, pos, int_le, List, [], ◌∷◌, length, take, drop, Option, Some, None, is_some, codes, option_map, option_and_then, if◌then◌else◌}
use Rattle.std.specs.List.{list_all, list_any, flat_map, fold}
use Rattle.std.specs.Option.{option_map_or}
use Rattle.oe_cell.specs.Fraction.{Fraction}
use Rattle.oe_cell.specs.Rational.{whole_of}
use Rattle.oe_cell.specs.declared.cell.Cell.{Cell}
use Rattle.oe_cell.specs.declared.cell.Cell.TheVariants.{Empty, Flag}
use Rattle.oe_dims.specs.Dimensions.{all_differ}
use Rattle.oe_dims.specs.Instant.{instant_read}
use Rattle.oe_dims.specs.Names.{same_name, is_name, is_byte_in}
use Rattle.oe_graph.specs.Built.{is_literal}
use Rattle.oe_graph.specs.Printed.{names_of}
use Rattle.oe_graph.specs.References.{argument_named}
use Rattle.oe_graph.specs.Tree as tree
use Rattle.oe_graph.specs.Tree.{Argument, ListValues, Named, PlainGraph}
use Rattle.oe_kernel.specs.Kernels.{KernelValues}
use Rattle.oe_kernel.specs.declared.border.Border.{Border}
use Rattle.oe_kernel.specs.declared.border.Border.TheVariants.{Value, Replicate, Reflect, ReflectPixel, Wrap}
use Rattle.oe_expr.specs.Requests.{with_both, is_null, whole_cell}
use Rattle.oe_expr.specs.Scope.{read_or_none}
use Rattle.oe_periods.specs.Calendar.{period_named}
use Rattle.oe_periods.specs.declared.calendar.Period.{Period}
use Rattle.oe_requests.specs.declared.extent.BoundingBox.{BoundingBox}
use Rattle.oe_requests.specs.declared.extent.Interval.{Interval}
use Rattle.oe_requests.specs.declared.extent.TemporalExtent.{TemporalExtent}

-- ---- words for all of them

-- where a test holds of what was read
abbrev pub where_it : {A : Type 0} → (A → Bool) → A → Option A
where_it test a = if test a then Some a else None

-- null, or what a reader reads
abbrev pub null_or : {A : Type 0} → (Argument → Option A) → Argument → Option (Option A)
null_or reader tree.null = Some None
null_or reader a = option_map Some (reader a)

-- a list of what a reader reads
abbrev pub each_in : {A : Type 0} → (Argument → Option A) → ListValues → Option (List A)
each_in reader tree.no_arguments = Some []
each_in reader (tree.argument a rest) = with_both (λ x xs. x ∷ xs) (reader a) (each_in reader rest)

abbrev pub list_in : {A : Type 0} → (Argument → Option A) → Argument → Option (List A)
list_in reader (tree.list rest) = each_in reader rest
list_in reader _ = None

-- ---- references, texts, numbers and literals

-- a cube, by the node that it is the result of
abbrev pub cube_in : Argument → Option (List ℕ)
cube_in (tree.from_node id) = Some id
cube_in _ = None

-- a callback, by its nodes and its result node
abbrev pub callback_in : Argument → Option PlainGraph
callback_in (tree.callback ns result) = Some (record { nodes = ns; result = result })
callback_in _ = None

-- a text, by its bytes
abbrev pub text_in : Argument → Option (List ℕ)
text_in (tree.text s) = Some s
text_in _ = None

-- the name of a calendar period
abbrev pub period_in : Argument → Option Period
period_in (tree.text s) = period_named s
period_in _ = None

-- the name of t alone
abbrev pub is_time_name : Argument → Bool
is_time_name (tree.text s) = same_name s (codes "t")
is_time_name _ = false

-- a whole number
abbrev pub whole_in : Argument → Option ℤ
whole_in (tree.whole z) = where_it is_literal z
whole_in _ = None

-- the same as a number of a cell
abbrev pub number_in : Argument → Option Fraction
number_in a = option_map whole_of (whole_in a)

-- a scalar literal: null, a flag or a whole number
abbrev pub literal_in : Argument → Option Cell
literal_in tree.null = Some Empty
literal_in (tree.flag b) = Some (Flag b)
literal_in a = option_map whole_cell (whole_in a)

-- the empty list and the empty object alone
abbrev pub is_empty_list : Argument → Bool
is_empty_list (tree.list tree.no_arguments) = true
is_empty_list _ = false

abbrev pub is_empty_object : Argument → Bool
is_empty_object (tree.object tree.no_named) = true
is_empty_object _ = false

abbrev pub is_null_or_empty_object : Argument → Bool
is_null_or_empty_object tree.null = true
is_null_or_empty_object a = is_empty_object a

-- ---- bands

-- a valid name
abbrev pub name_in : Argument → Option (List ℕ)
name_in a = option_and_then (where_it is_name) (text_in a)

-- a list of valid names, none of them twice
abbrev pub bands_in : Argument → Option (List (List ℕ))
bands_in a = option_and_then (where_it all_differ) (list_in name_in a)

-- there is one at least
abbrev pub is_given : {A : Type 0} → List A → Bool
is_given [] = false
is_given (a ∷ rest) = true

-- the same, but not empty
abbrev pub some_bands_in : Argument → Option (List (List ℕ))
some_bands_in a = option_and_then (where_it is_given) (bands_in a)

-- ---- instants and extents

-- an instant, in either spelling
abbrev pub instant_in : Argument → Option ℤ
instant_in a = option_and_then (λ s. read_or_none (instant_read s)) (text_in a)

-- the extent of two ends, each of which may be missing
abbrev pub extent_from : Option ℤ → Option ℤ → TemporalExtent
extent_from start end = record { start = start; end = end }

-- it is limited at one end at least
abbrev pub is_limited : TemporalExtent → Bool
is_limited e = is_some e.start || is_some e.end

-- the extent of two ends, each an instant or null, not both null
abbrev pub extent_of : Argument → Argument → Option TemporalExtent
extent_of start end =
    option_and_then (where_it is_limited) (with_both extent_from (null_or instant_in start) (null_or instant_in end))

-- a pair: a list of two ends
abbrev pub extent_in : Argument → Option TemporalExtent
extent_in (tree.list (tree.argument start (tree.argument end tree.no_arguments))) = extent_of start end
extent_in _ = None

-- ---- boxes

-- a decimal digit
abbrev pub is_digit : ℕ → Bool
is_digit digit = is_byte_in 48 57 digit

-- decimal digits, of which the first is not 0
abbrev pub is_decimal : List ℕ → Bool
is_decimal [] = false
is_decimal (digit ∷ digits) = is_byte_in 49 57 digit && list_all is_digit digits

-- the number that they spell
abbrev pub digits_value : List ℕ → ℕ
digits_value digits = fold (λ value digit. value * 10 + (digit - 48)) 0 digits

-- a code of the EPSG registry, in the range of this profile
abbrev pub is_epsg : ℕ → Bool
is_epsg n = nat_le 1 n && nat_le n 999999

-- the number n of a text `EPSG:n`
abbrev pub spelled_epsg : List ℕ → Option ℕ
spelled_epsg s =
    if same_name (take 5 s) (codes "EPSG:") && is_decimal (drop 5 s)
    then where_it is_epsg (digits_value (drop 5 s)) else None

-- a reference system: an EPSG code from 1 to 999999, as a number or as a text
abbrev pub epsg_in : Argument → Option ℕ
epsg_in (tree.whole (pos n)) = where_it is_epsg n
epsg_in (tree.text s) = spelled_epsg s
epsg_in _ = None

-- of a box without `crs` it is 4326
abbrev pub crs_of : Named → Option ℕ
crs_of members = option_map_or epsg_in (argument_named (codes "crs") members) (Some 4326)

-- the members that a box may have
abbrev pub box_members : List (List ℕ)
box_members =
    codes "west" ∷ codes "south" ∷ codes "east" ∷ codes "north" ∷ codes "crs" ∷ codes "base" ∷ codes "height" ∷ []

-- it has neither a base nor a height, or null in its place
abbrev pub lacks_height : Named → Bool
lacks_height members =
    option_map_or is_null (argument_named (codes "base") members) true
    && option_map_or is_null (argument_named (codes "height") members) true

-- it has no other members and none twice, and where it has a base or a height it is null
abbrev pub is_flat_box : Named → Bool
is_flat_box members =
    list_all (λ name. list_any (same_name name) box_members) (names_of members) && all_differ (names_of members)
    && option_map_or is_null (argument_named (codes "base") members) true
    && option_map_or is_null (argument_named (codes "height") members) true

-- its borders stand in their order
abbrev pub is_box : BoundingBox → Bool
is_box box = int_le box.west box.east && int_le box.south box.north

-- a border of a box
abbrev pub side_of : List ℕ → Named → Option ℤ
side_of name members = option_and_then whole_in (argument_named name members)

-- the box of its members
abbrev pub bounding_box_of : Named → Option BoundingBox
bounding_box_of members =
    option_and_then (λ west. option_and_then (λ south. option_and_then (λ east. option_and_then (λ north.
    option_map (λ epsg. record { west = west; south = south; east = east; north = north; epsg = epsg })
    (crs_of members)) (side_of (codes "north") members)) (side_of (codes "east") members))
    (side_of (codes "south") members)) (side_of (codes "west") members)

-- a box: whole numbers `west`, `south`, `east` and `north`, of which, by a rule of this profile, west is not above east
-- and south not above north
abbrev pub box_in : Argument → Option BoundingBox
box_in (tree.object members) =
    if is_flat_box members then option_and_then (where_it is_box) (bounding_box_of members) else None
box_in _ = None

-- ---- kernels

-- as many values in each row as in the first, one at least
abbrev pub kernel_of : List (List Fraction) → Option KernelValues
kernel_of [] = None
kernel_of (row ∷ rows) =
    if is_given row && list_all (λ (other : List Fraction). length other == length row) rows
    then Some (record {
      width = length row;
      height = length (row ∷ rows);
      values = flat_map (λ values. values) (row ∷ rows);
    })
    else None

-- a list of rows, each a list of whole numbers along x (rule of this profile)
abbrev pub kernel_in : Argument → Option KernelValues
kernel_in a = option_and_then kernel_of (list_in (list_in number_in) a)

-- the border rules that have names
abbrev pub border_named : List ℕ → Option Border
border_named name =
    if same_name name (codes "replicate") then Some Replicate else (
    if same_name name (codes "reflect") then Some Reflect else (
    if same_name name (codes "reflect_pixel") then Some ReflectPixel else (
    if same_name name (codes "wrap") then Some Wrap else None)))

-- a number, or the name of a rule
abbrev pub border_in : Argument → Option Border
border_in (tree.text name) = border_named name
border_in a = option_map Value (number_in a)

-- ---- intervals

-- an interval from its parts
abbrev pub labelled_interval : TemporalExtent → ℤ → Interval
labelled_interval extent label = record { extent = extent; label = label }

-- each by its start, which, by a rule of this profile, is then to be given
abbrev pub by_starts : List TemporalExtent → Option (List Interval)
by_starts [] = Some []
by_starts (e ∷ extents) =
    with_both (λ start intervals. labelled_interval e start ∷ intervals) e.start (by_starts extents)

-- each by the label at its index; there are as many
abbrev pub by_labels : List TemporalExtent → List ℤ → Option (List Interval)
by_labels [] [] = Some []
by_labels [] (label ∷ labels) = None
by_labels (e ∷ extents) [] = None
by_labels (e ∷ extents) (label ∷ labels) =
    option_map (λ intervals. labelled_interval e label ∷ intervals) (by_labels extents labels)

-- an empty list of labels gives none
abbrev pub intervals_of : List TemporalExtent → List ℤ → Option (List Interval)
intervals_of extents [] = by_starts extents
intervals_of extents (label ∷ labels) = by_labels extents (label ∷ labels)
