-- Worked values of what arguments ask for: which are what their parameter may hold, and which are not.
use Rattle.std.specs.Prelude.{◌≡◌, false, not, ℕ, ℤ, pos, negsuc, true, List, [], ◌∷◌, map, filter, Option, Some, None, codes, refl}
use Rattle.jiff_core.specs.Calendar.{days_from_civil, day_count, days_of_years, days_of_months}
use Rattle.oe_cell.specs.Rational.{whole_of}
use Rattle.oe_cell.specs.declared.cell.Cell.TheVariants.{Empty, Flag}
use Rattle.oe_dims.specs.Instant.{instant_read}
use Rattle.oe_graph.specs.Catalogue.{Process, catalogue}
use Rattle.oe_graph.specs.Tree as tree
use Rattle.oe_graph.specs.Tree.{Argument, ListValues, Named, PlainGraph, values_from_list, named_from_list}
use Rattle.oe_kernel.specs.declared.border.Border.TheVariants.{Value, Wrap}
use Rattle.oe_dims.specs.Indices.{same_number}
use Rattle.oe_requests.specs.Extents.{is_empty_extent}
use Rattle.oe_requests.specs.declared.extent.BoundingBox.{BoundingBox}
use Rattle.oe_requests.specs.declared.extent.TemporalExtent.{TemporalExtent}
use Rattle.oe_requests.specs.Labels.{are_distinct}
use Rattle.oe_requests.specs.Parameters.{extent_from, labelled_interval, extent_in, box_in, epsg_in, bands_in, some_bands_in, null_or, kernel_in, border_in, literal_in, intervals_of}
use Rattle.oe_requests.specs.Requests.{NamedProcess, cube_processes, cube_process_named, load_collection, filter_bands, merge_cubes, mask, save_result, called, load_request, filter_bands_request, merge_request, mask_request, save_request}
use Rattle.oe_check.proofs.WorkedWords.{january_1, january_2, january_3}

-- ---- the processes: those of the catalogue that stand in the main graph

the_catalogue_has_them :
    map (λ (p : Process). p.id) (filter (λ (p : Process). not p.in_callback) catalogue)
    ≡ map (λ (p : NamedProcess). p.0) cube_processes
the_catalogue_has_them = refl

not_in_the_main_graph : cube_process_named (codes "add") ≡ None
not_in_the_main_graph = refl

-- ---- extents in time

abbrev pair : Argument → Argument → Argument
pair a b = tree.list (tree.argument a (tree.argument b tree.no_arguments))

abbrev written : List ℕ → Argument
written s = tree.text s

two_spellings : extent_in (pair (written (codes "2024-01-01")) (written (codes "2024-01-02T00:00:00Z"))) ≡ Some (extent_from (Some january_1) (Some january_2))
unfolding instant_read days_from_civil day_count days_of_years days_of_months
two_spellings = refl

open_end : extent_in (pair (written (codes "2024-01-01")) tree.null) ≡ Some (extent_from (Some january_1) None)
unfolding instant_read days_from_civil day_count days_of_years days_of_months
open_end = refl

-- an end that is not later than the start is another fault
empty_extent : extent_in (pair (written (codes "2024-01-01")) (written (codes "2024-01-01"))) ≡ Some (extent_from (Some january_1) (Some january_1))
unfolding instant_read days_from_civil day_count days_of_years days_of_months
empty_extent = refl

ends_where_it_starts : is_empty_extent (extent_from (Some january_1) (Some january_1)) ≡ true
ends_where_it_starts = refl

ends_later : is_empty_extent (extent_from (Some january_1) (Some january_2)) ≡ false
ends_later = refl

never_ends : is_empty_extent (extent_from (Some january_1) None) ≡ false
never_ends = refl

both_open : extent_in (pair tree.null tree.null) ≡ None
both_open = refl

no_such_day : extent_in (pair (written (codes "2023-02-29")) tree.null) ≡ None
unfolding instant_read days_from_civil day_count days_of_years days_of_months
no_such_day = refl

one_instant : extent_in (tree.list (tree.argument tree.null tree.no_arguments)) ≡ None
one_instant = refl

-- ---- boxes

abbrev sides : ℤ → ℤ → ℤ → ℤ → Named → Named
sides west south east north rest =
    tree.named (codes "east") (tree.whole east) (tree.named (codes "north") (tree.whole north) (
    tree.named (codes "south") (tree.whole south) (tree.named (codes "west") (tree.whole west) rest)))

unit_box : ℕ → BoundingBox
unit_box epsg = record { west = pos 0; south = pos 0; east = pos 1; north = pos 1; epsg = epsg }

without_system : box_in (tree.object (sides (pos 0) (pos 0) (pos 1) (pos 1) tree.no_named)) ≡ Some (unit_box 4326)
unfolding unit_box
without_system = refl

with_system :
    box_in (tree.object (tree.named (codes "crs") (written (codes "EPSG:32633")) (sides (pos 0) (pos 0) (pos 1) (pos 1) tree.no_named)))
    ≡ Some (unit_box 32633)
unfolding unit_box
with_system = refl

with_height :
    box_in (tree.object (tree.named (codes "base") tree.null (tree.named (codes "height") (tree.whole (pos 0)) (sides (pos 0) (pos 0) (pos 1) (pos 1) tree.no_named))))
    ≡ None
with_height = refl

west_of_west : box_in (tree.object (sides (pos 2) (pos 0) (pos 1) (pos 1) tree.no_named)) ≡ None
west_of_west = refl

another_member : box_in (tree.object (tree.named (codes "bbox") tree.null (sides (pos 0) (pos 0) (pos 1) (pos 1) tree.no_named))) ≡ None
another_member = refl

side_twice :
    box_in (tree.object (sides (pos 0) (pos 0) (pos 1) (pos 1) (tree.named (codes "west") (tree.from_node (codes "a")) tree.no_named))) ≡ None
side_twice = refl

no_side : box_in (tree.object (tree.named (codes "west") (tree.whole (pos 0)) tree.no_named)) ≡ None
no_side = refl

leading_zero : epsg_in (written (codes "EPSG:04326")) ≡ None
leading_zero = refl

small_letters : epsg_in (written (codes "epsg:4326")) ≡ None
small_letters = refl

highest_code : epsg_in (written (codes "EPSG:999999")) ≡ Some 999999
highest_code = refl

above_the_highest : epsg_in (tree.whole (pos 1000000)) ≡ None
above_the_highest = refl

-- ---- bands

abbrev texts : List (List ℕ) → Argument
texts names = tree.list (values_from_list (map tree.text names))

two_bands : bands_in (texts (codes "B2" ∷ codes "B1" ∷ [])) ≡ Some (codes "B2" ∷ codes "B1" ∷ [])
two_bands = refl

twice : bands_in (texts (codes "B1" ∷ codes "B1" ∷ [])) ≡ None
twice = refl

no_valid_name : bands_in (texts (codes "B 1" ∷ [])) ≡ None
no_valid_name = refl

-- none may be given to a filter, which then has a fault of its own, and not to a load
none_to_a_filter : bands_in (texts []) ≡ Some []
none_to_a_filter = refl

none_to_a_load : null_or some_bands_in (texts []) ≡ None
none_to_a_load = refl

-- ---- kernels and literals

abbrev row : List ℕ → Argument
row values = tree.list (values_from_list (map (λ k. tree.whole (pos k)) values))

two_rows : kernel_in (tree.list (tree.argument (row (1 ∷ 2 ∷ 3 ∷ [])) (tree.argument (row (4 ∷ 5 ∷ 6 ∷ [])) tree.no_arguments)))
    ≡ Some (record { width = 3; height = 2; values = map (λ k. whole_of (pos k)) (1 ∷ 2 ∷ 3 ∷ 4 ∷ 5 ∷ 6 ∷ []) })
two_rows = refl

unequal_rows : kernel_in (tree.list (tree.argument (row (1 ∷ 2 ∷ 3 ∷ [])) (tree.argument (row (4 ∷ [])) tree.no_arguments))) ≡ None
unequal_rows = refl

no_rows : kernel_in (tree.list tree.no_arguments) ≡ None
no_rows = refl

empty_row : kernel_in (tree.list (tree.argument (row []) tree.no_arguments)) ≡ None
empty_row = refl

with_a_point : kernel_in (tree.list (tree.argument (tree.list (tree.argument tree.inexact tree.no_arguments)) tree.no_arguments)) ≡ None
with_a_point = refl

wrapping : border_in (written (codes "wrap")) ≡ Some Wrap
wrapping = refl

numbered : border_in (tree.whole (negsuc 0)) ≡ Some (Value (whole_of (negsuc 0)))
numbered = refl

no_border : border_in (written (codes "mirror")) ≡ None
no_border = refl

no_literal : literal_in (tree.from_node (codes "a")) ≡ None
no_literal = refl

-- ---- intervals

abbrev day : Option ℤ → TemporalExtent
day start = extent_from start (Some january_3)

named_by_starts : intervals_of (day (Some january_2) ∷ day (Some january_1) ∷ []) [] ≡ Some (labelled_interval (day (Some january_2)) january_2 ∷ labelled_interval (day (Some january_1)) january_1 ∷ [])
named_by_starts = refl

start_to_be_given : intervals_of (day None ∷ []) [] ≡ None
start_to_be_given = refl

named_by_labels : intervals_of (day None ∷ []) (january_1 ∷ []) ≡ Some (labelled_interval (day None) january_1 ∷ [])
named_by_labels = refl

as_many_labels : intervals_of (day None ∷ []) (january_1 ∷ january_2 ∷ []) ≡ None
as_many_labels = refl

no_intervals : intervals_of [] [] ≡ Some []
no_intervals = refl

-- two labels that are one instant
one_instant_twice : are_distinct same_number (january_1 ∷ january_2 ∷ january_1 ∷ []) ≡ false
one_instant_twice = refl

three_instants : are_distinct same_number (january_1 ∷ january_2 ∷ january_3 ∷ []) ≡ true
three_instants = refl

-- ---- whole requests

abbrev data_from : List ℕ → Named → Named
data_from id rest = tree.named (codes "data") (tree.from_node id) rest

whole_collection :
    load_request (tree.named (codes "bands") tree.null (tree.named (codes "id") (written (codes "ONE")) (tree.named (codes "properties") tree.null (
    tree.named (codes "spatial_extent") tree.null (tree.named (codes "temporal_extent") tree.null tree.no_named)))))
    ≡ Some (load_collection (codes "ONE") None None None)
whole_collection = refl

with_properties :
    load_request (tree.named (codes "bands") tree.null (tree.named (codes "id") (written (codes "ONE")) (tree.named (codes "properties")
    (tree.object (tree.named (codes "a") tree.null tree.no_named)) (
    tree.named (codes "spatial_extent") tree.null (tree.named (codes "temporal_extent") tree.null tree.no_named)))))
    ≡ None
with_properties = refl

with_wavelengths :
    filter_bands_request (tree.named (codes "bands") (texts (codes "B1" ∷ [])) (data_from (codes "a") (tree.named (codes "wavelengths") (row (1 ∷ [])) tree.no_named)))
    ≡ None
with_wavelengths = refl

bands_of_a_node :
    filter_bands_request (tree.named (codes "bands") (texts (codes "B1" ∷ [])) (data_from (codes "a") (tree.named (codes "wavelengths") (texts []) tree.no_named)))
    ≡ Some (filter_bands (codes "a") (codes "B1" ∷ []))
bands_of_a_node = refl

-- a callback is no literal, and a cube is no callback
no_callback :
    merge_request (tree.named (codes "context") tree.null (tree.named (codes "cube1") (tree.from_node (codes "a")) (tree.named (codes "cube2") (tree.from_node (codes "b")) (
    tree.named (codes "overlap_resolver") (tree.from_node (codes "a")) tree.no_named))))
    ≡ None
no_callback = refl

with_resolver :
    merge_request (tree.named (codes "context") (tree.flag true) (tree.named (codes "cube1") (tree.from_node (codes "a")) (tree.named (codes "cube2") (tree.from_node (codes "b")) (
    tree.named (codes "overlap_resolver") (tree.callback tree.no_nodes 0) tree.no_named))))
    ≡ Some (merge_cubes (codes "a") (codes "b") (Some (called (record { nodes = tree.no_nodes; result = 0 }) (Flag true))))
with_resolver = refl

data_before_mask :
    mask_request (data_from (codes "a") (tree.named (codes "mask") (tree.from_node (codes "b")) (tree.named (codes "replacement") tree.null tree.no_named)))
    ≡ Some (mask (codes "a") (codes "b") Empty)
data_before_mask = refl

-- any format is a request; which are supported is another rule
other_format :
    save_request (data_from (codes "a") (tree.named (codes "format") (written (codes "GTiff")) (tree.named (codes "options") (tree.object tree.no_named) tree.no_named)))
    ≡ Some (save_result (codes "a") (codes "GTiff"))
other_format = refl

with_options :
    save_request (data_from (codes "a") (tree.named (codes "format") (written (codes "FJSON")) (tree.named (codes "options") tree.null tree.no_named))) ≡ None
with_options = refl
