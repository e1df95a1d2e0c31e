-- The kinds that an operation takes are those that its request asks for.
use Rattle.std.proofs.Common.{◌≡◌, Bool, false, List, [], ◌∷◌, Option, Some, None, refl, sym, ap, ◌∙◌}
use Rattle.std.specs.Option.{option_map, option_map_or}
use Rattle.oe_dims.specs.declared.kind.CellKind.{CellKind}
use Rattle.oe_dims.specs.declared.kind.Kind.{Kind}
use Rattle.oe_expr.specs.Callback.{Callback}
use Rattle.oe_requests.specs.Operations.{Operation, reduce, Outline, operation_of, dimension_named, callback_under, reduction_scope}
use Rattle.oe_requests.specs.Requests.{CubeRequest, load_collection, filter_bbox, filter_temporal, filter_bands, apply, apply_kernel, reduce_dimension, aggregate_temporal, aggregate_temporal_period, apply_dimension, merge_cubes, mask, save_result}
use Rattle.oe_meanings.specs.Results.{cubes_among, takes_other_kinds}
use Rattle.oe_meanings.specs.Rows.{cell_kind_invalid}

abbrev taken : CellKind → CellKind → Option Operation → Bool
taken one two o = option_map_or (λ operation. takes_other_kinds operation one two) o false

reduced_taken : (one two : CellKind) (given : Kind → Callback) (o : Option Kind) → taken one two (option_map (λ kind. reduce kind (given kind)) o) ≡ false
reduced_taken one two given None = refl
reduced_taken one two given (Some kind) = refl

asked : (r : CubeRequest) (one two : Outline) → taken one.kind two.kind (operation_of r (cubes_among r one two)) ≡ cell_kind_invalid r (cubes_among r one two)
asked (load_collection id box time bands) one two = refl
asked (filter_bbox data_id box) one two = refl
asked (filter_temporal data_id time name) one two = refl
asked (filter_bands data_id bands) one two = refl
asked (apply data_id c) one two = refl
asked (apply_kernel data_id kernel factor border replace) one two = refl
asked (reduce_dimension data_id name c) one two =
    reduced_taken one.kind two.kind (λ kind. callback_under (reduction_scope kind one) c) (dimension_named name)
asked (aggregate_temporal data_id intervals name c) one two = refl
asked (aggregate_temporal_period data_id period name c) one two = refl
asked (apply_dimension data_id callback) one two = refl
asked (merge_cubes one_id two_id None) one two = refl
asked (merge_cubes one_id two_id (Some c)) one two = refl
asked (mask data_id mask_id replacement) one two = refl
asked (save_result data_id format) one two = refl

pub kinds_asked : (r : CubeRequest) (one two : Outline) (operation : Operation) → operation_of r (cubes_among r one two) ≡ Some operation
    → takes_other_kinds operation one.kind two.kind ≡ cell_kind_invalid r (cubes_among r one two)
kinds_asked r one two operation e = sym (ap (taken one.kind two.kind) e) ∙ asked r one two
