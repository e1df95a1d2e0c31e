-- The nodes of a graph without a fault by their indices: the shapes of their arguments, and what a check has seen of them.
use Rattle.std.proofs.Common.{◌≡◌, ◌⊎◌, inl, inr, ℕ, zero, suc, ◌+◌, ◌<◌, Bool, true, false, ◌||◌, ◌&&◌, List, [], ◌∷◌, map, length, slice_get, Contains, Option, Some, None, option_map, is_some, is_none, refl, sym, ap, ◌∙◌, subst, arith, true≢false}
use Rattle.std.specs.Prelude.{nat_lt}
use Rattle.std.proofs.lemmas.Option.{get_or_from_slice_get, same_Some, slice_get_within}
use Rattle.std.proofs.lemmas.List.{get_or-map, length-map}
use Rattle.std.specs.Option.{option_and_then, option_map_or}
use Rattle.oe_dims.specs.Dimensions.{Dimensions}
use Rattle.oe_dims.specs.declared.dims.DimsRow.{DimsRow}
use Rattle.oe_dims.specs.declared.kind.Kind.{Kind}
use Rattle.oe_dims.specs.declared.kind.Kind.TheVariants.{Time, Bands, Y, X}
use Rattle.oe_graph.specs.Printed.{node_count}
use Rattle.oe_graph.specs.References.{references_named}
use Rattle.oe_graph.specs.Tree.{Nodes, PlainNode}
use Rattle.oe_graph.specs.declared.code.Code.{Code}
use Rattle.oe_graph.specs.declared.code.Code.TheVariants.{MaskDimensionsDiffer, ProcessParameterInvalid}
use Rattle.oe_graph.proofs.ResolvedLemmas.{NodeAt, SomeNode, node_below}
use Rattle.oe_order.specs.Graph as order
use Rattle.oe_expr.specs.Callback.{Callback}
use Rattle.oe_expr.specs.Nodes.{id_at, node_named}
use Rattle.oe_expr.specs.Requests.{with_both}
use Rattle.oe_expr.specs.Rows.{first_row}
use Rattle.oe_expr.proofs.NodeLemmas.{contains_node, id_at_is}
use Rattle.oe_check.specs.Checked.{AreFaultless, CheckedGraph, collection_of_node, operation_of_node, outline_of_node}
use Rattle.oe_meanings.specs.Graphs.{operation_at, outline_at, outline_named, request_outline}
use Rattle.oe_requests.specs.Labels.{differ_along, differing, one_if}
use Rattle.oe_check.specs.Links.{loaded_collection, index_referred, links_of, loaded_by}
use Rattle.oe_requests.specs.Operations.{Operation, Outline, dimension_named, first_or, no_dimensions, no_outline, operation_of, outline_of, second_or, shape_of}
use Rattle.oe_requests.specs.Operations as operation
use Rattle.oe_check.specs.Reach.{input_shapes, needs_whole, whole_of_node}
use Rattle.oe_requests.specs.Requests.{CubeRequest, aggregate_temporal, aggregate_temporal_period, apply_dimension, apply, apply_kernel, cube_ids, filter_bands, filter_bbox, filter_temporal, load_collection, mask, merge_cubes, reduce_dimension, cube_request_at, save_result}
use Rattle.oe_meanings.specs.Rows.{differs_from_data, dimension_not_available, first_shape, mask_dimensions_differ}
use Rattle.oe_meanings.specs.SoundNodes.{input_outlines}
use Rattle.oe_meanings.specs.Stands.{HasNoFault, IsSound, asks_for_nothing, cubes_of, early, early_rows, sound}
use Rattle.oe_meanings.specs.Words.{codes_differ, has_another, lacks_named}
use Rattle.oe_check.proofs.BuildableLemmas.{none_holds, none_of}
use Rattle.oe_check.proofs.CheckedLemmas.{map_twice, no_load, refer}
use Rattle.oe_meanings.proofs.GraphLemmas.{unfold_at_nodes}
use Rattle.oe_check.proofs.LinkLemmas.{index_is, links_arguments, named_at, object, referred}
use Rattle.oe_check.proofs.LoadLemmas.{loads_where}
use Rattle.oe_meanings.proofs.RequestLemmas.{found}
use Rattle.oe_ops.specs.Needs.{argument_shape}
use Rattle.oe_plan.specs.Figures.{shape_of_node}
use Rattle.oe_plan.specs.Steps.{argument_shapes, arguments_of_node}
use Rattle.oe_plan.proofs.FollowLemmas.{IsMaskOf, IsTaken}

-- ---- the rows of faults

no_fault : (rows : List DimsRow) (nodes : Nodes) (name : List ℕ) (n : PlainNode) → IsSound rows nodes name → node_named name nodes ≡ Some n → HasNoFault rows (outline_at rows nodes) n
no_fault rows nodes name n (sound {n = m} is below none) named = let same : m ≡ n = cc in subst (HasNoFault rows (outline_at rows nodes)) same none

pub no_early_fault : (rows : List DimsRow) (at : List ℕ → Outline) (n : PlainNode) (r : CubeRequest) → cube_request_at n ≡ Some r → HasNoFault rows at n → first_row (early_rows rows r (cubes_of rows at r)) ≡ None
no_early_fault rows at n r asks none = by (first_row (early_rows rows r (cubes_of rows at r))) refl
  where
    by : (o : Option Code) → first_row (early_rows rows r (cubes_of rows at r)) ≡ o → o ≡ None
    by None is = refl
    by (Some code) is = absurd (none code n.id (early asks is))

-- it asks for something
pub some_request : (rows : List DimsRow) (at : List ℕ → Outline) (n : PlainNode) → HasNoFault rows at n → (r : CubeRequest) × (cube_request_at n ≡ Some r)
some_request rows at n none = by (cube_request_at n) refl
  where
    by : (o : Option CubeRequest) → cube_request_at n ≡ o → (r : CubeRequest) × (cube_request_at n ≡ Some r)
    by None is = absurd (none ProcessParameterInvalid n.id (asks_for_nothing is))
    by (Some r) is = (r, is)

-- which is an operation
some_operation : (r : CubeRequest) (cubes : List Outline) → dimension_not_available r cubes ≡ false → (op : Operation) × (operation_of r cubes ≡ Some op)
some_operation (load_collection id box time bands) cubes h = (_, refl)
some_operation (filter_bbox data_id box) cubes h = (_, refl)
some_operation (filter_temporal data_id time name) cubes h = (_, refl)
some_operation (filter_bands data_id bands) cubes h = (_, refl)
some_operation (apply data_id c) cubes h = (_, refl)
some_operation (apply_kernel data_id kernel factor border replace) cubes h = (_, refl)
some_operation (reduce_dimension data_id name c) cubes h = by (dimension_named name) _ refl
  where
    by : (o : Option Kind) (f : Kind → Operation) → dimension_named name ≡ o → (op : Operation) × (option_map f (dimension_named name) ≡ Some op)
    by None f is = let lost : lacks_named name (first_shape cubes) ≡ true = rw is refl in absurd (true≢false (sym lost ∙ h))
    by (Some kind) f is = (f kind, ap (option_map f) is)
some_operation (aggregate_temporal data_id intervals name c) cubes h = (_, refl)
some_operation (aggregate_temporal_period data_id period name c) cubes h = (_, refl)
some_operation (apply_dimension data_id callback) cubes h = (_, refl)
some_operation (merge_cubes one two resolver) cubes h = (_, refl)
some_operation (mask data_id mask_id replacement) cubes h = (_, refl)
some_operation (save_result data_id format) cubes h = (_, refl)

-- ---- a mask without a fault

no_part : (a b c : Bool) → (a || b || c) ≡ false → (a ≡ false) × (b ≡ false)
no_part true b c h = absurd (true≢false h)
no_part false true c h = absurd (true≢false h)
no_part false false c h = (refl, refl)

none_of_four : (t b y x : Bool) → (t || b || y || x) ≡ false → (t ≡ false) × (y ≡ false) × (x ≡ false)
none_of_four true b y x h = absurd (true≢false h)
none_of_four false true y x h = absurd (true≢false h)
none_of_four false false true x h = absurd (true≢false h)
none_of_four false false false true h = absurd (true≢false h)
none_of_four false false false false h = (refl, refl, refl)

none_counted : (t b y x : Bool) → nat_lt 0 (one_if t + one_if b + one_if y + one_if x) ≡ false → (t ≡ false) × (y ≡ false) × (x ≡ false)
none_counted false false false false h = (refl, refl, refl)
none_counted false false false true h = absurd (true≢false h)
none_counted false false true false h = absurd (true≢false h)
none_counted false false true true h = absurd (true≢false h)
none_counted false true false false h = absurd (true≢false h)
none_counted false true false true h = absurd (true≢false h)
none_counted false true true false h = absurd (true≢false h)
none_counted false true true true h = absurd (true≢false h)
none_counted true false false false h = absurd (true≢false h)
none_counted true false false true h = absurd (true≢false h)
none_counted true false true false h = absurd (true≢false h)
none_counted true false true true h = absurd (true≢false h)
none_counted true true false false h = absurd (true≢false h)
none_counted true true false true h = absurd (true≢false h)
none_counted true true true false h = absurd (true≢false h)
none_counted true true true true h = absurd (true≢false h)

lacks_too : {A : Type 0} (d m : Option A) → (is_some m && is_none d) ≡ false → d ≡ None → m ≡ None
lacks_too d None h none = refl
lacks_too None (Some m) h none = absurd (true≢false h)
lacks_too (Some d) (Some m) h none = absurd cc

mask_is : (d m : Dimensions) → differs_from_data d m ≡ false → IsMaskOf d m
mask_is d m h =
    let all = no_part (has_another m d) (nat_lt 0 (differing d m)) (codes_differ d m) h in
    let has = none_of_four (is_some m.t && is_none d.t) (is_some m.bands && is_none d.bands) (is_some m.y && is_none d.y) (is_some m.x && is_none d.x) all.0 in
    let same = none_counted (differ_along Time d m) (differ_along Bands d m) (differ_along Y d m) (differ_along X d m) all.1 in
    by has same
  where
    by : ((is_some m.t && is_none d.t) ≡ false) × ((is_some m.y && is_none d.y) ≡ false) × ((is_some m.x && is_none d.x) ≡ false)
        → (differ_along Time d m ≡ false) × (differ_along Y d m ≡ false) × (differ_along X d m ≡ false) → IsMaskOf d m
    by has same Time = (lacks_too d.t m.t has.0, same.0)
    by has same Bands = ((λ none. refl), refl)
    by has same Y = (lacks_too d.y m.y has.1, same.1)
    by has same X = (lacks_too d.x m.x has.2, same.2)

-- ---- the operation of a request

first_shape_is : (cubes : List Outline) → (first_or no_outline cubes).shape ≡ first_or no_dimensions (map (λ (o : Outline). o.shape) cubes)
first_shape_is [] = refl
first_shape_is (o ∷ cubes) = refl

second_shape_is : (cubes : List Outline) → (second_or no_outline cubes).shape ≡ second_or no_dimensions (map (λ (o : Outline). o.shape) cubes)
second_shape_is [] = refl
second_shape_is (o ∷ []) = refl
second_shape_is (o ∷ p ∷ cubes) = refl

abbrev shapes_of : List Outline → List Dimensions
shapes_of cubes = map (λ (o : Outline). o.shape) cubes

one_alone : (number : ℕ) → number < 1 → number ≡ 0
one_alone number h = omega arith

one_of_two : (number : ℕ) → number < 2 → (number ≡ 0) ⊎ (number ≡ 1)
one_of_two zero h = inl refl
one_of_two (suc number) h = inr (omega arith)

taken : (r : CubeRequest) (cubes : List Outline) (op : Operation) → loaded_by r ≡ None → operation_of r cubes ≡ Some op → mask_dimensions_differ r cubes ≡ false
    → (number : ℕ) → number < length (cube_ids r) → IsTaken op (shapes_of cubes) number
taken (load_collection id box time bands) cubes op none is fits number below = absurd cc
taken (filter_bbox data_id box) cubes op none is fits number below = subst (λ o. IsTaken o (shapes_of cubes) number) (same_Some _ _ is) (one_alone number below)
taken (filter_temporal data_id time name) cubes op none is fits number below = subst (λ o. IsTaken o (shapes_of cubes) number) (same_Some _ _ is) (one_alone number below)
taken (filter_bands data_id bands) cubes op none is fits number below = subst (λ o. IsTaken o (shapes_of cubes) number) (same_Some _ _ is) (one_alone number below)
taken (apply data_id c) cubes op none is fits number below = subst (λ o. IsTaken o (shapes_of cubes) number) (same_Some _ _ is) (one_alone number below)
taken (apply_kernel data_id kernel factor border replace) cubes op none is fits number below = subst (λ o. IsTaken o (shapes_of cubes) number) (same_Some _ _ is) (one_alone number below)
taken (reduce_dimension data_id name c) cubes op none is fits number below = by (dimension_named name) _ is
  where
    by : (o : Option Kind) (f : Kind → Callback) → option_map (λ kind. operation.reduce kind (f kind)) o ≡ Some op → IsTaken op (shapes_of cubes) number
    by None f e = absurd cc
    by (Some kind) f e = subst (λ o. IsTaken o (shapes_of cubes) number) (same_Some _ _ e) (one_alone number below)
taken (aggregate_temporal data_id intervals name c) cubes op none is fits number below = subst (λ o. IsTaken o (shapes_of cubes) number) (same_Some _ _ is) (one_alone number below)
taken (aggregate_temporal_period data_id period name c) cubes op none is fits number below = subst (λ o. IsTaken o (shapes_of cubes) number) (same_Some _ _ is) (one_alone number below)
taken (apply_dimension data_id callback) cubes op none is fits number below = subst (λ o. IsTaken o (shapes_of cubes) number) (same_Some _ _ is) (one_alone number below)
taken (merge_cubes one two resolver) cubes op none is fits number below = subst (λ o. IsTaken o (shapes_of cubes) number) (same_Some _ _ is) (one_of_two number below)
taken (mask data_id mask_id replacement) cubes op none is fits number below =
    let masks : IsMaskOf (first_or no_dimensions (shapes_of cubes)) (second_or no_dimensions (shapes_of cubes)) =
    mask_is _ _ (ap (λ d. differs_from_data d (second_or no_dimensions (shapes_of cubes))) (sym (first_shape_is cubes))
    ∙ (ap (differs_from_data (first_or no_outline cubes).shape) (sym (second_shape_is cubes)) ∙ fits)) in
    subst (λ o. IsTaken o (shapes_of cubes) number) (same_Some _ _ is) (elim (one_of_two number below) [
      | inl first ↦ inl first
      | inr second ↦ inr (second, masks)
    ])
taken (save_result data_id format) cubes op none is fits number below = subst (λ o. IsTaken o (shapes_of cubes) number) (same_Some _ _ is) (one_alone number below)

-- ---- the inputs of a node by their indices

map_map : {A B C : Type 0} (g : B → C) (f : A → B) (xs : List A) → map g (map f xs) ≡ map (λ x. g (f x)) xs
map_map g f [] = refl
map_map g f (x ∷ xs) = ap (λ ys. g (f x) ∷ ys) (map_map g f xs)

-- what a check has seen of a node that takes arguments
pub record IsSeen (c : CheckedGraph) (node : ℕ) (op : Operation) : Type 0 where
  pub shape_is : shape_of_node c node ≡ shape_of op (argument_shapes c node)
  pub inputs_are : input_shapes c node ≡ Some (argument_shapes c node)
  pub taken_so : (number : ℕ) → number < length (arguments_of_node c node) → IsTaken op (argument_shapes c node) number

module _ (c : CheckedGraph) (f : AreFaultless c) (index : ℕ) (below : index < node_count c.nodes) where
  there : SomeNode c.nodes index
  there = node_below c.nodes index below

  abbrev at : List ℕ → Outline
  at = outline_at c.rows c.nodes

  refers_to : (r : CubeRequest) → cube_request_at there.node ≡ Some r → references_named there.node.arguments ≡ cube_ids r
  refers_to r asks = refer c.nodes f.resolved there.node (contains_node c.nodes index there.node there.is_there) r asks

  arguments_are : (r : CubeRequest) → cube_request_at there.node ≡ Some r → arguments_of_node c index ≡ map (index_referred c.nodes) (cube_ids r)
  arguments_are r asks = links_arguments c.nodes index there.node there.is_there ∙ ap (map (index_referred c.nodes)) (refers_to r asks)

  -- each is a node
  node_of : (name : List ℕ) → Contains (references_named there.node.arguments) name → NodeAt c.nodes name
  node_of name has = referred c.nodes f.resolved index there.node name there.is_there has

  outline_of_name : (name : List ℕ) → Contains (references_named there.node.arguments) name → outline_of_node c (index_referred c.nodes name) ≡ at name
  outline_of_name name has =
      let to = node_of name has in
      ap (λ i. at (id_at i c.nodes)) (index_is c.nodes f.resolved name to)
      ∙ ap at (id_at_is c.nodes to.index to.node to.is_there ∙ to.is_named)

  no_fault_here : HasNoFault c.rows at there.node
  no_fault_here =
      no_fault c.rows c.nodes there.node.id there.node (f.sound there.node (contains_node c.nodes index there.node there.is_there))
      (named_at c.nodes f.resolved index there.node there.is_there)

  pub has_operation : (op : Operation) × (operation_of_node c index ≡ Some op)
  has_operation =
      let r = some_request c.rows at there.node no_fault_here in
      let fits = none_holds c.rows r.0 (input_outlines c.rows c.nodes r.0) (no_early_fault c.rows at there.node r.0 r.1 no_fault_here) in
      let op = some_operation r.0 (input_outlines c.rows c.nodes r.0) fits.dimension in (
        op.0,
        ap (option_and_then (operation_at c.rows c.nodes)) there.is_there
            ∙ (ap (option_and_then (λ q. operation_of q (input_outlines c.rows c.nodes q))) r.1 ∙ op.1),
      )

  module _ (op : Operation) (is : operation_of_node c index ≡ Some op) (works : order.is_load (links_of c.nodes) index ≡ false) where
    operation_there : operation_at c.rows c.nodes there.node ≡ Some op
    operation_there = sym (ap (option_and_then (operation_at c.rows c.nodes)) there.is_there) ∙ is

    no_collection : (o : Option (List ℕ)) → is_some o ≡ false → o ≡ None
    no_collection None e = refl
    no_collection (Some id) e = absurd (true≢false e)

    loads_none : (r : CubeRequest) → cube_request_at there.node ≡ Some r → loaded_by r ≡ None
    loads_none r asks =
        no_collection (loaded_by r)
        (ap is_some (sym (ap (option_and_then loaded_collection) there.is_there ∙ ap (option_and_then loaded_by) asks))
        ∙ (sym (loads_where c f index below) ∙ works))

    module _ (r : CubeRequest) (asks : cube_request_at there.node ≡ Some r) (gives : operation_of r (input_outlines c.rows c.nodes r) ≡ Some op) where
      inputs_here : input_outlines c.rows c.nodes r ≡ map (outline_of_node c) (arguments_of_node c index)
      inputs_here =
          no_load (outline_named c.rows) at r (loads_none r asks)
          ∙ (ap (map at) (sym (refers_to r asks))
          ∙ (sym (map_twice (outline_of_node c) (index_referred c.nodes) at (references_named there.node.arguments) outline_of_name)
          ∙ ap (map (outline_of_node c)) (sym (links_arguments c.nodes index there.node there.is_there))))

      shapes_here : shapes_of (input_outlines c.rows c.nodes r) ≡ argument_shapes c index
      shapes_here = ap shapes_of inputs_here ∙ map_map (λ (o : Outline). o.shape) (outline_of_node c) (arguments_of_node c index)

      outline_here : outline_of_node c index ≡ outline_of op (input_outlines c.rows c.nodes r)
      outline_here =
          ap at (id_at_is c.nodes index there.node there.is_there)
          ∙ (unfold_at_nodes.outline c.rows c.nodes (object c.nodes f.resolved).acyclic there.node.id there.node (named_at c.nodes f.resolved index there.node there.is_there)
          ∙ (ap (λ o. option_map_or (request_outline c.rows at) o no_outline) asks
          ∙ ap (λ o. option_map_or (λ p. outline_of p (input_outlines c.rows c.nodes r)) o no_outline) gives))

      mask_fits : mask_dimensions_differ r (input_outlines c.rows c.nodes r) ≡ false
      mask_fits =
          none_of (early_rows c.rows r (input_outlines c.rows c.nodes r)) (no_early_fault c.rows at there.node r asks no_fault_here) 12 MaskDimensionsDiffer
          (mask_dimensions_differ r (input_outlines c.rows c.nodes r)) refl

      seen_here : IsSeen c index op
      seen_here = record {
        shape_is = ap (λ (o : Outline). o.shape) outline_here ∙ ap (shape_of op) shapes_here;
        inputs_are =
            ap (λ o. option_map (λ q. shapes_of (input_outlines c.rows c.nodes q)) (option_and_then cube_request_at o)) there.is_there
            ∙ (ap (option_map (λ q. shapes_of (input_outlines c.rows c.nodes q))) asks ∙ ap Some shapes_here);
        taken_so = λ number under.
            let count : length (arguments_of_node c index) ≡ length (cube_ids r) = ap length (arguments_are r asks) ∙ length-map (cube_ids r) (index_referred c.nodes) in
            subst (λ shapes. IsTaken op shapes number) shapes_here
            (taken r (input_outlines c.rows c.nodes r) op (loads_none r asks) gives mask_fits number (omega arith));
      }

    pub seen : IsSeen c index op
    seen = let r = found _ (cube_request_at there.node) op operation_there in seen_here r.0 r.1 r.2

  -- a node that loads has no arguments
  pub load_alone : order.is_load (links_of c.nodes) index ≡ true → (n : ℕ) → Contains (arguments_of_node c index) n → ⊥
  load_alone loads n has = alone (collection_of_node c index) refl
    where
      no_ids : (r : CubeRequest) (id : List ℕ) → loaded_by r ≡ Some id → Contains (map (index_referred c.nodes) (cube_ids r)) n → ⊥
      no_ids (load_collection i box time bands) id e has = let under = has.1 in absurd (omega arith)
      no_ids (filter_bbox data_id box) id e has = absurd cc
      no_ids (filter_temporal data_id time name) id e has = absurd cc
      no_ids (filter_bands data_id bands) id e has = absurd cc
      no_ids (apply data_id c) id e has = absurd cc
      no_ids (apply_kernel data_id kernel factor border replace) id e has = absurd cc
      no_ids (reduce_dimension data_id name c) id e has = absurd cc
      no_ids (aggregate_temporal data_id intervals name c) id e has = absurd cc
      no_ids (aggregate_temporal_period data_id period name c) id e has = absurd cc
      no_ids (apply_dimension data_id callback) id e has = absurd cc
      no_ids (merge_cubes one two resolver) id e has = absurd cc
      no_ids (mask data_id mask_id replacement) id e has = absurd cc
      no_ids (save_result data_id format) id e has = absurd cc

      alone : (o : Option (List ℕ)) → collection_of_node c index ≡ o → ⊥
      alone None e = true≢false (sym loads ∙ (loads_where c f index below ∙ ap is_some e))
      alone (Some id) e =
          let q = found loaded_by (cube_request_at there.node) id (sym (ap (option_and_then loaded_collection) there.is_there) ∙ e) in
          no_ids q.0 id q.2 (subst (λ xs. Contains xs n) (arguments_are q.0 q.1) has)

  -- an argument is a node
  pub argument_below : (n : ℕ) → Contains (arguments_of_node c index) n → n < node_count c.nodes
  argument_below n has =
      let names = references_named there.node.arguments in
      let one = mapped (index_referred c.nodes) names n (subst (λ xs. Contains xs n) (links_arguments c.nodes index there.node there.is_there) has) in
      let to = node_of one.0 one.1 in
      subst (λ k. k < node_count c.nodes) (sym (index_is c.nodes f.resolved one.0 to) ∙ one.2) to.below
    where
      mapped : (g : List ℕ → ℕ) (names : List (List ℕ)) (n : ℕ) → Contains (map g names) n → (name : List ℕ) × Contains names name × (g name ≡ n)
      mapped g [] n has = let under = has.1 in absurd (omega arith)
      mapped g (name ∷ names) n (zero, under, e) = (name, (0, omega arith, refl), e)
      mapped g (name ∷ names) n (suc k, under, e) =
          let rest = mapped g names n (k, omega arith, e) in
          let at = rest.1 in
          let inside = at.1 in
          (rest.0, (suc at.0, omega arith, at.2), rest.2)

-- whether a node needs the whole side, by its operation
pub whole_is : (c : CheckedGraph) (node : ℕ) (op : Operation) (along : Kind) → operation_of_node c node ≡ Some op → input_shapes c node ≡ Some (argument_shapes c node)
    → whole_of_node c node along ≡ Some (needs_whole op (argument_shapes c node) along)
whole_is c node op along is inputs =
    ap (λ o. with_both (λ p s. needs_whole p s along) o (input_shapes c node)) is ∙ ap (with_both (λ p s. needs_whole p s along) (Some op)) inputs

-- the shape of an argument
pub argument_shape_is : (c : CheckedGraph) (node number argument : ℕ) → slice_get (arguments_of_node c node) number ≡ Some argument
    → argument_shape (argument_shapes c node) number ≡ shape_of_node c argument
argument_shape_is c node number argument at =
    get_or-map (shape_of_node c) (arguments_of_node c node) number 0 no_dimensions (slice_get_within (arguments_of_node c node) number argument at)
    ∙ ap (shape_of_node c) (get_or_from_slice_get (arguments_of_node c node) number argument 0 at)
