-- Which nodes of a checked graph need the whole side: a merge by the shapes of its two cubes, which its links name.
use Rattle.std.proofs.Common.{◌≡◌, ℕ, ◌<◌, Bool, List, [], ◌∷◌, map, length, slice_get, Contains, Option, Some, None, option_map, refl, sym, ap, ◌∙◌, subst, arith}
use Rattle.std.specs.List.{slice_index_or}
use Rattle.std.specs.Option.{option_and_then, option_map_or}
use Rattle.oe_dims.specs.Dimensions.{Dimensions}
use Rattle.oe_dims.specs.declared.kind.Kind.{Kind}
use Rattle.oe_graph.specs.Printed.{node_count}
use Rattle.oe_graph.specs.References.{each_node, references_named}
use Rattle.oe_graph.specs.Tree.{PlainNode}
use Rattle.oe_graph.proofs.ResolvedLemmas.{NodeAt, SomeNode, node_below}
use Rattle.oe_order.specs.Graph as order
use Rattle.oe_order.specs.declared.Links.{Links}
use Rattle.oe_order.proofs.Graphs.{arguments-graph_of}
use Rattle.oe_expr.specs.Callback.{Callback}
use Rattle.oe_expr.specs.Nodes.{id_at}
use Rattle.oe_expr.specs.Requests.{with_both}
use Rattle.oe_expr.proofs.NodeLemmas.{id_at_is, contains_node}
use Rattle.oe_check.specs.Checked.{CheckedGraph, outline_of_node, operation_of_node}
use Rattle.oe_meanings.specs.Graphs.{outline_at, operation_at, request_outline}
use Rattle.oe_requests.specs.Labels.{shape_of_merge, differ_along}
use Rattle.oe_check.specs.Links.{index_referred, links_of}
use Rattle.oe_requests.specs.Operations.{Operation, Outline, no_outline, merge, operation_of, outline_of, dimension_named}
use Rattle.oe_check.specs.Reach.{needs_whole, input_shapes, whole_of_node}
use Rattle.oe_requests.specs.Requests.{CubeRequest, Called, load_collection, filter_bbox, filter_temporal, filter_bands, apply, apply_kernel, reduce_dimension, aggregate_temporal, aggregate_temporal_period, apply_dimension, merge_cubes, mask, save_result, cube_request_at}
use Rattle.oe_meanings.specs.SoundNodes.{input_outlines}
use Rattle.oe_check.specs.Walked.{AreResolved}
use Rattle.oe_check.proofs.CheckedLemmas.{refer}
use Rattle.oe_meanings.proofs.GraphLemmas.{unfold_at_nodes}
use Rattle.oe_check.proofs.LinkLemmas.{object, named_at, referred, index_is, links_arguments, links_length}
use Rattle.oe_meanings.proofs.RequestLemmas.{found}

-- ---- whatever the shapes of its inputs are

shapes_of : (o : Option PlainNode) (f : PlainNode → Option Operation) (g : CubeRequest → List Dimensions) (operation : Operation)
    → ((n : PlainNode) → f n ≡ Some operation → (r : CubeRequest) × (cube_request_at n ≡ Some r)) → option_and_then f o ≡ Some operation
    → (shapes : List Dimensions) × (option_map g (option_and_then cube_request_at o) ≡ Some shapes)
shapes_of None f g operation asks e = absurd cc
shapes_of (Some n) f g operation asks e = let r = asks n e in (g r.0, ap (option_map g) r.1)

module _ (c : CheckedGraph) (index : ℕ) (operation : Operation) (is : operation_of_node c index ≡ Some operation) (along : Kind) where
  shapes_there : (shapes : List Dimensions) × (input_shapes c index ≡ Some shapes)
  shapes_there =
      shapes_of (slice_get (each_node c.nodes) index) (operation_at c.rows c.nodes)
      (λ r. map (λ (o : Outline). o.shape) (input_outlines c.rows c.nodes r)) operation
      (λ n e. let r = found _ (cube_request_at n) operation e in (r.0, r.1)) is

  pub whole_with : (shapes : List Dimensions) (b : Bool) → input_shapes c index ≡ Some shapes → needs_whole operation shapes along ≡ b → whole_of_node c index along ≡ Some b
  whole_with shapes b has e =
      ap (λ o. with_both (λ p s. needs_whole p s along) o (input_shapes c index)) is
      ∙ (ap (with_both (λ p s. needs_whole p s along) (Some operation)) has ∙ ap Some e)

  pub whole_always : (b : Bool) → ((shapes : List Dimensions) → needs_whole operation shapes along ≡ b) → whole_of_node c index along ≡ Some b
  whole_always b e = whole_with shapes_there.0 b shapes_there.1 (e shapes_there.0)

-- ---- a merge

record IsMergeRequest (r : CubeRequest) : Type 0 where
  pub one : List ℕ
  pub two : List ℕ
  pub resolver : Option Called
  pub is : r ≡ merge_cubes one two resolver

is_merge : (r : CubeRequest) (cubes : List Outline) (resolver : Option Callback) → operation_of r cubes ≡ Some (merge resolver) → IsMergeRequest r
is_merge (load_collection id box time bands) cubes resolver e = absurd cc
is_merge (filter_bbox data_id box) cubes resolver e = absurd cc
is_merge (filter_temporal data_id time name) cubes resolver e = absurd cc
is_merge (filter_bands data_id bands) cubes resolver e = absurd cc
is_merge (apply data_id c) cubes resolver e = absurd cc
is_merge (apply_kernel data_id kernel factor border replace) cubes resolver e = absurd cc
is_merge (reduce_dimension data_id name c) cubes resolver e = by (dimension_named name) _ e
  where
    by : (o : Option Kind) (f : Kind → Callback) → option_map (λ kind. Operation.reduce kind (f kind)) o ≡ Some (merge resolver) → IsMergeRequest (reduce_dimension data_id name c)
    by None f e = absurd cc
    by (Some kind) f e = absurd cc
is_merge (aggregate_temporal data_id intervals name c) cubes resolver e = absurd cc
is_merge (aggregate_temporal_period data_id period name c) cubes resolver e = absurd cc
is_merge (apply_dimension data_id callback) cubes resolver e = absurd cc
is_merge (merge_cubes one two called) cubes resolver e = record { one = one; two = two; resolver = called; is = refl }
is_merge (mask data_id mask_id replacement) cubes resolver e = absurd cc
is_merge (save_result data_id format) cubes resolver e = absurd cc

-- the two cubes that a node merges, by their indices
pub record Merges (c : CheckedGraph) (index : ℕ) : Type 0 where
  pub one : ℕ
  pub two : ℕ
  pub arguments_are : order.arguments (links_of c.nodes) index ≡ one ∷ two ∷ []
  pub one_below : one < node_count c.nodes
  pub two_below : two < node_count c.nodes
  pub merged : (outline_of_node c index).shape ≡ shape_of_merge (outline_of_node c one).shape (outline_of_node c two).shape
  pub shapes_are : input_shapes c index ≡ Some ((outline_of_node c one).shape ∷ (outline_of_node c two).shape ∷ [])

module _ (c : CheckedGraph) (resolved : AreResolved c.nodes) (index : ℕ) (below : index < node_count c.nodes) (resolver : Option Callback)
    (is : operation_of_node c index ≡ Some (merge resolver)) where
  there : SomeNode c.nodes index
  there = node_below c.nodes index below

  operation_there : operation_at c.rows c.nodes there.node ≡ Some (merge resolver)
  operation_there = sym (ap (option_and_then (operation_at c.rows c.nodes)) there.is_there) ∙ is

  abbrev ids : List ℕ → List ℕ → List (List ℕ)
  ids one two = one ∷ two ∷ []

  module _ (one two : List ℕ) (called : Option Called) (asks : cube_request_at there.node ≡ Some (merge_cubes one two called)) where
    refers : references_named there.node.arguments ≡ one ∷ two ∷ []
    refers = refer c.nodes resolved there.node (contains_node c.nodes index there.node there.is_there) (merge_cubes one two called) asks

    node_of : (name : List ℕ) → Contains (one ∷ two ∷ []) name → NodeAt c.nodes name
    node_of name has =
        referred c.nodes resolved index there.node name there.is_there (subst (λ names. Contains names name) (sym refers) has)

    first : NodeAt c.nodes one
    first = node_of one (0, omega arith, refl)

    second : NodeAt c.nodes two
    second = node_of two (1, omega arith, refl)

    below_of : (name : List ℕ) (at : NodeAt c.nodes name) → index_referred c.nodes name < node_count c.nodes
    below_of name at = subst (λ i. i < node_count c.nodes) (sym (index_is c.nodes resolved name at)) at.below

    outline_of_name : (name : List ℕ) (at : NodeAt c.nodes name) → outline_of_node c (index_referred c.nodes name) ≡ outline_at c.rows c.nodes name
    outline_of_name name at =
        ap (λ i. outline_at c.rows c.nodes (id_at i c.nodes)) (index_is c.nodes resolved name at)
        ∙ ap (outline_at c.rows c.nodes) (id_at_is c.nodes at.index at.node at.is_there ∙ at.is_named)

    abbrev inputs : List Outline
    inputs = outline_at c.rows c.nodes one ∷ outline_at c.rows c.nodes two ∷ []

    asked : operation_of (merge_cubes one two called) inputs ≡ Some (merge resolver)
    asked = sym (ap (option_and_then (λ r. operation_of r (input_outlines c.rows c.nodes r))) asks) ∙ operation_there

    outline_here : outline_of_node c index ≡ outline_of (merge resolver) inputs
    outline_here =
        ap (outline_at c.rows c.nodes) (id_at_is c.nodes index there.node there.is_there)
        ∙ (unfold_at_nodes.outline c.rows c.nodes (object c.nodes resolved).acyclic there.node.id there.node (named_at c.nodes resolved index there.node there.is_there)
        ∙ (ap (λ o. option_map_or (request_outline c.rows (outline_at c.rows c.nodes)) o no_outline) asks
        ∙ ap (λ o. option_map_or (λ operation. outline_of operation inputs) o no_outline) asked))

    merges_here : Merges c index
    merges_here = record {
      one = index_referred c.nodes one;
      two = index_referred c.nodes two;
      arguments_are = links_arguments c.nodes index there.node there.is_there ∙ ap (map (index_referred c.nodes)) refers;
      one_below = below_of one first;
      two_below = below_of two second;
      merged =
          ap (λ (o : Outline). o.shape) outline_here
          ∙ (ap (λ (o : Outline). shape_of_merge o.shape (outline_at c.rows c.nodes two).shape) (sym (outline_of_name one first))
          ∙ ap (λ (o : Outline). shape_of_merge (outline_of_node c (index_referred c.nodes one)).shape o.shape) (sym (outline_of_name two second)));
      shapes_are =
          ap (λ o. option_map (λ r. map (λ (o : Outline). o.shape) (input_outlines c.rows c.nodes r)) (option_and_then cube_request_at o)) there.is_there
          ∙ (ap (option_map (λ r. map (λ (o : Outline). o.shape) (input_outlines c.rows c.nodes r))) asks
          ∙ (ap (λ (o : Outline). Some (o.shape ∷ (outline_at c.rows c.nodes two).shape ∷ [])) (sym (outline_of_name one first))
          ∙ ap (λ (o : Outline). Some ((outline_of_node c (index_referred c.nodes one)).shape ∷ o.shape ∷ [])) (sym (outline_of_name two second))));
    }

  pub merges : Merges c index
  merges =
      let r = found _ (cube_request_at there.node) (merge resolver) operation_there in
      let m = is_merge r.0 (input_outlines c.rows c.nodes r.0) resolver r.2 in
      merges_here m.one m.two m.resolver (r.1 ∙ ap Some m.is)

  -- as the code reads its links
  module _ (links : List Links) (links_are : order.graph_of links ≡ links_of c.nodes) (link : Links) (link_is : link ≡ slice_index_or links index link) where
    pub inputs_are : link.arguments.items ≡ merges.one ∷ merges.two ∷ []
    inputs_are =
        let within : index < length links = subst (λ count. index < count) (sym (links_length c.nodes links links_are)) below in
        sym (arguments-graph_of links index link within link_is)
        ∙ (ap (λ nodes. order.arguments nodes index) links_are ∙ merges.arguments_are)

    pub two_inputs : 1 < length link.arguments.items
    two_inputs = let both = ap length inputs_are in omega arith

    pub first_input : (one : ℕ) → one ≡ slice_index_or link.arguments.items 0 one → one ≡ merges.one
    first_input one is = is ∙ ap (λ xs. slice_index_or xs 0 one) inputs_are

    pub second_input : (two : ℕ) → two ≡ slice_index_or link.arguments.items 1 two → two ≡ merges.two
    second_input two is = is ∙ ap (λ xs. slice_index_or xs 1 two) inputs_are

    pub first_within : (one : ℕ) → one ≡ slice_index_or link.arguments.items 0 one → one < node_count c.nodes
    first_within one is = subst (λ i. i < node_count c.nodes) (sym (first_input one is)) merges.one_below

    pub second_within : (two : ℕ) → two ≡ slice_index_or link.arguments.items 1 two → two < node_count c.nodes
    second_within two is = subst (λ i. i < node_count c.nodes) (sym (second_input two is)) merges.two_below

    module _ (one two : ℕ) (one_is : one ≡ slice_index_or link.arguments.items 0 one) (two_is : two ≡ slice_index_or link.arguments.items 1 two)
        (first_shape second_shape : Dimensions) (first_is : first_shape ≡ (outline_of_node c one).shape) (second_is : second_shape ≡ (outline_of_node c two).shape) where
      shape_first : (outline_of_node c merges.one).shape ≡ first_shape
      shape_first = sym (first_is ∙ ap (λ i. (outline_of_node c i).shape) (first_input one one_is))

      shape_second : (outline_of_node c merges.two).shape ≡ second_shape
      shape_second = sym (second_is ∙ ap (λ i. (outline_of_node c i).shape) (second_input two two_is))

      pub merged_here : (outline_of_node c index).shape ≡ shape_of_merge first_shape second_shape
      merged_here =
          merges.merged
          ∙ (ap (λ d. shape_of_merge d (outline_of_node c merges.two).shape) shape_first ∙ ap (shape_of_merge first_shape) shape_second)

      pub whole_here : (along : Kind) (b : Bool) → b ≡ differ_along along first_shape second_shape → whole_of_node c index along ≡ Some b
      whole_here along b e =
          whole_with c index (merge resolver) is along (first_shape ∷ second_shape ∷ []) b
          (merges.shapes_are
          ∙ (ap (λ d. Some (d ∷ (outline_of_node c merges.two).shape ∷ [])) shape_first ∙ ap (λ d. Some (first_shape ∷ d ∷ [])) shape_second))
          (sym e)
