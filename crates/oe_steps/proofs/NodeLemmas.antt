-- What the nodes of a graph without a fault work on: their operations, on the outlines of the nodes that they refer to.
use Rattle.std.proofs.Common.{◌≡◌, ℕ, ◌<◌, List, [], length, map, Contains, Option, Some, None, sym, ap, ◌∙◌, subst, arith}
use Rattle.oe_requests.specs.Requests as request
use Rattle.std.specs.Option.{option_and_then, option_map, option_map_or}
use Rattle.std.proofs.lemmas.List.{length-map}
use Rattle.oe_dims.specs.declared.kind.Kind.{Kind}
use Rattle.oe_expr.proofs.NodeLemmas.{id_at_is, contains_node}
use Rattle.oe_expr.specs.Callback.{Callback}
use Rattle.oe_expr.specs.Nodes.{node_named, id_at}
use Rattle.oe_graph.proofs.ResolvedLemmas.{SomeNode, node_below}
use Rattle.oe_graph.specs.Printed.{node_count}
use Rattle.oe_graph.specs.References.{references_named}
use Rattle.oe_plan.specs.Steps.{arguments_of_node}
use Rattle.oe_check.proofs.CheckedLemmas.{map_twice, no_load, refer}
use Rattle.oe_meanings.proofs.GraphLemmas.{unfold_at_nodes}
use Rattle.oe_check.proofs.LinkLemmas.{object, named_at, referred, index_is, links_arguments}
use Rattle.oe_meanings.proofs.RequestLemmas.{found}
use Rattle.oe_meanings.specs.CellKinds.{IsSoundOn}
use Rattle.oe_check.specs.Checked.{CheckedGraph, AreFaultless, operation_of_node, collection_of_node, outline_of_node}
use Rattle.oe_meanings.specs.Graphs.{outline_named, outline_at, request_outline, operation_at}
use Rattle.oe_check.specs.Links.{index_referred, loaded_by, loaded_collection}
use Rattle.oe_requests.specs.Operations.{Operation, keep, each_cell, convolve, reduce, aggregate, accumulate, merge, cover, give_back, Outline, callback_under, dimension_named, first_or, no_outline, operation_of, outline_of, reduction_scope}
use Rattle.oe_requests.specs.Requests.{CubeRequest, cube_ids, cube_request_at}
use Rattle.oe_meanings.specs.SoundNodes.{AreAcyclic, IsSoundNode, sound_node, IsSoundOperation, input_outlines}

-- how many cubes an operation works on
abbrev pub cube_count : Operation → ℕ
cube_count (keep r) = 1
cube_count (each_cell c) = 1
cube_count (convolve kernel factor border replace) = 1
cube_count (reduce kind c) = 1
cube_count (aggregate intervals c) = 1
cube_count (accumulate ignore) = 1
cube_count (merge resolver) = 2
cube_count (cover replacement) = 2
cube_count give_back = 1

-- the operation of a node on the nodes that it refers to has no fault, and gives its outline
pub record WorksOn (c : CheckedGraph) (node : ℕ) (operation : Operation) : Type 0 where
  pub sound : IsSoundOn operation (map (outline_of_node c) (arguments_of_node c node))
  pub outline_is : outline_of_node c node ≡ outline_of operation (map (outline_of_node c) (arguments_of_node c node))
  pub as_many : length (arguments_of_node c node) ≡ cube_count operation

same_count : (a b : Operation) → Some a ≡ Some b → cube_count a ≡ cube_count b
same_count a b e = let is : a ≡ b = cc in ap cube_count is

reduction_count : (f : Kind → Callback) (o : Option Kind) (operation : Operation)
    → option_map (λ kind. reduce kind (f kind)) o ≡ Some operation → 1 ≡ cube_count operation
reduction_count f None operation e = absurd cc
reduction_count f (Some kind) operation e = same_count (reduce kind (f kind)) operation e

-- of which there are as many as its operation works on
count_of : (r : CubeRequest) (cubes : List Outline) (operation : Operation) → loaded_by r ≡ None
    → operation_of r cubes ≡ Some operation → length (cube_ids r) ≡ cube_count operation
count_of (request.load_collection id box time bands) cubes operation none e = absurd cc
count_of (request.filter_bbox data_id box) cubes operation none e = same_count _ operation e
count_of (request.filter_temporal data_id time name) cubes operation none e = same_count _ operation e
count_of (request.filter_bands data_id bands) cubes operation none e = same_count _ operation e
count_of (request.apply data_id c) cubes operation none e = same_count _ operation e
count_of (request.apply_kernel data_id kernel factor border replace) cubes operation none e = same_count _ operation e
count_of (request.reduce_dimension data_id name c) cubes operation none e =
    reduction_count (λ kind. callback_under (reduction_scope kind (first_or no_outline cubes)) c) (dimension_named name) operation e
count_of (request.aggregate_temporal data_id intervals name c) cubes operation none e = same_count _ operation e
count_of (request.aggregate_temporal_period data_id period name c) cubes operation none e = same_count _ operation e
count_of (request.apply_dimension data_id callback) cubes operation none e = same_count _ operation e
count_of (request.merge_cubes one two resolver) cubes operation none e = same_count _ operation e
count_of (request.mask data_id mask_id replacement) cubes operation none e = same_count _ operation e
count_of (request.save_result data_id format) cubes operation none e = same_count _ operation e

module _ (c : CheckedGraph) (f : AreFaultless c) (index : ℕ) (below : index < node_count c.nodes) where
  there : SomeNode c.nodes index
  there = node_below c.nodes index below

  named : node_named there.node.id c.nodes ≡ Some there.node
  named = named_at c.nodes f.resolved index there.node there.is_there

  acyclic_here : AreAcyclic c.nodes
  acyclic_here = (object c.nodes f.resolved).acyclic

  -- the outline of a node that is referred to, by its index
  by_index : (name : List ℕ) → Contains (references_named there.node.arguments) name
      → outline_of_node c (index_referred c.nodes name) ≡ outline_at c.rows c.nodes name
  by_index name refers =
      let to = referred c.nodes f.resolved index there.node name there.is_there refers in
      let at = index_is c.nodes f.resolved name to in
      ap (λ i. outline_at c.rows c.nodes (id_at i c.nodes)) at
      ∙ ap (outline_at c.rows c.nodes) (id_at_is c.nodes to.index to.node to.is_there ∙ to.is_named)

  module _ (operation : Operation) (is : operation_of_node c index ≡ Some operation) (none : collection_of_node c index ≡ None) where
    record IsAsked : Type 0 where
      pub r : CubeRequest
      pub asks : cube_request_at there.node ≡ Some r
      pub operates : operation_of r (input_outlines c.rows c.nodes r) ≡ Some operation

    asked : IsAsked
    asked =
        let at = sym (ap (option_and_then (operation_at c.rows c.nodes)) there.is_there) ∙ is in
        let r = found _ (cube_request_at there.node) operation at in
        record { r = r.0; asks = r.1; operates = r.2 }

    loads_none : loaded_by asked.r ≡ None
    loads_none =
        sym (ap (option_and_then loaded_collection) there.is_there ∙ ap (option_and_then loaded_by) asked.asks) ∙ none

    references : references_named there.node.arguments ≡ cube_ids asked.r
    references = refer c.nodes f.resolved there.node (contains_node c.nodes index there.node there.is_there) asked.r asked.asks

    arguments_are : arguments_of_node c index ≡ map (index_referred c.nodes) (references_named there.node.arguments)
    arguments_are = links_arguments c.nodes index there.node there.is_there

    outlines_are : input_outlines c.rows c.nodes asked.r ≡ map (outline_of_node c) (arguments_of_node c index)
    outlines_are =
        no_load (outline_named c.rows) (outline_at c.rows c.nodes) asked.r loads_none
        ∙ (ap (map (outline_at c.rows c.nodes)) (sym references)
        ∙ (sym (map_twice (outline_of_node c) (index_referred c.nodes) (outline_at c.rows c.nodes) (references_named there.node.arguments) by_index)
        ∙ ap (map (outline_of_node c)) (sym arguments_are)))

    sound_by : (name : List ℕ) → node_named name c.nodes ≡ Some there.node → IsSoundNode c.rows c.nodes name
        → IsSoundOperation operation (input_outlines c.rows c.nodes asked.r)
    sound_by name is_named (sound_node {n = m} given lower operates) =
        let same : m ≡ there.node = cc in
        operates asked.r operation (ap cube_request_at same ∙ asked.asks) asked.operates

    outline_here : outline_of_node c index ≡ outline_of operation (input_outlines c.rows c.nodes asked.r)
    outline_here =
        let at = outline_at c.rows c.nodes in
        ap at (id_at_is c.nodes index there.node there.is_there)
        ∙ (unfold_at_nodes.outline c.rows c.nodes acyclic_here there.node.id there.node named
        ∙ (ap (λ o. option_map_or (request_outline c.rows at) o no_outline) asked.asks
        ∙ ap (λ o. option_map_or (λ operation. outline_of operation (input_outlines c.rows c.nodes asked.r)) o no_outline) asked.operates))

    pub works_on : WorksOn c index operation
    works_on = record {
      sound = subst (IsSoundOn operation) outlines_are
          (sound_by there.node.id named (f.sound_cells there.node (contains_node c.nodes index there.node there.is_there))).kinds;
      outline_is = outline_here ∙ ap (outline_of operation) outlines_are;
      as_many =
          ap length arguments_are ∙ length-map (references_named there.node.arguments) (index_referred c.nodes)
          ∙ ap length references ∙ count_of asked.r (input_outlines c.rows c.nodes asked.r) operation loads_none asked.operates;
    }
