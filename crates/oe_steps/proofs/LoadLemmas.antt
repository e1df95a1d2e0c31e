-- The nodes that load a collection: what they keep of it, and that they are live until all are loaded.
use Rattle.std.proofs.Common.{◌≡◌, inl, inr, ℕ, ◌<◌, ◌≤◌, List, [], ◌∷◌, length, map, Contains, Option, Some, None, is_some, true, false, refl, sym, ap, ◌∙◌, subst, arith}
use Rattle.oe_order.specs.Graph as order
use Rattle.oe_requests.specs.Requests as request
use Rattle.std.specs.Option.{option_and_then, option_map_or}
use Rattle.std.proofs.lemmas.Bool.{cases_lt, false_from_ne_true, true≢false}
use Rattle.std.proofs.lemmas.List.{get_or_default}
use Rattle.oe_expr.proofs.NodeLemmas.{contains_node, id_at_is}
use Rattle.oe_graph.proofs.ResolvedLemmas.{SomeNode, node_below}
use Rattle.oe_graph.specs.Printed.{node_count}
use Rattle.oe_order.specs.Graph.{IsInRun, Reaches, refers, onwards}
use Rattle.oe_order.specs.Live.{is_live}
use Rattle.oe_plan.proofs.RunLemmas.{only_step}
use Rattle.oe_plan.proofs.ScheduleLemmas.{none_taken_along}
use Rattle.oe_plan.specs.Schedules.{is_load_at, node_at, links_along, ScheduleOf, IsSchedule}
use Rattle.oe_plan.specs.Steps.{arguments_of_node}
use Rattle.oe_check.proofs.CheckedLemmas.{refer}
use Rattle.oe_meanings.proofs.GraphLemmas.{unfold_at_nodes}
use Rattle.oe_check.proofs.LinkLemmas.{links_arguments, named_at, object}
use Rattle.oe_check.proofs.LoadLemmas.{loads_where}
use Rattle.oe_meanings.proofs.RequestLemmas.{found}
use Rattle.oe_check.specs.Checked.{AreFaultless, CheckedGraph, collection_of_node, operation_of_node, outline_of_node}
use Rattle.oe_requests.specs.Extents.{Restriction}
use Rattle.oe_meanings.specs.Graphs.{request_inputs, operation_at, outline_at, outline_named, request_outline}
use Rattle.oe_check.specs.Links.{links_of, loaded_collection, index_referred, loaded_by}
use Rattle.oe_requests.specs.Operations.{keep, no_outline, operation_of, outline_of}
use Rattle.oe_requests.specs.Requests.{CubeRequest, cube_ids, cube_request_at}
use Rattle.oe_steps.proofs.ScheduleLemmas.{node_within}
use Rattle.oe_steps.specs.Steps.{loads_at, EachLive, EachLoad}

-- a request that loads a collection asks for its labels
pub loading : (r : CubeRequest) (id : List ℕ) → loaded_by r ≡ Some id
    → (n : Restriction) × (r ≡ request.load_collection id n.box n.time n.bands)
loading (request.load_collection name box time bands) id e = (record { box = box; time = time; bands = bands }, cc)
loading (request.filter_bbox data_id box) id e = absurd cc
loading (request.filter_temporal data_id time name) id e = absurd cc
loading (request.filter_bands data_id bands) id e = absurd cc
loading (request.apply data_id callback) id e = absurd cc
loading (request.apply_kernel data_id kernel factor border replace) id e = absurd cc
loading (request.reduce_dimension data_id name callback) id e = absurd cc
loading (request.aggregate_temporal data_id intervals name callback) id e = absurd cc
loading (request.aggregate_temporal_period data_id period name callback) id e = absurd cc
loading (request.apply_dimension data_id callback) id e = absurd cc
loading (request.merge_cubes one two resolver) id e = absurd cc
loading (request.mask data_id mask_id replacement) id e = absurd cc
loading (request.save_result data_id format) id e = absurd cc

-- the node keeps labels of the collection of an id
pub record LoadsBy (c : CheckedGraph) (node : ℕ) (id : List ℕ) : Type 0 where
  pub r : Restriction
  pub operates : operation_of_node c node ≡ Some (keep r)
  pub outline_is : outline_of_node c node ≡ outline_of (keep r) (outline_named c.rows id ∷ [])
  pub takes_none : arguments_of_node c node ≡ []

module _ (c : CheckedGraph) (f : AreFaultless c) (index : ℕ) (below : index < node_count c.nodes) (id : List ℕ)
    (is : collection_of_node c index ≡ Some id) where
  there : SomeNode c.nodes index
  there = node_below c.nodes index below

  outline_by : (r : CubeRequest) → cube_request_at there.node ≡ Some r
      → outline_of_node c index ≡ request_outline c.rows (outline_at c.rows c.nodes) r
  outline_by r asks =
      let at = outline_at c.rows c.nodes in
      ap at (id_at_is c.nodes index there.node there.is_there)
      ∙ (unfold_at_nodes.outline c.rows c.nodes (object c.nodes f.resolved).acyclic there.node.id there.node
      (named_at c.nodes f.resolved index there.node there.is_there)
      ∙ ap (λ o. option_map_or (request_outline c.rows at) o no_outline) asks)

  operation_by : (r : CubeRequest) → cube_request_at there.node ≡ Some r
      → operation_of_node c index ≡ operation_of r (request_inputs (outline_named c.rows) (outline_at c.rows c.nodes) r)
  operation_by r asks =
      ap (option_and_then (operation_at c.rows c.nodes)) there.is_there
      ∙ ap (option_and_then (λ r. operation_of r (request_inputs (outline_named c.rows) (outline_at c.rows c.nodes) r))) asks

  arguments_by : (r : CubeRequest) → cube_request_at there.node ≡ Some r → arguments_of_node c index ≡ map (index_referred c.nodes) (cube_ids r)
  arguments_by r asks =
      links_arguments c.nodes index there.node there.is_there
      ∙ ap (map (index_referred c.nodes)) (refer c.nodes f.resolved there.node (contains_node c.nodes index there.node there.is_there) r asks)

  by : (r : CubeRequest) → cube_request_at there.node ≡ Some r → loaded_by r ≡ Some id → LoadsBy c index id
  by r asks loads =
      let n = loading r id loads in
      let kept : Restriction = record { box = n.0.box; time = n.0.time; bands = n.0.bands } in
      let q : CubeRequest = request.load_collection id n.0.box n.0.time n.0.bands in
      let here : cube_request_at there.node ≡ Some q = asks ∙ ap Some n.1 in
      record {
        r = kept;
        operates = operation_by q here;
        outline_is = outline_by q here;
        takes_none = arguments_by q here;
      }

  pub loads_by : LoadsBy c index id
  loads_by =
      let at = sym (ap (option_and_then loaded_collection) there.is_there) ∙ is in
      let r = found loaded_by (cube_request_at there.node) id at in
      by r.0 r.1 r.2

-- ---- loads are live until all are loaded

some_id : (o : Option (List ℕ)) → true ≡ is_some o → (id : List ℕ) × (o ≡ Some id)
some_id None e = absurd cc
some_id (Some id) e = (id, refl)

none_contains : (xs : List ℕ) (x : ℕ) → xs ≡ [] → Contains xs x → ⊥
none_contains [] x e has = let below = has.1 in absurd (omega arith)
none_contains (y ∷ xs) x e has = absurd cc

-- who takes a node that is reached
last_user : (nodes : List order.Node) (last n : ℕ) → Reaches nodes last n
    → (u : ℕ) × IsInRun nodes last u × Contains (order.arguments nodes u) n
last_user nodes last n (refers has) = (last, inl refl, has)
last_user nodes last n (onwards {b = b} has rest) =
    let later = last_user nodes b n rest in (
      later.0,
      elim later.1 [
        | inl here ↦ inr (subst (Reaches nodes last) (sym here) (refers has))
        | inr more ↦ inr (onwards has more)
      ],
      later.2,
    )

module _ (graph : CheckedGraph) (schedule : ScheduleOf) (is : IsSchedule graph schedule) where
  -- a node that loads has a collection
  pub id_of_load : (step : ℕ) → step < length schedule.order.steps → loads_at graph schedule step ≡ true
      → (id : List ℕ) × (collection_of_node graph (node_at schedule step) ≡ Some id)
  id_of_load step within loads =
      some_id (collection_of_node graph (node_at schedule step))
      (sym loads ∙ loads_where graph is.faultless (node_at schedule step) (node_within graph schedule is step within))

  -- a step that is no load, but whose cube is given, takes none either
  takes_no_cube : (step : ℕ) → step < length schedule.order.steps → is_load_at graph schedule step ≡ true
      → order.arguments (links_along graph schedule) (node_at schedule step) ≡ []
  takes_no_cube step within counts =
      none_taken_along (links_of graph.nodes) schedule.given (node_at schedule step)
      (λ loads.
      let id = id_of_load step within loads in
      (loads_by graph is.faultless (node_at schedule step) (node_within graph schedule is step within) id.0 id.1).takes_none)
      counts

  pub load_live : (count : ℕ) → ((step : ℕ) → step < count → is_load_at graph schedule step ≡ true) → (step : ℕ) → step < length schedule.order.steps
      → step < count → is_live (links_along graph schedule) schedule.last schedule.order.steps count step ≡ true
  load_live count loads step within before =
      let here = get_or_default schedule.order.steps step (node_at schedule step) 0 within in
      elim ((is.listing.members (node_at schedule step)).0 (step, within, here)) [
        | inl last ↦ is.evaluation.result_live count step (omega arith) last
        | inr reached ↦
            let user = last_user (links_along graph schedule) schedule.last (node_at schedule step) reached in
            let stands = (is.listing.members user.0).1 user.1 in
            let below : stands.0 < length schedule.order.steps = stands.1 in
            let same : node_at schedule stands.0 ≡ user.0 = get_or_default schedule.order.steps stands.0 0 user.0 below ∙ stands.2 in
            let takes : Contains (order.arguments (links_along graph schedule) (node_at schedule stands.0)) (node_at schedule step) =
            subst (λ u. Contains (order.arguments (links_along graph schedule) u) (node_at schedule step)) (sym same) user.2 in
            let works : is_load_at graph schedule stands.0 ≡ false =
            false_from_ne_true (is_load_at graph schedule stands.0) (λ l. none_contains _ _ (takes_no_cube stands.0 below l) takes) in
            let late : count ≤ stands.0 =
            elim (cases_lt stands.0 count) [
              | inl lt ↦ absurd (true≢false (sym (loads stands.0 lt) ∙ works))
              | inr ge ↦ ge
            ] in
            let held = is.evaluation.arguments_held stands.0 (node_at schedule step) below works takes in
            let earlier = held.earlier in
            let at : held.at ≡ step = only_step schedule.order.steps is.listing.once held.at step (omega arith) within held.is in
            is.evaluation.live_since count stands.0 step (omega arith) late
            (subst (λ i. is_live (links_along graph schedule) schedule.last schedule.order.steps stands.0 i ≡ true) at held.live)
      ]

  -- what holds of each live step after the loads holds of each load
  pub each_loaded : (Holds : ℕ → Type 0) (count : ℕ) → ((step : ℕ) → step < count → is_load_at graph schedule step ≡ true)
      → ((step : ℕ) → count ≤ step → step < length schedule.order.steps → is_load_at graph schedule step ≡ false)
      → EachLive graph schedule count Holds → EachLoad graph schedule Holds
  each_loaded Holds count loads works each step within is_load = elim (cases_lt step count) [
    | inl lt ↦ each step lt (load_live count loads step within lt)
    | inr ge ↦ absurd (true≢false (sym is_load ∙ works step ge within))
  ]
