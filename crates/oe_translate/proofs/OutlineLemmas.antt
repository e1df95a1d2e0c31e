-- Each node has in the translated graph the shape and the kind that it has in the graph.
use Rattle.std.proofs.Common.{◌≡◌, ℕ, ℤ, zero, suc, Bool, true, false, List, [], ◌∷◌, map, replicate, Option, Some, None, Contains, refl, sym, ap, ◌∙◌, subst, true≢false}
use Rattle.std.specs.Prelude.{All, codes, is_none}
use Rattle.std.specs.List.{AllByRecursion, list_all}
use Rattle.std.specs.Option.{option_and_then, option_map_or}
use Rattle.std.proofs.lemmas.List.{length-replicate}
use Rattle.std.proofs.lemmas.List.Elements.{All-nil, All-cons, recursion_from_All}
use Rattle.oe_cell.specs.declared.cell.Cell.TheVariants.{Empty}
use Rattle.oe_cube.specs.Collections.{IsCollection}
use Rattle.oe_cube.specs.Kinds.{is_null_or_of}
use Rattle.oe_dims.specs.Dimensions.{Dimensions, IsShape, cell_count, number_labels}
use Rattle.oe_dims.specs.Instant.{IsInstant}
use Rattle.oe_dims.specs.Plain.{plain_instants}
use Rattle.oe_dims.specs.declared.dims.DimsRow.{DimsRow}
use Rattle.oe_dims.specs.declared.kind.CellKind.{CellKind}
use Rattle.oe_dims.specs.declared.kind.CellKind.TheVariants.{Numbers, Flags}
use Rattle.oe_dims.specs.declared.kind.Kind.TheVariants.{Time}
use Rattle.oe_graph.specs.References.{references_named}
use Rattle.oe_graph.specs.Tree as tree
use Rattle.oe_graph.specs.Tree.{PlainNode}
use Rattle.oe_graph.specs.declared.code.Code.TheVariants.{CellKindInvalid, DimensionNotAvailable, ProcessParameterInvalid}
use Rattle.oe_graph.specs.Form.{callback_name, node_name}
use Rattle.oe_graph.proofs.ResolvedLemmas.{node_of_id}
use Rattle.oe_expr.specs.Callback.{callback_kind, callback_of}
use Rattle.oe_expr.specs.Nodes.{node_named}
use Rattle.oe_expr.specs.Requests.{with_both}
use Rattle.oe_expr.specs.Rows.{first_row}
use Rattle.oe_expr.specs.Scope as scope
use Rattle.oe_expr.specs.Scope.{PlainScope}
use Rattle.oe_expr.proofs.NodeLemmas.{contains_node, node_is}
use Rattle.oe_check.specs.Checked.{CheckedGraph, AreFaultless}
use Rattle.oe_check.specs.Walked.{IsNodeOf}
use Rattle.oe_check.proofs.LinkLemmas.{names_nodes, object}
use Rattle.oe_meanings.specs.Graphs.{Collections, NamedCollection, collection_rows, outline_at, request_outline}
use Rattle.oe_meanings.specs.Rows.{cell_kind_invalid}
use Rattle.oe_meanings.specs.SoundNodes.{AreAcyclic, AreCollections, IsSoundNode}
use Rattle.oe_meanings.specs.Stands.{HasFaultlessCallback, IsSound, Passes, cubes_of, early, early_rows, in_sums, of_kind, sound}
use Rattle.oe_meanings.proofs.GraphLemmas.{are_sound, unfold_at_nodes}
use Rattle.oe_meanings.proofs.OutlineLemmas.{at_outlined}
use Rattle.oe_meanings.proofs.PeriodLemmas.{shape_instants}
use Rattle.oe_meanings.proofs.RequestLemmas.{of_node_request, outline_looks_down}
use Rattle.oe_requests.specs.Extents.{part_in_time}
use Rattle.oe_requests.specs.Operations.{Outline, aggregate, callback_under, interval_scope, merge, no_outline, outline_of}
use Rattle.oe_requests.specs.Parameters.{callback_in, cube_in, literal_in, null_or, text_in}
use Rattle.oe_requests.specs.Requests.{Called, CubeRequest, called, aggregate_temporal, aggregate_temporal_period, apply_dimension, cube_request_at, merge_cubes}
use Rattle.oe_requests.specs.RunningSums.{AreSums}
use Rattle.oe_requests.specs.declared.extent.Interval.{Interval}
use Rattle.oe_translate.specs.Laws.{HasRoomForSums, HaveValidShapes}
use Rattle.oe_translate.specs.Translated.{ignores_at, is_of_periods, is_of_sums, labels_at, periods_at}
use Rattle.oe_translate.specs.Written.{IsWritable, aggregated_node, given, growing_intervals, merged_node, sum_callback, sum_name, sums_node}
use Rattle.oe_translate.proofs.IntervalLemmas.{growing_writable, periods_writable}
use Rattle.oe_translate.proofs.PartLemmas.{PeriodParts, SumParts, is_named, labels_are, no_fault, of_periods, of_sums, periods_are}
use Rattle.oe_translate.proofs.ReadLemmas.{aggregate_read, read_given}
use Rattle.oe_translate.proofs.SumLemmas.{growing_shape, merge_graph, merged_itself, sum_graph, sum_kind}
use Rattle.oe_translate.proofs.TranslationLemmas.{after, after_acyclic, one_named, one_of_other, one_of_periods, one_of_sums, sums_named}

-- ---- shapes

-- collections of these shapes and kinds, all of whose cells are null
abbrev null_collection : DimsRow → NamedCollection
null_collection row = (row.id, record { shape = row.shape; cells = replicate (cell_count row.shape) Empty; kind = row.kind })

null_rows : (rows : List DimsRow) → collection_rows (map null_collection rows) ≡ rows
null_rows [] = refl
null_rows (row ∷ rows) = ap (λ rest. row ∷ rest) (null_rows rows)

all_null : (kind : CellKind) (count : ℕ) → list_all (is_null_or_of kind) (replicate count Empty) ≡ true
all_null kind zero = refl
all_null kind (suc count) = all_null kind count

null_valid : (rows : List DimsRow) → AllByRecursion (λ (row : DimsRow). IsShape row.shape) rows → AreCollections (map null_collection rows)
null_valid [] valid = All-nil (λ (k : NamedCollection). IsCollection k.1)
null_valid (row ∷ rows) valid =
    All-cons (λ (k : NamedCollection). IsCollection k.1) (null_collection row) (map null_collection rows)
    (record { valid = valid.0; counted = length-replicate (cell_count row.shape) Empty; of_kind = all_null row.kind (cell_count row.shape) })
    (null_valid rows valid.1)

-- ---- outlines of what is written

-- of the aggregation of one cube over intervals, and of the merge of two
abbrev pub aggregated_outline : List Interval → Called → Outline → Outline
aggregated_outline intervals x o = outline_of (aggregate intervals (callback_under (interval_scope intervals o) x)) (o ∷ [])

abbrev pub merged_outline : Outline → Outline → Outline
merged_outline a b = outline_of (merge (Some (callback_under (scope.merge a.kind) (called merge_graph Empty)))) (a ∷ b ∷ [])

sums_outline : (ignore : Bool) (o : Outline) → IsShape o.shape → (labels : List ℤ) → o.shape.t ≡ Some labels → o.kind ≡ Numbers
    → aggregated_outline (growing_intervals (number_labels o.shape Time)) (called (sum_graph ignore) Empty) o ≡ o
sums_outline ignore o valid labels has_t numbers =
    let intervals = growing_intervals (number_labels o.shape Time) in
    let kind_of : PlainScope → CellKind = λ s. callback_kind (callback_of (sum_graph ignore) s Empty) in
    let kind_is : kind_of (interval_scope intervals o) ≡ o.kind =
    ap (λ k. kind_of (interval_scope intervals (record { shape = o.shape; kind = k }))) numbers
    ∙ (sum_kind ignore (plain_instants (number_labels o.shape Time)) (map (λ (i : Interval). part_in_time i.extent (number_labels o.shape Time)) intervals)
    ∙ sym numbers) in
    ap (λ (s : Dimensions). record { shape = s; kind = kind_of (interval_scope intervals o) }) (growing_shape o.shape valid labels has_t)
    ∙ ap (λ (k : CellKind). record { shape = o.shape; kind = k }) kind_is

-- a cube merged with one of its own outline
same_merged : (o : Outline) → IsShape o.shape → merged_outline o o ≡ o
same_merged o valid = ap (λ (s : Dimensions). record { shape = s; kind = o.kind }) (merged_itself o.shape valid)

module _ (c : CheckedGraph) (f : AreFaultless c) (room : HasRoomForSums c.nodes) (shapes : HaveValidShapes c.rows) where
  abbrev pub before_at : List ℕ → Outline
  before_at = outline_at c.rows c.nodes

  abbrev pub after_at : List ℕ → Outline
  after_at = outline_at c.rows (after c f room)

  acyclic : AreAcyclic c.nodes
  acyclic = (object c.nodes f.resolved).acyclic

  -- a request of the node gives its outline
  found_before : (n : PlainNode) → IsNodeOf c.nodes n → (r : CubeRequest) → cube_request_at n ≡ Some r
      → before_at n.id ≡ request_outline c.rows before_at r
  found_before n n_in r asks =
      unfold_at_nodes.outline c.rows c.nodes acyclic n.id n (is_named c f n n_in)
      ∙ ap (λ o. option_map_or (request_outline c.rows before_at) o no_outline) asks

  found_after : (name : List ℕ) (n : PlainNode) → node_named name (after c f room) ≡ Some n → (r : CubeRequest) → cube_request_at n ≡ Some r
      → after_at name ≡ request_outline c.rows after_at r
  found_after name n named r asks =
      unfold_at_nodes.outline c.rows (after c f room) (after_acyclic c f room) name n named
      ∙ ap (λ o. option_map_or (request_outline c.rows after_at) o no_outline) asks

  -- each cube has a valid shape
  shape_valid : (m : PlainNode) → IsNodeOf c.nodes m → IsShape (before_at m.id).shape
  shape_valid m m_in =
      let collections : Collections = map null_collection c.rows in
      let rows_are = null_rows c.rows in
      let valid : AreCollections collections = null_valid c.rows (recursion_from_All (λ (row : DimsRow). IsShape row.shape) c.rows shapes) in
      let node_sound : IsSoundNode (collection_rows collections) c.nodes m.id =
      subst (λ (rows : List DimsRow). IsSoundNode rows c.nodes m.id) (sym rows_are) (f.sound_cells m m_in) in
      subst (λ (o : Outline). IsShape o.shape)
      (at_outlined collections c.nodes m.id ∙ ap (λ (rows : List DimsRow). outline_at rows c.nodes m.id) rows_are)
      (are_sound.shape collections c.nodes valid acyclic m.id node_sound)

  -- also that of what a node refers to
  pub data_valid : (n : PlainNode) → IsNodeOf c.nodes n → (id : List ℕ) → Contains (references_named n.arguments) id → IsShape (before_at id).shape
  data_valid n n_in id refers =
      let there = node_of_id c.nodes id (names_nodes c.nodes f.resolved n n_in id refers) in
      subst (λ name. IsShape (before_at name).shape) there.is_named (shape_valid there.node (contains_node c.nodes there.index there.node there.is_there))

  -- ---- calendar periods

  module _ (n : PlainNode) (n_in : IsNodeOf c.nodes n) (p : PeriodParts n) where
    abbrev pub period_request : CubeRequest
    period_request = aggregate_temporal_period p.cube p.period p.name (called p.graph p.context)

    pub period_refers : Contains (references_named n.arguments) p.cube
    period_refers = (of_node_request (Contains (references_named n.arguments)) n period_request p.asks (λ id h. h)).0

    instants : All IsInstant (number_labels (before_at p.cube).shape Time)
    instants = shape_instants (before_at p.cube).shape (data_valid n n_in p.cube period_refers)

    abbrev pub written_request : CubeRequest
    written_request = aggregate_temporal p.cube (periods_at c.rows c.nodes n) p.name (called p.graph p.context)

    -- what the aggregation over them asks for
    pub period_asks : cube_request_at (aggregated_node (periods_at c.rows c.nodes n) n) ≡ Some written_request
    period_asks =
        let intervals = periods_at c.rows c.nodes n in
        let writable : All IsWritable intervals =
        subst (All IsWritable) (sym (periods_are c f n n_in p)) (periods_writable p.period (number_labels (before_at p.cube).shape Time) instants) in
        aggregate_read (given (codes "context") n.arguments) (given (codes "data") n.arguments) (given (codes "dimension") n.arguments)
        (given (codes "reducer") n.arguments) intervals writable n.id (codes "aggregate_temporal") n.namespace p.cube p.name p.graph p.context refl
        (read_given cube_in (codes "data") n.arguments p.cube p.reads_cube)
        (read_given (null_or text_in) (codes "dimension") n.arguments p.name p.reads_name)
        (read_given callback_in (codes "reducer") n.arguments p.graph p.reads_graph)
        (read_given literal_in (codes "context") n.arguments p.context p.reads_context)

    periods_same : is_of_periods n ≡ true → after_at p.cube ≡ before_at p.cube → after_at n.id ≡ before_at n.id
    periods_same is data_same =
        let intervals = periods_at c.rows c.nodes n in
        let x = called p.graph p.context in
        let named : node_named n.id (after c f room) ≡ Some (aggregated_node intervals n) =
        one_named c f room n n_in ∙ ap Some (one_of_periods c.rows c.nodes n is) in
        found_after n.id (aggregated_node intervals n) named written_request period_asks
        ∙ (ap (aggregated_outline intervals x) data_same
        ∙ (ap (λ is. aggregated_outline is x (before_at p.cube)) (periods_are c f n n_in p)
        ∙ sym (found_before n n_in period_request p.asks)))

  -- ---- running sums

  module _ (n : PlainNode) (n_in : IsNodeOf c.nodes n) (p : SumParts n) where
    abbrev pub data_at : Outline
    data_at = before_at p.cube

    abbrev pub sum_request : CubeRequest
    sum_request = apply_dimension p.cube p.graph

    abbrev sum_cubes : List Outline
    sum_cubes = cubes_of c.rows before_at sum_request

    pub sum_refers : Contains (references_named n.arguments) p.cube
    sum_refers = (of_node_request (Contains (references_named n.arguments)) n sum_request p.asks (λ id h. h)).0

    pub sum_data_valid : IsShape data_at.shape
    sum_data_valid = data_valid n n_in p.cube sum_refers

    -- the data have t
    not_lacking : (b : Bool) → is_none data_at.shape.t ≡ b → b ≡ false
    not_lacking false e = refl
    not_lacking true e =
        let first : first_row (early_rows c.rows sum_request sum_cubes) ≡ Some DimensionNotAvailable = rw e refl in
        absurd (no_fault c f n n_in DimensionNotAvailable n.id (early p.asks first))

    pub lacks_not : is_none data_at.shape.t ≡ false
    lacks_not = let b = not_lacking (is_none data_at.shape.t) refl in b

    pub passes_sums : Passes c.rows before_at n sum_request
    passes_sums = record { asks = p.asks; none_holds = rw lacks_not refl }

    faultless_sums : HasFaultlessCallback c.rows before_at sum_request
    faultless_sums = (tt, none_in_sums)
      where
        none_in_sums : AreSums p.graph
        none_in_sums id code name s =
            no_fault c f n n_in ProcessParameterInvalid (node_name (callback_name n.id (codes "process")) s.node.id)
            (in_sums passes_sums refl (record { node = s.node; is_node = s.is_node; stands = s.stands; code_is = refl; name_is = refl }))

    -- and they are numbers
    is_of_numbers : (k : CellKind) → data_at.kind ≡ k → k ≡ Numbers
    is_of_numbers Numbers e = refl
    is_of_numbers Flags e =
        let invalid : cell_kind_invalid sum_request sum_cubes ≡ true = rw e refl in
        absurd (no_fault c f n n_in CellKindInvalid n.id (of_kind passes_sums faultless_sums invalid))

    pub data_numbers : data_at.kind ≡ Numbers
    data_numbers = is_of_numbers data_at.kind refl

    t_there : (o : Option (List ℤ)) → is_none o ≡ false → (labels : List ℤ) × (o ≡ Some labels)
    t_there None e = absurd (true≢false e)
    t_there (Some labels) e = (labels, refl)

    pub data_has_t : (labels : List ℤ) × (data_at.shape.t ≡ Some labels)
    data_has_t = t_there data_at.shape.t lacks_not

    abbrev pub growing : List Interval
    growing = growing_intervals (labels_at c.rows c.nodes n)

    pub labels_same : labels_at c.rows c.nodes n ≡ number_labels data_at.shape Time
    labels_same = labels_are c f n n_in p.cube p.reads_cube

    abbrev pub summing_by : Called
    summing_by = called (sum_graph (ignores_at n)) Empty

    abbrev pub sums_request : CubeRequest
    sums_request = aggregate_temporal p.cube growing None summing_by

    abbrev pub merge_request : CubeRequest
    merge_request = merge_cubes (sum_name n.id) p.cube (Some (called merge_graph Empty))

    reads : cube_in (given (codes "data") n.arguments) ≡ Some p.cube
    reads = read_given cube_in (codes "data") n.arguments p.cube p.reads_cube

    -- what both nodes ask for that it becomes
    pub sums_ask : cube_request_at (sums_node (ignores_at n) (labels_at c.rows c.nodes n) n) ≡ Some sums_request
    sums_ask =
        let writable : All IsWritable growing =
        growing_writable (labels_at c.rows c.nodes n) (subst (All IsInstant) (sym labels_same) (shape_instants data_at.shape sum_data_valid)) in
        aggregate_read tree.null (given (codes "data") n.arguments) tree.null (sum_callback (ignores_at n)) growing writable
        (sum_name n.id) (codes "aggregate_temporal") n.namespace p.cube None (sum_graph (ignores_at n)) Empty refl reads refl refl refl

    pub merge_asks : cube_request_at (merged_node n) ≡ Some merge_request
    merge_asks = ap (λ o. option_and_then (λ one. with_both (merge_cubes one) o (Some (Some (called merge_graph Empty)))) (Some (sum_name n.id))) reads

    -- the sums, and their merge, have the outline of the data
    pub sums_are : is_of_periods n ≡ false → is_of_sums n ≡ true → after_at p.cube ≡ data_at → after_at (sum_name n.id) ≡ data_at
    sums_are periods is data_same =
        found_after (sum_name n.id) (sums_node (ignores_at n) (labels_at c.rows c.nodes n) n) (sums_named c f room n n_in periods is) sums_request sums_ask
        ∙ (ap (aggregated_outline growing summing_by) data_same
        ∙ (ap (λ ls. aggregated_outline (growing_intervals ls) summing_by data_at) labels_same
        ∙ sums_outline (ignores_at n) data_at sum_data_valid data_has_t.0 data_has_t.1 data_numbers))

    sums_same : is_of_periods n ≡ false → is_of_sums n ≡ true → after_at p.cube ≡ data_at → after_at n.id ≡ before_at n.id
    sums_same periods is data_same =
        let named : node_named n.id (after c f room) ≡ Some (merged_node n) =
        one_named c f room n n_in ∙ ap Some (one_of_sums c.rows c.nodes n periods is) in
        found_after n.id (merged_node n) named merge_request merge_asks
        ∙ (ap (λ o. merged_outline o (after_at p.cube)) (sums_are periods is data_same)
        ∙ (ap (merged_outline data_at) data_same
        ∙ (same_merged data_at sum_data_valid ∙ sym (found_before n n_in sum_request p.asks))))

  -- ---- each node

  node_same : (n : PlainNode) → IsNodeOf c.nodes n
      → ((id : List ℕ) → Contains (references_named n.arguments) id → after_at id ≡ before_at id) → after_at n.id ≡ before_at n.id
  node_same n n_in data_same = by (is_of_periods n) refl (is_of_sums n) refl
    where
      by : (p : Bool) → is_of_periods n ≡ p → (s : Bool) → is_of_sums n ≡ s → after_at n.id ≡ before_at n.id
      by true e s g =
          let p = of_periods c f n n_in e in periods_same n n_in p e (data_same p.cube (period_refers n n_in p))
      by false e true g =
          let p = of_sums c f n n_in g in sums_same n n_in p e g (data_same p.cube (sum_refers n n_in p))
      by false e false g =
          unfold_at_nodes.outline c.rows (after c f room) (after_acyclic c f room) n.id n
          (one_named c f room n n_in ∙ ap Some (one_of_other c.rows c.nodes n e g))
          ∙ (outline_looks_down c.rows n after_at before_at data_same
          ∙ sym (unfold_at_nodes.outline c.rows c.nodes acyclic n.id n (is_named c f n n_in)))

  outlines_same : (name : List ℕ) → IsSound c.rows c.nodes name → after_at name ≡ before_at name
  outlines_same name (sound {n = n} named below none) =
      let there = node_is c.nodes name n named in
      subst (λ id. after_at id ≡ before_at id) there.1 (node_same n there.0 (λ id refers. outlines_same id (below id refers)))

  -- what a node refers to has the same outline in both
  pub refers_same : (n : PlainNode) → IsNodeOf c.nodes n → (id : List ℕ) → Contains (references_named n.arguments) id → after_at id ≡ before_at id
  refers_same n n_in id refers =
      let there = node_of_id c.nodes id (names_nodes c.nodes f.resolved n n_in id refers) in
      let m_in = contains_node c.nodes there.index there.node there.is_there in
      subst (λ name. after_at name ≡ before_at name) there.is_named (outlines_same there.node.id (f.sound there.node m_in))
