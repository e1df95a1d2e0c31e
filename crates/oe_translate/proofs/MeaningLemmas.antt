-- Each node of a translated graph means what it means in the graph.
use Rattle.std.proofs.Common.{◌≡◌, ℕ, Bool, true, false, List, [], ◌∷◌, Option, Some, None, Contains, refl, sym, ap, ◌∙◌, subst, ℤ}
use Rattle.std.specs.Prelude.{All, slice_get, unwrap_or}
use Rattle.std.specs.Option.{option_and_then, option_map_or}
use Rattle.std.proofs.lemmas.List.Elements.{All-contains, All-map, All-weaker}
use Rattle.std.proofs.lemmas.Option.{get_or_from_slice_get, slice_get_within}
use Rattle.oe_cell.specs.Cells.{IsCell}
use Rattle.oe_cell.specs.Kinds.{IsNumeric}
use Rattle.oe_cell.specs.declared.cell.Cell.{Cell}
use Rattle.oe_cell.specs.declared.cell.Cell.TheVariants.{Empty}
use Rattle.oe_cube.specs.Collections.{IsCollection}
use Rattle.oe_cube.specs.Kinds.{IsOfKind}
use Rattle.oe_dims.specs.Cube.{Cube, IsCube, Tuple, at, row_major}
use Rattle.oe_dims.specs.Dimensions.{IsShape, number_labels}
use Rattle.oe_dims.specs.declared.dims.DimsRow.{DimsRow}
use Rattle.oe_dims.specs.declared.kind.CellKind.TheVariants.{Numbers}
use Rattle.oe_dims.specs.declared.kind.Kind.TheVariants.{Time}
use Rattle.oe_graph.specs.References.{references_named}
use Rattle.oe_graph.specs.Tree.{PlainNode}
use Rattle.oe_graph.proofs.ResolvedLemmas.{node_of_id}
use Rattle.oe_expr.specs.Nodes.{node_named}
use Rattle.oe_expr.specs.Scope as scope
use Rattle.oe_expr.proofs.NodeLemmas.{contains_node, node_is}
use Rattle.oe_periods.specs.declared.calendar.Period.{Period}
use Rattle.oe_meanings.specs.CellKinds.{HasCellsOfKind}
use Rattle.oe_check.specs.Checked.{CheckedGraph, AreFaultless}
use Rattle.oe_meanings.specs.Graphs.{Collections, NamedCollection, collection_row, no_datacube, collection_rows, meaning_at, outline_at, request_meaning}
use Rattle.oe_check.specs.Laws.{AreCollectionsOf}
use Rattle.oe_meanings.specs.Meaning.{Datacube, cell, operated, outline}
use Rattle.oe_requests.specs.Operations.{Outline, accumulate, aggregate, callback_under, interval_scope, merge}
use Rattle.oe_requests.specs.Periods.{period_intervals}
use Rattle.oe_requests.specs.Requests.{Called, CubeRequest, called, aggregate_temporal, aggregate_temporal_period, apply_dimension, cube_request_at, merge_cubes}
use Rattle.oe_meanings.specs.SoundNodes.{AreAcyclic, IsSoundNode}
use Rattle.oe_meanings.specs.Stands.{IsSound, sound}
use Rattle.oe_check.specs.Walked.{IsNodeOf}
use Rattle.oe_requests.specs.declared.extent.Interval.{Interval}
use Rattle.oe_meanings.proofs.GraphLemmas.{are_sound, unfold_at_nodes}
use Rattle.oe_check.proofs.LinkLemmas.{names_nodes, object}
use Rattle.oe_meanings.proofs.OutlineLemmas.{at_outlined}
use Rattle.oe_meanings.proofs.RequestLemmas.{meaning_looks_down}
use Rattle.oe_translate.specs.Laws.{HasRoomForSums, HaveValidShapes, KeepsMeanings, StaysAcyclic, SumCells}
use Rattle.oe_translate.specs.Translated.{ignores_at, is_of_periods, is_of_sums, labels_at, periods_at}
use Rattle.oe_translate.specs.Written.{aggregated_node, growing_intervals, merged_node, sum_name, sums_node}
use Rattle.oe_translate.proofs.OutlineLemmas.{data_has_t, data_numbers, merge_asks, period_asks, period_refers, sum_refers, sums_ask}
use Rattle.oe_translate.proofs.PartLemmas.{PeriodParts, SumParts, ignores_is, is_named, labels_are, of_periods, of_sums, periods_are}
use Rattle.oe_translate.proofs.SumLemmas.{merge_graph, sum_graph, sums, sums_same}
use Rattle.oe_translate.proofs.TranslationLemmas.{after, after_acyclic, one_named, one_of_other, one_of_periods, one_of_sums, sums_named}
use Rattle.oe_translate.proofs.ValueLemmas.{IsSummand}

-- the aggregation of one cube over these intervals, by a callback of the request
abbrev aggregated_by : List Interval → Called → Datacube → Datacube
aggregated_by intervals c d = operated (aggregate intervals (callback_under (interval_scope intervals (outline d)) c)) (d ∷ [])

-- the merge of two cubes by `add(x, multiply(y, 0))`
abbrev merged_by : Datacube → Datacube → Datacube
merged_by a b = operated (merge (Some (callback_under (scope.merge a.kind) (called merge_graph Empty)))) (a ∷ b ∷ [])

-- the cell of a tuple, which is null where the cube does not have it
summand_at : (cube : Cube Cell) → All IsCell cube.cells → All IsNumeric cube.cells → (tuple : Tuple) → IsSummand (cell cube tuple)
summand_at cube known numeric tuple = by (at cube tuple) refl
  where
    by : (o : Option Cell) → at cube tuple ≡ o → IsSummand (unwrap_or o Empty)
    by None e = record { cell = tt; numeric = tt }
    by (Some x) e = by_index (row_major cube.shape tuple) e
      where
        by_index : (k : Option ℕ) → option_and_then (slice_get cube.cells) k ≡ Some x → IsSummand x
        by_index None e = absurd cc
        by_index (Some k) e =
            let there : Contains cube.cells x = (k, slice_get_within cube.cells k x e, get_or_from_slice_get cube.cells k x x e) in
            record { cell = All-contains IsCell cube.cells x known there; numeric = All-contains IsNumeric cube.cells x numeric there }

abbrev by_periods : Period → Called → Datacube → Datacube
by_periods period c d = aggregated_by (period_intervals period (number_labels (outline d).shape Time)) c d

module _ (c : CheckedGraph) (f : AreFaultless c) (room : HasRoomForSums c.nodes) (collections : Collections)
    (has : AreCollectionsOf c collections) (cells : SumCells collections c.nodes) where
  abbrev before_at : List ℕ → Datacube
  before_at = meaning_at collections c.nodes

  abbrev after_at : List ℕ → Datacube
  after_at = meaning_at collections (after c f room)

  acyclic : AreAcyclic c.nodes
  acyclic = (object c.nodes f.resolved).acyclic

  -- a request of the node gives its meaning
  means_before : (n : PlainNode) → IsNodeOf c.nodes n → (r : CubeRequest) → cube_request_at n ≡ Some r
      → before_at n.id ≡ request_meaning collections before_at r
  means_before n n_in r asks =
      unfold_at_nodes.meaning collections c.nodes acyclic n.id n (is_named c f n n_in)
      ∙ ap (λ o. option_map_or (request_meaning collections before_at) o no_datacube) asks

  means_after : (name : List ℕ) (n : PlainNode) → node_named name (after c f room) ≡ Some n → (r : CubeRequest) → cube_request_at n ≡ Some r
      → after_at name ≡ request_meaning collections after_at r
  means_after name n named r asks =
      unfold_at_nodes.meaning collections (after c f room) (after_acyclic c f room) name n named
      ∙ ap (λ o. option_map_or (request_meaning collections after_at) o no_datacube) asks

  -- the shape and the kind of a cube are those that were found
  outlined : (name : List ℕ) → outline (before_at name) ≡ outline_at c.rows c.nodes name
  outlined name = at_outlined collections c.nodes name ∙ ap (λ (rows : List DimsRow). outline_at rows c.nodes name) has.rows_are

  -- the shapes of the collections are valid
  shapes : HaveValidShapes c.rows
  shapes =
      subst HaveValidShapes has.rows_are
      (All-map (λ (row : DimsRow). IsShape row.shape) collection_row collections
      (All-weaker (λ (k : NamedCollection). IsCollection k.1) (λ (k : NamedCollection). IsShape k.1.shape) (λ k is. is.valid) collections has.valid))

  -- ---- calendar periods

  of_periods_same : (n : PlainNode) (n_in : IsNodeOf c.nodes n) → is_of_periods n ≡ true → (p : PeriodParts n)
      → after_at p.cube ≡ before_at p.cube → after_at n.id ≡ before_at n.id
  of_periods_same n n_in is p data_same =
      let intervals = periods_at c.rows c.nodes n in
      let x = called p.graph p.context in
      let named : node_named n.id (after c f room) ≡ Some (aggregated_node intervals n) =
      one_named c f room n n_in ∙ ap Some (one_of_periods c.rows c.nodes n is) in
      let same : intervals ≡ period_intervals p.period (number_labels (outline (before_at p.cube)).shape Time) =
      periods_are c f n n_in p ∙ ap (λ (o : Outline). period_intervals p.period (number_labels o.shape Time)) (sym (outlined p.cube)) in
      means_after n.id (aggregated_node intervals n) named (aggregate_temporal p.cube intervals p.name x) (period_asks c f room shapes n n_in p)
      ∙ (ap (aggregated_by intervals x) data_same
      ∙ (ap (λ is. aggregated_by is x (before_at p.cube)) same
      ∙ sym (means_before n n_in (aggregate_temporal_period p.cube p.period p.name x) p.asks)))

  -- ---- the cube that a node works on

  referred_node : (n : PlainNode) → IsNodeOf c.nodes n → (id : List ℕ) → Contains (references_named n.arguments) id
      → (m : PlainNode) × IsNodeOf c.nodes m × (m.id ≡ id)
  referred_node n n_in id refers =
      let there = node_of_id c.nodes id (names_nodes c.nodes f.resolved n n_in id refers) in
      (there.node, contains_node c.nodes there.index there.node there.is_there, there.is_named)

  sound_rows : (m : PlainNode) → IsNodeOf c.nodes m → IsSoundNode (collection_rows collections) c.nodes m.id
  sound_rows m m_in = subst (λ (rows : List DimsRow). IsSoundNode rows c.nodes m.id) (sym has.rows_are) (f.sound_cells m m_in)

  -- ---- running sums

  module _ (n : PlainNode) (n_in : IsNodeOf c.nodes n) (p : SumParts n) where
    -- the data are numbers, and have t
    kind_is : (before_at p.cube).kind ≡ Numbers
    kind_is = ap (λ (o : Outline). o.kind) (outlined p.cube) ∙ data_numbers c f room shapes n n_in p

    t_is : (labels : List ℤ) × ((before_at p.cube).cube.shape.t ≡ Some labels)
    t_is =
        let there = data_has_t c f room shapes n n_in p in
        (there.0, ap (λ (o : Outline). o.shape.t) (outlined p.cube) ∙ there.1)

    of_sums_same : is_of_periods n ≡ false → is_of_sums n ≡ true → Contains (references_named n.arguments) p.cube
        → after_at p.cube ≡ before_at p.cube → after_at n.id ≡ before_at n.id
    of_sums_same not_periods is refers data_same =
        let m = referred_node n n_in p.cube refers in
        let d = before_at p.cube in
        let ignore = ignores_at n in
        let labels = labels_at c.rows c.nodes n in
        let node_sound = sound_rows m.0 m.1 in
        let valid : IsShape d.cube.shape = subst (λ id. IsShape (before_at id).cube.shape) m.2 (are_sound.shape collections c.nodes has.valid acyclic m.0.id node_sound) in
        let counted : IsCube d.cube = subst (λ id. IsCube (before_at id).cube) m.2 (are_sound.counted collections c.nodes has.valid acyclic m.0.id node_sound) in
        let kinds : HasCellsOfKind d = subst (λ id. HasCellsOfKind (before_at id)) m.2 (are_sound.cells collections c.nodes has.valid acyclic m.0.id node_sound) in
        let numeric : All IsNumeric d.cube.cells = subst (λ k. All (IsOfKind k) d.cube.cells) kind_is kinds in
        let summand : (tuple : Tuple) → IsSummand (cell d.cube tuple) = summand_at d.cube (cells.each n n_in is p.cube refers) numeric in
        let same : labels ≡ number_labels d.cube.shape Time =
        labels_are c f n n_in p.cube p.reads_cube ∙ ap (λ (o : Outline). number_labels o.shape Time) (sym (outlined p.cube)) in
        let growing = growing_intervals labels in
        let summing_by = called (sum_graph ignore) Empty in
        let merged_named : node_named n.id (after c f room) ≡ Some (merged_node n) =
        one_named c f room n n_in ∙ ap Some (one_of_sums c.rows c.nodes n not_periods is) in
        let summed : after_at (sum_name n.id) ≡ sums ignore d valid counted t_is.0 t_is.1 kind_is summand =
        means_after (sum_name n.id) (sums_node ignore labels n) (sums_named c f room n n_in not_periods is) (aggregate_temporal p.cube growing None summing_by)
        (sums_ask c f room shapes n n_in p)
        ∙ (ap (aggregated_by growing summing_by) data_same
        ∙ ap (λ ls. aggregated_by (growing_intervals ls) summing_by d) same) in
        means_after n.id (merged_node n) merged_named (merge_cubes (sum_name n.id) p.cube (Some (called merge_graph Empty))) (merge_asks c f room shapes n n_in p)
        ∙ (ap (λ one. merged_by one (after_at p.cube)) summed
        ∙ (ap (merged_by (sums ignore d valid counted t_is.0 t_is.1 kind_is summand)) data_same
        ∙ (sums_same ignore d valid counted t_is.0 t_is.1 kind_is summand
        ∙ (ap (λ b. operated (accumulate b) (d ∷ [])) (ignores_is c f n n_in p) ∙ sym (means_before n n_in (apply_dimension p.cube p.graph) p.asks)))))

  -- ---- each node

  node_same : (n : PlainNode) → IsNodeOf c.nodes n
      → ((id : List ℕ) → Contains (references_named n.arguments) id → after_at id ≡ before_at id) → after_at n.id ≡ before_at n.id
  node_same n n_in data_same = by (is_of_periods n) refl (is_of_sums n) refl
    where
      by : (p : Bool) → is_of_periods n ≡ p → (s : Bool) → is_of_sums n ≡ s → after_at n.id ≡ before_at n.id
      by true e s g =
          let p = of_periods c f n n_in e in
          of_periods_same n n_in e p (data_same p.cube (period_refers c f room shapes n n_in p))
      by false e true g =
          let p = of_sums c f n n_in g in
          let refers = sum_refers c f room shapes n n_in p in
          of_sums_same n n_in p e g refers (data_same p.cube refers)
      by false e false g =
          unfold_at_nodes.meaning collections (after c f room) (after_acyclic c f room) n.id n
          (one_named c f room n n_in ∙ ap Some (one_of_other c.rows c.nodes n e g))
          ∙ (meaning_looks_down collections n after_at before_at data_same
          ∙ sym (unfold_at_nodes.meaning collections c.nodes acyclic n.id n (is_named c f n n_in)))

  means_same : (name : List ℕ) → IsSound c.rows c.nodes name → after_at name ≡ before_at name
  means_same name (sound {n = n} named below none) =
      let there = node_is c.nodes name n named in
      subst (λ id. after_at id ≡ before_at id) there.1 (node_same n there.0 (λ id refers. means_same id (below id refers)))

pub keeps_meanings : KeepsMeanings
keeps_meanings = record { each = λ c f room collections has cells n n_in. means_same c f room collections has cells n.id (f.sound n n_in) }

pub stays_acyclic : StaysAcyclic
stays_acyclic = record { each = after_acyclic }
