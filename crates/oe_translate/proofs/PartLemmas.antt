-- What a node of calendar periods or of running sums asks for in a graph without a fault, by its arguments.
use Rattle.std.proofs.Common.{◌≡◌, ℕ, ◌<◌, ◌||◌, Bool, true, false, List, [], Option, Some, None, Contains, refl, sym, ap, ◌∙◌, subst, true≢false}
use Rattle.std.specs.Prelude.{codes}
use Rattle.std.specs.Option.{option_and_then, option_map_or}
use Rattle.oe_cell.specs.declared.cell.Cell.{Cell}
use Rattle.oe_dims.specs.Dimensions.{number_labels}
use Rattle.oe_dims.specs.declared.kind.Kind.TheVariants.{Time}
use Rattle.oe_dims.proofs.OrderLemmas.{same_name_is}
use Rattle.oe_graph.specs.Printed.{node_count}
use Rattle.oe_graph.specs.References.{references_named}
use Rattle.oe_graph.specs.Tree.{PlainGraph, PlainNode}
use Rattle.oe_graph.specs.declared.code.Code.TheVariants.{ProcessParameterInvalid}
use Rattle.oe_graph.proofs.ResolvedLemmas.{node_of_id}
use Rattle.oe_expr.specs.Callback.{Callback}
use Rattle.oe_expr.specs.Nodes.{node_named, id_at}
use Rattle.oe_expr.specs.Requests.{is_null, passes, read}
use Rattle.oe_expr.proofs.NodeLemmas.{id_at_is, index_of_node}
use Rattle.oe_periods.specs.declared.calendar.Period.{Period}
use Rattle.oe_check.specs.Checked.{CheckedGraph, AreFaultless, outline_of_node}
use Rattle.oe_meanings.specs.Graphs.{outline_at, outline_named, request_inputs, operation_at}
use Rattle.oe_check.specs.Links.{index_named}
use Rattle.oe_requests.specs.Operations.{aggregate, accumulate, operation_of, callback_under, interval_scope}
use Rattle.oe_requests.specs.Parameters.{callback_in, cube_in, is_time_name, literal_in, null_or, period_in, text_in}
use Rattle.oe_requests.specs.Periods.{period_intervals}
use Rattle.oe_requests.specs.Requests.{CubeRequest, Called, called, called_in, aggregate_temporal_period, apply_dimension, cube_process_named, cube_request_at, cube_request_of}
use Rattle.oe_requests.specs.RunningSums.{ignores_nulls}
use Rattle.oe_meanings.specs.Stands.{IsSound, sound, HasNoFault, asks_for_nothing}
use Rattle.oe_check.specs.Walked.{IsNodeOf}
use Rattle.oe_requests.specs.declared.process.CubeProcess.TheVariants.{AggregateTemporalPeriod, ApplyDimension}
use Rattle.oe_check.proofs.LinkLemmas.{index_of, names_nodes, named_at}
use Rattle.oe_meanings.proofs.RequestLemmas.{both_found, found, of_node_request, passed}
use Rattle.oe_translate.specs.Translated.{ignores_at, is_of_either, is_of_periods, is_of_sums, labels_at, periods_at}

-- ---- what is read of the arguments

pub record PeriodParts (n : PlainNode) : Type 0 where
  pub cube : List ℕ
  pub period : Period
  pub name : Option (List ℕ)
  pub graph : PlainGraph
  pub context : Cell
  pub reads_cube : read cube_in (codes "data") n.arguments ≡ Some cube
  pub reads_period : read period_in (codes "period") n.arguments ≡ Some period
  pub reads_name : read (null_or text_in) (codes "dimension") n.arguments ≡ Some name
  pub reads_graph : read callback_in (codes "reducer") n.arguments ≡ Some graph
  pub reads_context : read literal_in (codes "context") n.arguments ≡ Some context
  pub asks : cube_request_at n ≡ Some (aggregate_temporal_period cube period name (called graph context))

pub record SumParts (n : PlainNode) : Type 0 where
  pub cube : List ℕ
  pub graph : PlainGraph
  pub reads_cube : read cube_in (codes "data") n.arguments ≡ Some cube
  pub reads_graph : read callback_in (codes "process") n.arguments ≡ Some graph
  pub asks : cube_request_at n ≡ Some (apply_dimension cube graph)

pub period_parts : (n : PlainNode) → is_of_periods n ≡ true → (r : CubeRequest) → cube_request_at n ≡ Some r → PeriodParts n
period_parts n is r asks =
    let same : codes "aggregate_temporal_period" ≡ n.process_id = same_name_is n.process_id (codes "aggregate_temporal_period") is in
    let process : cube_process_named n.process_id ≡ Some AggregateTemporalPeriod = ap cube_process_named (sym same) in
    let e : cube_request_of AggregateTemporalPeriod n.arguments ≡ Some r =
    sym (ap (option_and_then (λ p. cube_request_of p n.arguments)) process) ∙ asks in
    let d = found _ (read cube_in (codes "data") n.arguments) r e in
    let p = found _ (read period_in (codes "period") n.arguments) r d.2 in
    let b = both_found (aggregate_temporal_period d.0 p.0) (read (null_or text_in) (codes "dimension") n.arguments) (called_in (codes "reducer") n.arguments) r p.2 in
    let c = both_found called (read callback_in (codes "reducer") n.arguments) (read literal_in (codes "context") n.arguments) b.1 b.3 in
    record {
      cube = d.0;
      period = p.0;
      name = b.0;
      graph = c.0;
      context = c.1;
      reads_cube = d.1;
      reads_period = p.1;
      reads_name = b.2;
      reads_graph = c.2;
      reads_context = c.3;
      asks = asks ∙ (ap Some (sym b.4) ∙ ap (λ (x : Called). Some (aggregate_temporal_period d.0 p.0 b.0 x)) (sym c.4));
    }

pub sum_parts : (n : PlainNode) → is_of_sums n ≡ true → (r : CubeRequest) → cube_request_at n ≡ Some r → SumParts n
sum_parts n is r asks =
    let same : codes "apply_dimension" ≡ n.process_id = same_name_is n.process_id (codes "apply_dimension") is in
    let process : cube_process_named n.process_id ≡ Some ApplyDimension = ap cube_process_named (sym same) in
    let e : cube_request_of ApplyDimension n.arguments ≡ Some r =
    sym (ap (option_and_then (λ p. cube_request_of p n.arguments)) process) ∙ asks in
    let t = passed (passes is_time_name (codes "dimension") n.arguments) _ r e in
    let u = passed (passes is_null (codes "target_dimension") n.arguments) _ r t in
    let c = found _ (read literal_in (codes "context") n.arguments) r u in
    let b = both_found apply_dimension (read cube_in (codes "data") n.arguments) (read callback_in (codes "process") n.arguments) r c.2 in
    record { cube = b.0; graph = b.1; reads_cube = b.2; reads_graph = b.3; asks = asks ∙ ap Some (sym b.4) }

-- ---- in a graph without a fault

module _ (c : CheckedGraph) (f : AreFaultless c) (n : PlainNode) (has : IsNodeOf c.nodes n) where
  pub is_named : node_named n.id c.nodes ≡ Some n
  is_named = let at = index_of_node c.nodes n has in named_at c.nodes f.resolved at.0 n at.1

  pub no_fault : HasNoFault c.rows (outline_at c.rows c.nodes) n
  no_fault = by n.id (f.sound n has) is_named
    where
      by : (name : List ℕ) → IsSound c.rows c.nodes name → node_named name c.nodes ≡ Some n → HasNoFault c.rows (outline_at c.rows c.nodes) n
      by name (sound {n = m} named below none) is =
          let same : m ≡ n = cc in
          subst (λ (x : PlainNode). HasNoFault c.rows (outline_at c.rows c.nodes) x) same none

  -- each node asks for something
  pub asks_for : (r : CubeRequest) × (cube_request_at n ≡ Some r)
  asks_for = by (cube_request_at n) refl
    where
      by : (o : Option CubeRequest) → cube_request_at n ≡ o → (r : CubeRequest) × (cube_request_at n ≡ Some r)
      by None is = absurd (no_fault ProcessParameterInvalid n.id (asks_for_nothing is))
      by (Some r) is = (r, is)

  pub of_periods : is_of_periods n ≡ true → PeriodParts n
  of_periods is = period_parts n is asks_for.0 asks_for.1

  pub of_sums : is_of_sums n ≡ true → SumParts n
  of_sums is = sum_parts n is asks_for.0 asks_for.1

  -- ---- its operation

  pub labels_are : (id : List ℕ) → read cube_in (codes "data") n.arguments ≡ Some id
      → labels_at c.rows c.nodes n ≡ number_labels (outline_at c.rows c.nodes id).shape Time
  labels_are id reads = ap (λ o. option_map_or (λ other. number_labels (outline_at c.rows c.nodes other).shape Time) o []) reads

  pub periods_are : (p : PeriodParts n)
      → periods_at c.rows c.nodes n ≡ period_intervals p.period (number_labels (outline_at c.rows c.nodes p.cube).shape Time)
  periods_are p =
      ap (λ o. option_map_or (λ period. period_intervals period (labels_at c.rows c.nodes n)) o []) p.reads_period
      ∙ ap (period_intervals p.period) (labels_are p.cube p.reads_cube)

  pub ignores_is : (p : SumParts n) → ignores_at n ≡ ignores_nulls p.graph
  ignores_is p = ap (λ o. option_map_or ignores_nulls o false) p.reads_graph

  pub period_operation : is_of_periods n ≡ true
      → (callback : Callback) × (operation_at c.rows c.nodes n ≡ Some (aggregate (periods_at c.rows c.nodes n) callback))
  period_operation is =
      let p = of_periods is in
      let intervals = period_intervals p.period (number_labels (outline_at c.rows c.nodes p.cube).shape Time) in
      let callback = callback_under (interval_scope intervals (outline_at c.rows c.nodes p.cube)) (called p.graph p.context) in (
        callback,
        ap (option_and_then (λ r. operation_of r (request_inputs (outline_named c.rows) (outline_at c.rows c.nodes) r))) p.asks
            ∙ ap (λ is. Some (aggregate is callback)) (sym (periods_are p)),
      )

  pub sum_operation : is_of_sums n ≡ true → operation_at c.rows c.nodes n ≡ Some (accumulate (ignores_at n))
  sum_operation is =
      let p = of_sums is in
      ap (option_and_then (λ r. operation_of r (request_inputs (outline_named c.rows) (outline_at c.rows c.nodes) r))) p.asks
      ∙ ap (λ ignore. Some (accumulate ignore)) (sym (ignores_is p))

  -- ---- the node whose cube it works on

  pub record DataAt : Type 0 where
    pub id : List ℕ
    pub index : ℕ
    pub reads : read cube_in (codes "data") n.arguments ≡ Some id
    pub refers : Contains (references_named n.arguments) id
    pub is_named : index_named c.nodes id ≡ Some index
    pub below : index < node_count c.nodes
    pub labels : number_labels (outline_of_node c index).shape Time ≡ labels_at c.rows c.nodes n

  at_id : (id : List ℕ) → read cube_in (codes "data") n.arguments ≡ Some id → Contains (references_named n.arguments) id → DataAt
  at_id id reads refers =
      let there = node_of_id c.nodes id (names_nodes c.nodes f.resolved n has id refers) in
      let at : id_at there.index c.nodes ≡ id = id_at_is c.nodes there.index there.node there.is_there ∙ there.is_named in
      record {
        id = id;
        index = there.index;
        reads = reads;
        refers = refers;
        is_named = ap (index_named c.nodes) (sym there.is_named) ∙ index_of c.nodes f.resolved there.index there.node there.is_there;
        below = there.below;
        labels = ap (λ name. number_labels (outline_at c.rows c.nodes name).shape Time) at ∙ sym (labels_are id reads);
      }

  either_of : (a b : Bool) → (a || b) ≡ true → b ≡ false → a ≡ true
  either_of true b h e = refl
  either_of false b h e = absurd (true≢false (sym h ∙ e))

  pub data_at : is_of_either n ≡ true → DataAt
  data_at is = by (is_of_sums n) refl
    where
      by : (b : Bool) → is_of_sums n ≡ b → DataAt
      by true e =
          let p = of_sums e in
          at_id p.cube p.reads_cube (of_node_request (Contains (references_named n.arguments)) n (apply_dimension p.cube p.graph) p.asks (λ id h. h)).0
      by false e =
          let p = of_periods (either_of (is_of_periods n) (is_of_sums n) is e) in
          at_id p.cube p.reads_cube
          (of_node_request (Contains (references_named n.arguments)) n (aggregate_temporal_period p.cube p.period p.name (called p.graph p.context)) p.asks (λ id h. h)).0
