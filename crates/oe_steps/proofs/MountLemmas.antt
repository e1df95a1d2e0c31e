-- What a check has seen of the collections that a graph loads holds of the catalogue that it was checked over.
use Rattle.std.proofs.Common.{◌≡◌, ℕ, suc, ◌+◌, ◌<◌, true, cond, if◌then◌else◌, is_none, List, [], ◌∷◌, length, get_or, drop, Option, Some, None, refl, sym, ap, ◌∙◌, inl, inr, arith}
use Rattle.std.proofs.lemmas.Bool.{cases_Bool}
use Rattle.std.proofs.lemmas.Option.{same_Some, slice_get_within}
use Rattle.std.specs.Prelude.{slice_get}
use Rattle.std.specs.List.{find}
use Rattle.std.specs.Option.{option_and_then, option_map, option_map_or}
use Rattle.oe_dims.specs.Names.{same_name}
use Rattle.oe_dims.specs.declared.dims.DimsRow.{DimsRow}
use Rattle.oe_graph.specs.Printed.{node_count}
use Rattle.oe_graph.specs.References.{each_node}
use Rattle.oe_graph.specs.declared.code.Code.TheVariants.{CollectionNotFound}
use Rattle.oe_graph.proofs.ResolvedLemmas.{SomeNode, node_below}
use Rattle.oe_graph.proofs.SearchLemmas.{each_count}
use Rattle.oe_expr.specs.Rows.{first_row}
use Rattle.oe_expr.proofs.NodeLemmas.{contains_node}
use Rattle.oe_check.specs.Checked.{AreFaultless, CheckedGraph, collection_of_node}
use Rattle.oe_meanings.specs.Graphs.{outline_at, outline_named, row_outline}
use Rattle.oe_check.specs.Links.{loaded_collection, loaded_by}
use Rattle.oe_requests.specs.Operations.{Outline, no_outline}
use Rattle.oe_requests.specs.Requests as request
use Rattle.oe_requests.specs.Requests.{CubeRequest, cube_request_at}
use Rattle.oe_meanings.specs.Stands.{IsSound, cubes_of, early, early_rows, sound}
use Rattle.oe_check.proofs.LinkLemmas.{one_node}
use Rattle.oe_meanings.proofs.RequestLemmas.{found}
use Rattle.oe_sources.specs.Catalogue.{Row, row_index, row_of, source_at}
use Rattle.oe_sources.specs.CatalogueDims.{AreDimsOf, dims_row}
use Rattle.oe_plan.specs.Figures.{steps_of}
use Rattle.oe_steps.proofs.LoadLemmas.{loading}
use Rattle.oe_steps.specs.Collections.{HasCollections, IsMountedAt}
use Rattle.oe_steps.specs.Laws.{AreMounted}

-- the row of an id, by its index
pub record IsRowAt (rows : List Row) (id : List ℕ) (row : Row) : Type 0 where
  pub index : ℕ
  pub index_is : row_index rows id ≡ Some index
  pub within : index < length rows
  pub row_is : source_at rows index ≡ row.source

row_at : (rows : List Row) (id : List ℕ) (row : Row) → row_of rows id ≡ Some row → IsRowAt rows id row
row_at [] id row e = absurd cc
row_at (first ∷ rows) id row e = elim (cases_Bool (same_name first.id id)) [
  | inl t ↦
      let same : first ≡ row = same_Some first row (rw t at e) in
      record {
        index = 0;
        index_is = ap (λ b. cond b (Some 0) (option_map (λ n. n + 1) (row_index rows id))) t;
        within = omega arith;
        row_is = ap (λ (r : Row). r.source) same;
      }
  | inr f ↦
      let rest = row_at rows id row (rw f at e) in
      let below = rest.within in
      let more : rest.index + 1 ≡ suc rest.index = omega arith in
      record {
        index = suc rest.index;
        index_is = ap (λ b. cond b (Some 0) (option_map (λ n. n + 1) (row_index rows id))) f
            ∙ (ap (option_map (λ n. n + 1)) rest.index_is ∙ ap Some more);
        within = omega arith;
        row_is = rest.row_is;
      }
]

-- a collection whose row a check has seen is mounted so
pub mounted_so : (c : CheckedGraph) (rows : List Row) → AreDimsOf rows c.rows → (id : List ℕ) (seen : DimsRow)
    → find (λ (row : DimsRow). same_name row.id id) c.rows ≡ Some seen → (index : ℕ) × IsMountedAt c rows id index
mounted_so c rows are id seen here = by (row_of rows id) refl
  where
    by : (o : Option Row) → row_of rows id ≡ o → (index : ℕ) × IsMountedAt c rows id index
    by None e =
        let wrong : None ≡ Some seen = sym (ap (option_map dims_row) e) ∙ (sym (are id) ∙ here) in
        absurd cc
    by (Some row) e =
        let at = row_at rows id row e in
        let found : find (λ (row : DimsRow). same_name row.id id) c.rows ≡ Some (dims_row row) = are id ∙ ap (option_map dims_row) e in
        let outline : outline_named c.rows id ≡ row_outline (dims_row row) = ap (λ o. option_map_or row_outline o no_outline) found in (
          at.index,
          record {
            index_is = at.index_is;
            within = at.within;
            shape_is = ap (λ s. s.shape) at.row_is ∙ sym (ap (λ (o : Outline). o.shape) outline);
            kind_is = ap (λ s. s.kind) at.row_is ∙ sym (ap (λ (o : Outline). o.kind) outline);
          },
        )

-- of a graph without a fault each collection that a node loads was among those of the check
module _ (c : CheckedGraph) (f : AreFaultless c) (index : ℕ) (below : index < node_count c.nodes) (id : List ℕ)
    (is : collection_of_node c index ≡ Some id) where
  there : SomeNode c.nodes index
  there = node_below c.nodes index below

  missing : (r : CubeRequest) → cube_request_at there.node ≡ Some r → loaded_by r ≡ Some id
      → find (λ (row : DimsRow). same_name row.id id) c.rows ≡ None → IsSound c.rows c.nodes there.node.id → ⊥
  missing r asks loads none (sound {n = m} named refs clean) =
      let n = loading r id loads in
      let q : CubeRequest = request.load_collection id n.0.box n.0.time n.0.bands in
      let at = outline_at c.rows c.nodes in
      let same : there.node ≡ m = one_node c.nodes f.resolved there.node index m there.is_there named in
      let lacks : is_none (find (λ (row : DimsRow). same_name row.id id) c.rows) ≡ true = ap is_none none in
      let first : first_row (early_rows c.rows q (cubes_of c.rows at q)) ≡ Some CollectionNotFound =
      ap (λ b. if b then Some CollectionNotFound else first_row (drop 1 (early_rows c.rows q (cubes_of c.rows at q)))) lacks in
      clean CollectionNotFound m.id (early (ap cube_request_at (sym same) ∙ (asks ∙ ap Some n.1)) first)

  pub seen_row : (seen : DimsRow) × (find (λ (row : DimsRow). same_name row.id id) c.rows ≡ Some seen)
  seen_row = by (find (λ (row : DimsRow). same_name row.id id) c.rows) refl
    where
      by : (o : Option DimsRow) → find (λ (row : DimsRow). same_name row.id id) c.rows ≡ o
          → (seen : DimsRow) × (find (λ (row : DimsRow). same_name row.id id) c.rows ≡ Some seen)
      by None e =
          let r = found loaded_by (cube_request_at there.node) id (sym (ap (option_and_then loaded_collection) there.is_there) ∙ is) in
          absurd (missing r.0 r.1 r.2 e (f.sound there.node (contains_node c.nodes index there.node there.is_there)))
      by (Some row) e = (row, e)

-- a node that loads a collection is one of the graph
loads_within : (c : CheckedGraph) (node : ℕ) (id : List ℕ) → collection_of_node c node ≡ Some id → node < node_count c.nodes
loads_within c node id is =
    let n = found loaded_collection (slice_get (each_node c.nodes) node) id is in
    let below = slice_get_within (each_node c.nodes) node n.0 n.1 in
    omega (arith, below, each_count c.nodes)

-- A graph that was checked over the rows of a catalogue has its collections mounted there.
pub has_collections : (c : CheckedGraph) → AreFaultless c → (rows : List Row) → AreDimsOf rows c.rows → HasCollections c rows
has_collections c f rows are step id loaded =
    let node = get_or (steps_of c) step 0 in
    let row = seen_row c f node (loads_within c node id loaded.loads) id loaded.loads in
    mounted_so c rows are id row.0 row.1

pub are_mounted : AreMounted
are_mounted c rows f are = has_collections c f rows are
