-- The collections of a catalogue, as the graphs that were checked over it have them.
use Rattle.std.proofs.Common.{◌≡◌, ℕ, zero, suc, ◌<◌, true, false, List, [], ◌∷◌, length, map, get_or, replicate, unwrap_or, Option, Some, None, IfSome, IsSome, inl, inr, refl, sym, ap, ◌∙◌, subst, true≢false, arith}
use Rattle.std.specs.List.{All, find, list_all, slice_get}
use Rattle.std.specs.Option.{option_and_then, option_map, option_map_or}
use Rattle.std.proofs.Math.Path.{fun_ext}
use Rattle.std.proofs.lemmas.Bool.{and_parts, cases_Bool, false_from_ne_true}
use Rattle.std.proofs.lemmas.List.{length-replicate}
use Rattle.std.proofs.lemmas.List.Elements.{All-map}
use Rattle.std.proofs.lemmas.Option.{same_Some}
use Rattle.oe_cell.specs.declared.cell.Cell.TheVariants.{Empty}
use Rattle.oe_cube.specs.Collections.{Collection, IsCollection}
use Rattle.oe_cube.specs.Kinds.{is_null_or_of}
use Rattle.oe_dims.specs.Dimensions.{Dimensions, cell_count}
use Rattle.oe_dims.specs.Names.{is_name_before, names_rise, same_name}
use Rattle.oe_dims.specs.declared.dims.DimsRow.{DimsRow}
use Rattle.oe_dims.specs.declared.kind.CellKind.{CellKind}
use Rattle.oe_dims.specs.declared.kind.CellKind.TheVariants.{Numbers, Flags}
use Rattle.oe_dims.proofs.OrderLemmas.{same_name_is, same_name_refl}
use Rattle.oe_dims.proofs.NameOrderLemmas.{before_trans, not_before_itself}
use Rattle.oe_expr.specs.Nodes.{down_from, id_at}
use Rattle.oe_graph.specs.Tree.{PlainNode}
use Rattle.oe_check.specs.Checked.{CheckedGraph}
use Rattle.oe_meanings.specs.Graphs as graph
use Rattle.oe_meanings.specs.Graphs.{Collections, NamedCollection, collection_named, datacube_of, request_inputs, no_datacube}
use Rattle.oe_check.specs.Laws.{meaning_of_node}
use Rattle.oe_meanings.specs.Meaning.{Datacube, operated, outline}
use Rattle.oe_requests.specs.Operations.{Operation, operation_of}
use Rattle.oe_requests.specs.Requests.{CubeRequest, cube_request_at}
use Rattle.oe_sources.specs.Catalogue.{Row, collections_shown, row_of, source_at}
use Rattle.oe_sources.specs.CatalogueDims.{AreDimsOf, dims_of, dims_row}
use Rattle.oe_sources.specs.Source.{Contents, Source, collection_of, collection_with}
use Rattle.oe_sources.proofs.CatalogueLemmas.{find-map, find_at_index}
use Rattle.oe_engine.specs.Laws.{AreVisible, GivesCollections, HasValid, collection_at, collection_named_by, collections_of, null_collection}

-- ---- ids that rise

abbrev ids : List DimsRow → List (List ℕ)
ids rows = map (λ (row : DimsRow). row.id) rows

rest_rises : (a : List ℕ) (rows : List DimsRow) → names_rise (a ∷ ids rows) ≡ true → names_rise (ids rows) ≡ true
rest_rises a [] rise = refl
rest_rises a (row ∷ rows) rise = (and_parts (is_name_before a row.id) (names_rise (ids (row ∷ rows))) rise).1

before_later : (a : List ℕ) (rows : List DimsRow) (k : ℕ) (d : DimsRow) → names_rise (a ∷ ids rows) ≡ true → k < length rows
    → is_name_before a (get_or rows k d).id ≡ true
before_later a [] k d rise h = absurd (omega arith)
before_later a (row ∷ rows) zero d rise h = (and_parts (is_name_before a row.id) (names_rise (ids (row ∷ rows))) rise).0
before_later a (row ∷ rows) (suc k) d rise h =
    let parts = and_parts (is_name_before a row.id) (names_rise (ids (row ∷ rows))) rise in
    before_trans a row.id (get_or rows k d).id parts.0 (before_later row.id rows k d parts.1 (omega arith))

-- a row is the one of its id
find_row : (rows : List DimsRow) (k : ℕ) (d : DimsRow) → names_rise (ids rows) ≡ true → k < length rows
    → find (λ (row : DimsRow). same_name row.id (get_or rows k d).id) rows ≡ Some (get_or rows k d)
find_row [] k d rise h = absurd (omega arith)
find_row (row ∷ rows) zero d rise h = rw (same_name_refl row.id) refl
find_row (row ∷ rows) (suc k) d rise h =
    let before = before_later row.id rows k d rise (omega arith) in
    let other : same_name row.id (get_or rows k d).id ≡ false = false_from_ne_true (same_name row.id (get_or rows k d).id) (λ same.
    (let is : (get_or rows k d).id ≡ row.id = same_name_is row.id (get_or rows k d).id same in
    true≢false (sym (subst (λ name. is_name_before row.id name ≡ true) is before) ∙ not_before_itself row.id))) in
    rw other (find_row rows k d (rest_rises row.id rows rise) (omega arith))

-- ---- the row of an id

find_same : (rows : List Row) (id : List ℕ) (row : Row) → row_of rows id ≡ Some row → id ≡ row.id
find_same [] id row e = absurd cc
find_same (first ∷ rows) id row e = elim (cases_Bool (same_name first.id id)) [
  | inl t ↦
      let same : first ≡ row = same_Some first row (rw t at e) in
      same_name_is first.id id t ∙ ap (λ (r : Row). r.id) same
  | inr f ↦ find_same rows id row (rw f at e)
]

source_here : (rows : List Row) (index : ℕ) (row : Row) → slice_get rows index ≡ Some row → source_at rows index ≡ row.source
source_here [] index row e = absurd cc
source_here (first ∷ rows) zero row e = let same : first ≡ row = same_Some first row e in ap (λ (r : Row). r.source) same
source_here (first ∷ rows) (suc index) row e = source_here rows index row e

some_at : (rows : List Row) (index : ℕ) → index < length rows → (row : Row) × (slice_get rows index ≡ Some row)
some_at [] index h = absurd (omega arith)
some_at (row ∷ rows) zero h = (row, refl)
some_at (row ∷ rows) (suc index) h = some_at rows index (omega arith)

-- what is found at an index is the visible collection of the id
pub valid_at : (rows : List Row) (index : ℕ) (id : List ℕ) → slice_get rows index ≡ row_of rows id
    → IfSome (collection_of (source_at rows index)) IsCollection → IfSome (collection_at rows id) IsCollection
valid_at rows index id found valid = by (row_of rows id) refl
  where
    by : (o : Option Row) → row_of rows id ≡ o → IfSome (option_and_then (λ (row : Row). collection_of row.source) (row_of rows id)) IsCollection
    by None e = subst (λ (o : Option Row). IfSome (option_and_then (λ (row : Row). collection_of row.source) o) IsCollection) (sym e) tt
    by (Some row) e =
        subst (λ (o : Option Row). IfSome (option_and_then (λ (row : Row). collection_of row.source) o) IsCollection) (sym e)
        (subst (λ (s : Source). IfSome (collection_of s) IsCollection) (source_here rows index row (found ∙ e)) valid)

pub valid_nowhere : (rows : List Row) (id : List ℕ) → row_of rows id ≡ None → IfSome (collection_at rows id) IsCollection
valid_nowhere rows id e =
    subst (λ (o : Option Row). IfSome (option_and_then (λ (row : Row). collection_of row.source) o) IsCollection) (sym e) tt

-- ---- one collection

nulls_are : (kind : CellKind) (n : ℕ) → list_all (is_null_or_of kind) (replicate n Empty) ≡ true
nulls_are kind zero = refl
nulls_are Numbers (suc n) = nulls_are Numbers n
nulls_are Flags (suc n) = nulls_are Flags n

is_collection : (rows : List Row) (row : DimsRow) → HasValid rows row → IsCollection (collection_named_by rows row).1
is_collection rows row valid = by (collection_at rows row.id) valid.collection
  where
    by : (o : Option Collection) → IfSome o IsCollection → IsCollection (unwrap_or o (null_collection row))
    by None h = record {
      valid = valid.shape;
      counted = length-replicate (cell_count row.shape) Empty;
      of_kind = nulls_are row.kind (cell_count row.shape);
    }
    by (Some c) h = h

-- the shape and the kind of a collection are those of its row
outline_kept : (row : DimsRow) (shape : Dimensions) (kind : CellKind) (contents : Option Contents) → shape ≡ row.shape → kind ≡ row.kind
    → graph.collection_row (row.id, unwrap_or (option_map (collection_with shape kind) contents) (null_collection row)) ≡ row
outline_kept row shape kind None shape_is kind_is = refl
outline_kept row shape kind (Some contents) shape_is kind_is = rw (shape_is, kind_is) refl

module _ (rows : List Row) (are : AreDimsOf rows (dims_of rows)) where
  -- the row of a catalogue that a row of its shapes and kinds comes from
  mounted_row : (row : DimsRow) → find (λ (d : DimsRow). same_name d.id row.id) (dims_of rows) ≡ Some row
      → (r : Row) × (row_of rows row.id ≡ Some r) × (dims_row r ≡ row)
  mounted_row row found = by (row_of rows row.id) refl
    where
      by : (o : Option Row) → row_of rows row.id ≡ o → (r : Row) × (row_of rows row.id ≡ Some r) × (dims_row r ≡ row)
      by None e =
          let wrong : None ≡ Some row = sym (ap (option_map dims_row) e) ∙ (sym (are row.id) ∙ found) in
          absurd cc
      by (Some r) e =
          let same : Some (dims_row r) ≡ Some row = sym (ap (option_map dims_row) e) ∙ (sym (are row.id) ∙ found) in
          (r, e, same_Some (dims_row r) row same)

  row_kept : (row : DimsRow) → find (λ (d : DimsRow). same_name d.id row.id) (dims_of rows) ≡ Some row
      → graph.collection_row (collection_named_by rows row) ≡ row
  row_kept row found =
      let m = mounted_row row found in
      let here : collection_at rows row.id ≡ collection_of m.0.source = ap (option_and_then (λ (r : Row). collection_of r.source)) m.1 in
      ap (λ (o : Option Collection). graph.collection_row (row.id, unwrap_or o (null_collection row))) here
      ∙ outline_kept row m.0.source.shape m.0.source.kind m.0.source.contents
      (ap (λ (d : DimsRow). d.shape) m.2) (ap (λ (d : DimsRow). d.kind) m.2)

rows_kept : (rows : List Row) (dims : List DimsRow) → All (λ (row : DimsRow). graph.collection_row (collection_named_by rows row) ≡ row) dims
    → map graph.collection_row (map (collection_named_by rows) dims) ≡ dims
rows_kept rows [] each = refl
rows_kept rows (row ∷ dims) each =
    let first : graph.collection_row (collection_named_by rows row) ≡ row = each 0 row (omega arith) in
    ap (λ (d : DimsRow). d ∷ map graph.collection_row (map (collection_named_by rows) dims)) first
    ∙ ap (λ (rest : List DimsRow). row ∷ rest) (rows_kept rows dims (λ k d h. each (suc k) d (omega arith)))

-- ---- what is found by an id

-- the collection of a row of a catalogue under its id
abbrev named_source : Row → NamedCollection
named_source row = (row.id, unwrap_or (collection_of row.source) (null_collection (dims_row row)))

module _ (rows : List Row) (are : AreDimsOf rows (dims_of rows)) where
  found_named : (id : List ℕ) → find (λ (c : NamedCollection). same_name c.0 id) (collections_of rows) ≡ option_map named_source (row_of rows id)
  found_named id =
      find-map (collection_named_by rows) (λ (c : NamedCollection). same_name c.0 id) (dims_of rows)
      ∙ (ap (option_map (collection_named_by rows)) (are id) ∙ by (row_of rows id) refl)
    where
      by : (o : Option Row) → row_of rows id ≡ o → option_map (collection_named_by rows) (option_map dims_row (row_of rows id)) ≡ option_map named_source (row_of rows id)
      by None e = ap (λ (o : Option Row). option_map (collection_named_by rows) (option_map dims_row o)) e ∙ sym (ap (option_map named_source) e)
      by (Some row) e =
          let own : collection_at rows row.id ≡ collection_of row.source =
          ap (collection_at rows) (sym (find_same rows id row e)) ∙ ap (option_and_then (λ (r : Row). collection_of r.source)) e in
          ap (λ (o : Option Row). option_map (collection_named_by rows) (option_map dims_row o)) e
          ∙ (ap (λ (o : Option Collection). Some (row.id, unwrap_or o (null_collection (dims_row row)))) own ∙ sym (ap (option_map named_source) e))

  named_is : (id : List ℕ) (row : Row) (collection : Collection) → row_of rows id ≡ Some row → collection_of row.source ≡ Some collection
      → collection_named (collections_of rows) id ≡ datacube_of collection
  named_is id row collection here visible =
      ap (λ (o : Option NamedCollection). option_map_or (λ (c : NamedCollection). datacube_of c.1) o no_datacube) (found_named id ∙ ap (option_map named_source) here)
      ∙ ap (λ (o : Option Collection). datacube_of (unwrap_or o (null_collection (dims_row row)))) visible

some_contents : (s : Source) (o : Option Contents) → s.contents ≡ o → IsSome o
    → (collection : Collection) × (collection_of s ≡ Some collection)
some_contents s None e is = absurd cc
some_contents s (Some contents) e is = (collection_with s.shape s.kind contents, ap (option_map (collection_with s.shape s.kind)) e)

-- ---- all of them

-- they are collections of each graph that was checked over the catalogue
pub gives_collections : (rows : List Row) → names_rise (ids (dims_of rows)) ≡ true → AreDimsOf rows (dims_of rows)
    → All (HasValid rows) (dims_of rows) → GivesCollections rows
gives_collections rows rise are valid = record {
  valid = λ c same. record {
    valid = All-map (λ (c : NamedCollection). IsCollection c.1) (collection_named_by rows) (dims_of rows)
        (λ k d h. is_collection rows (get_or (dims_of rows) k d) (valid k d h));
    rows_are = rows_kept rows (dims_of rows) (λ k d h. row_kept rows are (get_or (dims_of rows) k d) (find_row (dims_of rows) k d rise h)) ∙ sym same;
  };
  shown = λ c same visible step id index loaded mounted.
      let some = some_at rows index mounted.within in
      let here : row_of rows id ≡ Some some.0 = sym (find_at_index (λ (row : Row). same_name row.id id) rows index mounted.index_is) ∙ some.1 in
      let source_is : source_at rows index ≡ some.0.source = source_here rows index some.0 some.1 in
      let found = some_contents (source_at rows index) (source_at rows index).contents refl (visible step id index loaded mounted) in (
        found.0,
        found.1,
        named_is rows are id some.0 found.0 here (ap collection_of (sym source_is) ∙ found.1),
      );
}

-- ---- where all are visible

pub visible_at : (rows : List Row) (index : ℕ) → AreVisible rows → index < length rows → IsSome (source_at rows index).contents
visible_at [] index visible h = absurd (omega arith)
visible_at (row ∷ rows) zero visible h = visible 0 row (omega arith)
visible_at (row ∷ rows) (suc index) visible h = visible_at rows index (λ k d l. visible (suc k) d (omega arith)) (omega arith)

first_shown : (id : List ℕ) (shape : Dimensions) (kind : CellKind) (contents : Option Contents) (other : Collection) (rest : Collections)
    → IsSome contents → option_map_or (λ (c : Collection). (id, c) ∷ rest) (option_map (collection_with shape kind) contents) rest
    ≡ (id, unwrap_or (option_map (collection_with shape kind) contents) other) ∷ rest
first_shown id shape kind None other rest is = absurd cc
first_shown id shape kind (Some contents) other rest is = refl

shown_named : (rows : List Row) → AreVisible rows → (id : List ℕ)
    → find (λ (c : NamedCollection). same_name c.0 id) (collections_shown rows) ≡ option_map named_source (row_of rows id)
shown_named [] visible id = refl
shown_named (row ∷ rows) visible id =
    let first : collections_shown (row ∷ rows) ≡ named_source row ∷ collections_shown rows =
    first_shown row.id row.source.shape row.source.kind row.source.contents (null_collection (dims_row row)) (collections_shown rows) (visible 0 row (omega arith)) in
    let rest = shown_named rows (λ k d l. visible (suc k) d (omega arith)) id in
    ap (find (λ (c : NamedCollection). same_name c.0 id)) first ∙ elim (cases_Bool (same_name row.id id)) [
      | inl t ↦ rw t refl
      | inr f ↦ rw f rest
    ]

same_named : (rows : List Row) → AreVisible rows → AreDimsOf rows (dims_of rows) → (id : List ℕ)
    → collection_named (collections_of rows) id ≡ collection_named (collections_shown rows) id
same_named rows visible are id =
    ap (λ (o : Option NamedCollection). option_map_or (λ (c : NamedCollection). datacube_of c.1) o no_datacube)
    (found_named rows are id ∙ sym (shown_named rows visible id))

-- what a graph means depends on collections only by their ids
unfoldable meaning_by : (List ℕ → Datacube) → CheckedGraph → ℕ → Datacube
meaning_by named c node =
    down_from no_datacube (λ at (n : PlainNode). option_map_or (λ (r : CubeRequest). option_map_or (λ (operation : Operation). operated operation (request_inputs named at r))
    (operation_of r (map outline (request_inputs named at r))) no_datacube) (cube_request_at n) no_datacube) c.nodes (id_at node c.nodes)

pub same_meaning : (rows : List Row) → AreVisible rows → AreDimsOf rows (dims_of rows) → (c : CheckedGraph) (node : ℕ)
    → meaning_of_node (collections_of rows) c node ≡ meaning_of_node (collections_shown rows) c node
unfolding meaning_by
same_meaning rows visible are c node =
    ap (λ (named : List ℕ → Datacube). meaning_by named c node) (fun_ext (same_named rows visible are))
