-- One plane of what a node loads, from a box of its collection.
use Rattle.std.proofs.Common.{◌≡◌, ℕ, zero, suc, ◌<◌, Bool, true, List, [], ◌∷◌, length, get_or, replicate, Option, Some, None, IfSome, refl, sym, ap, ◌∙◌, subst, arith, Result, Ok, Err, OnOk}
use Rattle.std.specs.List.{All, list_all}
use Rattle.std.specs.Option.{option_map}
use Rattle.std.specs.Result.{IfErr, IsErrAnd, IsErrOf}
use Rattle.std.proofs.lemmas.List.{get_or_default}
use Rattle.std.proofs.lemmas.Option.{same_Some}
use Rattle.oe_cell.specs.declared.cell.Cell.TheVariants.{Empty}
use Rattle.oe_cell.specs.declared.cell.Cell.{Cell}
use Rattle.oe_cube.specs.Collections.{Collection, IsCollection}
use Rattle.oe_cube.specs.Kinds.{IsOfKind, is_null_or_of}
use Rattle.oe_dims.proofs.CubeLemmas.{length-tuples}
use Rattle.oe_dims.specs.Cube.{Cube, IsCube}
use Rattle.oe_dims.specs.Dimensions.{Dimensions}
use Rattle.oe_dims.specs.declared.kind.CellKind.TheVariants.{Numbers, Flags}
use Rattle.oe_dims.specs.declared.kind.CellKind.{CellKind}
use Rattle.oe_ops.specs.Loads.{GivesPlane}
use Rattle.oe_plan.specs.Figures.{steps_of, shape_of_node}
use Rattle.oe_plan.specs.Schedules.{node_at, ScheduleOf, IsSchedule}
use Rattle.oe_check.proofs.CheckedLemmas.{give_cubes}
use Rattle.oe_check.specs.Checked.{collection_of_node, CheckedGraph}
use Rattle.oe_requests.specs.Extents.{shape_of_restriction, Restriction}
use Rattle.oe_meanings.specs.Graphs.{Collections, collection_named, datacube_of}
use Rattle.oe_check.specs.Laws.{AreCollectionsOf}
use Rattle.oe_meanings.specs.Meaning.{Datacube, restricted_cube, operated}
use Rattle.oe_meanings.proofs.GraphLemmas.{cells_of_kind}
use Rattle.oe_requests.specs.Operations.{Outline, keep}
use Rattle.oe_sources.proofs.CatalogueLawLemmas.{count_no_more}
use Rattle.oe_sources.specs.Catalogue.{CountsRow, IsFaultAt, Row, row_index, source_at}
use Rattle.oe_sources.specs.Source.{AreCellsOf, Contents, Looks, answer_of, collection_of, collection_with, fault_of, is_failed}
use Rattle.oe_sources.specs.declared.source.LookFail.{LookFail}
use Rattle.oe_sources.specs.declared.source.LookFail.TheVariants as look
use Rattle.oe_sources.specs.declared.source.SourceFail.TheVariants.{Failed, Damaged}
use Rattle.oe_sources.specs.declared.source.SourceFail.{SourceFail}
use Rattle.oe_window.proofs.WholeLemmas.{in_whole, position_in}
use Rattle.oe_window.specs.Cells.{cells_on}
use Rattle.oe_window.specs.Windows.{Holds, IsEmpty, position_count, whole_window}
use Rattle.oe_window.specs.declared.window.Window.{Window}
use Rattle.oe_steps.proofs.LoadLemmas.{LoadsBy, id_of_load, loads_by}
use Rattle.oe_steps.proofs.ScheduleLemmas.{node_within}
use Rattle.oe_steps.proofs.ReadLemmas.{count_read, others_counted}
use Rattle.oe_steps.specs.Collections.{HasCollections, IsLoadedBy, IsMountedAt, LoadRose, Shows}
use Rattle.oe_steps.specs.Loads.{AreLoaded, HasRead, TellsWhy, refusal_for}
use Rattle.oe_steps.specs.Refusals.{IsOfSource, RefusalSays}
use Rattle.oe_steps.specs.Steps.{loads_at, cell_kind_at, node_cells}
use Rattle.oe_steps.specs.declared.fail.RunFail.TheVariants.{SourceFailed}
use Rattle.oe_steps.specs.declared.fail.RunFail.{RunFail}

-- ---- kinds of cells

nulls_of_kind : (kind : CellKind) (n : ℕ) → All (IsOfKind kind) (replicate n Empty)
nulls_of_kind kind zero k d l = absurd (omega arith)
nulls_of_kind Numbers (suc n) zero d l = tt
nulls_of_kind Flags (suc n) zero d l = tt
nulls_of_kind kind (suc n) (suc k) d l = nulls_of_kind kind n k d (omega arith)

-- ---- where a collection is mounted

-- the step of the run at which the node of a step stands
pub record IsInRunAt (graph : CheckedGraph) (schedule : ScheduleOf) (step : ℕ) : Type 0 where
  pub run_step : ℕ
  pub below : run_step < length (steps_of graph)
  pub same : get_or (steps_of graph) run_step 0 ≡ node_at schedule step

in_run : (graph : CheckedGraph) (schedule : ScheduleOf) → IsSchedule graph schedule → (step : ℕ) → step < length schedule.order.steps
    → IsInRunAt graph schedule step
in_run graph schedule is step within =
    let stands = is.of_run step within in
    record {
      run_step = stands.0;
      below = stands.1;
      same = get_or_default (steps_of graph) stands.0 0 (node_at schedule step) stands.1 ∙ stands.2;
    }

step_is_loaded : (graph : CheckedGraph) (schedule : ScheduleOf) → (step : ℕ) (at : IsInRunAt graph schedule step) → (id : List ℕ)
    → collection_of_node graph (node_at schedule step) ≡ Some id → IsLoadedBy graph at.run_step id
step_is_loaded graph schedule step at id e = record {
  within = at.below;
  loads = ap (collection_of_node graph) at.same ∙ e;
}

module _ (graph : CheckedGraph) (schedule : ScheduleOf) (is : IsSchedule graph schedule) (rows : List Row) (has : HasCollections graph rows) (step : ℕ) (within : step < length schedule.order.steps)
    (id : List ℕ) (e : collection_of_node graph (node_at schedule step) ≡ Some id) where
  pub place_is : (place : ℕ) → row_index rows id ≡ Some place → IsMountedAt graph rows id place
  place_is place at =
      let run = in_run graph schedule is step within in
      let m = has run.run_step id (step_is_loaded graph schedule step run id e) in
      subst (IsMountedAt graph rows id) (same_Some m.0 place (sym m.1.index_is ∙ at)) m.1

  pub some_place : row_index rows id ≡ None → ⊥
  some_place none =
      let run = in_run graph schedule is step within in
      let m = has run.run_step id (step_is_loaded graph schedule step run id e) in
      let wrong : None ≡ Some m.0 = sym none ∙ m.1.index_is in
      absurd cc

-- ---- a plane

-- what a plane is given, by equal shapes and planes
pub gives_at : (d e f g : Dimensions) (plane w box : Window) → d ≡ f → e ≡ g → plane ≡ w
    → ((r : Restriction) → shape_of_restriction r d ≡ e → GivesPlane d e r w box) → (r : Restriction) → shape_of_restriction r f ≡ g → GivesPlane f g r plane box
gives_at d e f g plane w box same_d same_e same_w gives r is =
    subst (λ x. GivesPlane f g r x box) (sym same_w)
    (subst (λ x. GivesPlane x g r w box) same_d
    (subst (λ x. GivesPlane d x r w box) same_e (gives r (ap (shape_of_restriction r) same_d ∙ (is ∙ sym same_e)))))

module _ (graph : CheckedGraph) (schedule : ScheduleOf) (is : IsSchedule graph schedule) (rows : List Row) (step : ℕ) (within : step < length schedule.order.steps) (loads : loads_at graph schedule step ≡ true)
    (place : ℕ) (mounted : (id : List ℕ) → collection_of_node graph (node_at schedule step) ≡ Some id → IsMountedAt graph rows id place) where
  pub id : (name : List ℕ) × (collection_of_node graph (node_at schedule step) ≡ Some name)
  id = id_of_load graph schedule is step within loads

  pub at : IsMountedAt graph rows id.0 place
  at = mounted id.0 id.1

  keeps : LoadsBy graph (node_at schedule step) id.0
  keeps = loads_by graph is.faultless (node_at schedule step) (node_within graph schedule is step within) id.0 id.1

  run : IsInRunAt graph schedule step
  run = in_run graph schedule is step within

  step_loads : IsLoadedBy graph run.run_step id.0
  step_loads = step_is_loaded graph schedule step run id.0 id.1

  shape_is : shape_of_restriction keeps.r (source_at rows place).shape ≡ shape_of_node graph (node_at schedule step)
  shape_is = ap (shape_of_restriction keeps.r) at.shape_is ∙ sym (ap (λ (o : Outline). o.shape) keeps.outline_is)

  kind_is : cell_kind_at graph schedule step ≡ (source_at rows place).kind
  kind_is = ap (λ (o : Outline). o.kind) keeps.outline_is ∙ sym at.kind_is

  pub of_kind : (cells : List Cell) → list_all (is_null_or_of (source_at rows place).kind) cells ≡ true → All (IsOfKind (cell_kind_at graph schedule step)) cells
  of_kind cells h = cells_of_kind (cell_kind_at graph schedule step) cells (subst (λ (k : CellKind). list_all (is_null_or_of k) cells ≡ true) (sym kind_is) h)

  module _ (plane box : Window)
      (gives : (r : Restriction) → shape_of_restriction r (source_at rows place).shape ≡ shape_of_node graph (node_at schedule step)
      → GivesPlane (source_at rows place).shape (shape_of_node graph (node_at schedule step)) r plane box)
      (inner : Holds (whole_window (shape_of_node graph (node_at schedule step))) plane) where
    plane_is : GivesPlane (source_at rows place).shape (shape_of_node graph (node_at schedule step)) keeps.r plane box
    plane_is = gives keeps.r shape_is

    -- its box lies in the collection, and has as many positions
    pub box_inside : Holds (whole_window (source_at rows place).shape) box
    box_inside q in' = in_whole (source_at rows place).shape q (plane_is.needed q in').2.is_position

    pub box_count : ¬ IsEmpty box → position_count box ≡ position_count plane
    box_count some = plane_is.counted some

    -- ---- its cells

    module _ (sound : IfSome (collection_of (source_at rows place)) IsCollection) (collections : Collections)
        (has : AreCollectionsOf graph collections) (shows : Shows graph rows collections) where
      shown : (collection : Collection) × (collection_of (source_at rows place) ≡ Some collection)
          × (collection_named collections id.0 ≡ datacube_of collection)
      shown = shows run.run_step id.0 place step_loads at

      abbrev cube : Contents → Cube Cell
      cube contents = record { shape = (source_at rows place).shape; cells = contents.cells }

      abbrev with_contents : Contents → Collection
      with_contents contents = collection_with (source_at rows place).shape (source_at rows place).kind contents

      whole : (contents : Contents) → (source_at rows place).contents ≡ Some contents → with_contents contents ≡ shown.0
      whole contents e =
          let some : Some (with_contents contents) ≡ Some shown.0 = sym (ap (option_map with_contents) e) ∙ shown.1 in
          cc

      is_cube : (contents : Contents) → (source_at rows place).contents ≡ Some contents → IsCube (cube contents)
      is_cube contents e =
          let c : IsCollection (with_contents contents) = subst (λ o. IfSome o IsCollection) (ap (option_map with_contents) e) sound in
          c.counted ∙ sym (length-tuples (source_at rows place).shape)

      means : (contents : Contents) → (source_at rows place).contents ≡ Some contents
          → node_cells collections graph (node_at schedule step) plane ≡ cells_on Empty (restricted_cube keeps.r (cube contents)) plane
      means contents e =
          ap (λ (d : Datacube). cells_on Empty d.cube plane)
          (give_cubes.loaded graph is.faultless collections has (node_at schedule step) (node_within graph schedule is step within) (keep keeps.r) keeps.operates id.0 id.1
          ∙ ap (λ (d : Datacube). operated (keep keeps.r) (d ∷ [])) (shown.2 ∙ ap datacube_of (sym (whole contents e))))

      by_contents : (A : Type 0) → ((contents : Contents) → (source_at rows place).contents ≡ Some contents → A) → A
      by_contents A some = by (source_at rows place).contents refl
        where
          by : (o : Option Contents) → (source_at rows place).contents ≡ o → A
          by None e =
              let none : None ≡ Some shown.0 = sym (ap (option_map with_contents) e) ∙ shown.1 in
              absurd cc
          by (Some contents) e = some contents e

      given_cells : (cells : List Cell) → ¬ IsEmpty box
          → IfSome (source_at rows place).contents (λ c. AreCellsOf (source_at rows place).shape c box cells)
          → cells ≡ node_cells collections graph (node_at schedule step) plane
      given_cells cells some given = by_contents (cells ≡ node_cells collections graph (node_at schedule step) plane) (λ contents e.
          let are : AreCellsOf (source_at rows place).shape contents box cells =
          subst (λ o. IfSome o (λ c. AreCellsOf (source_at rows place).shape c box cells)) e given in
          are.cells_are ∙ (plane_is.cells (cube contents) (is_cube contents e) refl some ∙ sym (means contents e)))

      null_cells : IsEmpty box → replicate (position_count plane) Empty ≡ node_cells collections graph (node_at schedule step) plane
      null_cells empty = by_contents (replicate (position_count plane) Empty ≡ node_cells collections graph (node_at schedule step) plane)
          (λ contents e. sym (plane_is.nulls (cube contents) (is_cube contents e) refl empty) ∙ sym (means contents e))

    module _ (sound : IfSome (collection_of (source_at rows place)) IsCollection) where
      pub nulls_loaded : (cells : List Cell) → IsEmpty box → cells ≡ replicate (position_count plane) Empty
          → AreLoaded graph rows (node_at schedule step) plane cells
      nulls_loaded cells empty are = record {
        values = λ collections has shows. are ∙ null_cells sound collections has shows empty;
        kinds = subst (All (IsOfKind (cell_kind_at graph schedule step))) (sym are) (nulls_of_kind (cell_kind_at graph schedule step) (position_count plane));
      }

      pub box_loaded : (cells : List Cell) (result : Result (Unit {0}) LookFail) → ¬ IsEmpty box → Looks (source_at rows place) box cells (answer_of result)
          → OnOk result (AreLoaded graph rows (node_at schedule step) plane cells)
      box_loaded cells (Ok u) some looks = record {
        values = λ collections has shows. given_cells sound collections has shows cells some looks.given;
        kinds = of_kind cells looks.of_kind;
      }
      box_loaded cells (Err fail) some looks = tt

    -- ---- why a look was refused

    pub box_refused : (cells : List Cell) (looked : Result (Unit {0}) LookFail) → Looks (source_at rows place) box cells (answer_of looked)
        → IfSome (fault_of looked) (IsFaultAt rows place) → TellsWhy graph rows (node_at schedule step) looked
    box_refused cells (Ok u) looks met = tt
    box_refused cells (Err (look.Failed fault)) looks met = λ name index e mounted.
        let same_id : id.0 ≡ name = same_Some id.0 name (sym id.1 ∙ e) in
        let same : place ≡ index = same_Some place index (sym at.index_is ∙ (ap (row_index rows) same_id ∙ mounted.index_is)) in
        subst (λ (i : ℕ). IsFaultAt rows i fault) same met
    box_refused cells (Err (look.Damaged number)) looks met =
        let damage = looks.damage in
        let needed = plane_is.needed damage.position damage.inside in
        record {
          step = run.run_step;
          id = id.0;
          index = place;
          loaded = step_loads;
          node_is = run.same;
          mounted = at;
          position = damage.position;
          inside = position_in (source_at rows place).shape damage.position (box_inside damage.position damage.inside);
          number_is = damage.numbered;
          damaged = damage.damaged;
          kept = (needed.0, position_in (shape_of_node graph (node_at schedule step)) needed.0 (inner needed.0 needed.1), needed.2);
        }

  -- ---- looks that are counted

  rose_by : (after : List Row) (n : ℕ) (failed : Bool) (answer : Result (Unit {0}) SourceFail) → failed ≡ is_failed answer → CountsRow rows place n failed after
      → IsErrOf (refusal_for (node_at schedule step) answer) SourceFailed → LoadRose graph rows after
  rose_by after n failed (Ok u) same counts err = absurd cc
  rose_by after n failed (Err Failed) same counts err = record {
    step = run.run_step;
    id = id.0;
    index = place;
    loaded = step_loads;
    mounted = at;
    rose = counts.count.rose same;
  }
  rose_by after n failed (Err (Damaged number)) same counts err = absurd cc

  says_by : (looked : Result (Unit {0}) LookFail) → TellsWhy graph rows (node_at schedule step) looked
      → IfErr (refusal_for (node_at schedule step) (answer_of looked)) (λ refusal. IsOfSource refusal × RefusalSays graph rows refusal)
  says_by (Ok u) why = tt
  says_by (Err (look.Failed fault)) why = (tt, tt)
  says_by (Err (look.Damaged number)) why = (tt, why)

  pub settled : (n : ℕ) (after : List Row) (failed : Bool) (looked : Result (Unit {0}) LookFail) → failed ≡ is_failed (answer_of looked)
      → TellsWhy graph rows (node_at schedule step) looked → CountsRow rows place n failed after
      → HasRead graph n rows after (refusal_for (node_at schedule step) (answer_of looked))
  settled n after failed looked same why counts = record {
    read = count_read rows place n failed after counts;
    others = others_counted graph rows place n failed after counts run.run_step id.0 step_loads at;
    asked = count_no_more rows place n failed after at.within counts;
    cause = rose_by after n failed (answer_of looked) same counts;
    says = says_by looked why;
  }

-- the fault that is told of a node is one of the row at which its collection is mounted
pub met_at : (c : CheckedGraph) (rows : List Row) (node : ℕ) (looked : Result (Unit {0}) LookFail) → TellsWhy c rows node looked
    → (id : List ℕ) (index : ℕ) → collection_of_node c node ≡ Some id → IsMountedAt c rows id index → IfSome (fault_of looked) (IsFaultAt rows index)
met_at c rows node (Ok u) why id index e mounted = tt
met_at c rows node (Err (look.Failed fault)) why id index e mounted = why id index e mounted
met_at c rows node (Err (look.Damaged number)) why id index e mounted = tt

-- what holds where the look was answered holds where the run goes on
pub ok_answer : (P : Type 0) (node : ℕ) (looked : Result (Unit {0}) LookFail) (result : Result (Unit {0}) RunFail) → result ≡ refusal_for node (answer_of looked)
    → OnOk looked P → OnOk result P
ok_answer P node looked result same ok = subst (λ r. OnOk r P) (sym same) (by looked ok)
  where
    by : (l : Result (Unit {0}) LookFail) → OnOk l P → OnOk (refusal_for node (answer_of l)) P
    by (Ok u) h = h
    by (Err (look.Failed fault)) h = tt
    by (Err (look.Damaged number)) h = tt

-- what `?` hands on is what was refused
pub tells_handed : (c : CheckedGraph) (rows : List Row) (node : ℕ) (fail : LookFail) (result : Result (Unit {0}) LookFail) → IsErrAnd result (λ e. e ≡ fail)
    → TellsWhy c rows node (Err fail) → TellsWhy c rows node result
tells_handed c rows node fail (Ok u) is why = absurd is
tells_handed c rows node fail (Err e) is why = subst (λ x. TellsWhy c rows node (Err x)) (sym is) why
