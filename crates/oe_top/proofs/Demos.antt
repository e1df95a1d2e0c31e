-- How the evaluation of the demonstration ends, by what its rounds left and by what was written of its figures.
use Rattle.std.proofs.Common.{◌≡◌, ◌≢◌, ℕ, zero, suc, ◌+◌, ◌-◌, ◌*◌, ◌<◌, ◌≤◌, Bool, true, false, List, [], ◌∷◌, length, take, drop, get_or, map, Option, Some, None, IfSome, Result, Ok, Err, refl, sym, ap, ◌∙◌, subst, arith, inl, inr}
use Rattle.std.specs.List.{Contains}
use Rattle.std.specs.Option.{IsSome}
use Rattle.std.proofs.lemmas.List.{get_or_past}
use Rattle.oe_cell.specs.Cells.{IsCell}
use Rattle.oe_cell.specs.Record.{record_of}
use Rattle.oe_cell.specs.declared.cell.Cell.{Cell}
use Rattle.oe_cell.specs.declared.cell.Cell.TheVariants.{Empty, Over}
use Rattle.oe_cell.proofs.RecordLemmas.{length-record_of, same_from_record}
use Rattle.oe_dims.specs.Cube.{Cube, IsCube}
use Rattle.oe_dims.specs.Dimensions.{cell_count}
use Rattle.oe_dims.specs.declared.dims.DimsRow.{DimsRow}
use Rattle.oe_dims.specs.Positions.{IsPosition, Position}
use Rattle.oe_dims.proofs.CubeLemmas.{position_there}
use Rattle.oe_steps.specs.Collections.{AreRead, LoadRose, without_counts}
use Rattle.oe_engine.specs.Laws.{GivesCollections, LoadsVisible}
use Rattle.oe_steps.specs.Refusals.{KeepsDamage}
use Rattle.oe_engine.specs.Runs.{HasDone, HasRunRecords, RunOf, ShowsDone, chunk_total, chunks_from, result_cube, result_shape}
use Rattle.oe_engine.specs.Results.{IsVisible, result_of}
use Rattle.oe_engine.specs.Evaluations.{Evaluates, IsPlanOf}
use Rattle.oe_steps.specs.declared.fail.RunFail.{RunFail}
use Rattle.oe_steps.specs.declared.fail.RunFail.TheVariants as run
use Rattle.oe_engine.proofs.RenderLemmas.{result_shape_is, result_whole}
use Rattle.oe_outside.specs.Faults.{HasCauseOf, NeverFalls, Rose}
use Rattle.oe_outside.specs.Stored.{HoldsAt, StoreHolds}
use Rattle.oe_outside.specs.Visible.{Appends, AppendsPrefix}
use Rattle.oe_outside.proofs.Causes.{NeverFalls-refl, NeverFalls-trans, then-Rose}
use Rattle.oe_outside.proofs.Stores.{HoldsAt-inside}
use Rattle.oe_plan.specs.Figures.{bound_of, most_held_cells}
use Rattle.oe_plan.specs.Plans.{IsPlan, PlanOf}
use Rattle.oe_window.specs.declared.grid.ChunkSize.{ChunkSize}
use Rattle.oe_render.specs.Rendered.{IsRefusalWithin}
use Rattle.oe_render.specs.declared.rendering.RenderFail.{RenderFail}
use Rattle.oe_render.specs.declared.rendering.RenderFail.TheVariants as text
use Rattle.oe_check.specs.Checked.{CheckedGraph}
use Rattle.oe_meanings.specs.Graphs.{Collections}
use Rattle.oe_check.specs.Laws.{AreCollectionsOf}
use Rattle.oe_sources.specs.Catalogue.{Row, demonstration, source_at}
use Rattle.oe_sources.specs.CatalogueDims.{dims_of}
use Rattle.oe_sources.specs.CatalogueLaws.{NeverFailed}
use Rattle.oe_spool.specs.Spooled.{HoldsRecord, IsInSome}
use Rattle.oe_spool.proofs.CubeRecords.{cells_counted}
use Rattle.oe_spool.proofs.ChunkLists.{all_inside}
use Rattle.oe_top.specs.DemoAnswer.{DemoAnswers, Demonstrates, FiguresEnd, IsDemonstrated, IsDemonstration}
use Rattle.oe_top.specs.Demonstration.{HasSpooled, IsSpooled, demo_graph, demo_text, figures_text}
use Rattle.oe_top.specs.Evaluated.{CanBeNamed, IsFailOfRun, fail_of_text}
use Rattle.oe_graph.specs.Faults.{IsLeast}
use Rattle.oe_graph.specs.declared.fault.Fault.{Fault}
use Rattle.oe_top.specs.Faults.{StandsOver}
use Rattle.oe_top.specs.Judged.{IsCheckedText, JudgesBytes}
use Rattle.oe_top.specs.declared.judge.InputRefusal.{InputRefusal}
use Rattle.oe_top.specs.declared.judge.InputRefusal.TheVariants.{Graph}
use Rattle.oe_top.specs.Objects.{Objects, objects}
use Rattle.oe_top.specs.declared.demo.DemoRefusal.TheVariants.{TooLarge, Stopped}
use Rattle.oe_top.specs.declared.evaluation.EvaluationFail.{EvaluationFail}
use Rattle.oe_top.specs.declared.evaluation.EvaluationFail.TheVariants.{WriteFault}
use Rattle.oe_top.proofs.DemoCubes.{demo_valid}
use Rattle.oe_engine.proofs.RunResults.{hidden, of_meaning, over_is}
use Rattle.oe_engine.proofs.GridLemmas.{has_sides}
use Rattle.oe_top.proofs.Inputs.{sizes}

-- ---- one record

-- records that stand at one offset are the same
same_record : (all : List ℕ) (at : ℕ) (a b : List ℕ) → length a ≡ length b → HoldsAt all at a → HoldsAt all at b → a ≡ b
same_record all at a b long first second = sym first ∙ ap (λ n. take n (drop at all)) long ∙ second

at_front : (all : List ℕ) (number : ℕ) (c : Cell) → HoldsRecord (Some all) 0 number c → HoldsAt all (17 * number) (record_of c)
at_front all number c held = let same : 0 + 17 * number ≡ 17 * number = omega arith in subst (λ n. HoldsAt all n (record_of c)) same held

not_some : (c : Cell) → ◌≡◌ {A = Option Cell} None (Some c) → ⊥
not_some c e = cc

-- what was read is no record of a number only where the bytes are hidden
pub unread : (store : Option (List ℕ)) (count number : ℕ) (read : List ℕ) → HasSpooled store count number → number < count
    → length read ≡ 17 → StoreHolds store (17 * number) read
    → ((c : Cell) → IsCell c → c ≢ Over → record_of c ≡ read → ◌≡◌ {A = Option Cell} None (Some c)) → store ≡ None
unread None count number read has below long held none = refl
unread (Some all) count number read (c, is) below long held none =
    let same = same_record all (17 * number) (record_of c) read (length-record_of c ∙ sym long) (at_front all number c (is.held below)) held in
    absurd (not_some c (none c is.valid is.numbered same))

-- and there are too few bytes only there
pub too_short : (store : Option (List ℕ)) (count number : ℕ) (whole : Bool) → HasSpooled store count number → number < count
    → whole ≡ false → IfSome store (λ all. 17 * number + 17 ≤ length all → whole ≡ true) → store ≡ None
too_short None count number whole has below no_whole short = refl
too_short (Some all) count number whole (c, is) below no_whole short =
    let long = length-record_of c in
    let inside = HoldsAt-inside all (17 * number) (record_of c) (at_front all number c (is.held below)) (omega (arith, long)) in
    let all_there : whole ≡ true = short (omega (arith, inside, long)) in
    cc (no_whole, all_there)

-- ---- the records of a run that is done

module _ (r : RunOf) (is : IsPlan r.plan) (complete : r.done ≡ chunk_total r.plan) (front : r.base ≡ 0) where
  in_chunks : (q : Position) → IsPosition (result_shape r.plan) q → IsInSome (chunks_from r.plan 0 r.done) q
  in_chunks q h = subst (λ n. IsInSome (chunks_from r.plan 0 n) q) (sym complete) (all_inside (result_shape r.plan) r.plan.size (has_sides r.plan is) q h)

  -- each number has a cell in the spool
  pub spooled : (store : Option (List ℕ)) → r.over ≡ None → HasRunRecords r store → (number : ℕ)
      → HasSpooled store (cell_count (result_shape r.plan)) number
  spooled store numbers records number = elim (sizes (cell_count (result_shape r.plan)) number) [
    | inl past ↦ (Empty, record { valid = tt; numbered = λ e. cc; held = λ below. absurd (omega (arith, past, below)); missing = λ more. refl })
    | inr below ↦
        let found = position_there (result_shape r.plan) number below in
        let some = records found.0 (in_chunks found.0 found.1.inside) in (
          some.cell,
          record {
            valid = some.valid;
            numbered = some.numbered numbers;
            held = λ less. subst (λ base. HoldsRecord store base number some.cell) front
                (subst (λ n. HoldsRecord store r.base n some.cell) found.1.number_is some.held);
            missing = λ past. absurd (omega (arith, past, below));
          },
        )
  ]

  -- which is that of the cube whose records stand there
  module _ (cube : Cube Cell) (of_shape : cube.shape ≡ result_shape r.plan) (whole : IsCube cube) (bytes : List ℕ)
      (done : HasDone r (Some bytes) cube) where
    abbrev cells_all : ℕ
    cells_all = cell_count (result_shape r.plan)

    counted : length cube.cells ≡ cells_all
    counted = cells_counted cube whole ∙ ap cell_count of_shape

    same_cell : (number : ℕ) (c : Cell) → IsSpooled (Some bytes) cells_all number c → c ≡ get_or cube.cells number Empty
    same_cell number c here = elim (sizes cells_all number) [
      | inl past ↦ here.missing past ∙ sym (get_or_past cube.cells number Empty (let many = counted in omega (arith, many, past)))
      | inr below ↦
          let shaped = ap cell_count of_shape in
          let found = position_there cube.shape number (omega (arith, shaped, below)) in
          let inside = in_chunks found.0 (subst (λ d. IsPosition d found.0) of_shape found.1.inside) in
          let cell = get_or cube.cells number Empty in
          let valid : IsCell cell = subst (λ n. IsCell (get_or cube.cells n Empty)) found.1.number_is (done.valid found.0 inside) in
          let held : HoldsRecord (Some bytes) 0 number cell =
          subst (λ base. HoldsRecord (Some bytes) base number cell) front
          (subst (λ n. HoldsRecord (Some bytes) r.base n (get_or cube.cells n Empty)) found.1.number_is (done.records found.0 inside)) in
          same_from_record c cell here.valid valid
          (same_record bytes (0 + 17 * number) (record_of c) (record_of cell) (length-record_of c ∙ sym (length-record_of cell)) (here.held below) held)
    ]

    pub figures_are : (first last : Cell) → IsSpooled (Some bytes) cells_all 0 first → IsSpooled (Some bytes) cells_all (cells_all - 1) last
        → figures_text cells_all first last ≡ demo_text cube
    figures_are first last at_first at_last =
        let many = counted in
        ap (λ (c : Cell). figures_text cells_all c last) (same_cell 0 first at_first)
        ∙ ap (λ (c : Cell). figures_text cells_all (get_or cube.cells 0 Empty) c) (same_cell (cells_all - 1) last at_last)
        ∙ ap (λ (n : ℕ). figures_text n (get_or cube.cells 0 Empty) (get_or cube.cells (n - 1) Empty)) (sym counted)

-- ---- the generated collection

none_beyond : (index : ℕ) → suc index < 1 → ⊥
none_beyond index h = omega arith

visible_at : (seed side index : ℕ) → index < 1 → IsSome (source_at (demonstration seed side) index).contents
visible_at seed side zero within = refl
visible_at seed side (suc index) within = absurd (none_beyond index within)

-- it is visible
pub loads_visible : (c : CheckedGraph) (rows : List Row) → IsDemonstration rows → LoadsVisible c rows
loads_visible c rows demo step id index loaded mounted =
    let within : index < length (demonstration demo.seed demo.side) = subst (λ (rs : List Row). index < length rs) demo.rows_are mounted.within in
    subst (λ (rs : List Row). IsSome (source_at rs index).contents) (sym demo.rows_are)
    (visible_at demo.seed demo.side index within)

-- and none of its positions is damaged
undamaged : (seed side index number : ℕ) → index < 1
    → IfSome (source_at (demonstration seed side) index).contents (λ contents. Contains contents.damaged number) → ⊥
undamaged seed side zero number within (k, below, same) = omega (arith, below)
undamaged seed side (suc index) number within damaged = absurd (none_beyond index within)

pub keeps_none : (c : CheckedGraph) (rows : List Row) (node number : ℕ) → IsDemonstration rows → KeepsDamage c rows node number → ⊥
keeps_none c rows node number demo keeps =
    let within : keeps.index < length (demonstration demo.seed demo.side) =
    subst (λ (rs : List Row). keeps.index < length rs) demo.rows_are keeps.mounted.within in
    undamaged demo.seed demo.side keeps.index number within
    (subst (λ (rs : List Row). IfSome (source_at rs keeps.index).contents (λ contents. Contains contents.damaged number)) demo.rows_are keeps.damaged)

-- none of its reads has failed: the one row that was read is still that of a generated cube
some_row : (seed side : ℕ) (after : List Row) → map without_counts after ≡ map without_counts (demonstration seed side) → 0 < length after
some_row seed side [] same = cc
some_row seed side (row ∷ rest) same = omega arith

pub has_row : (rows rows_after : List Row) → IsDemonstration rows → AreRead rows rows_after → 0 < length rows_after
has_row rows rows_after demo read =
    some_row demo.seed demo.side rows_after (read.same ∙ ap (map without_counts) demo.rows_are)

abbrev first_seal : List Row → Option ℕ
first_seal [] = Some 0
first_seal (row ∷ rest) = row.seal

none_rose : (seed side index before : ℕ) (after : List Row) → index < 1
    → map without_counts after ≡ map without_counts (demonstration seed side) → NeverFailed after 0
    → Rose before (source_at after index).faults → ⊥
none_rose seed side zero before [] within same never rose = cc
none_rose seed side zero before (row ∷ rest) within same never rose =
    let none : row.source.faults ≡ 0 = never (ap first_seal same) in
    elim rose [
      | inl less ↦ omega (arith, less, none)
      | inr last ↦ omega (arith, last, none)
    ]
none_rose seed side (suc index) before after within same never rose = absurd (none_beyond index within)

never_rose : (c : CheckedGraph) (rows rows_after : List Row) → IsDemonstration rows → AreRead rows rows_after
    → NeverFailed rows_after 0 → LoadRose c rows rows_after → ⊥
never_rose c rows rows_after demo read never load =
    let within : load.index < length (demonstration demo.seed demo.side) =
    subst (λ (rs : List Row). load.index < length rs) demo.rows_are load.mounted.within in
    none_rose demo.seed demo.side load.index (source_at rows load.index).faults rows_after within
    (read.same ∙ ap (map without_counts) demo.rows_are) never load.rose

-- ---- how it ends

-- a damaged position is never met, so that none has to be named
pub named : (r after : RunOf) (rows rows_after : List Row) (store store_after : Option (List ℕ)) (faults faults_after : ℕ)
    → IsDemonstration rows → (graph : CheckedGraph) (fail : RunFail)
    → Evaluates r after rows rows_after store store_after faults faults_after (Err fail) → CanBeNamed graph fail
named r after rows rows_after store store_after faults faults_after demo graph run.SourceFailed c = tt
named r after rows rows_after store store_after faults faults_after demo graph (run.SourceDamaged node number) c =
    absurd (keeps_none r.plan.graph rows node number demo (c.through.says node number refl))
named r after rows rows_after store store_after faults faults_after demo graph run.SpoolFailed c = tt
named r after rows rows_after store store_after faults faults_after demo graph (run.Overflow number) c = tt

-- a run that was completed has all its records from the first byte on
module _ (r after : RunOf) (rows rows_after : List Row) (store store_after : Option (List ℕ)) (faults faults_after : ℕ)
    (is : IsPlan r.plan) (front : r.base ≡ 0)
    (c : Evaluates r after rows rows_after store store_after faults faults_after (Ok tt)) where
  planned : IsPlan after.plan
  planned = subst IsPlan (sym c.through.goes.plan) is

  all_done : after.done ≡ chunk_total after.plan
  all_done = c.through.done ∙ ap chunk_total (sym c.through.goes.plan)

  begins : after.base ≡ 0
  begins = c.through.goes.base ∙ front

  pub has_spooled : (count : ℕ) → count ≡ cell_count (result_shape after.plan) → (number : ℕ) → HasSpooled store_after count number
  has_spooled count count_is number =
      subst (λ n. HasSpooled store_after n number) (sym count_is)
      (spooled after planned all_done begins store_after c.numbers c.through.goes.records number)

  module _ (first last : Cell) where
    shown : (s : Option (List ℕ)) (n : ℕ) → n ≡ cell_count (result_shape after.plan) → IsSpooled s n 0 first → IsSpooled s n (n - 1) last
        → (collections : Collections) → AreCollectionsOf after.plan.graph collections
        → ShowsDone after s (result_cube collections after.plan)
        → figures_text n first last ≡ demo_text (result_cube collections after.plan)
    shown None n n_is one other collections are done = absurd done
    shown (Some bytes) n n_is one other collections are done = by n (sym n_is) one other
      where
        by : (n : ℕ) → cell_count (result_shape after.plan) ≡ n → IsSpooled (Some bytes) n 0 first → IsSpooled (Some bytes) n (n - 1) last
            → figures_text n first last ≡ demo_text (result_cube collections after.plan)
        by n same one other = subst
            (λ (m : ℕ). IsSpooled (Some bytes) m 0 first → IsSpooled (Some bytes) m (m - 1) last
            → figures_text m first last ≡ demo_text (result_cube collections after.plan)) same
            (figures_are after planned all_done begins (result_cube collections after.plan)
            (result_shape_is after.plan planned collections are) (result_whole after.plan planned collections are) bytes done first last)
            one other

module _ (r after : RunOf) (rows rows_after : List Row) (store store_after : Option (List ℕ)) (faults faults_after : ℕ)
    (demo : IsDemonstration rows) (given : GivesCollections rows) (rows_are : r.plan.graph.rows ≡ dims_of rows)
    (is : IsPlan r.plan) where
  abbrev p : PlanOf
  p = r.plan

  loads : LoadsVisible p.graph rows
  loads = loads_visible p.graph rows demo

  module _ (input : Option (List ℕ)) (input_faults : ℕ) (out : Option (List ℕ)) (out_faults : ℕ) (lent : List Row) where
    abbrev start : Objects
    start = objects input input_faults out out_faults store faults lent

    -- ---- before the figures

    abbrev ended : Option (List ℕ) → ℕ → Option (List ℕ) → ℕ → Objects
    ended out_after out_faults_after store_last faults_last = objects input input_faults out_after out_faults_after store_last faults_last lent

    abbrev stopped_at : Option (List ℕ) → ℕ → Objects
    stopped_at store_last faults_last = objects input input_faults out out_faults store_last faults_last lent

    pub refused : NeverFailed rows_after 0 → (fail : RunFail) (stop : EvaluationFail)
        → Evaluates r after rows rows_after store store_after faults faults_after (Err fail)
        → IsFailOfRun p.graph fail stop
        → Demonstrates rows p.graph start (stopped_at store_after faults_after) (Err stop)
    refused never fail stop c same = record {
      ends = by fail c same;
      out_count = NeverFalls-refl out_faults;
      spool_count = c.through.spool_cause.count;
    }
      where
        by : (fail : RunFail) → Evaluates r after rows rows_after store store_after faults faults_after (Err fail)
            → IsFailOfRun p.graph fail stop → FiguresEnd rows p.graph start (stopped_at store_after faults_after) (Err stop)
        by run.SourceFailed c same =
            absurd (never_rose p.graph rows rows_after demo c.through.goes.read never (c.through.read_cause refl))
        by (run.SourceDamaged node number) c same =
            absurd (keeps_none p.graph rows node number demo (c.through.says node number refl))
        by run.SpoolFailed c same = subst (λ (e : EvaluationFail). FiguresEnd rows p.graph start (stopped_at store_after faults_after) (Err e)) (sym same)
            (record { rose = c.through.spool_cause.failed refl; unwritten = record { out = refl; faults = refl } })
        by (run.Overflow number) c same =
            let over = c.overflow number refl in
            subst (λ (e : EvaluationFail). FiguresEnd rows p.graph start (stopped_at store_after faults_after) (Err e)) (sym same)
            (record {
              least = sym (over_is r after rows rows_after store store_after given rows_are is
                  c.through.goes over.0 loads) ∙ over.1;
              unwritten = record { out = refl; faults = refl };
            })

    module _ (c : Evaluates r after rows rows_after store store_after faults faults_after (Ok tt)) where
      pub unspooled : (count : ℕ) → count ≡ cell_count (result_shape after.plan)
          → (store_last : Option (List ℕ)) (faults_last : ℕ) (fail : RenderFail) (stop : EvaluationFail) → stop ≡ fail_of_text fail
          → HasCauseOf {T = Cell × Cell} text.SpoolFailed faults_after faults_last (Err fail) → IsRefusalWithin store_after 0 count fail
          → fail ≢ text.SinkFailed
          → Demonstrates rows p.graph start (stopped_at store_last faults_last) (Err stop)
      unspooled count count_is store_last faults_last fail stop same cause damage other = record {
        ends = by fail same cause damage other;
        out_count = NeverFalls-refl out_faults;
        spool_count = NeverFalls-trans c.through.spool_cause.count cause.count;
      }
        where
          by : (fail : RenderFail) → stop ≡ fail_of_text fail
              → HasCauseOf {T = Cell × Cell} text.SpoolFailed faults_after faults_last (Err fail) → IsRefusalWithin store_after 0 count fail
              → fail ≢ text.SinkFailed → FiguresEnd rows p.graph start (stopped_at store_last faults_last) (Err stop)
          by text.SpoolFailed same cause damage other =
              subst (λ (e : EvaluationFail). FiguresEnd rows p.graph start (stopped_at store_last faults_last) (Err e)) (sym same)
              (record {
                rose = then-Rose c.through.spool_cause.count (cause.failed refl);
                unwritten = record { out = refl; faults = refl };
              })
          by (text.SpoolDamaged number) same cause damage other =
              subst (λ (e : EvaluationFail). FiguresEnd rows p.graph start (stopped_at store_last faults_last) (Err e)) (sym same)
              (record {
                within = subst (λ (q : PlanOf). number < cell_count (result_shape q)) c.through.goes.plan
                    (subst (λ n. number < n) count_is damage.2);
                hidden = hidden r after rows rows_after store store_after given rows_are is c.through.goes damage.0;
                unwritten = record { out = refl; faults = refl };
              })
          by text.SinkFailed same cause damage other = absurd (other refl)

      -- ---- with the figures

      module _ (front : r.base ≡ 0) (count : ℕ) (count_is : count ≡ cell_count (result_shape after.plan))
          (first last : Cell) (at_first : IsSpooled store_after count 0 first) (at_last : IsSpooled store_after count (count - 1) last) where
        figures_of_meaning : IsVisible store → figures_text count first last ≡ demo_text (result_of rows p.graph)
        figures_of_meaning visible =
            of_meaning r after rows rows_after store store_after given rows_are is c.through.goes
            (λ (cube : Cube Cell). figures_text count first last ≡ demo_text cube)
            (shown r after rows rows_after store store_after faults faults_after is front c first last store_after count count_is at_first at_last)
            visible loads

        module _ (line : List ℕ) (line_is : line ≡ figures_text count first last) (store_last : Option (List ℕ)) (faults_last : ℕ)
            (count_falls : NeverFalls faults_after faults_last) (out_after : Option (List ℕ)) (out_faults_after : ℕ)
            (out_count : NeverFalls out_faults out_faults_after) where
          line_of_meaning : IsVisible store → line ≡ demo_text (result_of rows p.graph)
          line_of_meaning visible = line_is ∙ figures_of_meaning visible

          pub written : Appends out line out_after
              → Demonstrates rows p.graph start (ended out_after out_faults_after store_last faults_last) (Ok tt)
          written appends = record {
            ends = record {
              numbers = sym (over_is r after rows rows_after store store_after given rows_are is
                  c.through.goes c.through.done loads) ∙ c.numbers;
              text = λ visible. subst (λ t. Appends out t out_after) (line_of_meaning visible) appends;
            };
            out_count = out_count;
            spool_count = NeverFalls-trans c.through.spool_cause.count count_falls;
          }

          pub stopped_figures : Rose out_faults out_faults_after → AppendsPrefix out line out_after
              → Demonstrates rows p.graph start (ended out_after out_faults_after store_last faults_last) (Err WriteFault)
          stopped_figures rose prefix = record {
            ends = record {
              rose = rose;
              prefix = λ visible. subst (λ t. AppendsPrefix out t out_after) (line_of_meaning visible) prefix;
            };
            out_count = out_count;
            spool_count = NeverFalls-trans c.through.spool_cause.count count_falls;
          }

-- ---- how the command ends

module _ (seed side : ℕ) (size : ChunkSize) (workers : ℕ) (graph : CheckedGraph)
    (checked : IsCheckedText (dims_of (demonstration seed side)) demo_graph graph)
    (input : Option (List ℕ)) (input_faults : ℕ) (out : Option (List ℕ)) (out_faults : ℕ) (store : Option (List ℕ)) (faults : ℕ)
    (lent : List Row) where
  abbrev first : Objects
  first = objects input input_faults out out_faults store faults lent

  -- where the graph is planned, as its evaluation does
  module _ (p : PlanOf) (plan : IsPlanOf graph size workers p) (rows : List Row) (rows_are : rows ≡ demonstration seed side)
      (out_after : Option (List ℕ)) (out_faults_after : ℕ) (store_after : Option (List ℕ)) (faults_after : ℕ) where
    abbrev last : Objects
    last = objects input input_faults out_after out_faults_after store_after faults_after lent

    fits : bound_of graph size workers ≤ most_held_cells
    fits =
        subst (λ (n : ℕ). bound_of graph size n ≤ most_held_cells) plan.workers_are
        (subst (λ (s : ChunkSize). bound_of graph s p.workers ≤ most_held_cells) plan.size_is
        (subst (λ (c : CheckedGraph). bound_of c p.size p.workers ≤ most_held_cells) plan.graph_is plan.planned.bounded))

    demonstrated : (ended : Result (Unit {0}) EvaluationFail) → FiguresEnd rows p.graph first last ended
        → IsDemonstrated seed side size workers first last ended
    demonstrated ended e = record {
      graph = graph;
      text = checked;
      fits = fits;
      ends = subst (λ (c : CheckedGraph). FiguresEnd (demonstration seed side) c first last ended) plan.graph_is
          (subst (λ (rs : List Row). FiguresEnd rs p.graph first last ended) rows_are e);
    }

    pub finished : Demonstrates rows p.graph first last (Ok tt) → DemoAnswers seed side size workers first last (Ok tt)
    finished d = record {
      ends = demonstrated (Ok tt) d.ends;
      input_kept = (refl, refl);
      collections_kept = refl;
      out_count = d.out_count;
      spool_count = d.spool_count;
    }

    pub stopped : (fail : EvaluationFail) → Demonstrates rows p.graph first last (Err fail)
        → DemoAnswers seed side size workers first last (Err (Stopped fail))
    stopped fail d = record {
      ends = demonstrated (Err fail) d.ends;
      input_kept = (refl, refl);
      collections_kept = refl;
      out_count = d.out_count;
      spool_count = d.spool_count;
    }

  -- and where it would hold too many cells
  pub too_large : (cells : ℕ) → (cells ≡ bound_of graph size workers) × (most_held_cells < cells)
      → DemoAnswers seed side size workers first first (Err (TooLarge cells))
  too_large cells (is, over) = record {
    ends = record {
      graph = graph;
      text = checked;
      cells_are = is;
      over = over;
      untouched = record { out = refl; out_faults = refl; spool = refl; spool_faults = refl; collections = refl };
    };
    input_kept = (refl, refl);
    collections_kept = refl;
    out_count = NeverFalls-refl out_faults;
    spool_count = NeverFalls-refl faults;
  }

-- no fault stands in the graph
pub no_fault : (rows : List Row) → IsDemonstration rows → (dims : List DimsRow) (bytes : List ℕ) → dims ≡ dims_of rows
    → bytes ≡ demo_graph → (refusal : InputRefusal) (fault : Fault) → refusal ≡ Graph fault → JudgesBytes dims bytes (Err refusal) → ⊥
no_fault rows demo dims bytes dims_are bytes_are refusal fault is judged =
    let least : IsLeast (StandsOver dims bytes) fault = subst (λ (r : InputRefusal). JudgesBytes dims bytes (Err r)) is judged in
    let stands : StandsOver (dims_of rows) demo_graph fault.code fault.node =
    subst (λ (bs : List ℕ). StandsOver (dims_of rows) bs fault.code fault.node) bytes_are
    (subst (λ (ds : List DimsRow). StandsOver ds bytes fault.code fault.node) dims_are least.stands) in
    demo_valid demo.seed demo.side demo.most fault.code fault.node
    (subst (λ (rs : List Row). StandsOver (dims_of rs) demo_graph fault.code fault.node) demo.rows_are stands)
