-- How the evaluation of some chunks ends, by what their rounds left and by what was written of their part file.
use Rattle.std.proofs.Common.{◌≡◌, ℕ, ◌+◌, ◌-◌, ◌*◌, ◌≤◌, List, take, drop, Option, Some, None, Result, Ok, Err, refl, sym, ap, ◌∙◌, subst, arith}
use Rattle.oe_cell.specs.Cells.{IsCell}
use Rattle.oe_cell.specs.Record.{IsRecord, record_of}
use Rattle.oe_cell.proofs.RecordLemmas.{length-record_of}
use Rattle.oe_cell.specs.declared.cell.Cell.{Cell}
use Rattle.oe_cell.specs.declared.cell.Cell.TheVariants.{Empty}
use Rattle.oe_dims.specs.Cube.{Cube}
use Rattle.oe_dims.specs.Positions.{Position, number_of}
use Rattle.oe_engine.specs.Laws.{GivesCollections, LoadsVisible, collections_of}
use Rattle.oe_engine.specs.Parts.{HasPartDone}
use Rattle.oe_engine.specs.Runs.{PartRunOf, chunks_from, result_shape}
use Rattle.oe_engine.specs.Results.{IsVisible, OfMeaning, result_of}
use Rattle.oe_engine.specs.Evaluations.{loads_of}
use Rattle.oe_engine.proofs.RenderLemmas.{result_shape_is}
use Rattle.oe_engine.proofs.RunReads.{load_count_is}
use Rattle.oe_outside.proofs.Causes.{NeverFalls-refl, NeverFalls-trans, then-Rose}
use Rattle.oe_outside.specs.Faults.{HasCauseOf, NeverFalls}
use Rattle.oe_outside.specs.Visible.{Appends, AppendsPrefix}
use Rattle.oe_parts.proofs.ShownLemmas.{windows_valid}
use Rattle.oe_parts.specs.Head.{IsPartHead, PartHead}
use Rattle.oe_parts.specs.PartFile.{IsPartOf, chunks_of, part_bytes}
use Rattle.oe_parts.specs.Sent.{AppendsRecords}
use Rattle.oe_parts.specs.Spooled.{ShowsPart, TellsNoRecord}
use Rattle.oe_parts.specs.Rows.{HasNoRecordAt}
use Rattle.oe_plan.specs.Figures.{largest_window}
use Rattle.oe_plan.specs.Plans.{IsPlan, PlanOf}
use Rattle.oe_render.specs.declared.rendering.RenderFail.{RenderFail}
use Rattle.oe_render.specs.declared.rendering.RenderFail.TheVariants as text
use Rattle.oe_meanings.specs.Graphs.{Collections}
use Rattle.oe_check.specs.Laws.{AreCollectionsOf}
use Rattle.oe_sources.specs.Catalogue.{Row, cells_asked}
use Rattle.oe_sources.specs.CatalogueDims.{dims_of}
use Rattle.oe_outside.specs.Stored.{HoldsAt, StoreHolds}
use Rattle.oe_spool.specs.Spooled.{HoldsRecord, HoldsRecords, IsInSome, record_offset}
use Rattle.oe_window.specs.Cells.{cell_at}
use Rattle.oe_window.specs.declared.window.Window.{Window}
use Rattle.oe_steps.specs.declared.fail.RunFail.{RunFail}
use Rattle.oe_steps.specs.declared.fail.RunFail.TheVariants as run
use Rattle.oe_top.proofs.Evaluations.{nothing_more}
use Rattle.oe_top.specs.Evaluated.{IsFailOfRun, fail_of_text}
use Rattle.oe_top.specs.Objects.{Objects, objects}
use Rattle.oe_top.specs.PartAnswer.{ChunksEnd, EvaluatesChunks, head_for}
use Rattle.oe_top.specs.PartEvaluated.{GoesThroughPart, ReadsForPart}
use Rattle.oe_top.specs.declared.evaluation.EvaluationFail.{EvaluationFail}
use Rattle.oe_top.specs.declared.evaluation.EvaluationFail.TheVariants.{Damaged, ReadFault, SpoolDamaged, SpoolFault, WriteFault}

visible_bytes : (store : Option (List ℕ)) → IsVisible store → (all : List ℕ) × (store ≡ Some all)
visible_bytes None visible = absurd visible
visible_bytes (Some all) visible = (all, refl)

-- where the record of a valid cell stands there is a record
never_damaged : (store : Option (List ℕ)) (all : List ℕ) → store ≡ Some all → (number : ℕ) (cell : Cell) → IsCell cell
    → HoldsRecord store 0 number cell → HasNoRecordAt store (record_offset 0 number) → ⊥
never_damaged store all e number cell valid held none =
    let at = record_offset 0 number in
    let stands : HoldsAt all at (record_of cell) = subst (λ s. StoreHolds s at (record_of cell)) e held in
    let absent : ¬ IsRecord (take 17 (drop at all)) = subst (λ s. HasNoRecordAt s at) e none in
    absent (cell, valid, sym stands ∙ ap (λ n. take n (drop at all)) (length-record_of cell))

module _ (written : List ℕ) (r after : PartRunOf) (rows rows_after : List Row) (store store_after : Option (List ℕ)) (faults faults_after : ℕ)
    (given : GivesCollections rows) (rows_are : r.plan.graph.rows ≡ dims_of rows) (is : IsPlan r.plan) where
  abbrev p : PlanOf
  p = r.plan

  abbrev shown : Collections
  shown = collections_of rows

  abbrev end : ℕ
  end = r.first + r.count

  abbrev head : PartHead
  head = head_for written p.graph p.size r.first end

  are : AreCollectionsOf p.graph shown
  are = given.valid p.graph rows_are

  -- ---- before the file

  many : end - r.first ≡ r.count
  many = omega arith

  asked_are : ReadsForPart r rows rows_after
      → cells_asked rows_after ≤ cells_asked rows + (end - r.first) * (loads_of p.graph * largest_window p.graph p.size)
  asked_are reads =
      subst (λ (n : ℕ). cells_asked rows_after ≤ cells_asked rows + n * (loads_of p.graph * largest_window p.graph p.size)) (sym many)
      (subst (λ (loads : ℕ). cells_asked rows_after ≤ cells_asked rows + r.count * (loads * largest_window p.graph p.size))
      (load_count_is p is) reads.asked)

  module _ (input input_after : Option (List ℕ)) (input_faults input_faults_after : ℕ) (out : Option (List ℕ)) (out_faults : ℕ) where
    abbrev start : Objects
    start = objects input input_faults out out_faults store faults rows

    abbrev stop : Objects
    stop = objects input_after input_faults_after out out_faults store_after faults_after rows_after

    ended : (ending : Result (Unit {0}) EvaluationFail) → ReadsForPart r rows rows_after → NeverFalls faults faults_after
        → ChunksEnd written p.graph p.size r.first end start stop ending → EvaluatesChunks written p.graph p.size r.first end start stop ending
    ended ending reads count e = record { ends = e; read = reads.read; asked = asked_are reads; out_count = NeverFalls-refl out_faults; spool_count = count }

    pub chunks_refused : (fail : RunFail) (why : EvaluationFail) → ((number : ℕ) → ¬ (fail ≡ run.Overflow number))
        → GoesThroughPart r after rows rows_after store store_after faults faults_after (Err fail) → IsFailOfRun p.graph fail why
        → EvaluatesChunks written p.graph p.size r.first end start stop (Err why)
    chunks_refused run.SourceFailed why other h same =
        subst (λ (e : EvaluationFail). EvaluatesChunks written p.graph p.size r.first end start stop (Err e)) (sym same)
        (ended (Err ReadFault) h.reads h.spool_cause.count (h.read_cause refl, record { out = refl; faults = refl }))
    chunks_refused (run.SourceDamaged node number) why other h (id, loads, same) =
        subst (λ (e : EvaluationFail). EvaluatesChunks written p.graph p.size r.first end start stop (Err e)) (sym same)
        (ended (Err (Damaged id number)) h.reads h.spool_cause.count (record {
          node = node;
          loads = loads;
          keeps = h.says node number refl;
          unwritten = record { out = refl; faults = refl };
        }))
    chunks_refused run.SpoolFailed why other h same =
        subst (λ (e : EvaluationFail). EvaluatesChunks written p.graph p.size r.first end start stop (Err e)) (sym same)
        (ended (Err SpoolFault) h.reads h.spool_cause.count
        (h.spool_cause.failed refl, λ visible loads. nothing_more out _))
    chunks_refused (run.Overflow number) why other h same = absurd (other number refl)

  -- ---- with the file

  module _ (h : GoesThroughPart r after rows rows_after store store_after faults faults_after (Ok tt)) where
    -- the chunks of the file are those that were done
    chunks_are : chunks_of head ≡ chunks_from after.plan after.first after.done
    chunks_are =
        ap (chunks_from p r.first) many
        ∙ ap (λ n. chunks_from p r.first n) (sym h.done)
        ∙ ap (λ n. chunks_from p n after.done) (sym h.goes.first)
        ∙ ap (λ (q : PlanOf). chunks_from q after.first after.done) (sym h.goes.plan)

    module _ (front : after.base ≡ 0) where
      -- their records stand in the spool
      shows_part : IsVisible store → LoadsVisible p.graph rows → ShowsPart store_after 0 head (result_of rows p.graph)
      shows_part visible loads =
          let done : HasPartDone after store_after (result_of rows p.graph) = h.goes.values shown are (given.shown p.graph rows_are loads) in
          let seen = visible_bytes store_after (h.goes.visible visible) in
          record {
            shape = result_shape_is p is shown are;
            records = record {
              all = seen.0;
              visible = seen.1;
              held = subst (λ (base : ℕ). HoldsRecords store_after base (result_of rows p.graph) (IsInSome (chunks_of head))) front
                  (subst (λ (ws : List Window). HoldsRecords store_after after.base (result_of rows p.graph) (IsInSome ws)) (sym chunks_are) done.records);
              cells = subst (λ (ws : List Window). (q : Position) → IsInSome ws q → IsCell (cell_at Empty (result_of rows p.graph) q))
                  (sym chunks_are) done.valid;
            };
          }

      abbrev Holds : (Cube Cell → Type 0) → Type 0
      Holds P = (cube : Cube Cell) → ShowsPart store_after 0 head cube → P cube

      of_chunks : (P : Cube Cell → Type 0) → Holds P → IsVisible store → OfMeaning rows p.graph P
      of_chunks P holds visible loads = holds (result_of rows p.graph) (shows_part visible loads)

      abbrev Tells : RenderFail → Type 0
      Tells fail = TellsNoRecord store_after 0 head.shape (IsInSome (chunks_of head)) fail

      -- a record that is none was read back from hidden bytes
      hidden_damage : (number : ℕ) → Tells (text.SpoolDamaged number) → store ≡ None
      hidden_damage number (q, among, number_is, none) = by store refl
        where
          same_number : number_of (result_shape after.plan) q ≡ number
          same_number = ap (λ (plan : PlanOf). number_of (result_shape plan) q) h.goes.plan ∙ number_is

          by : (s : Option (List ℕ)) → store ≡ s → store ≡ None
          by None e = e
          by (Some bytes) e =
              let seen = visible_bytes store_after (h.goes.visible (subst IsVisible (sym e) tt)) in
              let some = h.goes.records q (subst (λ (ws : List Window). IsInSome ws q) chunks_are among) in
              absurd (never_damaged store_after seen.0 seen.1 number some.cell some.valid
              (subst (λ (n : ℕ). HoldsRecord store_after 0 n some.cell) same_number
              (subst (λ (base : ℕ). HoldsRecord store_after base (number_of (result_shape after.plan) q) some.cell) front some.held)) none)

      module _ (input input_after : Option (List ℕ)) (input_faults input_faults_after : ℕ) (out out_after : Option (List ℕ)) (out_faults out_faults_after faults_last : ℕ) where
        abbrev begun : Objects
        begun = objects input input_faults out out_faults store faults rows

        abbrev stopped : Objects
        stopped = objects input_after input_faults_after out_after out_faults_after store_after faults_last rows_after

        last : (ending : Result (Unit {0}) EvaluationFail) → NeverFalls faults_after faults_last → NeverFalls out_faults out_faults_after
            → ChunksEnd written p.graph p.size r.first end begun stopped ending → EvaluatesChunks written p.graph p.size r.first end begun stopped ending
        last ending count out_count e = record {
          ends = e;
          read = h.reads.read;
          asked = asked_are h.reads;
          out_count = out_count;
          spool_count = NeverFalls-trans h.spool_cause.count count;
        }

        -- the bytes that follow are the part of a cube, whose cells are valid there
        is_part : IsPartHead head → (cube : Cube Cell) → ShowsPart store_after 0 head cube → IsPartOf (part_bytes head cube) head cube
        is_part valid cube shows = record {
          valid = valid;
          shape = shows.shape;
          cells = windows_valid cube (chunks_of head) shows.records.cells;
          bytes_are = refl;
        }

        abbrev WritesPartOf : Cube Cell → Type 0
        WritesPartOf cube = (bytes : List ℕ) × IsPartOf bytes head cube × Appends out bytes out_after

        pub part_written : IsPartHead head → AppendsRecords out head out_after → Holds (λ cube. Appends out (part_bytes head cube) out_after)
            → NeverFalls faults_after faults_last → NeverFalls out_faults out_faults_after
            → EvaluatesChunks written p.graph p.size r.first end begun stopped (Ok tt)
        part_written valid records appends count out_count =
            last (Ok tt) count out_count (record {
              records = records;
              of_meaning = of_chunks WritesPartOf (λ cube shows. (part_bytes head cube, is_part valid cube shows, appends cube shows));
            })

        pub part_stopped : (fail : RenderFail) (why : EvaluationFail) → why ≡ fail_of_text fail
            → Holds (λ cube. AppendsPrefix out (part_bytes head cube) out_after)
            → HasCauseOf {T = Unit {0}} text.SpoolFailed faults_after faults_last (Err fail)
            → HasCauseOf {T = Unit {0}} text.SinkFailed out_faults out_faults_after (Err fail)
            → Tells fail → EvaluatesChunks written p.graph p.size r.first end begun stopped (Err why)
        part_stopped text.SpoolFailed why same prefix spool sink damage =
            subst (λ (e : EvaluationFail). EvaluatesChunks written p.graph p.size r.first end begun stopped (Err e)) (sym same)
            (last (Err SpoolFault) spool.count sink.count (
              then-Rose h.spool_cause.count (spool.failed refl),
              of_chunks (λ cube. AppendsPrefix out (part_bytes head cube) out_after) prefix,
            ))
        part_stopped (text.SpoolDamaged number) why same prefix spool sink damage =
            subst (λ (e : EvaluationFail). EvaluatesChunks written p.graph p.size r.first end begun stopped (Err e)) (sym same)
            (last (Err (SpoolDamaged number)) spool.count sink.count
            (record { position = damage.0; inside = damage.1; number_is = damage.2; hidden = hidden_damage number damage }))
        part_stopped text.SinkFailed why same prefix spool sink damage =
            subst (λ (e : EvaluationFail). EvaluatesChunks written p.graph p.size r.first end begun stopped (Err e)) (sym same)
            (last (Err WriteFault) spool.count sink.count (
              sink.failed refl,
              of_chunks (λ cube. AppendsPrefix out (part_bytes head cube) out_after) prefix,
            ))
