-- How joining ends, by what laying out the parts left and by what was written of the text.
use Rattle.std.proofs.Common.{◌≡◌, ◌<◌, ◌+◌, ℕ, zero, suc, List, [], ◌∷◌, length, slice_get, Option, Some, None, IfSome, Result, Ok, Err, inl, inr, refl, sym, ap, ◌∙◌, subst, arith}
use Rattle.std.specs.Prelude.{⊤}
use Rattle.std.proofs.lemmas.List.{length-map}
use Rattle.std.proofs.lemmas.Option.{slice_get_within}
use Rattle.oe_cell.specs.declared.cell.Cell.{Cell}
use Rattle.oe_dims.specs.Dimensions.{Dimensions, cell_count}
use Rattle.oe_dims.specs.Positions.{IsPosition}
use Rattle.oe_dims.specs.declared.kind.CellKind.{CellKind}
use Rattle.oe_engine.proofs.RenderLemmas.{cells_of_cube}
use Rattle.oe_engine.proofs.RunRounds.{still_visible}
use Rattle.oe_engine.specs.Results.{IsOverFirst, IsVisible, IsWithoutOver}
use Rattle.oe_graph.specs.Form.{most_input}
use Rattle.oe_outside.proofs.Causes.{NeverFalls-refl, then-Rose}
use Rattle.oe_outside.specs.Faults.{HasCauseOf, NeverFalls}
use Rattle.oe_outside.specs.Input.{TakesAtMost}
use Rattle.oe_outside.specs.Visible.{Appends, AppendsPrefix}
use Rattle.oe_parts.specs.Head.{PartHead}
use Rattle.oe_parts.specs.Laid.{LayStops, Lays}
use Rattle.oe_parts.specs.Parts.{ArePartsRead, PartState, heads_of}
use Rattle.oe_parts.specs.Whole.{AreWhole, Overlaps, RunOutline, SaysMisfit}
use Rattle.oe_parts.specs.declared.laying.LayFail.TheVariants.{PartDamaged, PartFailed, SpoolFailed}
use Rattle.oe_parts.specs.declared.whole.Misfit.{Misfit}
use Rattle.oe_parts.specs.declared.whole.Misfit.TheVariants as misfit
use Rattle.oe_parts.proofs.PartSteps.{parts_unread}
use Rattle.oe_plan.specs.Figures.{shape_of_node}
use Rattle.oe_check.specs.Checked.{CheckedGraph, outline_of_node}
use Rattle.oe_render.specs.Rendered.{AppendsCube, AppendsCubePrefix, IsRefusalWithin}
use Rattle.oe_render.specs.Stored.{AreStored}
use Rattle.oe_render.specs.Text.{cube_text}
use Rattle.oe_render.specs.declared.rendering.RenderFail.{RenderFail}
use Rattle.oe_render.specs.declared.rendering.RenderFail.TheVariants as text
use Rattle.oe_sources.specs.Catalogue.{Row}
use Rattle.oe_spool.specs.Spooled.{ChangesOnly, HoldsCube, IsRecordByte}
use Rattle.oe_top.proofs.Evaluations.{some_cube}
use Rattle.oe_top.specs.Evaluated.{fail_of_text}
use Rattle.oe_top.specs.JoinAnswer.{BeginsJoined, IsBeforeParts, IsJoined, IsMisfit, IsMisfitNamed, JoinAnswers, JoinEnds, JoiningEnds, OfNameAt, OfParts, outline_of_run}
use Rattle.oe_top.specs.Judged.{IsInputText, IsRefused}
use Rattle.oe_top.specs.Objects.{IsUntouched, Objects, objects}
use Rattle.oe_top.specs.PartAnswer.{kind_of_result}
use Rattle.oe_top.specs.declared.evaluation.EvaluationFail.{EvaluationFail}
use Rattle.oe_top.specs.declared.evaluation.EvaluationFail.TheVariants.{Overflow, ReadFault, SpoolDamaged, SpoolFault}
use Rattle.oe_top.specs.declared.join.JoinRefusal.{JoinRefusal}
use Rattle.oe_top.specs.declared.join.JoinRefusal.TheVariants as join
use Rattle.oe_top.specs.declared.judge.InputRefusal.{InputRefusal}

module _ (shape : Dimensions) (parts parts_after : List PartState) (store laid : Option (List ℕ))
    (changes : ChangesOnly 0 shape (IsPosition shape) store laid) where
  seen : IsVisible store → IsVisible laid
  seen = still_visible (IsRecordByte 0 shape (IsPosition shape)) store laid changes

  hidden : laid ≡ None → store ≡ None
  hidden none = by store refl
    where
      by : (s : Option (List ℕ)) → store ≡ s → store ≡ None
      by None e = e
      by (Some bytes) e =
          let after_none : IsVisible None = subst IsVisible none (seen (subst IsVisible (sym e) tt)) in
          absurd after_none

  -- ---- the text of what was laid out

  module _ (least : Option ℕ) (lays : Lays 0 shape parts laid least) where
    -- cells that stand there are those of the cube that the parts show
    same_text : (bytes : List ℕ) → laid ≡ Some bytes → (cells : List Cell) → AreStored (Some bytes) 0 (cell_count shape) cells
        → OfParts shape parts (λ cube. cube_text (record { shape = shape; cells = cells }) ≡ cube_text cube)
    same_text bytes e cells are cube is of_shape shown =
        let done = lays.cube cube is of_shape shown in
        let held : HoldsCube (Some bytes) 0 cube = subst (λ s. HoldsCube s 0 cube) e done.held in
        let same : cells ≡ cube.cells = cells_of_cube bytes 0 cube held done.valid (cell_count shape) (ap cell_count (sym of_shape)) cells are in
        ap (λ d. cube_text (record { shape = d; cells = cells })) (sym of_shape)
        ∙ ap (λ cs. cube_text (record { shape = cube.shape; cells = cs })) same

    joined_text : (before after : Option (List ℕ)) → AppendsCube laid 0 shape before after → IsVisible store
        → OfParts shape parts (λ cube. Appends before (cube_text cube) after)
    joined_text before after h visible cube is of_shape shown = by laid refl (seen visible) h
      where
        by : (s : Option (List ℕ)) → laid ≡ s → IsVisible s → AppendsCube s 0 shape before after → Appends before (cube_text cube) after
        by None e v h = absurd v
        by (Some bytes) e v h = subst (λ t. Appends before t after) (same_text bytes e h.0 h.1 cube is of_shape shown) h.2

    joined_prefix : (before after : Option (List ℕ)) → AppendsCubePrefix laid 0 shape before after → IsVisible store
        → OfParts shape parts (λ cube. AppendsPrefix before (cube_text cube) after)
    joined_prefix before after h visible cube is of_shape shown = by laid refl (seen visible) h
      where
        by : (s : Option (List ℕ)) → laid ≡ s → IsVisible s → AppendsCubePrefix s 0 shape before after → AppendsPrefix before (cube_text cube) after
        by None e v h = absurd v
        by (Some bytes) e v h = subst (λ t. AppendsPrefix before t after) (same_text bytes e h.0 h.1 cube is of_shape shown) h.2

    no_over : least ≡ None → OfParts shape parts IsWithoutOver
    no_over none cube is of_shape shown = sym (lays.cube cube is of_shape shown).least_is ∙ none

    over_first : (number : ℕ) → least ≡ Some number → OfParts shape parts (IsOverFirst number)
    over_first number some cube is of_shape shown = sym (lays.cube cube is of_shape shown).least_is ∙ some

  -- ---- how it ends

  module _ (input input_after : Option (List ℕ)) (input_faults input_faults_after : ℕ) (rows : List Row)
      (out out_after : Option (List ℕ)) (out_faults out_faults_after faults faults_after : ℕ) where
    abbrev begun : Objects
    begun = objects input input_faults out out_faults store faults rows

    abbrev ended : Objects
    ended = objects input_after input_faults_after out_after out_faults_after laid faults_after rows

    pub joined : Lays 0 shape parts laid None → AppendsCube laid 0 shape out out_after
        → JoiningEnds shape parts parts_after begun ended (Ok tt)
    joined lays h = record {
      undamaged = lays.undamaged;
      numbers = no_over None lays refl;
      text = joined_text None lays out out_after h;
      stored = some_cube laid 0 shape (λ cube. Appends out (cube_text cube) out_after) h;
    }

    begins : Lays 0 shape parts laid None → AppendsCubePrefix laid 0 shape out out_after → BeginsJoined shape parts begun ended
    begins lays h = record {
      undamaged = lays.undamaged;
      numbers = no_over None lays refl;
      prefix = joined_prefix None lays out out_after h;
      stored = some_cube laid 0 shape (λ cube. AppendsPrefix out (cube_text cube) out_after) h;
    }

    pub join_stopped : (faults_laid : ℕ) (fail : RenderFail) (why : EvaluationFail) → why ≡ fail_of_text fail → Lays 0 shape parts laid None
        → AppendsCubePrefix laid 0 shape out out_after → NeverFalls faults faults_laid
        → HasCauseOf {T = Unit {0}} text.SpoolFailed faults_laid faults_after (Err fail)
        → HasCauseOf {T = Unit {0}} text.SinkFailed out_faults out_faults_after (Err fail)
        → IsRefusalWithin laid 0 (cell_count shape) fail
        → JoiningEnds shape parts parts_after begun ended (Err (join.Stopped why))
    join_stopped faults_laid text.SpoolFailed why same lays h count spool sink damage =
        subst (λ (e : EvaluationFail). JoiningEnds shape parts parts_after begun ended (Err (join.Stopped e))) (sym same)
        (then-Rose count (spool.failed refl), inr (begins lays h))
    join_stopped faults_laid (text.SpoolDamaged number) why same lays h count spool sink damage =
        subst (λ (e : EvaluationFail). JoiningEnds shape parts parts_after begun ended (Err (join.Stopped e))) (sym same)
        (record { within = damage.2; begins = begins lays h; hidden = hidden damage.0 })
    join_stopped faults_laid text.SinkFailed why same lays h count spool sink damage =
        subst (λ (e : EvaluationFail). JoiningEnds shape parts parts_after begun ended (Err (join.Stopped e))) (sym same)
        (sink.failed refl, begins lays h)

  -- before the text
  module _ (input input_after : Option (List ℕ)) (input_faults input_faults_after : ℕ) (rows : List Row)
      (out : Option (List ℕ)) (out_faults faults faults_laid : ℕ) where
    abbrev first : Objects
    first = objects input input_faults out out_faults store faults rows

    abbrev last : Objects
    last = objects input_after input_faults_after out out_faults laid faults_laid rows

    pub join_overflows : (number : ℕ) → Lays 0 shape parts laid (Some number)
        → JoiningEnds shape parts parts_after first last (Err (join.Stopped (Overflow number)))
    join_overflows number lays = record {
      undamaged = lays.undamaged;
      least = over_first (Some number) lays number refl;
      unwritten = record { out = refl; faults = refl };
    }

    pub join_reads_none : (index : ℕ) → LayStops parts parts_after faults faults_laid (PartFailed index)
        → JoiningEnds shape parts parts_after first last (Err (join.Stopped ReadFault))
    join_reads_none index (old, new, before_at, after_at, rose) = record {
      index = index;
      old = old;
      new = new;
      before_at = before_at;
      after_at = after_at;
      rose = rose;
      unwritten = record { out = refl; faults = refl };
    }

    pub join_meets_damage : (index number : ℕ) (name : List ℕ) → LayStops parts parts_after faults faults_laid (PartDamaged index number)
        → ArePartsRead parts parts_after → OfNameAt parts_after index (λ called. name ≡ called)
        → JoiningEnds shape parts parts_after first last (Err (join.Damaged name number))
    join_meets_damage index number name (part, at, damaged) read (new, new_at, called) = record {
      index = index;
      part = part;
      at = at;
      name_is = sym (called ∙ (read.each index part new at new_at).name);
      damaged = damaged;
      unwritten = record { out = refl; faults = refl };
    }

    pub join_spools_none : LayStops parts parts_after faults faults_laid SpoolFailed
        → JoiningEnds shape parts parts_after first last (Err (join.Stopped SpoolFault))
    join_spools_none rose = (rose, inl (record { out = refl; faults = refl }))

-- ---- the part to blame

-- the part that a misfit names is there
abbrev pub IsThere : List PartState → Misfit → Type 0
IsThere parts (misfit.Graph index) = index < length parts
IsThere parts (misfit.Shape index) = index < length parts
IsThere parts (misfit.Sides index) = index < length parts
IsThere parts (misfit.Overlap index) = index < length parts
IsThere parts (misfit.Missing chunk) = ⊤

head_there : (parts : List PartState) (index : ℕ) (head : PartHead) → slice_get (heads_of parts) index ≡ Some head → index < length parts
head_there parts index head at =
    let within : index < length (heads_of parts) = slice_get_within (heads_of parts) index head at in
    let many : length (heads_of parts) ≡ length parts = length-map parts (λ (part : PartState). part.head) in
    omega (arith, within, many)

overlap_there : (parts : List PartState) (index : ℕ) → Overlaps (heads_of parts) index → index < length parts
overlap_there parts index (before, k, less, other, has) = head_there parts index has.0 has.1

pub misfit_there : (run : RunOutline) (parts : List PartState) (wrong : Misfit) → SaysMisfit run (heads_of parts) wrong → IsThere parts wrong
misfit_there run parts (misfit.Graph index) says = head_there parts index says.head says.at
misfit_there run parts (misfit.Shape index) says = head_there parts index says.head says.at
misfit_there run parts (misfit.Sides index) says = head_there parts index says.head says.at
misfit_there run parts (misfit.Overlap index) (sides, of_run, overlaps, before) = overlap_there parts index overlaps
misfit_there run parts (misfit.Missing chunk) says = tt

-- a part that is damaged is there, and still is after the reads
pub damage_there : (parts parts_after : List PartState) (faults faults_after index number : ℕ)
    → LayStops parts parts_after faults faults_after (PartDamaged index number) → ArePartsRead parts parts_after → index < length parts_after
damage_there parts parts_after faults faults_after index number (part, at, damaged) read =
    let within : index < length parts = slice_get_within parts index part at in
    let many : length parts_after ≡ length parts = read.many in
    omega (arith, within, many)

-- its name
pub named_at : (parts : List PartState) (index : ℕ) → index < length parts → (called : List ℕ)
    → IfSome (slice_get parts index) (λ part. called ≡ part.name) → (name : List ℕ) → name ≡ called
    → OfNameAt parts index (λ own. name ≡ own)
named_at [] index within called is name same = absurd (omega arith)
named_at (part ∷ parts) zero within called is name same = (part, refl, same ∙ is)
named_at (part ∷ parts) (suc index) within called is name same = named_at parts index (omega arith) called is name same

-- a refusal with its name
pub refusal_named : (parts : List PartState) (index : ℕ) (name : List ℕ) (refusal_of : List ℕ → JoinRefusal)
    → OfNameAt parts index (λ own. name ≡ own) → OfNameAt parts index (λ own. refusal_of name ≡ refusal_of own)
refusal_named parts index name refusal_of (part, at, same) = (part, at, ap refusal_of same)

-- ---- the command

-- the run of a graph, by what was asked of the graph
abbrev pub run_of : List ℕ → CellKind → Dimensions → RunOutline
run_of graph kind shape = record { graph = graph; kind = kind; shape = shape }

pub same_run : (graph : List ℕ) (kind : CellKind) (shape : Dimensions) (node : ℕ) (written : List ℕ) (c : CheckedGraph) → node ≡ c.result
    → graph ≡ written → kind ≡ (outline_of_node c node).kind → shape ≡ shape_of_node c node → run_of graph kind shape ≡ outline_of_run written c
same_run graph kind shape node written c result_is text_is kind_is shape_is =
    let kind_of : kind ≡ kind_of_result c = kind_is ∙ ap (λ (n : ℕ). (outline_of_node c n).kind) result_is in
    let shape_of : shape ≡ shape_of_node c c.result = shape_is ∙ ap (λ (n : ℕ). shape_of_node c n) result_is in
    ap (λ (g : List ℕ). run_of g kind shape) text_is
    ∙ ap (λ (k : CellKind). run_of written k shape) kind_of
    ∙ ap (λ (d : Dimensions). run_of written (kind_of_result c) d) shape_of

-- nothing was read but the input
module _ (parts : List PartState) (before after : Objects) (taken : TakesAtMost before.input (most_input + 1) after.input)
    (count : NeverFalls before.input_faults after.input_faults) (untouched : IsUntouched before after) where
  unread : (ending : Result (Unit {0}) JoinRefusal) → JoinEnds parts parts before after ending → JoinAnswers parts parts before after ending
  unread ending ends = record {
    ends = ends;
    collections = untouched.collections;
    parts_read = parts_unread parts;
    input_taken = taken;
    input_count = count;
    out_count = subst (λ (n : ℕ). NeverFalls before.out_faults n) (sym untouched.out_faults) (NeverFalls-refl before.out_faults);
    spool_count = subst (λ (n : ℕ). NeverFalls before.spool_faults n) (sym untouched.spool_faults) (NeverFalls-refl before.spool_faults);
  }

  stopped : IsBeforeParts parts parts before after
  stopped = record { untouched = untouched; parts_stay = refl }

  -- it is no graph without a fault
  pub join_refused : (refusal : InputRefusal) → IsRefused before after refusal
      → JoinAnswers parts parts before after (Err (join.Input refusal))
  join_refused refusal refused = unread (Err (join.Input refusal)) (refused, stopped)

  -- there is no memory
  pub join_lacks_memory : JoinAnswers parts parts before after (Err join.OutOfMemory)
  join_lacks_memory = unread (Err join.OutOfMemory) stopped

  -- the parts are no whole
  module _ (written : List ℕ) (graph : CheckedGraph) (input : IsInputText before after written graph) where
    is_misfit : (wrong : Misfit) (refusal : JoinRefusal) → SaysMisfit (outline_of_run written graph) (heads_of parts) wrong
        → IsMisfitNamed parts wrong refusal → IsMisfit parts parts before after refusal
    is_misfit wrong refusal says named = record {
      text = written;
      graph = graph;
      input = input;
      misfit = wrong;
      says = says;
      named = named;
      stopped = stopped;
    }

    misfit_ends : (wrong : Misfit) (refusal : JoinRefusal) → SaysMisfit (outline_of_run written graph) (heads_of parts) wrong
        → IsMisfitNamed parts wrong refusal → JoinEnds parts parts before after (Err refusal)
    misfit_ends (misfit.Graph index) refusal says (part, at, is) =
        subst (λ (r : JoinRefusal). JoinEnds parts parts before after (Err r)) (sym is)
        (is_misfit (misfit.Graph index) (join.Graph part.name) says (part, at, refl))
    misfit_ends (misfit.Shape index) refusal says (part, at, is) =
        subst (λ (r : JoinRefusal). JoinEnds parts parts before after (Err r)) (sym is)
        (is_misfit (misfit.Shape index) (join.Shape part.name) says (part, at, refl))
    misfit_ends (misfit.Sides index) refusal says (part, at, is) =
        subst (λ (r : JoinRefusal). JoinEnds parts parts before after (Err r)) (sym is)
        (is_misfit (misfit.Sides index) (join.Sides part.name) says (part, at, refl))
    misfit_ends (misfit.Overlap index) refusal says (part, at, is) =
        subst (λ (r : JoinRefusal). JoinEnds parts parts before after (Err r)) (sym is)
        (is_misfit (misfit.Overlap index) (join.Overlap part.name) says (part, at, refl))
    misfit_ends (misfit.Missing chunk) refusal says is =
        subst (λ (r : JoinRefusal). JoinEnds parts parts before after (Err r)) (sym is)
        (is_misfit (misfit.Missing chunk) (join.Missing chunk) says refl)

    pub join_refuses : (run : RunOutline) → run ≡ outline_of_run written graph → (wrong : Misfit) → SaysMisfit run (heads_of parts) wrong
        → (refusal : JoinRefusal) → IsMisfitNamed parts wrong refusal → JoinAnswers parts parts before after (Err refusal)
    join_refuses run same wrong says refusal named =
        unread (Err refusal) (misfit_ends wrong refusal
        (subst (λ (r : RunOutline). SaysMisfit r (heads_of parts) wrong) same says) named)

-- the parts are a whole
module _ (parts parts_after : List PartState) (before after : Objects) (written : List ℕ) (graph : CheckedGraph)
    (input : IsInputText before after written graph) (taken : TakesAtMost before.input (most_input + 1) after.input)
    (count : NeverFalls before.input_faults after.input_faults) (collections : after.collections ≡ before.collections)
    (run : RunOutline) (same : run ≡ outline_of_run written graph) (whole : AreWhole run (heads_of parts)) where
  is_joined : (ending : Result (Unit {0}) JoinRefusal) → JoiningEnds (shape_of_node graph graph.result) parts parts_after before after ending
      → IsJoined parts parts_after before after ending
  is_joined ending ends = record {
    text = written;
    graph = graph;
    input = input;
    whole = subst (λ (r : RunOutline). AreWhole r (heads_of parts)) same whole;
    ends = ends;
  }

  joined_ends : (ending : Result (Unit {0}) JoinRefusal) → JoiningEnds (shape_of_node graph graph.result) parts parts_after before after ending
      → JoinEnds parts parts_after before after ending
  joined_ends (Ok x) ends = is_joined (Ok x) ends
  joined_ends (Err (join.Damaged name number)) ends = is_joined (Err (join.Damaged name number)) ends
  joined_ends (Err (join.Stopped fail)) ends = is_joined (Err (join.Stopped fail)) ends
  joined_ends (Err (join.Input refusal)) ends = absurd ends
  joined_ends (Err (join.Graph name)) ends = absurd ends
  joined_ends (Err (join.Shape name)) ends = absurd ends
  joined_ends (Err (join.Sides name)) ends = absurd ends
  joined_ends (Err (join.Overlap name)) ends = absurd ends
  joined_ends (Err (join.Missing chunk)) ends = absurd ends
  joined_ends (Err join.OutOfMemory) ends = absurd ends

  pub join_ends : (ending : Result (Unit {0}) JoinRefusal) → JoiningEnds run.shape parts parts_after before after ending
      → ArePartsRead parts parts_after → NeverFalls before.out_faults after.out_faults
      → NeverFalls before.spool_faults after.spool_faults → JoinAnswers parts parts_after before after ending
  join_ends ending ends read out_count spool_count = record {
    ends = joined_ends ending
        (subst (λ (r : RunOutline). JoiningEnds r.shape parts parts_after before after ending) same ends);
    collections = collections;
    parts_read = read;
    input_taken = taken;
    input_count = count;
    out_count = out_count;
    spool_count = spool_count;
  }
