-- How the command `join` ends: the table of its statuses, one case a row.
use Rattle.std.specs.Prelude.{◌≡◌, ◌<◌, ◌⊎◌, ℕ, ◌+◌, List, slice_get, None, Some, IfSome, Result, Ok, Err}
use Rattle.oe_engine.specs.Results.{IsOverFirst, IsVisible, IsWithoutOver}
use Rattle.oe_dims.specs.Cube.{Cube, IsCube}
use Rattle.oe_dims.specs.Dimensions.{Dimensions, cell_count}
use Rattle.oe_cell.specs.declared.cell.Cell.{Cell}
use Rattle.oe_graph.specs.Form.{most_input}
use Rattle.oe_outside.specs.Faults.{NeverFalls, Rose}
use Rattle.oe_outside.specs.Input.{TakesAtMost}
use Rattle.oe_outside.specs.Visible.{Appends, AppendsPrefix}
use Rattle.oe_parts.specs.Laid.{AreUndamaged}
use Rattle.oe_parts.specs.PartFile.{IsDamagedAt}
use Rattle.oe_parts.specs.Parts.{ArePartsRead, PartState, ShowPartsOf, heads_of}
use Rattle.oe_parts.specs.Whole.{AreWhole, RunOutline, SaysMisfit}
use Rattle.oe_parts.specs.declared.whole.Misfit.{Misfit}
use Rattle.oe_parts.specs.declared.whole.Misfit.TheVariants as misfit
use Rattle.oe_plan.specs.Figures.{shape_of_node}
use Rattle.oe_render.specs.Text.{cube_text}
use Rattle.oe_check.specs.Checked.{CheckedGraph}
use Rattle.oe_top.specs.PartAnswer.{kind_of_result}
use Rattle.oe_top.specs.Judged.{IsInputText, IsRefused}
use Rattle.oe_top.specs.Objects.{Objects, IsUntouched}
use Rattle.oe_top.specs.Written.{IsUnwritten, OfSomeCube}
use Rattle.oe_top.specs.declared.evaluation.EvaluationFail.{EvaluationFail}
use Rattle.oe_top.specs.declared.evaluation.EvaluationFail.TheVariants.{Overflow, ReadFault, Damaged, SpoolFault, WriteFault, SpoolDamaged}
use Rattle.oe_top.specs.declared.join.JoinRefusal.{JoinRefusal}
use Rattle.oe_top.specs.declared.join.JoinRefusal.TheVariants as join

-- what the parts are to be parts of
abbrev pub outline_of_run : List ℕ → CheckedGraph → RunOutline
outline_of_run text c = record { graph = text; kind = kind_of_result c; shape = shape_of_node c c.result }

-- Something holds of each cube of this shape that the parts show. Where they are parts of what a graph means over the
-- collections of a call, as `part` writes them over the same collections, that cube is `result_of` these.
abbrev pub OfParts : Dimensions → List PartState → (Cube Cell → Type 0) → Type 0
OfParts shape parts Holds = (cube : Cube Cell) → IsCube cube → cube.shape ≡ shape → ShowPartsOf cube parts → Holds cube

-- ---- how parts that are a whole are joined

module _ (shape : Dimensions) (parts : List PartState) (before after : Objects) where
  -- 0: no record is damaged, no cell is Over, and the text of the cube follows what the output held. Whatever is visible,
  -- it is the text of some cube of this shape, no cell of which is Over.
  pub record WritesJoined : Type 0 where
    pub undamaged : AreUndamaged parts
    pub numbers : OfParts shape parts IsWithoutOver
    pub text : IsVisible before.spool → OfParts shape parts (λ cube. Appends before.out (cube_text cube) after.out)
    pub stored : OfSomeCube shape (λ cube. Appends before.out (cube_text cube) after.out)

  -- no record is damaged, no cell is Over, and a prefix of that text follows what the output held; whatever is visible,
  -- it is one of the text of such a cube
  pub record BeginsJoined : Type 0 where
    pub undamaged : AreUndamaged parts
    pub numbers : OfParts shape parts IsWithoutOver
    pub prefix : IsVisible before.spool
        → OfParts shape parts (λ cube. AppendsPrefix before.out (cube_text cube) after.out)
    pub stored : OfSomeCube shape (λ cube. AppendsPrefix before.out (cube_text cube) after.out)

  -- 4: no record is damaged, and this is the least number of a cell that is Over
  pub record JoinOverflows (number : ℕ) : Type 0 where
    pub undamaged : AreUndamaged parts
    pub least : OfParts shape parts (IsOverFirst number)
    pub unwritten : IsUnwritten before after

  -- 7: the spool failed, before the text, and nothing was written, or in it
  abbrev pub StopsAtJoinedSpool : Type 0
  StopsAtJoinedSpool = Rose before.spool_faults after.spool_faults × (IsUnwritten before after ⊎ BeginsJoined)

  -- 8: the output failed in the text
  abbrev pub StopsAtJoinedText : Type 0
  StopsAtJoinedText = Rose before.out_faults after.out_faults × BeginsJoined

  -- 15: in the text, what was read back from the spool for this cell is no record, or that of Over, which never comes of
  -- a spool whose bytes are visible
  pub record MeetsJoinedSpoolDamage (number : ℕ) : Type 0 where
    pub within : number < cell_count shape
    pub begins : BeginsJoined
    pub hidden : before.spool ≡ None

  -- 6: the part of this name has no record for a position
  pub record MeetsPartDamage (name : List ℕ) (number : ℕ) : Type 0 where
    pub index : ℕ
    pub part : PartState
    pub at : slice_get parts index ≡ Some part
    pub name_is : part.name ≡ name
    pub damaged : IfSome part.bytes (λ bytes. IsDamagedAt bytes part.head number)
    pub unwritten : IsUnwritten before after

module _ (shape : Dimensions) (parts parts_after : List PartState) (before after : Objects) where
  -- 5: a part could not be read
  pub record PartRose : Type 0 where
    pub index : ℕ
    pub old : PartState
    pub new : PartState
    pub before_at : slice_get parts index ≡ Some old
    pub after_at : slice_get parts_after index ≡ Some new
    pub rose : Rose old.faults new.faults
    pub unwritten : IsUnwritten before after

  abbrev pub JoiningStops : EvaluationFail → Type 0
  JoiningStops (Overflow number) = JoinOverflows shape parts before after number
  JoiningStops ReadFault = PartRose
  JoiningStops (Damaged id number) = ⊥
  JoiningStops SpoolFault = StopsAtJoinedSpool shape parts before after
  JoiningStops WriteFault = StopsAtJoinedText shape parts before after
  JoiningStops (SpoolDamaged number) = MeetsJoinedSpoolDamage shape parts before after number

  abbrev pub JoiningEnds : Result (Unit {0}) JoinRefusal → Type 0
  JoiningEnds (Ok x) = WritesJoined shape parts before after
  JoiningEnds (Err (join.Damaged name number)) = MeetsPartDamage shape parts before after name number
  JoiningEnds (Err (join.Stopped fail)) = JoiningStops fail
  JoiningEnds (Err (join.Input refusal)) = ⊥
  JoiningEnds (Err (join.Graph name)) = ⊥
  JoiningEnds (Err (join.Shape name)) = ⊥
  JoiningEnds (Err (join.Sides name)) = ⊥
  JoiningEnds (Err (join.Overlap name)) = ⊥
  JoiningEnds (Err (join.Missing chunk)) = ⊥
  JoiningEnds (Err join.OutOfMemory) = ⊥

-- ---- parts that are no whole

-- the part at an index has a name of which something holds
abbrev pub OfNameAt : List PartState → ℕ → (List ℕ → Type 0) → Type 0
OfNameAt parts index Holds = (part : PartState) × (slice_get parts index ≡ Some part) × Holds part.name

-- a misfit as a refusal, which has the name of the part to blame
abbrev pub IsMisfitNamed : List PartState → Misfit → JoinRefusal → Type 0
IsMisfitNamed parts (misfit.Graph index) refusal = OfNameAt parts index (λ name. refusal ≡ join.Graph name)
IsMisfitNamed parts (misfit.Shape index) refusal = OfNameAt parts index (λ name. refusal ≡ join.Shape name)
IsMisfitNamed parts (misfit.Sides index) refusal = OfNameAt parts index (λ name. refusal ≡ join.Sides name)
IsMisfitNamed parts (misfit.Overlap index) refusal = OfNameAt parts index (λ name. refusal ≡ join.Overlap name)
IsMisfitNamed parts (misfit.Missing chunk) refusal = refusal ≡ join.Missing chunk

-- ---- how the command ends

module _ (parts parts_after : List PartState) (before after : Objects) where
  -- nothing but the input was touched, and no part was read
  pub record IsBeforeParts : Type 0 where
    pub untouched : IsUntouched before after
    pub parts_stay : parts_after ≡ parts

  -- the input is a graph without a fault, and the parts are all chunks of its run, each once
  pub record IsJoined (ending : Result (Unit {0}) JoinRefusal) : Type 0 where
    pub text : List ℕ
    pub graph : CheckedGraph
    pub input : IsInputText before after text graph
    pub whole : AreWhole (outline_of_run text graph) (heads_of parts)
    pub ends : JoiningEnds (shape_of_node graph graph.result) parts parts_after before after ending

  -- 2: they are not, for this reason
  pub record IsMisfit (refusal : JoinRefusal) : Type 0 where
    pub text : List ℕ
    pub graph : CheckedGraph
    pub input : IsInputText before after text graph
    pub misfit : Misfit
    pub says : SaysMisfit (outline_of_run text graph) (heads_of parts) misfit
    pub named : IsMisfitNamed parts misfit refusal
    pub stopped : IsBeforeParts

  abbrev pub JoinEnds : Result (Unit {0}) JoinRefusal → Type 0
  JoinEnds (Ok x) = IsJoined (Ok x)
  JoinEnds (Err (join.Input refusal)) = IsRefused before after refusal × IsBeforeParts
  JoinEnds (Err (join.Graph name)) = IsMisfit (join.Graph name)
  JoinEnds (Err (join.Shape name)) = IsMisfit (join.Shape name)
  JoinEnds (Err (join.Sides name)) = IsMisfit (join.Sides name)
  JoinEnds (Err (join.Overlap name)) = IsMisfit (join.Overlap name)
  JoinEnds (Err (join.Missing chunk)) = IsMisfit (join.Missing chunk)
  JoinEnds (Err join.OutOfMemory) = IsBeforeParts
  JoinEnds (Err (join.Damaged name number)) = IsJoined (Err (join.Damaged name number))
  JoinEnds (Err (join.Stopped fail)) = IsJoined (Err (join.Stopped fail))

  -- Nothing is read of the collections but their labels: all that stands in the text comes from the parts.
  pub record JoinAnswers (ending : Result (Unit {0}) JoinRefusal) : Type 0 where
    pub ends : JoinEnds ending
    pub collections : after.collections ≡ before.collections
    pub parts_read : ArePartsRead parts parts_after
    pub input_taken : TakesAtMost before.input (most_input + 1) after.input
    pub input_count : NeverFalls before.input_faults after.input_faults
    pub out_count : NeverFalls before.out_faults after.out_faults
    pub spool_count : NeverFalls before.spool_faults after.spool_faults
