-- What becomes of a graph that is run whole, in one call, to be answered with its result.
use Rattle.std.specs.Prelude.{◌≡◌, ℕ, ◌<◌, ◌≤◌, ◌+◌, ◌⊎◌, List, [], ◌++◌, length, take, codes, decimal, true, unwrap_or, Option, None}
use Rattle.oe_dims.specs.Dimensions.{cell_count}
use Rattle.oe_steps.specs.Collections.{LoadRose}
use Rattle.oe_engine.specs.Laws.{LoadsVisible}
use Rattle.oe_engine.specs.Results.{IsOverFirst, IsVisible, IsWithoutOver, OfMeaning}
use Rattle.oe_engine.specs.Evaluations.{ReadsForRun}
use Rattle.oe_steps.specs.Refusals.{KeepsDamage}
use Rattle.oe_steps.specs.declared.fail.RunFail.{RunFail}
use Rattle.oe_steps.specs.declared.fail.RunFail.TheVariants as run
use Rattle.oe_http.specs.Replies.{PlainResponse, reply_bytes, reply_head}
use Rattle.oe_outside.specs.Faults.{NeverFalls, Rose}
use Rattle.oe_outside.specs.Visible.{Appends, AppendsPrefix}
use Rattle.oe_plan.specs.Figures.{bound_of, most_held_cells, shape_of_node}
use Rattle.oe_plan.specs.Plans.{PlanOf}
use Rattle.oe_render.specs.Text.{cube_text}
use Rattle.oe_replies.specs.Answers.{refused_reply}
use Rattle.oe_replies.specs.Codes.{status_of}
use Rattle.oe_replies.specs.declared.code.ReplyCode.{ReplyCode}
use Rattle.oe_replies.specs.declared.code.ReplyCode.TheVariants as code
use Rattle.oe_jobs.specs.Kept.{Kept}
use Rattle.oe_service.specs.Causes.{Outside, outside}
use Rattle.oe_check.specs.Checked.{CheckedGraph, collection_of_node}
use Rattle.oe_sources.specs.Catalogue.{Row}
use Rattle.oe_window.specs.declared.grid.ChunkSize.{ChunkSize}
use Rattle.oe_serve.specs.Links.{LinkOf, SendsReply, link_of}
use Rattle.oe_serve.specs.declared.refusal.ResultRefusal.{ResultRefusal}
use Rattle.oe_serve.specs.declared.refusal.ResultRefusal.TheVariants.{PlanTooLarge, ReadFault, SourceDamaged, SpoolFault, NumberOverflow, SpoolDamaged}
use Rattle.oe_serve.specs.declared.served.Served.{Served}
use Rattle.oe_serve.specs.declared.served.Served.TheVariants.{Answered, Cut, LinkFailed}

-- ---- replies

abbrev pub code_of : ResultRefusal → ReplyCode
code_of (PlanTooLarge cells) = code.PlanTooLarge
code_of ReadFault = code.ReadFault
code_of (SourceDamaged load number) = code.SourceDamaged
code_of SpoolFault = code.SpoolFault
code_of (NumberOverflow number) = code.NumberOverflow
code_of (SpoolDamaged number) = code.SpoolDamaged

-- what the message says behind the code: a number of cells, a cell, or a collection and a position of it
abbrev pub detail_of : CheckedGraph → ResultRefusal → List ℕ
detail_of c (PlanTooLarge cells) = decimal cells
detail_of c ReadFault = []
detail_of c (SourceDamaged load number) = unwrap_or (collection_of_node c load) [] ++ codes " " ++ decimal number
detail_of c SpoolFault = []
detail_of c (NumberOverflow number) = decimal number
detail_of c (SpoolDamaged number) = decimal number

abbrev pub refusal_reply : CheckedGraph → ResultRefusal → PlainResponse
refusal_reply c refusal = refused_reply (code_of refusal) (detail_of c refusal)

-- the head of a result with so many bytes
abbrev pub result_head : ℕ → List ℕ
result_head count = reply_head 200 None None true count

-- why a run has no result, by why its rounds were refused
abbrev pub of_run : RunFail → ResultRefusal
of_run run.SourceFailed = ReadFault
of_run (run.SourceDamaged load number) = SourceDamaged load number
of_run run.SpoolFailed = SpoolFault
of_run (run.Overflow number) = NumberOverflow number

-- ---- causes

module _ (c : CheckedGraph) (rows rows_after : List Row) (spool : Option (List ℕ)) (faults faults_after : ℕ) where
  -- what was read back for the cell of a number is no record, which never comes of a spool whose bytes are visible
  pub record IsSpoolDamaged (number : ℕ) : Type 0 where
    pub within : number < cell_count (shape_of_node c c.result)
    pub hidden : spool ≡ None
    pub numbers : OfMeaning rows c IsWithoutOver

  -- why a run that was begun has no result
  abbrev pub RunRefused : ResultRefusal → Type 0
  RunRefused (PlanTooLarge cells) = ⊥
  RunRefused ReadFault = LoadRose c rows rows_after
  RunRefused (SourceDamaged load number) = KeepsDamage c rows load number
  RunRefused SpoolFault = Rose faults faults_after
  RunRefused (NumberOverflow number) = OfMeaning rows c (IsOverFirst number)
  RunRefused (SpoolDamaged number) = IsSpoolDamaged number

-- a run would hold more cells than are allowed, so many
pub record IsTooLarge (c : CheckedGraph) (size : ChunkSize) (workers cells : ℕ) : Type 0 where
  pub cells_are : cells ≡ bound_of c size workers
  pub over : most_held_cells < cells

module _ (c : CheckedGraph) (size : ChunkSize) (workers : ℕ) (before after : Outside) where
  -- it holds no more, and reads no more than a run does
  pub record IsRun : Type 0 where
    pub fits : bound_of c size workers ≤ most_held_cells
    pub reads : ReadsForRun c size before.rows after.rows

  -- No cell of the result is Over, and the text, of which the head says the length, is that of what the graph means.
  pub record IsResult (count : ℕ) (text : List ℕ) : Type 0 where
    pub is_run : IsRun
    pub numbers : OfMeaning before.rows c IsWithoutOver
    pub text_is : IsVisible before.spool → OfMeaning before.rows c (λ cube. text ≡ cube_text cube)
    pub count_is : IsVisible before.spool → OfMeaning before.rows c (λ cube. count ≡ length (cube_text cube))

  abbrev RunStops : ResultRefusal → Type 0
  RunStops refusal =
      IsRun × RunRefused c before.rows after.rows before.spool before.spool_faults after.spool_faults refusal

  -- why there is no result; out of memory has no cause, and is answered as it is for every request
  abbrev pub ResultRefused : ResultRefusal → Type 0
  ResultRefused (PlanTooLarge cells) = IsTooLarge c size workers cells
  ResultRefused ReadFault = RunStops ReadFault
  ResultRefused (SourceDamaged load number) = RunStops (SourceDamaged load number)
  ResultRefused SpoolFault = RunStops SpoolFault
  ResultRefused (NumberOverflow number) = RunStops (NumberOverflow number)
  ResultRefused (SpoolDamaged number) = RunStops (SpoolDamaged number)

-- ---- what goes out

module _ (c : CheckedGraph) (before after : Outside) (size : ℕ) (text : List ℕ) (link link_after : LinkOf) where
  -- the bytes of the spool and of all collections that the graph loads are visible
  abbrev AreShown : Type 0
  AreShown = IsVisible before.spool × LoadsVisible c before.rows

  -- The head of a result and its text go out whole; or all of the head and not all of the text, since the spool failed,
  -- or what was read back from it was no record; or as much as went out before the connection failed. What stands on it
  -- where it is not all is said where the bytes are visible that the text is made of.
  abbrev SendsText : Served → Type 0
  SendsText (Answered status) = (status ≡ 200) × Appends link.written (result_head size ++ text) link_after.written
  SendsText Cut =
      (Rose before.spool_faults after.spool_faults ⊎ (before.spool ≡ None))
      × (AreShown → (n : ℕ) × Appends link.written (result_head size ++ take n text) link_after.written)
  SendsText LinkFailed =
      Rose link.faults link_after.faults
      × (AreShown → AppendsPrefix link.written (result_head size ++ text) link_after.written)

  pub record SendsResult (served : Served) : Type 0 where
    pub sends : SendsText served
    pub count : NeverFalls link.faults link_after.faults

-- ---- how a graph is answered

module _ (c : CheckedGraph) (size : ChunkSize) (workers : ℕ) (before after : Outside) (link link_after : LinkOf)
    (served : Served) where
  pub data AnswersResult : Type 0 where
    -- with its result
    with_result : (count : ℕ) (text : List ℕ) → IsResult c size workers before after count text
        → SendsResult c before after count text link link_after served → AnswersResult
    -- with why it has none
    with_refusal : (refusal : ResultRefusal) → ResultRefused c size workers before after refusal
        → SendsReply (status_of (code_of refusal)) (reply_bytes (refusal_reply c refusal)) link link_after served
        → AnswersResult
    -- with that of out of memory
    without_memory : SendsReply 503 (reply_bytes (refused_reply code.OutOfMemory [])) link link_after served
        → AnswersResult

-- the run of a plan is answered so, over a connection of type L and a spool of type P, whatever the keeper is
abbrev pub AnswersRun : {L P : Type 0} → (L → Option (List ℕ)) → (L → Option (List ℕ)) → (L → ℕ) → (P → Option (List ℕ))
    → (P → ℕ) → PlanOf → List Row → P → L → List Row → P → L → Served → Type 0
AnswersRun left written link_faults bytes faults p rows spool link rows_after spool_after link_after served =
    (kept : Option Kept) (keeper_faults : ℕ)
    → AnswersResult p.graph p.size p.workers (outside rows (bytes spool) (faults spool) kept keeper_faults)
    (outside rows_after (bytes spool_after) (faults spool_after) kept keeper_faults)
    (link_of left written link_faults link) (link_of left written link_faults link_after) served
