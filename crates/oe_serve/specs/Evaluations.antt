-- What the rounds of a run that is made whole leave, and its text.
use Rattle.std.specs.Prelude.{◌≡◌, ◌⊎◌, ⊤, ℕ, ◌+◌, ◌<◌, List, ◌++◌, length, take, Option, None, Result, OnOk, IfOk, IfErr}
use Rattle.oe_engine.specs.Runs.{OfRun, RunOf, chunk_total}
use Rattle.oe_engine.specs.Results.{IsVisible, OfMeaning}
use Rattle.oe_engine.specs.Evaluations.{IsFirst, IsPlanOf, LeavesRun, ReadsForRun}
use Rattle.oe_graph.specs.Printed.{node_count}
use Rattle.oe_outside.specs.Faults.{NeverFalls, Rose}
use Rattle.oe_outside.specs.Visible.{Appends, AppendsPrefix}
use Rattle.oe_render.specs.Text.{cube_text}
use Rattle.oe_render.specs.declared.rendering.RenderFail.{RenderFail}
use Rattle.oe_render.specs.declared.rendering.RenderFail.TheVariants as render
use Rattle.oe_check.specs.Checked.{CheckedGraph}
use Rattle.oe_sources.specs.Catalogue.{Row}
use Rattle.oe_window.specs.declared.grid.ChunkSize.{ChunkSize}
use Rattle.oe_serve.specs.Links.{LinkOf}
use Rattle.oe_serve.specs.Results.{RunRefused}
use Rattle.oe_serve.specs.declared.refusal.ResultRefusal.{ResultRefusal}
use Rattle.oe_serve.specs.declared.refusal.ResultRefusal.TheVariants.{PlanTooLarge, ReadFault, SourceDamaged, SpoolFault, NumberOverflow, SpoolDamaged}
use Rattle.oe_serve.specs.declared.served.Served.{Served}
use Rattle.oe_serve.specs.declared.served.Served.TheVariants.{Answered, Cut, LinkFailed}

-- ---- before the first round

-- it is a run of this graph, with its records from a byte of the spool on
pub record IsBegun (c : CheckedGraph) (size : ChunkSize) (workers base : ℕ) (r : RunOf) : Type 0 where
  pub plan : IsPlanOf c size workers r.plan
  pub base_is : r.base ≡ base
  pub first : IsFirst r

-- ---- and the length of the text

-- why the text of so many cells could not be read back
abbrev pub TextRefused : Option (List ℕ) → ℕ → ℕ → ℕ → ResultRefusal → Type 0
TextRefused store cells faults faults_after (PlanTooLarge held) = ⊥
TextRefused store cells faults faults_after ReadFault = ⊥
TextRefused store cells faults faults_after (SourceDamaged load number) = ⊥
TextRefused store cells faults faults_after SpoolFault = Rose faults faults_after
TextRefused store cells faults faults_after (NumberOverflow number) = ⊥
TextRefused store cells faults faults_after (SpoolDamaged number) = (store ≡ None) × (number < cells)

-- all chunks of a run are done, and no cell of its result is Over
pub record IsComplete (before after : RunOf) : Type 0 where
  pub done : after.done ≡ chunk_total before.plan
  pub numbers : after.over ≡ None

-- All rounds of a run and the number of bytes of its text, or why there is none.
pub record Completes (before after : RunOf) (rows rows_after : List Row) (store store_after : Option (List ℕ))
    (faults faults_after : ℕ) (result : Result ℕ ResultRefusal) : Type 0 where
  pub goes : LeavesRun before after rows rows_after store store_after
  pub reads : ReadsForRun before.plan.graph before.plan.size rows rows_after
  pub complete : OnOk result (IsComplete before after)
  pub counted : IfOk result (λ count. IsVisible store
      → OfMeaning rows before.plan.graph (λ cube. count ≡ length (cube_text cube)))
  pub refused : IfErr result (RunRefused before.plan.graph rows rows_after store faults faults_after)
  pub spool_count : NeverFalls faults faults_after

-- ---- and the text

module _ (r : RunOf) (store : Option (List ℕ)) (faults faults_after : ℕ) (head : List ℕ)
    (link link_after : LinkOf) where
  -- these bytes, and then the text of a run's result
  pub record WritesText : Type 0 where
    pub text : List ℕ
    pub written : Appends link.written (head ++ text) link_after.written
    pub text_is : OfRun r store (λ cube. text ≡ cube_text cube)

  -- These bytes go out over a connection and then the text of a run's result, or not all of it.
  abbrev pub SendsRun : Served → Type 0
  SendsRun (Answered status) = (status ≡ 200) × WritesText
  SendsRun Cut =
      (Rose faults faults_after ⊎ (store ≡ None))
      × OfRun r store (λ cube. (n : ℕ) × Appends link.written (head ++ take n (cube_text cube)) link_after.written)
  SendsRun LinkFailed =
      Rose link.faults link_after.faults
      × OfRun r store (λ cube. AppendsPrefix link.written (head ++ cube_text cube) link_after.written)

  pub record SendsRunText (served : Served) : Type 0 where
    pub sends : SendsRun served
    pub count : NeverFalls link.faults link_after.faults

-- what becomes of a connection to which the text was not written whole
abbrev pub served_of : RenderFail → Served
served_of render.SpoolFailed = Cut
served_of (render.SpoolDamaged number) = Cut
served_of render.SinkFailed = LinkFailed

-- ---- and the reply, where there is none

-- the node of a damaged position is one of the graph, so that its collection can be named
abbrev pub CanBeNamed : CheckedGraph → ResultRefusal → Type 0
CanBeNamed c (PlanTooLarge cells) = ⊤
CanBeNamed c ReadFault = ⊤
CanBeNamed c (SourceDamaged load number) = load < node_count c.nodes
CanBeNamed c SpoolFault = ⊤
CanBeNamed c (NumberOverflow number) = ⊤
CanBeNamed c (SpoolDamaged number) = ⊤
