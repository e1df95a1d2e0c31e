-- What the evaluation of a graph answers where it stops.
use Rattle.std.specs.Prelude.{◌≡◌, ⊤, ◌<◌, ℕ, ◌≤◌, List, length, Some}
use Rattle.oe_engine.specs.Runs.{RunOf}
use Rattle.oe_engine.specs.Evaluations.{IsFirst}
use Rattle.oe_steps.specs.declared.fail.RunFail.{RunFail}
use Rattle.oe_steps.specs.declared.fail.RunFail.TheVariants as run
use Rattle.oe_graph.specs.Printed.{node_count}
use Rattle.oe_plan.specs.Plans.{IsPlan}
use Rattle.oe_render.specs.declared.rendering.RenderFail.{RenderFail}
use Rattle.oe_render.specs.declared.rendering.RenderFail.TheVariants as text
use Rattle.oe_check.specs.Checked.{CheckedGraph, collection_of_node}
use Rattle.oe_top.specs.declared.evaluation.EvaluationFail.{EvaluationFail}
use Rattle.oe_top.specs.declared.evaluation.EvaluationFail.TheVariants.{Damaged, Overflow, ReadFault, SpoolDamaged, SpoolFault, WriteFault}

-- a run that stands before its first round
pub record IsBegun (r : RunOf) : Type 0 where
  pub planned : IsPlan r.plan
  pub first : IsFirst r

-- the node loads a collection whose id is valid, and so short enough to be named
pub record HasShortId (c : CheckedGraph) (node : ℕ) : Type 0 where
  pub within : node < node_count c.nodes
  pub id : List ℕ
  pub loads : collection_of_node c node ≡ Some id
  pub short : length id ≤ 64

-- so that its damaged positions can be named
abbrev pub CanBeNamed : CheckedGraph → RunFail → Type 0
CanBeNamed c run.SourceFailed = ⊤
CanBeNamed c (run.SourceDamaged node number) = HasShortId c node
CanBeNamed c run.SpoolFailed = ⊤
CanBeNamed c (run.Overflow number) = ⊤

-- why the rounds of a graph stopped, as that of its evaluation
abbrev pub IsFailOfRun : CheckedGraph → RunFail → EvaluationFail → Type 0
IsFailOfRun c run.SourceFailed fail = fail ≡ ReadFault
IsFailOfRun c (run.SourceDamaged node number) fail =
    (id : List ℕ) × (collection_of_node c node ≡ Some id) × (fail ≡ Damaged id number)
IsFailOfRun c run.SpoolFailed fail = fail ≡ SpoolFault
IsFailOfRun c (run.Overflow number) fail = fail ≡ Overflow number

-- why the writing of its text stopped, as that of its evaluation
abbrev pub fail_of_text : RenderFail → EvaluationFail
fail_of_text text.SpoolFailed = SpoolFault
fail_of_text (text.SpoolDamaged number) = SpoolDamaged number
fail_of_text text.SinkFailed = WriteFault
