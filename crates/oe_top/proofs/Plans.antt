-- Plans that are written.
use Rattle.std.proofs.Common.{◌≡◌, ℕ, List, Ok, Err, subst}
use Rattle.oe_outside.specs.Faults.{Rose}
use Rattle.oe_outside.specs.Visible.{Appends, AppendsPrefix}
use Rattle.oe_check.specs.Checked.{CheckedGraph}
use Rattle.oe_top.specs.Judged.{IsInput}
use Rattle.oe_top.specs.Objects.{Objects}
use Rattle.oe_top.specs.PlanAnswer.{PlanEnds, plan_text}
use Rattle.oe_top.specs.declared.check.CheckRefusal.TheVariants.{WriteFault}
use Rattle.oe_window.specs.declared.grid.ChunkSize.{ChunkSize}

module _ (size : ChunkSize) (workers : ℕ) (before after : Objects) (graph : CheckedGraph) (line : List ℕ)
    (input : IsInput before after graph) (is : line ≡ plan_text graph size workers) where
  pub plan_written : Appends before.out line after.out → PlanEnds size workers before after (Ok tt)
  plan_written written = record {
    graph = graph;
    input = input;
    text = subst (λ text. Appends before.out text after.out) is written;
  }

  pub plan_stopped : Rose before.out_faults after.out_faults → AppendsPrefix before.out line after.out
      → PlanEnds size workers before after (Err WriteFault)
  plan_stopped rose prefix = record {
    graph = graph;
    input = input;
    stops = record { rose = rose; prefix = subst (λ text. AppendsPrefix before.out text after.out) is prefix };
  }
