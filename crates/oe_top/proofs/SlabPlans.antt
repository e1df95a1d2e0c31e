-- Figures of slab runs that are written.
use Rattle.std.proofs.Common.{List, ℕ, Ok, Err, ◌≡◌, sym, subst}
use Rattle.oe_outside.specs.Faults.{Rose}
use Rattle.oe_outside.specs.Visible.{Appends, AppendsPrefix}
use Rattle.oe_check.specs.Checked.{CheckedGraph}
use Rattle.oe_top.specs.Judged.{IsInput}
use Rattle.oe_top.specs.Objects.{Objects}
use Rattle.oe_top.specs.SlabPlanAnswer.{IsSlabLine, SlabPlanEnds}
use Rattle.oe_top.specs.declared.slab_plan.SlabPlanRefusal.TheVariants.{WriteFault}
use Rattle.oe_window.specs.declared.grid.ChunkSize.{ChunkSize}

module _ (size : ChunkSize) (before after : Objects) (graph : CheckedGraph) (line items : List ℕ)
    (input : IsInput before after graph) (same : line ≡ items) (is : IsSlabLine graph size items) where
  pub slab_plan_written : Appends before.out line after.out → SlabPlanEnds size before after (Ok tt)
  slab_plan_written written = record {
    graph = graph;
    input = input;
    line = line;
    is_line = subst (IsSlabLine graph size) (sym same) is;
    text = written;
  }

  pub slab_plan_stopped : Rose before.out_faults after.out_faults → AppendsPrefix before.out line after.out
      → SlabPlanEnds size before after (Err WriteFault)
  slab_plan_stopped rose prefix = record {
    graph = graph;
    input = input;
    line = line;
    is_line = subst (IsSlabLine graph size) (sym same) is;
    stops = record { rose = rose; prefix = prefix };
  }
