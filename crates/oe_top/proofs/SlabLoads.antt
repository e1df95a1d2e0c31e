-- What a run reads that is folded slab by slab, by its plan and by its graph.
use Rattle.std.proofs.Common.{◌≡◌, ℕ, ◌+◌, ◌*◌, ◌≤◌, List, length, Option, slice_index, ap, ◌∙◌, subst}
use Rattle.std.specs.List.{count_by, range_with_len}
use Rattle.oe_engine.proofs.RunReads.{by_index}
use Rattle.oe_order.specs.Graph.{is_load}
use Rattle.oe_plan.specs.Figures.{chunks_of, steps_of}
use Rattle.oe_plan.specs.Schedules.{links_given}
use Rattle.oe_check.specs.Links.{links_of}
use Rattle.oe_slab.specs.Figures.{largest_slab}
use Rattle.oe_slab.specs.Plans.{IsSlabPlan, SlabPlanOf}
use Rattle.oe_slab.specs.Schedules.{load_count}
use Rattle.oe_sources.specs.Catalogue.{Row, cells_asked}
use Rattle.oe_top.specs.SlabEvaluated.{ReadsForSlabPlan, ReadsForSlabs, loads_before, slabs_of}

-- a plan has as many steps before the cut that load a collection as its graph
load_count_is : (p : SlabPlanOf) → IsSlabPlan p → load_count p.graph p.before ≡ loads_before p.graph p.fold
load_count_is p is =
    let steps = p.before.order.steps in
    ap (λ (given : Option ℕ). count_by (λ step. is_load (links_given (links_of p.graph.nodes) given) (slice_index steps step)) (range_with_len 0 (length steps)))
    is.schedules.before_given
    ∙ by_index (is_load (links_of p.graph.nodes)) steps
    ∙ ap (count_by (is_load (links_of p.graph.nodes)))
    (is.schedules.before_steps ∙ ap (λ (last : ℕ). steps_of (record p.graph { result = last })) is.schedules.before_last)

pub reads_for_slabs : (p : SlabPlanOf) → IsSlabPlan p → (rows rows_after : List Row) → ReadsForSlabPlan p rows rows_after
    → ReadsForSlabs p.graph p.size p.fold rows rows_after
reads_for_slabs p is rows rows_after reads = record {
  read = reads.read;
  asked = subst (λ (loads : ℕ). cells_asked rows_after
      ≤ cells_asked rows + chunks_of p.graph p.size * (slabs_of p.graph p.size p.fold * (loads * largest_slab p.graph p.size)))
      (load_count_is p is) reads.asked;
}
