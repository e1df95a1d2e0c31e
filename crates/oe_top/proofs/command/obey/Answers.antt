use Rattle.oe_sources.specs.CatalogueRows.{rows_of}
use Rattle.oe_top.proofs.Ended.{ends_describe, ends_join, ends_of, ends_pack, ends_repack, ends_usage}
use Rattle.oe_top.specs.declared.words.Command.TheVariants.{Run, Part, Plan, Slab, SlabPlan, Demo, Check, Explain, DescribeAll}
use Rattle.oe_top.proofs.command.obey.Goals as goal

pub returns-in-Some-Run : goal.returns-in-Some-Run
returns-in-Some-Run g c =
    ends_of c.args.words.now (Run c.in-Some-Run.size c.in-Some-Run.workers) _ _ _ c.ending_of_run.result
    (rw c.in-Some-Run.field-0-is at c.in-Some-Run.ensures.some) (c.run.result, c.ending_of_run.ensures, c.run.ensures)

pub returns-in-Some-Part : goal.returns-in-Some-Part
returns-in-Some-Part g c =
    ends_of c.args.words.now (Part c.in-Some-Part.size c.in-Some-Part.workers c.in-Some-Part.first c.in-Some-Part.end) _ _ _
    c.ending_of_part.result (rw c.in-Some-Part.field-0-is at c.in-Some-Part.ensures.some)
    (c.part.result, c.ending_of_part.ensures, c.part.ensures)

pub returns-in-Some-Join : goal.returns-in-Some-Join
returns-in-Some-Join g c =
    ends_join c.args.words.now _ _ _ _ c.ending_of_join.result (rw c.in-Some-Join.field-0-is at c.in-Some-Join.ensures.some)
    (c.join.result, c.ending_of_join.ensures, c.join.ensures)

pub returns-in-Some-Plan : goal.returns-in-Some-Plan
returns-in-Some-Plan g c =
    ends_of c.args.words.now (Plan c.in-Some-Plan.size c.in-Some-Plan.workers) _ _ _ c.ending_of_check.result
    (rw c.in-Some-Plan.field-0-is at c.in-Some-Plan.ensures.some) (c.plan.result, c.ending_of_check.ensures, c.plan.ensures _ _)

pub returns-in-Some-Slab : goal.returns-in-Some-Slab
returns-in-Some-Slab g c =
    ends_of c.args.words.now (Slab c.in-Some-Slab.size) _ _ _ c.ending_of_slab.result
    (rw c.in-Some-Slab.field-0-is at c.in-Some-Slab.ensures.some) (c.slab.result, c.ending_of_slab.ensures, c.slab.ensures)

pub returns-in-Some-SlabPlan : goal.returns-in-Some-SlabPlan
returns-in-Some-SlabPlan g c =
    ends_of c.args.words.now (SlabPlan c.in-Some-SlabPlan.size) _ _ _ c.ending_of_slab_plan.result
    (rw c.in-Some-SlabPlan.field-0-is at c.in-Some-SlabPlan.ensures.some) (c.slab_plan.result, c.ending_of_slab_plan.ensures, c.slab_plan.ensures _ _)

pub returns-in-Some-Demo : goal.returns-in-Some-Demo
returns-in-Some-Demo g c =
    ends_of c.args.words.now (Demo c.in-Some-Demo.seed c.in-Some-Demo.side c.in-Some-Demo.size c.in-Some-Demo.workers) _ _ _
    c.ending_of_demo.result (rw c.in-Some-Demo.field-0-is at c.in-Some-Demo.ensures.some)
    (c.demo.result, c.ending_of_demo.ensures, c.demo.ensures _ _ _)

pub returns-in-Some-Check : goal.returns-in-Some-Check
returns-in-Some-Check g c =
    ends_of c.args.words.now Check _ _ _ c.ending_of_check-in-Some-Check.result
    (rw c.in-Some-Check.field-0-is at c.in-Some-Check.ensures.some)
    (c.check.result, c.ending_of_check-in-Some-Check.ensures, c.check.ensures _ _)

pub returns-in-Some-Explain : goal.returns-in-Some-Explain
returns-in-Some-Explain g c =
    ends_of c.args.words.now Explain _ _ _ c.ending_of_check-in-Some-Explain.result
    (rw c.in-Some-Explain.field-0-is at c.in-Some-Explain.ensures.some)
    (c.explain.result, c.ending_of_check-in-Some-Explain.ensures, c.explain.ensures _ _)

pub returns-in-Some-Pack : goal.returns-in-Some-Pack
returns-in-Some-Pack g c =
    let rows = rows_of (λ z. (goal.SharedSource-dyn g z).CubeSource.seen z.1) c.args.catalogue.now in
    ends_pack c.args.words.now c.index-words-1.result _ _ _ c.pack.result c.ending_of_pack.result c.ending_of_pack.ensures
    (rw c.in-Some-Pack.field-0-is at c.in-Some-Pack.ensures.some) c.index-words-1.is
    (c.pack.ensures (g.P.Store.bytes c.args.spool.now) (g.P.Store.faults c.args.spool.now) rows)

pub returns-in-Some-Repack : goal.returns-in-Some-Repack
returns-in-Some-Repack g c =
    ends_repack c.args.words.now c.index-words-1-in-Some-Repack.result _ _ _ c.repack.result c.ending_of_repack.result
    c.ending_of_repack.ensures
    (rw c.in-Some-Repack.field-0-is at c.in-Some-Repack.ensures.some) c.index-words-1-in-Some-Repack.is
    (c.repack.ensures (g.I.Source.left c.args.input.now) (g.I.Source.faults c.args.input.now) (g.P.Store.bytes c.args.spool.now)
    (g.P.Store.faults c.args.spool.now))

pub returns-in-Some-DescribeAll : goal.returns-in-Some-DescribeAll
returns-in-Some-DescribeAll g c =
    ends_of c.args.words.now DescribeAll _ _ _ c.ending_of_listing.result
    (rw c.in-Some-DescribeAll.field-0-is at c.in-Some-DescribeAll.ensures.some) (
      c.describe_all.result,
      c.ending_of_listing.ensures,
      c.describe_all.ensures (g.I.Source.left c.args.input.now)
          (g.I.Source.faults c.args.input.now) (g.P.Store.bytes c.args.spool.now) (g.P.Store.faults c.args.spool.now),
    )

pub returns-in-Some-Describe : goal.returns-in-Some-Describe
returns-in-Some-Describe g c =
    ends_describe c.args.words.now c.index-words-1-in-Some-Describe.result _ _ _ c.describe.result c.ending_of_describe.result
    c.ending_of_describe.ensures
    (rw c.in-Some-Describe.field-0-is at c.in-Some-Describe.ensures.some) c.index-words-1-in-Some-Describe.is
    (c.describe.ensures (g.I.Source.left c.args.input.now) (g.I.Source.faults c.args.input.now) (g.P.Store.bytes c.args.spool.now)
    (g.P.Store.faults c.args.spool.now))

pub returns-in-None : goal.returns-in-None
returns-in-None g c = ends_usage c.args.words.now _ _ c.in-None.ensures.none
