-- The endings of commands as those of the call.
use Rattle.std.specs.Prelude.{Result, Ok, Err}
use Rattle.oe_top.specs.declared.check.CheckRefusal.{CheckRefusal}
use Rattle.oe_top.specs.declared.check.CheckRefusal.TheVariants as check
use Rattle.oe_top.specs.declared.demo.DemoRefusal.{DemoRefusal}
use Rattle.oe_top.specs.declared.demo.DemoRefusal.TheVariants as demo
use Rattle.oe_top.specs.declared.describe.DescribeRefusal.{DescribeRefusal}
use Rattle.oe_top.specs.declared.describe.DescribeRefusal.TheVariants as describe
use Rattle.oe_top.specs.declared.describe.UnwrittenCause.{UnwrittenCause}
use Rattle.oe_top.specs.declared.describe.UnwrittenCause.TheVariants as unwritten
use Rattle.oe_top.specs.declared.evaluation.EvaluationFail.{EvaluationFail}
use Rattle.oe_top.specs.declared.evaluation.EvaluationFail.TheVariants as evaluation
use Rattle.oe_top.specs.declared.judge.InputRefusal.{InputRefusal}
use Rattle.oe_top.specs.declared.judge.InputRefusal.TheVariants as input
use Rattle.oe_top.specs.declared.join.JoinRefusal.{JoinRefusal}
use Rattle.oe_top.specs.declared.join.JoinRefusal.TheVariants as join
use Rattle.oe_top.specs.declared.pack.PackRefusal.{PackRefusal}
use Rattle.oe_top.specs.declared.pack.PackRefusal.TheVariants as pack
use Rattle.oe_top.specs.declared.part.PartRefusal.{PartRefusal}
use Rattle.oe_top.specs.declared.part.PartRefusal.TheVariants as part
use Rattle.oe_top.specs.declared.refusal.Refusal.{Refusal}
use Rattle.oe_top.specs.declared.refusal.Refusal.TheVariants.{Graph, NoCubeText, NotMounted, NoTimeFold, ChunkRange, PartGraph, PartShape, PartSides, PartOverlap, ChunkMissing, TooLarge, Overflow, ReadFault, Damaged, PartDamaged, SpoolFault, WriteFault, OutOfMemory, SpoolDamaged}
use Rattle.oe_top.specs.declared.repack.RepackRefusal.{RepackRefusal}
use Rattle.oe_top.specs.declared.repack.RepackRefusal.TheVariants as repack
use Rattle.oe_top.specs.declared.run.RunRefusal.{RunRefusal}
use Rattle.oe_top.specs.declared.run.RunRefusal.TheVariants as run
use Rattle.oe_top.specs.declared.slab.SlabRefusal.{SlabRefusal}
use Rattle.oe_top.specs.declared.slab.SlabRefusal.TheVariants as slab
use Rattle.oe_top.specs.declared.slab_plan.SlabPlanRefusal.{SlabPlanRefusal}
use Rattle.oe_top.specs.declared.slab_plan.SlabPlanRefusal.TheVariants as slab_plan

-- the refusals of commands, by their own names

abbrev pub of_input : InputRefusal → Refusal
of_input (input.Graph fault) = Graph fault
of_input input.ReadFault = ReadFault
of_input input.OutOfMemory = OutOfMemory

abbrev pub of_evaluation : EvaluationFail → Refusal
of_evaluation (evaluation.Overflow number) = Overflow number
of_evaluation evaluation.ReadFault = ReadFault
of_evaluation (evaluation.Damaged id number) = Damaged id number
of_evaluation evaluation.SpoolFault = SpoolFault
of_evaluation evaluation.WriteFault = WriteFault
of_evaluation (evaluation.SpoolDamaged number) = SpoolDamaged number

abbrev pub of_run : RunRefusal → Refusal
of_run (run.Input refusal) = of_input refusal
of_run (run.TooLarge cells) = TooLarge cells
of_run run.OutOfMemory = OutOfMemory
of_run (run.Stopped fail) = of_evaluation fail

abbrev pub of_slab : SlabRefusal → Refusal
of_slab (slab.Input refusal) = of_input refusal
of_slab slab.NoTimeFold = NoTimeFold
of_slab (slab.TooLarge cells) = TooLarge cells
of_slab slab.OutOfMemory = OutOfMemory
of_slab (slab.Stopped fail) = of_evaluation fail

abbrev pub of_part : PartRefusal → Refusal
of_part (part.Input refusal) = of_input refusal
of_part part.ChunkRange = ChunkRange
of_part (part.TooLarge cells) = TooLarge cells
of_part part.OutOfMemory = OutOfMemory
of_part (part.Stopped fail) = of_evaluation fail

abbrev pub of_join : JoinRefusal → Refusal
of_join (join.Input refusal) = of_input refusal
of_join (join.Graph name) = PartGraph name
of_join (join.Shape name) = PartShape name
of_join (join.Sides name) = PartSides name
of_join (join.Overlap name) = PartOverlap name
of_join (join.Missing chunk) = ChunkMissing chunk
of_join join.OutOfMemory = OutOfMemory
of_join (join.Damaged name number) = PartDamaged name number
of_join (join.Stopped fail) = of_evaluation fail

abbrev pub of_check : CheckRefusal → Refusal
of_check (check.Input refusal) = of_input refusal
of_check check.WriteFault = WriteFault
of_check check.OutOfMemory = OutOfMemory

abbrev pub of_slab_plan : SlabPlanRefusal → Refusal
of_slab_plan (slab_plan.Input refusal) = of_input refusal
of_slab_plan slab_plan.NoTimeFold = NoTimeFold
of_slab_plan slab_plan.WriteFault = WriteFault
of_slab_plan slab_plan.OutOfMemory = OutOfMemory

abbrev pub of_demo : DemoRefusal → Refusal
of_demo (demo.TooLarge cells) = TooLarge cells
of_demo demo.OutOfMemory = OutOfMemory
of_demo (demo.Stopped fail) = of_evaluation fail

abbrev pub of_pack : PackRefusal → Refusal
of_pack pack.NoCubeText = NoCubeText
of_pack pack.ReadFault = ReadFault
of_pack pack.WriteFault = WriteFault
of_pack pack.OutOfMemory = OutOfMemory

abbrev pub of_repack : RepackRefusal → Refusal
of_repack repack.NotMounted = NotMounted
of_repack repack.ReadFault = ReadFault
of_repack (repack.Damaged id number) = Damaged id number
of_repack repack.WriteFault = WriteFault
of_repack repack.OutOfMemory = OutOfMemory

abbrev pub of_listing : UnwrittenCause → Refusal
of_listing unwritten.WriteFault = WriteFault
of_listing unwritten.OutOfMemory = OutOfMemory

abbrev pub of_describe : DescribeRefusal → Refusal
of_describe describe.NotMounted = NotMounted
of_describe (describe.Unwritten cause) = of_listing cause

-- the ending of a command whose refusals these are, as that of the call
abbrev pub ending_of : {E : Type 0} → (E → Refusal) → Result (Unit {0}) E → Result (Unit {0}) Refusal
ending_of of (Ok x) = Ok x
ending_of of (Err refusal) = Err (of refusal)
