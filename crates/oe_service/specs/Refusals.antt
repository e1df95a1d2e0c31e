-- The codes that a job fails with.
use Rattle.std.specs.Prelude.{ℕ, List, codes}
use Rattle.oe_graph.specs.Codes.{name_of}
use Rattle.oe_steps.specs.declared.fail.RunFail.{RunFail}
use Rattle.oe_steps.specs.declared.fail.RunFail.TheVariants as run
use Rattle.oe_plan.specs.declared.plan.PlanFail.{PlanFail}
use Rattle.oe_plan.specs.declared.plan.PlanFail.TheVariants as plan
use Rattle.oe_render.specs.declared.rendering.RenderFail.{RenderFail}
use Rattle.oe_render.specs.declared.rendering.RenderFail.TheVariants as text
use Rattle.oe_service.specs.declared.refusal.RunRefusal.{RunRefusal}
use Rattle.oe_service.specs.declared.refusal.RunRefusal.TheVariants.{Graph, PlanTooLarge, ReadFault, SourceDamaged, SpoolFault, SpoolDamaged, NumberOverflow, AssetTooLarge, OutOfMemory}

abbrev pub code_of : RunRefusal → List ℕ
code_of (Graph code) = name_of code
code_of PlanTooLarge = codes "PlanTooLarge"
code_of ReadFault = codes "ReadFault"
code_of SourceDamaged = codes "SourceDamaged"
code_of SpoolFault = codes "SpoolFault"
code_of SpoolDamaged = codes "SpoolDamaged"
code_of NumberOverflow = codes "NumberOverflow"
code_of AssetTooLarge = codes "AssetTooLarge"
code_of OutOfMemory = codes "OutOfMemory"

-- ---- of what the layers below answer

-- a plan
abbrev pub of_plan : PlanFail → RunRefusal
of_plan (plan.TooLarge cells) = PlanTooLarge
of_plan plan.OutOfMemory = OutOfMemory

-- a round
abbrev pub of_round : RunFail → RunRefusal
of_round run.SourceFailed = ReadFault
of_round (run.SourceDamaged node number) = SourceDamaged
of_round run.SpoolFailed = SpoolFault
of_round (run.Overflow number) = NumberOverflow

-- the writing of a text into bounded room
abbrev pub of_text : RenderFail → RunRefusal
of_text text.SpoolFailed = SpoolFault
of_text (text.SpoolDamaged number) = SpoolDamaged
of_text text.SinkFailed = AssetTooLarge
