use Rattle.std.proofs.Common.{◌≡◌, length}
use Rattle.oe_plan.specs.Figures.{scratch_of}
use Rattle.oe_meanings.specs.Graphs.{Collections}
use Rattle.oe_check.specs.Laws.{AreCollectionsOf}
use Rattle.oe_steps.specs.Buffers.{lists_of}
use Rattle.oe_steps.specs.Steps.{AreCells, AreOfKind, EachLive, EachLoad, HaveRoomFor}
use Rattle.oe_steps.proofs.run.evaluate_steps.Given as goal

abbrev pub invariant-loop-step : goal.invariant-loop-step
invariant-loop-step l = record {
  room : HaveRoomFor l.schedule (lists_of l.buffers);
  scratch : length l.scratch ≡ scratch_of l.checked;
  kinds : EachLive l.checked l.schedule l.step (AreOfKind l.checked l.schedule l.windows (lists_of l.buffers));
  value : (collections : Collections) → AreCollectionsOf l.checked collections
      → EachLoad l.checked l.schedule (AreCells collections l.checked l.schedule l.windows (lists_of l.initial.buffers))
      → EachLive l.checked l.schedule l.step (AreCells collections l.checked l.schedule l.windows (lists_of l.buffers));
}
