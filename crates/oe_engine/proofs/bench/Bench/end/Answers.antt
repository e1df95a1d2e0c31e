use Rattle.std.proofs.Common.{sym, subst}
use Rattle.oe_steps.specs.Buffers.{lists_of}
use Rattle.oe_engine.specs.Hulls.{HasLoadedSteps, IsBegun}
use Rattle.oe_engine.proofs.BenchLemmas.{bench}
use Rattle.oe_engine.proofs.BenchLoadLemmas.{loaded_bench}
use Rattle.oe_plan.specs.Plans.{schedule_of}
use Rattle.oe_plan.proofs.ScheduleLemmas.{plan_schedule}
use Rattle.oe_steps.proofs.LoadLemmas.{each_loaded}
use Rattle.oe_engine.specs.Loads.{IsLoadedAt}
use Rattle.oe_engine.proofs.bench.Bench.end.Goals as goal

pub returns : goal.returns
returns c = record {
  loaded = λ p rows count is loads begun each.
      let inside = c.self.inside in
      let windows = inside.windows.items in
      let buffers = lists_of inside.buffers.items in
      let scratch = inside.scratch.items in
      let was : IsBegun p (bench inside.state windows buffers scratch) = subst (IsBegun p) (sym c.self.view_is) begun in
      let had : HasLoadedSteps p rows count c.args.chunk (bench inside.state windows buffers scratch) =
      subst (HasLoadedSteps p rows count c.args.chunk) (sym c.self.view_is) each in
      loaded_bench p windows buffers scratch was.room.windows was.room.buffers was.room.scratch rows c.args.chunk had.chunk.within had.chunk.windows
      (each_loaded p.graph (schedule_of p) (plan_schedule p is) (IsLoadedAt p rows windows buffers) count loads.load loads.work had.loaded);
}
