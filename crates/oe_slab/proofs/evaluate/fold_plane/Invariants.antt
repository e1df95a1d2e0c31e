use Rattle.std.proofs.Common.{◌≡◌, ◌≤◌, ◌<◌, ◌+◌, ◌-◌, ◌^◌, ◌*◌, min, ℕ, Bool, length, Ok, Some}
use Rattle.oe_fold.specs.declared.reducer.Reducer.{Reducer}
use Rattle.oe_meanings.specs.Graphs.{Collections}
use Rattle.oe_check.specs.Laws.{AreCollectionsOf}
use Rattle.oe_check.specs.Reach.{time_fold_of_node}
use Rattle.oe_sources.specs.CatalogueRows.{rows_of}
use Rattle.oe_steps.specs.Buffers.{lists_of}
use Rattle.oe_steps.specs.Collections.{Shows}
use Rattle.oe_steps.specs.Loads.{HasRead}
use Rattle.oe_steps.specs.Steps.{HaveRoomFor}
use Rattle.oe_slab.specs.Figures.{largest_slab}
use Rattle.oe_slab.specs.Folds.{HaveRoom, HaveSeenKind}
use Rattle.oe_slab.specs.Plans.{slab_count}
use Rattle.oe_slab.specs.Schedules.{load_count}
use Rattle.oe_slab.specs.Slabs.{HaveFolded, cube_taken, dates_of_fold, kind_taken}
use Rattle.oe_slab.proofs.evaluate.fold_plane.Given as goal

-- the dates so far are folded
abbrev pub invariant-loop-from : goal.invariant-loop-from
invariant-loop-from g l =
    let before = rows_of (λ z. (goal.SharedSource-dyn g z).CubeSource.seen z.1) l.fn.catalogue in
    let now = rows_of (λ z. (goal.SharedSource-dyn g z).CubeSource.seen z.1) l.catalogue in
    record {
      upto : l.from ≤ l.dates;
      long : length l.folds ≡ length l.fn.folds;
      windows : length l.windows ≡ length l.fn.windows;
      scratch : length l.scratch ≡ length l.fn.scratch;
      buffers : HaveRoomFor l.plan.before (lists_of l.buffers);
      read : (slabs : ℕ) × (slabs ≤ slab_count l.plan) × (min (slabs * l.plan.size.t) (dates_of_fold l.plan.graph l.plan.fold) ≡ l.from)
          × HasRead l.plan.graph (slabs * (load_count l.plan.graph l.plan.before * largest_slab l.plan.graph l.plan.size)) before now (Ok tt);
      room : (more : ℕ) → more + l.from < 2 ^ 63 → HaveRoom l.folds more;
      kinds : (reducer : Reducer) (ignores_nulls : Bool) → time_fold_of_node l.plan.graph l.plan.fold ≡ Some (reducer, ignores_nulls)
          → HaveSeenKind (kind_taken l.plan.graph l.plan.fold) l.from l.folds reducer ignores_nulls;
      seen : (collections : Collections) → AreCollectionsOf l.plan.graph collections → Shows l.plan.graph before collections
          → (reducer : Reducer) (ignores_nulls : Bool) → time_fold_of_node l.plan.graph l.plan.fold ≡ Some (reducer, ignores_nulls)
          → HaveFolded l.folds reducer ignores_nulls (cube_taken collections l.plan.graph l.plan.fold) l.plane l.from;
    }

abbrev pub decreases-loop-from : goal.decreases-loop-from
decreases-loop-from g l = l.dates - l.from
