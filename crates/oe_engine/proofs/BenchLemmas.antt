-- A bench that is evaluated.
use Rattle.std.proofs.Common.{◌≡◌, ℕ, ◌<◌, List, length, get_or, refl, sym, ap, ◌∙◌, subst}
use Rattle.oe_cell.specs.declared.cell.Cell.{Cell}
use Rattle.oe_plan.specs.Plans.{IsPlan, PlanOf}
use Rattle.oe_plan.specs.Windows.{window_at}
use Rattle.oe_meanings.specs.Graphs.{Collections}
use Rattle.oe_window.specs.declared.window.Window.{Window}
use Rattle.oe_engine.specs.Benches.{AreCells, AreOfKind, BenchOf, HaveRoomFor, IsBenchFor, IsDone, OfResult}
use Rattle.oe_steps.specs.Steps.{node_cells}
use Rattle.oe_engine.specs.declared.bench.State.{State}
use Rattle.oe_engine.specs.declared.bench.State.TheVariants.{Loaded, Done}

abbrev pub bench : State → List Window → List (List Cell) → List Cell → BenchOf
bench state windows buffers scratch = record { state = state; windows = windows; buffers = buffers; scratch = scratch }

module _ (p : PlanOf) (k : ℕ) (windows : List Window) (old new : List (List Cell)) (before after : List Cell) where
  pub bench_after : IsBenchFor p (bench (Loaded k) windows old before) → HaveRoomFor p new → length after ≡ length before
      → OfResult p (AreOfKind p windows new) → IsBenchFor p (bench (Done k) windows new after)
  bench_after b room same kinds = record {
    room = record { windows = b.room.windows; buffers = room; scratch = same ∙ b.room.scratch };
    keeps = (record { within = b.keeps.0.within; windows = b.keeps.0.windows }, kinds);
  }

  pub done_after : IsPlan p → IsBenchFor p (bench (Loaded k) windows old before) → (collections : Collections)
      → OfResult p (AreCells collections p windows new) → IsDone p collections k (bench (Done k) windows new after)
  done_after is b collections cells = record {
    state = refl;
    cells = λ step within result.
        let long : step < length windows = subst (λ n. step < n) (sym b.room.windows) within in
        let of = subst (λ (steps : List ℕ). get_or steps step 0 ≡ p.graph.result) is.steps_are result in
        let chunk = b.keeps.0.windows.result step long of in
        cells step within result
        ∙ ap (λ node. node_cells collections p.graph node (window_at windows step)) result
        ∙ ap (node_cells collections p.graph p.graph.result) chunk;
  }

-- what it was loaded for, by its state
pub same_chunk : (k chunk : ℕ) (state : State) → state ≡ Loaded chunk → state ≡ Loaded k → k ≡ chunk
same_chunk k chunk state is loaded = let e : Loaded k ≡ Loaded chunk = sym loaded ∙ is in cc
