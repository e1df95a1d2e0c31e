-- A bench from the windows of its chunk and the cells that are loaded.
use Rattle.std.proofs.Common.{◌≡◌, ℕ, ◌+◌, ◌*◌, ◌<◌, ◌≤◌, List, length, refl, arith}
use Rattle.std.proofs.Math.Nat.{mul-le-mul_right}
use Rattle.oe_cell.specs.declared.cell.Cell.{Cell}
use Rattle.oe_plan.specs.Figures.{chunks_of, scratch_of}
use Rattle.oe_plan.specs.Plans.{PlanOf}
use Rattle.oe_plan.specs.Windows.{AreWindows}
use Rattle.oe_sources.specs.Catalogue.{Row}
use Rattle.oe_window.specs.declared.window.Window.{Window}
use Rattle.oe_engine.specs.Benches.{EachLoad, HaveRoomFor, chunk_of}
use Rattle.oe_engine.specs.Loads.{IsLoadedAt, LoadsBench}
use Rattle.oe_engine.specs.declared.bench.State.TheVariants.{Loaded}
use Rattle.oe_engine.proofs.BenchLemmas.{bench}

module _ (p : PlanOf) (windows : List Window) (buffers : List (List Cell)) (scratch : List Cell)
    (each : length windows ≡ length p.order.steps) (room : HaveRoomFor p buffers) (work : length scratch ≡ scratch_of p.graph) where
  pub loaded_bench : (rows : List Row) (k : ℕ) → k < chunks_of p.graph p.size → AreWindows p.graph p.size (chunk_of p k) windows
      → EachLoad p (IsLoadedAt p rows windows buffers) → LoadsBench p rows k (bench (Loaded k) windows buffers scratch)
  loaded_bench rows k within are loaded = record {
    keeps = record {
      room = record { windows = each; buffers = room; scratch = work };
      keeps = (record { within = within; windows = are }, λ step in' loads. (loaded step in' loads).kinds);
    };
    state = refl;
    loaded = λ collections has shows. record { state = refl; cells = λ step in' loads. (loaded step in' loads).values collections has shows };
  }

-- one bench more asks for as many cells more
pub asked_one_more : (n count each : ℕ) → n < count → ((n + 1) * each ≡ n * each + each) × (n * each + each ≤ count * each)
asked_one_more n count each before =
    let all : (n + 1) * each ≤ count * each = mul-le-mul_right each (omega arith) in
    let one = by n each in
    (one, omega arith)
  where
    by : (n m : ℕ) → (n + 1) * m ≡ n * m + m
    by n m = omega arith
