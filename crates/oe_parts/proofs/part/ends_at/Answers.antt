use Rattle.std.proofs.Common.{◌≡◌, ℕ, ◌+◌, ◌-◌, ◌≤◌, sym, ap, ◌∙◌, arith}
use Rattle.oe_window.specs.Chunks.{Tiling, chunk_window}
use Rattle.oe_window.specs.Windows.{position_count}
use Rattle.oe_parts.specs.Head.{PartHead, grid_of}
use Rattle.oe_parts.proofs.CellLemmas.{cells_until, chunk_few, until_below, until_more}
use Rattle.oe_parts.proofs.part.ends_at.Goals as goal

pub loop-chunk-init : goal.loop-chunk-init
loop-chunk-init c =
    let h = c.args.head.now in
    let none : h.first - h.first ≡ 0 = omega arith in
    let same = ap (λ (i : PartHead). i.first) c.head.view_is in
    let start : c.head.inside.first - h.first ≡ 0 = omega (arith, same) in
    record {
      sum = sym (ap (cells_until h) start);
      few = omega arith;
      room = c.if-base-total.false;
    }

pub size-cells-requires : goal.size-cells-requires
size-cells-requires c =
    let h = c.args.head.now in
    let k = c.loop-chunk.chunk in
    let w : c.chunk.result ≡ chunk_window (grid_of h) k = c.chunk.ensures.value ∙ ap (λ (g : Tiling). chunk_window g k) c.grid-grid.ensures in
    omega (arith, chunk_few h k c.requires.sides c.requires.shape, ap position_count w)

pub overflow_add-cells : goal.overflow_add-cells
overflow_add-cells c =
    let h = c.args.head.now in
    let k = c.loop-chunk.chunk in
    let w : c.chunk.result ≡ chunk_window (grid_of h) k = c.chunk.ensures.value ∙ ap (λ (g : Tiling). chunk_window g k) c.grid-grid.ensures in
    omega (arith, c.loop-chunk.invariant.few, chunk_few h k c.requires.sides c.requires.shape, ap position_count w, c.size-cells.ensures.value)

pub returns-then-cells-most : goal.returns-then-cells-most
returns-then-cells-most c =
    let h = c.args.head.now in
    let k = c.loop-chunk.chunk in
    let n = k - h.first in
    let w : c.chunk.result ≡ chunk_window (grid_of h) k = c.chunk.ensures.value ∙ ap (λ (g : Tiling). chunk_window g k) c.grid-grid.ensures in
    let first = ap (λ (i : PartHead). i.first) c.head.view_is in
    let end = ap (λ (i : PartHead). i.end) c.head.view_is in
    let here : h.first + n ≡ k = omega (arith, c.loop-chunk.auto.chunk, first) in
    let this : position_count (chunk_window (grid_of h) (h.first + n)) ≡ position_count (chunk_window (grid_of h) k) = ap (λ (j : ℕ). position_count (chunk_window (grid_of h) j)) here in
    let within : n + 1 ≤ h.end - h.first = omega (arith, c.loop-chunk-test.true, c.loop-chunk.auto.chunk, first, end) in
    let few = until_below h (n + 1) within in
    let more = until_more h n in (
      λ yes. absurd cc,
      λ whole. absurd (omega (arith, whole, few, more, this, ap position_count w, c.size-cells.ensures.value, c.loop-chunk.invariant.sum, c.if-cells-most.true)),
    )

pub loop-chunk-preserved : goal.loop-chunk-preserved
loop-chunk-preserved c =
    let h = c.args.head.now in
    let k = c.loop-chunk.chunk in
    let n = k - h.first in
    let w : c.chunk.result ≡ chunk_window (grid_of h) k = c.chunk.ensures.value ∙ ap (λ (g : Tiling). chunk_window g k) c.grid-grid.ensures in
    let first = ap (λ (i : PartHead). i.first) c.head.view_is in
    let here : h.first + n ≡ k = omega (arith, c.loop-chunk.auto.chunk, first) in
    let this : position_count (chunk_window (grid_of h) (h.first + n)) ≡ position_count (chunk_window (grid_of h) k) = ap (λ (j : ℕ). position_count (chunk_window (grid_of h) j)) here in
    let next : k + 1 - h.first ≡ n + 1 = omega (arith, c.loop-chunk.auto.chunk, first) in
    let more = until_more h n in
    record {
      sum = omega (arith, more, this, ap position_count w, c.size-cells.ensures.value, c.loop-chunk.invariant.sum, ap (cells_until h) next);
      few = c.if-cells-most.false;
      room = c.loop-chunk.invariant.room;
    }
