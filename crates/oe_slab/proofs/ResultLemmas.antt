-- The buffers of a workspace by its plan's schedules, how many cells it holds, and its cells of the result.
use Rattle.std.proofs.Common.{◌≡◌, ℕ, ◌<◌, List, length, get_or, refl, sym, ap, ◌∙◌, subst, arith}
use Rattle.std.proofs.lemmas.List.{length-take-le}
use Rattle.oe_cell.specs.declared.cell.Cell.{Cell}
use Rattle.oe_plan.specs.Figures.{scratch_of}
use Rattle.oe_plan.specs.Schedules.{node_at}
use Rattle.oe_plan.specs.Windows.{window_at}
use Rattle.oe_plan.proofs.RunLemmas.{only_step}
use Rattle.oe_steps.specs.Buffers.{AreOfSize, buffer_at}
use Rattle.oe_steps.specs.Steps.{HaveRoomFor, buffer_cells_at}
use Rattle.oe_window.specs.Windows.{position_count}
use Rattle.oe_window.specs.declared.window.Window.{Window}
use Rattle.oe_slab.specs.Figures.{largest_plane, largest_slab, slab_bound, width_before, width_behind}
use Rattle.oe_slab.specs.Plans.{IsSlabPlan, SlabPlanOf}
use Rattle.oe_slab.specs.Results.{AreResultOf, HasResultOn}
use Rattle.oe_slab.specs.Workspaces.{IsWorkspaceFor, SlabWorkspaceOf, held_cells}
use Rattle.oe_slab.proofs.WorkspaceLemmas.{held_parts}

-- it holds as many cells as the bound of the plan
pub holds_bound : (p : SlabPlanOf) (w : SlabWorkspaceOf) → IsWorkspaceFor p w → held_cells w ≡ slab_bound p.graph p.size p.fold
holds_bound p w room =
    held_parts p w (width_before p.graph p.fold) (width_behind p.graph p.fold) (largest_slab p.graph p.size) (largest_plane p.graph p.size)
    (scratch_of p.graph) room.before room.behind room.folds room.scratch refl refl refl refl refl

pub holds_same : (p : SlabPlanOf) (w new : SlabWorkspaceOf) → IsWorkspaceFor p w → IsWorkspaceFor p new → held_cells w ≡ held_cells new
holds_same p w new room still = holds_bound p w room ∙ sym (holds_bound p new still)

module _ (p : SlabPlanOf) (is : IsSlabPlan p) where
  -- ---- buffers

  abbrev Of : List (List Cell) → ℕ → ℕ → Type 0
  Of buffers count cells = AreOfSize buffers count cells

  pub room_before : (w : SlabWorkspaceOf) → IsWorkspaceFor p w → HaveRoomFor p.before w.before
  room_before w room =
      subst (λ (n : ℕ). Of w.before n p.before.largest) (sym is.schedules.before_width)
      (subst (λ (n : ℕ). Of w.before (width_before p.graph p.fold) n) (sym is.schedules.before_largest) room.before)

  pub room_behind : (w : SlabWorkspaceOf) → IsWorkspaceFor p w → HaveRoomFor p.behind w.behind
  room_behind w room =
      subst (λ (n : ℕ). Of w.behind n p.behind.largest) (sym is.schedules.behind_width)
      (subst (λ (n : ℕ). Of w.behind (width_behind p.graph p.fold) n) (sym is.schedules.behind_largest) room.behind)

  -- buffers that still have room, and parts that are as long as they were
  pub still_room : (w new : SlabWorkspaceOf) → IsWorkspaceFor p w → HaveRoomFor p.before new.before → HaveRoomFor p.behind new.behind
      → length new.folds ≡ length w.folds → length new.scratch ≡ length w.scratch → length new.windows ≡ length w.windows
      → length new.windows_before ≡ length w.windows_before → length new.windows_behind ≡ length w.windows_behind
      → IsWorkspaceFor p new
  still_room w new room before behind folds scratch windows windows_before windows_behind = record {
    before = subst (λ (n : ℕ). Of new.before n (largest_slab p.graph p.size)) is.schedules.before_width
        (subst (λ (n : ℕ). Of new.before p.before.order.width n) is.schedules.before_largest before);
    folds = folds ∙ room.folds;
    behind = subst (λ (n : ℕ). Of new.behind n (largest_plane p.graph p.size)) is.schedules.behind_width
        (subst (λ (n : ℕ). Of new.behind p.behind.order.width n) is.schedules.behind_largest behind);
    scratch = scratch ∙ room.scratch;
    windows = windows ∙ room.windows;
    windows_before = windows_before ∙ room.windows_before;
    windows_behind = windows_behind ∙ room.windows_behind;
  }

  -- ---- the cells of the result

  module _ (w : SlabWorkspaceOf) (cells : List Cell) (at : ℕ) (within : at < length p.behind.order.steps)
      (at_is : node_at p.behind at ≡ p.behind.last) (front : cells ≡ buffer_cells_at p.behind w.windows_behind w.behind at) where
    pub are_result : AreResultOf p w cells
    are_result step below last =
        front
        ∙ ap (buffer_cells_at p.behind w.windows_behind w.behind)
        (only_step p.behind.order.steps is.schedules.behind.listing.once at step within below (at_is ∙ sym last))

    pub only_result : (others : List Cell) → AreResultOf p w others → others ≡ cells
    only_result others are = are at within at_is ∙ sym front

    pub as_many : (chunk : Window) → IsWorkspaceFor p w → HasResultOn p chunk w → length cells ≡ position_count chunk
    as_many chunk room on =
        let window = window_at w.windows_behind at in
        let slot = get_or p.behind.order.slots at 0 in
        let few = on.windows.few at within in
        let long = (room_behind w room).each slot (is.schedules.behind.slotted.below at within) in
        ap length front
        ∙ (length-take-le (position_count window) (buffer_at w.behind slot) (omega (arith, few, long))
        ∙ ap position_count (on.chunk_is at within at_is))
