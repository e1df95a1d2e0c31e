-- What a workspace holds.
use Rattle.std.proofs.Common.{◌≡◌, ℕ, [], length, refl}
use Rattle.oe_plan.specs.Figures.{scratch_of}
use Rattle.oe_steps.specs.Buffers.{AreOfSize}
use Rattle.oe_steps.proofs.BufferLemmas.{sum_of_size}
use Rattle.oe_slab.specs.Figures.{largest_plane, largest_slab, slab_bound, width_before, width_behind}
use Rattle.oe_slab.specs.Plans.{SlabPlanOf}
use Rattle.oe_slab.specs.Workspaces.{SlabWorkspaceOf, held_cells}

-- parts of these sizes have as many cells as the bound
pub held_parts : (p : SlabPlanOf) (w : SlabWorkspaceOf) (before behind slab plane scratch : ℕ) → AreOfSize w.before before slab
    → AreOfSize w.behind behind plane → length w.folds ≡ plane → length w.scratch ≡ scratch → before ≡ width_before p.graph p.fold
    → behind ≡ width_behind p.graph p.fold → slab ≡ largest_slab p.graph p.size → plane ≡ largest_plane p.graph p.size
    → scratch ≡ scratch_of p.graph → held_cells w ≡ slab_bound p.graph p.size p.fold
held_parts p w before behind slab plane scratch are_before are_behind folds_are scratch_are before_is behind_is slab_is plane_is scratch_is =
    let sum_before = sum_of_size w.before before slab are_before in
    let sum_behind = sum_of_size w.behind behind plane are_behind in
    rw (sum_before, folds_are, sum_behind, scratch_are, before_is, behind_is, slab_is, plane_is, scratch_is) refl
