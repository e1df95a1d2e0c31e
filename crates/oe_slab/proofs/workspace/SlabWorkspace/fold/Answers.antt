use Rattle.std.proofs.Common.{◌≡◌, ◌∙◌, List, length, refl, sym, ap, subst}
use Rattle.oe_fold.specs.declared.pass.Pass.{Pass}
use Rattle.oe_sources.specs.CatalogueRows.{rows_of}
use Rattle.oe_steps.proofs.BufferLemmas.{with_items_is}
use Rattle.oe_steps.specs.Buffers.{lists_of}
use Rattle.oe_steps.specs.Steps.{HaveRoomFor}
use Rattle.oe_window.specs.declared.window.Window.{Window}
use Rattle.oe_slab.specs.Planes.{AreFolded, HasPlane, plane_folds}
use Rattle.oe_slab.specs.Workspaces.{IsWorkspaceFor, SlabWorkspaceOf}
use Rattle.oe_slab.proofs.ResultLemmas.{holds_same, room_before, room_behind, still_room}
use Rattle.oe_slab.proofs.workspace.SlabWorkspace.fold.Goals as goal

pub fold_all-requires-clause-room : goal.fold_all-requires-clause-room
fold_all-requires-clause-room g c =
    let p = c.args.plan.now in
    let i = c.self.inside in
    let old : SlabWorkspaceOf = record {
      before = lists_of i.before.items;
      folds = i.folds.items;
      behind = lists_of i.behind.items;
      scratch = i.scratch.items;
      windows = i.windows.items;
      windows_before = i.windows_before.items;
      windows_behind = i.windows_behind.items;
    } in
    let room : IsWorkspaceFor p old = subst (IsWorkspaceFor p) (sym c.self.view_is) c.requires.room in
    record {
      windows_many = ap length c.deref_mut-2.ensures.value ∙ room.windows_before;
      room = subst (λ bs. HaveRoomFor p.before (lists_of bs)) (sym c.deref_mut-3.ensures.value) (room_before p c.plane_of-plane.ensures.valid old room);
      scratch_many = ap length c.deref_mut-4.ensures.value ∙ room.scratch;
    }

pub returns-in_err-fold_all-clause-room : goal.returns-in_err-fold_all-clause-room
returns-in_err-fold_all-clause-room g c =
    let p = c.args.plan.now in
    let i = c.self.inside in
    let old : SlabWorkspaceOf = record {
      before = lists_of i.before.items;
      folds = i.folds.items;
      behind = lists_of i.behind.items;
      scratch = i.scratch.items;
      windows = i.windows.items;
      windows_before = i.windows_before.items;
      windows_behind = i.windows_behind.items;
    } in
    let room : IsWorkspaceFor p old = subst (IsWorkspaceFor p) (sym c.self.view_is) c.requires.room in
    let is = c.plane_of-plane.ensures.valid in
    let windows_long : length c.plane_of-plane.new.windows ≡ length i.windows.items = c.plane_of-plane.auto.windows ∙ ap length c.deref_mut.ensures.value in
    let before_long : length c.fold_all.new.windows ≡ length i.windows_before.items = c.fold_all.auto.windows ∙ ap length c.deref_mut-2.ensures.value in
    let buffers_long : length c.fold_all.new.buffers ≡ length i.before.items = c.fold_all.auto.buffers ∙ ap length c.deref_mut-3.ensures.value in
    let scratch_long : length c.fold_all.new.scratch ≡ length i.scratch.items = c.fold_all.auto.scratch ∙ ap length c.deref_mut-4.ensures.value in
    let folds_long : length c.fold_all.new.folds ≡ length i.folds.items = c.fold_all.auto.folds ∙ ap length c.deref_mut-5.ensures.value in
    still_room p is old _ room
    (subst (λ bs. HaveRoomFor p.before (lists_of bs)) (sym (with_items_is i.before c.fold_all.new.buffers buffers_long)) c.in_err-fold_all.ensures.room)
    (room_behind p is old room)
    (ap length (with_items_is i.folds c.fold_all.new.folds folds_long) ∙ folds_long)
    (ap length (with_items_is i.scratch c.fold_all.new.scratch scratch_long) ∙ scratch_long)
    (ap length (with_items_is i.windows c.plane_of-plane.new.windows windows_long) ∙ windows_long)
    (ap length (with_items_is i.windows_before c.fold_all.new.windows before_long) ∙ before_long) refl

pub returns-clause-room : goal.returns-clause-room
returns-clause-room g c =
    let p = c.args.plan.now in
    let i = c.self.inside in
    let old : SlabWorkspaceOf = record {
      before = lists_of i.before.items;
      folds = i.folds.items;
      behind = lists_of i.behind.items;
      scratch = i.scratch.items;
      windows = i.windows.items;
      windows_before = i.windows_before.items;
      windows_behind = i.windows_behind.items;
    } in
    let room : IsWorkspaceFor p old = subst (IsWorkspaceFor p) (sym c.self.view_is) c.requires.room in
    let is = c.plane_of-plane.ensures.valid in
    let windows_long : length c.plane_of-plane.new.windows ≡ length i.windows.items = c.plane_of-plane.auto.windows ∙ ap length c.deref_mut.ensures.value in
    let before_long : length c.fold_all.new.windows ≡ length i.windows_before.items = c.fold_all.auto.windows ∙ ap length c.deref_mut-2.ensures.value in
    let buffers_long : length c.fold_all.new.buffers ≡ length i.before.items = c.fold_all.auto.buffers ∙ ap length c.deref_mut-3.ensures.value in
    let scratch_long : length c.fold_all.new.scratch ≡ length i.scratch.items = c.fold_all.auto.scratch ∙ ap length c.deref_mut-4.ensures.value in
    let folds_long : length c.fold_all.new.folds ≡ length i.folds.items = c.fold_all.auto.folds ∙ ap length c.deref_mut-5.ensures.value in
    still_room p is old _ room
    (subst (λ bs. HaveRoomFor p.before (lists_of bs)) (sym (with_items_is i.before c.fold_all.new.buffers buffers_long)) c.in_ok-fold_all.ensures.room)
    (room_behind p is old room)
    (ap length (with_items_is i.folds c.fold_all.new.folds folds_long) ∙ folds_long)
    (ap length (with_items_is i.scratch c.fold_all.new.scratch scratch_long) ∙ scratch_long)
    (ap length (with_items_is i.windows c.plane_of-plane.new.windows windows_long) ∙ windows_long)
    (ap length (with_items_is i.windows_before c.fold_all.new.windows before_long) ∙ before_long) refl

pub invariant_of-self : goal.invariant_of-self
invariant_of-self g c =
    let p = c.args.plan.now in
    let i = c.self.inside in
    let old : SlabWorkspaceOf = record {
      before = lists_of i.before.items;
      folds = i.folds.items;
      behind = lists_of i.behind.items;
      scratch = i.scratch.items;
      windows = i.windows.items;
      windows_before = i.windows_before.items;
      windows_behind = i.windows_behind.items;
    } in
    let room : IsWorkspaceFor p old = subst (IsWorkspaceFor p) (sym c.self.view_is) c.requires.room in
    let is = c.plane_of-plane.ensures.valid in
    let windows_long : length c.plane_of-plane.new.windows ≡ length i.windows.items = c.plane_of-plane.auto.windows ∙ ap length c.deref_mut.ensures.value in
    let before_long : length c.fold_all.new.windows ≡ length i.windows_before.items = c.fold_all.auto.windows ∙ ap length c.deref_mut-2.ensures.value in
    let buffers_long : length c.fold_all.new.buffers ≡ length i.before.items = c.fold_all.auto.buffers ∙ ap length c.deref_mut-3.ensures.value in
    let scratch_long : length c.fold_all.new.scratch ≡ length i.scratch.items = c.fold_all.auto.scratch ∙ ap length c.deref_mut-4.ensures.value in
    let folds_long : length c.fold_all.new.folds ≡ length i.folds.items = c.fold_all.auto.folds ∙ ap length c.deref_mut-5.ensures.value in
    c.self.invariant ∙ holds_same p old _ room (
    still_room p is old _ room
    (subst (λ bs. HaveRoomFor p.before (lists_of bs)) (sym (with_items_is i.before c.fold_all.new.buffers buffers_long)) c.in_err-fold_all.ensures.room)
    (room_behind p is old room)
    (ap length (with_items_is i.folds c.fold_all.new.folds folds_long) ∙ folds_long)
    (ap length (with_items_is i.scratch c.fold_all.new.scratch scratch_long) ∙ scratch_long)
    (ap length (with_items_is i.windows c.plane_of-plane.new.windows windows_long) ∙ windows_long)
    (ap length (with_items_is i.windows_before c.fold_all.new.windows before_long) ∙ before_long) refl
    )

pub invariant_of-self-2 : goal.invariant_of-self-2
invariant_of-self-2 g c =
    let p = c.args.plan.now in
    let i = c.self.inside in
    let old : SlabWorkspaceOf = record {
      before = lists_of i.before.items;
      folds = i.folds.items;
      behind = lists_of i.behind.items;
      scratch = i.scratch.items;
      windows = i.windows.items;
      windows_before = i.windows_before.items;
      windows_behind = i.windows_behind.items;
    } in
    let room : IsWorkspaceFor p old = subst (IsWorkspaceFor p) (sym c.self.view_is) c.requires.room in
    let is = c.plane_of-plane.ensures.valid in
    let windows_long : length c.plane_of-plane.new.windows ≡ length i.windows.items = c.plane_of-plane.auto.windows ∙ ap length c.deref_mut.ensures.value in
    let before_long : length c.fold_all.new.windows ≡ length i.windows_before.items = c.fold_all.auto.windows ∙ ap length c.deref_mut-2.ensures.value in
    let buffers_long : length c.fold_all.new.buffers ≡ length i.before.items = c.fold_all.auto.buffers ∙ ap length c.deref_mut-3.ensures.value in
    let scratch_long : length c.fold_all.new.scratch ≡ length i.scratch.items = c.fold_all.auto.scratch ∙ ap length c.deref_mut-4.ensures.value in
    let folds_long : length c.fold_all.new.folds ≡ length i.folds.items = c.fold_all.auto.folds ∙ ap length c.deref_mut-5.ensures.value in
    c.self.invariant ∙ holds_same p old _ room (
    still_room p is old _ room
    (subst (λ bs. HaveRoomFor p.before (lists_of bs)) (sym (with_items_is i.before c.fold_all.new.buffers buffers_long)) c.in_ok-fold_all.ensures.room)
    (room_behind p is old room)
    (ap length (with_items_is i.folds c.fold_all.new.folds folds_long) ∙ folds_long)
    (ap length (with_items_is i.scratch c.fold_all.new.scratch scratch_long) ∙ scratch_long)
    (ap length (with_items_is i.windows c.plane_of-plane.new.windows windows_long) ∙ windows_long)
    (ap length (with_items_is i.windows_before c.fold_all.new.windows before_long) ∙ before_long) refl
    )

pub fold_all-requires-clause-plane : goal.fold_all-requires-clause-plane
fold_all-requires-clause-plane g c =
    let i = c.self.inside in
    let w = c.plane_of-plane.new.windows in
    let long : length w ≡ length i.windows.items = c.plane_of-plane.auto.windows ∙ ap length c.deref_mut.ensures.value in
    let same : c.deref.result.now ≡ w = c.deref.ensures.value ∙ with_items_is i.windows w long in
    (c.args.chunk.now, subst (λ (ws : List Window). HasPlane c.args.plan.now c.args.chunk.now ws c.plane_of-plane.result) (sym same) c.plane_of-plane.ensures.plane)

pub returns-clause-plane : goal.returns-clause-plane
returns-clause-plane g c =
    let i = c.self.inside in
    let w = c.plane_of-plane.new.windows in
    let long : length w ≡ length i.windows.items = c.plane_of-plane.auto.windows ∙ ap length c.deref_mut.ensures.value in
    subst (λ (ws : List Window). HasPlane c.args.plan.now c.args.chunk.now ws c.plane_of-plane.result) (sym (with_items_is i.windows w long)) c.plane_of-plane.ensures.plane

pub returns-clause-folded : goal.returns-clause-folded
returns-clause-folded g c =
    let i = c.self.inside in
    let rows = rows_of (λ z. (goal.SharedSource-dyn g z).CubeSource.seen z.1) c.args.catalogue.now in
    let plane = c.plane_of-plane.result in
    let folds = c.fold_all.new.folds in
    let long : length folds ≡ length i.folds.items = c.fold_all.auto.folds ∙ ap length c.deref_mut-5.ensures.value in
    subst (λ (fs : List Pass). AreFolded c.args.plan.now rows plane (plane_folds plane fs)) (sym (with_items_is i.folds folds long)) c.in_ok-fold_all.ensures.folded
