use Rattle.std.proofs.Common.{◌≡◌, ◌∙◌, List, length, take, refl, sym, ap, subst, arith}
use Rattle.std.specs.Vec.{with_items}
use Rattle.oe_cell.specs.declared.cell.Cell.TheVariants.{Empty}
use Rattle.oe_fold.specs.declared.pass.Pass.{Pass}
use Rattle.oe_plan.specs.Laws.{ArePicked}
use Rattle.oe_plan.specs.Schedules.{AreWindowsFor, ScheduleOf}
use Rattle.oe_plan.specs.Windows.{AreWindows, window_at}
use Rattle.oe_check.specs.Checked.{CheckedGraph}
use Rattle.oe_check.specs.Laws.{AreCollectionsOf}
use Rattle.oe_steps.proofs.BufferLemmas.{with_items_is}
use Rattle.oe_steps.specs.Buffers.{lists_of}
use Rattle.oe_steps.specs.Steps.{AreCells, AreOfKind, EachLoad, HaveRoomFor, OfLast, buffer_cells_at}
use Rattle.oe_window.specs.Cells.{cells_on}
use Rattle.oe_window.specs.Windows.{position_count}
use Rattle.oe_window.specs.declared.window.Window.{Window}
use Rattle.oe_slab.specs.Runs.{result_cube}
use Rattle.oe_slab.specs.Slabs.{HaveFoldedAll}
use Rattle.oe_slab.specs.Workspaces.{IsWorkspaceFor, SlabWorkspaceOf}
use Rattle.oe_slab.proofs.BehindLemmas.{cut_at, cut_few, result_at, result_cells}
use Rattle.oe_slab.proofs.ResultLemmas.{holds_same, room_before, room_behind, still_room}
use Rattle.oe_slab.proofs.workspace.SlabWorkspace.evaluate_behind.Goals as goal

pub pick_windows-requires-clause-windows : goal.pick_windows-requires-clause-windows
pick_windows-requires-clause-windows c =
    let p = c.args.plan.now in
    let chunk = c.requires.plane.0 in
    let all_is : c.deref.result.now ≡ c.args.self.now.windows = c.deref.ensures.value ∙ ap (λ (w : SlabWorkspaceOf). w.windows) c.self.view_is in
    (chunk, subst (AreWindows p.graph p.size chunk) (sym all_is) c.requires.plane.1.windows_are)

pub put_plane-requires-clause-plane : goal.put_plane-requires-clause-plane
put_plane-requires-clause-plane c = λ step below is_fold.
    let p = c.args.plan.now in
    let i = c.self.inside in
    let is = c.behind-behind.ensures.valid in
    let picked = c.pick_windows.new.picked in
    let picked_long : length picked ≡ length i.windows_behind.items = c.pick_windows.auto.picked ∙ ap length c.deref_mut.ensures.value in
    let picked_is : (with_items i.windows_behind picked).items ≡ picked = with_items_is i.windows_behind picked picked_long in
    let all_is : c.deref.result.now ≡ c.args.self.now.windows = c.deref.ensures.value ∙ ap (λ (w : SlabWorkspaceOf). w.windows) c.self.view_is in
    let are_picked : ArePicked p.graph p.behind c.args.self.now.windows picked = subst (λ (w : List Window). ArePicked p.graph p.behind w picked) all_is c.pick_windows.ensures.picked in
    let each = c.pick_windows.ensures.serve.each in
    subst (λ (w : List Window). window_at w step ≡ c.args.plane.now) (sym (c.deref-3.ensures.value ∙ picked_is))
    (cut_at p is c.args.self.now.windows picked each are_picked c.args.plane.now c.requires.plane.1.plane_is step below is_fold)

pub put_plane-requires-clause-room : goal.put_plane-requires-clause-room
put_plane-requires-clause-room c =
    let p = c.args.plan.now in
    let i = c.self.inside in
    let old : SlabWorkspaceOf = record {
      before = lists_of i.before.items;
      folds = i.folds.items;
      behind = lists_of i.behind.items;
      scratch = i.scratch.items;
      windows = i.windows.items;
      windows_before = i.windows_before.items;
      windows_behind = i.windows_behind.items;
    } in
    let room : IsWorkspaceFor p old = subst (IsWorkspaceFor p) (sym c.self.view_is) c.requires.room in
    subst (λ bs. HaveRoomFor p.behind (lists_of bs)) (sym c.deref_mut-2.ensures.value) (room_behind p c.behind-behind.ensures.valid old room)

pub put_plane-requires-clause-folds : goal.put_plane-requires-clause-folds
put_plane-requires-clause-folds c =
    let p = c.args.plan.now in
    let i = c.self.inside in
    let old : SlabWorkspaceOf = record {
      before = lists_of i.before.items;
      folds = i.folds.items;
      behind = lists_of i.behind.items;
      scratch = i.scratch.items;
      windows = i.windows.items;
      windows_before = i.windows_before.items;
      windows_behind = i.windows_behind.items;
    } in
    let room : IsWorkspaceFor p old = subst (IsWorkspaceFor p) (sym c.self.view_is) c.requires.room in
    let few = cut_few p c.behind-behind.ensures.valid c.requires.plane.0 c.args.plane.now c.args.self.now.windows c.requires.plane.1.windows_are c.requires.plane.1.plane_is in
    omega (arith, few, room.folds, ap length c.deref-2.ensures.value)

pub evaluate_steps-requires-clause-kinds : goal.evaluate_steps-requires-clause-kinds
evaluate_steps-requires-clause-kinds c =
    let p = c.args.plan.now in
    let i = c.self.inside in
    let is = c.behind-behind.ensures.valid in
    let put = c.put_plane.new.buffers in
    let put_long : length put ≡ length i.behind.items = c.put_plane.auto.buffers ∙ ap length c.deref_mut-2.ensures.value in
    let put_is : put ≡ c.deref_mut-3.result.now = sym (c.deref_mut-3.ensures.value ∙ with_items_is i.behind put put_long) in
    let same : c.deref-3.result.now ≡ c.deref-4.result.now = c.deref-3.ensures.value ∙ sym c.deref-4.ensures.value in
    subst (λ (g : CheckedGraph). EachLoad g c.behind-behind.result.now (AreOfKind g c.behind-behind.result.now c.deref-4.result.now (lists_of c.deref_mut-3.result.now))) (sym c.checked.ensures.value)
    (subst (λ (s : ScheduleOf). EachLoad p.graph s (AreOfKind p.graph s c.deref-4.result.now (lists_of c.deref_mut-3.result.now))) (sym c.behind-behind.ensures.value)
    (subst (λ (w : List Window). EachLoad p.graph p.behind (AreOfKind p.graph p.behind w (lists_of c.deref_mut-3.result.now))) same
    (subst (λ bs. EachLoad p.graph p.behind (AreOfKind p.graph p.behind c.deref-3.result.now (lists_of bs))) put_is c.put_plane.ensures.kinds)))

pub returns-clause-room : goal.returns-clause-room
returns-clause-room c =
    let p = c.args.plan.now in
    let i = c.self.inside in
    let old : SlabWorkspaceOf = record {
      before = lists_of i.before.items;
      folds = i.folds.items;
      behind = lists_of i.behind.items;
      scratch = i.scratch.items;
      windows = i.windows.items;
      windows_before = i.windows_before.items;
      windows_behind = i.windows_behind.items;
    } in
    let room : IsWorkspaceFor p old = subst (IsWorkspaceFor p) (sym c.self.view_is) c.requires.room in
    let is = c.behind-behind.ensures.valid in
    let put = c.put_plane.new.buffers in
    let put_long : length put ≡ length i.behind.items = c.put_plane.auto.buffers ∙ ap length c.deref_mut-2.ensures.value in
    let put_is : put ≡ c.deref_mut-3.result.now = sym (c.deref_mut-3.ensures.value ∙ with_items_is i.behind put put_long) in
    let same : c.deref-3.result.now ≡ c.deref-4.result.now = c.deref-3.ensures.value ∙ sym c.deref-4.ensures.value in
    let last = c.evaluate_steps.new.buffers in
    let last_long : length last ≡ length (with_items i.behind put).items = c.evaluate_steps.auto.buffers ∙ ap length c.deref_mut-3.ensures.value in
    let last_is : (with_items (with_items i.behind put) last).items ≡ last = with_items_is (with_items i.behind put) last last_long in
    let scratch = c.evaluate_steps.new.scratch in
    let scratch_long : length scratch ≡ length i.scratch.items = c.evaluate_steps.auto.scratch ∙ ap length c.deref_mut-4.ensures.value in
    let picked = c.pick_windows.new.picked in
    let picked_long : length picked ≡ length i.windows_behind.items = c.pick_windows.auto.picked ∙ ap length c.deref_mut.ensures.value in
    let picked_is : (with_items i.windows_behind picked).items ≡ picked = with_items_is i.windows_behind picked picked_long in
    still_room p is old _ room (room_before p is old room)
    (subst (λ bs. HaveRoomFor p.behind (lists_of bs)) (sym last_is)
    (subst (λ (s : ScheduleOf). HaveRoomFor s (lists_of last)) c.behind-behind.ensures.value c.evaluate_steps.ensures.room))
    refl (ap length (with_items_is i.scratch scratch scratch_long) ∙ scratch_long) refl refl (ap length picked_is ∙ picked_long)

pub invariant_of-self : goal.invariant_of-self
invariant_of-self c =
    let p = c.args.plan.now in
    let i = c.self.inside in
    let old : SlabWorkspaceOf = record {
      before = lists_of i.before.items;
      folds = i.folds.items;
      behind = lists_of i.behind.items;
      scratch = i.scratch.items;
      windows = i.windows.items;
      windows_before = i.windows_before.items;
      windows_behind = i.windows_behind.items;
    } in
    let room : IsWorkspaceFor p old = subst (IsWorkspaceFor p) (sym c.self.view_is) c.requires.room in
    let is = c.behind-behind.ensures.valid in
    let put = c.put_plane.new.buffers in
    let put_long : length put ≡ length i.behind.items = c.put_plane.auto.buffers ∙ ap length c.deref_mut-2.ensures.value in
    let put_is : put ≡ c.deref_mut-3.result.now = sym (c.deref_mut-3.ensures.value ∙ with_items_is i.behind put put_long) in
    let same : c.deref-3.result.now ≡ c.deref-4.result.now = c.deref-3.ensures.value ∙ sym c.deref-4.ensures.value in
    let last = c.evaluate_steps.new.buffers in
    let last_long : length last ≡ length (with_items i.behind put).items = c.evaluate_steps.auto.buffers ∙ ap length c.deref_mut-3.ensures.value in
    let last_is : (with_items (with_items i.behind put) last).items ≡ last = with_items_is (with_items i.behind put) last last_long in
    let scratch = c.evaluate_steps.new.scratch in
    let scratch_long : length scratch ≡ length i.scratch.items = c.evaluate_steps.auto.scratch ∙ ap length c.deref_mut-4.ensures.value in
    let picked = c.pick_windows.new.picked in
    let picked_long : length picked ≡ length i.windows_behind.items = c.pick_windows.auto.picked ∙ ap length c.deref_mut.ensures.value in
    let picked_is : (with_items i.windows_behind picked).items ≡ picked = with_items_is i.windows_behind picked picked_long in
    c.self.invariant ∙ holds_same p old _ room (
    still_room p is old _ room (room_before p is old room)
    (subst (λ bs. HaveRoomFor p.behind (lists_of bs)) (sym last_is)
    (subst (λ (s : ScheduleOf). HaveRoomFor s (lists_of last)) c.behind-behind.ensures.value c.evaluate_steps.ensures.room))
    refl (ap length (with_items_is i.scratch scratch scratch_long) ∙ scratch_long) refl refl (ap length picked_is ∙ picked_long)
    )

pub returns-clause-result : goal.returns-clause-result
returns-clause-result c = λ chunk are.
    let p = c.args.plan.now in
    let i = c.self.inside in
    let is = c.behind-behind.ensures.valid in
    let put = c.put_plane.new.buffers in
    let put_long : length put ≡ length i.behind.items = c.put_plane.auto.buffers ∙ ap length c.deref_mut-2.ensures.value in
    let put_is : put ≡ c.deref_mut-3.result.now = sym (c.deref_mut-3.ensures.value ∙ with_items_is i.behind put put_long) in
    let same : c.deref-3.result.now ≡ c.deref-4.result.now = c.deref-3.ensures.value ∙ sym c.deref-4.ensures.value in
    let last = c.evaluate_steps.new.buffers in
    let last_long : length last ≡ length (with_items i.behind put).items = c.evaluate_steps.auto.buffers ∙ ap length c.deref_mut-3.ensures.value in
    let last_is : (with_items (with_items i.behind put) last).items ≡ last = with_items_is (with_items i.behind put) last last_long in
    let scratch = c.evaluate_steps.new.scratch in
    let scratch_long : length scratch ≡ length i.scratch.items = c.evaluate_steps.auto.scratch ∙ ap length c.deref_mut-4.ensures.value in
    let picked = c.pick_windows.new.picked in
    let picked_long : length picked ≡ length i.windows_behind.items = c.pick_windows.auto.picked ∙ ap length c.deref_mut.ensures.value in
    let picked_is : (with_items i.windows_behind picked).items ≡ picked = with_items_is i.windows_behind picked picked_long in
    let all_is : c.deref.result.now ≡ c.args.self.now.windows = c.deref.ensures.value ∙ ap (λ (w : SlabWorkspaceOf). w.windows) c.self.view_is in
    let are_picked : ArePicked p.graph p.behind c.args.self.now.windows picked = subst (λ (w : List Window). ArePicked p.graph p.behind w picked) all_is c.pick_windows.ensures.picked in
    let each = c.pick_windows.ensures.serve.each in
    record {
      windows = subst (AreWindowsFor p.graph p.behind) (sym picked_is) c.pick_windows.ensures.serve;
      chunk_is = subst (λ (w : List Window). OfLast p.behind (λ step. window_at w step ≡ chunk)) (sym picked_is)
          (result_at p is c.args.self.now.windows picked each are_picked chunk are);
      kinds = subst (λ bs. OfLast p.behind (AreOfKind p.graph p.behind (with_items i.windows_behind picked).items (lists_of bs))) (sym last_is)
          (subst (λ (w : List Window). OfLast p.behind (AreOfKind p.graph p.behind w (lists_of last))) c.deref-4.ensures.value
          (subst (λ (s : ScheduleOf). OfLast s (AreOfKind p.graph s c.deref-4.result.now (lists_of last))) c.behind-behind.ensures.value
          (subst (λ (g : CheckedGraph). OfLast c.behind-behind.result.now (AreOfKind g c.behind-behind.result.now c.deref-4.result.now (lists_of last))) c.checked.ensures.value
          c.evaluate_steps.ensures.kinds)));
    }

pub returns-clause-value : goal.returns-clause-value
returns-clause-value c = λ collections of all chunk are.
    let p = c.args.plan.now in
    let i = c.self.inside in
    let is = c.behind-behind.ensures.valid in
    let put = c.put_plane.new.buffers in
    let put_long : length put ≡ length i.behind.items = c.put_plane.auto.buffers ∙ ap length c.deref_mut-2.ensures.value in
    let put_is : put ≡ c.deref_mut-3.result.now = sym (c.deref_mut-3.ensures.value ∙ with_items_is i.behind put put_long) in
    let same : c.deref-3.result.now ≡ c.deref-4.result.now = c.deref-3.ensures.value ∙ sym c.deref-4.ensures.value in
    let last = c.evaluate_steps.new.buffers in
    let last_long : length last ≡ length (with_items i.behind put).items = c.evaluate_steps.auto.buffers ∙ ap length c.deref_mut-3.ensures.value in
    let last_is : (with_items (with_items i.behind put) last).items ≡ last = with_items_is (with_items i.behind put) last last_long in
    let scratch = c.evaluate_steps.new.scratch in
    let scratch_long : length scratch ≡ length i.scratch.items = c.evaluate_steps.auto.scratch ∙ ap length c.deref_mut-4.ensures.value in
    let picked = c.pick_windows.new.picked in
    let picked_long : length picked ≡ length i.windows_behind.items = c.pick_windows.auto.picked ∙ ap length c.deref_mut.ensures.value in
    let picked_is : (with_items i.windows_behind picked).items ≡ picked = with_items_is i.windows_behind picked picked_long in
    let all_is : c.deref.result.now ≡ c.args.self.now.windows = c.deref.ensures.value ∙ ap (λ (w : SlabWorkspaceOf). w.windows) c.self.view_is in
    let are_picked : ArePicked p.graph p.behind c.args.self.now.windows picked = subst (λ (w : List Window). ArePicked p.graph p.behind w picked) all_is c.pick_windows.ensures.picked in
    let each = c.pick_windows.ensures.serve.each in
    let folds_is : c.deref-2.result.now ≡ c.args.self.now.folds = c.deref-2.ensures.value ∙ ap (λ (w : SlabWorkspaceOf). w.folds) c.self.view_is in
    let seen = subst (λ (fs : List Pass). HaveFoldedAll collections p.graph p.fold c.args.plane.now (take (position_count c.args.plane.now) fs)) (sym folds_is) all in
    let given =
    subst (λ (g : CheckedGraph). EachLoad g c.behind-behind.result.now (AreCells collections g c.behind-behind.result.now c.deref-4.result.now (lists_of c.deref_mut-3.result.now))) (sym c.checked.ensures.value)
    (subst (λ (s : ScheduleOf). EachLoad p.graph s (AreCells collections p.graph s c.deref-4.result.now (lists_of c.deref_mut-3.result.now))) (sym c.behind-behind.ensures.value)
    (subst (λ (w : List Window). EachLoad p.graph p.behind (AreCells collections p.graph p.behind w (lists_of c.deref_mut-3.result.now))) same
    (subst (λ bs. EachLoad p.graph p.behind (AreCells collections p.graph p.behind c.deref-3.result.now (lists_of bs))) put_is (c.put_plane.ensures.value collections of seen)))) in
    let of_checked = subst (λ (g : CheckedGraph). AreCollectionsOf g collections) (sym c.checked.ensures.value) of in
    let cells : OfLast p.behind (AreCells collections p.graph p.behind picked (lists_of last)) =
    subst (λ (w : List Window). OfLast p.behind (AreCells collections p.graph p.behind w (lists_of last))) (c.deref-4.ensures.value ∙ picked_is)
    (subst (λ (s : ScheduleOf). OfLast s (AreCells collections p.graph s c.deref-4.result.now (lists_of last))) c.behind-behind.ensures.value
    (subst (λ (g : CheckedGraph). OfLast c.behind-behind.result.now (AreCells collections g c.behind-behind.result.now c.deref-4.result.now (lists_of last))) c.checked.ensures.value
    (c.evaluate_steps.ensures.value collections of_checked given))) in
    subst (λ (w : List Window). OfLast p.behind (λ step. cells_on Empty (result_cube collections p) chunk
    ≡ buffer_cells_at p.behind w (lists_of (with_items (with_items i.behind put) last).items) step)) (sym picked_is)
    (subst (λ bs. OfLast p.behind (λ step. cells_on Empty (result_cube collections p) chunk ≡ buffer_cells_at p.behind picked (lists_of bs) step)) (sym last_is)
    (result_cells p is c.args.self.now.windows picked each are_picked chunk are collections (lists_of last) cells))
