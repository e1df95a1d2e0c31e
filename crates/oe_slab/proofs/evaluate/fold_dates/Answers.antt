use Rattle.std.proofs.Common.{◌≡◌, ◌<◌, ◌-◌, ◌*◌, ◌∙◌, ℕ, length, refl, sym, ap, subst, arith}
use Rattle.oe_plan.specs.Schedules.{AreWindowsFor, IsSchedule, ScheduleOf, node_at}
use Rattle.oe_steps.specs.Buffers.{lists_of}
use Rattle.oe_steps.specs.Steps.{HaveRoomFor, buffer_cells_at}
use Rattle.oe_slab.specs.Slabs.{cells_by_date, cube_taken, kind_taken, slab_window}
use Rattle.oe_slab.proofs.FoldedSlabLemmas.{kinds_more, slab_cells, slab_kinds, slab_long}
use Rattle.oe_slab.proofs.SlabLemmas.{slab_folded}
use Rattle.oe_slab.proofs.StepLemmas.{as_read}
use Rattle.oe_slab.proofs.evaluate.fold_dates.Goals as goal

pub front-cells-requires-clause-schedule : goal.front-cells-requires-clause-schedule
front-cells-requires-clause-schedule c =
    let p = c.args.plan.now in
    as_read (λ graph s. IsSchedule graph s) p.graph c.checked.result.now p.before c.before-2.result.now c.checked.ensures.value c.before-2.ensures.value
    c.before-2.ensures.valid.schedules.before

pub front-cells-requires-clause-windows : goal.front-cells-requires-clause-windows
front-cells-requires-clause-windows c =
    let p = c.args.plan.now in
    as_read (λ graph s. AreWindowsFor graph s c.args.windows.now) p.graph c.checked.result.now p.before c.before-2.result.now c.checked.ensures.value c.before-2.ensures.value
    c.requires.evaluated.windows_serve

pub front-cells-requires-clause-room : goal.front-cells-requires-clause-room
front-cells-requires-clause-room c =
    let p = c.args.plan.now in
    as_read (λ graph s. HaveRoomFor s (lists_of c.args.buffers.now)) p.graph c.checked.result.now p.before c.before-2.result.now c.checked.ensures.value c.before-2.ensures.value
    c.requires.evaluated.room

pub fold_slab-requires-clause-as_many : goal.fold_slab-requires-clause-as_many
fold_slab-requires-clause-as_many c =
    let p = c.args.plan.now in
    let valid = c.before-2.ensures.valid in
    let schedule = c.before-2.ensures.value in
    let below : c.last_before-last.result < length p.before.order.steps = c.last_before-last.ensures.within in
    let stands : node_at p.before c.last_before-last.result ≡ p.before.last = c.last_before-last.ensures.is in
    let cells : c.front-cells.result.now ≡ buffer_cells_at p.before c.args.windows.now (lists_of c.args.buffers.now) c.last_before-last.result =
    subst (λ (s : ScheduleOf). c.front-cells.result.now ≡ buffer_cells_at s c.args.windows.now (lists_of c.args.buffers.now) c.last_before-last.result) schedule c.front-cells.ensures in
    slab_long p.graph p.fold p.before c.args.windows.now (lists_of c.args.buffers.now) c.last_before-last.result valid.schedules.before_last below stands
    c.front-cells.result.now cells valid.schedules.before c.requires.evaluated.windows_serve c.requires.evaluated.room c.args.plane.now c.args.from c.args.to c.requires.folds.plane_is c.requires.evaluated.window_is
    ∙ ap (λ (n : ℕ). (c.args.to - c.args.from) * n) (sym c.requires.folds.counted)

pub returns-clause-seen : goal.returns-clause-seen
returns-clause-seen c = λ collections reducer ignores_nulls values folded.
    let p = c.args.plan.now in
    let valid = c.before-2.ensures.valid in
    let schedule = c.before-2.ensures.value in
    let below : c.last_before-last.result < length p.before.order.steps = c.last_before-last.ensures.within in
    let stands : node_at p.before c.last_before-last.result ≡ p.before.last = c.last_before-last.ensures.is in
    let cells : c.front-cells.result.now ≡ buffer_cells_at p.before c.args.windows.now (lists_of c.args.buffers.now) c.last_before-last.result =
    subst (λ (s : ScheduleOf). c.front-cells.result.now ≡ buffer_cells_at s c.args.windows.now (lists_of c.args.buffers.now) c.last_before-last.result) schedule c.front-cells.ensures in
    let plane = c.args.plane.now in
    let cube = cube_taken collections p.graph p.fold in
    let old = c.args.folds.now in
    slab_folded plane c.requires.folds.plane_is c.args.from c.args.to cube reducer ignores_nulls c.fold_slab.new.folds c.front-cells.result.now (length old) (c.args.to - c.args.from)
    c.requires.folds.upto (c.fold_slab.auto.folds ∙ c.requires.folds.counted) c.requires.folds.counted refl
    (slab_cells p.graph p.fold p.before c.args.windows.now (lists_of c.args.buffers.now) c.last_before-last.result valid.schedules.before_last below stands
    c.front-cells.result.now cells collections (slab_window plane c.args.from c.args.to) c.requires.evaluated.window_is values)
    (c.fold_slab.ensures.seen reducer ignores_nulls (cells_by_date cube plane c.args.from) folded)

pub returns-clause-kinds : goal.returns-clause-kinds
returns-clause-kinds c = λ reducer ignores_nulls was.
    let p = c.args.plan.now in
    let valid = c.before-2.ensures.valid in
    let schedule = c.before-2.ensures.value in
    let below : c.last_before-last.result < length p.before.order.steps = c.last_before-last.ensures.within in
    let stands : node_at p.before c.last_before-last.result ≡ p.before.last = c.last_before-last.ensures.is in
    let cells : c.front-cells.result.now ≡ buffer_cells_at p.before c.args.windows.now (lists_of c.args.buffers.now) c.last_before-last.result =
    subst (λ (s : ScheduleOf). c.front-cells.result.now ≡ buffer_cells_at s c.args.windows.now (lists_of c.args.buffers.now) c.last_before-last.result) schedule c.front-cells.ensures in
    let old = c.args.folds.now in
    let dates = c.args.to - c.args.from in
    let long = slab_long p.graph p.fold p.before c.args.windows.now (lists_of c.args.buffers.now) c.last_before-last.result valid.schedules.before_last below stands
    c.front-cells.result.now cells valid.schedules.before c.requires.evaluated.windows_serve c.requires.evaluated.room c.args.plane.now c.args.from c.args.to c.requires.folds.plane_is c.requires.evaluated.window_is
    ∙ ap (λ (n : ℕ). dates * n) (sym c.requires.folds.counted) in
    kinds_more (kind_taken p.graph p.fold) old c.fold_slab.new.folds reducer ignores_nulls c.front-cells.result.now c.args.from (length old) dates c.args.to
    refl c.fold_slab.auto.folds long (let upto = c.requires.folds.upto in omega arith)
    (slab_kinds p.graph p.fold p.before c.args.windows.now (lists_of c.args.buffers.now) c.last_before-last.result valid.schedules.before_last below stands
    c.front-cells.result.now cells c.requires.evaluated.kinds)
    (λ seen all. c.fold_slab.ensures.seen reducer ignores_nulls seen all) was
