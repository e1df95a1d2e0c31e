use Rattle.std.proofs.Common.{◌≡◌, ◌*◌, ℕ, length, OnOk, subst}
use Rattle.oe_plan.specs.Figures.{scratch_of}
use Rattle.oe_sources.specs.CatalogueRows.{rows_of}
use Rattle.oe_steps.specs.Buffers.{lists_of}
use Rattle.oe_steps.specs.Loads.{HasRead}
use Rattle.oe_steps.specs.Steps.{AreCells, AreOfKind, HaveRoomFor, OfLast}
use Rattle.oe_steps.proofs.Outcomes.{on_ok}
use Rattle.oe_slab.specs.Planes.{ForEachVisible, IsEvaluatedOn, IsReadyPart}
use Rattle.oe_slab.specs.Schedules.{load_count}
use Rattle.oe_slab.proofs.StepLemmas.{as_is, as_read}
use Rattle.oe_slab.proofs.evaluate.evaluate_slab.Goals as goal

pub evaluate_part-requires-clause-ready : goal.evaluate_part-requires-clause-ready
evaluate_part-requires-clause-ready g c =
    let p = c.args.plan.now in
    let rows = rows_of (λ z. (goal.SharedSource-dyn g z).CubeSource.seen z.1) c.args.catalogue.now in
    let schedules = c.before-2.ensures.valid.schedules in
    as_read (λ graph s. IsReadyPart graph s rows c.slab_windows.new.windows (lists_of c.args.buffers.now))
    p.graph c.checked.result.now p.before c.before-2.result.now c.checked.ensures.value c.before-2.ensures.value
    (record {
      scheduled = schedules.before;
      none_given = schedules.before_given;
      mounted = c.requires.mounted;
      windows_serve = c.slab_windows.ensures.windows;
      room = c.requires.room.room;
    })

pub evaluate_part-requires-clause-scratch : goal.evaluate_part-requires-clause-scratch
evaluate_part-requires-clause-scratch g c =
    let p = c.args.plan.now in
    as_read (λ graph s. length c.args.scratch.now ≡ scratch_of graph) p.graph c.checked.result.now p.before c.before-2.result.now c.checked.ensures.value c.before-2.ensures.value
    c.requires.room.scratch_many

pub returns-clause-room : goal.returns-clause-room
returns-clause-room g c =
    let p = c.args.plan.now in
    as_is (λ graph s. HaveRoomFor s (lists_of c.evaluate_part.new.buffers)) p.graph c.checked.result.now p.before c.before-2.result.now c.checked.ensures.value c.before-2.ensures.value
    c.evaluate_part.ensures.room

pub returns-clause-evaluated : goal.returns-clause-evaluated
returns-clause-evaluated g c =
    let p = c.args.plan.now in
    let windows = c.slab_windows.new.windows in
    let buffers = lists_of c.evaluate_part.new.buffers in
    on_ok (OfLast p.before (AreOfKind p.graph p.before windows buffers)) (IsEvaluatedOn p.graph p.before windows buffers c.args.slab.now) c.evaluate_part.result
    (λ kinds. record {
      windows_serve = c.slab_windows.ensures.windows;
      window_is = c.slab_windows.ensures.last;
      room = returns-clause-room g c;
      kinds = kinds;
    })
    (as_is (λ graph s. OnOk c.evaluate_part.result (OfLast s (AreOfKind graph s windows buffers)))
    p.graph c.checked.result.now p.before c.before-2.result.now c.checked.ensures.value c.before-2.ensures.value
    c.evaluate_part.ensures.kinds)

pub returns-clause-value : goal.returns-clause-value
returns-clause-value g c =
    let p = c.args.plan.now in
    let rows = rows_of (λ z. (goal.SharedSource-dyn g z).CubeSource.seen z.1) c.args.catalogue.now in
    as_is (λ graph s. OnOk c.evaluate_part.result (ForEachVisible graph rows
    (λ collections. OfLast s (AreCells collections graph s c.slab_windows.new.windows (lists_of c.evaluate_part.new.buffers)))))
    p.graph c.checked.result.now p.before c.before-2.result.now c.checked.ensures.value c.before-2.ensures.value
    c.evaluate_part.ensures.value

pub returns-clause-read : goal.returns-clause-read
returns-clause-read g c =
    let p = c.args.plan.now in
    let rows = rows_of (λ z. (goal.SharedSource-dyn g z).CubeSource.seen z.1) c.args.catalogue.now in
    let after = rows_of (λ z. (goal.SharedSource-dyn g z).CubeSource.seen z.1) c.evaluate_part.new.catalogue in
    subst (λ (n : ℕ). HasRead p.graph (load_count p.graph p.before * n) rows after c.evaluate_part.result) c.before-2.ensures.valid.schedules.before_largest
    (as_is (λ graph s. HasRead graph (load_count graph s * s.largest) rows after c.evaluate_part.result)
    p.graph c.checked.result.now p.before c.before-2.result.now c.checked.ensures.value c.before-2.ensures.value
    c.evaluate_part.ensures.read)
