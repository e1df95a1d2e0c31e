use Rattle.std.proofs.Common.{◌≡◌, ◌≤◌, ◌*◌, ◌+◌, ℕ, Ok, Err, sym, subst, arith}
use Rattle.std.proofs.Math.Nat.{mul-le-mul}
use Rattle.oe_sources.specs.CatalogueRows.{rows_of}
use Rattle.oe_steps.specs.Buffers.{lists_of}
use Rattle.oe_steps.specs.Loads.{HasRead, IsLoadedAt}
use Rattle.oe_steps.specs.Steps.{AreCells, AreOfKind, EachLive}
use Rattle.oe_steps.proofs.LoadLemmas.{each_loaded}
use Rattle.oe_steps.proofs.ReadLemmas.{has_more, has_most, has_none, has_refused, has_same}
use Rattle.oe_slab.specs.Schedules.{load_count}
use Rattle.oe_slab.proofs.StepLemmas.{loads_counted, loads_here, none_live, one_more}
use Rattle.oe_slab.proofs.evaluate.load_all.Goals as goal

pub loop-step-init : goal.loop-step-init
loop-step-init g c =
    let rows = rows_of (λ z. (goal.SharedSource-dyn g z).CubeSource.seen z.1) c.args.catalogue.now in
    record {
      room = c.requires.ready.room;
      read = has_most c.args.checked.now 0 (0 * c.args.schedule.now.largest) rows rows (Ok tt) (omega arith) (has_none c.args.checked.now rows);
      loaded = none_live c.args.checked.now c.args.schedule.now _;
    }

pub load_slot-requires-clause-load : goal.load_slot-requires-clause-load
load_slot-requires-clause-load g c =
    loads_here c.args.checked.now c.args.schedule.now c.requires.ready.none_given c.loop-step.step (c.loads-step-end.ensures.load c.loop-step.step c.loop-step-test.true)

pub load_slot-requires-clause-mounted : goal.load_slot-requires-clause-mounted
load_slot-requires-clause-mounted g c = has_same _ _ c.loop-step.invariant.read.read.same c.args.checked.now c.requires.ready.mounted

pub returns-in_err-load_slot-clause-read : goal.returns-in_err-load_slot-clause-read
returns-in_err-load_slot-clause-read g c =
    let graph = c.args.checked.now in
    let schedule = c.args.schedule.now in
    let before = rows_of (λ z. (goal.SharedSource-dyn g z).CubeSource.seen z.1) c.args.catalogue.now in
    let now = rows_of (λ z. (goal.SharedSource-dyn g z).CubeSource.seen z.1) c.loop-step.catalogue in
    let after = rows_of (λ z. (goal.SharedSource-dyn g z).CubeSource.seen z.1) c.load_slot.new.catalogue in
    let n = c.loop-step.step in
    let refusal = c.in_err-load_slot.field-0.0 in
    has_refused graph (load_count graph schedule * schedule.largest) before after refusal c.from_residual.result c.from_residual.ensures.1
    (has_most graph (n * schedule.largest + schedule.largest) (load_count graph schedule * schedule.largest) before after (Err refusal)
    (one_more n (load_count graph schedule) schedule.largest (omega (arith, c.loop-step-test.true, loads_counted graph schedule c.loads-step-end.result c.loads-step-end.ensures.most c.loads-step-end.ensures.load))).1
    (has_more graph (n * schedule.largest) schedule.largest before now after (Err refusal) c.loop-step.invariant.read c.in_err-load_slot.ensures.read))

pub loop-step-preserved : goal.loop-step-preserved
loop-step-preserved g c =
    let graph = c.args.checked.now in
    let schedule = c.args.schedule.now in
    let before = rows_of (λ z. (goal.SharedSource-dyn g z).CubeSource.seen z.1) c.args.catalogue.now in
    let now = rows_of (λ z. (goal.SharedSource-dyn g z).CubeSource.seen z.1) c.loop-step.catalogue in
    let after = rows_of (λ z. (goal.SharedSource-dyn g z).CubeSource.seen z.1) c.load_slot.new.catalogue in
    let n = c.loop-step.step in
    let inv = c.loop-step.invariant in
    record {
      room = c.load_slot.ensures.room;
      read = subst (λ (m : ℕ). HasRead graph m before after (Ok tt))
          (sym (one_more n (load_count graph schedule) schedule.largest (omega (arith, c.loop-step-test.true, loads_counted graph schedule c.loads-step-end.result c.loads-step-end.ensures.most c.loads-step-end.ensures.load))).0)
          (has_more graph (n * schedule.largest) schedule.largest before now after (Ok tt) inv.read c.in_ok-load_slot.ensures.read);
      loaded = c.in_ok-load_slot.ensures.loaded before inv.read.read inv.loaded;
    }

pub returns-clause-kinds : goal.returns-clause-kinds
returns-clause-kinds g c =
    let graph = c.args.checked.now in
    let schedule = c.args.schedule.now in
    let rows = rows_of (λ z. (goal.SharedSource-dyn g z).CubeSource.seen z.1) c.args.catalogue.now in
    let end : c.loop-step.step ≡ c.loads-step-end.result = omega (arith, c.loop-step-test.false, c.loop-step.auto.step-end) in
    each_loaded graph schedule c.requires.ready.scheduled (AreOfKind graph schedule c.args.windows.now (lists_of c.loop-step.buffers))
    c.loads-step-end.result c.loads-step-end.ensures.load c.loads-step-end.ensures.work
    (λ i below live.
    (subst (λ (n : ℕ). EachLive graph schedule n (IsLoadedAt graph schedule rows c.args.windows.now (lists_of c.loop-step.buffers))) end
    c.loop-step.invariant.loaded i below live).kinds)

pub returns-clause-value : goal.returns-clause-value
returns-clause-value g c = λ collections of shows.
    let graph = c.args.checked.now in
    let schedule = c.args.schedule.now in
    let rows = rows_of (λ z. (goal.SharedSource-dyn g z).CubeSource.seen z.1) c.args.catalogue.now in
    let end : c.loop-step.step ≡ c.loads-step-end.result = omega (arith, c.loop-step-test.false, c.loop-step.auto.step-end) in
    each_loaded graph schedule c.requires.ready.scheduled (AreCells collections graph schedule c.args.windows.now (lists_of c.loop-step.buffers))
    c.loads-step-end.result c.loads-step-end.ensures.load c.loads-step-end.ensures.work
    (λ i below live.
    (subst (λ (n : ℕ). EachLive graph schedule n (IsLoadedAt graph schedule rows c.args.windows.now (lists_of c.loop-step.buffers))) end
    c.loop-step.invariant.loaded i below live).values collections of shows)

pub returns-clause-read : goal.returns-clause-read
returns-clause-read g c =
    let graph = c.args.checked.now in
    let schedule = c.args.schedule.now in
    let before = rows_of (λ z. (goal.SharedSource-dyn g z).CubeSource.seen z.1) c.args.catalogue.now in
    let now = rows_of (λ z. (goal.SharedSource-dyn g z).CubeSource.seen z.1) c.loop-step.catalogue in
    let end : c.loop-step.step ≡ c.loads-step-end.result = omega (arith, c.loop-step-test.false, c.loop-step.auto.step-end) in
    let most : c.loop-step.step ≤ load_count graph schedule =
    omega (arith, end, loads_counted graph schedule c.loads-step-end.result c.loads-step-end.ensures.most c.loads-step-end.ensures.load) in
    has_most graph (c.loop-step.step * schedule.largest) (load_count graph schedule * schedule.largest) before now (Ok tt)
    (mul-le-mul most (omega arith)) c.loop-step.invariant.read
