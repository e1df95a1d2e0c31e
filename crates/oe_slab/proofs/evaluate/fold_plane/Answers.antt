use Rattle.std.proofs.Common.{◌≡◌, ◌+◌, ◌-◌, ◌*◌, ◌∙◌, ℕ, Bool, [], Some, Ok, Err, refl, sym, subst, arith}
use Rattle.std.proofs.Math.Nat.{mul-le-mul}
use Rattle.std.proofs.lemmas.Option.{same_Some}
use Rattle.oe_fold.specs.declared.reducer.Reducer.{Reducer}
use Rattle.oe_check.specs.Reach.{time_fold_of_node}
use Rattle.oe_sources.specs.CatalogueRows.{rows_of}
use Rattle.oe_steps.specs.Buffers.{lists_of}
use Rattle.oe_steps.specs.Loads.{HasRead}
use Rattle.oe_steps.proofs.ReadLemmas.{has_more, has_most, has_none, has_refused, has_same, shows_same}
use Rattle.oe_slab.specs.Figures.{largest_slab}
use Rattle.oe_slab.specs.Folds.{HaveSeen}
use Rattle.oe_slab.specs.Planes.{IsEvaluatedOn}
use Rattle.oe_slab.specs.Plans.{most_asked, slab_count}
use Rattle.oe_slab.specs.Schedules.{IsSlabOf, load_count}
use Rattle.oe_slab.specs.Slabs.{HaveFolded, cube_taken, dates_of_fold}
use Rattle.oe_slab.proofs.PlaneWindowLemmas.{is_plane, is_slab}
use Rattle.oe_slab.proofs.ScheduleLemmas.{ordered_by}
use Rattle.oe_slab.proofs.SlabLemmas.{none_folded}
use Rattle.oe_slab.proofs.StepLemmas.{one_more, one_slab}
use Rattle.oe_slab.proofs.evaluate.fold_plane.Goals as goal

pub loop-from-init : goal.loop-from-init
loop-from-init g c =
    let rows = rows_of (λ z. (goal.SharedSource-dyn g z).CubeSource.seen z.1) c.args.catalogue.now in
    let p = c.args.plan.now in
    let folds = c.begin_folds.new.folds in
    let begun : (reducer : Reducer) (ignores_nulls : Bool) → time_fold_of_node p.graph p.fold ≡ Some (reducer, ignores_nulls)
    → HaveSeen folds reducer ignores_nulls (λ k. []) =
    λ reducer ignores_nulls by.
    subst (λ (x : Reducer × Bool). HaveSeen folds x.0 x.1 (λ k. []))
    (same_Some (c.reducer-reducer.result.0, c.reducer-reducer.result.1) (reducer, ignores_nulls) (sym c.reducer-reducer.ensures ∙ by)) c.begin_folds.ensures.seen in
    record {
      upto = omega arith;
      long = c.begin_folds.auto.folds;
      windows = refl;
      scratch = refl;
      buffers = c.requires.room.room;
      read = (0, omega arith, omega arith, has_most p.graph 0 (0 * (load_count p.graph p.before * largest_slab p.graph p.size)) rows rows (Ok tt) (omega arith) (has_none p.graph rows));
      room = λ more below. c.begin_folds.ensures.room more (omega arith);
      kinds = λ reducer ignores_nulls by. record {
        cells = λ k. [];
        seen = begun reducer ignores_nulls by;
        kinds = λ k below i d h. absurd (omega arith);
        as_many = λ k below. refl;
      };
      seen = λ collections of shows reducer ignores_nulls by.
          none_folded (cube_taken collections p.graph p.fold) c.args.plane.now reducer ignores_nulls folds (begun reducer ignores_nulls by);
    }

pub evaluate_slab-requires-clause-mounted : goal.evaluate_slab-requires-clause-mounted
evaluate_slab-requires-clause-mounted g c = has_same _ _ c.loop-from.invariant.read.3.read.same c.args.plan.now.graph c.requires.mounted

pub evaluate_slab-requires-clause-slab : goal.evaluate_slab-requires-clause-slab
evaluate_slab-requires-clause-slab g c =
    let p = c.args.plan.now in
    let valid = c.dates-dates.ensures.valid in
    let from = c.loop-from.from in
    let to = c.min-to.result in
    let some = valid.sides.t.0 in
    subst (IsSlabOf p.graph p.size p.fold c.args.all.now) (sym c.slab_of-slab.ensures)
    (is_slab p.graph valid.faultless p.fold valid.cut p.size (ordered_by p.graph p.size p.fold p.whole p.before p.behind valid.schedules)
    c.requires.plane.0 c.args.all.now c.requires.plane.1.windows_are c.args.plane.now c.requires.plane.1.plane_is c.requires.filled from to
    (omega (arith, some)) (omega arith) (omega arith))

pub evaluate_slab-requires-clause-room : goal.evaluate_slab-requires-clause-room
evaluate_slab-requires-clause-room g c = record {
  windows_many = c.loop-from.invariant.windows ∙ c.requires.room.windows_many;
  room = c.loop-from.invariant.buffers;
  scratch_many = c.loop-from.invariant.scratch ∙ c.requires.room.scratch_many;
}

pub fold_dates-requires-clause-evaluated : goal.fold_dates-requires-clause-evaluated
fold_dates-requires-clause-evaluated g c =
    let p = c.args.plan.now in
    subst (IsEvaluatedOn p.graph p.before c.evaluate_slab.new.windows (lists_of c.evaluate_slab.new.buffers)) c.slab_of-slab.ensures
    c.in_ok-evaluate_slab.ensures.evaluated

pub fold_dates-requires-clause-folds : goal.fold_dates-requires-clause-folds
fold_dates-requires-clause-folds g c =
    let p = c.args.plan.now in
    let valid = c.dates-dates.ensures.valid in
    record {
      plane_is = is_plane p.graph valid.faultless p.fold valid.cut p.size (ordered_by p.graph p.size p.fold p.whole p.before p.behind valid.schedules)
          c.requires.plane.0 c.args.all.now c.requires.plane.1.windows_are c.args.plane.now c.requires.plane.1.plane_is c.requires.filled;
      upto = omega arith;
      counted = c.loop-from.invariant.long ∙ c.requires.folds;
      room = c.loop-from.invariant.room (c.min-to.result - c.loop-from.from) (omega arith);
    }

pub returns-in_err-evaluate_slab-clause-read : goal.returns-in_err-evaluate_slab-clause-read
returns-in_err-evaluate_slab-clause-read g c =
    let p = c.args.plan.now in
    let before = rows_of (λ z. (goal.SharedSource-dyn g z).CubeSource.seen z.1) c.args.catalogue.now in
    let now = rows_of (λ z. (goal.SharedSource-dyn g z).CubeSource.seen z.1) c.loop-from.catalogue in
    let after = rows_of (λ z. (goal.SharedSource-dyn g z).CubeSource.seen z.1) c.evaluate_slab.new.catalogue in
    let refusal = c.in_err-evaluate_slab.field-0.0 in
    let cells = load_count p.graph p.before * largest_slab p.graph p.size in
    let was = c.loop-from.invariant.read in
    let slab = one_slab was.0 p.size.t (dates_of_fold p.graph p.fold) c.loop-from.from c.min-to.result c.dates-dates.ensures.valid.sides.t.0 was.2
    (omega (arith, c.loop-from-test.true, c.dates-dates.ensures.value)) (omega (arith, c.dates-dates.ensures.value)) in
    has_refused p.graph (most_asked p) before after refusal c.from_residual.result c.from_residual.ensures.1
    (has_most p.graph (was.0 * cells + cells) (most_asked p) before after (Err refusal) (one_more was.0 (slab_count p) cells (omega (arith, slab.0))).1
    (has_more p.graph (was.0 * cells) cells before now after (Err refusal) was.3 c.in_err-evaluate_slab.ensures.read))

pub loop-from-preserved : goal.loop-from-preserved
loop-from-preserved g c =
    let p = c.args.plan.now in
    let before = rows_of (λ z. (goal.SharedSource-dyn g z).CubeSource.seen z.1) c.args.catalogue.now in
    let now = rows_of (λ z. (goal.SharedSource-dyn g z).CubeSource.seen z.1) c.loop-from.catalogue in
    let after = rows_of (λ z. (goal.SharedSource-dyn g z).CubeSource.seen z.1) c.evaluate_slab.new.catalogue in
    let inv = c.loop-from.invariant in
    let to = c.min-to.result in
    let cells = load_count p.graph p.before * largest_slab p.graph p.size in
    let was = inv.read in
    let slab = one_slab was.0 p.size.t (dates_of_fold p.graph p.fold) c.loop-from.from to c.dates-dates.ensures.valid.sides.t.0 was.2
    (omega (arith, c.loop-from-test.true, c.dates-dates.ensures.value)) (omega (arith, c.dates-dates.ensures.value)) in
    record {
      upto = omega arith;
      long = c.fold_dates.auto.folds ∙ inv.long;
      windows = c.evaluate_slab.auto.windows ∙ inv.windows;
      scratch = c.evaluate_slab.auto.scratch ∙ inv.scratch;
      buffers = c.evaluate_slab.ensures.room;
      read = (
        was.0 + 1,
        slab.0,
        slab.1,
        subst (λ (n : ℕ). HasRead p.graph n before after (Ok tt)) (sym (one_more was.0 (slab_count p) cells (omega (arith, slab.0))).0)
            (has_more p.graph (was.0 * cells) cells before now after (Ok tt) was.3 c.in_ok-evaluate_slab.ensures.read),
      );
      room = λ more below. c.fold_dates.ensures.room more (inv.room (more + (to - c.loop-from.from)) (omega arith));
      kinds = λ reducer ignores_nulls by. c.fold_dates.ensures.kinds reducer ignores_nulls (inv.kinds reducer ignores_nulls by);
      seen = λ collections of shows reducer ignores_nulls by.
          c.fold_dates.ensures.seen collections reducer ignores_nulls
          (c.in_ok-evaluate_slab.ensures.value collections of (shows_same p.graph before now was.3.read.same collections shows))
          (inv.seen collections of shows reducer ignores_nulls by);
    }

pub returns-clause-room : goal.returns-clause-room
returns-clause-room g c = c.loop-from.invariant.buffers

pub returns-clause-folded : goal.returns-clause-folded
returns-clause-folded g c =
    let p = c.args.plan.now in
    let end : c.loop-from.from ≡ dates_of_fold p.graph p.fold =
    omega (arith, c.dates-dates.ensures.value, c.loop-from.invariant.upto, c.loop-from-test.false) in
    let kinds = c.loop-from.invariant.kinds c.reducer-reducer.result.0 c.reducer-reducer.result.1 c.reducer-reducer.ensures in
    record {
      seen = λ collections of shows reducer ignores_nulls by.
          subst (λ (n : ℕ). HaveFolded c.loop-from.folds reducer ignores_nulls (cube_taken collections p.graph p.fold) c.args.plane.now n) end
          (c.loop-from.invariant.seen collections of shows reducer ignores_nulls by);
      kind = record {
        reducer = c.reducer-reducer.result.0;
        ignores_nulls = c.reducer-reducer.result.1;
        by = c.reducer-reducer.ensures;
        cells = kinds.cells;
        seen = kinds.seen;
        kinds = kinds.kinds;
        as_many = λ k below. kinds.as_many k below ∙ end;
        room = c.loop-from.invariant.room 0 (omega arith);
      };
    }

pub returns-clause-read : goal.returns-clause-read
returns-clause-read g c =
    let p = c.args.plan.now in
    let before = rows_of (λ z. (goal.SharedSource-dyn g z).CubeSource.seen z.1) c.args.catalogue.now in
    let now = rows_of (λ z. (goal.SharedSource-dyn g z).CubeSource.seen z.1) c.loop-from.catalogue in
    let was = c.loop-from.invariant.read in
    let cells = load_count p.graph p.before * largest_slab p.graph p.size in
    has_most p.graph (was.0 * cells) (most_asked p) before now (Ok tt) (mul-le-mul was.1 (omega arith)) was.3
