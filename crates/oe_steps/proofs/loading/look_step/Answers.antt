use Rattle.std.proofs.Common.{◌≡◌, ◌≤◌, ◌+◌, ◌-◌, ◌*◌, ◌++◌, ℕ, length, take, drop, refl, sym, ap, ◌∙◌, subst, arith}
use Rattle.std.proofs.lemmas.List.{length-take, length-drop}
use Rattle.std.proofs.lemmas.Grind.{common_steps}
use Rattle.oe_plan.specs.Schedules.{node_at}
use Rattle.oe_sources.specs.CatalogueRows.{rows_of}
use Rattle.oe_window.specs.Parts.{IsPartFrom, plane_size}
use Rattle.oe_window.specs.Windows.{position_count}
use Rattle.oe_steps.proofs.PlaneLemmas.{tells_handed}
use Rattle.oe_steps.proofs.ReadLemmas.{AreRead-refl}
use Rattle.oe_steps.proofs.StepLoadLemmas.{ends_within, front_written, loaded_all, loaded_more, loaded_none, mounted_for, one_plane}
use Rattle.oe_steps.specs.Loads.{AreLoaded, HasLoadedTo}
use borrow.Rule.Slice.PartMut.{post_of}
use Rattle.oe_steps.proofs.loading.look_step.Goals as goal

pub loop-number-init : goal.loop-number-init
loop-number-init g c =
    let rows = rows_of (λ z. (goal.SharedSource-dyn g z).CubeSource.seen z.1) c.args.catalogue.now in
    record {
      done_is = omega arith;
      within = omega arith;
      room = c.requires.room;
      spent = record { left = omega arith; seal = refl };
      loaded = loaded_none c.args.checked.now rows (node_at c.args.schedule.now c.args.step) c.args.window.now c.args.buffer.now;
    }

pub size-count-requires : goal.size-count-requires
size-count-requires g c =
    let w = c.args.window.now in
    let n = c.loop-number.number in
    let fits = ends_within w c.plane-plane.result n c.planes-number-end.result c.plane-plane.ensures.value c.planes-number-end.ensures.value c.loop-number-test.true in
    let done = c.loop-number.invariant.done_is in
    let room = c.loop-number.invariant.room in
    omega (arith, fits.counted, fits.within, c.requires.window.few)

pub overflow_add-piece : goal.overflow_add-piece
overflow_add-piece g c =
    let w = c.args.window.now in
    let n = c.loop-number.number in
    let fits = ends_within w c.plane-plane.result n c.planes-number-end.result c.plane-plane.ensures.value c.planes-number-end.ensures.value c.loop-number-test.true in
    let size = c.size-count.ensures.value in
    let done = c.loop-number.invariant.done_is in
    let room = c.loop-number.invariant.room in
    omega (arith, size, done, fits.counted, fits.within, c.requires.window.few)

pub slice_bounds-piece-end : goal.slice_bounds-piece-end
slice_bounds-piece-end g c =
    let w = c.args.window.now in
    let n = c.loop-number.number in
    let fits = ends_within w c.plane-plane.result n c.planes-number-end.result c.plane-plane.ensures.value c.planes-number-end.ensures.value c.loop-number-test.true in
    let size = c.size-count.ensures.value in
    let done = c.loop-number.invariant.done_is in
    let room = c.loop-number.invariant.room in
    omega (arith, size, done, room, fits.counted, fits.within)

pub look_plane-requires-clause-plane : goal.look_plane-requires-clause-plane
look_plane-requires-clause-plane g c =
    let graph = c.args.checked.now in
    let schedule = c.args.schedule.now in
    let rows = rows_of (λ z. (goal.SharedSource-dyn g z).CubeSource.seen z.1) c.args.catalogue.now in
    let at = c.place_of-place.ensures in
    record {
      load = c.requires.window.load;
      mounted = mounted_for graph schedule rows rows c.args.step c.place_of-place.result at.0 at.1 at.2 (AreRead-refl rows);
      within = λ q in'. c.requires.window.within q (c.plane-plane.ensures.part.inside q in');
      one = one_plane c.args.window.now c.plane-plane.result c.loop-number.number c.plane-plane.ensures.value;
    }

pub look_plane-requires-clause-room : goal.look_plane-requires-clause-room
look_plane-requires-clause-room g c =
    let w = c.args.window.now in
    let n = c.loop-number.number in
    let fits = ends_within w c.plane-plane.result n c.planes-number-end.result c.plane-plane.ensures.value c.planes-number-end.ensures.value c.loop-number-test.true in
    let size = c.size-count.ensures.value in
    let done = c.loop-number.invariant.done_is in
    let room = c.loop-number.invariant.room in
    let k = c.loop-number.done in
    let m = c.size-count.result in
    let buffer = c.loop-number.buffer in
    omega (arith, length-take (k + m - k) (drop k buffer), length-drop k buffer, size, done, room, fits.counted, fits.within)

pub look_plane-requires-clause-asked : goal.look_plane-requires-clause-asked
look_plane-requires-clause-asked g c =
    let w = c.args.window.now in
    let n = c.loop-number.number in
    let fits = ends_within w c.plane-plane.result n c.planes-number-end.result c.plane-plane.ensures.value c.planes-number-end.ensures.value c.loop-number-test.true in
    let done = c.loop-number.invariant.done_is in
    let spent = c.loop-number.invariant.spent in
    record { enough = omega (arith, done, fits.counted, fits.within, c.requires.asked.enough, spent.left); own = spent.seal ∙ c.requires.asked.own }

pub returns-in_err-look_plane-clause-refused : goal.returns-in_err-look_plane-clause-refused
returns-in_err-look_plane-clause-refused g c =
    tells_handed c.args.checked.now (rows_of (λ z. (goal.SharedSource-dyn g z).CubeSource.seen z.1) c.args.catalogue.now) (node_at c.args.schedule.now c.args.step) c.in_err-look_plane.field-0.0 c.from_residual.result c.from_residual.ensures.1
    c.in_err-look_plane.ensures.refused

pub returns-in_err-look_plane-clause-spent : goal.returns-in_err-look_plane-clause-spent
returns-in_err-look_plane-clause-spent g c =
    let w = c.args.window.now in
    let n = c.loop-number.number in
    let fits = ends_within w c.plane-plane.result n c.planes-number-end.result c.plane-plane.ensures.value c.planes-number-end.ensures.value c.loop-number-test.true in
    let done = c.loop-number.invariant.done_is in
    let before = c.loop-number.invariant.spent in
    let spent = c.in_err-look_plane.ensures.spent in
    record { left = omega (arith, done, fits.counted, fits.within, before.left, spent.left); seal = spent.seal ∙ before.seal }

pub loop-number-preserved : goal.loop-number-preserved
loop-number-preserved g c =
    let w = c.args.window.now in
    let n = c.loop-number.number in
    let fits = ends_within w c.plane-plane.result n c.planes-number-end.result c.plane-plane.ensures.value c.planes-number-end.ensures.value c.loop-number-test.true in
    let size = c.size-count.ensures.value in
    let done = c.loop-number.invariant.done_is in
    let room = c.loop-number.invariant.room in
    let graph = c.args.checked.now in
    let schedule = c.args.schedule.now in
    let node = node_at schedule c.args.step in
    let rows = rows_of (λ z. (goal.SharedSource-dyn g z).CubeSource.seen z.1) c.args.catalogue.now in
    let plane = c.plane-plane.result in
    let k = c.loop-number.done in
    let m = c.size-count.result in
    let buffer = c.loop-number.buffer in
    let piece = c.look_plane.new.into in
    let rest = post_of k (k + m - k) buffer in
    let inside : k + m ≤ length buffer = omega (arith, size, done, room, fits.counted, fits.within) in
    let long : length piece ≡ m = omega (arith, c.look_plane.auto.into, length-take (k + m - k) (drop k buffer), length-drop k buffer, inside) in
    let part : IsPartFrom k w plane = subst (λ (i : ℕ). IsPartFrom i w plane) (sym done) c.plane-plane.ensures.part in
    let written = front_written buffer piece rest k m (omega (arith, inside)) long in
    let loaded : AreLoaded graph rows node plane piece = c.in_ok-look_plane.ensures.loaded in
    record {
      done_is = omega (arith, size, done, fits.counted, fits.next);
      within = omega (arith, inside, c.look_plane.auto.into);
      room = omega (arith, room, c.look_plane.auto.into);
      spent = record {
        left = omega (arith, size, c.loop-number.invariant.spent.left, c.look_plane.ensures.spent.left);
        seal = c.look_plane.ensures.spent.seal ∙ c.loop-number.invariant.spent.seal;
      };
      loaded = subst (λ (i : ℕ). HasLoadedTo graph rows node w (k + i) (take k buffer ++ (piece ++ rest))) (sym size)
          (loaded_more graph rows node w k plane buffer (take k buffer ++ (piece ++ rest)) piece part
          (subst (λ (i : ℕ). take (k + i) (take k buffer ++ (piece ++ rest)) ≡ take k buffer ++ piece) size written)
          c.loop-number.invariant.loaded loaded);
    }

pub returns-clause-loaded : goal.returns-clause-loaded
returns-clause-loaded g c =
    let graph = c.args.checked.now in
    let schedule = c.args.schedule.now in
    let node = node_at schedule c.args.step in
    let rows = rows_of (λ z. (goal.SharedSource-dyn g z).CubeSource.seen z.1) c.args.catalogue.now in
    let w = c.args.window.now in
    let end : c.loop-number.number ≡ c.planes-number-end.result = omega (arith, c.loop-number-test.false, c.loop-number.auto.number-end) in
    let all : c.loop-number.done ≡ position_count w =
    c.loop-number.invariant.done_is ∙ (ap (λ (m : ℕ). m * plane_size w) end ∙ c.planes-number-end.ensures.all) in
    loaded_all graph rows node w c.loop-number.done c.loop-number.buffer all c.loop-number.invariant.loaded

pub returns-clause-spent : goal.returns-clause-spent
returns-clause-spent g c =
    let w = c.args.window.now in
    let end : c.loop-number.number ≡ c.planes-number-end.result = omega (arith, c.loop-number-test.false, c.loop-number.auto.number-end) in
    let all : c.loop-number.done ≡ position_count w =
    c.loop-number.invariant.done_is ∙ (ap (λ (m : ℕ). m * plane_size w) end ∙ c.planes-number-end.ensures.all) in
    record { left = omega (arith, all, c.loop-number.invariant.spent.left); seal = c.loop-number.invariant.spent.seal }

pub overflow_add-done : goal.overflow_add-done
overflow_add-done g c = grind (arith, common_steps) steps 2000000
