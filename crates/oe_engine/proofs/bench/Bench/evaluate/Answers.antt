use Rattle.std.proofs.Common.{◌≡◌, ◌∙◌, refl, sym, ap, subst, length, arith}
use Rattle.std.specs.Vec.{with_items}
use Rattle.std.proofs.lemmas.Grind.{moves}
use borrow.Author.Differences.{ints}
use Rattle.oe_engine.specs.Benches.{AreCells, AreOfKind, EachLoad, IsBenchFor, IsDone, IsLoaded, OfResult}
use Rattle.oe_steps.specs.Buffers.{lists_of}
use Rattle.oe_engine.specs.declared.bench.State.{State}
use Rattle.oe_engine.specs.declared.bench.State.TheVariants.{Loaded, Done}
use Rattle.oe_engine.proofs.BenchLemmas.{bench, bench_after, done_after, same_chunk}
use Rattle.oe_steps.proofs.BufferLemmas.{with_items_is}
use Rattle.oe_engine.proofs.bench.Bench.evaluate.Goals as goal

pub returns-in-Loaded-clause-bench : goal.returns-in-Loaded-clause-bench
returns-in-Loaded-clause-bench c =
    let p = c.args.plan.now in
    let inside = c.self.inside in
    let chunk = c.in-Loaded.chunk in
    let windows = inside.windows.items in
    let old = lists_of inside.buffers.items in
    let new = lists_of c.evaluate_steps.new.buffers in
    let before = inside.scratch.items in
    let after = c.evaluate_steps.new.scratch in
    let old_is : bench (Loaded chunk) windows old before ≡ c.args.self.now =
    ap (λ (s : State). bench s windows old before) (sym c.in-Loaded.is) ∙ c.self.view_is in
    let was : IsBenchFor p (bench (Loaded chunk) windows old before) = subst (IsBenchFor p) (sym old_is) c.requires in
    let many = c.evaluate_steps.auto.buffers ∙ ap length c.deref_mut.ensures.value in
    let scratch_many = c.evaluate_steps.auto.scratch ∙ ap length c.deref_mut-in-Loaded.ensures.value in
    let new_is = with_items_is inside.buffers c.evaluate_steps.new.buffers many in
    let after_is = with_items_is inside.scratch after scratch_many in
    let now_is : bench (Done chunk) windows new after
    ≡ bench (Done chunk) windows (lists_of (with_items inside.buffers c.evaluate_steps.new.buffers).items) (with_items inside.scratch after).items =
    ap (λ bs. bench (Done chunk) windows (lists_of bs) after) (sym new_is)
    ∙ ap (λ s. bench (Done chunk) windows (lists_of (with_items inside.buffers c.evaluate_steps.new.buffers).items) s) (sym after_is) in
    subst (IsBenchFor p) now_is
    (bench_after p chunk windows old new before after was c.evaluate_steps.ensures.room scratch_many
    (subst (λ w. OfResult p (AreOfKind p w new)) c.deref.ensures.value c.evaluate_steps.ensures.kinds))

pub returns-in-Loaded-clause-value : goal.returns-in-Loaded-clause-value
returns-in-Loaded-clause-value c = λ collections k has loaded.
    let p = c.args.plan.now in
    let inside = c.self.inside in
    let chunk = c.in-Loaded.chunk in
    let windows = inside.windows.items in
    let old = lists_of inside.buffers.items in
    let new = lists_of c.evaluate_steps.new.buffers in
    let before = inside.scratch.items in
    let after = c.evaluate_steps.new.scratch in
    let old_is : bench (Loaded chunk) windows old before ≡ c.args.self.now =
    ap (λ (s : State). bench s windows old before) (sym c.in-Loaded.is) ∙ c.self.view_is in
    let was : IsBenchFor p (bench (Loaded chunk) windows old before) = subst (IsBenchFor p) (sym old_is) c.requires in
    let many = c.evaluate_steps.auto.buffers ∙ ap length c.deref_mut.ensures.value in
    let scratch_many = c.evaluate_steps.auto.scratch ∙ ap length c.deref_mut-in-Loaded.ensures.value in
    let new_is = with_items_is inside.buffers c.evaluate_steps.new.buffers many in
    let after_is = with_items_is inside.scratch after scratch_many in
    let now_is : bench (Done chunk) windows new after
    ≡ bench (Done chunk) windows (lists_of (with_items inside.buffers c.evaluate_steps.new.buffers).items) (with_items inside.scratch after).items =
    ap (λ bs. bench (Done chunk) windows (lists_of bs) after) (sym new_is)
    ∙ ap (λ s. bench (Done chunk) windows (lists_of (with_items inside.buffers c.evaluate_steps.new.buffers).items) s) (sym after_is) in
    let here : IsLoaded p collections k (bench (Loaded chunk) windows old before) = subst (IsLoaded p collections k) (sym old_is) loaded in
    let same = same_chunk k chunk (Loaded chunk) refl here.state in
    let given : EachLoad p (AreCells collections p c.deref.result.now (lists_of c.deref_mut.result.now)) =
    subst (λ w. EachLoad p (AreCells collections p w (lists_of c.deref_mut.result.now))) (sym c.deref.ensures.value)
    (subst (λ b. EachLoad p (AreCells collections p windows (lists_of b))) (sym c.deref_mut.ensures.value) here.cells) in
    let cells : OfResult p (AreCells collections p windows new) =
    subst (λ w. OfResult p (AreCells collections p w new)) c.deref.ensures.value (c.evaluate_steps.ensures.value collections has given) in
    rw same (subst (IsDone p collections chunk) now_is
    (done_after p chunk windows old new before after c.evaluate_steps.ensures.plan was collections cells))

pub evaluate_steps-requires-clause-kinds : goal.evaluate_steps-requires-clause-kinds
evaluate_steps-requires-clause-kinds c = grind (ints, arith, moves) steps 2000000
