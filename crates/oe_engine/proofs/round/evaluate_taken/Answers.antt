use Rattle.std.proofs.Common.{◌≡◌, ◌+◌, ◌*◌, ◌<◌, ◌≤◌, ◌∙◌, ℕ, length, take, List, sym, ap, arith}
use Rattle.std.proofs.lemmas.List.{length-take-le}
use Rattle.oe_engine.specs.Benches.{BenchOf}
use Rattle.oe_engine.proofs.EvaluationLemmas.{benches_after, each_done, each_value, take_evaluations}
use Rattle.oe_engine.proofs.round.evaluate_taken.Goals as goal

as_many : (count : ℕ) (olds news : List BenchOf) → length news ≡ length olds → count ≤ length olds
    → length (take count news) ≡ length (take count olds)
as_many count olds news many le =
    length-take-le count news (omega (arith, many, le)) ∙ sym (length-take-le count olds le)

pub evaluate-requires-clause-many : goal.evaluate-requires-clause-many
evaluate-requires-clause-many g c = λ κs within. omega (arith, c.requires.made.as_many, c.requires.crew)

pub evaluate-requires-clause-benches : goal.evaluate-requires-clause-benches
evaluate-requires-clause-benches g c = λ κs within. c.requires.made.each

pub evaluate-requires-clause-room : goal.evaluate-requires-clause-room
evaluate-requires-clause-room g c = λ κs within.
    omega (arith, c.requires.chunks, c.chunks-chunks.ensures.value, c.chunks-chunks.ensures.most, c.requires.crew, c.workers-workers.ensures.value, c.workers-workers.ensures.valid.ranges.most)

pub returns-clause-done : goal.returns-clause-done
returns-clause-done g c =
    let p = c.args.plan.now in
    let olds = c.args.benches.now.items in
    let news = c.evaluate.new.benches.items in
    let count = c.args.count in
    each_done p c.args.first (take count olds) (take count news) (as_many count olds news c.evaluate.ensures.many c.requires.count)
    (take_evaluations p count olds news c.evaluate.ensures.evaluated) c.requires.loaded

pub returns-clause-value : goal.returns-clause-value
returns-clause-value g c =
    let p = c.args.plan.now in
    let olds = c.args.benches.now.items in
    let news = c.evaluate.new.benches.items in
    let count = c.args.count in
    each_value p c.args.first (take count olds) (take count news) (as_many count olds news c.evaluate.ensures.many c.requires.count)
    (take_evaluations p count olds news c.evaluate.ensures.evaluated)

pub returns-clause-made : goal.returns-clause-made
returns-clause-made g c =
    benches_after c.args.plan.now c.args.benches.now.items c.evaluate.new.benches.items c.evaluate.ensures.many c.evaluate.ensures.evaluated
    c.requires.made
