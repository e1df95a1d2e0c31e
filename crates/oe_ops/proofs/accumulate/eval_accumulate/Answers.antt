use Rattle.std.proofs.Common.{rules, ◌≡◌, ◌<◌, length, arith, ◌∙◌}
use Rattle.oe_window.specs.Windows.{position_count, positions}
use Rattle.oe_meanings.specs.Meaning.{accumulated}
use Rattle.oe_ops.specs.Sums.{sum_at}
use Rattle.oe_ops.proofs.AccumulateLemmas.{all_before, sum_fits, sums_are, width_within}
use Rattle.oe_ops.proofs.KindLemmas.{all_fit}
use Rattle.oe_ops.proofs.NodeLemmas.{nothing_there}
use Rattle.oe_ops.proofs.accumulate.eval_accumulate.Goals as goal

pub returns-then-is_empty-clause-value : goal.returns-then-is_empty-clause-value
returns-then-is_empty-clause-value c = λ cube whole same on.
    let none : length c.args.out.now ≡ 0 = search rules in
    nothing_there (accumulated c.args.ignore cube) c.args.window.now c.args.out.now none c.requires.out.counted

pub sum_bands-requires-clause-dates : goal.sum_bands-requires-clause-dates
sum_bands-requires-clause-dates c = all_before c.args.shape.now c.args.window.now c.args.slice c.requires.out.within c.requires.slice.need

pub sum_bands-requires-clause-room : goal.sum_bands-requires-clause-room
sum_bands-requires-clause-room c =
    let out : 0 < length c.args.out.now = search rules in
    let some : 0 < position_count c.args.window.now = omega (arith, c.requires.out.counted) in
    omega (arith, width_within c.args.shape.now c.args.window.now some c.requires.out.within, c.requires.room)

pub returns-clause-value : goal.returns-clause-value
returns-clause-value c = λ cube whole same on.
    c.sum_bands.ensures
    ∙ sums_are c.args.ignore cube c.args.slice c.args.window.now c.args.shape.now same c.requires.slice.valid whole on c.requires.out.within
    (all_before c.args.shape.now c.args.window.now c.args.slice c.requires.out.within c.requires.slice.need)

pub returns-clause-kinds : goal.returns-clause-kinds
returns-clause-kinds c = λ kind h.
    all_fit kind (sum_at c.args.ignore c.args.slice) (positions c.args.window.now) _ c.sum_bands.ensures
    (λ p. sum_fits kind c.args.ignore c.args.slice p h)
