use Rattle.std.proofs.Common.{◌≡◌, ◌+◌, ◌-◌, ◌<◌, length, get_or, List, ℤ, pos, sym, ap, ◌∙◌, arith, refl, rules}
use Rattle.std.specs.List.{range_with_len}
use Rattle.std.proofs.lemmas.List.Elements.{All-get_or}
use Rattle.oe_dims.specs.Instant.{IsInstant}
use Rattle.oe_periods.specs.Calendar.{period_number}
use Rattle.oe_periods.proofs.PeriodLemmas.{first_to_last, number_rises, numbers_by_ends, same_bits}
use Rattle.oe_periods.proofs.periods.Periods.over.Goals as goal

pub overflow_sub-result : goal.overflow_sub-result
overflow_sub-result c =
    let labels : List ℤ = c.args.labels.now in
    let some : 0 < length labels = search rules in
    let from : IsInstant (get_or labels 0 (pos 0)) = All-get_or IsInstant labels 0 (pos 0) some c.requires.instants in
    let to : IsInstant (get_or labels (length labels - 1) (pos 0)) = All-get_or IsInstant labels (length labels - 1) (pos 0) (omega arith) c.requires.instants in
    let first : c.number_of-first.result ≡ period_number c.args.period (get_or labels 0 (pos 0)) = c.number_of-first.ensures.value ∙ ap (period_number c.args.period) (same_bits _ from) in
    let last : c.number_of-last.result ≡ period_number c.args.period (get_or labels (length labels - 1) (pos 0)) = c.number_of-last.ensures.value ∙ ap (period_number c.args.period) (same_bits _ to) in
    omega (arith, first, last, number_rises c.args.period _ _ from to (first_to_last labels (pos 0) c.requires.rise some))

pub returns : goal.returns
returns c =
    let labels : List ℤ = c.args.labels.now in
    let some : 0 < length labels = search rules in
    let from : IsInstant (get_or labels 0 (pos 0)) = All-get_or IsInstant labels 0 (pos 0) some c.requires.instants in
    let to : IsInstant (get_or labels (length labels - 1) (pos 0)) = All-get_or IsInstant labels (length labels - 1) (pos 0) (omega arith) c.requires.instants in
    let first : c.number_of-first.result ≡ period_number c.args.period (get_or labels 0 (pos 0)) = c.number_of-first.ensures.value ∙ ap (period_number c.args.period) (same_bits _ from) in
    let last : c.number_of-last.result ≡ period_number c.args.period (get_or labels (length labels - 1) (pos 0)) = c.number_of-last.ensures.value ∙ ap (period_number c.args.period) (same_bits _ to) in
    let rises = number_rises c.args.period _ _ from to (first_to_last labels (pos 0) c.requires.rise some) in
    let count : c.number_of-last.result - c.number_of-first.result + 1 ≡ period_number c.args.period (get_or labels (length labels - 1) (pos 0)) + 1 - period_number c.args.period (get_or labels 0 (pos 0)) = omega (arith, first, last, rises) in
    record {
      same_period = refl;
      numbers = ap (λ n. range_with_len n (c.number_of-last.result - c.number_of-first.result + 1)) first
          ∙ ap (range_with_len (period_number c.args.period (get_or labels 0 (pos 0)))) count
          ∙ sym (numbers_by_ends c.args.period labels (pos 0) some);
    }
