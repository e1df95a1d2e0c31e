use Rattle.std.proofs.Common.{sym, FitsSigned, w64}
use Rattle.std.specs.Int.Signed.{lt_z, le_z}
use Rattle.std.proofs.lemmas.Int.{to_z-of_z}
use Rattle.oe_dims.proofs.RunLemmas.{IsSplit, IsIndexRange-from_split, filter_from_split, count_from_point, inside_falling}
use Rattle.oe_dims.proofs.search.run_in_falling.Goals as goal

split : (c : goal.After-max) → IsSplit c.args.from c.args.to (λ l. lt_z c.args.to l) (λ l. le_z c.args.from l) c.args.labels.now c.count_above-first.result c.count_at_least-last.result
split c =
    let fits : FitsSigned w64 c.args.from = c.ranges.from in
    let fits_to : FitsSigned w64 c.args.to = c.ranges.to in
    record {
      inside_is = inside_falling c.args.from c.args.to;
      first_within = c.count_above-first.ensures.within;
      last_within = c.count_at_least-last.ensures.within;
      first_is = simp to_z-of_z at c.count_above-first.ensures.point;
      last_is = simp to_z-of_z at c.count_at_least-last.ensures.point;
    }

pub returns-clause-first : goal.returns-clause-first
returns-clause-first c =
    sym (count_from_point (λ l. lt_z c.args.to l) c.args.labels.now c.count_above-first.result (split c).first_within (split c).first_is)

pub returns-clause-run : goal.returns-clause-run
returns-clause-run c = rw c.max.ensures (IsIndexRange-from_split _ _ _ _ _ _ _ (split c))

pub returns-clause-kept : goal.returns-clause-kept
returns-clause-kept c = rw c.max.ensures (filter_from_split _ _ _ _ _ _ _ (split c))
