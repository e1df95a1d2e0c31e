use Rattle.std.proofs.Common.{sym, FitsSigned, w64}
use Rattle.std.specs.Int.Signed.{lt_z, le_z}
use Rattle.std.proofs.lemmas.Int.{to_z-of_z}
use Rattle.oe_dims.proofs.RunLemmas.{IsSplit, IsIndexRange-from_split, filter_from_split, count_from_point, inside_rising}
use Rattle.oe_dims.proofs.search.run_in_rising.Goals as goal

split : (c : goal.After-max) → IsSplit c.args.from c.args.to (λ l. lt_z l c.args.from) (λ l. le_z l c.args.to) c.args.labels.now c.count_below-first.result c.count_at_most-last.result
split c =
    let fits : FitsSigned w64 c.args.from = c.ranges.from in
    let fits_to : FitsSigned w64 c.args.to = c.ranges.to in
    record {
      inside_is = inside_rising c.args.from c.args.to;
      first_within = c.count_below-first.ensures.within;
      last_within = c.count_at_most-last.ensures.within;
      first_is = simp to_z-of_z at c.count_below-first.ensures.point;
      last_is = simp to_z-of_z at c.count_at_most-last.ensures.point;
    }

pub returns-clause-first : goal.returns-clause-first
returns-clause-first c =
    sym (count_from_point (λ l. lt_z l c.args.from) c.args.labels.now c.count_below-first.result (split c).first_within (split c).first_is)

pub returns-clause-run : goal.returns-clause-run
returns-clause-run c = rw c.max.ensures (IsIndexRange-from_split _ _ _ _ _ _ _ (split c))

pub returns-clause-kept : goal.returns-clause-kept
returns-clause-kept c = rw c.max.ensures (filter_from_split _ _ _ _ _ _ _ (split c))
