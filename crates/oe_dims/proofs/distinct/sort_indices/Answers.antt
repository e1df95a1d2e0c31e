use Rattle.std.proofs.Common.{◌≡◌, ◌∙◌, [], length, arith, rules}
use Rattle.std.specs.List.{slice_index_or}
use Rattle.std.proofs.lemmas.Fn.{always_returns_same}
use Rattle.oe_dims.specs.Names.{same_name, is_name_before}
use Rattle.oe_dims.proofs.DistinctLemmas.{differ_by_sort, same_at_indices, indices_rank}
use Rattle.oe_dims.proofs.distinct.sort_indices.Goals as goal

pub returns-clause-value : goal.returns-clause-value
returns-clause-value c =
    let names = c.args.names.now in
    let order = c.sort_unstable_by.ensures.sorted (λ p q. is_name_before (slice_index_or names p []) (slice_index_or names q [])) (indices_rank names) (always_returns_same _ _ _ (λ a r f h. search rules)) in
    let long : length c.number.new.indices ≡ length names = omega arith in
    c.names_rise.ensures ∙ differ_by_sort names c.number.new.indices c.sort_unstable_by.new.self long c.number.ensures c.sort_unstable_by.ensures.permutation order

pub returns-clause-same : goal.returns-clause-same
returns-clause-same c = λ name.
    let long : length c.number.new.indices ≡ length c.args.names.now = omega arith in
    same_at_indices (same_name name) c.args.names.now c.number.new.indices c.sort_unstable_by.new.self long c.number.ensures c.sort_unstable_by.ensures.permutation
