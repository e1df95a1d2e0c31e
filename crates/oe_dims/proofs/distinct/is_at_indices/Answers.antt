use Rattle.std.proofs.Common.{◌∙◌, [], rules}
use Rattle.std.specs.List.{slice_index_or}
use Rattle.std.specs.Cmp.Lexicographic.{slice_cmp}
use Rattle.std.specs.Ordering.{nat_cmp}
use Rattle.std.proofs.lemmas.Fn.{always_returns_same}
use Rattle.oe_dims.proofs.BlockLemmas.{found_at_indices}
use Rattle.oe_dims.proofs.distinct.is_at_indices.Goals as goal

pub returns : goal.returns
returns c =
    let found = c.binary_search_by.ensures.position (λ p. slice_cmp nat_cmp (slice_index_or c.args.names.now p []) c.args.name.now) (always_returns_same _ _ _ (λ a r f h. search rules)) in
    c.is_ok.ensures.value ∙ found_at_indices c.args.name.now c.args.names.now c.args.indices.now _ c.requires c.binary_search_by.ensures.bound found
