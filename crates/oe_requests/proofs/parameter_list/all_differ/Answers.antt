use Rattle.std.proofs.Common.{◌≡◌, ◌++◌, map, ap, ◌∙◌, rules}
use Rattle.std.proofs.lemmas.Fn.{always_returns_same}
use Rattle.oe_dims.specs.Dimensions.{all_differ}
use Rattle.oe_dims.specs.Names.{names_rise}
use Rattle.oe_requests.proofs.NameLemmas.{refers_before, references_rank, rise_where_differ}
use Rattle.oe_requests.proofs.parameter_list.all_differ.Goals as goal

pub returns : goal.returns
returns c =
    let given = c.args.names.now.items in
    let gathered = c.extend_from_slice.new.self.items in
    let sorted = c.sort_unstable_by.new.self.items in
    let order = c.sort_unstable_by.ensures.sorted refers_before references_rank (always_returns_same _ _ _ (λ a r f h. search rules)) in
    let same : gathered ≡ given = c.in_ok-extend_from_slice.ensures.items ∙ (ap (λ xs. xs ++ c.deref.result.now) c.in_ok-sorted.ensures.items ∙ c.deref.ensures.value) in
    c.rise.ensures
    ∙ (ap (λ xs. names_rise (map (λ n. n.now) xs)) c.deref-2.ensures.value
    ∙ (rise_where_differ gathered sorted c.sort_unstable_by.ensures.permutation order
    ∙ ap (λ xs. all_differ (map (λ n. n.now) xs)) same))
