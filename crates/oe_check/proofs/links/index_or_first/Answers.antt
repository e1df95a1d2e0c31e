use Rattle.std.proofs.Common.{rules}
use Rattle.std.specs.Cmp.Lexicographic.{slice_cmp}
use Rattle.std.specs.Ordering.{nat_cmp}
use Rattle.std.proofs.lemmas.Fn.{always_returns_same}
use Rattle.oe_graph.specs.Plain.{plain_nodes}
use Rattle.oe_graph.specs.declared.tree.Node.{Node}
use Rattle.oe_check.proofs.LinkLemmas.{search_found, search_none, none_referred}
use Rattle.oe_check.proofs.links.index_or_first.Goals as goal

pub returns-in-Ok-clause-index : goal.returns-in-Ok-clause-index
returns-in-Ok-clause-index c =
    let found = c.in-Ok.ensures.position (λ (n : Node). slice_cmp nat_cmp n.id c.args.id.now) (always_returns_same _ _ _ (λ a r f h. search rules)) in
    search_found c.args.nodes.now c.args.id.now c.requires.rise c.in-Ok.index c.in-Ok.ensures.bound found

pub returns-in-Err-clause-index : goal.returns-in-Err-clause-index
returns-in-Err-clause-index c =
    let parted = c.in-Err.ensures.position (λ (n : Node). slice_cmp nat_cmp n.id c.args.id.now) (always_returns_same _ _ _ (λ a r f h. search rules)) in
    none_referred (plain_nodes c.args.nodes.now) c.args.id.now
    (search_none c.args.nodes.now c.args.id.now c.requires.rise c.in-Err.field-0 parted)
