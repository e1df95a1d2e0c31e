use Rattle.std.proofs.Common.{◌≡◌, ◌≤◌, ℕ, List, Contains, length, sym, subst, true≢false, arith}
use Rattle.std.proofs.lemmas.List.{take_all}
use Rattle.oe_order.specs.Graph.{graph_of, RefersWithin}
use Rattle.oe_order.specs.declared.Links.{Links}
use Rattle.oe_calls.proofs.reach.recur.Goals as goal

pub leads_back-requires-clause-named : goal.leads_back-requires-clause-named
leads_back-requires-clause-named c =
    subst (λ (ls : List Links). RefersWithin (graph_of ls)) (sym c.as_slice.ensures.value) c.requires.within

pub returns : goal.returns
returns c = (
  λ e. absurd (true≢false (sym e)),
  λ any.
      let xs = c.args.found.now in
      let all : length xs ≤ c.loop-index.index-index = omega (arith, c.loop-index-test.false) in
      absurd (c.loop-index.invariant any.index
      (subst (λ (ys : List ℕ). Contains ys any.index) (sym (take_all c.loop-index.index-index xs all)) any.is_there) any.back),
)
