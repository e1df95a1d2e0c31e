use Rattle.std.proofs.Common.{◌≡◌, ◌∙◌, None, Some, length, slice_get, refl, sym, ap}
use Rattle.std.specs.Prelude.{true, unwrap_or}
use Rattle.std.proofs.lemmas.Option.{slice_get_read, slice_get_past}
use Rattle.oe_graph.specs.declared.tree.Graph.{out-Graph}
use Rattle.oe_requests.proofs.RunningSumLemmas.{by_result}
use Rattle.oe_requests.proofs.running_sums.ignores_nulls.Goals as goal

pub returns-in-Some : goal.returns-in-Some
returns-in-Some c =
    let g = c.args.process.now in
    let ns = c.deref.result.now in
    let k = (out-Graph g).result in
    let n = c.in-Some.node.now in
    let l = c.in-Some.ensures.lookup in
    let at : slice_get ns k ≡ Some n = slice_get_read ns (length ns) k n refl l.3.0 l.1 in
    c.unwrap_or.ensures
    ∙ (ap (λ o. unwrap_or o true) c.running_sum_at.ensures
    ∙ by_result g (Some n) (ap (λ ms. slice_get ms k) (sym c.deref.ensures.value) ∙ at))

pub returns-in-None : goal.returns-in-None
returns-in-None c =
    let g = c.args.process.now in
    let ns = c.deref.result.now in
    let k = (out-Graph g).result in
    by_result g None (ap (λ ms. slice_get ms k) (sym c.deref.ensures.value) ∙ slice_get_past ns k c.in-None.ensures.lookup.3)
