use Rattle.std.proofs.Common.{◌≡◌, ◌∙◌, None, Some, length, slice_get, sym, ap, refl}
use Rattle.std.specs.Prelude.{is_some}
use Rattle.std.proofs.lemmas.Option.{slice_get_read, slice_get_past}
use Rattle.oe_requests.proofs.RunningSumLemmas.{sum_there}
use Rattle.oe_requests.proofs.running_sums.is_sum_at.Goals as goal

pub returns-in-Some : goal.returns-in-Some
returns-in-Some c =
    let ns = c.deref.result.now in
    let k = c.args.index in
    let n = c.in-Some.node.now in
    let l = c.in-Some.ensures.lookup in
    let at : slice_get ns k ≡ Some n = slice_get_read ns (length ns) k n refl l.3.0 l.1 in
    c.is_some.ensures
    ∙ (ap is_some c.running_sum_at.ensures
    ∙ sum_there c.args.nodes.now.items k (Some n) (ap (λ ms. slice_get ms k) (sym c.deref.ensures.value) ∙ at))

pub returns-in-None : goal.returns-in-None
returns-in-None c =
    let ns = c.deref.result.now in
    let k = c.args.index in
    sum_there c.args.nodes.now.items k None
    (ap (λ ms. slice_get ms k) (sym c.deref.ensures.value) ∙ slice_get_past ns k c.in-None.ensures.lookup.3)
