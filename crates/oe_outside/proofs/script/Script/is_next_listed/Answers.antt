use Rattle.std.proofs.Common.{ap, ◌∙◌}
use Rattle.std.specs.FinSet as set
use Rattle.std.specs.Ordering.{nat_cmp}
use Rattle.oe_outside.proofs.Scripts.{is_ok-binary_search}
use Rattle.oe_outside.specs.Script.{fails_next}
use Rattle.oe_outside.proofs.script.Script.is_next_listed.Goals as goal

pub returns : goal.returns
returns c =
    let found = is_ok-binary_search c.deref.result.now c.self.inside.calls c.binary_search.result c.binary_search.ensures.position (rw c.deref.ensures.value c.self.invariant) in
    c.is_ok.ensures.value ∙ found ∙ ap (λ xs. set.contains (set.from_list {R = nat_cmp} xs) c.self.inside.calls) c.deref.ensures.value ∙ ap fails_next c.self.view_is
