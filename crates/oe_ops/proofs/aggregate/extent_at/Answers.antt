use Rattle.std.proofs.Common.{◌≡◌, ap, List, Some, slice_get, subst, sym}
use Rattle.std.proofs.lemmas.Option.{get_or_from_slice_get}
use Rattle.oe_requests.specs.declared.extent.Interval.{Interval}
use Rattle.oe_ops.proofs.aggregate.extent_at.Goals as goal

pub returns : goal.returns
returns c = λ i there.
    let held : slice_get c.as_slice.result.now c.args.number ≡ Some i =
    subst (λ (l : List Interval). slice_get l c.args.number ≡ Some i) (sym c.as_slice.ensures) there in
    ap (λ (x : Interval). x.extent) (get_or_from_slice_get c.as_slice.result.now c.args.number i _ held)
