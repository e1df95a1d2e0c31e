use Rattle.std.specs.Cmp.{signed_Decides}
use Rattle.std.proofs.lemmas.Slice.Eq.{slice_eq-Decides}
use Rattle.oe_dims.proofs.ReaderLemmas.{Decides-some}
use Rattle.oe_dims.proofs.lists.has_same_numbers.Goals as goal

pub returns-in-Some-Some : goal.returns-in-Some-Some
returns-in-Some-Some c =
    rw (c.in-Some-Some.is-0, c.in-Some-Some.is-1)
    (Decides-some c.in-Some-Some.a c.in-Some-Some.b c.eq.result (slice_eq-Decides signed_Decides c.in-Some-Some.a c.in-Some-Some.b c.eq.result (rw (c.as_slice.ensures, c.as_slice-in-Some-Some.ensures) at c.eq.ensures)))
