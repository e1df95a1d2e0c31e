-- Values without fractions.
use Rattle.std.proofs.Common.{List, false, negsuc, pos, refl, ℕ, ℤ, ◌≡◌}
use Rattle.std.proofs.lemmas.Bool.{or_parts}
use Rattle.std.specs.Ordering.{match_ordering, nat_cmp}
use Rattle.std.specs.declared.cmp.Ordering.{Ordering}
use Rattle.std.specs.declared.cmp.Ordering.TheVariants.{Equal, Greater, Less}
use Rattle.std.specs.Cmp.Lexicographic.{slice_cmp}
use Rattle.serde_json.specs.Find.{is_float, of_integer}
use Rattle.serde_json.specs.Data.{Data, Members, member, no_members, put}
use Rattle.serde_json.specs.Written.{has_float, members_have_float}

pub integer_whole : (z : ℤ) → is_float (of_integer z) ≡ false
integer_whole (pos n) = refl
integer_whole (negsuc n) = refl

put_step : (o : Ordering) (k : List ℕ) (d : Data) (l : List ℕ) (e : Data) (ms : Members)
    → has_float d ≡ false → has_float e ≡ false → members_have_float ms ≡ false → members_have_float (put k d ms) ≡ false
    → members_have_float (match_ordering o (member k d (member l e ms)) (member l d ms) (member l e (put k d ms))) ≡ false
put_step Less k d l e ms new old rest more = rw (new, old) rest
put_step Equal k d l e ms new old rest more = rw new rest
put_step Greater k d l e ms new old rest more = rw old more

-- an object without fractions has none with a member more that has none
pub put_whole : (k : List ℕ) (d : Data) (ms : Members) → has_float d ≡ false → members_have_float ms ≡ false
    → members_have_float (put k d ms) ≡ false
put_whole k d no_members new old = rw new refl
put_whole k d (member l e ms) new old =
    let parts = or_parts (has_float e) (members_have_float ms) old in
    put_step (slice_cmp nat_cmp k l) k d l e ms new parts.0 parts.1 (put_whole k d ms new parts.1)
