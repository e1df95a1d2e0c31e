use Rattle.std.proofs.Common.{sym, ap, ◌∙◌, not, nat_eq}
use Rattle.std.specs.Prelude.{unwrap_or}
use Rattle.oe_dims.specs.Dimensions.{Dimensions, label_count}
use Rattle.oe_check.proofs.CountLemmas.{not_equal, many_along, alike_along}
use Rattle.oe_check.proofs.reach.differ_along.Goals as goal

pub returns-then-first-second : goal.returns-then-first-second
returns-then-first-second c =
    let in_both = c.in-Some-Some in
    not_equal in_both.first in_both.second (λ same. c.if-first-second.true same)
    ∙ sym (many_along c.args.one.now c.args.two.now in_both.ensures.valid in_both.ensures'.valid in_both.first in_both.second c.args.along
    (sym in_both.ensures.value) (sym in_both.ensures'.value) c.if-first-second.true)

pub returns-else-first-second : goal.returns-else-first-second
returns-else-first-second c =
    let in_both = c.in-Some-Some in
    ap (λ n. not (nat_eq n in_both.first)) (c.count_along.ensures ∙ ap (λ (d : Dimensions). unwrap_or (label_count d c.args.along) 0) c.requires)
    ∙ alike_along c.args.one.now c.args.two.now in_both.ensures.valid in_both.ensures'.valid in_both.first in_both.second c.args.along
    (sym in_both.ensures.value) (sym in_both.ensures'.value) c.if-first-second.false
