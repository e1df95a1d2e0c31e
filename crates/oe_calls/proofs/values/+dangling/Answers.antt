use Rattle.std.proofs.Common.{◌≡◌, map, take, refl, ap, ◌∙◌}
use Rattle.std.proofs.lemmas.List.{take_all}
use Rattle.oe_graph.specs.Plain.{plain_arg, plain_pair}
use Rattle.oe_graph.specs.Tree.{values_from_list, named_from_list}
use Rattle.oe_calls.specs.Renamed.{dangling, renamed}
use Rattle.oe_calls.proofs.Each.{member_by, renamed_each, renamed_named}
use Rattle.oe_calls.proofs.values.+dangling.Goals as goal

pub dangling_args-returns : goal.dangling_args-returns
dangling_args-returns t c =
    let full : take c.loop-item.item-index c.deref-item-items.result.now ≡ c.deref-item-items.result.now = take_all _ _ c.loop-item-test.false in
    let all : map plain_arg c.loop-item.copy.items ≡ map (λ a. renamed dangling (plain_arg a)) c.args.items.now.items =
    rw (c.loop-item.invariant, full, c.deref-item-items.ensures.value) refl in
    ap values_from_list all ∙ renamed_each dangling c.args.items.now.items

pub dangling_named-returns : goal.dangling_named-returns
dangling_named-returns t c =
    let full : take c.loop-member.member-index c.deref-member-items.result.now ≡ c.deref-member-items.result.now = take_all _ _ c.loop-member-test.false in
    let all : map plain_pair c.loop-member.copy.items ≡ map (member_by (renamed dangling)) c.args.members.now.items =
    rw (c.loop-member.invariant, full, c.deref-member-items.ensures.value) refl in
    ap named_from_list all ∙ renamed_named dangling c.args.members.now.items
