use Rattle.std.proofs.Common.{rules, ◌≡◌, [], ◌∷◌, ◌++◌, map, sym, ap, ◌∙◌, append_assoc, refl, take}
use Rattle.std.proofs.lemmas.List.{take_all}
use Rattle.serde_json.specs.View.{view, members_view}
use Rattle.serde_json.proofs.Views.{Entry}
use Rattle.oe_graph.specs.Tree.{values_from_list, named_from_list}
use Rattle.oe_graph.specs.Plain.{plain_arg}
use Rattle.oe_graph.specs.Built.{value_of, members_of}
use Rattle.oe_graph.proofs.Views.{values_each, members_each, one_more}
use Rattle.oe_graph.proofs.build.+values.Goals as goal

pub build_items-returns : goal.build_items-returns
build_items-returns t c =
    let full : take c.loop-item.item-index c.deref-item-items.result.now ≡ c.deref-item-items.result.now = take_all _ _ c.loop-item-test.false in
    let all : map plain_arg c.loop-item.built.items ≡ map (λ v. value_of c.args.plain (view v)) c.args.items.now.items =
    rw (c.loop-item.invariant, full, c.deref-item-items.ensures.value) refl in
    ap values_from_list all ∙ values_each c.args.plain c.args.items.now.items

pub build_members-loop-key-preserved : goal.build_members-loop-key-preserved
build_members-loop-key-preserved t c =
    let l = c.loop-key in
    let done = l.invariant.0 in
    let e : Entry = (c.in-Some.key.now, c.in-Some.member.now) in
    let left = c.next.new.self in
    let all : c.args.members.now.entries ≡ done ++ e ∷ left = l.invariant.1 ∙ ap (λ es. done ++ es) c.in-Some.ensures.steps in (
      done ++ e ∷ [],
      all ∙ sym (append_assoc done (e ∷ []) left),
      rw c.in_ok-push.ensures.items (one_more (λ v. value_of c.args.plain (view v)) l.built.items done c.in_ok-name.name
          c.in_ok-build_value.field-0 e l.invariant.2 (c.in_ok-name.ensures ∙ c.as_str.ensures.value) c.in_ok-build_value.ensures),
    )

pub build_members-returns : goal.build_members-returns
build_members-returns t c =
    let l = c.loop-key in
    let all : l.invariant.0 ≡ c.args.members.now.entries = search rules in
    ap named_from_list l.invariant.2 ∙ (members_each c.args.plain l.invariant.0 ∙ ap (λ es. members_of c.args.plain (members_view es)) all)
