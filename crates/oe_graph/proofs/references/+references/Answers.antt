use Rattle.std.proofs.Common.{◌≡◌, ◌++◌, take, sym, ap, ◌∙◌, subst, arith}
use Rattle.std.proofs.lemmas.Grind.{common_steps}
use Rattle.oe_graph.specs.Indices.{are_known, indices_named}
use Rattle.oe_graph.specs.Plain.{plain_arg, plain_args, plain_named, plain_nodes}
use Rattle.oe_graph.specs.References.{references_in, references_each, references_named}
use Rattle.oe_graph.proofs.ReferenceGraphLemmas.{known_more, pushed_more, unknown_more}
use Rattle.oe_graph.proofs.ReferenceLemmas.{each_next, named_next}
use Rattle.oe_graph.proofs.references.+references.Goals as goal
use Rattle.oe_graph.proofs.references.+references.Goals.{add_args-then-branch, add_args-else-branch, add_named-then-branch, add_named-else-branch}

pub add_args-loop-item-preserved : goal.add_args-loop-item-preserved
add_args-loop-item-preserved t c =
    let nodes = plain_nodes c.args.beside.now.nodes.now.items in
    let xs = c.deref-item-items.result.now in
    let i = c.loop-item.item-index in
    let x = c.item-item.result in
    let r = references_each (plain_args (take i xs)) in
    let s = references_in (plain_arg x) in
    let next = each_next xs i x c.loop-item-test.true c.item-item.is in (
      subst (λ refs. c.add_arg.new.found.items ≡ c.args.found.now.items ++ indices_named nodes refs) (sym next)
          (pushed_more nodes r s c.args.found.now.items c.loop-item.found.items c.add_arg.new.found.items c.loop-item.invariant.0 c.in_ok-known.ensures.found),
      elim c.if-branch.branch [
        | add_args-then-branch w ↦ w.known-is ∙ c.loop-item.invariant.1
            ∙ known_more nodes r s (sym c.in_ok-known.ensures.known ∙ w.if-branch.true) ∙ ap (are_known nodes) (sym next)
        | add_args-else-branch w ↦ w.known-is ∙ w.if-branch.false
            ∙ unknown_more nodes r s (sym c.in_ok-known.ensures.known ∙ w.if-branch.false) ∙ ap (are_known nodes) (sym next)
      ],
    )

pub add_named-loop-member-preserved : goal.add_named-loop-member-preserved
add_named-loop-member-preserved t c =
    let nodes = plain_nodes c.args.beside.now.nodes.now.items in
    let ms = c.deref-member-items.result.now in
    let i = c.loop-member.member-index in
    let m = c.member-item.result in
    let r = references_named (plain_named (take i ms)) in
    let s = references_in (plain_arg m.1) in
    let next = named_next ms i m c.loop-member-test.true c.member-item.is in (
      subst (λ refs. c.add_arg.new.found.items ≡ c.args.found.now.items ++ indices_named nodes refs) (sym next)
          (pushed_more nodes r s c.args.found.now.items c.loop-member.found.items c.add_arg.new.found.items c.loop-member.invariant.0 c.in_ok-known.ensures.found),
      elim c.if-branch.branch [
        | add_named-then-branch w ↦ w.known-is ∙ c.loop-member.invariant.1
            ∙ known_more nodes r s (sym c.in_ok-known.ensures.known ∙ w.if-branch.true) ∙ ap (are_known nodes) (sym next)
        | add_named-else-branch w ↦ w.known-is ∙ w.if-branch.false
            ∙ unknown_more nodes r s (sym c.in_ok-known.ensures.known ∙ w.if-branch.false) ∙ ap (are_known nodes) (sym next)
      ],
    )

pub add_args-returns-clause-found : goal.add_args-returns-clause-found
add_args-returns-clause-found t c = grind (arith, common_steps) steps 2000000

pub add_args-returns-clause-known : goal.add_args-returns-clause-known
add_args-returns-clause-known t c = grind (arith, common_steps) steps 2000000

pub add_named-returns-clause-found : goal.add_named-returns-clause-found
add_named-returns-clause-found t c = grind (arith, common_steps) steps 2000000

pub add_named-returns-clause-known : goal.add_named-returns-clause-known
add_named-returns-clause-known t c = grind (arith, common_steps) steps 2000000
