use Rattle.std.proofs.Common.{◌≡◌, ◌∙◌, ◌&&◌, ◌+◌, ◌<◌, false, Bool, List, ℕ, drop, get_or, length, sym, ap, arith}
use Rattle.std.specs.List.{list_all}
use Rattle.std.proofs.lemmas.List.{get_or_read}
use Rattle.oe_order.proofs.Lists.{contains-at}
use Rattle.oe_calls.proofs.ReachLemmas.{all_next}
use Rattle.oe_calls.proofs.reach.are_marked.Goals as goal

pub index-requires : goal.index-requires
index-requires c =
    let h = c.requires.within _ (contains-at c.args.found.now c.loop-index.index-index 0 (omega arith)) in
    omega (arith, h)

pub loop-index-preserved : goal.loop-index-preserved
loop-index-preserved c =
    let marks = c.args.marks.now.items in
    let f = (λ (n : ℕ). get_or marks n false) in
    let xs = c.args.found.now in
    let i = c.loop-index.index-index in
    let x = get_or xs i 0 in
    let below : x < length marks = c.requires.within x (contains-at xs i 0 (omega arith)) in
    let is : c.index.result.now ≡ f x = get_or_read marks x c.index.result.now below c.index.ensures false in
    c.loop-index.invariant ∙ all_next f xs i (omega arith)
    ∙ ap (λ b. b && list_all f (drop (i + 1) xs)) (sym is ∙ c.if-not-index.false)
