use Rattle.std.proofs.Common.{◌≡◌, ℕ, ◌+◌, ◌-◌, ◌<◌, List, Bool, false, true≢false, Some, length, get_or, slice_get, sym, ap, ◌∙◌, subst, arith}
use Rattle.std.proofs.lemmas.List.{get_or_read}
use Rattle.std.proofs.lemmas.Option.{slice_get_read}
use Rattle.oe_expr.specs.Placed.{AreMarked, IsNeeded}
use Rattle.oe_expr.specs.Places.{request_names}
use Rattle.oe_expr.specs.PlainRequests.{plain_cell_request}
use Rattle.oe_expr.proofs.MarkLemmas.{entry_within, marked_step, unmarked_step, names_kept, names_long}
use Rattle.oe_expr.proofs.compile.needed_nodes.Goals as goal

pub index-requires : goal.index-requires
index-requires c =
    let nodes = c.args.nodes.now.items in
    let order = c.args.order.now.items in
    let k : ℕ = c.loop-left.left - 1 in
    let entry = c.index-judged.result.now in
    let below : k < length order = let within = c.loop-left.invariant.within in omega arith in
    let at : slice_get order k ≡ Some entry = slice_get_read order (length order) k entry (omega arith) below c.index-judged.ensures in
    let there : entry.node < length nodes = entry_within c.requires.resolved.0 nodes c.requires.resolved.1 order c.requires.order k entry at in
    let long = c.loop-left.invariant.long in
    omega arith

pub loop-left-preserved : goal.loop-left-preserved
loop-left-preserved c =
    let nodes = c.args.nodes.now.items in
    let order = c.args.order.now.items in
    let needed = c.loop-left.needed.items in
    let k : ℕ = c.loop-left.left - 1 in
    let entry = c.index-judged.result.now in
    let long = c.loop-left.invariant.long in
    let below : k < length order = let within = c.loop-left.invariant.within in omega arith in
    let at : slice_get order k ≡ Some entry = slice_get_read order (length order) k entry (omega arith) below c.index-judged.ensures in
    let there : entry.node < length nodes = entry_within c.requires.resolved.0 nodes c.requires.resolved.1 order c.requires.order k entry at in
    let read : c.index.result.now ≡ get_or needed entry.node false = get_or_read needed entry.node c.index.result.now (omega arith) c.index.ensures false in
    let next : c.loop-left.left ≡ k + 1 = omega arith in
    record {
      within = omega arith;
      long = long;
      last = c.loop-left.invariant.last;
      marked = unmarked_step c.requires.resolved.0 nodes c.requires.resolved.1 order c.requires.order needed k entry at
          (λ is. true≢false (sym is ∙ sym read ∙ c.if-index.false))
          (subst (λ (n : ℕ). AreMarked nodes order needed n) next c.loop-left.invariant.marked);
    }

pub loop-left-preserved-then-index : goal.loop-left-preserved-then-index
loop-left-preserved-then-index c =
    let nodes = c.args.nodes.now.items in
    let order = c.args.order.now.items in
    let needed = c.loop-left.needed.items in
    let k : ℕ = c.loop-left.left - 1 in
    let entry = c.index-judged.result.now in
    let names = request_names (plain_cell_request entry.request) in
    let long = c.loop-left.invariant.long in
    let below : k < length order = let within = c.loop-left.invariant.within in omega arith in
    let at : slice_get order k ≡ Some entry = slice_get_read order (length order) k entry (omega arith) below c.index-judged.ensures in
    let there : entry.node < length nodes = entry_within c.requires.resolved.0 nodes c.requires.resolved.1 order c.requires.order k entry at in
    let read : c.index.result.now ≡ get_or needed entry.node false = get_or_read needed entry.node c.index.result.now (omega arith) c.index.ensures false in
    let next : c.loop-left.left ≡ k + 1 = omega arith in
    record {
      within = omega arith;
      long = ap length c.mark_request.ensures ∙ names_long nodes names needed ∙ long;
      last = subst (λ (xs : List Bool). IsNeeded xs c.args.last) (sym c.mark_request.ensures) (names_kept nodes names needed c.args.last c.loop-left.invariant.last);
      marked = subst (λ (xs : List Bool). AreMarked nodes order xs k) (sym c.mark_request.ensures)
          (marked_step c.requires.resolved.0 nodes c.requires.resolved.1 order c.requires.order needed k entry long at
          (sym read ∙ c.if-index.true)
          (subst (λ (n : ℕ). AreMarked nodes order needed n) next c.loop-left.invariant.marked));
    }

pub returns-clause-marked : goal.returns-clause-marked
returns-clause-marked c =
    let none : c.loop-left.left ≡ 0 = omega arith in
    subst (λ (n : ℕ). AreMarked c.args.nodes.now.items c.args.order.now.items c.loop-left.needed.items n) none c.loop-left.invariant.marked
