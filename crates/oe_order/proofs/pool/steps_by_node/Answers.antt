use Rattle.std.proofs.Common.{◌≡◌, ◌≢◌, ℕ, ◌<◌, ◌+◌, List, length, get_or, set, sym, ap, ◌∙◌, inl, inr, arith}
use Rattle.std.proofs.lemmas.Bool.{cases_lt}
use Rattle.std.proofs.lemmas.List.{get_or-set_other, length-set}
use Rattle.oe_order.proofs.Lists.{contains-at}
use Rattle.oe_order.proofs.Pools.{set_at}
use Rattle.oe_order.proofs.pool.steps_by_node.Invariants.{ByNode}
use Rattle.oe_order.proofs.pool.steps_by_node.Goals as goal

ByNode-more : (nodes : ℕ) (steps : List ℕ) (k : ℕ) (by_node : List ℕ) → ByNode nodes steps k by_node → k < length steps → get_or steps k 0 < nodes →
    ((i j : ℕ) → i < j → j < length steps → get_or steps i 0 ≢ get_or steps j 0) → ByNode nodes steps (k + 1) (set by_node (get_or steps k 0) k)
ByNode-more nodes steps k by_node p h in' once = record {
  len = length-set by_node (get_or steps k 0) k ∙ p.len;
  is = λ i lt. elim (cases_lt i k) [
    | inl a ↦ get_or-set_other by_node (get_or steps k 0) (get_or steps i 0) k 0 (once i k a h) ∙ p.is i a
    | inr b ↦ let e : i ≡ k = omega arith in set_at by_node (get_or steps k 0) (get_or steps i 0) k (omega (arith, p.len)) (ap (λ m. get_or steps m 0) e) ∙ sym e
  ];
}

pub index_mut-requires : goal.index_mut-requires
index_mut-requires c =
    let h : get_or c.args.steps.now c.loop-step.step 0 < c.args.nodes = c.requires.within _ (contains-at c.args.steps.now c.loop-step.step 0 (omega arith)) in
    omega (arith, c.loop-step.invariant.len, c.loop-step.by_node.ok.0)

pub loop-step-preserved : goal.loop-step-preserved
loop-step-preserved c =
    ByNode-more c.args.nodes c.args.steps.now c.loop-step.step c.loop-step.by_node.items c.loop-step.invariant (omega arith) (c.requires.within _ (contains-at c.args.steps.now c.loop-step.step 0 (omega arith))) c.requires.once
