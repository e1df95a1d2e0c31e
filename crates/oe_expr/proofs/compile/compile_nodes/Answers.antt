use Rattle.std.proofs.Common.{◌≡◌, ℕ, ◌+◌, ◌<◌, Vec, Global, false, true≢false, Some, length, get_or, slice_get, slice_set, sym, ◌∙◌, subst, arith}
use Rattle.std.proofs.lemmas.List.{get_or_read}
use Rattle.std.proofs.lemmas.Option.{slice_get_read}
use Rattle.oe_graph.specs.Plain.{plain_nodes}
use Rattle.oe_expr.specs.Callback.{callback_of}
use Rattle.oe_expr.specs.Placed.{IsCompiling, IsNeeded}
use Rattle.oe_expr.specs.Scope.{plain_scope}
use Rattle.oe_expr.specs.declared.program.Operand.{Operand}
use Rattle.oe_expr.specs.declared.program.Program.{Program}
use Rattle.oe_expr.proofs.LoopLemmas.{first_step, compile_step, skip_step}
use Rattle.oe_expr.proofs.MarkLemmas.{entry_within, few_entries}
use Rattle.oe_expr.proofs.compile.compile_nodes.Goals.{then-index+in_ok-place, else-index}
use Rattle.oe_expr.proofs.compile.compile_nodes.Goals as goal

pub loop-k-init : goal.loop-k-init
loop-k-init c = λ index.
    first_step (plain_scope c.args.scope.now) c.args.context.now c.args.nodes.now.items c.requires.resolved c.args.order.now.items c.requires.order c.requires.scope index
    c.args.needed.now.items c.args.places.now.items c.args.program.now c.requires.none.started c.requires.none.none c.requires.none.counted

pub index-requires : goal.index-requires
index-requires c =
    let order = c.args.order.now.items in
    let k : ℕ = c.loop-k.k in
    let entry = c.index-judged.result.now in
    let below : k < length order = omega arith in
    let at : slice_get order k ≡ Some entry = slice_get_read order (length order) k entry (omega arith) below c.index-judged.ensures in
    let there : entry.node < length c.args.nodes.now.items = entry_within (plain_scope c.args.scope.now) c.args.nodes.now.items c.requires.resolved order c.requires.order k entry at in
    let long = c.requires.needed.counted in
    omega arith

pub place_of-requires : goal.place_of-requires
place_of-requires c =
    let order = c.args.order.now.items in
    let below : c.loop-k.k < length order = omega arith in
    let few = few_entries (plain_scope c.args.scope.now) c.args.nodes.now.items c.requires.resolved order c.requires.order in
    let less = (c.loop-k.invariant 0).few in
    record { few = omega arith; scope = c.requires.scope }

pub index_mut-requires : goal.index_mut-requires
index_mut-requires c =
    let order = c.args.order.now.items in
    let k : ℕ = c.loop-k.k in
    let entry = c.index-judged.result.now in
    let below : k < length order = omega arith in
    let at : slice_get order k ≡ Some entry = slice_get_read order (length order) k entry (omega arith) below c.index-judged.ensures in
    let there : entry.node < length c.args.nodes.now.items = entry_within (plain_scope c.args.scope.now) c.args.nodes.now.items c.requires.resolved order c.requires.order k entry at in
    let long = (c.loop-k.invariant 0).long in
    omega arith

pub loop-k-preserved : goal.loop-k-preserved
loop-k-preserved c =
    let scope = plain_scope c.args.scope.now in
    let nodes = c.args.nodes.now.items in
    let order = c.args.order.now.items in
    let needed = c.args.needed.now.items in
    let k : ℕ = c.loop-k.k in
    let entry = c.index-judged.result.now in
    let below : k < length order = omega arith in
    let at : slice_get order k ≡ Some entry = slice_get_read order (length order) k entry (omega arith) below c.index-judged.ensures in
    let there : entry.node < length nodes = entry_within scope nodes c.requires.resolved order c.requires.order k entry at in
    let long = c.requires.needed.counted in
    let read : c.index.result.now ≡ get_or needed entry.node false = get_or_read needed entry.node c.index.result.now (omega arith) c.index.ensures false in
    elim c.if-index.branch [
      | then-index+in_ok-place w ↦ λ index.
          let is_needed : IsNeeded needed entry.node = sym read ∙ w.if-index.true in
          let next = compile_step scope c.args.context.now nodes c.requires.resolved order c.requires.order c.requires.scope index needed long c.requires.needed.marked c.loop-k.places.items c.loop-k.program k entry at
          (c.loop-k.invariant index) is_needed w.place_of.new.program w.in_ok-place.ensures.follows w.in_ok-place.place w.in_ok-place.ensures.place in
          subst (λ (v : Vec Operand Global). IsCompiling (callback_of (record { nodes = plain_nodes nodes; result = index }) scope c.args.context.now) nodes order needed v.items c.if-index.program (k + 1)) (sym w.places-is)
          (subst (λ (q : Program). IsCompiling (callback_of (record { nodes = plain_nodes nodes; result = index }) scope c.args.context.now) nodes order needed (slice_set c.loop-k.places.items entry.node w.in_ok-place.place) q (k + 1)) (sym w.program-is) next)
      | else-index w ↦ λ index.
          let not : ¬ IsNeeded needed entry.node = λ is. true≢false (sym is ∙ sym read ∙ w.if-index.false) in
          let next = skip_step scope c.args.context.now nodes c.requires.resolved order c.requires.order c.requires.scope index needed long c.requires.needed.marked c.loop-k.places.items c.loop-k.program k entry at
          (c.loop-k.invariant index) not in
          subst (λ (v : Vec Operand Global). IsCompiling (callback_of (record { nodes = plain_nodes nodes; result = index }) scope c.args.context.now) nodes order needed v.items c.if-index.program (k + 1)) (sym w.places-is)
          (subst (λ (q : Program). IsCompiling (callback_of (record { nodes = plain_nodes nodes; result = index }) scope c.args.context.now) nodes order needed c.loop-k.places.items q (k + 1)) (sym w.program-is) next)
    ]

pub returns : goal.returns
returns c = λ index.
    let end : c.loop-k.k ≡ length c.args.order.now.items = omega arith in
    subst (λ (n : ℕ). IsCompiling (callback_of (record { nodes = plain_nodes c.args.nodes.now.items; result = index }) (plain_scope c.args.scope.now) c.args.context.now) c.args.nodes.now.items c.args.order.now.items c.args.needed.now.items c.loop-k.places.items c.loop-k.program n) end (c.loop-k.invariant index)
