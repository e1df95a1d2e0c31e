use Rattle.std.proofs.Common.{◌≡◌, ◌<◌, ◌+◌, ◌-◌, ◌/◌, true, false, length, sym, ap, ◌∙◌, arith}
use Rattle.oe_dims.specs.Names.{is_name_before}
use Rattle.oe_graph.specs.Plain.{plain_nodes}
use Rattle.oe_graph.specs.Printed.{ids_of}
use Rattle.oe_graph.proofs.ElementLemmas.{get_below}
use Rattle.oe_graph.proofs.SearchLemmas.{ids_count, id_at_index, stands_above, stands_within}
use Rattle.oe_graph.proofs.search.index_by_halves.Goals as goal

pub loop-low-init : goal.loop-low-init
loop-low-init c =
    let ns = c.args.nodes.now.items in (
      omega (arith, c.len-high.ensures),
      λ rise k is.
          let below : k < length (ids_of (plain_nodes ns)) = get_below (ids_of (plain_nodes ns)) k c.args.id.now is in
          let count = ids_count ns in
          (omega arith, omega (arith, below, count, c.len-high.ensures)),
    )

pub loop-low-preserved-then-is_name_before : goal.loop-low-preserved-then-is_name_before
loop-low-preserved-then-is_name_before c =
    let ns = c.args.nodes.now.items in
    let middle = c.loop-low.low + (c.loop-low.high - c.loop-low.low) / 2 in
    let below : middle < length ns = omega (arith, c.loop-low.invariant.0, c.loop-low-test.true) in
    let before : is_name_before c.index.result.now.id c.args.id.now ≡ true =
    ap (λ name. is_name_before name c.args.id.now) (sym c.as_str.ensures) ∙ sym c.is_name_before.ensures ∙ c.if-is_name_before.true in (
      c.loop-low.invariant.0,
      λ rise k is. (
        stands_above (ids_of (plain_nodes ns)) rise middle k c.index.result.now.id c.args.id.now
            (id_at_index ns middle c.index.result.now below c.index.ensures) before is,
        (c.loop-low.invariant.1 rise k is).1,
      ),
    )

pub loop-low-preserved : goal.loop-low-preserved
loop-low-preserved c =
    let ns = c.args.nodes.now.items in
    let middle = c.loop-low.low + (c.loop-low.high - c.loop-low.low) / 2 in
    let below : middle < length ns = omega (arith, c.loop-low.invariant.0, c.loop-low-test.true) in
    let before : is_name_before c.index.result.now.id c.args.id.now ≡ false =
    ap (λ name. is_name_before name c.args.id.now) (sym c.as_str.ensures) ∙ sym c.is_name_before.ensures ∙ c.if-is_name_before.false in (
      omega (arith, below),
      λ rise k is. (
        (c.loop-low.invariant.1 rise k is).0,
        stands_within (ids_of (plain_nodes ns)) rise middle k c.index.result.now.id c.args.id.now
            (id_at_index ns middle c.index.result.now below c.index.ensures) before is,
      ),
    )
