use Rattle.std.proofs.Common.{[], sym, ap, ◌∙◌, arith}
use Rattle.std.proofs.lemmas.List.{get_or_read}
use Rattle.oe_dims.specs.Names.{same_name}
use Rattle.oe_dims.proofs.IndexLemmas.{index_where_found, index_where_none}
use Rattle.oe_dims.proofs.order.index_of_name.Goals as goal

pub returns-then-same_name : goal.returns-then-same_name
returns-then-same_name c =
    let here = get_or_read c.args.names.now c.loop-index.index c.index-names-index.result (omega arith) c.index-names-index.is [] in
    sym (index_where_found (same_name c.args.name.now) c.args.names.now c.loop-index.index [] (omega arith) c.loop-index.invariant (ap (same_name c.args.name.now) (sym here) ∙ sym c.same_name.ensures ∙ c.if-same_name.true))

pub returns : goal.returns
returns c =
    sym (index_where_none (same_name c.args.name.now) c.args.names.now [] (λ k h. c.loop-index.invariant k (omega arith)))
