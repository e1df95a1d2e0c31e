use Rattle.std.proofs.Common.{◌≡◌, false, [], get_or, sym, ap, ◌∙◌, arith}
use Rattle.std.proofs.lemmas.List.{get_or_read}
use borrow.Author.Count.{below_more}
use Rattle.oe_dims.specs.Names.{same_name}
use Rattle.oe_dims.proofs.IndexLemmas.{index_where_found, index_where_none}
use Rattle.oe_dims.proofs.OrderLemmas.{same_name-bytes_eq}
use Rattle.oe_expr.proofs.labels.name_index.Goals as goal

pub returns-then-eq : goal.returns-then-eq
returns-then-eq c =
    let here = get_or_read c.args.names.now c.loop-index.index c.index-names-index.result (omega arith) c.index-names-index.is [] in
    let test = rw c.as_str.ensures at c.eq.ensures ∙ same_name-bytes_eq c.args.label.now c.index-names-index.result in
    sym (index_where_found (same_name c.args.label.now) c.args.names.now c.loop-index.index [] (omega arith) c.loop-index.invariant
    (ap (same_name c.args.label.now) (sym here) ∙ (sym test ∙ c.if-eq.true)))

pub loop-index-preserved : goal.loop-index-preserved
loop-index-preserved c =
    let here = get_or_read c.args.names.now c.loop-index.index c.index-names-index.result (omega arith) c.index-names-index.is [] in
    let test = rw c.as_str.ensures at c.eq.ensures ∙ same_name-bytes_eq c.args.label.now c.index-names-index.result in
    below_more (λ k. same_name c.args.label.now (get_or c.args.names.now k []) ≡ false) c.loop-index.index c.loop-index.invariant
    (ap (same_name c.args.label.now) (sym here) ∙ (sym test ∙ c.if-eq.false))

pub returns : goal.returns
returns c =
    sym (index_where_none (same_name c.args.label.now) c.args.names.now [] (λ k h. c.loop-index.invariant k (omega arith)))
