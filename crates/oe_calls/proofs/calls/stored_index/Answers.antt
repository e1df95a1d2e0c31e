use Rattle.std.proofs.Common.{◌≡◌, true, ◌∙◌, sym, ap, arith}
use Rattle.oe_dims.specs.Names.{same_name}
use Rattle.oe_graph.specs.declared.stored.StoredProcess.{StoredProcess}
use Rattle.oe_calls.proofs.StoredLemmas.{stored_named-found}
use Rattle.oe_calls.proofs.calls.stored_index.Goals as goal

pub returns-then-same_text-clause-is : goal.returns-then-same_text-clause-is
returns-then-same_text-clause-is c =
    let s : StoredProcess = c.index-stored-index.result in
    let id = c.args.id.now in
    let same : same_name s.id id ≡ true =
    ap (λ n. same_name n id) (ap (λ (x : StoredProcess). x.id) c.index-stored-index.is ∙ sym c.as_str.ensures)
    ∙ (sym c.same_text.ensures ∙ c.if-same_text.true) in
    stored_named-found c.args.stored.now c.loop-index.index s id (omega arith) c.index-stored-index.is same
    ∙ sym c.loop-index.invariant
