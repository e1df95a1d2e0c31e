use Rattle.std.proofs.Common.{◌≡◌, Some, None, sym, ◌∙◌, subst, true≢false, arith}
use Rattle.serde_json.specs.Read.{read}
use Rattle.oe_graph.specs.Faults.{IsLeast}
use Rattle.oe_graph.specs.Form.{Stands}
use Rattle.oe_graph.proofs.ReadLemmas.{long_least, text_least}
use Rattle.oe_graph.proofs.read.read_json.Goals as goal

pub returns-then-bytes-gt-MOST_INPUT-clause-refused : goal.returns-then-bytes-gt-MOST_INPUT-clause-refused
returns-then-bytes-gt-MOST_INPUT-clause-refused c =
    subst (IsLeast (Stands c.args.bytes.now)) (sym c.in_ok-fault_at.ensures)
    (long_least c.args.bytes.now (omega (arith, c.if-bytes-gt-MOST_INPUT.true)))

pub returns-in_ok-fault_at-in-Err-2-clause-refused : goal.returns-in_ok-fault_at-in-Err-2-clause-refused
returns-in_ok-fault_at-in-Err-2-clause-refused c =
    let bytes = c.args.bytes.now in
    subst (IsLeast (Stands bytes)) (sym c.in_ok-fault_at-in-Err-2.ensures)
    (text_least bytes (omega (arith, c.if-bytes-gt-MOST_INPUT.false)) (λ d r.
    let none : read bytes ≡ None = c.in-Err.ensures.err (λ memory. let t = c.is_memory.ensures.1 memory in absurd (true≢false (sym t ∙ c.if-is_memory.false))) r.utf8 in
    let both : None ≡ Some d = sym none ∙ r.value in absurd cc))
