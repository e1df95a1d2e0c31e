use Rattle.std.proofs.Common.{◌≡◌, ◌∙◌, List, Some, ap, map, subst}
use Rattle.oe_jobs.specs.Texts.{NamesNumber}
use Rattle.oe_database.specs.Each.{PlainStatement, RanEach, plain_statement}
use Rattle.oe_database.specs.Statements.{drops_job, number_bytes}
use Rattle.oe_database.proofs.make.unmake_job.Goals as goal

pub returns-clause-made : goal.returns-clause-made
returns-clause-made g c clean inside =
    let n = c.in-Some.number in
    let each = c.in_ok-run_each.ensures.ran clean inside in
    let names : NamesNumber c.args.id.now n = rw c.as_str.ensures at c.in-Some.ensures in
    let is : map plain_statement c.deref.result.now ≡ drops_job (number_bytes n) =
    ap (map plain_statement) c.deref.ensures.value ∙ (c.in_ok-statements.ensures ∙ ap drops_job c.to_be_bytes-number.ensures) in
    let ran = subst (λ (ss : List PlainStatement). RanEach g.S.Store ss c.args.tx.now.conn.now c.run_each.new.tx.conn.now) is each.0 in
    ((Some n, names, ran), each.1)
