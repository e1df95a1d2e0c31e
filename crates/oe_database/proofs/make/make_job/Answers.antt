use Rattle.std.proofs.Common.{◌≡◌, ◌∙◌, List, ap, map, subst}
use Rattle.oe_jobs.specs.Plain.{plain_job}
use Rattle.oe_jobs.specs.Texts.{NamesNumber}
use Rattle.oe_database.specs.Each.{PlainStatement, RanEach, plain_statement}
use Rattle.oe_database.specs.Statements.{entry_of, number_bytes, puts_job}
use Rattle.oe_database.proofs.Lists.{same_puts}
use Rattle.oe_database.proofs.make.make_job.Goals as goal

pub returns-clause-made : goal.returns-clause-made
returns-clause-made g c clean inside =
    let n = c.in-Some.number in
    let job = c.args.job.now in
    let each = c.in_ok-run_each.ensures.ran clean inside in
    let names : NamesNumber job.id n = rw c.as_str.ensures at c.in-Some.ensures in
    let entry : c.as_bytes-entry.result.now ≡ entry_of (plain_job job) =
    c.as_bytes-entry.ensures.value ∙ (c.as_str-2.ensures ∙ c.in_ok-entry.ensures.text) in
    let assets : c.deref.result.now ≡ job.assets.items = c.deref.ensures.value in
    let is : map plain_statement c.deref-2.result.now ≡ puts_job (number_bytes n) (entry_of (plain_job job)) job.assets.items (number_bytes c.args.next) =
    ap (map plain_statement) c.deref-2.ensures.value
    ∙ (c.in_ok-statements.ensures
    ∙ same_puts _ _ _ _ _ _ _ _ c.to_be_bytes-number.ensures entry assets c.to_be_bytes-next.ensures) in
    let ran = subst (λ (ss : List PlainStatement). RanEach g.S.Store ss c.args.tx.now.conn.now c.run_each.new.tx.conn.now) is each.0 in
    ((n, names, ran), each.1)
