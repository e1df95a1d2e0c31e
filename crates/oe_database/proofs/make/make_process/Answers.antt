use Rattle.std.proofs.Common.{◌≡◌, ◌∙◌, List, [], ◌∷◌, ap, map, subst}
use Rattle.oe_jobs.specs.Plain.{plain_owned}
use Rattle.oe_database.specs.Each.{PlainStatement, RanEach, plain_statement}
use Rattle.oe_database.specs.Statements.{puts_process}
use Rattle.oe_database.proofs.make.make_process.Goals as goal

pub returns-clause-made : goal.returns-clause-made
returns-clause-made g c clean inside =
    let each = c.in_ok-run_each.ensures.ran clean inside in
    let is : map plain_statement c.deref.result.now ≡ puts_process (plain_owned c.args.owned.now) ∷ [] =
    ap (map plain_statement) c.deref.ensures.value ∙ c.in_ok-statements.ensures in
    (subst (λ (ss : List PlainStatement). RanEach g.S.Store ss c.args.tx.now.conn.now c.run_each.new.tx.conn.now) is each.0, each.1)
