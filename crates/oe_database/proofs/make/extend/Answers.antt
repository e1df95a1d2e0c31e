use Rattle.std.proofs.Common.{◌≡◌, ◌∙◌, List, Some, ap, map, subst, w64}
use Rattle.std.proofs.lemmas.Int.{to_z-of_z}
use Rattle.oe_jobs.specs.Changes.{with_asset}
use Rattle.oe_jobs.specs.Plain.{plain_job}
use Rattle.oe_database.specs.Each.{PlainStatement, RanEach, plain_statement}
use Rattle.oe_database.specs.Statements.{asset_statements, entry_of}
use Rattle.oe_database.proofs.Lists.{same_adds}
use Rattle.oe_database.proofs.make.extend.Goals as goal

pub returns-clause-ran : goal.returns-clause-ran
returns-clause-ran g c clean inside =
    let held = plain_job c.args.job in
    let asset = c.args.asset.now in
    let each = c.in_ok-run_each.ensures.ran clean inside in
    let moment = to_z-of_z w64 c.args.updated c.ranges.updated in
    let entry : c.as_bytes.result.now ≡ entry_of (with_asset asset c.args.log.now c.args.updated held) =
    c.as_bytes.ensures.value ∙ (c.as_str.ensures ∙ (c.in_ok-entry.ensures.text ∙ ap entry_of (rw moment at c.in_ok-note.ensures))) in
    let is : map plain_statement c.deref.result.now ≡ asset_statements (Some c.args.number) (Some held) asset c.args.log.now c.args.updated =
    ap (map plain_statement) c.deref.ensures.value
    ∙ (c.in_ok-statements.ensures ∙ same_adds _ _ _ _ asset c.to_be_bytes-number.ensures entry) in
    (subst (λ (ss : List PlainStatement). RanEach g.S.Store ss c.args.tx.now.conn.now c.run_each.new.tx.conn.now) is each.0, each.1)
