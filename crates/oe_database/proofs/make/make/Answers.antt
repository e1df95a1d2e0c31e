use Rattle.std.proofs.Common.{◌≡◌, IsTrue, OnOk, sym, subst, to_z, of_z, w64, rules}
use Rattle.oe_jobs.specs.Plain.{plain_change}
use Rattle.oe_database.specs.Makes.{Makes}
use Rattle.oe_database.proofs.make.make.Goals as goal

pub returns-in-PutJob-clause-made : goal.returns-in-PutJob-clause-made
returns-in-PutJob-clause-made g c clean inside =
    let old = c.args.tx.now.conn.now in
    let new = c.make_job.new.tx.conn.now in
    subst (λ change. OnOk c.make_job.result (Makes g.S.Store (plain_change change) old new × IsTrue new.in_transaction))
    (sym c.in-PutJob.is) (c.make_job.ensures.made clean inside)

pub returns-in-AddAsset-clause-made : goal.returns-in-AddAsset-clause-made
returns-in-AddAsset-clause-made g c clean inside =
    let old = c.args.tx.now.conn.now in
    let new = c.make_asset.new.tx.conn.now in
    let same : to_z w64 (of_z w64 c.in-AddAsset.updated) ≡ c.in-AddAsset.updated = search rules in
    subst (λ change. OnOk c.make_asset.result (Makes g.S.Store (plain_change change) old new × IsTrue new.in_transaction))
    (sym c.in-AddAsset.is) (rw same at c.make_asset.ensures.made clean inside)

pub returns-in-DropProcess-clause-made : goal.returns-in-DropProcess-clause-made
returns-in-DropProcess-clause-made g c clean inside =
    let old = c.args.tx.now.conn.now in
    let new = c.unmake_process.new.tx.conn.now in
    subst (λ change. OnOk c.unmake_process.result (Makes g.S.Store (plain_change change) old new × IsTrue new.in_transaction))
    (sym c.in-DropProcess.is) (c.unmake_process.ensures.made clean inside)
