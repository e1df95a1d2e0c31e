use Rattle.std.proofs.Common.{None, Some, refl, arith, w64}
use Rattle.std.proofs.lemmas.Int.{to_z-of_z}
use Rattle.oe_jobs.specs.Plain.{plain_job}
use Rattle.oe_jobs.specs.Texts.{NamesNumber}
use Rattle.oe_database.specs.Makes.{HoldsJob}
use Rattle.oe_database.specs.Statements.{number_bytes}
use Rattle.oe_database.proofs.make.make_asset.Goals as goal

pub returns-in_default-clause-made : goal.returns-in_default-clause-made
returns-in_default-clause-made g c clean inside =
    ((None, rw c.as_str.ensures at c.in_default.ensures, None, c.args.tx.now.conn.now, refl, refl), inside)

pub returns-in_ok-extend-in-Some-2-clause-made : goal.returns-in_ok-extend-in-Some-2-clause-made
returns-in_ok-extend-in-Some-2-clause-made g c clean inside =
    let n = c.in-Some.number in
    let id = c.args.id.now in
    let job = plain_job c.in-Some-2.job in
    let mid = c.held_job.new.tx.conn.now in
    let names : NamesNumber id n = rw c.as_str.ensures at c.in-Some.ensures in
    let it = c.in_ok-job.ensures.held (omega (arith, c.extend.ensures.survives.clean)) inside in
    let holds : HoldsJob g.S.Store id (number_bytes n) (Some job) c.args.tx.now.conn.now mid =
    rw (c.to_be_bytes.ensures, c.in-Some-2.is) at it.0 in
    let moment = to_z-of_z w64 c.args.updated c.ranges.updated in
    let ran = rw moment at c.in_ok-extend-in-Some-2.ensures.ran clean it.1 in
    ((Some n, names, Some job, mid, holds, ran.0), ran.1)

pub returns-in-None-clause-made : goal.returns-in-None-clause-made
returns-in-None-clause-made g c clean inside =
    let n = c.in-Some.number in
    let id = c.args.id.now in
    let mid = c.held_job.new.tx.conn.now in
    let names : NamesNumber id n = rw c.as_str.ensures at c.in-Some.ensures in
    let it = c.in_ok-job.ensures.held clean inside in
    let holds : HoldsJob g.S.Store id (number_bytes n) None c.args.tx.now.conn.now mid =
    rw (c.to_be_bytes.ensures, c.in-None.is) at it.0 in
    ((Some n, names, None, mid, holds, refl), it.1)
