use Rattle.std.proofs.Common.{◌≡◌, [], ap, subst}
use Rattle.oe_jobs.specs.Plain.{PlainJob, plain_job}
use Rattle.oe_keeper.specs.Reading.{without_assets}
use Rattle.oe_database.specs.Loads.{IsJobRow}
use Rattle.oe_database.proofs.jobs.read_job.Goals as goal

pub returns-clause-job : goal.returns-clause-job
returns-clause-job g c clean within =
    let it = c.in_ok-rows.ensures.shown clean within in
    let number = c.in_ok-read.read.0 in
    let job = plain_job c.in_ok-read.read.1 in
    let read = c.in_ok-read.ensures in
    let bare : job ≡ without_assets job = ap (λ assets. record job { assets = assets }) read.reads.entry.bare in (
      record {
        number = number;
        bare = subst (λ (j : PlainJob). IsJobRow c.args.row.now number j) bare read;
        rows = c.in_ok-rows.rows.items;
        shown = rw c.to_be_bytes-number.ensures at it.0;
        assets = rw c.deref.ensures.value at c.in_ok-assets.ensures;
      },
      it.1,
    )
