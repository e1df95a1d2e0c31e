use Rattle.std.specs.Option.{option_map}
use Rattle.std.proofs.lemmas.Result.{IfOk-weaker}
use Rattle.oe_jobs.specs.Plain.{plain_job}
use Rattle.oe_keeper.proofs.OneLemmas.{only_one}
use Rattle.oe_keeper.proofs.reading.read_job.Goals as goal

pub returns-clause-only : goal.returns-clause-only
returns-clause-only c = λ job is.
    IfOk-weaker c.read_entry.result _ _
    (λ found finds. only_one c.args.id.now c.args.bytes.now (option_map plain_job found) job finds is) c.read_entry.ensures
