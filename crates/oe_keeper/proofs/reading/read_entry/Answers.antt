use Rattle.std.specs.Option.{option_map}
use Rattle.std.proofs.lemmas.Result.{IfOk-weaker}
use Rattle.serde_json.specs.View.{view}
use Rattle.oe_jobs.specs.Plain.{plain_job}
use Rattle.oe_keeper.proofs.FindLemmas.{job_found}
use Rattle.oe_keeper.proofs.reading.read_entry.Goals as goal

pub returns-in-Some : goal.returns-in-Some
returns-in-Some c =
    IfOk-weaker c.job_in.result _ _
    (λ read. job_found c.args.id.now c.args.bytes.now (view c.in-Some.value) (option_map plain_job read) (rw c.in-Some.is at c.in_ok-value.ensures))
    c.job_in.ensures

pub returns-in-None : goal.returns-in-None
returns-in-None c = λ job is. (rw c.in-None.is at c.in_ok-value.ensures) is.value is.is_read
