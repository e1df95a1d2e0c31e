use Rattle.oe_service.proofs.FinishLemmas.{jobs_finish_in_time}
use Rattle.oe_service.proofs.laws.jobs_finish_in_time.Goals as goal

pub returns : goal.returns
returns c = jobs_finish_in_time c.keeps_running.ensures
