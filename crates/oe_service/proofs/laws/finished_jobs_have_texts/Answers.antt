use Rattle.oe_service.proofs.FinishedLemmas.{finished_jobs_have_texts}
use Rattle.oe_service.proofs.laws.finished_jobs_have_texts.Goals as goal

pub returns : goal.returns
returns c = finished_jobs_have_texts c.keeps_running.ensures
