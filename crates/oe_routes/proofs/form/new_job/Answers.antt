use Rattle.std.proofs.Common.{sym, ap, ◌∙◌, subst}
use Rattle.serde_json.specs.View.{view}
use Rattle.oe_jobs.specs.Valid.{AreWords}
use Rattle.oe_routes.specs.Forms.{object_in}
use Rattle.oe_routes.proofs.FormLemmas.{process_is, words_of}
use Rattle.oe_routes.proofs.form.new_job.Goals as goal

pub returns-clause-valid : goal.returns-clause-valid
returns-clause-valid c = λ sent. (
  subst AreWords (sym c.unwrap_or.ensures) (words_of c.in_ok-fields.fields.title c.in_ok-fields.ensures.short.0),
  subst AreWords (sym c.unwrap_or-2.ensures) (words_of c.in_ok-fields.fields.description c.in_ok-fields.ensures.short.1),
  c.in_ok-process-2.ensures.valid
      (process_is _ c.args.fault (view c.in_ok-body.body.now) (view c.in_ok-process.process.now) sent c.in_ok-body.ensures.object
      (ap object_in (sym c.get.ensures) ∙ c.in_ok-process.ensures.object) c.in_ok-faultless.ensures),
)
