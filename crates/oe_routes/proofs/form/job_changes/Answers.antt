use Rattle.std.proofs.Common.{sym, ap, ◌∙◌}
use Rattle.serde_json.specs.View.{view}
use Rattle.oe_routes.specs.Forms.{object_where}
use Rattle.oe_routes.proofs.FormLemmas.{process_where_is}
use Rattle.oe_routes.proofs.form.job_changes.Goals as goal

pub returns-clause-valid : goal.returns-clause-valid
returns-clause-valid c = λ sent. (
  c.in_ok-fields.ensures.short,
  c.in_ok-process-2.ensures.valid
      (process_where_is _ c.args.fault (view c.in_ok-body.body.now) _ sent c.in_ok-body.ensures.object
      (ap object_where (sym c.get.ensures) ∙ c.in_ok-process.ensures.object) c.in_ok-faultless.ensures),
)
