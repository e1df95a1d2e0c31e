use Rattle.std.proofs.Common.{◌≡◌, IsUtf8, ap, ◌∙◌, subst}
use Rattle.std.proofs.lemmas.Result.{IfOk-weaker}
use Rattle.oe_graph.proofs.ReadLemmas.{reading_of}
use Rattle.serde_json.specs.View.{view}
use Rattle.serde_json.specs.Written.{has_float, compact_text}
use Rattle.oe_jobs.specs.Plain.{plain_job}
use Rattle.oe_keeper.specs.Entry.{job_data}
use Rattle.oe_keeper.proofs.Entries.{entry_back, job_flat, job_whole}
use Rattle.oe_keeper.proofs.entry.job_text.Goals as goal

pub returns-clause-text : goal.returns-clause-text
returns-clause-text c =
    let job = plain_job c.args.job.now in
    let same : view c.in_ok-value.value ≡ job_data job = c.in_ok-value.ensures.entry in
    IfOk-weaker c.of.result _ _
    (λ text is. is ∙ (c.as_str.ensures.value ∙ (c.in_ok-text.ensures.text (ap has_float same ∙ job_whole job) ∙ ap compact_text same))) c.of.ensures

pub returns-clause-reads_back : goal.returns-clause-reads_back
returns-clause-reads_back c =
    let job = plain_job c.args.job.now in
    let same : view c.in_ok-value.value ≡ job_data job = c.in_ok-value.ensures.entry in
    IfOk-weaker c.of.result _ _
    (λ text is restorable. record {
      value = job_data job;
      is_read = reading_of _ (job_data job) text _ (is ∙ c.as_str.ensures.value) (subst IsUtf8 c.as_str.ensures.value c.as_str.utf8) same
          c.in_ok-text.ensures.reads_back (job_flat job);
      entry = entry_back job restorable c.in_ok-value.ensures.turn;
    })
    c.of.ensures
