use Rattle.std.proofs.Common.{refl, sym, subst}
use Rattle.serde_json.specs.View.{view}
use Rattle.oe_keeper.specs.Reading.{IsEntry}
use Rattle.oe_keeper.proofs.reading.job_in.Goals as goal

pub returns-in_default : goal.returns-in_default
returns-in_default c = λ job is.
    (rw c.in_default.is at c.in_ok-texts.ensures) job.user job.title job.description job.process is.texts

pub returns-in_default-state_in : goal.returns-in_default-state_in
returns-in_default-state_in c = λ job is.
    c.in_default-state_in.ensures job.status job.level job.created job.updated job.turn is.state

pub returns-in_default-2 : goal.returns-in_default-2
returns-in_default-2 c = λ job is. (rw c.in_default-2.is at c.in_ok-ran.ensures) job.ran is.ran

pub returns-in_default-3 : goal.returns-in_default-3
returns-in_default-3 c = λ job is. (rw c.in_default-3.is at c.in_ok-logs.ensures) job.logs is.logs

pub returns : goal.returns
returns c =
    subst (IsEntry c.args.id.now (view c.args.value.now)) (sym c.job_of.ensures) (record {
      named = c.in_ok-copy.ensures;
      texts = rw c.in-Some.is at c.in_ok-texts.ensures;
      state = c.in-Some-state_in.ensures;
      ran = rw c.in-Some-2.is at c.in_ok-ran.ensures;
      logs = rw c.in-Some-3.is at c.in_ok-logs.ensures;
      bare = refl;
    })
