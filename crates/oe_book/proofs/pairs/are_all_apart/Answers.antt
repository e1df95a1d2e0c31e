use Rattle.std.proofs.Common.{◌∙◌, map, sym, ap, true≢false}
use Rattle.std.specs.List.{AllByRecursion}
use Rattle.oe_jobs.specs.Plain.{plain_job}
use Rattle.oe_jobs.specs.Valid.{AllApart, AreApart}
use Rattle.oe_book.proofs.PairLemmas.{rest_next, rest_stops}
use Rattle.oe_book.proofs.pairs.are_all_apart.Goals as goal

pub loop-job-preserved : goal.loop-job-preserved
loop-job-preserved c =
    rest_next AllApart (λ j js. AllByRecursion (AreApart j) js) (λ j js h. h) (λ j js a b. (a, b)) _ (plain_job c.in-Some.job.now)
    (map plain_job c.in-Some.others.now) _ (ap (map plain_job) c.in-Some.ensures.cases.0) (c.is_apart_from.ensures.0 c.if-not-is_apart_from.false)
    c.loop-job.invariant

pub returns-then-not-is_apart_from : goal.returns-then-not-is_apart_from
returns-then-not-is_apart_from c =
    rest_stops AllApart (λ j js. AllByRecursion (AreApart j) js) (λ j js h. h) (λ j js a b. (a, b)) _ (plain_job c.in-Some.job.now)
    (map plain_job c.in-Some.others.now) _ (ap (map plain_job) c.in-Some.ensures.cases.0)
    (λ p. true≢false (sym (c.is_apart_from.ensures.1 p) ∙ c.if-not-is_apart_from.true)) c.loop-job.invariant
