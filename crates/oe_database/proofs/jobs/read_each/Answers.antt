use Rattle.std.proofs.Common.{◌≡◌, ◌∙◌, ◌+◌, List, ◌∷◌, [], ◌++◌, ap, sym, subst, arith, map, take}
use Rattle.std.proofs.lemmas.List.{map-append, take_more}
use Rattle.std.proofs.lemmas.Grind.{common_steps}
use Rattle.sqlite_value.specs.Order.{Row}
use Rattle.oe_jobs.specs.Plain.{PlainJob, plain_job}
use Rattle.oe_database.specs.Loads.{HasEachJob, HasJob}
use Rattle.oe_database.proofs.InsideLemmas.{goes_both, stays_both}
use Rattle.oe_database.proofs.Lists.{jobs_more}
use Rattle.oe_database.proofs.jobs.read_each.Goals as goal

pub loop-row-preserved : goal.loop-row-preserved
loop-row-preserved g c =
    let first = c.args.tx.now.conn.now in
    let mid = c.loop-row.tx.conn.now in
    let new = c.read_job.new.tx.conn.now in
    let i = c.loop-row.row-index in
    let xs = c.args.rows.now in
    let x = c.row-item.result in
    let js = map plain_job c.loop-row.jobs.items in
    let job = plain_job c.in_ok-job.job in
    let was = c.loop-row.invariant in
    let rows : take (i + 1) xs ≡ take i xs ++ x ∷ [] = take_more xs i x (omega (arith, c.loop-row-test.true))
    ∙ ap (λ (y : Row). take i xs ++ y ∷ []) (sym c.row-item.is) in
    let jobs : map plain_job c.push.new.self.items ≡ js ++ job ∷ [] =
    ap (map plain_job) c.in_ok-push.ensures.items ∙ map-append plain_job c.loop-row.jobs.items (c.in_ok-job.job ∷ []) in
    record {
      same = c.read_job.ensures.same_reference ∙ was.same;
      stays = stays_both g.S.Store first mid new _ was.stays was.each c.read_job.ensures.stays;
      each = λ clean within.
          let both = (goes_both g.S.Store first mid new (HasEachJob g.S.Store (take i xs) js first mid) (HasJob g.S.Store x job mid new)
          (was.stays, was.each) (c.read_job.ensures.stays, c.in_ok-job.ensures.job)).1 clean within in
          let more = jobs_more g.S.Store (take i xs) js x job first mid new both.0.0 both.0.1 in (
            subst (λ (rs : List Row). HasEachJob g.S.Store rs (map plain_job c.push.new.self.items) first new) (sym rows)
                (subst (λ (ys : List PlainJob). HasEachJob g.S.Store (take i xs ++ x ∷ []) ys first new) (sym jobs) more),
            both.1,
          );
    }

pub returns-clause-each : goal.returns-clause-each
returns-clause-each g c = grind (arith, common_steps) steps 2000000
