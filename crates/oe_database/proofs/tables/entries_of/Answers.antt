use Rattle.std.proofs.Common.{◌≡◌, ◌∙◌, ◌+◌, List, ◌∷◌, [], ◌++◌, ap, arith, map, subst, sym, take}
use Rattle.std.proofs.lemmas.List.{map-append, take_more}
use Rattle.oe_jobs.specs.Plain.{PlainJob, plain_job}
use Rattle.oe_database.specs.Each.{PlainStatement}
use Rattle.oe_database.specs.Loads.{AreEntries}
use Rattle.oe_database.specs.Statements.{puts_entry}
use Rattle.oe_database.proofs.Lists.{entries_more, same_entry}
use Rattle.oe_database.proofs.tables.entries_of.Goals as goal

pub loop-job-preserved : goal.loop-job-preserved
loop-job-preserved c =
    let xs = c.args.jobs.now in
    let i = c.loop-job.job-index in
    let x = c.job-item.result in
    let list = c.loop-job.entries.items in
    let e = c.in_ok-entry.entry in
    let jobs : map plain_job (take (i + 1) xs) ≡ map plain_job (take i xs) ++ plain_job x ∷ [] =
    ap (map plain_job) (take_more xs i x (omega (arith, c.loop-job-test.true)) ∙ ap (λ y. take i xs ++ y ∷ []) (sym c.job-item.is))
    ∙ map-append plain_job (take i xs) (x ∷ []) in
    let entries : map (λ e. puts_entry e.0 e.1) c.push.new.self.items ≡ map (λ e. puts_entry e.0 e.1) list ++ puts_entry e.0 e.1 ∷ [] =
    ap (map (λ e. puts_entry e.0 e.1)) c.in_ok-push.ensures.items ∙ map-append (λ e. puts_entry e.0 e.1) list (e ∷ []) in
    let it = c.in_ok-entry.ensures in
    subst (λ (js : List PlainJob). AreEntries js (map (λ e. puts_entry e.0 e.1) c.push.new.self.items)) (sym jobs)
    (subst (λ (ss : List PlainStatement). AreEntries (map plain_job (take i xs) ++ plain_job x ∷ []) ss) (sym entries)
    (entries_more (map plain_job (take i xs)) (map (λ e. puts_entry e.0 e.1) list) (plain_job x) (puts_entry e.0 e.1) c.loop-job.invariant
    (it.0, it.1, same_entry _ _ _ _ it.2 it.3)))
