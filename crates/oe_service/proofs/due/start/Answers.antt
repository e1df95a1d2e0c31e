use Rattle.std.proofs.Common.{◌≡◌, None, Ok, Err, refl, sym, subst, w64}
use Rattle.std.proofs.lemmas.Int.{to_z-of_z}
use Rattle.oe_jobs.specs.Events.{moved_book, next_queued}
use Rattle.oe_jobs.specs.Machine as machine
use Rattle.oe_jobs.specs.Plain.{PlainBook, plain_book, plain_job}
use Rattle.oe_jobs.specs.Valid.{IsBook}
use Rattle.oe_service.specs.Calls.{Installs}
use Rattle.oe_service.specs.Steps.{Steps}
use Rattle.oe_service.specs.declared.answer.Ticked.{Ticked}
use Rattle.oe_service.specs.declared.answer.Ticked.TheVariants as ticked
use Rattle.oe_service.specs.declared.service.Service.{Service}
use Rattle.oe_service.proofs.BookLemmas.{queued_has_ran}
use Rattle.oe_service.proofs.StartLemmas.{idles, no_run, started_service, starts}
use Rattle.oe_service.proofs.StepLemmas.{steps_done, steps_none, steps_refused}
use Rattle.oe_service.proofs.due.start.Goals as goal

pub returns-in_default : goal.returns-in_default
returns-in_default g c = λ rows store faults.
    let s = c.args.service.now in
    let none : next_queued (plain_book s.book) ≡ None = sym c.in_default.ensures.job in
    idles s c.requires.service c.requires.free none (c.idle_without_busy.ensures (plain_book s.book) c.requires.free none)
    c.args.now rows store faults _ _ _ c.requires.kept

pub start_job-requires-clause-ran : goal.start_job-requires-clause-ran
start_job-requires-clause-ran g c =
    queued_has_ran (plain_book c.args.service.now.book) (plain_job c.in-Some.job.now) c.requires.service.book
    (sym c.in-Some.ensures.job)

pub returns-in_default-start_job : goal.returns-in_default-start_job
returns-in_default-start_job g c = λ rows store faults.
    let s = c.args.service.now in
    starts s s c.requires.service c.requires.free c.args.now rows store faults _ _ _ _ _ (plain_job c.in-Some.job.now)
    (sym c.in-Some.ensures.job) ticked.OutOfMemory (steps_none s _ _ _ _ c.requires.service c.requires.kept)
    (no_run s c.requires.service c.requires.free)

pub returns-in-Ok-install : goal.returns-in-Ok-install
returns-in-Ok-install g c = λ rows store faults.
    let s = c.args.service.now in
    let t : Service = record { book = c.install.new.book; size = s.size; workers = s.workers; ids = c.in-Ok.ids; run = s.run } in
    let run = no_run s c.requires.service c.requires.free in
    let job = plain_job c.in-Some.job.now in
    let e = sym c.in-Some.ensures.job in
    let line = rw (to_z-of_z w64 c.args.now c.ranges.now) at c.in-Ok.ensures.line in
    let i = subst (λ (m : PlainBook). Installs (plain_book s.book) m (plain_book t.book) (g.K.Keeper.kept c.args.keeper.now)
    (g.K.Keeper.kept c.install.new.keeper) (g.K.Keeper.faults c.args.keeper.now) (g.K.Keeper.faults c.install.new.keeper)
    (g.K.Keeper.has_failed c.install.new.keeper) (Ok tt)) line c.in-Ok-install.ensures in
    let valid_for = rw (to_z-of_z w64 c.args.now c.ranges.now) at c.in-Ok.ensures.valid in
    let valid = subst IsBook line (valid_for c.requires.service.book c.requires.moment) in
    starts s t c.requires.service c.requires.free c.args.now rows store faults _ _ _ _ _ job e ticked.Moved
    (steps_done s t _ _ _ _ _ _
    (started_service s t c.requires.service c.requires.free c.args.now rows store faults (g.K.Keeper.kept c.args.keeper.now)
    (g.K.Keeper.kept c.install.new.keeper) (g.K.Keeper.faults c.args.keeper.now) (g.K.Keeper.faults c.install.new.keeper)
    (g.K.Keeper.has_failed c.install.new.keeper) job e valid i.book_is refl refl c.in-Ok.ensures.ids run) i refl refl run) run

pub returns-in-Err : goal.returns-in-Err
returns-in-Err g c = λ rows store faults.
    let s = c.args.service.now in
    let t : Service = record { book = c.install.new.book; size = s.size; workers = s.workers; ids = s.ids; run = s.run } in
    let run = no_run s c.requires.service c.requires.free in
    let job = plain_job c.in-Some.job.now in
    let made = moved_book (plain_book s.book) job.id (machine.start c.args.now) in
    let line = rw (to_z-of_z w64 c.args.now c.ranges.now) at c.in-Ok.ensures.line in
    let i = subst (λ (m : PlainBook). Installs (plain_book s.book) m (plain_book t.book) (g.K.Keeper.kept c.args.keeper.now)
    (g.K.Keeper.kept c.install.new.keeper) (g.K.Keeper.faults c.args.keeper.now) (g.K.Keeper.faults c.install.new.keeper)
    (g.K.Keeper.has_failed c.install.new.keeper) (Err c.in-Err.fail)) line c.in-Err.ensures in
    starts s t c.requires.service c.requires.free c.args.now rows store faults _ _ _ _ _ job (sym c.in-Some.ensures.job)
    c.ticked_by.result
    (subst (λ (x : Ticked). Steps made s t (g.K.Keeper.kept c.args.keeper.now) (g.K.Keeper.kept c.install.new.keeper)
    (g.K.Keeper.faults c.args.keeper.now) (g.K.Keeper.faults c.install.new.keeper) (g.K.Keeper.has_failed c.install.new.keeper) x)
    (sym c.ticked_by.ensures) (steps_refused s t made _ _ _ _ _ c.in-Err.fail c.requires.service i refl refl refl refl)) run
