-- A job that has started is finished after exactly the ticks of its assets and one more, whatever else comes between them
-- that does not interrupt its run.
use Rattle.std.proofs.Common.{◌≡◌, ◌⊎◌, ◌<◌, ◌≤◌, ℕ, zero, suc, ℤ, ◌+◌, ◌*◌, ◌-◌, min, true, false, List, [], ◌∷◌, length, Option, Some, None, refl, ap, sym, ◌∙◌, subst, inl, inr, arith, length-append}
use Rattle.std.specs.Prelude.{cond, count_by, find, is_some}
use Rattle.std.proofs.lemmas.Bool.{cases_Bool}
use Rattle.std.proofs.lemmas.List.Sums.{sum_by-cons}
use Rattle.std.proofs.lemmas.Option.{same_Some}
use Rattle.std.proofs.Math.Nat.{eq-or-lt_of_le}
use Rattle.oe_book.specs.Laws.{KeepsRunning}
use Rattle.oe_book.proofs.RunningLemmas.{runs_in}
use Rattle.oe_dims.specs.Names.{same_name}
use Rattle.oe_dims.proofs.OrderLemmas.{same_name_refl}
use Rattle.oe_jobs.specs.Changes.{at_first, is_job}
use Rattle.oe_jobs.specs.Events.{job_named, moved_book, running_job}
use Rattle.oe_jobs.specs.Machine as machine
use Rattle.oe_jobs.specs.Machine.{is_running, moved, with_status}
use Rattle.oe_jobs.specs.Plain.{PlainBook, PlainCommand, PlainJob, PlainRan}
use Rattle.oe_jobs.specs.Valid.{IsBook}
use Rattle.oe_jobs.specs.Verdicts.{next as next_book}
use Rattle.oe_jobs.specs.declared.job.Asset as assets
use Rattle.oe_jobs.specs.declared.status.Status.TheVariants.{Running, Finished}
use Rattle.oe_service.specs.Finishes.{AssetTicks, DoNotInterrupt, IsFinishedIn, IsRoundCount, IsRunning, JobsFinishInTime, is_tick, no_asset, one_asset}
use Rattle.oe_service.specs.Runs.{ran_of}
use Rattle.oe_service.specs.States.{Due, Event, command, no_command, tick, refusal, reopen, Setting, State, after, asset_of as asset_in, at_book, commanded, count_assets, due_of, finish, next, plan, round, store, ticked}
use Rattle.oe_service.proofs.BookLemmas.{asset_of, finish_of, running_found}
use Rattle.oe_service.proofs.KeptLemmas.{commanded_some}
use Rattle.oe_service.proofs.NamedLemmas.{changed_named, command_named, named_of}
use Rattle.oe_service.proofs.NextLemmas.{due_running, finish_due, moved_is, plan_due, round_due, store_due, tick_is}

-- ---- the job that runs

changed_runs : (change : PlainJob → PlainJob) (jobs : List PlainJob) (job : PlainJob) → runs_in jobs ≡ Some job
    → find (is_job job.id) jobs ≡ Some job → is_running (change job).status ≡ true
    → runs_in (at_first (is_job job.id) change jobs) ≡ Some (change job)
changed_runs change [] job runs named now = absurd cc
changed_runs change (a ∷ jobs) job runs named now =
    elim (cases_Bool (is_job job.id a)) [
      | inl t ↦
          let is : a ≡ job = same_Some _ _ (rw t at named) in
          let first : is_running (change a).status ≡ true = ap (λ (j : PlainJob). is_running (change j).status) is ∙ now in
          rw t (rw first (ap (λ j. Some (change j)) is))
      | inr f ↦
          elim (cases_Bool (is_running a.status)) [
            | inl r ↦
                let is : a ≡ job = same_Some _ _ (rw r at runs) in
                let t : is_job job.id a ≡ true = ap (λ (j : PlainJob). same_name j.id job.id) is ∙ same_name_refl job.id in
                absurd cc
            | inr s ↦ rw (f, s) (changed_runs change jobs job (rw s at runs) (rw f at named) now)
          ]
    ]

-- a job runs, and is the one of its id
record RunsIn (book : PlainBook) (job : PlainJob) : Type 0 where
  runs : running_job book ≡ Some job
  named : job_named job.id book ≡ Some job

gains_runs : (book : PlainBook) (job : PlainJob) (now : ℤ) (new : assets.Asset) → RunsIn book job
    → RunsIn (moved_book book job.id (machine.asset now new)) (with_status Running (machine.gains now new job))
gains_runs book job now new is =
    let line = asset_of job.status (machine.has_assets job) now new job (running_found book job is.runs) in
    record {
      runs = changed_runs (moved (machine.asset now new)) book.jobs job is.runs is.named (ap (λ (j : PlainJob). is_running j.status) line)
          ∙ ap Some line;
      named = changed_named job.id (moved (machine.asset now new)) book.jobs job is.named
          (ap (λ (j : PlainJob). same_name j.id job.id) line ∙ same_name_refl job.id)
          ∙ ap Some line;
    }

finish_named : (book : PlainBook) (job : PlainJob) (now : ℤ) → RunsIn book job
    → job_named job.id (moved_book book job.id (machine.finish now)) ≡ Some (with_status Finished (machine.ends now job))
finish_named book job now is =
    let line = finish_of job.status (machine.has_assets job) now job (running_found book job is.runs) in
    changed_named job.id (moved (machine.finish now)) book.jobs job is.named
    (ap (λ (j : PlainJob). same_name j.id job.id) line ∙ same_name_refl job.id)
    ∙ ap Some line

-- ---- numbers of rounds

all_done : (done all step : ℕ) → done ≤ all → all - done ≤ 0 * step → done ≡ all
all_done done all step less none = let z : 0 * step ≡ 0 = omega arith in omega (arith, less, none, z)

some_left : (done all step rounds : ℕ) → done ≤ all → (all - done ≤ 0 * step → suc rounds ≤ 0) → done < all
some_left done all step rounds less least =
    elim (eq-or-lt_of_le less) [
      | inl same ↦
          let z : 0 * step ≡ 0 = omega arith in
          let none : all - done ≤ 0 * step = omega (arith, same, z) in
          absurd (omega (arith, least none))
      | inr left ↦ left
    ]

less_after : (done step all : ℕ) → min (done + step) all ≤ all
less_after done step all = omega arith

-- a round does a step more
round_less : (done step all rounds : ℕ) → IsRoundCount (all - done) step (suc rounds)
    → IsRoundCount (all - min (done + step) all) step rounds
round_less done step all rounds is = record {
  all = by_one done step all (rounds * step) (suc rounds * step) (one_step rounds step) is.all;
  least = λ fewer h. one_fewer rounds fewer (is.least (suc fewer)
      (one_more done step all (fewer * step) (suc fewer * step) (one_step fewer step) h));
}
  where
    one_step : (n step : ℕ) → suc n * step ≡ n * step + step
    one_step n step = omega arith

    by_one : (done step all some more : ℕ) → more ≡ some + step → all - done ≤ more → all - min (done + step) all ≤ some
    by_one done step all some more is less = omega (arith, is, less)

    one_more : (done step all some more : ℕ) → more ≡ some + step → all - min (done + step) all ≤ some → all - done ≤ more
    one_more done step all some more is less = omega (arith, is, less)

    one_fewer : (rounds fewer : ℕ) → suc rounds ≤ suc fewer → rounds ≤ fewer
    one_fewer rounds fewer less = omega (arith, less)

-- ---- numbers of ticks

-- The ticks of so many assets, read: there are none, or one that plans the first, its rounds, one that stores it, and
-- those of the others.
record FirstAsset (setting : Setting) (ran : PlainRan) (k count left : ℕ) : Type 0 where
  others : ℕ
  rounds : ℕ
  ticks : ℕ
  count_is : count ≡ others + 1
  left_is : left ≡ 2 + rounds + ticks
  in_rounds : IsRoundCount (setting.chunks ran k) (2 * setting.workers) rounds
  later : AssetTicks setting ran (k + 1) others ticks

first_asset : (setting : Setting) (ran : PlainRan) (k count left : ℕ) → AssetTicks setting ran k count left
    → ((count ≡ 0) × (left ≡ 0)) ⊎ FirstAsset setting ran k count left
first_asset setting ran _ _ _ (no_asset {k}) = inl (refl, refl)
first_asset setting ran _ _ _ (one_asset {k} {count} {rounds} {ticks} in_rounds later) = inr (record {
  others = count;
  rounds = rounds;
  ticks = ticks;
  count_is = refl;
  left_is = refl;
  in_rounds = in_rounds;
  later = later;
})

one_none : (left : ℕ) → suc left ≡ 0 → ⊥
one_none left long = omega (arith, long)

none_two : (rounds ticks : ℕ) → 0 ≡ 2 + rounds + ticks → ⊥
none_two rounds ticks long = omega (arith, long)

none_one : (rounds ticks : ℕ) → 0 ≡ rounds + (1 + ticks) → ⊥
none_one rounds ticks long = omega (arith, long)

after_plan : (left rounds ticks : ℕ) → suc left ≡ 2 + rounds + ticks → left ≡ rounds + (1 + ticks)
after_plan left rounds ticks long = omega (arith, long)

after_round : (left rounds ticks : ℕ) → suc left ≡ suc rounds + (1 + ticks) → left ≡ rounds + (1 + ticks)
after_round left rounds ticks long = omega (arith, long)

after_store : (left ticks : ℕ) → suc left ≡ 0 + (1 + ticks) → ticks ≡ left
after_store left ticks long = omega (arith, long)

from_all : (n : ℕ) → n ≡ n - 0
from_all n = omega arith

from_none : (n : ℕ) → 0 ≤ n
from_none n = omega arith

same_most : (m n : ℕ) → m ≡ n → n ≤ m
same_most m n same = omega (arith, same)

misses : (k count others all : ℕ) → k + count ≡ all → count ≡ others + 1 → k < all
misses k count others all total is = omega (arith, total, is)

one_more : (k count others all : ℕ) → k + count ≡ all → count ≡ others + 1 → (k + 1) + others ≡ all
one_more k count others all total is = omega (arith, total, is)

none_more : (k count all : ℕ) → k + count ≡ all → count ≡ 0 → k ≡ all
none_more k count all total is = omega (arith, total, is)

none_came : (n : ℕ) → n + 0 ≡ n
none_came n = omega arith

from_first : (n : ℕ) → 0 + n ≡ n
from_first n = omega arith

-- ---- ticks that are left

module _ (setting : Setting) where
  abbrev chunks : PlainJob → ℕ
  chunks job = setting.chunks (ran_of job) (count_assets job)

  abbrev ids : PlainJob → ℕ
  ids job = length (setting.ids (ran_of job))

  -- no run is under way, and so many ticks store all assets that are missing
  record IsBetween (job : PlainJob) (left : ℕ) : Type 0 where
    count : ℕ
    total : count_assets job + count ≡ ids job
    ticks_are : AssetTicks setting (ran_of job) (count_assets job) count left

  -- so many chunks of the next asset are done, and so many ticks store it and all others that are missing
  record IsUnderWay (job : PlainJob) (done left : ℕ) : Type 0 where
    few : done ≤ chunks job
    rounds : ℕ
    rounds_are : IsRoundCount (chunks job - done) (2 * setting.workers) rounds
    others : ℕ
    total : (count_assets job + 1) + others ≡ ids job
    ticks : ℕ
    ticks_are : AssetTicks setting (ran_of job) (count_assets job + 1) others ticks
    left_is : left ≡ rounds + (1 + ticks)

  abbrev LeftOf : PlainJob → Option ℕ → ℕ → Type 0
  LeftOf job None left = IsBetween job left
  LeftOf job (Some done) left = IsUnderWay job done left

  -- the job of an id runs, and so many ticks come before the one that finishes it
  record Leaves (id : List ℕ) (s : State) (left : ℕ) : Type 0 where
    job : PlainJob
    is : RunsIn s.book job
    same : job.id ≡ id
    ticks : LeftOf job s.done left

  -- what a tick makes where this is due of the job that runs
  one_tick : (book : PlainBook) (job : PlainJob) (done : Option ℕ) (d : Due) → running_job book ≡ Some job
      → due_of setting job done ≡ d → (now : ℤ) (text : List ℕ)
      → next setting (tick now text) (record { book = book; done = done })
      ≡ ticked setting now text (record { book = book; done = done }) d
  one_tick book job done d runs due_is now text =
      tick_is setting now text (record { book = book; done = done }) d
      (due_running setting (record { book = book; done = done }) job runs ∙ due_is)

  module _ (id : List ℕ) (book : PlainBook) (job : PlainJob) (is : RunsIn book job) (same : job.id ≡ id) (now : ℤ)
      (text : List ℕ) where
    plan_leaves : (left : ℕ) → IsBetween job (suc left) → Leaves id (next setting (tick now text) (at_book book)) left
    plan_leaves left between =
        elim (first_asset setting (ran_of job) (count_assets job) between.count (suc left) between.ticks_are) [
          | inl none ↦ absurd (one_none left none.1)
          | inr first ↦
              let missing : count_assets job < ids job =
              misses (count_assets job) between.count first.others (ids job) between.total first.count_is in
              let step = one_tick book job None (plan job (count_assets job)) is.runs (plan_due setting job missing) now text in
              subst (λ s. Leaves id s left) (sym step) (record {
                job = job;
                is = is;
                same = same;
                ticks = record {
                  few = from_none (chunks job);
                  rounds = first.rounds;
                  rounds_are = subst (λ n. IsRoundCount n (2 * setting.workers) first.rounds) (from_all (chunks job)) first.in_rounds;
                  others = first.others;
                  total = one_more (count_assets job) between.count first.others (ids job) between.total first.count_is;
                  ticks = first.ticks;
                  ticks_are = first.later;
                  left_is = after_plan left first.rounds first.ticks first.left_is;
                };
              })
        ]

    round_leaves : (done left rounds others ticks : ℕ) → done ≤ chunks job
        → IsRoundCount (chunks job - done) (2 * setting.workers) (suc rounds)
        → (count_assets job + 1) + others ≡ ids job → AssetTicks setting (ran_of job) (count_assets job + 1) others ticks
        → suc left ≡ suc rounds + (1 + ticks)
        → Leaves id (next setting (tick now text) (record { book = book; done = Some done })) left
    round_leaves done left rounds others ticks few rounds_are total ticks_are long =
        let some : done < chunks job = some_left done (chunks job) (2 * setting.workers) rounds few (rounds_are.least 0) in
        let step = one_tick book job (Some done) (round job (count_assets job) done) is.runs (round_due setting job done some) now text in
        subst (λ s. Leaves id s left) (sym step) (record {
          job = job;
          is = is;
          same = same;
          ticks = record {
            few = less_after done (2 * setting.workers) (chunks job);
            rounds = rounds;
            rounds_are = round_less done (2 * setting.workers) (chunks job) rounds rounds_are;
            others = others;
            total = total;
            ticks = ticks;
            ticks_are = ticks_are;
            left_is = after_round left rounds ticks long;
          };
        })

    store_leaves : (done left others ticks : ℕ) → done ≤ chunks job → chunks job - done ≤ 0 * (2 * setting.workers)
        → (count_assets job + 1) + others ≡ ids job → AssetTicks setting (ran_of job) (count_assets job + 1) others ticks
        → suc left ≡ 0 + (1 + ticks)
        → Leaves id (next setting (tick now text) (record { book = book; done = Some done })) left
    store_leaves done left others ticks few none total ticks_are long =
        let all : chunks job ≤ done = same_most done (chunks job) (all_done done (chunks job) (2 * setting.workers) few none) in
        let step = one_tick book job (Some done) (store job (count_assets job)) is.runs (store_due setting job done all) now text in
        let new : assets.Asset = asset_in setting job (count_assets job) text in
        let grown : PlainJob = with_status Running (machine.gains now new job) in
        let more : count_assets grown ≡ count_assets job + 1 = length-append job.assets (new ∷ []) in
        subst (λ s. Leaves id s left) (sym (step ∙ ap at_book (moved_is book job (machine.asset now new) is.runs))) (record {
          job = grown;
          is = gains_runs book job now new is;
          same = same;
          ticks = record {
            count = others;
            total = ap (λ k. k + others) more ∙ total;
            ticks_are = subst (λ k. AssetTicks setting (ran_of job) k others left) (sym more)
                (subst (λ t. AssetTicks setting (ran_of job) (count_assets job + 1) others t) (after_store left ticks long) ticks_are);
          };
        })

    under_way_leaves : (done left rounds others ticks : ℕ) → done ≤ chunks job
        → IsRoundCount (chunks job - done) (2 * setting.workers) rounds
        → (count_assets job + 1) + others ≡ ids job → AssetTicks setting (ran_of job) (count_assets job + 1) others ticks
        → suc left ≡ rounds + (1 + ticks)
        → Leaves id (next setting (tick now text) (record { book = book; done = Some done })) left
    under_way_leaves done left zero others ticks few rounds_are total ticks_are long =
        store_leaves done left others ticks few rounds_are.all total ticks_are long
    under_way_leaves done left (suc rounds) others ticks few rounds_are total ticks_are long =
        round_leaves done left rounds others ticks few rounds_are total ticks_are long

    tick_leaves : (done : Option ℕ) (left : ℕ) → LeftOf job done (suc left)
        → Leaves id (next setting (tick now text) (record { book = book; done = done })) left
    tick_leaves None left between = plan_leaves left between
    tick_leaves (Some done) left way =
        under_way_leaves done left way.rounds way.others way.ticks way.few way.rounds_are way.total way.ticks_are way.left_is

    -- the last tick
    finishes : (done : Option ℕ) → LeftOf job done 0
        → IsFinishedIn setting id (next setting (tick now text) (record { book = book; done = done })).book
    finishes (Some done) way = absurd (none_one way.rounds way.ticks way.left_is)
    finishes None between =
        elim (first_asset setting (ran_of job) (count_assets job) between.count 0 between.ticks_are) [
          | inl none ↦
              let whole : count_assets job ≡ ids job =
              none_more (count_assets job) between.count (ids job) between.total none.0 in
              let step = one_tick book job None (finish job) is.runs
              (finish_due setting job (same_most (count_assets job) (ids job) whole)) now text in
              record {
                job = with_status Finished (machine.ends now job);
                named = ap (λ (s : State). job_named id s.book) (step ∙ ap at_book (moved_is book job (machine.finish now) is.runs))
                    ∙ ap (λ i. job_named i (moved_book book job.id (machine.finish now))) (sym same)
                    ∙ finish_named book job now is;
                finished = refl;
                whole = whole;
              }
          | inr first ↦ absurd (none_two first.rounds first.ticks first.left_is)
        ]

  -- ---- a command

  -- the run goes on where the job of an id runs after the command
  command_leaves_it : KeepsRunning → (id : List ℕ) (s : State) (left : ℕ) (user : List ℕ) (asked : PlainCommand) (now : ℤ)
      → Leaves id s left → IsBook s.book → IsRunning id (next_book s.book user asked now)
      → Leaves id (commanded (next_book s.book user asked now) s.done) left
  command_leaves_it keeps id s left user asked now leaves valid runs =
      let made : PlainBook = next_book s.book user asked now in
      let stays : running_job made ≡ running_job s.book = elim (keeps s.book user asked now valid) [
        | inl same ↦ same
        | inr none ↦ let some : Some runs.job ≡ None = sym runs.runs ∙ none in absurd cc
      ] in
      let still : running_job made ≡ Some leaves.job = stays ∙ leaves.is.runs in
      subst (λ t. Leaves id t left) (commanded_some made made s.done refl (ap is_some still)) (record {
        job = leaves.job;
        is = record {
          runs = still;
          named = command_named s.book valid user asked now (λ (j : PlainJob). is_running j.status) leaves.job still;
        };
        same = leaves.same;
        ticks = leaves.ticks;
      })

  -- ---- all events

  -- the number of ticks that come
  count_more : (e : Event) (es : List Event) → count_by is_tick (e ∷ es) ≡ cond (is_tick e) 1 0 + count_by is_tick es
  count_more e es = sum_by-cons (λ (x : Event). cond (is_tick x) 1 0) e es

  no_tick : (e : Event) (es : List Event) (most : ℕ) → is_tick e ≡ false → count_by is_tick (e ∷ es) ≤ most
      → count_by is_tick es ≤ most
  no_tick e es most none few =
      fewer 0 (count_by is_tick es) most (subst (λ n. n ≤ most) (count_more e es ∙ ap (λ b. cond b 1 0 + count_by is_tick es) none) few)
    where
      fewer : (some rest most : ℕ) → some + rest ≤ most → rest ≤ most
      fewer some rest most few = omega (arith, few)

  one_fewer : (e : Event) (es : List Event) (most : ℕ) → is_tick e ≡ true → count_by is_tick (e ∷ es) ≤ suc most
      → count_by is_tick es ≤ most
  one_fewer e es most some few =
      fewer (count_by is_tick es) most
      (subst (λ n. n ≤ suc most) (count_more e es ∙ ap (λ b. cond b 1 0 + count_by is_tick es) some) few)
    where
      fewer : (rest most : ℕ) → 1 + rest ≤ suc most → rest ≤ most
      fewer rest most few = omega (arith, few)

  too_many : (e : Event) (es : List Event) → is_tick e ≡ true → count_by is_tick (e ∷ es) ≤ 0 → ⊥
  too_many e es some few =
      never (count_by is_tick es)
      (subst (λ n. n ≤ 0) (count_more e es ∙ ap (λ b. cond b 1 0 + count_by is_tick es) some) few)
    where
      never : (rest : ℕ) → 1 + rest ≤ 0 → ⊥
      never rest few = omega (arith, few)

  -- so many ticks are left after others that came
  record HasLeft (id : List ℕ) (s : State) (left came : ℕ) : Type 0 where
    rest : ℕ
    sum : rest + came ≡ left
    leaves : Leaves id s rest

  module _ (id : List ℕ) (e : Event) (es : List Event) (t : State) (left : ℕ) where
    -- an event that is no tick comes first
    past_other : is_tick e ≡ false → HasLeft id t left (count_by is_tick es) → HasLeft id t left (count_by is_tick (e ∷ es))
    past_other none has = record {
      rest = has.rest;
      sum = ap (λ n. has.rest + n) (count_more e es ∙ ap (λ b. cond b 1 0 + count_by is_tick es) none ∙ from_first (count_by is_tick es))
          ∙ has.sum;
      leaves = has.leaves;
    }

    -- a tick comes first
    past_tick : is_tick e ≡ true → HasLeft id t left (count_by is_tick es)
        → HasLeft id t (suc left) (count_by is_tick (e ∷ es))
    past_tick some has = record {
      rest = has.rest;
      sum = ap (λ n. has.rest + n) (count_more e es ∙ ap (λ b. cond b 1 0 + count_by is_tick es) some)
          ∙ one_further has.rest (count_by is_tick es) left has.sum;
      leaves = has.leaves;
    }
      where
        one_further : (rest came left : ℕ) → rest + came ≡ left → rest + (1 + came) ≡ suc left
        one_further rest came left sum = omega (arith, sum)

  events_leave : KeepsRunning → (id : List ℕ) (es : List Event) (s : State) (left : ℕ) → Leaves id s left
      → DoNotInterrupt setting id es s → count_by is_tick es ≤ left → HasLeft id (after setting es s) left (count_by is_tick es)
  events_leave keeps id [] s left leaves calm few = record { rest = left; sum = none_came left; leaves = leaves }
  events_leave keeps id (command user asked now ∷ es) s left leaves calm few =
      past_other id (command user asked now) es (after setting es (next setting (command user asked now) s)) left refl
      (events_leave keeps id es (next setting (command user asked now) s) left
      (command_leaves_it keeps id s left user asked now leaves calm.0.0 calm.0.1) calm.1
      (no_tick (command user asked now) es left refl few))
  events_leave keeps id (no_command ∷ es) s left leaves calm few =
      past_other id no_command es (after setting es s) left refl
      (events_leave keeps id es s left leaves calm.1 (no_tick no_command es left refl few))
  events_leave keeps id (tick now text ∷ es) s zero leaves calm few = absurd (too_many (tick now text) es refl few)
  events_leave keeps id (tick now text ∷ es) s (suc left) leaves calm few =
      past_tick id (tick now text) es (after setting es (next setting (tick now text) s)) left refl
      (events_leave keeps id es (next setting (tick now text) s) left
      (tick_leaves id s.book leaves.job leaves.is leaves.same now text s.done left leaves.ticks) calm.1
      (one_fewer (tick now text) es left refl few))
  events_leave keeps id (refusal now reason ∷ es) s left leaves calm few = absurd calm.0
  events_leave keeps id (reopen ∷ es) s left leaves calm few = absurd calm.0

-- ---- a job that has started

pub jobs_finish_in_time : KeepsRunning → JobsFinishInTime
jobs_finish_in_time keeps setting book job ticks es valid runs none in_ticks calm = record {
  runs = λ few.
      let leaves = (left_by few).leaves in
      record { job = leaves.job; runs = leaves.is.runs; same = leaves.same };
  finishes = λ exact now text.
      let has = left_by (same_most ticks (count_by is_tick es) (sym exact)) in
      let last : Leaves setting job.id (after setting es (at_book book)) 0 =
      subst (Leaves setting job.id (after setting es (at_book book))) (none_left has.rest (count_by is_tick es) ticks has.sum exact) has.leaves in
      finishes setting job.id (after setting es (at_book book)).book last.job last.is last.same now text
      (after setting es (at_book book)).done last.ticks;
}
  where
    all : ℕ
    all = length (setting.ids (ran_of job))

    start : Leaves setting job.id (at_book book) ticks
    start = record {
      job = job;
      is = record { runs = runs; named = named_of (λ (j : PlainJob). is_running j.status) book job valid runs };
      same = refl;
      ticks = record {
        count = all;
        total = ap (λ n. n + all) (ap length none) ∙ from_first all;
        ticks_are = subst (λ k. AssetTicks setting (ran_of job) k all ticks) (sym (ap length none)) in_ticks;
      };
    }

    left_by : count_by is_tick es ≤ ticks
        → HasLeft setting job.id (after setting es (at_book book)) ticks (count_by is_tick es)
    left_by few = events_leave setting keeps job.id es (at_book book) ticks start calm few

    none_left : (rest came ticks : ℕ) → rest + came ≡ ticks → came ≡ ticks → rest ≡ 0
    none_left rest came ticks sum exact = omega (arith, sum, exact)
