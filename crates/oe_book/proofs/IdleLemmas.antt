-- Where no job runs and none is the first of those that are queued, none is queued or runs.
use Rattle.std.proofs.Common.{◌≡◌, ◌⊎◌, inl, inr, ℕ, ◌≤◌, ◌&&◌, Bool, true, false, not, true≢false, List, [], ◌∷◌, None, refl, sym, ◌∙◌, subst, arith}
use Rattle.std.specs.Prelude.{find, nat_lt}
use Rattle.std.specs.List.{AllByRecursion, list_all, list_any}
use Rattle.std.proofs.lemmas.Bool.{and_from, cases_Bool, or_from}
use Rattle.std.proofs.lemmas.Bool.Decides.{nat_tests}
use Rattle.oe_jobs.specs.Events.{is_first}
use Rattle.oe_jobs.specs.Machine.{is_busy, is_queued, is_running}
use Rattle.oe_jobs.specs.Plain.{PlainJob}
use Rattle.oe_jobs.specs.declared.status.Status.{Status}
use Rattle.oe_jobs.specs.declared.status.Status.TheVariants.{Created, Queued, Running, Canceled, Finished, Error}
use Rattle.oe_book.specs.Laws.{IdleWithoutBusy}

-- none that is found passes
none_passes : {X : Type 0} (test : X → Bool) (xs : List X) → find test xs ≡ None → AllByRecursion (λ x. test x ≡ false) xs
none_passes test [] e = tt
none_passes test (x ∷ xs) e =
    elim (cases_Bool (test x)) [
      | inl t ↦ let some = rw t at e in absurd cc
      | inr f ↦ (f, none_passes test xs (rw f at e))
    ]

abbrev StandsAmong : PlainJob → List PlainJob → Type 0
StandsAmong job [] = ⊥
StandsAmong job (a ∷ jobs) = (a ≡ job) ⊎ StandsAmong job jobs

one_of : (P : PlainJob → Type 0) (job : PlainJob) (jobs : List PlainJob) → StandsAmong job jobs → AllByRecursion P jobs → P job
one_of P job [] among all = absurd among
one_of P job (a ∷ jobs) (inl same) all = subst P same all.0
one_of P job (a ∷ jobs) (inr later) all = one_of P job jobs later all.1

-- no queued job has a lesser turn
abbrev before : ℕ → PlainJob → Bool
before turn other = not (is_queued other.status && nat_lt other.turn turn)

abbrev IsLeast : PlainJob → List PlainJob → Type 0
IsLeast job jobs = AllByRecursion (λ (other : PlainJob). before job.turn other ≡ true) jobs

all_before : (p : PlainJob → Bool) (jobs : List PlainJob) → AllByRecursion (λ j. p j ≡ true) jobs → list_all p jobs ≡ true
all_before p [] all = refl
all_before p (a ∷ jobs) all = and_from (p a) (list_all p jobs) all.0 (all_before p jobs all.1)

idle_before : (turn : ℕ) (other : PlainJob) → is_queued other.status ≡ false → before turn other ≡ true
idle_before turn other idle = rw idle refl

later_before : (b : Bool) (m n t : ℕ) → n ≤ m → not (b && nat_lt t m) ≡ true → not (b && nat_lt t n) ≡ true
later_before false m n t more h = refl
later_before true m n t more h = grind (arith, nat_tests)

each_later : (m n : ℕ) (jobs : List PlainJob) → n ≤ m → AllByRecursion (λ (o : PlainJob). before m o ≡ true) jobs
    → AllByRecursion (λ (o : PlainJob). before n o ≡ true) jobs
each_later m n [] more all = tt
each_later m n (o ∷ jobs) more all =
    (later_before (is_queued o.status) m n o.turn more all.0, each_later m n jobs more all.1)

each_idle : (turn : ℕ) (jobs : List PlainJob) → AllByRecursion (λ (o : PlainJob). is_queued o.status ≡ false) jobs
    → AllByRecursion (λ (o : PlainJob). before turn o ≡ true) jobs
each_idle turn [] idle = tt
each_idle turn (o ∷ jobs) idle = (idle_before turn o idle.0, each_idle turn jobs idle.1)

not_before_itself : (b : Bool) (t : ℕ) → not (b && nat_lt t t) ≡ true
not_before_itself false t = refl
not_before_itself true t = grind (arith, nat_tests)

-- the queued job of least turn, where one is queued
least_queued : (jobs : List PlainJob) → AllByRecursion (λ (o : PlainJob). is_queued o.status ≡ false) jobs
    ⊎ ((job : PlainJob) × StandsAmong job jobs × (is_queued job.status ≡ true) × IsLeast job jobs)
least_queued [] = inl tt
least_queued (a ∷ jobs) =
    elim (cases_Bool (is_queued a.status)) [
      | inl t ↦
          elim (least_queued jobs) [
            | inl none ↦ inr (a, inl refl, t, (not_before_itself (is_queued a.status) a.turn, each_idle a.turn jobs none))
            | inr j ↦
                elim (cases_Bool (nat_lt j.0.turn a.turn)) [
                  | inl less ↦ inr (j.0, inr j.1, j.2, (later_before (is_queued a.status) a.turn j.0.turn a.turn (grind (arith, nat_tests)) (not_before_itself (is_queued a.status) a.turn), j.3))
                  | inr more ↦ inr (a, inl refl, t, (not_before_itself (is_queued a.status) a.turn, each_later j.0.turn a.turn jobs (grind (arith, nat_tests)) j.3))
                ]
          ]
      | inr f ↦
          elim (least_queued jobs) [
            | inl none ↦ inl (f, none)
            | inr j ↦ inr (j.0, inr j.1, j.2, (idle_before j.0.turn a f, j.3))
          ]
    ]

none_busy : (s : Status) → is_running s ≡ false → is_queued s ≡ false → is_busy s ≡ false
none_busy Created running queued = refl
none_busy Queued running queued = absurd cc
none_busy Running running queued = absurd cc
none_busy Canceled running queued = refl
none_busy Finished running queued = refl
none_busy Error running queued = refl

all_idle : (jobs : List PlainJob) → AllByRecursion (λ (j : PlainJob). is_running j.status ≡ false) jobs
    → AllByRecursion (λ (j : PlainJob). is_queued j.status ≡ false) jobs → list_any (λ (j : PlainJob). is_busy j.status) jobs ≡ false
all_idle [] running queued = refl
all_idle (a ∷ jobs) running queued =
    or_from (is_busy a.status) (list_any (λ (j : PlainJob). is_busy j.status) jobs) (none_busy a.status running.0 queued.0)
    (all_idle jobs running.1 queued.1)

pub idle_without_busy : IdleWithoutBusy
idle_without_busy book running queued =
    let test : PlainJob → Bool = λ (job : PlainJob). is_queued job.status && is_first book job in
    let stands = none_passes (λ (job : PlainJob). is_running job.status) book.jobs running in
    elim (least_queued book.jobs) [
      | inl none ↦ all_idle book.jobs stands none
      | inr j ↦
          let first : is_first book j.0 ≡ true = all_before (before j.0.turn) book.jobs j.3 in
          let fails : test j.0 ≡ false = one_of (λ x. test x ≡ false) j.0 book.jobs j.1 (none_passes test book.jobs queued) in
          absurd (true≢false (sym (and_from (is_queued j.0.status) (is_first book j.0) j.2 first) ∙ fails))
    ]
