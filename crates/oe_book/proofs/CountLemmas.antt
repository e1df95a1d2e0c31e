-- The numbers of the jobs of a book, and how many each user has.
use Rattle.std.proofs.Common.{◌≡◌, ◌⊎◌, ◌↔◌, ℕ, ◌+◌, ◌<◌, ◌≤◌, Bool, true, false, true≢false, cond, List, [], ◌∷◌, length, drop, get_or, map, refl, sym, ap, ◌∙◌, subst, inl, inr, arith}
use Rattle.std.specs.Prelude.{IsTrue, count_by}
use Rattle.std.specs.List.{AllByRecursion}
use Rattle.std.proofs.lemmas.Bool.{cases_Bool}
use Rattle.std.proofs.lemmas.List.{drop_more}
use Rattle.std.proofs.lemmas.List.Sums.{sum_by-cons}
use Rattle.std.proofs.Math.ListN.{drop_of_length-le}
use Rattle.oe_dims.proofs.OrderLemmas.{same_name_is}
use Rattle.oe_jobs.specs.Plain.{PlainBook, PlainJob, PlainOwned, plain_job}
use Rattle.oe_jobs.specs.Texts.{NamesNumber}
use Rattle.oe_jobs.specs.Valid.{AreNumbered}
use Rattle.oe_jobs.specs.Verdicts.{is_job_of, is_process_of, job_id, last_next, most_jobs, most_processes}
use Rattle.oe_jobs.specs.declared.job.Job.{Job}
use Rattle.oe_book.specs.Parts.{HasFewJobs, HasFewProcesses}
use Rattle.oe_jobs.proofs.PutLemmas.{ids_differ}

-- ---- numbers

-- a number of a job, from a low one to below the next
abbrev pub Numbers : List ℕ → ℕ → ℕ → ℕ → Type 0
Numbers id low next after = (n : ℕ) × (id ≡ job_id n) × (low ≤ n) × (n < next) × (after ≡ n + 1)

-- no number between them names an id that names none, or one that is not between them
pub no_number : (id : List ℕ) (low next : ℕ) → ((n : ℕ) → ¬ NamesNumber id n) → next ≤ last_next → (n : ℕ) → id ≡ job_id n → low ≤ n → n < next → ⊥
no_number id low next none small n is above below = none n (record { named = is; in_range = omega arith })

pub other_number : (id : List ℕ) (m low next : ℕ) → NamesNumber id m → next ≤ last_next → (m < low) ⊎ (next ≤ m) → (n : ℕ) → id ≡ job_id n
    → low ≤ n → n < next → ⊥
other_number id m low next names small out n is above below =
    let same : m ≡ n = ids_differ m n (omega (arith, names.in_range)) (omega arith) (sym names.named ∙ is) in omega (arith, same, out)

step_in : (low next after : ℕ) (job : PlainJob) (jobs : List PlainJob) → next ≤ last_next → Numbers job.id low next after
    → AreNumbered low (job ∷ jobs) next → AreNumbered after jobs next
step_in low next after job jobs small is numbered =
    let same : numbered.0 ≡ is.0 = ids_differ numbered.0 is.0 (omega (arith, numbered.3)) (omega (arith, is.3)) (sym numbered.1 ∙ is.1) in
    subst (λ (n : ℕ). AreNumbered n jobs next) (ap (λ (n : ℕ). n + 1) same ∙ sym is.4) numbered.4

step_out : (low next after : ℕ) (job : PlainJob) (jobs : List PlainJob) → Numbers job.id low next after
    → AreNumbered after jobs next → AreNumbered low (job ∷ jobs) next
step_out low next after job jobs is rest =
    (is.0, is.1, is.2, is.3, subst (λ (n : ℕ). AreNumbered n jobs next) is.4 rest)

-- the jobs that are left are numbered just where all are
abbrev pub LeftNumbered : Type 0 → ℕ → ℕ → List Job → ℕ → Type 0
LeftNumbered W low next jobs k = W ↔ AreNumbered low (map plain_job (drop k jobs)) next

module _ (W : Type 0) (low next : ℕ) (jobs : List Job) (k : ℕ) (left : LeftNumbered W low next jobs k) where
  cut : (job : Job) → k < length jobs → job ≡ get_or jobs k job
      → map plain_job (drop k jobs) ≡ plain_job job ∷ map plain_job (drop (k + 1) jobs)
  cut job below is =
      ap (map plain_job) (drop_more jobs k job below) ∙ ap (λ (j : Job). plain_job j ∷ map plain_job (drop (k + 1) jobs)) (sym is)

  pub numbered_next : (job : Job) (after : ℕ) → next ≤ last_next → k < length jobs → job ≡ get_or jobs k job
      → Numbers job.id low next after → LeftNumbered W after next jobs (k + 1)
  numbered_next job after small below at is = (
    λ w. step_in low next after (plain_job job) (map plain_job (drop (k + 1) jobs)) small is
        (subst (λ (js : List PlainJob). AreNumbered low js next) (cut job below at) (left.0 w)),
    λ rest. left.1 (subst (λ (js : List PlainJob). AreNumbered low js next) (sym (cut job below at))
        (step_out low next after (plain_job job) (map plain_job (drop (k + 1) jobs)) is rest)),
  )

  pub numbered_stops : (job : Job) → k < length jobs → job ≡ get_or jobs k job
      → ((n : ℕ) → job.id ≡ job_id n → low ≤ n → n < next → ⊥) → IsTrue false ↔ W
  numbered_stops job below at none = (
    λ e. absurd (true≢false (sym e)),
    λ w. absurd (let n = subst (λ (js : List PlainJob). AreNumbered low js next) (cut job below at) (left.0 w) in none n.0 n.1 n.2 n.3),
  )

  pub numbered_ends : (told : Bool) → length jobs ≤ k → (IsTrue told ↔ low ≤ next) → IsTrue told ↔ W
  numbered_ends told past is =
      let none : map plain_job (drop k jobs) ≡ [] = ap (map plain_job) (drop_of_length-le jobs past) in (
        λ t. left.1 (subst (λ (js : List PlainJob). AreNumbered low js next) (sym none) (is.0 t)),
        λ w. is.1 (subst (λ (js : List PlainJob). AreNumbered low js next) none (left.0 w)),
      )

-- ---- how many

module _ {Y : Type 0} (of : Y → List ℕ) (is_of : List ℕ → Y → Bool) (same : (user : List ℕ) (y : Y) → is_of user y ≡ true → of y ≡ user) (most : ℕ) (all : List Y) where
  count_skips : (user : List ℕ) (y : Y) (ys : List Y) → is_of user y ≡ false → count_by (is_of user) ys ≡ 0
      → count_by (is_of user) (y ∷ ys) ≡ 0
  count_skips user y ys other none =
      let first : count_by (is_of user) (y ∷ ys) ≡ cond (is_of user y) 1 0 + count_by (is_of user) ys =
      sum_by-cons (λ x. cond (is_of user x) 1 0) y ys in
      let here : ◌≡◌ {A = ℕ} (cond (is_of user y) 1 0) 0 = ap (λ (b : Bool). cond {A = ℕ} b 1 0) other in
      omega (arith, first, here, none)

  -- one of a user is among them, or there is none
  search_user : (user : List ℕ) (ys : List Y) → AllByRecursion (λ y. count_by (is_of (of y)) all ≤ most) ys
      → (count_by (is_of user) ys ≡ 0) ⊎ (count_by (is_of user) all ≤ most)
  search_user user [] few = inl refl
  search_user user (y ∷ ys) few =
      elim (cases_Bool (is_of user y)) [
        | inl t ↦ inr (subst (λ (u : List ℕ). count_by (is_of u) all ≤ most) (same user y t) few.0)
        | inr f ↦
            elim (search_user user ys few.1) [
              | inl none ↦ inl (count_skips user y ys f none)
              | inr few ↦ inr few
            ]
      ]

  pub few_of_each : AllByRecursion (λ y. count_by (is_of (of y)) all ≤ most) all → (user : List ℕ) → count_by (is_of user) all ≤ most
  few_of_each few user =
      elim (search_user user all few) [
        | inl none ↦ omega (arith, none)
        | inr few ↦ few
      ]

every : {Y : Type 0} (P : Y → Type 0) (ys : List Y) → ((y : Y) → P y) → AllByRecursion P ys
every P [] all = tt
every P (y ∷ ys) all = (all y, every P ys all)

pub few_jobs : (book : PlainBook) (told : Bool) → (IsTrue told ↔ AllByRecursion (HasFewJobs book) book.jobs)
    → IsTrue told ↔ ((user : List ℕ) → count_by (is_job_of user) book.jobs ≤ most_jobs)
few_jobs book told is = (
  λ t. few_of_each (λ (j : PlainJob). j.user) is_job_of (λ user j same. sym (same_name_is j.user user same)) most_jobs book.jobs (is.0 t),
  λ few. is.1 (every (HasFewJobs book) book.jobs (λ j. few j.user)),
)

pub few_processes : (book : PlainBook) (told : Bool) → (IsTrue told ↔ AllByRecursion (HasFewProcesses book) book.processes)
    → IsTrue told ↔ ((user : List ℕ) → count_by (is_process_of user) book.processes ≤ most_processes)
few_processes book told is = (
  λ t. few_of_each (λ (o : PlainOwned). o.user) is_process_of (λ user o same. sym (same_name_is o.user user same)) most_processes book.processes (is.0 t),
  λ few. is.1 (every (HasFewProcesses book) book.processes (λ o. few o.user)),
)
