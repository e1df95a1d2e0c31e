-- A job that is put into a valid book, or dropped from it.
use Rattle.std.proofs.Common.{◌≡◌, ℕ, ◌+◌, ◌<◌, ◌≤◌, Bool, true, false, cond, List, [], ◌∷◌, ◌++◌, Some, refl, ap, sym, ◌∙◌, inl, inr, arith}
use Rattle.std.specs.Prelude.{find, count_by, decimal}
use Rattle.std.specs.List.{AllByRecursion}
use Rattle.std.proofs.lemmas.Bool.{cases_Bool}
use Rattle.std.proofs.lemmas.Fmt.{decimal_injective}
use Rattle.std.proofs.lemmas.List.Sums.{sum_by-cons, sum_by-append}
use Rattle.std.proofs.lemmas.Option.{same_Some}
use Rattle.oe_dims.specs.Names.{same_name}
use Rattle.oe_dims.proofs.OrderLemmas.{same_name_is, same_name_refl}
use Rattle.oe_jobs.specs.Changes.{is_job, put_first, without_first}
use Rattle.oe_jobs.specs.Machine.{is_busy, is_running}
use Rattle.oe_jobs.specs.Plain.{PlainBook, PlainJob}
use Rattle.oe_jobs.specs.Valid.{AllApart, AreApart, AreNumbered, IsBook, IsJob}
use Rattle.oe_jobs.specs.Verdicts.{is_job_of, job_id, last_next, most_jobs}
use Rattle.oe_jobs.proofs.ValidLemmas.{Replaces, here, later, all_append, all_map}

-- ---- ids

pub ids_differ : (m n : ℕ) → m ≤ last_next → n ≤ last_next → job_id m ≡ job_id n → m ≡ n
ids_differ m n a b e = let same : decimal m ≡ decimal n = cc in decimal_injective m n (omega arith) (omega arith) same

pub found_number : (test : PlainJob → Bool) (low next : ℕ) (jobs : List PlainJob) (job : PlainJob) → AreNumbered low jobs next
    → find test jobs ≡ Some job → (n : ℕ) × (job.id ≡ job_id n) × (low ≤ n) × (n < next)
found_number test low next [] job numbered e = cc
found_number test low next (a ∷ jobs) job numbered e =
    elim (cases_Bool (test a)) [
      | inl t ↦
          let same : a ≡ job = same_Some _ _ (rw t at e) in
          (numbered.0, ap (λ j. j.id) (sym same) ∙ numbered.1, numbered.2, numbered.3)
      | inr f ↦
          let rest = found_number test (numbered.0 + 1) next jobs job numbered.4 (rw f at e) in
          (rest.0, rest.1, omega (arith, rest.2, numbered.2), rest.3)
    ]

-- a job that was found by any test stands at its id
pub put_replaces : (test : PlainJob → Bool) (low next : ℕ) (jobs : List PlainJob) (job new : PlainJob) → next ≤ last_next
    → AreNumbered low jobs next → find test jobs ≡ Some job → new.id ≡ job.id
    → Replaces job new jobs (put_first (is_job new.id) new jobs)
put_replaces test low next [] job new small numbered e same = cc
put_replaces test low next (a ∷ jobs) job new small numbered e same =
    elim (cases_Bool (test a)) [
      | inl t ↦
          let is_job_a : a ≡ job = same_Some _ _ (rw t at e) in
          let stands : same_name a.id new.id ≡ true =
          ap (λ i. same_name a.id i) (same ∙ ap (λ j. j.id) (sym is_job_a)) ∙ same_name_refl a.id in
          rw (stands, is_job_a) here
      | inr f ↦
          let n = found_number test (numbered.0 + 1) next jobs job numbered.4 (rw f at e) in
          elim (cases_Bool (is_job new.id a)) [
            | inl t ↦
                let ids : job_id n.0 ≡ job_id numbered.0 = sym n.1 ∙ (sym same ∙ (same_name_is a.id new.id t ∙ numbered.1)) in
                let equal = ids_differ n.0 numbered.0 (omega (arith, n.3)) (omega (arith, numbered.3)) ids in
                absurd (omega (arith, equal, n.2))
            | inr g ↦ rw g (later (put_replaces test (numbered.0 + 1) next jobs job new small numbered.4 (rw f at e) same))
          ]
    ]

-- a job of the next number stands at the end
pub put_at_end : (low next : ℕ) (jobs : List PlainJob) (new : PlainJob) → next ≤ last_next → AreNumbered low jobs next
    → new.id ≡ job_id next → put_first (is_job new.id) new jobs ≡ jobs ++ new ∷ []
put_at_end low next [] new small numbered is = refl
put_at_end low next (a ∷ jobs) new small numbered is =
    elim (cases_Bool (is_job new.id a)) [
      | inl t ↦
          let ids : job_id next ≡ job_id numbered.0 = sym is ∙ (same_name_is a.id new.id t ∙ numbered.1) in
          let equal = ids_differ next numbered.0 small (omega (arith, numbered.3)) ids in
          absurd (omega (arith, equal, numbered.3))
      | inr f ↦ rw f (ap (λ js. a ∷ js) (put_at_end (numbered.0 + 1) next jobs new small numbered.4 is))
    ]

-- ---- a job more

pub numbered_append : (low next : ℕ) (jobs : List PlainJob) (new : PlainJob) → AreNumbered low jobs next → new.id ≡ job_id next
    → AreNumbered low (jobs ++ new ∷ []) (next + 1)
numbered_append low next [] new numbered is = (next, is, numbered, omega arith, omega arith)
numbered_append low next (a ∷ jobs) new numbered is =
    (numbered.0, numbered.1, numbered.2, omega (arith, numbered.3), numbered_append (numbered.0 + 1) next jobs new numbered.4 is)

apart_append : (jobs : List PlainJob) (new : PlainJob) → AllApart jobs → AllByRecursion (λ x. AreApart x new) jobs
    → AllApart (jobs ++ new ∷ [])
apart_append [] new apart all = (tt, tt)
apart_append (a ∷ jobs) new apart all = (more jobs apart.0, apart_append jobs new apart.1 all.1) where
  more : (xs : List PlainJob) → AllByRecursion (AreApart a) xs → AllByRecursion (AreApart a) (xs ++ new ∷ [])
  more [] h = (all.0, tt)
  more (x ∷ xs) h = (h.0, more xs h.1)

-- at most so many, where there was room for the one that is counted
pub one_more : (most : ℕ) (b : Bool) (n total : ℕ) → total ≡ cond b 1 0 + n → n ≤ most → (b ≡ true → n < most) → total ≤ most
one_more most true n total e few room = let h = room refl in omega arith
one_more most false n total e few room = omega arith

-- ---- a greater next number

pub numbered_more : (low next greater : ℕ) (jobs : List PlainJob) → next ≤ greater → AreNumbered low jobs next
    → AreNumbered low jobs greater
numbered_more low next greater [] more n = omega arith
numbered_more low next greater (a ∷ jobs) more n =
    (n.0, n.1, n.2, omega (arith, n.3), numbered_more (n.0 + 1) next greater jobs more n.4)

pub job_more : (next greater : ℕ) → next ≤ greater → (job : PlainJob) → IsJob next job → IsJob greater job
job_more next greater more job valid = record {
  process = valid.process;
  title = valid.title;
  description = valid.description;
  created = valid.created;
  updated = valid.updated;
  ran = valid.ran;
  assets = valid.assets;
  logs = valid.logs;
  runs = valid.runs;
  drew = λ busy. let drew = valid.drew busy in omega arith;
}

pub book_more : (book : PlainBook) (greater : ℕ) → book.next ≤ greater → greater ≤ last_next → IsBook book
    → IsBook (record book { next = greater })
book_more book greater more small valid = record {
  counted = omega (arith, valid.counted);
  bounded = small;
  numbered = numbered_more 1 book.next greater book.jobs more valid.numbered;
  apart = valid.apart;
  jobs = all_map book.jobs (job_more book.next greater more) valid.jobs;
  few_jobs = valid.few_jobs;
  processes = valid.processes;
  owned_differ = valid.owned_differ;
  few_processes = valid.few_processes;
}

-- ---- a job less

pub numbered_lower : (low lower next : ℕ) (jobs : List PlainJob) → lower ≤ low → AreNumbered low jobs next → AreNumbered lower jobs next
numbered_lower low lower next [] less n = omega arith
numbered_lower low lower next (a ∷ jobs) less n = (n.0, n.1, omega (arith, n.2), n.3, n.4)

module _ (test : PlainJob → Bool) where
  numbered_without : (low next : ℕ) (jobs : List PlainJob) → AreNumbered low jobs next
      → AreNumbered low (without_first test jobs) next
  numbered_without low next [] n = n
  numbered_without low next (a ∷ jobs) n =
      elim (cases_Bool (test a)) [
        | inl t ↦ rw t (numbered_lower (n.0 + 1) low next jobs (omega (arith, n.2)) n.4)
        | inr f ↦ rw f (n.0, n.1, n.2, n.3, numbered_without (n.0 + 1) next jobs n.4)
      ]

module _ {X : Type 0} (test : X → Bool) where
  pub all_without : (P : X → Type 0) (xs : List X) → AllByRecursion P xs → AllByRecursion P (without_first test xs)
  all_without P [] all = all
  all_without P (a ∷ xs) all =
      elim (cases_Bool (test a)) [
        | inl t ↦ rw t all.1
        | inr f ↦ rw f (all.0, all_without P xs all.1)
      ]

  pub count_without : (p : X → Bool) (xs : List X) → count_by p (without_first test xs) ≤ count_by p xs
  count_without p [] = omega arith
  count_without p (a ∷ xs) =
      let all = sum_by-cons (λ x. cond (p x) 1 0) a xs in
      elim (cases_Bool (test a)) [
        | inl t ↦ rw t (omega arith)
        | inr f ↦
            let rest = count_without p xs in
            let kept = sum_by-cons (λ x. cond (p x) 1 0) a (without_first test xs) in
            rw f (omega arith)
      ]

apart_without : (test : PlainJob → Bool) (jobs : List PlainJob) → AllApart jobs → AllApart (without_first test jobs)
apart_without test [] apart = apart
apart_without test (a ∷ jobs) apart =
    elim (cases_Bool (test a)) [
      | inl t ↦ rw t apart.1
      | inr f ↦ rw f (all_without test (AreApart a) jobs apart.0, apart_without test jobs apart.1)
    ]

pub dropped_keeps : (book : PlainBook) (id : List ℕ) → IsBook book
    → IsBook (record book { jobs = without_first (is_job id) book.jobs })
dropped_keeps book id valid = record {
  counted = valid.counted;
  bounded = valid.bounded;
  numbered = numbered_without (is_job id) 1 book.next book.jobs valid.numbered;
  apart = apart_without (is_job id) book.jobs valid.apart;
  jobs = all_without (is_job id) (IsJob book.next) book.jobs valid.jobs;
  few_jobs = λ user.
      let fewer = count_without (is_job id) (is_job_of user) book.jobs in
      let few = valid.few_jobs user in
      omega arith;
  processes = valid.processes;
  owned_differ = valid.owned_differ;
  few_processes = valid.few_processes;
}

-- a new job of the next number, of a user who has room
pub created_keeps : (book : PlainBook) (new : PlainJob) → IsBook book → book.next < last_next → new.id ≡ job_id book.next
    → IsJob (book.next + 1) new → is_busy new.status ≡ false → is_running new.status ≡ false
    → count_by (is_job_of new.user) book.jobs < most_jobs
    → IsBook (record book { next = book.next + 1; jobs = put_first (is_job new.id) new book.jobs })
created_keeps book new valid number is job idle stopped room =
    rw (put_at_end 1 book.next book.jobs new valid.bounded valid.numbered is) (record {
      counted = omega arith;
      bounded = omega arith;
      numbered = numbered_append 1 book.next book.jobs new valid.numbered is;
      apart = apart_append book.jobs new valid.apart (idle_apart book.jobs);
      jobs = all_append (IsJob (book.next + 1)) book.jobs new
          (all_map book.jobs (job_more book.next (book.next + 1) (omega arith)) valid.jobs) job;
      few_jobs = λ who.
          let all = sum_by-append (λ x. cond (is_job_of who x) 1 0) book.jobs (new ∷ []) in
          let last = sum_by-cons (λ x. cond (is_job_of who x) 1 0) new [] in
          one_more most_jobs (is_job_of who new) (count_by (is_job_of who) book.jobs) _ (omega arith) (valid.few_jobs who)
          (λ t. let is_who : who ≡ new.user = same_name_is new.user who t in rw is_who room);
      processes = valid.processes;
      owned_differ = valid.owned_differ;
      few_processes = valid.few_processes;
    }) where
      idle_apart : (jobs : List PlainJob) → AllByRecursion (λ x. AreApart x new) jobs
      idle_apart [] = tt
      idle_apart (x ∷ jobs) = (record { one_runs = λ runs. stopped; turns_differ = λ x_busy new_busy. let never : false ≡ true = sym idle ∙ new_busy in absurd (never_true never) }, idle_apart jobs) where
        never_true : false ≡ true → ⊥
        never_true e = cc
