-- Each step at the table keeps its rule.
use mathlib.Core.Logic.{dite}
use Rattle.std.proofs.Common.{slice_index, replicate, ◌≡◌, ◌≢◌, ◌⊎◌, ℕ, zero, suc, ◌+◌, ◌-◌, ◌%◌, ◌^◌, ◌<◌, ◌≤◌, List, [], ◌∷◌, length, get_or, set, sym, refl, ap, ◌∙◌, subst, ⊎_elim, inl, inr, arith, Option, Some, None, IfSome, lt_of_not-le}
use mathlib.Core.Option.{none, some, some-injective, some-ne-none}
use mathlib.Core.Option as maybe
use native.Mathlib.Decide.{dec_le, ℕ_discrete}
use lib.ListN.{get_elem?}
use Rattle.atomic_table.specs.Table.{State, Me, Act, Valid, carried_after, keeps, takes, gives, stepped, opening, Allows, Splits, Joins}
use Rattle.atomic_table.proofs.Lists.{at_set, set_here, set_else, at_snoc, at_longer}
use Rattle.std.proofs.Common.{map, drop, ◌++◌}
use Rattle.oe_engine.specs.Benches.{BenchOf, IsBenchFor, IsDone, IsEvaluated, IsLoaded}
use Rattle.oe_plan.specs.Plans.{PlanOf}
use Rattle.oe_engine.specs.Views.{Agrees, At, Became, Content, HasDrawn, IsEvaluatedByPlan, IsLentFor, given, gives_up, joined, split_left, split_right, started, starts, taken, takes_back, with_ended, with_made, worker_of, IsFinished, first_lead, IsFree, IsHome, IsOrderly, Runs, draws, laid_at, live_of, past_of, puts, total, with_hand, with_past}
use Rattle.oe_engine.specs.declared.table.Lent.{Lent}
use Rattle.oe_engine.specs.declared.table.Task.{Task}
use Rattle.oe_engine.specs.declared.table.Lead.{Lead}
use Rattle.oe_engine.specs.declared.table.Worker.{Worker}
use Rattle.oe_engine.specs.declared.table.View.{View}
use Rattle.oe_engine.specs.declared.table.View.TheVariants.{Leads, Works, Spent}

abbrev Slots : Type 0
Slots = List (maybe.Option Content)

-- ---- views

abbrev tag : View → ℕ
tag (Leads lead) = 0
tag (Works worker) = 1
tag Spent = 2

abbrev worker_or : Worker → View → Worker
worker_or w (Leads lead) = w
worker_or w (Works worker) = worker
worker_or w Spent = w

not_lead : (w : Worker) (l : Lead) → some (Works w) ≡ some (Leads l) → ⊥
not_lead w l e = let t = ap tag (some-injective (Works w) (Leads l) e) in absurd (omega (arith, t))

same_worker : (w v : Worker) → Works w ≡ Works v → w ≡ v
same_worker w v e = ap (worker_or w) e

total_set : (f : View → ℕ) (views : List View) (id : ℕ) (v w : View) → get_elem? views id ≡ some v
    → total f (set views id w) + f v ≡ total f views + f w
total_set f [] id v w at = absurd (some-ne-none v (sym at))
total_set f (x ∷ views) zero v w at = let e = ap f (some-injective x v at) in omega (arith, e)
total_set f (x ∷ views) (suc id) v w at = let s = total_set f views id v w at in omega (arith, s)

total_has : (f : View → ℕ) (views : List View) (id : ℕ) (v : View) → get_elem? views id ≡ some v → f v ≤ total f views
total_has f [] id v at = absurd (some-ne-none v (sym at))
total_has f (x ∷ views) zero v at = let e = ap f (some-injective x v at) in omega (arith, e)
total_has f (x ∷ views) (suc id) v at = let s = total_has f views id v at in omega (arith, s)

-- workers that are past are live
past_live : (views : List View) → ((id : ℕ) (w : Worker) → get_elem? views id ≡ some (Works w) → w.past ≤ 1)
    → total past_of views ≤ total live_of views
past_live [] few = omega arith
past_live (Leads l ∷ views) few = let s = past_live views (λ id w at. few (suc id) w at) in omega (arith, s)
past_live (Works w ∷ views) few = let s = past_live views (λ id w at. few (suc id) w at) in let p = few 0 w refl in omega (arith, s, p)
past_live (Spent ∷ views) few = let s = past_live views (λ id w at. few (suc id) w at) in omega (arith, s)

-- ---- one worker's view changes

module _ (task : Task) (lead : Lead) (word next : ℕ) (homes after : Slots) (views : List View) (r : Runs task lead word homes views)
    (id : ℕ) (w v : Worker) (at : get_elem? views id ≡ some (Works w)) where
  not_first : id ≢ 0
  not_first e = not_lead w lead (sym at ∙ (ap (λ (i : ℕ). get_elem? views i) e ∙ r.leads))

  pub changed : Agrees task lead next v → word ≤ next
      → next + w.past ≤ lead.first + task.slots + lead.ended + total past_of views + v.past
      → ((j : ℕ) (u : Worker) → get_elem? views j ≡ some (Works u) → j ≢ id → v.hand ≢ 0 → v.hand ≢ u.hand)
      → ((slot : ℕ) → lead.held ≤ slot → slot < task.slots → IsFree (set views id (Works v)) slot → IsHome lead after slot)
      → Runs task lead next after (set views id (Works v))
  changed agrees more high apart home = record {
    leads = set_else views id 0 (Works v) (λ e. not_first (sym e)) ∙ r.leads;
    one = λ i l here. ⊎_elim (λ t. absurd (not_lead v l (ap some t.1))) (λ t. r.one i l t.1) (at_set views id i (Works v) (Leads l) here);
    task_is = r.task_is;
    live = let s = total_set live_of views id (Works w) (Works v) at in omega (arith, s, r.live);
    made = r.made;
    room = r.room;
    low = omega (arith, r.low, more);
    high = let s = total_set past_of views id (Works w) (Works v) at in omega (arith, s, high);
    alone = r.alone;
    most = r.most;
    agree = λ i u here. ⊎_elim (λ t. subst (Agrees task lead next) (same_worker v u t.1) agrees)
        (λ t. let a = r.agree i u t.1 in record { task_is = a.task_is; first = a.first; laid = a.laid; past = a.past; within = a.within; drawn = omega (arith, a.drawn, more) })
        (at_set views id i (Works v) (Works u) here);
    apart = λ i j a b at_i at_j some_hand same.
        ⊎_elim
        (λ ti. ⊎_elim (λ tj. ti.0 ∙ sym tj.0)
        (λ tj. let va = ap (λ (x : Worker). x.hand) (same_worker v a ti.1) in
        absurd (apart j b tj.1 tj.0 (λ z. some_hand (sym va ∙ z)) (va ∙ same)))
        (at_set views id j (Works v) (Works b) at_j))
        (λ ti. ⊎_elim (λ tj. let vb = ap (λ (x : Worker). x.hand) (same_worker v b tj.1) in
        absurd (apart i a ti.1 ti.0 (λ z. some_hand (same ∙ (sym vb ∙ z))) (vb ∙ sym same)))
        (λ tj. r.apart i j a b ti.1 tj.1 some_hand same)
        (at_set views id j (Works v) (Works b) at_j))
        (at_set views id i (Works v) (Works a) at_i);
    home = home;
  }

-- ---- one word

orderly : (task : Task) (s : State Content View) (lead : Lead) (word : ℕ) → s.words ≡ word ∷ []
    → Runs task lead word s.homes s.views → IsOrderly task s
orderly task s lead word e runs = let i : slice_index s.words 0 ≡ word = ap (λ (l : List ℕ). slice_index l 0) e in record {
  lead = lead;
  words = e ∙ ap (λ (n : ℕ). n ∷ []) (sym i);
  runs = subst (λ (n : ℕ). Runs task lead n s.homes s.views) (sym i) runs;
}

set_word : (words : List ℕ) (c x : ℕ) → words ≡ c ∷ [] → set words 0 x ≡ x ∷ []
set_word words c x e = ap (λ (l : List ℕ). set l 0 x) e

at_within : {A : Type 0} (l : List A) (i : ℕ) (a : A) → get_elem? l i ≡ some a → i < length l
at_within [] i a e = absurd (some-ne-none a (sym e))
at_within (x ∷ xs) zero a e = omega arith
at_within (x ∷ xs) (suc i) a e = let s = at_within xs i a e in omega (arith, s)

-- ---- a worker draws

module _ (task : Task) (id : ℕ) (w : Worker) (s : State Content View) (h : IsOrderly task s)
    (at : get_elem? s.views id ≡ some (Works w)) where
  abbrev lead : Lead
  lead = h.lead

  abbrev word : ℕ
  word = slice_index s.words 0

  agrees : Agrees task lead word w
  agrees = h.runs.agree id w at

  running : h.lead.ended < h.lead.made
  running = let l = total_has live_of s.views id (Works w) at in omega (arith, l, h.runs.live)

  -- another draw fits the word
  small : word + 1 < 18446744073709551616
  small = let p = past_live s.views (λ i u here. (h.runs.agree i u here).past) in
      omega (arith, p, h.runs.live, h.runs.high, h.runs.made, h.runs.room)

  -- a slot that no worker has after this one's change, and that this one has not, was free before
  free_before : (v : Worker) (slot : ℕ) → w.hand ≢ suc slot → IsFree (set s.views id (Works v)) slot → IsFree s.views slot
  free_before v slot not_mine free = λ i u here same.
      dite (ℕ_discrete i id)
      (λ e. let is = same_worker w u (some-injective (Works w) (Works u) (sym at ∙ (ap (λ (j : ℕ). get_elem? s.views j) (sym e) ∙ here))) in
      not_mine (ap (λ (x : Worker). x.hand) is ∙ same))
      (λ ne. free i u (set_else s.views id i (Works v) ne ∙ here) same)

  module _ (no_hand : w.hand ≡ 0) (not_past : w.past ≡ 0) where
    pub draws_past : w.first + task.slots ≤ word
        → IsOrderly task (stepped s 0 ((word + 1) % 18446744073709551616) id [] (Works (with_past w)) keeps)
    draws_past over =
        let m : (word + 1) % 18446744073709551616 ≡ suc word = omega (arith, small) in
        let a = agrees in
        orderly task (stepped s 0 ((word + 1) % 18446744073709551616) id [] (Works (with_past w)) keeps) lead (suc word)
        (set_word s.words word ((word + 1) % 18446744073709551616) h.words ∙ ap (λ (n : ℕ). n ∷ []) m)
        (changed task lead word (suc word) s.homes s.homes s.views h.runs id w (with_past w) at
        (record { task_is = a.task_is; first = a.first; laid = a.laid; past = omega arith; within = a.within; drawn = omega (arith, a.drawn) })
        (omega arith)
        (omega (arith, h.runs.high, not_past))
        (λ j u here other some_hand. absurd (some_hand no_hand))
        (λ slot low lt free. h.runs.home slot low lt (free_before (with_past w) slot (λ e. omega (arith, e, no_hand)) free)))

    abbrev drawn : ℕ
    drawn = word - w.first

    module _ (below : word < w.first + task.slots) where
      nobody : (i : ℕ) (u : Worker) → get_elem? s.views i ≡ some (Works u) → u.hand ≢ suc drawn
      nobody i u here e = let a = h.runs.agree i u here in absurd (omega (arith, a.drawn, agrees.first, h.runs.low, e))

      pub is_home : IsHome h.lead s.homes drawn
      is_home = let z = h.runs.alone running in
          h.runs.home drawn (omega (arith, z)) (omega (arith, below, agrees.first, h.runs.low)) (λ i u here. nobody i u here)

      pub draws_slot : IsOrderly task (stepped s 0 ((word + 1) % 18446744073709551616) id [] (Works (with_hand w (suc drawn))) (takes drawn is_home.0))
      draws_slot =
          let m : (word + 1) % 18446744073709551616 ≡ suc word = omega (arith, small) in
          let a = agrees in
          let v : Worker = with_hand w (suc drawn) in
          orderly task (stepped s 0 ((word + 1) % 18446744073709551616) id [] (Works v) (takes drawn is_home.0)) lead (suc word)
          (set_word s.words word ((word + 1) % 18446744073709551616) h.words ∙ ap (λ (n : ℕ). n ∷ []) m)
          (changed task lead word (suc word) s.homes (set s.homes drawn none) s.views h.runs id w v at
          (record {
            task_is = a.task_is;
            first = a.first;
            laid = a.laid;
            past = a.past;
            within = omega (arith, below, a.first, h.runs.low);
            drawn = omega (arith, a.first, h.runs.low);
          })
          (omega arith)
          (omega (arith, below, a.first))
          (λ j u here other some_hand same. nobody j u here (sym same))
          (λ slot low lt free.
          let ne : slot ≢ drawn = λ e. free id v (set_here s.views id (Works v) (at_within s.views id (Works w) at)) (ap suc (sym e)) in
          let was = h.runs.home slot low lt (free_before v slot (λ e. omega (arith, e, no_hand)) free) in
          (was.0, set_else s.homes drawn slot none ne ∙ was.1, was.2)))

      pub told : HasDrawn w word (Works (with_hand w (suc drawn)), (drawn, is_home.0) ∷ [])
      told = record {
        low = omega (arith, agrees.first, h.runs.low);
        drawn = λ lt. (
          is_home.0,
          refl,
          subst (λ (l : List Content). Became (laid_at l drawn) is_home.0) (sym agrees.laid)
              (let z = h.runs.alone running in let i : drawn - h.lead.held ≡ drawn = omega (arith, z) in
              subst (λ (k : ℕ). Became (laid_at h.lead.laid k) is_home.0) i is_home.2),
        );
        past = λ le. absurd (omega (arith, le, below, ap (λ (t : Task). t.slots) agrees.task_is));
      }

    told_past : w.first + task.slots ≤ word → HasDrawn w word (Works (with_past w), [])
    told_past over = record {
      low = omega (arith, agrees.first, h.runs.low);
      drawn = λ lt. absurd (omega (arith, lt, over, ap (λ (t : Task). t.slots) agrees.task_is));
      past = λ le. refl;
    }

    tells : (after : Me Content View) → HasDrawn w word after → draws (Works w, []) word after
    tells after has = λ u e. subst (λ (x : Worker). HasDrawn x word after) (same_worker w u (ap (λ (m : Me Content View). m.0) e)) has

    pub draws_by : Dec (w.first + task.slots ≤ word)
        → (v : View) × (a : Act Content) × Valid s.homes [] a
        × IsOrderly task (stepped s 0 ((word + 1) % 18446744073709551616) id [] v a)
        × draws (Works w, []) word (v, carried_after [] a)
    draws_by (yes over) = (Works (with_past w), keeps, tt, draws_past over, tells (Works (with_past w), []) (told_past over))
    draws_by (no not_over) = let below = lt_of_not-le not_over in (
      Works (with_hand w (suc drawn)),
      takes drawn (is_home below).0,
      (is_home below).1,
      draws_slot below,
      tells (Works (with_hand w (suc drawn)), (drawn, (is_home below).0) ∷ []) (told below),
    )

  -- ---- a worker puts a bench back

  module _ (k : ℕ) (y : Content) (hand : w.hand ≡ suc k) (deep : length s.homes ≡ task.slots)
      (fits : Became (laid_at h.lead.laid k) y) where
    pub puts_back : IsOrderly task (stepped s 0 word id ((k, y) ∷ []) (Works (with_hand w 0)) gives)
    puts_back =
        let a = agrees in
        let v : Worker = with_hand w 0 in
        orderly task (stepped s 0 word id ((k, y) ∷ []) (Works v) gives) lead word
        (set_word s.words word word h.words)
        (changed task lead word word s.homes (set s.homes k (some y)) s.views h.runs id w v at
        (record { task_is = a.task_is; first = a.first; laid = a.laid; past = a.past; within = omega arith; drawn = omega (arith, h.runs.low) })
        (omega arith)
        (omega (arith, h.runs.high))
        (λ j u here other some_hand same. some_hand refl)
        (λ slot low lt free.
        dite (ℕ_discrete slot k)
        (λ e. (
          y,
          ap (λ (j : ℕ). get_elem? (set s.homes k (some y)) j) e ∙ set_here s.homes k (some y) (omega (arith, deep, a.within, hand)),
          (let z = h.runs.alone running in let i : k ≡ slot - h.lead.held = omega (arith, z, e) in
              subst (λ (j : ℕ). Became (laid_at h.lead.laid j) y) i fits),
        ))
        (λ ne. let was = h.runs.home slot low lt (free_before v slot (λ e. ne (omega (arith, e, hand))) free) in
        (was.0, set_else s.homes k slot (some y) ne ∙ was.1, was.2))))

-- ---- as steps ask it

pub can_draw : (task : Task) (slots id : ℕ) (w : Worker) → w.hand ≡ 0 → w.past ≡ 0
    → Allows (IsOrderly task) slots id (Works w, []) 0 (λ n. (n + 1) % 18446744073709551616) (draws (Works w, []))
can_draw task slots id w no_hand not_past s h long at fits =
    draws_by task id w s h at no_hand not_past (dec_le (w.first + task.slots) (slice_index s.words 0))

pub can_put : (task : Task) (slots id k : ℕ) (w : Worker) (y : Content) → slots ≡ task.slots → w.hand ≡ suc k
    → Became (laid_at w.laid k) y
    → Allows (IsOrderly task) slots id (Works w, (k, y) ∷ []) 0 (λ n. n) (puts (Works w, (k, y) ∷ []))
can_put task slots id k w y sized hand fits s h long at bounded =
    let a = h.runs.agree id w at in (
      Works (with_hand w 0),
      gives,
      tt,
      puts_back task id w s h at k y hand (long ∙ sized) (subst (λ (l : List Content). Became (laid_at l k) y) a.laid fits),
      (λ u e. ap (λ (x : Worker). let m : Me Content View = (Works (with_hand x 0), []) in m) (same_worker w u e)),
    )

-- ---- evaluated twice is evaluated once

pub twice : (p : PlanOf) (a b c : BenchOf) → IsEvaluated p a b → IsEvaluated p b c → IsEvaluated p a c
twice p a b c one two = record {
  bench = two.bench;
  idle = λ h. let e = one.idle h in two.idle (ap (λ (x : BenchOf). x.state) e ∙ h) ∙ e;
  done = λ k h. let e = one.done k h in two.done k (ap (λ (x : BenchOf). x.state) e ∙ h) ∙ e;
  evaluated = λ k h. let d = one.evaluated k h in ap (λ (x : BenchOf). x.state) (two.done k d) ∙ d;
  value = λ collections k has h. let d = one.value collections k has h in subst (IsDone p collections k) (sym (two.done k d.state)) d;
}

by_plan_twice : (a b c : Lent) → IsEvaluatedByPlan a b → IsEvaluatedByPlan b c → IsEvaluatedByPlan a c
by_plan_twice a b c one two = record {
  plan = two.plan ∙ one.plan;
  bench = twice a.plan.value a.bench b.bench c.bench one.bench
      (subst (λ (p : PlanOf). IsEvaluated p b.bench c.bench) one.plan two.bench);
}

abbrev full : Content → ℕ
full None = 0
full (Some b) = 1

abbrev lent_or : Lent → Content → Lent
lent_or d None = d
lent_or d (Some b) = b

pub no_content : (x : Lent) → None ≡ Some x → ⊥
no_content x e = let z = ap full e in absurd (omega (arith, z))

pub same_content : (x y : Lent) → Some x ≡ Some y → x ≡ y
same_content x y e = ap (lent_or x) e

-- what became of a bench that was lent for a plan is lent for it
pub became_for : (p : PlanOf) (laid now : Content) → IfSome laid (IsLentFor p) → Became laid now → IfSome now (IsLentFor p)
became_for p laid now h b =
    ⊎_elim (λ e. subst (λ (o : Content). IfSome o (IsLentFor p)) e h)
    (λ t. let was : IsLentFor p t.0 = subst (λ (o : Content). IfSome o (IsLentFor p)) t.2 h in
    subst (λ (o : Content). IfSome o (IsLentFor p)) (sym t.3)
    (record {
      plan = t.4.plan ∙ was.plan;
      bench = subst (λ (q : PlanOf). IsBenchFor q t.1.bench) was.plan t.4.bench.bench;
    }))
    b

-- what is evaluated for a plan is evaluated by its own
pub by_own_plan : (p : PlanOf) (x after : Lent) → IsLentFor p x → after.plan.value ≡ x.plan.value → IsEvaluated p x.bench after.bench
    → IsEvaluatedByPlan x after
by_own_plan p x after lent same e =
    record { plan = same; bench = subst (λ (q : PlanOf). IsEvaluated q x.bench after.bench) (sym lent.plan) e }

pub became_more : (p : PlanOf) (laid was now : Content) → IfSome was (IsLentFor p) → Became laid was → IsFinished p was now
    → Became laid now
became_more p laid None now h b f =
    ⊎_elim (λ e. inl (e ∙ sym f)) (λ t. absurd (no_content t.1 t.3)) b
became_more p laid (Some x) now h b f =
    let own : IsEvaluatedByPlan x f.0 = by_own_plan p x f.0 h f.2 f.3 in
    ⊎_elim (λ e. inr (x, f.0, e, f.1, own))
    (λ t. let e : x ≡ t.1 = same_content x t.1 t.3 in
    inr (t.0, f.0, t.2, f.1, by_plan_twice t.0 t.1 f.0 t.4 (subst (λ (y : Lent). IsEvaluatedByPlan y f.0) e own)))
    b

-- ---- the table at the start

abbrev bare : Content
bare = None

nones : (n k : ℕ) → k < n → get_elem? (map some (replicate n bare)) k ≡ some (some bare)
nones zero k lt = absurd (omega arith)
nones (suc n) zero lt = refl
nones (suc n) (suc k) lt = nones n k (omega arith)

no_other : (l : Lead) (id : ℕ) (v : View) → get_elem? (Leads l ∷ []) id ≡ some v → (id ≡ 0) × (Leads l ≡ v)
no_other l zero v at = (refl, some-injective (Leads l) v at)
no_other l (suc id) v at = absurd (some-ne-none v (sym at))

no_worker : (l : Lead) (id : ℕ) (w : Worker) → get_elem? (Leads l ∷ []) id ≡ some (Works w) → ⊥
no_worker l id w at = let e = ap tag (no_other l id (Works w) at).1 in absurd (omega (arith, e))

pub opens : (task : Task) (n : ℕ) → n ≡ task.slots → task.slots ≤ 4096
    → IsOrderly task (opening (0 ∷ []) (replicate n None) (Leads (first_lead task)))
opens task n same few = record {
  lead = first_lead task;
  words = refl;
  runs = record {
    leads = refl;
    one = λ id other at. (no_other (first_lead task) id (Leads other) at).0;
    task_is = refl;
    live = refl;
    made = omega arith;
    room = omega arith;
    low = omega arith;
    high = omega arith;
    alone = λ lt. refl;
    most = omega arith;
    agree = λ id w at. absurd (no_worker (first_lead task) id w at);
    apart = λ i j a b at_i at_j. absurd (no_worker (first_lead task) i a at_i);
    home = λ slot low lt free. (None, nones n slot (omega (arith, same)), inl refl);
  };
}

-- ---- the coordinator's steps

abbrev lead_or : Lead → View → Lead
lead_or l (Leads lead) = lead
lead_or l (Works worker) = l
lead_or l Spent = l

same_lead : (l m : Lead) → Leads l ≡ Leads m → l ≡ m
same_lead l m e = ap (lead_or l) e

module _ (task : Task) (lead : Lead) (word : ℕ) (homes : Slots) (views : List View) (r : Runs task lead word homes views) where
  -- the one coordinator is at the front
  is_first : (id : ℕ) (l : Lead) → get_elem? views id ≡ some (Leads l) → (id ≡ 0) × (l ≡ lead)
  is_first id l at = let e = r.one id l at in (
    e,
    same_lead l lead (some-injective (Leads l) (Leads lead) (sym at ∙ (ap (λ (i : ℕ). get_elem? views i) e ∙ r.leads))),
  )

  nobody_works : lead.ended ≡ lead.made → (id : ℕ) (w : Worker) → get_elem? views id ≡ some (Works w) → ⊥
  nobody_works calm id w at = let t = total_has live_of views id (Works w) at in absurd (omega (arith, t, r.live, calm))

  -- while nobody works it changes its view
  module _ (calm : lead.ended ≡ lead.made) (next : Lead) (word' : ℕ) (after : Slots) where
    nobody_then : (id : ℕ) (w : Worker) → get_elem? (set views 0 (Leads next)) id ≡ some (Works w) → ⊥
    nobody_then id w here = ⊎_elim (λ t. let e = ap tag t.1 in absurd (omega (arith, e))) (λ t. nobody_works calm id w t.1)
        (at_set views 0 id (Leads next) (Works w) here)

    pub settled : next.task ≡ task → next.ended ≡ next.made → next.made ≤ task.slots
        → next.first + task.slots + task.slots + 1 < 2 ^ 64 → next.first ≤ word' → word' ≤ next.first + task.slots + next.ended
        → next.held ≤ task.slots
        → ((slot : ℕ) → next.held ≤ slot → slot < task.slots → IsHome next after slot)
        → Runs task next word' after (set views 0 (Leads next))
    settled task_is calm' made room low high most home = record {
      leads = set_here views 0 (Leads next) (at_within views 0 (Leads lead) r.leads);
      one = λ id other here. ⊎_elim (λ t. t.0) (λ t. r.one id other t.1) (at_set views 0 id (Leads next) (Leads other) here);
      task_is = task_is;
      live = let t = total_set live_of views 0 (Leads lead) (Leads next) r.leads in omega (arith, t, r.live, calm, calm');
      made = made;
      room = room;
      low = low;
      high = omega (arith, high);
      alone = λ lt. absurd (omega (arith, lt, calm'));
      most = most;
      agree = λ id w here. absurd (nobody_then id w here);
      apart = λ i j a b at_i at_j. absurd (nobody_then i a at_i);
      home = λ slot from lt free. home slot from lt;
    }

  free_now : lead.ended ≡ lead.made → (slot : ℕ) → IsFree views slot
  free_now calm slot = λ id w at. absurd (nobody_works calm id w at)

tail_at : (l : List Content) (i : ℕ) → laid_at (drop 1 l) i ≡ laid_at l (suc i)
tail_at [] i = refl
tail_at (x ∷ l) i = refl

module _ (task : Task) (id : ℕ) (l : Lead) (s : State Content View) (h : IsOrderly task s)
    (at : get_elem? s.views id ≡ some (Leads l)) (calm : l.ended ≡ l.made) where
  abbrev count : ℕ
  count = slice_index s.words 0

  here : (id ≡ 0) × (l ≡ h.lead)
  here = is_first task h.lead count s.homes s.views h.runs id l at

  runs : Runs task l count s.homes s.views
  runs = subst (λ (m : Lead). Runs task m count s.homes s.views) (sym here.1) h.runs

  module _ (carried : List (ℕ × Content)) where
    pub begins : (c : ℕ) → l.held ≡ task.slots → c + task.slots + task.slots + 1 < 2 ^ 64
        → IsOrderly task (stepped s 0 c id carried (Leads (started l c)) keeps)
    begins c all room =
        subst (λ (i : ℕ). IsOrderly task (stepped s 0 c i carried (Leads (started l c)) keeps)) (sym here.0)
        (orderly task (stepped s 0 c 0 carried (Leads (started l c)) keeps) (started l c) c (set_word s.words count c h.words)
        (settled task l count s.homes s.views runs calm (started l c) c s.homes runs.task_is refl (omega arith) room (omega arith) (omega arith) runs.most
        (λ slot from lt. absurd (omega (arith, from, lt, all)))))

    pub hands_back : l.held < task.slots
        → (now : Content) × (get_elem? s.homes l.held ≡ some (some now)) × Became (laid_at l.laid 0) now
        × IsOrderly task (stepped s 0 count id carried (Leads (taken l)) (takes l.held now))
    hands_back some_left =
        let was = runs.home l.held (omega arith) some_left (free_now task l count s.homes s.views runs calm l.held) in
        let none_off : l.held - l.held ≡ 0 = omega arith in (
          was.0,
          was.1,
          subst (λ (i : ℕ). Became (laid_at l.laid i) was.0) none_off was.2,
          subst (λ (i : ℕ). IsOrderly task (stepped s 0 count i carried (Leads (taken l)) (takes l.held was.0))) (sym here.0)
              (orderly task (stepped s 0 count 0 carried (Leads (taken l)) (takes l.held was.0)) (taken l) count (set_word s.words count count h.words)
              (settled task l count s.homes s.views runs calm (taken l) count (set s.homes l.held none) runs.task_is calm runs.made runs.room runs.low
              (let t = calm_past in omega (arith, t, runs.high)) (omega (arith, some_left))
              (λ slot from lt.
              let old = runs.home slot (omega (arith, from)) lt (free_now task l count s.homes s.views runs calm slot) in
              let step : slot - l.held ≡ suc (slot - suc l.held) = omega (arith, from) in (
                old.0,
                set_else s.homes l.held slot none (λ e. omega (arith, e, from)) ∙ old.1,
                subst (λ (o : Content). Became o old.0) (sym (tail_at l.laid (slot - suc l.held)))
                    (subst (λ (i : ℕ). Became (laid_at l.laid i) old.0) step old.2),
              )))),
        )
      where
        calm_past : total past_of s.views ≡ 0
        calm_past = let p = past_live s.views (λ i u here'. (runs.agree i u here').past) in omega (arith, p, runs.live, calm)

  pub hands_out : (k : ℕ) (y : Content) (others : List (ℕ × Content)) → l.held ≡ suc k → length s.homes ≡ task.slots
      → IsOrderly task (stepped s 0 count id ((k, y) ∷ others) (Leads (given l k y)) gives)
  hands_out k y others held deep =
      let p = past_live s.views (λ i u here'. (runs.agree i u here').past) in
      subst (λ (i : ℕ). IsOrderly task (stepped s 0 count i ((k, y) ∷ others) (Leads (given l k y)) gives)) (sym here.0)
      (orderly task (stepped s 0 count 0 ((k, y) ∷ others) (Leads (given l k y)) gives) (given l k y) count (set_word s.words count count h.words)
      (settled task l count s.homes s.views runs calm (given l k y) count (set s.homes k (some y)) runs.task_is calm runs.made runs.room runs.low
      (omega (arith, p, runs.live, calm, runs.high)) (omega (arith, held, runs.most))
      (λ slot from lt.
      dite (ℕ_discrete slot k)
      (λ e. let z : 0 ≡ slot - k = omega (arith, e) in (
        y,
        ap (λ (j : ℕ). get_elem? (set s.homes k (some y)) j) e ∙ set_here s.homes k (some y) (omega (arith, deep, held, runs.most)),
        subst (λ (i : ℕ). Became (laid_at (y ∷ l.laid) i) y) z (inl refl),
      ))
      (λ ne. let old = runs.home slot (omega (arith, from, ne, held)) lt (free_now task l count s.homes s.views runs calm slot) in
      let i : suc (slot - l.held) ≡ slot - k = omega (arith, from, ne, held) in (
        old.0,
        set_else s.homes k slot (some y) ne ∙ old.1,
        subst (λ (j : ℕ). Became (laid_at (y ∷ l.laid) j) old.0) i old.2,
      )))))

pub can_start : (task : Task) (slots id : ℕ) (me : At) (l : Lead) (c : ℕ) → me.0 ≡ Leads l → l.ended ≡ l.made → l.held ≡ task.slots
    → c + task.slots + task.slots + 1 < 2 ^ 64
    → Allows (IsOrderly task) slots id me 0 (λ n. c) (λ n. starts me c)
can_start task slots id me l c is calm all room s h long at bounded = (
  Leads (started l c),
  keeps,
  tt,
  begins task id l s h (at ∙ ap some is) calm me.1 c all room,
  (λ m e. ap (λ (x : Lead). let a : At = (Leads (started x c), me.1) in a) (same_lead l m (sym is ∙ e))),
)

pub can_give : (task : Task) (slots id k : ℕ) (l : Lead) (y : Content) (others : List (ℕ × Content)) → slots ≡ task.slots
    → l.ended ≡ l.made → l.held ≡ suc k
    → Allows (IsOrderly task) slots id (Leads l, (k, y) ∷ others) 0 (λ n. n) (gives_up (Leads l, (k, y) ∷ others))
can_give task slots id k l y others sized calm held s h long at bounded = (
  Leads (given l k y),
  gives,
  tt,
  hands_out task id l s h at calm k y others held (long ∙ sized),
  (λ m j b rest e.
      let ml = same_lead l m (ap (λ (a : At). a.0) e) in
      let pairs = ap (λ (a : At). a.1) e in
      let top = ap (λ (x : List (ℕ × Content)). get_or x 0 (0, None)) pairs in
      let below = ap (λ (x : List (ℕ × Content)). drop 1 x) pairs in
      λ i. (Leads (given (ml i) (top i).0 (top i).1), below i)),
)

pub can_take : (task : Task) (slots id : ℕ) (me : At) (l : Lead) → me.0 ≡ Leads l → l.ended ≡ l.made → l.held < task.slots
    → Allows (IsOrderly task) slots id me 0 (λ n. n) (takes_back me)
can_take task slots id me l is calm some_left s h long at bounded =
    let b = hands_back task id l s h (at ∙ ap some is) calm me.1 some_left in (
      Leads (taken l),
      takes l.held b.0,
      b.1,
      b.3,
      (λ m e. subst (λ (x : Lead). (now : Content)
          × (let a : At = (Leads (taken l), (l.held, b.0) ∷ me.1) in let z : At = (Leads (taken x), (x.held, now) ∷ me.1) in a ≡ z)
          × Became (laid_at x.laid 0) now)
          (same_lead l m (sym is ∙ e)) (b.0, refl, b.2)),
    )

-- ---- seats are split and joined

total_snoc : (f : View → ℕ) (views : List View) (v : View) → total f (views ++ v ∷ []) ≡ total f views + f v
total_snoc f [] v = omega arith
total_snoc f (x ∷ views) v = let s = total_snoc f views v in omega (arith, s)

module _ (task : Task) (l : Lead) (word : ℕ) (homes : Slots) (views : List View) (r : Runs task l word homes views)
    (none_held : l.held ≡ 0) (some_left : l.made < task.slots) where
  abbrev fresh : Worker
  fresh = worker_of l

  abbrev before : List View
  before = set views 0 (Leads (with_made l))

  split_at : (id : ℕ) (w : Worker) → get_elem? (before ++ Works fresh ∷ []) id ≡ some (Works w)
      → (get_elem? views id ≡ some (Works w)) ⊎ (fresh ≡ w)
  split_at id w at = ⊎_elim
      (λ a. ⊎_elim (λ t. let e = ap tag t.1 in absurd (omega (arith, e))) (λ t. inl t.1) (at_set views 0 id (Leads (with_made l)) (Works w) a))
      (λ e. inr (same_worker fresh w e))
      (at_snoc before (Works fresh) (Works w) id at)

  pub splits : Runs task (with_made l) word homes (before ++ Works fresh ∷ [])
  splits = record {
    leads = at_longer before (Works fresh ∷ []) 0 (Leads (with_made l)) (set_here views 0 (Leads (with_made l)) (at_within views 0 (Leads l) r.leads));
    one = λ id other at. ⊎_elim
        (λ a. ⊎_elim (λ t. t.0) (λ t. r.one id other t.1) (at_set views 0 id (Leads (with_made l)) (Leads other) a))
        (λ e. let z = ap tag e in absurd (omega (arith, z)))
        (at_snoc before (Works fresh) (Leads other) id at);
    task_is = r.task_is;
    live = let a = total_snoc live_of before (Works fresh) in let b = total_set live_of views 0 (Leads l) (Leads (with_made l)) r.leads in
        omega (arith, a, b, r.live);
    made = omega (arith, some_left);
    room = r.room;
    low = r.low;
    high = let a = total_snoc past_of before (Works fresh) in let b = total_set past_of views 0 (Leads l) (Leads (with_made l)) r.leads in
        omega (arith, a, b, r.high);
    alone = λ lt. none_held;
    most = r.most;
    agree = λ id w at. ⊎_elim
        (λ a. let g = r.agree id w a in record { task_is = g.task_is; first = g.first; laid = g.laid; past = g.past; within = g.within; drawn = g.drawn })
        (λ e. subst (Agrees task (with_made l) word) e
        (record { task_is = r.task_is; first = refl; laid = refl; past = omega arith; within = omega arith; drawn = omega (arith, r.low) }))
        (split_at id w at);
    apart = λ i j a b at_i at_j some_hand same. ⊎_elim
        (λ x. ⊎_elim (λ y. r.apart i j a b x y some_hand same)
        (λ e. let z = ap (λ (w : Worker). w.hand) e in absurd (some_hand (same ∙ sym z)))
        (split_at j b at_j))
        (λ e. let z = ap (λ (w : Worker). w.hand) e in absurd (some_hand (sym z)))
        (split_at i a at_i);
    home = λ slot from lt free. r.home slot from lt (λ id w at same.
        let far : id ≢ 0 = λ e. not_lead w l (sym at ∙ (ap (λ (i : ℕ). get_elem? views i) e ∙ r.leads)) in
        free id w (at_longer before (Works fresh ∷ []) id (Works w) (set_else views 0 id (Leads (with_made l)) far ∙ at)) same);
  }

pub can_split : (task : Task) (id : ℕ) (v : View) (l : Lead) → v ≡ Leads l → l.held ≡ 0 → l.made < task.slots
    → Splits (IsOrderly task) id v (split_left v) (split_right v)
can_split task id v l is none_held some_left s h at =
    let f = is_first task h.lead (slice_index s.words 0) s.homes s.views h.runs id l (at ∙ ap some is) in
    let runs : Runs task l (slice_index s.words 0) s.homes s.views = subst (λ (m : Lead). Runs task m (slice_index s.words 0) s.homes s.views) (sym f.1) h.runs in
    subst (λ (x : View). IsOrderly task (record { words = s.words; homes = s.homes; views = set s.views id (split_left x) ++ split_right x ∷ [] })) (sym is)
    (subst (λ (i : ℕ). IsOrderly task (record { words = s.words; homes = s.homes; views = set s.views i (Leads (with_made l)) ++ Works (worker_of l) ∷ [] })) (sym f.0)
    (record { lead = with_made l; words = h.words; runs = splits task l (slice_index s.words 0) s.homes s.views runs none_held some_left }))

module _ (task : Task) (l : Lead) (word : ℕ) (homes : Slots) (views : List View) (r : Runs task l word homes views)
    (other : ℕ) (w : Worker) (no_hand : w.hand ≡ 0) (at : get_elem? (set views 0 (Leads (with_ended l))) other ≡ some (Works w)) where
  abbrev middle : List View
  middle = set views 0 (Leads (with_ended l))

  abbrev joined_views : List View
  joined_views = set middle other Spent

  old_at : get_elem? views other ≡ some (Works w)
  old_at = ⊎_elim (λ t. let e = ap tag t.1 in absurd (omega (arith, e))) (λ t. t.1) (at_set views 0 other (Leads (with_ended l)) (Works w) at)

  far : other ≢ 0
  far e = not_lead w l (sym old_at ∙ (ap (λ (i : ℕ). get_elem? views i) e ∙ r.leads))

  join_at : (id : ℕ) (u : Worker) → get_elem? joined_views id ≡ some (Works u) → get_elem? views id ≡ some (Works u)
  join_at id u here = ⊎_elim (λ t. let e = ap tag t.1 in absurd (omega (arith, e)))
      (λ t. ⊎_elim (λ q. let e = ap tag q.1 in absurd (omega (arith, e))) (λ q. q.1) (at_set views 0 id (Leads (with_ended l)) (Works u) t.1))
      (at_set middle other id Spent (Works u) here)

  pub joins : Runs task (with_ended l) word homes joined_views
  joins =
      let live1 = total_set live_of views 0 (Leads l) (Leads (with_ended l)) r.leads in
      let live2 = total_set live_of middle other (Works w) Spent at in
      let past1 = total_set past_of views 0 (Leads l) (Leads (with_ended l)) r.leads in
      let past2 = total_set past_of middle other (Works w) Spent at in
      let few = (r.agree other w old_at).past in record {
        leads = set_else middle other 0 Spent (λ e. far (sym e)) ∙ set_here views 0 (Leads (with_ended l)) (at_within views 0 (Leads l) r.leads);
        one = λ id m here. ⊎_elim (λ t. let e = ap tag t.1 in absurd (omega (arith, e)))
            (λ t. ⊎_elim (λ q. q.0) (λ q. r.one id m q.1) (at_set views 0 id (Leads (with_ended l)) (Leads m) t.1))
            (at_set middle other id Spent (Leads m) here);
        task_is = r.task_is;
        live = omega (arith, live1, live2, r.live);
        made = r.made;
        room = r.room;
        low = r.low;
        high = omega (arith, past1, past2, few, r.high);
        alone = λ lt. r.alone (omega (arith, lt));
        most = r.most;
        agree = λ id u here. let g = r.agree id u (join_at id u here) in
            record { task_is = g.task_is; first = g.first; laid = g.laid; past = g.past; within = g.within; drawn = g.drawn };
        apart = λ i j a b at_i at_j some_hand same. r.apart i j a b (join_at i a at_i) (join_at j b at_j) some_hand same;
        home = λ slot from lt free. r.home slot from lt (λ id u here same.
            dite (ℕ_discrete id other)
            (λ e. let is = same_worker w u (some-injective (Works w) (Works u) (sym old_at ∙ (ap (λ (j : ℕ). get_elem? views j) (sym e) ∙ here))) in
            let z = ap (λ (x : Worker). x.hand) is in absurd (omega (arith, z, same, no_hand)))
            (λ ne. let not_first : id ≢ 0 = λ e. not_lead u l (sym here ∙ (ap (λ (i : ℕ). get_elem? views i) e ∙ r.leads)) in
            free id u (set_else middle other id Spent ne ∙ (set_else views 0 id (Leads (with_ended l)) not_first ∙ here)) same));
      }

pub can_join : (task : Task) (id other : ℕ) (v x : View) (l : Lead) (w : Worker) → v ≡ Leads l → x ≡ Works w → w.hand ≡ 0
    → Joins (IsOrderly task) id v other x (joined v x) Spent
can_join task id other v x l w is is_other no_hand s h at ne at_other =
    let f = is_first task h.lead (slice_index s.words 0) s.homes s.views h.runs id l (at ∙ ap some is) in
    let runs : Runs task l (slice_index s.words 0) s.homes s.views = subst (λ (m : Lead). Runs task m (slice_index s.words 0) s.homes s.views) (sym f.1) h.runs in
    let both_is : joined v x ≡ Leads (with_ended l) = ap (λ (y : View). joined y x) is in
    let moved : set s.views id (joined v x) ≡ set s.views 0 (Leads (with_ended l)) =
    ap (λ (i : ℕ). set s.views i (joined v x)) f.0 ∙ ap (λ (y : View). set s.views 0 y) both_is in
    let at_w : get_elem? (set s.views 0 (Leads (with_ended l))) other ≡ some (Works w) =
    ap (λ (xs : List View). get_elem? xs other) (sym moved) ∙ (at_other ∙ ap some is_other) in
    subst (λ (xs : List View). IsOrderly task (record { words = s.words; homes = s.homes; views = set xs other Spent })) (sym moved)
    (record { lead = with_ended l; words = h.words; runs = joins task l (slice_index s.words 0) s.homes s.views runs other w no_hand at_w })
