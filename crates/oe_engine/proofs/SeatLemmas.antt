-- What each step of the coordinator makes of where it stands.
use Rattle.std.proofs.Common.{◌≡◌, ℕ, zero, suc, ◌+◌, ◌-◌, ◌<◌, ◌≤◌, List, [], ◌∷◌, ◌++◌, length, get_or, map, drop, sym, refl, ap, ◌∙◌, subst, ⊎_elim, length-append, append_assoc, append-nil, arith, Option, Some, None, IfSome}
use Rattle.std.specs.Prelude.{slice_get}
use Rattle.std.specs.List.{All}
use Rattle.std.proofs.lemmas.List.Elements.{All-weaker}
use Rattle.atomic_table.specs.Seated.{TableId}
use Rattle.oe_plan.specs.Plans.{PlanOf}
use Rattle.oe_engine.specs.Benches.{BenchOf, IsBenchFor, IsEvaluated}
use Rattle.oe_engine.specs.Views.{AreEvaluated, AreEvaluations, AreFor, AreFull, AreLaid, At, Became, Content, HasNothing, HasTop, HasWorked, HoldsNone, HoldsSome, IsFinished, IsLentFor, IsReady, IsSpareAt, IsStack, MayWork, Stands, given, laid_at, laid_by, numbers_below, spare, started, taken, with_ended, with_made, worker_of}
use Rattle.oe_engine.specs.declared.table.Hand.{Hand}
use Rattle.oe_engine.specs.declared.table.Lent.{Lent}
use Rattle.oe_engine.specs.declared.table.Task.{Task}
use Rattle.oe_engine.specs.declared.table.Lead.{Lead}
use Rattle.oe_engine.specs.declared.table.Worker.{Worker}
use Rattle.oe_engine.specs.declared.table.View.TheVariants.{Leads, Works}
use Rattle.oe_engine.proofs.RuleLemmas.{no_content, same_content, twice}

-- ---- the slots that it holds

no_stack : (slots : List (ℕ × Content)) → IsStack 0 slots → slots ≡ []
no_stack [] e = refl
no_stack (x ∷ slots) e = let z = ap length e in absurd (omega (arith, z))

record IsOnTop (held : ℕ) (slots : List (ℕ × Content)) : Type 0 where
  now : Content
  others : List (ℕ × Content)
  is : slots ≡ (held, now) ∷ others
  below : IsStack held others

on_top : (held : ℕ) (slots : List (ℕ × Content)) → IsStack (suc held) slots → IsOnTop held slots
on_top held [] e = let z = ap length e in absurd (omega (arith, z))
on_top held (x ∷ slots) e = record {
  now = x.1;
  others = slots;
  is = ap (λ (n : ℕ). (n, x.1) ∷ slots) (ap (λ (l : List ℕ). get_or l 0 0) e);
  below = ap (λ (l : List ℕ). drop 1 l) e;
}

-- ---- its steps

module _ (task : Task) where
  abbrev pub lead_at : ℕ → ℕ → ℕ → ℕ → List Content → Lead
  lead_at first made ended held laid =
      record { task = task; first = first; made = made; ended = ended; held = held; laid = laid }

  pub holds_some : (first made held : ℕ) (laid : List Content) (me : At) → Stands task first made made held laid me → HoldsSome task held me
  holds_some first made held laid me s = record {
    lead = lead_at first made made held laid;
    is = ap (λ (m : At). m.0) s.is;
    held_is = refl;
    calm = refl;
    task_is = refl;
  }

  pub ready_holds : (me : At) → IsReady task me → HoldsSome task task.slots me
  ready_holds me r = holds_some r.first r.made task.slots r.laid me r.stands

  pub stands_started : (me after : At) (first : ℕ) → IsReady task me
      → ((l : Lead) → me.0 ≡ Leads l → after ≡ (let a : At = (Leads (started l first), me.1) in a))
      → Stands task first 0 0 task.slots [] after
  stands_started me after first r told =
      let s = r.stands in record {
        slots = s.slots;
        is = told (lead_at r.first r.made r.made task.slots r.laid) (ap (λ (m : At). m.0) s.is)
            ∙ ap (λ (m : At). let a : At = (Leads (lead_at first 0 0 task.slots []), m.1) in a) s.is;
        stack = s.stack;
      }

  pub has_top : (first made slot : ℕ) (laid : List Content) (me : At) → Stands task first made made (suc slot) laid me → HasTop task slot me
  has_top first made slot laid me s =
      let top = on_top slot s.slots s.stack in record {
        lead = lead_at first made made (suc slot) laid;
        now = top.now;
        others = top.others;
        is = s.is ∙ ap (λ (l : List (ℕ × Content)). let a : At = (Leads (lead_at first made made (suc slot) laid), l) in a) top.is;
        held = refl;
        calm = refl;
      }

  pub stands_given : (first made slot : ℕ) (laid : List Content) (bench : Content) (me after : At)
      → Stands task first made made (suc slot) laid me
      → ((l : Lead) (now : Content) (others : List (ℕ × Content)) → me ≡ (let a : At = (Leads l, (slot, now) ∷ others) in a)
      → after ≡ (let a : At = (Leads (given l slot bench), others) in a))
      → Stands task first made made slot (bench ∷ laid) after
  stands_given first made slot laid bench me after s told =
      let top = on_top slot s.slots s.stack in record {
        slots = top.others;
        is = told (lead_at first made made (suc slot) laid) top.now top.others
            (s.is ∙ ap (λ (l : List (ℕ × Content)). let a : At = (Leads (lead_at first made made (suc slot) laid), l) in a) top.is);
        stack = top.below;
      }

  abbrev Taken : ℕ → At → At → Content → Type 0
  Taken slot me after now = (l : Lead) → me.0 ≡ Leads l → (empty : Content)
      × (after ≡ (let a : At = (Leads (taken l), (slot, empty) ∷ me.1) in a)) × Became (laid_at l.laid 0) now

  pub stands_taken : (first made slot : ℕ) (laid : List Content) (me after : At) (now : Content)
      → Stands task first made made slot laid me → Taken slot me after now → Stands task first made made (suc slot) (drop 1 laid) after
  stands_taken first made slot laid me after now s told =
      let t = told (lead_at first made made slot laid) (ap (λ (m : At). m.0) s.is) in record {
        slots = (slot, t.0) ∷ me.1;
        is = t.1;
        stack = ap (λ (m : At). slot ∷ map (λ (x : ℕ × Content). x.0) m.1) s.is ∙ ap (λ (l : List ℕ). slot ∷ l) s.stack;
      }

  pub became_taken : (first made slot : ℕ) (laid : List Content) (me after : At) (now : Content)
      → Stands task first made made slot laid me → Taken slot me after now → Became (laid_at laid 0) now
  became_taken first made slot laid me after now s told = (told (lead_at first made made slot laid) (ap (λ (m : At). m.0) s.is)).2

  pub with_none : (first made ended : ℕ) (laid : List Content) (me : At) → Stands task first made ended 0 laid me
      → me ≡ (let a : At = (Leads (lead_at first made ended 0 laid), []) in a)
  with_none first made ended laid me s =
      s.is ∙ ap (λ (l : List (ℕ × Content)). let a : At = (Leads (lead_at first made ended 0 laid), l) in a) (no_stack s.slots s.stack)

  pub holds_none : (first made ended : ℕ) (laid : List Content) (me : At) → Stands task first made ended 0 laid me
      → HoldsNone task made ended me
  holds_none first made ended laid me s = record {
    lead = lead_at first made ended 0 laid;
    is = with_none first made ended laid me s;
    held = refl;
    made_is = refl;
    ended_is = refl;
    task_is = refl;
  }

  pub stands_split : (first made ended : ℕ) (laid : List Content) (me after : At) → Stands task first made ended 0 laid me
      → ((l : Lead) → me ≡ (let a : At = (Leads l, []) in a) → after ≡ (let a : At = (Leads (with_made l), []) in a))
      → Stands task first (suc made) ended 0 laid after
  stands_split first made ended laid me after s told = record {
    slots = [];
    is = told (lead_at first made ended 0 laid) (with_none first made ended laid me s);
    stack = refl;
  }

  pub spare_split : (first made ended : ℕ) (laid : List Content) (me seat : At) → Stands task first made ended 0 laid me
      → ((l : Lead) → me ≡ (let a : At = (Leads l, []) in a) → seat ≡ (let a : At = (Works (worker_of l), []) in a))
      → seat ≡ spare task first laid 0
  spare_split first made ended laid me seat s told = told (lead_at first made ended 0 laid) (with_none first made ended laid me s)

  pub stands_joined : (first made ended : ℕ) (laid : List Content) (me after : At) → Stands task first made ended 0 laid me
      → ((l : Lead) → me ≡ (let a : At = (Leads l, []) in a) → after ≡ (let a : At = (Leads (with_ended l), []) in a))
      → Stands task first made (suc ended) 0 laid after
  stands_joined first made ended laid me after s told = record {
    slots = [];
    is = told (lead_at first made ended 0 laid) (with_none first made ended laid me s);
    stack = refl;
  }

-- ---- what was laid

none_at : (slot : ℕ) (laid : List Content) → laid ≡ [] → laid_at laid slot ≡ None
none_at slot laid e = ap (λ (l : List Content). laid_at l slot) e

pub are_for : (p : PlanOf) (benches : List BenchOf) (laid : List Content) → AreLaid p benches laid → All (IsBenchFor p) benches → AreFor p laid
are_for p [] laid h each slot = subst (λ (o : Content). IfSome o (IsLentFor p)) (sym (none_at slot laid h)) tt
are_for p (b ∷ benches) [] h each slot = absurd h
are_for p (b ∷ benches) (None ∷ laid) h each slot = absurd h
are_for p (b ∷ benches) (Some lent ∷ laid) h each zero =
    record { plan = h.1; bench = subst (IsBenchFor p) (sym h.0) (each 0 b (omega arith)) }
are_for p (b ∷ benches) (Some lent ∷ laid) h each (suc slot) =
    are_for p benches laid h.2 (λ k d lt. each (suc k) d (omega (arith, lt))) slot

pub are_full : (p : PlanOf) (benches : List BenchOf) (laid : List Content) (slots : ℕ) → slots ≡ length benches → AreLaid p benches laid
    → All (IsBenchFor p) benches → AreFull p slots laid
are_full p [] laid slots many h each slot lt = absurd (omega (arith, many, lt))
are_full p (b ∷ benches) [] slots many h each slot lt = absurd h
are_full p (b ∷ benches) (None ∷ laid) slots many h each slot lt = absurd h
are_full p (b ∷ benches) (Some lent ∷ laid) slots many h each zero lt =
    (lent, refl, record { plan = h.1; bench = subst (IsBenchFor p) (sym h.0) (each 0 b (omega arith)) })
are_full p (b ∷ benches) (Some lent ∷ laid) slots many h each (suc slot) lt =
    are_full p benches laid (length benches) refl h.2 (λ k d less. each (suc k) d (omega (arith, less))) slot (omega (arith, many, lt))

abbrev bench_or : BenchOf → Option BenchOf → BenchOf
bench_or d None = d
bench_or d (Some b) = b

abbrev some_bench : Option BenchOf → ℕ
some_bench None = 0
some_bench (Some b) = 1

pub no_bench : (b : BenchOf) → None ≡ Some b → ⊥
no_bench b e = let z = ap some_bench e in absurd (omega (arith, z))

same_bench : (x b : BenchOf) → Some x ≡ Some b → x ≡ b
same_bench x b e = ap (bench_or x) e

laid_bench : (p : PlanOf) (benches : List BenchOf) (laid : List Content) (slot : ℕ) (b : BenchOf) → AreLaid p benches laid
    → slice_get benches slot ≡ Some b → (lent : Lent) × (laid_at laid slot ≡ Some lent) × (lent.bench ≡ b)
laid_bench p [] laid slot b h at = absurd (no_bench b at)
laid_bench p (x ∷ benches) [] slot b h at = absurd h
laid_bench p (x ∷ benches) (None ∷ laid) slot b h at = absurd h
laid_bench p (x ∷ benches) (Some lent ∷ laid) zero b h at = (lent, refl, h.0 ∙ same_bench x b at)
laid_bench p (x ∷ benches) (Some lent ∷ laid) (suc slot) b h at = laid_bench p benches laid slot b h.2 at

pub are_evaluations : (p : PlanOf) (olds news : List BenchOf) (laid : List Content) → AreLaid p olds laid → AreEvaluated p laid news
    → AreEvaluations p olds news
are_evaluations p olds news laid h e i before after at_old at_new =
    let was = laid_bench p olds laid i before h at_old in
    let now = e i after at_new in
    let same : was.0 ≡ now.0 = same_content was.0 now.0 (sym was.1 ∙ now.1) in
    subst (λ (b : BenchOf). IsEvaluated p b after) (ap (λ (l : Lent). l.bench) (sym same) ∙ was.2) now.2

-- ---- the benches that come back

pub first_of : (slot : ℕ) (laid : List Content) → laid_at (drop slot laid) 0 ≡ laid_at laid slot
first_of zero laid = refl
first_of (suc slot) [] = refl
first_of (suc slot) (x ∷ laid) = first_of slot laid

pub one_less : (slot : ℕ) (laid : List Content) → drop 1 (drop slot laid) ≡ drop (suc slot) laid
one_less zero laid = refl
one_less (suc slot) [] = refl
one_less (suc slot) (x ∷ laid) = one_less slot laid

-- ---- while benches are laid

-- of all benches those left are still to be laid, and the coordinator holds a slot for each
pub record IsLaying (p : PlanOf) (task : Task) (first : ℕ) (all left : List BenchOf) (me : At) : Type 0 where
  pub done : List BenchOf
  pub laid : List Content
  pub all_are : left ++ done ≡ all
  pub are_laid : AreLaid p done laid
  pub stands : Stands task first 0 0 (length left) laid me

pub laying_none : (p : PlanOf) (task : Task) (first : ℕ) (all : List BenchOf) (me : At) → length all ≡ task.slots
    → Stands task first 0 0 task.slots [] me → IsLaying p task first all all me
laying_none p task first all me many s = record {
  done = [];
  laid = [];
  all_are = append-nil all;
  are_laid = refl;
  stands = subst (λ (n : ℕ). Stands task first 0 0 n [] me) (sym many) s;
}

module _ (p : PlanOf) (task : Task) (first : ℕ) (all left rest : List BenchOf) (b : BenchOf) (me : At) (l : IsLaying p task first all left me)
    (popped : left ≡ rest ++ b ∷ []) (slot : ℕ) (slot_is : slot ≡ length rest) where
  one_more : length left ≡ suc slot
  one_more = ap length popped ∙ (length-append rest (b ∷ []) ∙ (let e = slot_is in omega (arith, e)))

  stands_here : Stands task first 0 0 (suc slot) l.laid me
  stands_here = subst (λ (n : ℕ). Stands task first 0 0 n l.laid me) one_more l.stands

  pub laying_top : HasTop task slot me
  laying_top = has_top task first 0 slot l.laid me stands_here

  pub laying_more : (lent : Lent) (after : At) → lent.bench ≡ b → lent.plan.value ≡ p
      → ((l : Lead) (now : Content) (others : List (ℕ × Content)) → me ≡ (let a : At = (Leads l, (slot, now) ∷ others) in a)
      → after ≡ (let a : At = (Leads (given l slot (Some lent)), others) in a))
      → IsLaying p task first all rest after
  laying_more lent after bench_is plan_is told = record {
    done = b ∷ l.done;
    laid = Some lent ∷ l.laid;
    all_are = sym (append_assoc rest (b ∷ []) l.done) ∙ (ap (λ (bs : List BenchOf). bs ++ l.done) (sym popped) ∙ l.all_are);
    are_laid = (bench_is, plan_is, l.are_laid);
    stands = subst (λ (n : ℕ). Stands task first 0 0 n (Some lent ∷ l.laid) after) slot_is
        (stands_given task first 0 slot l.laid (Some lent) me after stands_here told);
  }

none_left : (benches : List BenchOf) → length benches ≡ 0 → benches ≡ []
none_left [] e = refl
none_left (b ∷ benches) e = absurd (omega (arith, e))

pub laying_all : (p : PlanOf) (task : Task) (first : ℕ) (all left : List BenchOf) (me : At) → IsLaying p task first all left me → length left ≡ 0
    → (laid : List Content) × AreLaid p all laid × Stands task first 0 0 0 laid me
laying_all p task first all left me l e = (
  l.laid,
  subst (λ (bs : List BenchOf). AreLaid p bs l.laid)
      (ap (λ (bs : List BenchOf). bs ++ l.done) (sym (none_left left e)) ∙ l.all_are) l.are_laid,
  subst (λ (n : ℕ). Stands task first 0 0 n l.laid me) e l.stands,
)

-- ---- while benches are taken back

pub evaluated_none : (p : PlanOf) (laid : List Content) → AreEvaluated p laid []
evaluated_none p laid slot after at = absurd (no_bench after at)

pub evaluated_more : (p : PlanOf) (laid : List Content) (benches : List BenchOf) (before : Lent) (after : BenchOf)
    → AreEvaluated p laid benches → laid_at laid (length benches) ≡ Some before → IsEvaluated p before.bench after
    → AreEvaluated p laid (benches ++ after ∷ [])
evaluated_more p laid [] before after e at is zero b here =
    (before, at, subst (IsEvaluated p before.bench) (same_bench after b here) is)
evaluated_more p laid [] before after e at is (suc slot) b here = absurd (no_bench b here)
evaluated_more p laid (x ∷ benches) before after e at is zero b here = e 0 b here
evaluated_more p laid (x ∷ benches) before after e at is (suc slot) b here =
    let f = evaluated_more p (drop 1 laid) benches before after
    (λ k c there. let t = e (suc k) c there in (t.0, next laid k ∙ t.1, t.2)) (next laid (length benches) ∙ at) is slot b here in
    (f.0, sym (next laid slot) ∙ f.1, f.2)
  where
    next : (laid : List Content) (k : ℕ) → laid_at (drop 1 laid) k ≡ laid_at laid (suc k)
    next [] k = refl
    next (y ∷ ys) k = refl

-- what comes back from a slot into which a bench was laid, and is evaluated once more, is that bench evaluated
pub record IsBack (p : PlanOf) (laid : Content) (now : Content) : Type 0 where
  pub before : Lent
  pub after : Lent
  pub laid_is : laid ≡ Some before
  pub now_is : now ≡ Some after
  pub evaluated : IsEvaluated p before.bench after.bench

pub comes_back : (p : PlanOf) (laid taken now : Content) (before : Lent) → laid ≡ Some before → IsLentFor p before → Became laid taken
    → IsFinished p taken now → IsBack p laid now
comes_back p laid None now before is lent b f =
    ⊎_elim (λ e. absurd (no_content before (sym e ∙ is))) (λ t. absurd (no_content t.1 t.3)) b
comes_back p laid (Some x) now before is lent b f =
    ⊎_elim (λ e. record { before = x; after = f.0; laid_is = e; now_is = f.1; evaluated = f.3 })
    (λ t. let same : before ≡ t.0 = same_content before t.0 (sym is ∙ t.2) in
    let once : IsEvaluated p t.0.bench t.1.bench =
    subst (λ (q : PlanOf). IsEvaluated q t.0.bench t.1.bench) (ap (λ (y : Lent). y.plan.value) (sym same) ∙ lent.plan) t.4.bench in
    let again : IsEvaluated p t.1.bench f.0.bench =
    subst (λ (y : Lent). IsEvaluated p y.bench f.0.bench) (same_content x t.1 t.3) f.3 in
    record {
      before = t.0;
      after = f.0;
      laid_is = t.2;
      now_is = f.1;
      evaluated = twice p t.0.bench t.1.bench f.0.bench once again;
    })
    b

-- ---- the seats of workers

pub may_work : (task : Task) (table : TableId) (p : PlanOf) (first : ℕ) (laid : List Content) (hands : List Hand) → AreFor p laid
    → All (IsSpareAt task table first laid) hands → All (MayWork task table p first) hands
may_work task table p first laid hands for_plan spares =
    All-weaker (IsSpareAt task table first laid) (MayWork task table p first)
    (λ hand s. let same : laid_by hand.seat.me.0 ≡ laid = ap (λ (m : At). laid_by m.0) s.spare_is in
    record {
      table_is = s.table_is;
      idle = s.spare_is ∙ ap (λ (l : List Content). spare task first l 0) (sym same);
      benches = subst (AreFor p) (sym same) for_plan;
    })
    hands spares

pub have_nothing : (task : Task) (table : TableId) (first : ℕ) (laid : List Content) (olds news : List Hand) → length news ≡ length olds
    → All (IsSpareAt task table first laid) olds
    → ((i : ℕ) (d : Hand) → i < length olds → HasWorked task first (get_or olds i d) (get_or news i d)) → All (HasNothing table) news
have_nothing task table first laid olds news many spares worked k d lt =
    let within : k < length olds = omega (arith, many, lt) in
    let w = worked k d within in record {
      table_is = w.table_is ∙ (spares k d within).table_is;
      worker = record { task = task; first = first; hand = 0; past = w.past; laid = laid_by (get_or olds k d).seat.me.0 };
      is = w.spare_is;
      empty = refl;
    }
