-- What the seats of a run's table know, and the rule that the table keeps.
use Rattle.std.specs.Prelude.{◌≡◌, ◌≢◌, drop, ◌+◌, ◌-◌, ◌<◌, ◌≤◌, ◌^◌, ◌⊎◌, ⊤, ℕ, zero, suc, List, [], ◌∷◌, get_or, length, map, slice_index, slice_get, Option, Some, None, IfSome}
use mathlib.Core.Option.{some}
use mathlib.Core.Option as maybe
use lib.ListN.{get_elem?}
use Rattle.atomic_table.specs.Table.{State, Me}
use Rattle.atomic_table.specs.Seated.{TableId}
use Rattle.oe_plan.specs.Plans.{PlanOf}
use Rattle.oe_engine.specs.Benches.{BenchOf, IsBenchFor, IsEvaluated}
use Rattle.oe_engine.specs.declared.table.Hand.{Hand}
use Rattle.oe_engine.specs.declared.table.Lent.{Lent}
use Rattle.oe_engine.specs.declared.table.Task.{Task}
use Rattle.oe_engine.specs.declared.table.Lead.{Lead}
use Rattle.oe_engine.specs.declared.table.Worker.{Worker}
use Rattle.oe_engine.specs.declared.table.View.{View}
use Rattle.oe_engine.specs.declared.table.View.TheVariants.{Leads, Works, Spent}

-- ---- what slots hold

-- a bench with its plan, or nothing
abbrev pub Content : Type 0
Content = Option Lent

-- a bench is evaluated by its plan, which stays
pub record IsEvaluatedByPlan (before after : Lent) : Type 0 where
  pub plan : after.plan.value ≡ before.plan.value
  pub bench : IsEvaluated before.plan.value before.bench after.bench

-- a slot holds what was laid into it, or that bench evaluated
abbrev pub Became : Content → Content → Type 0
Became laid now = (laid ≡ now)
    ⊎ ((before : Lent) × (after : Lent) × (laid ≡ Some before) × (now ≡ Some after) × IsEvaluatedByPlan before after)

-- what was laid into a slot
abbrev pub laid_at : List Content → ℕ → Content
laid_at laid slot = get_or laid slot None

-- ---- what is counted over views

-- one for a worker whose seat is not joined yet
abbrev pub live_of : View → ℕ
live_of (Leads lead) = 0
live_of (Works worker) = 1
live_of Spent = 0

-- one for a worker that drew a number past the slots
abbrev pub past_of : View → ℕ
past_of (Leads lead) = 0
past_of (Works worker) = worker.past
past_of Spent = 0

-- added up over all views
abbrev pub total : (View → ℕ) → List View → ℕ
total f [] = 0
total f (v ∷ views) = f v + total f views

-- ---- the rule

-- a worker knows what the coordinator knows, and what it has in hand was drawn
pub record Agrees (task : Task) (lead : Lead) (word : ℕ) (worker : Worker) : Type 0 where
  pub task_is : worker.task ≡ task
  pub first : worker.first ≡ lead.first
  pub laid : worker.laid ≡ lead.laid
  pub past : worker.past ≤ 1
  pub within : worker.hand ≤ task.slots
  pub drawn : lead.first + worker.hand ≤ word

-- no worker has this slot in hand
abbrev pub IsFree : List View → ℕ → Type 0
IsFree views slot = (id : ℕ) (worker : Worker) → get_elem? views id ≡ some (Works worker) → worker.hand ≢ suc slot

-- a slot is at home, with what was laid into it or that bench evaluated; the coordinator's list of what was laid is that
-- of the slots from the first on that it does not hold
abbrev pub IsHome : Lead → List (maybe.Option Content) → ℕ → Type 0
IsHome lead homes slot =
    (now : Content) × (get_elem? homes slot ≡ some (some now)) × Became (laid_at lead.laid (slot - lead.held)) now

-- The word is the number that is drawn next, counted from the first chunk of the round. Each worker draws one number
-- past the slots at most, so that the word stays in its range. A slot is held by the coordinator, in hand of one worker,
-- or at home.
pub record Runs (task : Task) (lead : Lead) (word : ℕ) (homes : List (maybe.Option Content)) (views : List View) : Type 0 where
  pub leads : get_elem? views 0 ≡ some (Leads lead)
  pub one : (id : ℕ) (other : Lead) → get_elem? views id ≡ some (Leads other) → id ≡ 0
  pub task_is : lead.task ≡ task
  pub live : total live_of views + lead.ended ≡ lead.made
  pub made : lead.made ≤ task.slots
  pub room : lead.first + task.slots + task.slots + 1 < 2 ^ 64
  pub low : lead.first ≤ word
  pub high : word ≤ lead.first + task.slots + lead.ended + total past_of views
  pub alone : lead.ended < lead.made → lead.held ≡ 0
  pub most : lead.held ≤ task.slots
  pub agree : (id : ℕ) (worker : Worker) → get_elem? views id ≡ some (Works worker) → Agrees task lead word worker
  pub apart : (i j : ℕ) (a b : Worker) → get_elem? views i ≡ some (Works a) → get_elem? views j ≡ some (Works b)
      → a.hand ≢ 0 → a.hand ≡ b.hand → i ≡ j
  pub home : (slot : ℕ) → lead.held ≤ slot → slot < task.slots → IsFree views slot → IsHome lead homes slot

-- the rule: of some coordinator, with the one word of the table
pub record IsOrderly (task : Task) (s : State Content View) : Type 0 where
  pub lead : Lead
  pub words : s.words ≡ slice_index s.words 0 ∷ []
  pub runs : Runs task lead (slice_index s.words 0) s.homes s.views

-- the view at the start
abbrev pub first_lead : Task → Lead
first_lead task = record { task = task; first = 0; made = 0; ended = 0; held = 0; laid = [] }

-- ---- a worker at the table

-- what a seat knows, and the slots that it has
abbrev pub At : Type 0
At = Me Content View

abbrev pub with_hand : Worker → ℕ → Worker
with_hand w hand = record { task = w.task; first = w.first; hand = hand; past = w.past; laid = w.laid }

abbrev pub with_past : Worker → Worker
with_past w = record { task = w.task; first = w.first; hand = w.hand; past = 1; laid = w.laid }

-- after a draw it has the slot drawn, with what was laid into it or that bench evaluated, or it is past
pub record HasDrawn (w : Worker) (found : ℕ) (me : At) : Type 0 where
  pub low : w.first ≤ found
  pub drawn : found < w.first + w.task.slots → (now : Content)
      × (me ≡ (Works (with_hand w (suc (found - w.first))), (found - w.first, now) ∷ []))
      × Became (laid_at w.laid (found - w.first)) now
  pub past : w.first + w.task.slots ≤ found → me ≡ (Works (with_past w), [])

abbrev pub draws : At → ℕ → At → Type 0
draws me found after = (w : Worker) → me ≡ (Works w, []) → HasDrawn w found after

-- after it put a bench back it has none
abbrev pub puts : At → ℕ → At → Type 0
puts me found after = (w : Worker) → me.0 ≡ Works w → after ≡ (Works (with_hand w 0), [])

-- a worker with nothing in hand, past the slots or not
abbrev pub spare : Task → ℕ → List Content → ℕ → At
spare task first laid past = (Works (record { task = task; first = first; hand = 0; past = past; laid = laid }), [])

-- what was laid into the slots, as the seat knows it
abbrev pub laid_by : View → List Content
laid_by (Leads lead) = lead.laid
laid_by (Works worker) = worker.laid
laid_by Spent = []

-- a worker that has drawn nothing
abbrev pub IsIdle : Task → ℕ → At → Type 0
IsIdle task first me = me ≡ spare task first (laid_by me.0) 0

-- a worker with the bench of a slot in hand
pub record HasSlot (task : Task) (slot : ℕ) (me : At) : Type 0 where
  pub worker : Worker
  pub now : Content
  pub is : me ≡ (Works worker, (slot, now) ∷ [])
  pub hand : worker.hand ≡ suc slot
  pub task_is : worker.task ≡ task
  pub fits : Became (laid_at worker.laid slot) now

-- a bench is lent for a plan
pub record IsLentFor (p : PlanOf) (lent : Lent) : Type 0 where
  pub plan : lent.plan.value ≡ p
  pub bench : IsBenchFor p lent.bench

-- all benches that were laid are lent for the plan
abbrev pub AreFor : PlanOf → List Content → Type 0
AreFor p laid = (slot : ℕ) → IfSome (laid_at laid slot) (IsLentFor p)

-- what was taken is evaluated, if it is a bench
abbrev pub IsFinished : PlanOf → Content → Content → Type 0
IsFinished p None now = now ≡ None
IsFinished p (Some before) now =
    (after : Lent) × (now ≡ Some after) × (after.plan.value ≡ before.plan.value) × IsEvaluated p before.bench after.bench

-- ---- the coordinator

abbrev pub started : Lead → ℕ → Lead
started l first = record { task = l.task; first = first; made = 0; ended = 0; held = l.held; laid = [] }

abbrev pub given : Lead → ℕ → Content → Lead
given l slot bench = record { task = l.task; first = l.first; made = l.made; ended = l.ended; held = slot; laid = bench ∷ l.laid }

abbrev pub taken : Lead → Lead
taken l = record { task = l.task; first = l.first; made = l.made; ended = l.ended; held = suc l.held; laid = drop 1 l.laid }

abbrev pub with_made : Lead → Lead
with_made l = record { task = l.task; first = l.first; made = suc l.made; ended = l.ended; held = l.held; laid = l.laid }

abbrev pub with_ended : Lead → Lead
with_ended l = record { task = l.task; first = l.first; made = l.made; ended = suc l.ended; held = l.held; laid = l.laid }

abbrev pub worker_of : Lead → Worker
worker_of l = record { task = l.task; first = l.first; hand = 0; past = 0; laid = l.laid }

-- what splitting and joining make of views
abbrev pub split_left : View → View
split_left (Leads l) = Leads (with_made l)
split_left (Works w) = Works w
split_left Spent = Spent

abbrev pub split_right : View → View
split_right (Leads l) = Works (worker_of l)
split_right (Works w) = Spent
split_right Spent = Spent

abbrev pub joined : View → View → View
joined (Leads l) other = Leads (with_ended l)
joined (Works w) other = Works w
joined Spent other = Spent

-- what its steps tell it
abbrev pub starts : At → ℕ → At → Type 0
starts me stored after = (l : Lead) → me.0 ≡ Leads l → after ≡ (Leads (started l stored), me.1)

abbrev pub gives_up : At → ℕ → At → Type 0
gives_up me found after = (l : Lead) (slot : ℕ) (bench : Content) (others : List (ℕ × Content))
    → me ≡ (Leads l, (slot, bench) ∷ others) → after ≡ (Leads (given l slot bench), others)

abbrev pub takes_back : At → ℕ → At → Type 0
takes_back me found after = (l : Lead) → me.0 ≡ Leads l → (now : Content)
    × (after ≡ (Leads (taken l), (l.held, now) ∷ me.1)) × Became (laid_at l.laid 0) now

-- ---- the coordinator at the table

-- the numbers below one, the greatest first
abbrev pub numbers_below : ℕ → List ℕ
numbers_below zero = []
numbers_below (suc n) = n ∷ numbers_below n

-- these are the slots below a number, the greatest first
abbrev pub IsStack : ℕ → List (ℕ × Content) → Type 0
IsStack held slots = map (λ (slot : ℕ × Content). slot.0) slots ≡ numbers_below held

-- In the round of a first chunk the coordinator has made so many workers, of which so many have ended. It holds the
-- slots below a number, and knows what it laid into the others.
pub record Stands (task : Task) (first made ended held : ℕ) (laid : List Content) (me : At) : Type 0 where
  pub slots : List (ℕ × Content)
  pub is : me ≡ (Leads (record { task = task; first = first; made = made; ended = ended; held = held; laid = laid }), slots)
  pub stack : IsStack held slots

-- where it has made so many workers and holds no slot, and none of them has ended, all have afterwards
abbrev pub EndsAll : Task → ℕ → At → At → Type 0
EndsAll task count before after = (first : ℕ) (laid : List Content)
    → Stands task first count 0 0 laid before → Stands task first count count 0 laid after

-- between two rounds it holds all slots, and nobody works
pub record IsReady (task : Task) (me : At) : Type 0 where
  pub first : ℕ
  pub made : ℕ
  pub laid : List Content
  pub stands : Stands task first made made task.slots laid me

-- the slots that it holds are those below a number, of which this is the greatest, and nobody works
pub record HasTop (task : Task) (slot : ℕ) (me : At) : Type 0 where
  pub lead : Lead
  pub now : Content
  pub others : List (ℕ × Content)
  pub is : me ≡ (Leads lead, (slot, now) ∷ others)
  pub held : lead.held ≡ suc slot
  pub calm : lead.ended ≡ lead.made

-- it holds so many slots, and nobody works
pub record HoldsSome (task : Task) (held : ℕ) (me : At) : Type 0 where
  pub lead : Lead
  pub is : me.0 ≡ Leads lead
  pub held_is : lead.held ≡ held
  pub calm : lead.ended ≡ lead.made
  pub task_is : lead.task ≡ task

-- it holds none
pub record HoldsNone (task : Task) (made ended : ℕ) (me : At) : Type 0 where
  pub lead : Lead
  pub is : me ≡ (Leads lead, [])
  pub held : lead.held ≡ 0
  pub made_is : lead.made ≡ made
  pub ended_is : lead.ended ≡ ended
  pub task_is : lead.task ≡ task

-- ---- the workers of a round

-- a seat of this table that has drawn nothing, where all benches laid are for the plan
pub record MayWork (task : Task) (table : TableId) (p : PlanOf) (first : ℕ) (hand : Hand) : Type 0 where
  pub table_is : hand.seat.table_id ≡ table
  pub idle : IsIdle task first hand.seat.me
  pub benches : AreFor p (laid_by hand.seat.me.0)

-- a seat of this table, of a worker that has drawn nothing, where this was laid
pub record IsSpareAt (task : Task) (table : TableId) (first : ℕ) (laid : List Content) (hand : Hand) : Type 0 where
  pub table_is : hand.seat.table_id ≡ table
  pub spare_is : hand.seat.me ≡ spare task first laid 0

-- a seat that has nothing in hand any more
pub record HasWorked (task : Task) (first : ℕ) (before after : Hand) : Type 0 where
  pub table_is : after.seat.table_id ≡ before.seat.table_id
  pub past : ℕ
  pub spare_is : after.seat.me ≡ spare task first (laid_by before.seat.me.0) past

-- a seat of this table that has nothing in hand
pub record HasNothing (table : TableId) (hand : Hand) : Type 0 where
  pub table_is : hand.seat.table_id ≡ table
  pub worker : Worker
  pub is : hand.seat.me ≡ (Works worker, [])
  pub empty : worker.hand ≡ 0

-- ---- the benches of a round

-- these benches were laid into the slots, each lent for the plan
abbrev pub AreLaid : PlanOf → List BenchOf → List Content → Type 0
AreLaid p [] laid = laid ≡ []
AreLaid p (b ∷ benches) [] = ⊥
AreLaid p (b ∷ benches) (None ∷ laid) = ⊥
AreLaid p (b ∷ benches) (Some lent ∷ laid) = (lent.bench ≡ b) × (lent.plan.value ≡ p) × AreLaid p benches laid

-- into each slot a bench was laid, lent for the plan
abbrev pub AreFull : PlanOf → ℕ → List Content → Type 0
AreFull p slots laid = (slot : ℕ) → slot < slots
    → (lent : Lent) × (laid_at laid slot ≡ Some lent) × IsLentFor p lent

-- each bench is what an evaluation makes of the one that was laid into its slot
abbrev pub AreEvaluated : PlanOf → List Content → List BenchOf → Type 0
AreEvaluated p laid benches = (slot : ℕ) (after : BenchOf) → slice_get benches slot ≡ Some after
    → (before : Lent) × (laid_at laid slot ≡ Some before) × IsEvaluated p before.bench after

-- whatever was laid into all slots when all workers had ended, these are those benches, each evaluated
abbrev pub AreTakenBack : PlanOf → Task → ℕ → At → List BenchOf → Type 0
AreTakenBack p task slots me benches = (first made : ℕ) (laid : List Content)
    → Stands task first made made 0 laid me → AreFull p slots laid → AreEvaluated p laid benches

-- each bench is what an evaluation makes of the one in its place before
abbrev pub AreEvaluations : PlanOf → List BenchOf → List BenchOf → Type 0
AreEvaluations p olds news = (i : ℕ) (before after : BenchOf) → slice_get olds i ≡ Some before → slice_get news i ≡ Some after
    → IsEvaluated p before after
