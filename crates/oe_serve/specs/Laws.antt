-- What holds of every connection that is served.
use Rattle.std.specs.Prelude.{◌≡◌, ⊤, ℤ, Bool}
use Rattle.oe_engine.specs.Results.{IsVisible}
use Rattle.oe_steps.specs.Collections.{LoadRose}
use Rattle.oe_outside.specs.Faults.{Rose}
use Rattle.oe_outside.specs.Visible.{Appends}
use Rattle.oe_service.specs.Causes.{Outside}
use Rattle.oe_service.specs.States.{Event, State}
use Rattle.oe_check.specs.Checked.{CheckedGraph}
use Rattle.oe_serve.specs.Answers.{Answer, IsAnswer, bytes_of, change, no_result, out_of_memory, reply, result, status_of, store_fault, unreadable}
use Rattle.oe_serve.specs.Links.{Came, IsCame, LinkOf}
use Rattle.oe_serve.specs.Serves.{Serves, ServerOf, scene_at}
use Rattle.oe_serve.specs.declared.refusal.ResultRefusal.{ResultRefusal}
use Rattle.oe_serve.specs.declared.refusal.ResultRefusal.TheVariants as refusals
use Rattle.oe_serve.specs.declared.served.Served.{Served}
use Rattle.oe_serve.specs.declared.served.Served.TheVariants.{Answered}

-- ---- where nothing fails

-- no fault counter rose: of the connection, the spool, the keeper and the collections
pub record NoneRose (before after : Outside) (link link_after : LinkOf) : Type 0 where
  pub connection : ¬ Rose link.faults link_after.faults
  pub spool : ¬ Rose before.spool_faults after.spool_faults
  pub keeper : ¬ Rose before.keeper_faults after.keeper_faults
  pub collections : (c : CheckedGraph) → ¬ LoadRose c before.rows after.rows

-- a run has no result by no fault of the outside: by what its graph means, or by a position that is damaged
abbrev pub IsOfGraph : ResultRefusal → Type 0
IsOfGraph (refusals.PlanTooLarge cells) = ⊤
IsOfGraph refusals.ReadFault = ⊥
IsOfGraph (refusals.SourceDamaged load number) = ⊤
IsOfGraph refusals.SpoolFault = ⊥
IsOfGraph (refusals.NumberOverflow number) = ⊤
IsOfGraph (refusals.SpoolDamaged number) = ⊥

-- an answer is by no fault of the outside
abbrev pub IsOfRequest : Answer → Type 0
IsOfRequest (unreadable broken_rule) = ⊤
IsOfRequest (reply response) = ⊤
IsOfRequest (change made response) = ⊤
IsOfRequest (store_fault made) = ⊥
IsOfRequest (result c count text) = ⊤
IsOfRequest (no_result c refusal) = IsOfGraph refusal
IsOfRequest out_of_memory = ⊤

-- what came has this answer, by no fault of the outside, and its whole reply was written
pub record IsWholeAnswer (server : ServerOf) (now : ℤ) (s : State) (before after : Outside) (link link_after : LinkOf)
    (has_failed : Bool) (served : Served) : Type 0 where
  pub came : Came
  pub came_is : IsCame link.left came
  pub answer : Answer
  pub is_answer : IsAnswer server.size server.workers s.book before after has_failed (scene_at server before s.book now)
      came answer
  pub of_request : IsOfRequest answer
  pub served_is : served ≡ Answered (status_of answer)
  pub written : Appends link.written (bytes_of answer) link_after.written

-- A connection that is served while no fault counter rises, over a spool whose bytes are visible, is answered whole
-- with the reply that the definitions give, with that of a result's damaged position, or with that of out of memory.
abbrev pub ServingIsComplete : Type 0
ServingIsComplete =
    (server : ServerOf) (now : ℤ) (s s_after : State) (before after : Outside) (link link_after : LinkOf)
    (has_failed : Bool) (e : Event) (comes : Bool) (served : Served)
    → Serves server now s s_after before after link link_after has_failed e comes served
    → IsVisible before.spool → NoneRose before after link link_after
    → IsWholeAnswer server now s before after link link_after has_failed served
