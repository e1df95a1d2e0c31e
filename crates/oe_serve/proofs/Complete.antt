-- Connections that are served while nothing fails.
use Rattle.std.proofs.Common.{◌≡◌, ℕ, Bool, List, Option, sym, ap, subst, inl, inr}
use Rattle.oe_engine.specs.Results.{IsVisible}
use Rattle.oe_outside.proofs.Causes.{then-Rose}
use Rattle.oe_outside.specs.Faults.{Rose}
use Rattle.oe_outside.specs.Visible.{Appends}
use Rattle.oe_jobs.specs.Plain.{PlainBook}
use Rattle.oe_routes.specs.Actions.{PlainAction}
use Rattle.oe_routes.specs.Scenes.{PlainScene}
use Rattle.oe_service.specs.Causes.{Outside}
use Rattle.oe_check.specs.Checked.{CheckedGraph}
use Rattle.oe_window.specs.declared.grid.ChunkSize.{ChunkSize}
use Rattle.oe_serve.specs.Answers.{Answer, IsAnswer, IsAnswerTo, SendsAnswer, bytes_of, change, no_result, out_of_memory, reply, result, status_of, store_fault, unreadable}
use Rattle.oe_serve.specs.Laws.{IsOfGraph, IsOfRequest, IsWholeAnswer, NoneRose, ServingIsComplete}
use Rattle.oe_serve.specs.Links.{Came, IsCame, LinkOf, SendsReply, broken, request, unread}
use Rattle.oe_serve.specs.Results.{ResultRefused, SendsResult}
use Rattle.oe_serve.specs.Serves.{Ends, IsAnswered, ReadsRequest, scene_at}
use Rattle.oe_serve.specs.declared.refusal.ResultRefusal.{ResultRefusal}
use Rattle.oe_serve.specs.declared.refusal.ResultRefusal.TheVariants as refusals
use Rattle.oe_serve.specs.declared.served.Served.{Served}
use Rattle.oe_serve.specs.declared.served.Served.TheVariants.{Answered, Cut, LinkFailed}

module _ (before after : Outside) (link link_after : LinkOf) (shown : IsVisible before.spool)
    (none : NoneRose before after link link_after) where
  -- what was written behind what was read is written behind what stood there
  written_by : (between : LinkOf) (bytes : List ℕ) → ReadsRequest link between
      → Appends between.written bytes link_after.written → Appends link.written bytes link_after.written
  written_by between bytes reads appends =
      subst (λ (w : Option (List ℕ)). Appends w bytes link_after.written) reads.written appends

  unbroken : {A : Type 0} (between : LinkOf) → ReadsRequest link between → Rose between.faults link_after.faults → A
  unbroken between reads rose = absurd (none.connection (then-Rose reads.count rose))

  reply_whole : (status : ℕ) (bytes : List ℕ) (between : LinkOf) (served : Served) → ReadsRequest link between
      → SendsReply status bytes between link_after served
      → (served ≡ Answered status) × Appends link.written bytes link_after.written
  reply_whole status bytes between (Answered answered) reads sends =
      (ap Answered sends.sends.0, written_by between bytes reads sends.sends.1)
  reply_whole status bytes between Cut reads sends = absurd sends.sends
  reply_whole status bytes between LinkFailed reads sends = unbroken between reads sends.sends.0

  result_whole : (c : CheckedGraph) (count : ℕ) (text : List ℕ) (between : LinkOf) (served : Served)
      → ReadsRequest link between → SendsResult c before after count text between link_after served
      → (served ≡ Answered 200) × Appends link.written (bytes_of (result c count text)) link_after.written
  result_whole c count text between (Answered answered) reads sends =
      (ap Answered sends.sends.0, written_by between (bytes_of (result c count text)) reads sends.sends.1)
  result_whole c count text between Cut reads sends =
      elim sends.sends.0 [
        | inl rose ↦ absurd (none.spool rose)
        | inr hidden ↦ absurd (subst IsVisible hidden shown)
      ]
  result_whole c count text between LinkFailed reads sends = unbroken between reads sends.sends.0

  answer_whole : (a : Answer) (between : LinkOf) (served : Served) → ReadsRequest link between
      → SendsAnswer before after a between link_after served
      → (served ≡ Answered (status_of a)) × Appends link.written (bytes_of a) link_after.written
  answer_whole (unreadable broken_rule) between served reads sends = reply_whole _ _ between served reads sends
  answer_whole (reply response) between served reads sends = reply_whole _ _ between served reads sends
  answer_whole (change made response) between served reads sends = reply_whole _ _ between served reads sends
  answer_whole (store_fault made) between served reads sends = reply_whole _ _ between served reads sends
  answer_whole (result c count text) between served reads sends = result_whole c count text between served reads sends
  answer_whole (no_result c refusal) between served reads sends = reply_whole _ _ between served reads sends
  answer_whole out_of_memory between served reads sends = reply_whole _ _ between served reads sends

  module _ (size : ChunkSize) (workers : ℕ) (book : PlainBook) (has_failed : Bool) where
    of_graph : (c : CheckedGraph) (refusal : ResultRefusal) → ResultRefused c size workers before after refusal
        → IsOfGraph refusal
    of_graph c (refusals.PlanTooLarge cells) why = tt
    of_graph c refusals.ReadFault why = absurd (none.collections c why.1)
    of_graph c (refusals.SourceDamaged load number) why = tt
    of_graph c refusals.SpoolFault why = absurd (none.spool why.1)
    of_graph c (refusals.NumberOverflow number) why = tt
    of_graph c (refusals.SpoolDamaged number) why = absurd (subst IsVisible why.1.hidden shown)

    of_action : (action : PlainAction) (a : Answer) → IsAnswerTo size workers book before after has_failed action a
        → IsOfRequest a
    of_action action (unreadable broken_rule) is = tt
    of_action action (reply response) is = tt
    of_action action (change made response) is = tt
    of_action action (store_fault made) is = absurd (none.keeper is.1.rose)
    of_action action (result c count text) is = tt
    of_action action (no_result c refusal) is = of_graph c refusal is.1
    of_action action out_of_memory is = tt

    of_request : (s : PlainScene) (came : Came) (a : Answer)
        → IsAnswer size workers book before after has_failed s came a → IsOfRequest a
    of_request s (request r) a (inl (action, asks, is)) = of_action action a is
    of_request s (request r) a (inr is) = subst IsOfRequest (sym is) tt
    of_request s (unread refusal) a (inl is) = subst IsOfRequest (sym is.answer_is) tt
    of_request s (unread refusal) a (inr is) = subst IsOfRequest (sym is) tt
    of_request s broken a is = absurd is

pub serving_is_complete : ServingIsComplete
serving_is_complete server now s s_after before after link link_after has_failed e comes served serves shown none =
    by serves.came serves.came_is serves.ends
  where
    answered : (came : Came) → IsCame link.left came
        → IsAnswered server now s s_after before after link link_after has_failed came e comes served
        → IsWholeAnswer server now s before after link link_after has_failed served
    answered came came_is is =
        let whole = answer_whole before after link link_after shown none is.answer is.between served is.reads is.sends in record {
          came = came;
          came_is = came_is;
          answer = is.answer;
          is_answer = is.is_answer;
          of_request = of_request before after link link_after shown none server.size server.workers s.book has_failed
              (scene_at server before s.book now) came is.answer is.is_answer;
          served_is = whole.0;
          written = whole.1;
        }

    by : (came : Came) → IsCame link.left came
        → Ends server now s s_after before after link link_after has_failed came e comes served
        → IsWholeAnswer server now s before after link link_after has_failed served
    by (request r) came_is is = answered (request r) came_is is
    by (unread refusal) came_is is = answered (unread refusal) came_is is
    by broken came_is is = absurd (none.connection is.silent.rose)
