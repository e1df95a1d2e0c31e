-- What a request asks for, as what a service does.
use Rattle.std.proofs.Common.{◌≡◌, ℕ, ℤ, Bool, true, false, List, [], Option, Some, None, Result, Ok, Err, refl, sym, ap, subst, inl, inr}
use Rattle.std.specs.Prelude.{IfSome}
use Rattle.oe_engine.proofs.LawLemmas.{stay_after_reads}
use Rattle.oe_engine.specs.Runs.{RunOf}
use Rattle.oe_http.specs.Replies.{PlainResponse, reply_bytes}
use Rattle.oe_http.specs.Laws.{json_reply}
use Rattle.oe_jobs.specs.Changes.{changed}
use Rattle.oe_jobs.specs.Kept.{Kept}
use Rattle.oe_jobs.specs.Plain.{PlainChange, PlainCommand, plain_book}
use Rattle.oe_jobs.specs.Verdicts as verdicts
use Rattle.oe_jobs.specs.declared.keeper.KeeperFail.{KeeperFail}
use Rattle.oe_jobs.specs.declared.keeper.KeeperFail.TheVariants as fail
use Rattle.oe_outside.proofs.Causes.{NeverFalls-refl}
use Rattle.oe_replies.specs.Answers.{refused_reply}
use Rattle.oe_replies.specs.declared.code.ReplyCode.TheVariants as code
use Rattle.oe_routes.specs.Actions.{PlainAction, commit, estimate, send_asset}
use Rattle.oe_routes.specs.declared.action.EstimateGraph.{EstimateGraph}
use Rattle.oe_service.specs.Calls.{CommitsOne, GoesByEvent, IsKept, Obeys, is_done}
use Rattle.oe_service.specs.Causes.{Outside, outside}
use Rattle.oe_service.specs.GoesOn.{GoesOn, HasSizesOf, IsService, state_of}
use Rattle.oe_service.specs.States.{Event, Setting, command, no_command}
use Rattle.oe_service.specs.declared.service.Service.{Service}
use Rattle.oe_sources.specs.Catalogue.{Row}
use Rattle.oe_window.specs.declared.grid.ChunkSize.{ChunkSize}
use Rattle.oe_serve.specs.Answers.{IsEventOf, IsReplyOf, SendsEstimate, change, estimate_text, out_of_memory, reply, store_fault}
use Rattle.oe_serve.specs.Links.{LinkOf, SendsReply}
use Rattle.oe_serve.specs.Serves.{Acts, KeepsService}
use Rattle.oe_serve.specs.declared.served.Served.{Served}
use Rattle.oe_serve.proofs.Acts.{itself, none_begun, stays}

-- ---- the run

-- a run that is under way afterwards is the one from before
going_on : (run run_after : Option RunOf) → IfSome run_after (λ (_ : RunOf). run_after ≡ run) → (rows : List Row)
    (store : Option (List ℕ)) → GoesOn run rows store → GoesOn run_after rows store
going_on run None same rows store going = tt
going_on run (Some r) same rows store going = subst (λ (o : Option RunOf). GoesOn o rows store) (sym same) going

module _ (s : Service) (rows : List Row) (store : Option (List ℕ)) (faults : ℕ) (kept : Option Kept) (keeper_faults : ℕ)
    (link link_after : LinkOf) (has_failed : Bool) (served : Served) where
  abbrev now : Outside
  now = outside rows store faults kept keeper_faults

  -- ---- a reply, with which nothing changes

  pub acts_reply : (action : PlainAction) (response : PlainResponse) → IsService s → IsKept kept (plain_book s.book)
      → GoesOn s.run rows store → IsReplyOf s.size s.workers action response
      → SendsReply response.status (reply_bytes response) link link_after served
      → Acts action s s now now link link_after has_failed served
  acts_reply action response is is_kept going reply_is sends = record {
    answer = reply response;
    is_answer = reply_is;
    sends = sends;
    goes = λ at e is_event. stays _ e true (state_of s) kept is_event;
    idle = λ nothing. refl;
    keeps = record {
      service = is;
      sizes = record { size = refl; workers = refl };
      is_kept = is_kept;
      run = itself s.run;
      going = going;
      read = stay_after_reads.none rows;
      visible = λ shown. shown;
      spool_count = NeverFalls-refl faults;
      keeper_count = NeverFalls-refl keeper_faults;
    };
  }

  -- nothing changes with that of out of memory either
  pub acts_without_memory : (action : PlainAction) → IsService s → IsKept kept (plain_book s.book) → GoesOn s.run rows store
      → SendsReply 503 (reply_bytes (refused_reply code.OutOfMemory [])) link link_after served
      → Acts action s s now now link link_after has_failed served
  acts_without_memory action is is_kept going sends = record {
    answer = out_of_memory;
    is_answer = tt;
    sends = sends;
    goes = λ at e is_event. stays _ e false (state_of s) kept is_event;
    idle = λ nothing. refl;
    keeps = record {
      service = is;
      sizes = record { size = refl; workers = refl };
      is_kept = is_kept;
      run = itself s.run;
      going = going;
      read = stay_after_reads.none rows;
      visible = λ shown. shown;
      spool_count = NeverFalls-refl faults;
      keeper_count = NeverFalls-refl keeper_faults;
    };
  }

  -- an estimate, or that of out of memory
  pub acts_estimate : (sizes : ChunkSize × ℕ) (graphs given : List EstimateGraph) → IsService s
      → IsKept kept (plain_book s.book) → GoesOn s.run rows store → sizes ≡ (s.size, s.workers) → given ≡ graphs
      → SendsEstimate sizes.0 sizes.1 given link link_after served
      → Acts (estimate graphs) s s now now link link_after has_failed served
  acts_estimate sizes graphs given is is_kept going same same_graphs sends =
      by (subst (λ (gs : List EstimateGraph). SendsEstimate s.size s.workers gs link link_after served) same_graphs
      (subst (λ (p : ChunkSize × ℕ). SendsEstimate p.0 p.1 given link link_after served) same sends))
    where
      by : SendsEstimate s.size s.workers graphs link link_after served
          → Acts (estimate graphs) s s now now link link_after has_failed served
      by (inl sends) =
          acts_reply (estimate graphs) (json_reply 200 (estimate_text s.size s.workers graphs)) is is_kept going refl sends
      by (inr sends) = acts_without_memory (estimate graphs) is is_kept going sends

  -- ---- a change, committed or not

  module _ (made : PlainChange) (s_after : Service) (kept_after : Option Kept) (keeper_faults_after : ℕ) (response : PlainResponse)
      (r : Result (Unit {0}) KeeperFail) (is : IsService s_after) (sizes : HasSizesOf s s_after)
      (is_kept : IsKept kept_after (plain_book s_after.book))
      (goes : (setting : Setting) (user : List ℕ) (asked : PlainCommand) (at : ℤ)
      → changed (plain_book s.book) made ≡ verdicts.next (plain_book s.book) user asked at
      → GoesByEvent setting (command user asked at) (is_done r) (state_of s) (state_of s_after) kept kept_after)
      (obeys : Obeys (changed (plain_book s.book) made) (state_of s) (state_of s_after) kept kept_after keeper_faults
      keeper_faults_after has_failed r)
      (run : IfSome s_after.run (λ (_ : RunOf). s_after.run ≡ s.run)) (going : GoesOn s.run rows store) where
    abbrev later : Outside
    later = outside rows store faults kept_after keeper_faults_after

    keeps : KeepsService s s_after now later
    keeps = record {
      service = is;
      sizes = sizes;
      is_kept = is_kept;
      run = run;
      going = going_on s.run s_after.run run rows store going;
      read = stay_after_reads.none rows;
      visible = λ shown. shown;
      spool_count = NeverFalls-refl faults;
      keeper_count = obeys.count;
    }

    -- the event is the command whose change it is
    goes_as : (comes : Bool) → is_done r ≡ comes → (setting : Setting) (at : ℤ) (e : Event)
        → IsEventOf (plain_book s.book) at (store_fault made) e
        → GoesByEvent setting e comes (state_of s) (state_of s_after) kept kept_after
    goes_as comes done setting at e (m, is) =
        subst (λ (b : Bool). GoesByEvent setting e b (state_of s) (state_of s_after) kept kept_after) done
        (subst (λ (x : Event). GoesByEvent setting x (is_done r) (state_of s) (state_of s_after) kept kept_after) (sym is)
        (goes setting m.user m.asked at m.made_is))

    pub acts_done : r ≡ Ok tt → SendsReply response.status (reply_bytes response) link link_after served
        → Acts (commit made response) s s_after now later link link_after has_failed served
    acts_done ok sends = record {
      answer = change made response;
      is_answer = refl;
      sends = sends;
      goes = λ at e is_event. goes_as true (ap is_done ok) _ at e is_event;
      idle = λ nothing. absurd nothing;
      keeps = keeps;
    }

    pub acts_failed : r ≡ Err fail.Failed
        → SendsReply 500 (reply_bytes (refused_reply code.StoreFault [])) link link_after served
        → Acts (commit made response) s s_after now later link link_after has_failed served
    acts_failed err sends = record {
      answer = store_fault made;
      is_answer = ((response, refl), obeys.failed err);
      sends = sends;
      goes = λ at e is_event. goes_as false (ap is_done err) _ at e is_event;
      idle = λ nothing. absurd nothing;
      keeps = keeps;
    }

    unmade : r ≡ Err fail.OutOfMemory → (setting : Setting) (e : Event) → e ≡ no_command
        → GoesByEvent setting e false (state_of s) (state_of s_after) kept kept_after
    unmade err setting e is =
        let none : GoesByEvent setting no_command false (state_of s) (state_of s_after) kept kept_after =
        record {
          state = rw err at obeys.state;
          commits = subst (λ (k : Option Kept). CommitsOne kept (plain_book s.book) k) (sym (obeys.unbegun err))
              (none_begun kept (plain_book s.book));
        } in
        subst (λ (x : Event). GoesByEvent setting x false (state_of s) (state_of s_after) kept kept_after) (sym is) none

    pub acts_unmade : r ≡ Err fail.OutOfMemory
        → SendsReply 503 (reply_bytes (refused_reply code.OutOfMemory [])) link link_after served
        → Acts (commit made response) s s_after now later link link_after has_failed served
    acts_unmade err sends = record {
      answer = out_of_memory;
      is_answer = tt;
      sends = sends;
      goes = λ at e is. unmade err _ e is;
      idle = λ nothing. obeys.unbegun err;
      keeps = keeps;
    }

-- ---- the text of an asset

-- the reply with it
pub reply_of_text : (size : ChunkSize) (workers : ℕ) (o : Option (List ℕ)) (text : List ℕ) → o ≡ Some text
    → IsReplyOf size workers (send_asset o) (json_reply 200 text)
reply_of_text size workers o text is =
    subst (λ (x : Option (List ℕ)). IsReplyOf size workers (send_asset x) (json_reply 200 text)) (sym is) refl
