-- How one connection is served.
use Rattle.std.proofs.Common.{◌≡◌, ◌≢◌, ℕ, ℤ, Bool, true, false, List, [], Some, refl, sym, ◌∙◌, subst, inl, inr}
use Rattle.std.specs.Prelude.{IfSome, MatchOption}
use Rattle.oe_engine.proofs.LawLemmas.{stay_after_reads}
use Rattle.oe_http.specs.Plain.{PlainRequest}
use Rattle.oe_http.specs.Requests.{IsOfBytes, IsRequestOf, Refuses}
use Rattle.oe_http.specs.declared.request.RequestRefusal.{RequestRefusal}
use Rattle.oe_http.specs.declared.request.RequestRefusal.TheVariants as requests
use Rattle.oe_http.specs.Replies.{PlainResponse}
use Rattle.oe_jobs.specs.Plain.{PlainBook, PlainChange, plain_book, plain_change}
use Rattle.oe_outside.proofs.Causes.{NeverFalls-refl, NeverFalls-trans}
use Rattle.oe_outside.specs.Faults.{NeverFalls, Rose}
use Rattle.oe_replies.specs.declared.code.ReplyCode.{ReplyCode}
use Rattle.oe_routes.specs.Actions.{MakesChange, commit, plain_action}
use Rattle.oe_routes.specs.Codes.{code_of_refusal}
use Rattle.oe_routes.specs.declared.action.Action.{Action}
use Rattle.oe_routes.specs.declared.action.Action.TheVariants as actions
use Rattle.oe_routes.specs.declared.site.Site.{Site}
use Rattle.oe_service.specs.Calls.{IsKept}
use Rattle.oe_service.specs.Causes.{Outside}
use Rattle.oe_service.specs.GoesOn.{GoesOn, IsService, state_of}
use Rattle.oe_service.specs.States.{Event, command, no_command}
use Rattle.oe_service.specs.declared.service.Service.{Service}
use Rattle.oe_window.specs.declared.grid.ChunkSize.{ChunkSize}
use Rattle.oe_serve.specs.Answers.{Answer, AsksAction, ChangesNothing, DecidesChange, IsAnswer, IsAnswerTo, IsEventOf, SendsAnswer, bytes_of, change, is_event, no_result, out_of_memory, reply, result, store_fault, unreadable}
use Rattle.oe_serve.specs.Links.{Came, IsCame, LinkOf, SendsCode, SendsReply, broken, request, unread}
use Rattle.oe_serve.specs.Serves.{Acts, Ends, IsAnswered, ReadsRequest, ServerOf, ServesService, scene_at, server_of}
use Rattle.oe_serve.specs.declared.served.Served.{Served}
use Rattle.oe_serve.specs.declared.served.Served.TheVariants.{Answered, LinkFailed}
use Rattle.oe_serve.proofs.Acts.{itself, stays}

-- ---- the event of an answer

-- what an action commits is what a command makes
decided_of : (book : PlainBook) (now : ℤ) (action : Action) (made : PlainChange) (response : PlainResponse)
    → plain_action book action ≡ commit made response → DecidesChange book now action → MakesChange book now made
decided_of book now (actions.Answer given) made response is decides = absurd cc
decided_of book now (actions.Commit own given) made response is decides =
    let same : plain_change own ≡ made = cc in subst (MakesChange book now) same decides
decided_of book now (actions.RunNow checked) made response is decides = absurd cc
decided_of book now (actions.SendAsset job asset) made response is decides = absurd cc
decided_of book now (actions.Estimate graphs) made response is decides = absurd cc

module _ (size : ChunkSize) (workers : ℕ) (book : PlainBook) (before after : Outside) (has_failed : Bool) (now : ℤ)
    (action : Action) (decides : DecidesChange book now action) where
  pub event_for : (a : Answer) → IsAnswerTo size workers book before after has_failed (plain_action book action) a
      → (e : Event) × IsEventOf book now a e
  event_for (unreadable broken_rule) is = (no_command, refl)
  event_for (reply response) is = (no_command, refl)
  event_for (change made response) is =
      let m = decided_of book now action made response is decides in (command m.user m.asked now, (m, refl))
  event_for (store_fault made) is =
      let m = decided_of book now action made is.0.0 is.0.1 decides in (command m.user m.asked now, (m, refl))
  event_for (result c count text) is = (no_command, refl)
  event_for (no_result c refusal) is = (no_command, refl)
  event_for out_of_memory is = (no_command, refl)

-- where no command came, nothing was to change
nothing_of : (book : PlainBook) (now : ℤ) (a : Answer) (e : Event) → IsEventOf book now a e → e ≡ no_command → ChangesNothing a
nothing_of book now (unreadable broken_rule) e is none = tt
nothing_of book now (reply response) e is none = tt
nothing_of book now (change made response) e is none =
    let clash : command is.0.user is.0.asked now ≡ no_command = sym is.1 ∙ none in absurd cc
nothing_of book now (store_fault made) e is none =
    let clash : command is.0.user is.0.asked now ≡ no_command = sym is.1 ∙ none in absurd cc
nothing_of book now (result c count text) e is none = tt
nothing_of book now (no_result c refusal) e is none = tt
nothing_of book now out_of_memory e is none = tt

-- ---- what went out

module _ (before after : Outside) (between link_after : LinkOf) (served : Served) where
  count_of : (a : Answer) → SendsAnswer before after a between link_after served
      → NeverFalls between.faults link_after.faults
  count_of (unreadable broken_rule) sends = sends.count
  count_of (reply response) sends = sends.count
  count_of (change made response) sends = sends.count
  count_of (store_fault made) sends = sends.count
  count_of (result c count text) sends = sends.count
  count_of (no_result c refusal) sends = sends.count
  count_of out_of_memory sends = sends.count

-- a reply that was written whole has its status
status_sent : (status : ℕ) (bytes : List ℕ) (between link_after : LinkOf) (served : Served)
    → SendsReply status bytes between link_after served → (answered : ℕ) → served ≡ Answered answered → answered ≡ status
status_sent status bytes between link_after served sends answered is =
    let sent = subst (λ (x : Served). SendsReply status bytes between link_after x) is sends in sent.sends.0

-- what is answered with any other status than these came about
came_about : (before after : Outside) (between link_after : LinkOf) (served : Served) (a : Answer)
    → SendsAnswer before after a between link_after served → (status : ℕ) → served ≡ Answered status → status ≢ 500
    → status ≢ 503 → is_event a ≡ true
came_about before after between link_after served (unreadable broken_rule) sends status is not500 not503 = refl
came_about before after between link_after served (reply response) sends status is not500 not503 = refl
came_about before after between link_after served (change made response) sends status is not500 not503 = refl
came_about before after between link_after served (store_fault made) sends status is not500 not503 =
    absurd (not500 (status_sent _ _ between link_after served sends status is))
came_about before after between link_after served (result c count text) sends status is not500 not503 = refl
came_about before after between link_after served (no_result c refusal) sends status is not500 not503 = refl
came_about before after between link_after served out_of_memory sends status is not500 not503 =
    absurd (not503 (status_sent _ _ between link_after served sends status is))

-- ---- a request for which something is done

module _ (site : Site) (now : ℤ) (s s_after : Service) (before after : Outside) (link between link_after : LinkOf)
    (has_failed : Bool) (served : Served) (reads : ReadsRequest link between) where
  abbrev server : ServerOf
  server = server_of site s.size s.workers

  pub served_action : (r : PlainRequest) → IfSome link.left (λ bytes. IsRequestOf bytes r) → (action : Action)
      → AsksAction (scene_at server before (plain_book s.book) now) r action → DecidesChange (plain_book s.book) now action
      → Acts (plain_action (plain_book s.book) action) s s_after before after between link_after has_failed served
      → ServesService server now s s_after before after link link_after has_failed served
  served_action r is action asks decides acts =
      let by = event_for s.size s.workers (plain_book s.book) before after has_failed now action decides acts.answer acts.is_answer in
      record {
        event = by.0;
        comes = is_event acts.answer;
        serves = record {
          came = request r;
          came_is = is;
          ends = record {
            between = between;
            reads = reads;
            answer = acts.answer;
            is_answer = inl (plain_action (plain_book s.book) action, asks, acts.is_answer);
            sends = acts.sends;
            event_is = by.1;
            comes_is = refl;
          };
          goes = acts.goes now by.0 by.1;
          kept = acts.keeps.is_kept;
          idle = λ none. acts.idle (nothing_of (plain_book s.book) now acts.answer by.0 by.1 none);
          acknowledged = came_about before after between link_after served acts.answer acts.sends;
          link_count = NeverFalls-trans reads.count (count_of before after between link_after served acts.answer acts.sends);
          spool_count = acts.keeps.spool_count;
          keeper_count = acts.keeps.keeper_count;
        };
        keeps = acts.keeps;
      }

-- ---- an answer with which nothing is done

module _ (site : Site) (now : ℤ) (s : Service) (before : Outside) (link between link_after : LinkOf) (has_failed : Bool)
    (served : Served) (is : IsService s) (is_kept : IsKept before.kept (plain_book s.book))
    (going : GoesOn s.run before.rows before.spool) where
  abbrev at : ServerOf
  at = server_of site s.size s.workers

  serves_still : (came : Came) → IsCame link.left came → (comes : Bool)
      → Ends at now (state_of s) (state_of s) before before link link_after has_failed came no_command comes served
      → ((status : ℕ) → served ≡ Answered status → status ≢ 500 → status ≢ 503 → comes ≡ true)
      → NeverFalls link.faults link_after.faults
      → ServesService at now s s before before link link_after has_failed served
  serves_still came came_is comes ends acknowledged count = record {
    event = no_command;
    comes = comes;
    serves = record {
      came = came;
      came_is = came_is;
      ends = ends;
      goes = stays _ no_command comes (state_of s) before.kept refl;
      kept = is_kept;
      idle = λ none. refl;
      acknowledged = acknowledged;
      link_count = count;
      spool_count = NeverFalls-refl before.spool_faults;
      keeper_count = NeverFalls-refl before.keeper_faults;
    };
    keeps = record {
      service = is;
      sizes = record { size = refl; workers = refl };
      is_kept = is_kept;
      run = itself s.run;
      going = going;
      read = stay_after_reads.none before.rows;
      visible = λ shown. shown;
      spool_count = NeverFalls-refl before.spool_faults;
      keeper_count = NeverFalls-refl before.keeper_faults;
    };
  }

  -- the connection failed before a request was read
  pub served_none : ReadsRequest link link_after → served ≡ LinkFailed → Rose link.faults link_after.faults
      → ServesService at now s s before before link link_after has_failed served
  served_none reads failed rose =
      serves_still broken tt false
      (record {
        reads = reads;
        silent = record { result_is = failed; rose = rose; written = reads.written };
        event_is = refl;
        comes_is = refl;
      })
      (λ status is not500 not503. let clash : Answered status ≡ LinkFailed = sym is ∙ failed in absurd cc)
      reads.count

  module _ (reads : ReadsRequest link between) where
    answered_still : (came : Came) (a : Answer)
        → IsAnswer at.size at.workers (plain_book s.book) before before has_failed
        (scene_at at before (plain_book s.book) now) came a
        → SendsAnswer before before a between link_after served → IsEventOf (plain_book s.book) now a no_command
        → IsAnswered at now (state_of s) (state_of s) before before link link_after has_failed came no_command (is_event a)
        served
    answered_still came a answer_is sends event_is = record {
      between = between;
      reads = reads;
      answer = a;
      is_answer = answer_is;
      sends = sends;
      event_is = event_is;
      comes_is = refl;
    }

    count_to : (a : Answer) → SendsAnswer before before a between link_after served → NeverFalls link.faults link_after.faults
    count_to a sends = NeverFalls-trans reads.count (count_of before before between link_after served a sends)

    -- an allocation was refused before it was known what is to be done for a request
    pub served_request : (r : PlainRequest) → IfSome link.left (λ bytes. IsRequestOf bytes r)
        → SendsReply 503 (bytes_of out_of_memory) between link_after served
        → ServesService at now s s before before link link_after has_failed served
    served_request r is sends =
        serves_still (request r) is false (answered_still (request r) out_of_memory (inr refl) sends refl)
        (came_about before before between link_after served out_of_memory sends) (count_to out_of_memory sends)

    -- an allocation was refused
    served_unread : (refusal : RequestRefusal) → (IsOfBytes refusal → IfSome link.left (λ bytes. Refuses bytes refusal))
        → SendsReply 503 (bytes_of out_of_memory) between link_after served
        → ServesService at now s s before before link link_after has_failed served
    served_unread refusal refuses sends =
        serves_still (unread refusal) refuses false (answered_still (unread refusal) out_of_memory (inr refl) sends refl)
        (came_about before before between link_after served out_of_memory sends) (count_to out_of_memory sends)

    -- bytes that are no request
    pub served_bytes : (refusal : RequestRefusal) (code : ReplyCode) → (IsOfBytes refusal → IfSome link.left (λ bytes. Refuses bytes refusal))
        → IsOfBytes refusal → code_of_refusal refusal ≡ Some code → SendsCode code [] between link_after served
        → ServesService at now s s before before link link_after has_failed served
    served_bytes refusal code refuses of_bytes code_is (inl sends) =
        serves_still (unread refusal) refuses true
        (answered_still (unread refusal) (unreadable code)
        (inl (record { broken_rule = code; of_bytes = of_bytes; code_is = code_is; answer_is = refl })) sends refl)
        (came_about before before between link_after served (unreadable code) sends) (count_to (unreadable code) sends)
    served_bytes refusal code refuses of_bytes code_is (inr sends) = served_unread refusal refuses sends

    -- whatever was refused
    pub served_refusal : (refusal : RequestRefusal) → (IsOfBytes refusal → IfSome link.left (λ bytes. Refuses bytes refusal))
        → ((refusal ≡ requests.LinkFailed) → Rose link.faults between.faults)
        → MatchOption (code_of_refusal refusal) ((served ≡ LinkFailed) × (link_after ≡ between))
        (λ code. SendsCode code [] between link_after served)
        → ServesService at now s s before before link link_after has_failed served
    served_refusal requests.Malformed refuses rose sends = served_bytes requests.Malformed _ refuses tt refl sends
    served_refusal requests.HeadTooLong refuses rose sends = served_bytes requests.HeadTooLong _ refuses tt refl sends
    served_refusal requests.BodyTooLong refuses rose sends = served_bytes requests.BodyTooLong _ refuses tt refl sends
    served_refusal requests.CodingUnsupported refuses rose sends =
        served_bytes requests.CodingUnsupported _ refuses tt refl sends
    served_refusal requests.Truncated refuses rose sends = served_bytes requests.Truncated _ refuses tt refl sends
    served_refusal requests.LinkFailed refuses rose (failed, same) =
        served_none (subst (ReadsRequest link) (sym same) reads) failed
        (subst (λ (l : LinkOf). Rose link.faults l.faults) (sym same) (rose refl))
    served_refusal requests.OutOfMemory refuses rose (inl sends) = served_unread requests.OutOfMemory refuses sends
    served_refusal requests.OutOfMemory refuses rose (inr sends) = served_unread requests.OutOfMemory refuses sends
