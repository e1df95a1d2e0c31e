-- The pages of a list, one after the other.
use Rattle.std.proofs.Common.{◌≡◌, ℕ, suc, ◌+◌, ◌-◌, ◌*◌, ◌<◌, ◌≤◌, ◌==◌, ◌&&◌, Bool, true, false, inl, inr, List, [], codes, length, nat_lt, Option, Some, None, Result, Ok, Err, refl, sym, ap, ◌∙◌, subst, arith}
use Rattle.std.specs.Prelude.{if◌then◌else◌}
use Rattle.std.specs.List.{list_any}
use Rattle.std.proofs.lemmas.Bool.{and_parts, cases_Bool}
use Rattle.std.proofs.lemmas.Bool.Decides.{nat_tests}
use Rattle.serde_json.specs.Data.{Data}
use Rattle.oe_client.specs.Pages.{IsPage, items_under, last_offset, leads_on, next_behind, next_by, next_in, page_limit}
use Rattle.oe_client.specs.declared.pages.PageFail.{PageFail}
use Rattle.oe_client.specs.declared.pages.PageFail.TheVariants.{Invalid}
use Rattle.oe_pages.specs.Pages.{member_of}
use Rattle.oe_http.specs.Again.{IsWritable}
use Rattle.oe_http.specs.Plain.{PlainRequest}
use Rattle.oe_http.specs.Written.{request_bytes}
use Rattle.oe_outside.proofs.Causes.{NeverFalls-trans, then-Rose}
use Rattle.oe_outside.specs.Faults.{Rose}
use Rattle.oe_client.specs.declared.verbs.Argument.{Argument}
use Rattle.oe_client.specs.declared.verbs.Argument.TheVariants.{Missing, Id, JobAndAsset, JobAndOffset, ListName}
use Rattle.oe_dial.specs.Ends.{CallAnswers, CountsUp, DialEnds, Input, Lent, Views}
use Rattle.oe_dial.specs.Lists.{AreTaken, DeliversPage, EndsList, Fetches, IsAsked, IsOutLeft, IsUndialled, LinkRose, ListsPages, Makes, TakesPage, list_of, none, one_more, refusal_of_page, request_at, with_body}
use Rattle.oe_dial.specs.Words.{PlainCall, host_text}
use Rattle.oe_dial.specs.declared.refusal.CallRefusal.{CallRefusal}
use Rattle.oe_dial.specs.declared.refusal.CallRefusal.TheVariants.{ReadFault, InputTooLong, WriteFault, OutOfMemory, LinkFault, PeerInvalid, Refused}

-- ---- where the next page begins

-- 100 items behind a page that is not at the last offset
abbrev Follows : ℕ → ℕ → Type 0
Follows offset next = (next ≡ offset + 100) × (offset < last_offset)

by_place : (offset next : ℕ) (test : Bool) → (test ≡ true → offset < last_offset)
    → (if test then Ok (Some (offset + page_limit)) else Err Invalid) ≡ Ok (Some next) → Follows offset next
by_place offset next true before is = let same : offset + 100 ≡ next = cc in (sym same, before refl)
by_place offset next false before is = absurd cc

by_links : (offset count next : ℕ) (leads : Bool) → next_behind offset count leads ≡ Ok (Some next) → Follows offset next
by_links offset count next true is =
    by_place offset next ((count == page_limit) && nat_lt offset last_offset)
    (λ passes. let below = (and_parts (count == page_limit) (nat_lt offset last_offset) passes).1 in grind (arith, nat_tests, below)) is
by_links offset count next false is = absurd cc

by_lists : (offset next : ℕ) (items links : Option (List Data)) → next_by offset items links ≡ Ok (Some next)
    → Follows offset next
by_lists offset next None links is = absurd cc
by_lists offset next (Some items) None is = absurd cc
by_lists offset next (Some items) (Some links) is =
    by_links offset (length items) next (list_any leads_on links) is

pub page_follows : (list : List ℕ) (offset : ℕ) (body : List ℕ) (next : ℕ) → IsPage list offset body (Some next)
    → Follows offset next
page_follows list offset body next is = by_lists offset next (items_under (member_of list) is.body) (items_under (codes "links") is.body) is.next_is

module _ {C : Type 0} (views : Views C) (call : PlainCall) where
  -- ---- one page

  module _ (offset : ℕ) (before after : Lent C) where
    -- the request over the connection is that for the page
    pub asked_by : (request : PlainRequest) (host body : List ℕ) (faults : ℕ) (result : Result (Unit {0}) CallRefusal)
        → request ≡ request_at call offset → host ≡ host_text call.host call.port → IsWritable request host
        → DialEnds views (with_body before [] 0) (with_body after body faults) call.host call.port
        (request_bytes request host) result
        → IsAsked views call offset before after body result
    asked_by request host body faults result is host_is writable ends =
        let same : request_bytes request host ≡ request_bytes (request_at call offset) (host_text call.host call.port) =
        ap (λ r. request_bytes r host) is ∙ ap (request_bytes (request_at call offset)) host_is in
        record {
          memory_faults = faults;
          writable = subst (IsWritable (request_at call offset)) host_is (subst (λ r. IsWritable r host) is writable);
          ends = subst (λ bytes. DialEnds views (with_body before [] 0) (with_body after body faults) call.host call.port
              bytes result) same ends;
        }

    pub fetched_none : (refusal : CallRefusal) (body : List ℕ) → IsAsked views call offset before after body (Err refusal)
        → Fetches views call offset before after (Err (refusal_of_page refusal))
    fetched_none ReadFault body is = is.ends
    fetched_none InputTooLong body is = is.ends
    fetched_none WriteFault body is = inr (Err WriteFault, (body, is))
    fetched_none OutOfMemory body is = inr (Err OutOfMemory, (body, is))
    fetched_none LinkFault body is = (body, is)
    fetched_none PeerInvalid body is = (body, is)
    fetched_none (Refused status answer) body is = (body, is)

    -- no body came
    pub takes_none : (refusal : CallRefusal) → Fetches views call offset before after (Err refusal)
        → IsOutLeft views call before after
        → TakesPage views call offset before after (Err refusal)
    takes_none ReadFault is same = is
    takes_none InputTooLong is same = is
    takes_none WriteFault is same = absurd is
    takes_none OutOfMemory is same = (is, same)
    takes_none LinkFault is same = (is, same)
    takes_none PeerInvalid is same = (inl is, same)
    takes_none (Refused status answer) is same = (is, same)

    -- a body came
    pub takes : (body : List ℕ) (result : Result (Option ℕ) CallRefusal)
        → IsAsked views call offset before after body (Ok tt)
        → DeliversPage (list_of call) offset body before.out before.out_faults after.out after.out_faults result
        → TakesPage views call offset before after result
    takes body (Ok next) is d = (body, record { asked = is; is_page = d.0 }, d.1)
    takes body (Err ReadFault) is d = d
    takes body (Err InputTooLong) is d = d
    takes body (Err WriteFault) is d = (body, (d.0.0, record { asked = is; is_page = d.0.1 }), d.1, d.2)
    takes body (Err OutOfMemory) is d = (inr (Ok tt, (body, is)), record { out = d.0; out_faults = d.1 })
    takes body (Err LinkFault) is d = absurd d
    takes body (Err PeerInvalid) is d =
        (inr (record { body = body; asked = is; no_page = d.0 }), record { out = d.1; out_faults = d.2 })
    takes body (Err (Refused status answer)) is d = absurd d

    pub taken_follows : (next : ℕ) → TakesPage views call offset before after (Ok (Some next)) → Follows offset next
    taken_follows next is = page_follows (list_of call) offset is.0 next is.1.is_page

  -- ---- pages one after the other

  -- so far: the next page begins at a multiple of 100
  pub record SoFar (first now : Lent C) (offset : ℕ) : Type 0 where
    pub within : offset ≤ last_offset
    pub hundreds : ℕ
    pub offset_is : offset ≡ 100 * hundreds
    pub count : ℕ
    pub taken : AreTaken views call first count (Some offset) now
    pub counts : CountsUp views first now

  pub counts_then : (a b c : Lent C) → CountsUp views a b → CountsUp views b c → CountsUp views a c
  counts_then a b c one two = record {
    next = two.next ∙ one.next;
    out = NeverFalls-trans one.out two.out;
    dials = NeverFalls-trans one.dials two.dials;
    links = NeverFalls-trans one.links two.links;
  }

  pub so_far_next : (first now after : Lent C) (offset next : ℕ) (result : Result (Option ℕ) CallRefusal)
      → SoFar first now offset → result ≡ Ok (Some next) → TakesPage views call offset now after result
      → CountsUp views now after → SoFar first after next
  so_far_next first now after offset next result s is takes counts =
      let page = subst (TakesPage views call offset now after) is takes in
      let follows = taken_follows offset now after next page in
      let offset_is = s.offset_is in
      record {
        within = omega (arith, follows.0, follows.1, offset_is);
        hundreds = s.hundreds + 1;
        offset_is = omega (arith, follows.0, offset_is);
        count = suc s.count;
        taken = one_more s.taken page;
        counts = counts_then first now after s.counts counts;
      }

  pub goes_down : (now after : Lent C) (offset next : ℕ) (result : Result (Option ℕ) CallRefusal)
      → result ≡ Ok (Some next) → TakesPage views call offset now after result
      → last_offset - next < last_offset - offset
  goes_down now after offset next result is takes =
      let follows =
      taken_follows offset now after next (subst (TakesPage views call offset now after) is takes) in
      omega (arith, follows.0, follows.1)

  link_cause : (first now after : Lent C) (offset : ℕ) (refusal : CallRefusal) → CountsUp views first now
      → TakesPage views call offset now after (Err refusal) → refusal ≡ LinkFault → LinkRose views call first after
  link_cause first now after offset refusal counts takes is =
      let page = subst (λ (r : CallRefusal). TakesPage views call offset now after (Err r)) is takes in
      elim page.0.1.ends [
        | inl missed ↦ inl (then-Rose counts.dials missed.rose)
        | inr failed ↦ inr (then-Rose counts.links failed.0)
      ]

  write_cause : (first now after : Lent C) (offset : ℕ) (refusal : CallRefusal) → CountsUp views first now
      → TakesPage views call offset now after (Err refusal) → refusal ≡ WriteFault
      → Rose first.out_faults after.out_faults
  write_cause first now after offset refusal counts takes is =
      let page = subst (λ (r : CallRefusal). TakesPage views call offset now after (Err r)) is takes in
      then-Rose counts.out page.2

  pub ends_last : (first now after : Lent C) (offset : ℕ) (result : Result (Option ℕ) CallRefusal)
      → SoFar first now offset → result ≡ Ok None → TakesPage views call offset now after result → CountsUp views now after
      → ListsPages views call first after (Ok tt)
  ends_last first now after offset result s is takes counts = record {
    count = suc s.count;
    next = None;
    last = after;
    taken = one_more s.taken (subst (TakesPage views call offset now after) is takes);
    counts = counts_then first now after s.counts counts;
    ended = refl;
    link_cause = λ same. absurd cc;
    write_cause = λ same. absurd cc;
  }

  pub ends_refused : (first now after : Lent C) (offset : ℕ) (refusal : CallRefusal) (result : Result (Option ℕ) CallRefusal)
      → SoFar first now offset → result ≡ Err refusal → TakesPage views call offset now after result
      → ListsPages views call first after (Err refusal)
  ends_refused first now after offset refusal result s is takes = record {
    count = s.count;
    next = Some offset;
    last = now;
    taken = s.taken;
    counts = s.counts;
    ended = subst (TakesPage views call offset now after) is takes;
    link_cause = λ same. let named : refusal ≡ LinkFault = cc in
        link_cause first now after offset refusal s.counts (subst (TakesPage views call offset now after) is takes) named;
    write_cause = λ same. let named : refusal ≡ WriteFault = cc in
        write_cause first now after offset refusal s.counts (subst (TakesPage views call offset now after) is takes) named;
  }

  -- ---- one call, or all pages of a list

  pub makes_one : (kind : Argument) (input : Input) (before after : Lent C) (result : Result (Unit {0}) CallRefusal)
      → (kind ≡ ListName → ⊥) → CallAnswers views call input before after result → Makes views call kind input before after result
  makes_one Missing input before after result other answers = answers
  makes_one Id input before after result other answers = answers
  makes_one JobAndAsset input before after result other answers = answers
  makes_one JobAndOffset input before after result other answers = answers
  makes_one ListName input before after result other answers = absurd (other refl)
