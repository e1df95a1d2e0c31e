-- The response that was read, and why none was, over all the bytes that a link gives.
use Rattle.std.proofs.Common.{◌≡◌, ℕ, ◌+◌, ◌<◌, ◌≤◌, List, [], ◌++◌, length, inl, inr, take, drop, sym, ◌∙◌, ap, arith, Option, Some, None, IfSome, IsUtf8, subst}
use Rattle.std.proofs.lemmas.List.{length-append}
use Rattle.oe_outside.specs.Visible.{Gave}
use Rattle.oe_http.specs.Front.{HasNoHead, IsHeadOf, line_ends, most_line_ends, most_head}
use Rattle.oe_http.specs.Fields.{said_length}
use Rattle.oe_http.specs.Reading.{ReadsFront, ReadsBody, IsAllOfFront}
use Rattle.oe_http.specs.Replies.{PlainResponse}
use Rattle.oe_http.specs.ReplyParts.{HasReplyParts, RefusesReplyHead, RefusesReplyHeadless}
use Rattle.oe_http.specs.Responses.{IsResponseOf, RefusesResponse, response_of, reply_fields, most_response_body}
use Rattle.oe_http.specs.declared.reply.ReplyParts.{ReplyParts}
use Rattle.oe_http.specs.declared.reply.ResponseRefusal.{ResponseRefusal}
use Rattle.oe_http.specs.declared.reply.ResponseRefusal.TheVariants.{Malformed, TooLong, Truncated, LinkFailed, OutOfMemory}
use Rattle.oe_http.proofs.Fronts.{headless_read}
use Rattle.oe_http.proofs.Messages.{HasBody, visible_after, shorter, found_head, body_found, body_cut, some_left, nothing_left}

refused_one : (bytes rest : List ℕ) (refusal : ResponseRefusal) → length bytes ≤ most_head → HasNoHead bytes → IsAllOfFront bytes (Some rest) → RefusesReplyHeadless (length bytes) refusal → RefusesResponse (bytes ++ rest) refusal
refused_one bytes rest TooLong few none all long =
    inl (headless_read bytes rest few none all, rw (length-append bytes rest) (omega arith))
refused_one bytes rest Truncated few none all cut =
    inl (headless_read bytes rest few none all, shorter bytes rest cut all)
refused_one bytes rest Malformed few none all h = absurd h
refused_one bytes rest LinkFailed few none all h = absurd h
refused_one bytes rest OutOfMemory few none all h = absurd h

-- the front has no head
pub refused_headless_reply : (before after : Option (List ℕ)) (bytes : List ℕ) (refusal : ResponseRefusal) → ReadsFront before bytes None after → RefusesReplyHeadless (length bytes) refusal → IfSome before (λ all. RefusesResponse all refusal)
refused_headless_reply before after bytes refusal read why =
    visible_after before after bytes (λ all. RefusesResponse all refusal) read.gave
    (λ rest is. refused_one bytes rest refusal read.most read.head.0 (let P : Option (List ℕ) → Type 0 = λ left. IsAllOfFront bytes left in subst P is read.head.1) why)

refused_head : (all head : List ℕ) (refusal : ResponseRefusal) → IsHeadOf all head → RefusesReplyHead head refusal → RefusesResponse all refusal
refused_head all head TooLong of (inl many) = inr (inl (record { head = head; head_of = of; many = many }))
refused_head all head TooLong of (inr why) =
    inr (inr (record { head = head; parts = why.1.parts; has_head = record { head_of = of; few = why.0 }; valid = why.1.valid; many = why.1.many }))
refused_head all head Malformed of why =
    inl (record { head = head; has_head = record { head_of = of; few = why.0 }; malformed = why.1 })
refused_head all head Truncated of h = absurd h
refused_head all head LinkFailed of h = absurd h
refused_head all head OutOfMemory of h = absurd h

-- the head is refused
pub refused_by_reply_head : (before after : Option (List ℕ)) (bytes head : List ℕ) (n : ℕ) (refusal : ResponseRefusal) → ReadsFront before bytes (Some n) after → head ≡ take n bytes → RefusesReplyHead head refusal → IfSome before (λ all. RefusesResponse all refusal)
refused_by_reply_head before after bytes head n refusal read is why =
    visible_after before after bytes (λ all. RefusesResponse all refusal) read.gave
    (λ rest _. refused_head (bytes ++ rest) head refusal (found_head read is rest) why)

-- where the whole body stands in all bytes
whole_body : (middle after : Option (List ℕ)) (bytes rest head body : List ℕ) (n : ℕ) (found : ReplyParts) → n ≤ length bytes → middle ≡ Some rest → head ≡ take n bytes → (p : HasReplyParts head found) → ReadsBody found.length middle (take found.length (drop n bytes)) body after → found.length ≤ length body → HasBody (bytes ++ rest) head body (said_length (reply_fields p.parts))
whole_body middle after bytes rest head body n found within visible is_head p got enough =
    let gave : Gave (Some rest) got.given after = let P : Option (List ℕ) → Type 0 = λ left. Gave left got.given after in subst P visible got.gave in
    let behind = some_left rest got.given after gave in
    let long : length body ≡ found.length = omega (arith, got.most, enough) in
    let has = body_found bytes rest head got.given behind.left body n found.length within is_head got.follows behind.parts long in
    let P : ℕ → Type 0 = λ k. HasBody (bytes ++ rest) head body k in
    subst P p.length has

-- the response is read
pub response_read : (before middle after : Option (List ℕ)) (bytes head body : List ℕ) (n : ℕ) (found : ReplyParts) (r : PlainResponse) → ReadsFront before bytes (Some n) middle → head ≡ take n bytes → (p : HasReplyParts head found) → line_ends head ≤ most_line_ends → ReadsBody found.length middle (take found.length (drop n bytes)) body after → found.length ≤ length body → IsUtf8 body → r ≡ response_of p.parts body → IfSome before (λ all. IsResponseOf all r)
response_read before middle after bytes head body n found r read is_head p few got enough text is =
    visible_after before middle bytes (λ all. IsResponseOf all r) read.gave (λ rest visible.
    let said = whole_body middle after bytes rest head body n found read.head.ends.within visible is_head p got enough in
    let Q : ℕ → Type 0 = λ k. k ≤ most_response_body in
    let T : List ℕ → Type 0 = IsUtf8 in
    record {
      head = head;
      parts = p.parts;
      has_head = record { head_of = found_head read is_head rest; few = few };
      valid = p.valid;
      within = subst Q p.length p.most;
      whole = said.whole;
      text = subst T (sym said.is) text;
      is = is ∙ ap (response_of p.parts) (sym said.is);
    })

-- the body is no text
pub refused_binary : (before middle after : Option (List ℕ)) (bytes head body : List ℕ) (n : ℕ) (found : ReplyParts) → ReadsFront before bytes (Some n) middle → head ≡ take n bytes → HasReplyParts head found → line_ends head ≤ most_line_ends → ReadsBody found.length middle (take found.length (drop n bytes)) body after → found.length ≤ length body → ¬ (IsUtf8 body) → IfSome before (λ all. RefusesResponse all Malformed)
refused_binary before middle after bytes head body n found read is_head p few got enough binary =
    visible_after before middle bytes (λ all. RefusesResponse all Malformed) read.gave (λ rest visible.
    let said = whole_body middle after bytes rest head body n found read.head.ends.within visible is_head p got enough in
    let Q : ℕ → Type 0 = λ k. k ≤ most_response_body in
    let T : List ℕ → Type 0 = IsUtf8 in
    inr (record {
      head = head;
      parts = p.parts;
      has_head = record { head_of = found_head read is_head rest; few = few };
      valid = p.valid;
      within = subst Q p.length p.most;
      whole = said.whole;
      binary = λ text. binary (subst T said.is text);
    }))

-- the link ended in the body
pub refused_reply_body : (before middle after : Option (List ℕ)) (bytes head body : List ℕ) (n : ℕ) (found : ReplyParts) → ReadsFront before bytes (Some n) middle → head ≡ take n bytes → HasReplyParts head found → line_ends head ≤ most_line_ends → ReadsBody found.length middle (take found.length (drop n bytes)) body after → length body < found.length → IfSome before (λ all. RefusesResponse all Truncated)
refused_reply_body before middle after bytes head body n found read is_head p few got short =
    visible_after before middle bytes (λ all. RefusesResponse all Truncated) read.gave (λ rest visible.
    let gave : Gave (Some rest) got.given after = let P : Option (List ℕ) → Type 0 = λ left. Gave left got.given after in subst P visible got.gave in
    let behind = some_left rest got.given after gave in
    let none : behind.left ≡ [] = nothing_left body found.length after behind.left behind.is got.end short in
    let cut : length (bytes ++ rest) < length head + found.length = body_cut bytes rest head got.given behind.left body n found.length read.head.ends.within is_head got.follows behind.parts none short in
    let Q : ℕ → Type 0 = λ k. k ≤ most_response_body in
    let P : ℕ → Type 0 = λ k. length (bytes ++ rest) < length head + k in
    inr (record {
      head = head;
      parts = p.parts;
      has_head = record { head_of = found_head read is_head rest; few = few };
      valid = p.valid;
      within = subst Q p.length p.most;
      part = subst P p.length cut;
    }))
