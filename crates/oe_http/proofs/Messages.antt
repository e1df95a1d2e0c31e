-- The request that was read, and why none was, over all the bytes that a link gives.
use Rattle.std.proofs.Common.{◌≡◌, ℕ, ◌+◌, ◌-◌, ◌<◌, ◌≤◌, ◌⊎◌, List, [], ◌++◌, length, inl, inr, take, drop, min, sym, ◌∙◌, ap, refl, arith, Option, Some, None, IfSome, subst, append-nil, append_assoc}
use Rattle.std.proofs.lemmas.List.{nil_from_length, length-append, length-take, length-take-le, length-drop, take_all, take-append-le, drop-append-le}
use Rattle.std.proofs.Math.Seq.{take-append_seam}
use Rattle.oe_outside.specs.Visible.{Gave}
use Rattle.oe_http.specs.Bodies.{body_of}
use Rattle.oe_http.specs.Front.{HasNoHead, IsHeadOf, line_ends, most_line_ends, most_head}
use Rattle.oe_http.specs.Heads.{fields_of}
use Rattle.oe_http.specs.Fields.{said_length}
use Rattle.oe_http.specs.Parts.{HasParts, RefusesHead}
use Rattle.oe_http.specs.Plain.{PlainRequest}
use Rattle.oe_http.specs.Reading.{ReadsFront, ReadsBody, IsAllOfFront}
use Rattle.oe_http.specs.Refused.{RefusesHeadless}
use Rattle.oe_http.specs.Requests.{IsRequestOf, Refuses, request_of, most_body}
use Rattle.oe_http.specs.declared.head.HeadParts.{HeadParts}
use Rattle.oe_http.specs.declared.request.RequestRefusal.{RequestRefusal}
use Rattle.oe_http.specs.declared.request.RequestRefusal.TheVariants.{Malformed, HeadTooLong, BodyTooLong, CodingUnsupported, Truncated, LinkFailed, OutOfMemory}
use Rattle.oe_http.proofs.Fronts.{head_of_read, headless_read}

-- what is visible of a link that gave some bytes
pub visible_after : (before after : Option (List ℕ)) (given : List ℕ) (P : List ℕ → Type 0) → Gave before given after → ((rest : List ℕ) → after ≡ Some rest → P (given ++ rest)) → IfSome before P
visible_after before None given P gave holds = rw gave tt
visible_after before (Some rest) given P gave holds = rw gave (holds rest refl)

-- nothing was left behind a front that is not full
pub shorter : (bytes rest : List ℕ) → length bytes < most_head → IsAllOfFront bytes (Some rest) → length (bytes ++ rest) < most_head
shorter bytes rest cut (inl full) = absurd (omega arith)
shorter bytes rest cut (inr none) = rw none (rw (append-nil bytes) cut)

le_cases : (m n : ℕ) → (m ≤ n) ⊎ (n ≤ m)
le_cases m n = grind arith

refused_one : (bytes rest : List ℕ) (refusal : RequestRefusal) → length bytes ≤ most_head → HasNoHead bytes → IsAllOfFront bytes (Some rest) → RefusesHeadless (length bytes) refusal → Refuses (bytes ++ rest) refusal
refused_one bytes rest HeadTooLong few none all long =
    inl (headless_read bytes rest few none all, rw (length-append bytes rest) (omega arith))
refused_one bytes rest Truncated few none all cut =
    inl (headless_read bytes rest few none all, shorter bytes rest cut all)
refused_one bytes rest Malformed few none all h = absurd h
refused_one bytes rest BodyTooLong few none all h = absurd h
refused_one bytes rest CodingUnsupported few none all h = absurd h
refused_one bytes rest LinkFailed few none all h = absurd h
refused_one bytes rest OutOfMemory few none all h = absurd h

-- the front has no head
pub refused_headless : (before after : Option (List ℕ)) (bytes : List ℕ) (refusal : RequestRefusal) → ReadsFront before bytes None after → RefusesHeadless (length bytes) refusal → IfSome before (λ all. Refuses all refusal)
refused_headless before after bytes refusal read why =
    visible_after before after bytes (λ all. Refuses all refusal) read.gave
    (λ rest is. refused_one bytes rest refusal read.most read.head.0 (let P : Option (List ℕ) → Type 0 = λ left. IsAllOfFront bytes left in subst P is read.head.1) why)

-- the head of all bytes, where it was found in those that were read
pub found_head : {before after : Option (List ℕ)} {bytes head : List ℕ} {n : ℕ} → ReadsFront before bytes (Some n) after → head ≡ take n bytes → (rest : List ℕ) → IsHeadOf (bytes ++ rest) head
found_head {bytes = bytes} {head = head} {n = n} read is rest = head_of_read bytes rest head n read.most read.head is

refused_head : (all head : List ℕ) (refusal : RequestRefusal) → IsHeadOf all head → RefusesHead head refusal → Refuses all refusal
refused_head all head HeadTooLong of many = inr (record { head = head; head_of = of; many = many })
refused_head all head Malformed of why =
    record { head = head; has_head = record { head_of = of; few = why.0 }; malformed = why.1 }
refused_head all head CodingUnsupported of why =
    record { head = head; parts = why.1.parts; has_head = record { head_of = of; few = why.0 }; valid = why.1.valid; coded = why.1.coded }
refused_head all head BodyTooLong of why =
    record { head = head; parts = why.1.parts; has_head = record { head_of = of; few = why.0 }; plain = why.1.plain; many = why.1.many }
refused_head all head Truncated of h = absurd h
refused_head all head LinkFailed of h = absurd h
refused_head all head OutOfMemory of h = absurd h

-- the head is refused
pub refused_by_head : (before after : Option (List ℕ)) (bytes head : List ℕ) (n : ℕ) (refusal : RequestRefusal) → ReadsFront before bytes (Some n) after → head ≡ take n bytes → RefusesHead head refusal → IfSome before (λ all. Refuses all refusal)
refused_by_head before after bytes head n refusal read is why =
    visible_after before after bytes (λ all. Refuses all refusal) read.gave
    (λ rest _. refused_head (bytes ++ rest) head refusal (found_head read is rest) why)

-- the body behind a head, and what is left behind it
pub record HasBody (all head body : List ℕ) (number : ℕ) : Type 0 where
  pub is : body_of all head number ≡ body
  pub whole : length head + number ≤ length all

-- the first bytes of a list and those behind it
first_of : (number : ℕ) (first given rest body : List ℕ) → body ≡ take number first ++ given → length body ≡ number → take number (first ++ (given ++ rest)) ≡ body
first_of number first given rest body is long = elim (le_cases number (length first)) [
  | inl few ↦
      let short : length (take number first) ≡ number = length-take-le number first few in
      let sum : length body ≡ length (take number first) + length given = ap length is ∙ length-append (take number first) given in
      let none : given ≡ [] = nil_from_length given (omega arith) in
      take-append-le number first (given ++ rest) few ∙ sym (is ∙ ap (λ more. take number first ++ more) none ∙ append-nil (take number first))
  | inr more ↦
      let all : take number first ≡ first = take_all number first more in
      let same : body ≡ first ++ given = is ∙ ap (λ xs. xs ++ given) all in
      let P : ℕ → Type 0 = λ n. take n (first ++ (given ++ rest)) ≡ body in
      subst P long (ap (take (length body)) (sym (append_assoc first given rest) ∙ ap (λ xs. xs ++ rest) (sym same)) ∙ take-append_seam body rest)
]

-- how long what was read is
pub record HasLengths (bytes rest given left body : List ℕ) (n number : ℕ) : Type 0 where
  pub size : length (bytes ++ rest) ≡ length bytes + (length given + length left)
  pub body_size : length body ≡ min number (length bytes - n) + length given

lengths : (bytes rest given left body : List ℕ) (n number : ℕ) → body ≡ take number (drop n bytes) ++ given → rest ≡ given ++ left → HasLengths bytes rest given left body n number
lengths bytes rest given left body n number is_body is_rest = record {
  size = length-append bytes rest ∙ ap (λ k. length bytes + k) (ap length is_rest ∙ length-append given left);
  body_size = ap length is_body ∙ length-append (take number (drop n bytes)) given ∙ ap (λ k. k + length given) (length-take number (drop n bytes) ∙ ap (min number) (length-drop n bytes));
}

-- where the body stands in all bytes, if it is whole
pub body_found : (bytes rest head given left body : List ℕ) (n number : ℕ) → n ≤ length bytes → head ≡ take n bytes → body ≡ take number (drop n bytes) ++ given → rest ≡ given ++ left → length body ≡ number → HasBody (bytes ++ rest) head body number
body_found bytes rest head given left body n number within is_head is_body is_rest long =
    let size : length head ≡ n = ap length is_head ∙ length-take-le n bytes within in
    let behind : drop (length head) (bytes ++ rest) ≡ drop n bytes ++ (given ++ left) = ap (λ k. drop k (bytes ++ rest)) size ∙ drop-append-le n bytes rest within ∙ ap (λ more. drop n bytes ++ more) is_rest in
    let sizes = lengths bytes rest given left body n number is_body is_rest in
    record {
      is = ap (take number) behind ∙ first_of number (drop n bytes) given left body is_body long;
      whole = omega (arith, size, sizes.size, sizes.body_size, long, within);
    }

-- and if it is cut, nothing is left and all bytes are too few
pub body_cut : (bytes rest head given left body : List ℕ) (n number : ℕ) → n ≤ length bytes → head ≡ take n bytes → body ≡ take number (drop n bytes) ++ given → rest ≡ given ++ left → left ≡ [] → length body < number → length (bytes ++ rest) < length head + number
body_cut bytes rest head given left body n number within is_head is_body is_rest none short =
    let size : length head ≡ n = ap length is_head ∙ length-take-le n bytes within in
    let sizes = lengths bytes rest given left body n number is_body is_rest in
    let nothing : length left ≡ 0 = ap length none in
    omega (arith, size, sizes.size, sizes.body_size, nothing, short, within)

-- what a read of visible bytes left
pub record Left (rest given : List ℕ) (after : Option (List ℕ)) : Type 0 where
  pub left : List ℕ
  pub is : after ≡ Some left
  pub parts : rest ≡ given ++ left

pub some_left : (rest given : List ℕ) (after : Option (List ℕ)) → Gave (Some rest) given after → Left rest given after
some_left rest given None gave = cc
some_left rest given (Some left) gave = record { left = left; is = refl; parts = cc }

pub nothing_left : (body : List ℕ) (number : ℕ) (after : Option (List ℕ)) (left : List ℕ) → after ≡ Some left → (length body ≡ number) ⊎ IfSome after (λ rest. rest ≡ []) → length body < number → left ≡ []
nothing_left body number after left is (inl full) short = absurd (omega arith)
nothing_left body number after left is (inr none) short =
    let P : Option (List ℕ) → Type 0 = λ o. IfSome o (λ rest. rest ≡ []) in subst P is none

-- the request is read
pub request_read : (before middle after : Option (List ℕ)) (bytes head body : List ℕ) (n : ℕ) (found : HeadParts) (r : PlainRequest) → ReadsFront before bytes (Some n) middle → head ≡ take n bytes → (p : HasParts head found) → line_ends head ≤ most_line_ends → ReadsBody found.length middle (take found.length (drop n bytes)) body after → found.length ≤ length body → r ≡ request_of p.parts body → IfSome before (λ all. IsRequestOf all r)
request_read before middle after bytes head body n found r read is_head p few got enough is =
    visible_after before middle bytes (λ all. IsRequestOf all r) read.gave (λ rest visible.
    let gave : Gave (Some rest) got.given after = let P : Option (List ℕ) → Type 0 = λ left. Gave left got.given after in subst P visible got.gave in
    let behind = some_left rest got.given after gave in
    let long : length body ≡ found.length = omega (arith, got.most, enough) in
    let has = body_found bytes rest head got.given behind.left body n found.length read.head.ends.within is_head got.follows behind.parts long in
    let P : ℕ → Type 0 = λ k. HasBody (bytes ++ rest) head body k in
    let said : HasBody (bytes ++ rest) head body (said_length (fields_of p.parts)) = subst P p.length has in
    record {
      head = head;
      parts = p.parts;
      has_head = record { head_of = found_head read is_head rest; few = few };
      plain = p.plain;
      within = let Q : ℕ → Type 0 = λ k. k ≤ most_body in subst Q p.length p.most;
      whole = said.whole;
      is = is ∙ ap (request_of p.parts) (sym said.is);
    })

-- the link ended in the body
pub refused_body : (before middle after : Option (List ℕ)) (bytes head body : List ℕ) (n : ℕ) (found : HeadParts) → ReadsFront before bytes (Some n) middle → head ≡ take n bytes → HasParts head found → line_ends head ≤ most_line_ends → ReadsBody found.length middle (take found.length (drop n bytes)) body after → length body < found.length → IfSome before (λ all. Refuses all Truncated)
refused_body before middle after bytes head body n found read is_head p few got short =
    visible_after before middle bytes (λ all. Refuses all Truncated) read.gave (λ rest visible.
    let gave : Gave (Some rest) got.given after = let P : Option (List ℕ) → Type 0 = λ left. Gave left got.given after in subst P visible got.gave in
    let behind = some_left rest got.given after gave in
    let none : behind.left ≡ [] = nothing_left body found.length after behind.left behind.is got.end short in
    let cut : length (bytes ++ rest) < length head + found.length = body_cut bytes rest head got.given behind.left body n found.length read.head.ends.within is_head got.follows behind.parts none short in
    let Q : ℕ → Type 0 = λ k. k ≤ most_body in
    let P : ℕ → Type 0 = λ k. length (bytes ++ rest) < length head + k in
    inr (record {
      head = head;
      parts = p.parts;
      has_head = record { head_of = found_head read is_head rest; few = few };
      plain = p.plain;
      within = subst Q p.length p.most;
      part = subst P p.length cut;
    }))
