-- What a call wrote that sent a text and then wrote what it held.
use Rattle.std.proofs.Common.{◌≡◌, ℕ, List, [], ◌++◌, length, ap, ◌∙◌, subst, Option, None, Result, Ok, Err, IsErr, OnOk, OnErr, refl, arith}
use Rattle.std.proofs.lemmas.List.{append-nil}
use Rattle.std.proofs.lemmas.Result.{on_err_weaker}
use Rattle.oe_http.specs.Sent.{HasSent}
use Rattle.oe_outside.specs.Stream.{Sends, Stops}
use Rattle.oe_outside.specs.Visible.{Appends, AppendsPrefix, AddsBytes, AddsSome}
use Rattle.oe_outside.proofs.Streams.{appends_from_sends, has_sent_then, has_stopped, on_ok_both, prefix_from_stops}
use Rattle.oe_http.specs.Replies.{PlainResponse, reply_bytes, reply_head, sent_body}

-- no number of bytes is visible, before and after
pub hidden : {T E : Type 0} (r : Result T E) → OnOk r (AddsBytes None 0 None)
hidden (Ok x) = refl
hidden (Err e) = tt

pub hidden_prefix : {T E : Type 0} (r : Result T E) (n : ℕ) → OnErr r (AddsSome None n None)
hidden_prefix (Ok x) n = tt
hidden_prefix (Err e) n = (0, omega arith, refl)

-- a text that was sent, and nothing is held
all_sent : {before after : Option (List ℕ)} {held left : List ℕ} (text : List ℕ) → held ≡ [] → left ≡ [] → Sends before None held (text ++ []) after None left → Appends before text after
all_sent {before} {after} {held} {left} text none empty sent =
    let P : List ℕ → Type 0 = λ front. Sends before None front (text ++ []) after None left in
    let Q : List ℕ → Type 0 = λ bytes. Appends before bytes after in
    subst Q (append-nil text) (appends_from_sends empty (subst P none sent))

part_sent : {before after : Option (List ℕ)} {held text : List ℕ} → held ≡ [] → Stops before None held text after None → AppendsPrefix before text after
part_sent {before} {after} {held} {text} none stopped =
    let P : List ℕ → Type 0 = λ front. Stops before None front text after None in prefix_from_stops (subst P none stopped)

part_sent_nil : {before after : Option (List ℕ)} {held : List ℕ} (text : List ℕ) → held ≡ [] → Stops before None held (text ++ []) after None → AppendsPrefix before text after
part_sent_nil {before} {after} {held} text none stopped =
    let P : List ℕ → Type 0 = λ bytes. Stops before None held bytes after None in part_sent none (subst P (append-nil text) stopped)

-- the whole text was written
pub wrote_all : {O T U E F : Type 0} {written : O → Option (List ℕ)} {faults : O → ℕ} {before middle end : O} {held left rest text : List ℕ} {x : T} {r : Result U F} → held ≡ [] → HasSent {E = E} written faults before held text middle left (Ok x) → HasSent written faults middle left [] end rest r → OnOk r (rest ≡ []) → OnOk r (Appends (written before) text (written end))
wrote_all {text = text} {r = r} none first last empty = on_ok_both r (all_sent text none) empty (has_sent_then first last).sent

-- it could not be, in what was held last
pub wrote_part : {O T U E F : Type 0} {written : O → Option (List ℕ)} {faults : O → ℕ} {before middle end : O} {held left rest text : List ℕ} {x : T} {r : Result U F} → held ≡ [] → HasSent {E = E} written faults before held text middle left (Ok x) → HasSent written faults middle left [] end rest r → OnErr r (AppendsPrefix (written before) text (written end))
wrote_part {text = text} {r = r} none first last = on_err_weaker r (part_sent_nil text none) (has_sent_then first last).stopped

-- nor before
pub stopped_early : {O T U E F : Type 0} {written : O → Option (List ℕ)} {faults : O → ℕ} {before after : O} {held text left : List ℕ} {e : E} (s : Result U F) → held ≡ [] → IsErr s → HasSent {T = T} written faults before held text after left (Err e) → OnErr s (AppendsPrefix (written before) text (written after))
stopped_early {left = left} s none is sent = on_err_weaker s (part_sent none) (has_stopped {rest = left} is sent).stopped

-- the parts of a reply
pub same_reply : (r : PlainResponse) (location identifier : Option (List ℕ)) (number : ℕ) (body : List ℕ) → location ≡ r.location → identifier ≡ r.identifier → number ≡ length body → body ≡ sent_body r → reply_head r.status location identifier r.json number ++ body ≡ reply_bytes r
same_reply r location identifier number body is_location is_identifier is_number is_body =
    ap (λ l. reply_head r.status l identifier r.json number ++ body) is_location
    ∙ ap (λ i. reply_head r.status r.location i r.json number ++ body) is_identifier
    ∙ ap (λ n. reply_head r.status r.location r.identifier r.json n ++ body) is_number
    ∙ ap (λ b. reply_head r.status r.location r.identifier r.json (length b) ++ b) is_body
