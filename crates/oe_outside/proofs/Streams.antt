-- What follows from sending one text after another.
use Rattle.std.proofs.Common.{◌≡◌, ℕ, List, [], ◌++◌, length, take, drop, sym, ap, ◌∙◌, refl, subst, Result, Ok, Err, Option, Some, None, OnOk, OnErr, IsOk, IsErr, append_assoc, arith}
use Rattle.std.specs.Option.{option_map}
use Rattle.std.proofs.Math.Seq.{take-append_seam}
use Rattle.std.proofs.lemmas.List.{take-append-drop, append-nil, length-append}
use Rattle.oe_outside.specs.Visible.{Appends, AppendsPrefix, AddsBytes, AddsSome}
use Rattle.oe_outside.proofs.Runs.{AddsBytes-none, AddsBytes-more, AddsSome-less, AddsSome-more}
use Rattle.oe_outside.specs.Faults.{HasCause}
use Rattle.oe_outside.proofs.Causes.{NeverFalls-refl, then-HasCause}
use Rattle.oe_outside.specs.Stream.{Sends, Stops, HasSent}

-- two facts of an answer that is Ok
pub on_ok_both : {T E P Q R : Type 0} (r : Result T E) → (P → Q → R) → OnOk r P → OnOk r Q → OnOk r R
on_ok_both (Ok x) f p q = f p q
on_ok_both (Err e) f p q = tt

-- two facts of an answer that is an error
pub on_err_both : {T E P Q R : Type 0} (r : Result T E) → (P → Q → R) → OnErr r P → OnErr r Q → OnErr r R
on_err_both (Ok x) f p q = tt
on_err_both (Err e) f p q = f p q

-- what follows nothing, and what follows twice
pub visible_nothing : (before : Option (List ℕ)) → before ≡ option_map (λ bytes. bytes ++ []) before
visible_nothing None = refl
visible_nothing (Some bytes) = ap Some (sym (append-nil bytes))

pub visible_twice : (before : Option (List ℕ)) (first second : List ℕ) → option_map (λ bytes. bytes ++ second) (option_map (λ bytes. bytes ++ first) before) ≡ option_map (λ bytes. bytes ++ (first ++ second)) before
visible_twice None first second = refl
visible_twice (Some bytes) first second = ap Some (append_assoc bytes first second)

-- a text that is held and not written
pub sends_held : (before : Option (List ℕ)) (size : Option ℕ) (held text left : List ℕ) → left ≡ held ++ text → Sends before size held text before size left
sends_held before size held text left e = record { gone = []; parts = sym e; visible = visible_nothing before; counted = AddsBytes-none size }

-- no text
pub sends_nothing : (before : Option (List ℕ)) (size : Option ℕ) (held : List ℕ) → Sends before size held [] before size held
sends_nothing before size held = sends_held before size held [] held (sym (append-nil held))

-- two texts, one after the other
pub sends_both : {before after end : Option (List ℕ)} {size size_after size_end : Option ℕ} {held first left second rest : List ℕ} → Sends before size held first after size_after left → Sends after size_after left second end size_end rest → Sends before size held (first ++ second) end size_end rest
sends_both {before} {after} {end} {size} {size_after} {size_end} {held} {first} {left} {second} {rest} a b = record {
  gone = a.gone ++ b.gone;
  parts = sym (append_assoc held first second) ∙ ap (λ bytes. bytes ++ second) a.parts ∙ append_assoc a.gone left second ∙ ap (λ bytes. a.gone ++ bytes) b.parts ∙ sym (append_assoc a.gone b.gone rest);
  visible = b.visible ∙ ap (option_map (λ bytes. bytes ++ b.gone)) a.visible ∙ visible_twice before a.gone b.gone;
  counted = subst (λ n. AddsBytes size n size_end) (sym (length-append a.gone b.gone))
      (AddsBytes-more size size_after size_end (length a.gone) (length b.gone) a.counted b.counted);
}

-- the first was sent, and the second stopped
pub stops_second : {before after end : Option (List ℕ)} {size size_after size_end : Option ℕ} {held first left second : List ℕ} → Sends before size held first after size_after left → Stops after size_after left second end size_end → Stops before size held (first ++ second) end size_end
stops_second {before} {after} {end} {size} {size_after} {size_end} {held} {first} {left} {second} a b =
    let both : held ++ (first ++ second) ≡ a.gone ++ (left ++ second) = sym (append_assoc held first second) ∙ ap (λ bytes. bytes ++ second) a.parts ∙ append_assoc a.gone left second in
    record {
      gone = a.gone ++ b.gone;
      lost = b.lost;
      parts = both ∙ ap (λ bytes. a.gone ++ bytes) b.parts ∙ sym (append_assoc a.gone b.gone b.lost);
      visible = b.visible ∙ ap (option_map (λ bytes. bytes ++ b.gone)) a.visible ∙ visible_twice before a.gone b.gone;
      counted = subst (λ n. AddsSome size n size_end) (sym (ap length both ∙ length-append a.gone (left ++ second)))
          (AddsSome-more size size_after size_end (length a.gone) (length (left ++ second)) a.counted b.counted);
    }

-- the first stopped, so both did
pub stops_first : {before end : Option (List ℕ)} {size size_end : Option ℕ} {held first : List ℕ} (second : List ℕ) → Stops before size held first end size_end → Stops before size held (first ++ second) end size_end
stops_first {before} {end} {size} {size_end} {held} {first} second a = record {
  gone = a.gone;
  lost = a.lost ++ second;
  parts = sym (append_assoc held first second) ∙ ap (λ bytes. bytes ++ second) a.parts ∙ append_assoc a.gone a.lost second;
  visible = a.visible;
  counted = AddsSome-less _ _ _ _ (omega (arith, length-append held first, length-append held (first ++ second), length-append first second)) a.counted;
}

-- a write of what is held
pub sends_from_write : (before after : Option (List ℕ)) (size size_after : Option ℕ) (held : List ℕ) → Appends before held after → AddsBytes size (length held) size_after → Sends before size held [] after size_after []
sends_from_write before after size size_after held e n = record { gone = held; parts = refl; visible = e; counted = n }

pub stops_from_write : (before after : Option (List ℕ)) (size size_after : Option ℕ) (held : List ℕ) → AppendsPrefix before held after → AddsSome size (length held) size_after → Stops before size held [] after size_after
stops_from_write before after size size_after held p n = record {
  gone = take p.0 held;
  lost = drop p.0 held;
  parts = append-nil held ∙ sym (take-append-drop p.0 held);
  visible = p.1;
  counted = subst (λ bytes. AddsSome size (length bytes) size_after) (sym (append-nil held)) n;
}

-- a write of a piece where nothing is held
pub sends_piece : (before after : Option (List ℕ)) (size size_after : Option ℕ) (piece : List ℕ) → Appends before piece after → AddsBytes size (length piece) size_after → Sends before size [] piece after size_after []
sends_piece before after size size_after piece e n = record { gone = piece; parts = sym (append-nil piece); visible = e; counted = n }

pub stops_piece : (before after : Option (List ℕ)) (size size_after : Option ℕ) (piece : List ℕ) → AppendsPrefix before piece after → AddsSome size (length piece) size_after → Stops before size [] piece after size_after
stops_piece before after size size_after piece p n = record {
  gone = take p.0 piece;
  lost = drop p.0 piece;
  parts = sym (take-append-drop p.0 piece);
  visible = p.1;
  counted = n;
}

-- no call, which refused nothing
no_cause : {T E : Type 0} (count : ℕ) (r : Result T E) → IsOk r → HasCause count count r
no_cause count (Err e) ok = cc
no_cause count (Ok x) ok = record { count = NeverFalls-refl count; failed = λ e. cc }

-- a text that is held and not written
pub has_sent_later : {O T E : Type 0} {written : O → Option (List ℕ)} {size : O → Option ℕ} {faults : O → ℕ} (out : O) (held text left : List ℕ) (r : Result T E) → IsOk r → left ≡ held ++ text → HasSent written size faults out held text out left r
has_sent_later out held text left (Err e) ok same = cc
has_sent_later {written = written} {size = size} {faults = faults} out held text left (Ok x) ok same = record {
  sent = sends_held (written out) (size out) held text left same;
  stopped = tt;
  cause = no_cause (faults out) (Ok x) ok;
}

-- no text
pub has_sent_nothing : {O T E : Type 0} {written : O → Option (List ℕ)} {size : O → Option ℕ} {faults : O → ℕ} (out : O) (held : List ℕ) (r : Result T E) → IsOk r → HasSent written size faults out held [] out held r
has_sent_nothing out held r ok = has_sent_later out held [] held r ok (sym (append-nil held))

-- the first text was sent, and then the call of the second answered
pub has_sent_then : {O T U E F : Type 0} {written : O → Option (List ℕ)} {size : O → Option ℕ} {faults : O → ℕ} {before after end : O} {held first left second rest : List ℕ} {x : T} {s : Result U F} → HasSent {E = E} written size faults before held first after left (Ok x) → HasSent written size faults after left second end rest s → HasSent written size faults before held (first ++ second) end rest s
has_sent_then {s = Ok y} a b = record {
  sent = sends_both a.sent b.sent;
  stopped = tt;
  cause = then-HasCause a.cause.count b.cause;
}
has_sent_then {s = Err e} a b = record {
  sent = tt;
  stopped = stops_second a.sent b.stopped;
  cause = then-HasCause a.cause.count b.cause;
}

-- a text stopped, and so did it with more behind it
pub has_stopped_more : {O T E : Type 0} {written : O → Option (List ℕ)} {size : O → Option ℕ} {faults : O → ℕ} {before after : O} {held first left : List ℕ} {r : Result T E} (second : List ℕ) → IsErr r → HasSent written size faults before held first after left r → HasSent written size faults before held (first ++ second) after left r
has_stopped_more {r = Ok y} second is a = cc
has_stopped_more {r = Err e} second is a = record {
  sent = tt;
  stopped = stops_first second a.stopped;
  cause = a.cause;
}

-- a text stopped, and the error was handed on
pub has_stopped : {O T U E F : Type 0} {written : O → Option (List ℕ)} {size : O → Option ℕ} {faults : O → ℕ} {before after : O} {held text left : List ℕ} {e : E} {rest : List ℕ} {s : Result U F} → IsErr s → HasSent {T = T} written size faults before held text after left (Err e) → HasSent written size faults before held text after rest s
has_stopped {s = Ok y} is a = cc
has_stopped {s = Err f} is a = record {
  sent = tt;
  stopped = a.stopped;
  cause = record { count = a.cause.count; failed = λ _. a.cause.failed refl };
}

-- a write of what is held, and of a piece where nothing is held
pub has_sent_held : {O T E : Type 0} {written : O → Option (List ℕ)} {size : O → Option ℕ} {faults : O → ℕ} {before after : O} {held : List ℕ} (r : Result T E) → OnOk r (Appends (written before) held (written after)) → OnOk r (AddsBytes (size before) (length held) (size after)) → OnErr r (AppendsPrefix (written before) held (written after)) → OnErr r (AddsSome (size before) (length held) (size after)) → HasCause (faults before) (faults after) r → HasSent written size faults before held [] after [] r
has_sent_held r appended counted prefix counted_prefix cause = record {
  sent = on_ok_both r (sends_from_write _ _ _ _ _) appended counted;
  stopped = on_err_both r (stops_from_write _ _ _ _ _) prefix counted_prefix;
  cause = cause;
}

pub has_sent_piece : {O T E : Type 0} {written : O → Option (List ℕ)} {size : O → Option ℕ} {faults : O → ℕ} {before after : O} {piece : List ℕ} (r : Result T E) → OnOk r (Appends (written before) piece (written after)) → OnOk r (AddsBytes (size before) (length piece) (size after)) → OnErr r (AppendsPrefix (written before) piece (written after)) → OnErr r (AddsSome (size before) (length piece) (size after)) → HasCause (faults before) (faults after) r → HasSent written size faults before [] piece after [] r
has_sent_piece r appended counted prefix counted_prefix cause = record {
  sent = on_ok_both r (sends_piece _ _ _ _ _) appended counted;
  stopped = on_err_both r (stops_piece _ _ _ _ _) prefix counted_prefix;
  cause = cause;
}

-- the call answered something else
pub has_answered : {O T U E : Type 0} {written : O → Option (List ℕ)} {size : O → Option ℕ} {faults : O → ℕ} {before after : O} {held text left : List ℕ} {x : T} (y : U) → HasSent {E = E} written size faults before held text after left (Ok x) → HasSent {E = E} written size faults before held text after left (Ok y)
has_answered y sent = record {
  sent = sent.sent;
  stopped = tt;
  cause = record { count = sent.cause.count; failed = λ e. cc };
}

-- what stands on the sink where nothing was held before and is held now, and where the sending stopped
pub appends_from_sends : {before after : Option (List ℕ)} {size size_after : Option ℕ} {text left : List ℕ} → left ≡ [] → Sends before size [] text after size_after left → Appends before text after
appends_from_sends {before} {after} {size} {size_after} {text} {left} none sent =
    let gone : sent.gone ≡ text = sym (append-nil sent.gone) ∙ ap (λ rest. sent.gone ++ rest) (sym none) ∙ sym sent.parts in
    sent.visible ∙ ap (λ bytes. option_map (λ held. held ++ bytes) before) gone

-- and how many bytes were counted
pub adds_from_sends : {before after : Option (List ℕ)} {size size_after : Option ℕ} {text left : List ℕ} → left ≡ [] → Sends before size [] text after size_after left → AddsBytes size (length text) size_after
adds_from_sends {before} {after} {size} {size_after} {text} {left} none sent =
    let gone : sent.gone ≡ text = sym (append-nil sent.gone) ∙ ap (λ rest. sent.gone ++ rest) (sym none) ∙ sym sent.parts in
    subst (λ bytes. AddsBytes size (length bytes) size_after) gone sent.counted

-- and how many bytes were counted where it stopped
pub some_from_stops : {before after : Option (List ℕ)} {size size_after : Option ℕ} {text : List ℕ} → Stops before size [] text after size_after → AddsSome size (length text) size_after
some_from_stops stopped = stopped.counted

pub prefix_from_stops : {before after : Option (List ℕ)} {size size_after : Option ℕ} {text : List ℕ} → Stops before size [] text after size_after → AppendsPrefix before text after
prefix_from_stops {before} {after} {size} {size_after} {text} stopped =
    let gone : take (length stopped.gone) text ≡ stopped.gone = ap (take (length stopped.gone)) stopped.parts ∙ take-append_seam stopped.gone stopped.lost in
    (length stopped.gone, stopped.visible ∙ ap (λ bytes. option_map (λ held. held ++ bytes) before) (sym gone))
