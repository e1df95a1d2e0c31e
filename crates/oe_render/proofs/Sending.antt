-- What follows from rendering one text after another.
use Rattle.std.proofs.Common.{◌≡◌, ◌≢◌, ◌+◌, ◌*◌, ◌-◌, ◌≤◌, inl, inr, OnOk, OnErr, IsErrAnd, codes, ℕ, List, [], ◌++◌, length, map, Option, refl, sym, ap, ◌∙◌, subst, arith, Result, Ok, Err}
use Rattle.std.proofs.lemmas.List.{length-map, map-append}
use Rattle.std.specs.Result.{IsErrOf}
use Rattle.oe_outside.specs.Faults.{Rose, HasCause}
use Rattle.oe_outside.specs.Visible.{AddsSome}
use Rattle.oe_outside.proofs.Runs.{AddsBytes-none}
use Rattle.oe_outside.specs.Stream.{Sends, Stops, HasSent}
use Rattle.oe_outside.specs.declared.failed.Failed.{Failed}
use Rattle.oe_outside.proofs.Causes.{NeverFalls-refl, NeverFalls-trans, then-Rose}
use Rattle.oe_outside.proofs.Streams.{sends_both, sends_nothing, stops_first, stops_second, visible_nothing, appends_from_sends, adds_from_sends, prefix_from_stops, some_from_stops}
use Rattle.oe_cell.specs.Spelling.{cell_text}
use Rattle.oe_cell.specs.declared.cell.Cell.{Cell}
use Rattle.oe_dims.specs.Dimensions.{Dimensions, cell_count}
use Rattle.oe_render.proofs.Records.{AreStored-both, HasCells-part, some_cells}
use Rattle.oe_render.proofs.Texts.{listed_is_more, more_both}
use Rattle.oe_render.specs.Rendered.{AppendsCube, AppendsCubePrefix, CountsCube, CountsCubePrefix, HasRendered, HasSentStored, sink_answer}
use Rattle.oe_render.specs.Stored.{AreStored, HasCells}
use Rattle.oe_render.specs.Text.{cube_text, head_text, more_text}
use Rattle.oe_render.specs.declared.rendering.RenderFail.{RenderFail}
use Rattle.oe_render.specs.declared.rendering.RenderFail.TheVariants.{SinkFailed}

-- a text that was sent, or whose sending stopped
pub rendered_from_sent : {O T : Type 0} {written : O → Option (List ℕ)} {size : O → Option ℕ} {faults : O → ℕ} {before after : O} {held text left : List ℕ} (r : Result T Failed) → HasSent written size faults before held text after left r → HasRendered written size faults before held text after left (sink_answer r)
rendered_from_sent (Ok x) h = record { sent = h.sent; stopped = tt; cause = record { count = h.cause.count; failed = λ e. cc } }
rendered_from_sent (Err e) h = record { sent = tt; stopped = h.stopped; cause = record { count = h.cause.count; failed = λ _. h.cause.failed refl } }

-- the first text was sent, and then the call of the second answered
pub rendered_then : {O T U : Type 0} {written : O → Option (List ℕ)} {size : O → Option ℕ} {faults : O → ℕ} {before after end : O} {held first left second rest : List ℕ} {x : T} {s : Result U RenderFail} → HasRendered written size faults before held first after left (Ok x) → HasRendered written size faults after left second end rest s → HasRendered written size faults before held (first ++ second) end rest s
rendered_then {s = Ok y} a b = record {
  sent = sends_both a.sent b.sent;
  stopped = tt;
  cause = record { count = NeverFalls-trans a.cause.count b.cause.count; failed = λ e. cc };
}
rendered_then {s = Err e} a b = record {
  sent = tt;
  stopped = stops_second a.sent b.stopped;
  cause = record { count = NeverFalls-trans a.cause.count b.cause.count; failed = λ is. then-Rose a.cause.count (b.cause.failed is) };
}

-- a text stopped, and so did it with more behind it
pub rendered_part : {O T : Type 0} {written : O → Option (List ℕ)} {size : O → Option ℕ} {faults : O → ℕ} {before after : O} {held first left : List ℕ} {e : RenderFail} (second : List ℕ) → HasRendered {T = T} written size faults before held first after left (Err e) → HasRendered {T = T} written size faults before held (first ++ second) after left (Err e)
rendered_part second a = record { sent = tt; stopped = stops_first second a.stopped; cause = a.cause }

-- the error was handed on
pub rendered_on : {O T U : Type 0} {written : O → Option (List ℕ)} {size : O → Option ℕ} {faults : O → ℕ} {before after : O} {held text left rest : List ℕ} {e : RenderFail} → HasRendered {T = T} written size faults before held text after left (Err e) → HasRendered {T = U} written size faults before held text after rest (Err e)
rendered_on a = record {
  sent = tt;
  stopped = a.stopped;
  cause = record { count = a.cause.count; failed = λ is. a.cause.failed (same is) };
}
  where
    same : {T U : Type 0} {e : RenderFail} → IsErrOf {T = U} (Err e) SinkFailed → IsErrOf {T = T} (Err e) SinkFailed
    same is = cc

counts_nothing : (size : Option ℕ) (n : ℕ) → AddsSome size n size
counts_nothing size n = (0, omega arith, AddsBytes-none size)

-- the sink was not reached
pub rendered_nothing : {O T : Type 0} {written : O → Option (List ℕ)} {size : O → Option ℕ} {faults : O → ℕ} (out : O) (held text left : List ℕ) (e : RenderFail) → e ≢ SinkFailed → HasRendered {T = T} written size faults out held text out left (Err e)
rendered_nothing {O} {T} {written} {size} {faults} out held text left e other = record {
  sent = tt;
  stopped = record { gone = []; lost = held ++ text; parts = refl; visible = visible_nothing (written out); counted = counts_nothing (size out) (length (held ++ text)) };
  cause = record { count = NeverFalls-refl (faults out); failed = λ is. absurd (other (error_of is)) };
}
  where
    error_of : {e : RenderFail} → IsErrOf {T = T} (Err e) SinkFailed → e ≡ SinkFailed
    error_of is = cc

-- no text
pub rendered_none : {O T : Type 0} {written : O → Option (List ℕ)} {size : O → Option ℕ} {faults : O → ℕ} (out : O) (held : List ℕ) (x : T) → HasRendered written size faults out held [] out held (Ok x)
rendered_none {written = written} {size = size} {faults = faults} out held x = record {
  sent = sends_nothing (written out) (size out) held;
  stopped = tt;
  cause = record { count = NeverFalls-refl (faults out); failed = λ e. cc };
}

-- ---- of the cells that stand in a store

text_both : (k : ℕ) (xs ys : List Cell) → length xs ≡ k → more_text 0 (map cell_text (xs ++ ys)) ≡ more_text 0 (map cell_text xs) ++ more_text k (map cell_text ys)
text_both k xs ys counted =
    let long : 0 + length (map cell_text xs) ≡ k = omega (arith, length-map xs cell_text) in
    ap (more_text 0) (map-append cell_text xs ys)
    ∙ more_both 0 (map cell_text xs) (map cell_text ys)
    ∙ ap (λ n. more_text 0 (map cell_text xs) ++ more_text n (map cell_text ys)) long

-- some cells were sent, and then the call that sends more answered
pub stored_then : {O T U : Type 0} {store : Option (List ℕ)} {at k m : ℕ} {written : O → Option (List ℕ)} {size : O → Option ℕ} {faults : O → ℕ} {before after end : O} {held left rest : List ℕ} {x : T} {s : Result U RenderFail} → HasSentStored store at k 0 written size faults before held after left (Ok x) → HasSentStored store (at + 17 * k) m k written size faults after left end rest s → HasSentStored store at (k + m) 0 written size faults before held end rest s
stored_then {O} {T} {U} {store} {at} {k} {m} {written} {size} {faults} {before} {after} {end} {held} {left} {rest} {x} {s} a b =
    let first : AreStored store at k a.0 = a.1 in
    (a.0 ++ b.0, AreStored-both a.1 b.1, subst (λ text. HasRendered written size faults before held text end rest s) (sym (text_both k a.0 b.0 first.counted)) (rendered_then a.2 b.2))

-- what `?` hands on is the error that came
that_error : {T E : Type 0} {e : E} (r : Result T E) → IsErrAnd r (λ x. x ≡ e) → r ≡ Err e
that_error (Ok x) is = absurd is
that_error (Err x) is = ap Err is

-- no cell was sent
pub stored_nothing : {O T : Type 0} {store : Option (List ℕ)} {at m index : ℕ} {written : O → Option (List ℕ)} {size : O → Option ℕ} {faults : O → ℕ} {e : RenderFail} (out : O) (held left : List ℕ) (r : Result T RenderFail) → HasCells store at m → IsErrAnd r (λ x. x ≡ e) → e ≢ SinkFailed → HasSentStored store at m index written size faults out held out left r
stored_nothing {O} {T} {store} {at} {m} {index} {written} {size} {faults} {e} out held left r has is other =
    let cells = some_cells store at m has in
    let text = more_text index (map cell_text cells.0) in
    (cells.0, cells.1, subst (λ s. HasRendered written size faults out held text out left s) (sym (that_error r is)) (rendered_nothing out held text left e other))

-- the next cells were sent
pub stored_next : {O T U : Type 0} {store other : Option (List ℕ)} {at k m n : ℕ} {written : O → Option (List ℕ)} {size : O → Option ℕ} {faults : O → ℕ} {before after end : O} {held left rest : List ℕ} {x : T} {s : Result U RenderFail} → other ≡ store → n ≡ m → HasSentStored store at k 0 written size faults before held after left (Ok x) → HasSentStored other (at + 17 * k) n k written size faults after left end rest s → HasSentStored store at (k + m) 0 written size faults before held end rest s
stored_next {O} {T} {U} {store} {other} {at} {k} {m} {n} {written} {size} {faults} {before} {after} {end} {held} {left} {rest} {x} {s} same count a b =
    stored_then a (subst (λ i. HasSentStored store (at + 17 * k) i k written size faults after left end rest s) count (subst (λ st. HasSentStored st (at + 17 * k) n k written size faults after left end rest s) same b))

-- the sending of some cells stopped, and so did that of all
pub stored_stops : {O T U V : Type 0} {store other : Option (List ℕ)} {at k m n : ℕ} (count : ℕ) {written : O → Option (List ℕ)} {size : O → Option ℕ} {faults : O → ℕ} {before after end : O} {held left rest : List ℕ} {x : T} {e : RenderFail} (r : Result V RenderFail) → other ≡ store → n ≡ m → k + m ≤ count → HasCells store at count → HasSentStored store at k 0 written size faults before held after left (Ok x) → HasSentStored {T = U} other (at + 17 * k) n k written size faults after left end rest (Err e) → IsErrAnd r (λ x. x ≡ e) → HasSentStored store at count 0 written size faults before held end rest r
stored_stops {O} {T} {U} {V} {store} {other} {at} {k} {m} {n} count {written} {size} {faults} {before} {after} {end} {held} {left} {rest} {x} {e} r same given within has a b is =
    let done = stored_next {m = m} same given a b in
    let first : AreStored store at (k + m) done.0 = done.1 in
    let all : k + m + (count - (k + m)) ≡ count = omega (arith, within) in
    let more = some_cells store (at + 17 * (k + m)) (count - (k + m)) (HasCells-part store at count (k + m) (count - (k + m)) (omega (arith, within)) has) in
    let cells = done.0 ++ more.0 in
    let text = more_text 0 (map cell_text cells) in
    let stopped = rendered_on {U = V} (rendered_part (more_text (k + m) (map cell_text more.0)) done.2) in (
      cells,
      subst (λ c. AreStored store at c cells) all (AreStored-both first more.1),
      subst (λ s. HasRendered written size faults before held text end rest s) (sym (that_error r is))
          (subst (λ t. HasRendered {T = V} written size faults before held t end rest (Err e)) (sym (text_both (k + m) done.0 more.0 first.counted)) stopped),
    )

-- ---- what is pending is dropped by a write to a sink that never fails

never_rose : Rose 0 0 → ⊥
never_rose (inl h) = omega arith
never_rose (inr e) = omega arith

pub emptied : {T E P : Type 0} (r : Result T E) → HasCause 0 0 r → OnOk r P → P
emptied (Ok x) cause p = p
emptied (Err e) cause p = absurd (never_rose (cause.failed refl))

-- ---- the whole text

-- a text that was sent before an answer of no fault
pub sent_before : {O U : Type 0} {written : O → Option (List ℕ)} {size : O → Option ℕ} {faults : O → ℕ} {before after : O} {held text left : List ℕ} {x : U} (r : Result U Failed) → Ok x ≡ sink_answer r → held ≡ [] → HasSent written size faults before held text after left r → Sends (written before) (size before) [] text (written after) (size after) left
sent_before {written = written} {size = size} {before = before} {after = after} {text = text} {left = left} (Ok y) is none h = subst (λ held. Sends (written before) (size before) held text (written after) (size after) left) none h.sent
sent_before (Err e) is none h = cc

pub stopped_before : {O U : Type 0} {written : O → Option (List ℕ)} {size : O → Option ℕ} {faults : O → ℕ} {before after : O} {held text left : List ℕ} {e : RenderFail} (r : Result U Failed) → Err e ≡ sink_answer r → held ≡ [] → HasSent written size faults before held text after left r → Stops (written before) (size before) [] text (written after) (size after)
stopped_before (Ok y) is none h = cc
stopped_before {written = written} {size = size} {before = before} {after = after} {text = text} (Err f) is none h = subst (λ held. Stops (written before) (size before) held text (written after) (size after)) none h.stopped

cube_text-parts : (shape : Dimensions) (cells : List Cell) → head_text shape ++ more_text 0 (map cell_text cells) ++ codes "]}" ≡ cube_text (record { shape = shape; cells = cells })
unfolding cube_text
cube_text-parts shape cells = ap (λ text. head_text shape ++ text ++ codes "]}") (sym (listed_is_more (map cell_text cells)))

on_err : {T E P : Type 0} (r : Result T E) → P → OnErr r P
on_err (Ok x) p = tt
on_err (Err e) p = p

-- where all was sent: the cells, and the whole text that was sent
sends_cube : {O T U : Type 0} {store : Option (List ℕ)} {at : ℕ} (shape : Dimensions) {written : O → Option (List ℕ)} {size : O → Option ℕ} {faults : O → ℕ} {before : Option (List ℕ)} {count : Option ℕ} {first second end : O} {left next rest : List ℕ} {x : T} {y : U} → Sends before count [] (head_text shape) (written first) (size first) left → HasSentStored store at (cell_count shape) 0 written size faults first left second next (Ok y) → HasSent {E = Failed} written size faults second next (codes "]}") end rest (Ok x) → (cells : List Cell) × AreStored store at (cell_count shape) cells × Sends before count [] (cube_text (record { shape = shape; cells = cells })) (written end) (size end) rest
sends_cube shape {written = written} {size = size} {before = before} {count = count} {end = end} {rest = rest} head cells last =
    (cells.0, cells.1, subst (λ text. Sends before count [] text (written end) (size end) rest) (cube_text-parts shape cells.0) (sends_both (sends_both head cells.2.sent) last.sent))

-- the text follows what was written, and is counted
pub appends_cube : {O T U : Type 0} {store : Option (List ℕ)} {at : ℕ} (shape : Dimensions) {written : O → Option (List ℕ)} {size : O → Option ℕ} {faults : O → ℕ} {before : Option (List ℕ)} {count : Option ℕ} {first second end : O} {left next rest : List ℕ} {y : U} (r : Result T Failed) (s : Result T RenderFail) → s ≡ sink_answer r → Sends before count [] (head_text shape) (written first) (size first) left → HasSentStored store at (cell_count shape) 0 written size faults first left second next (Ok y) → HasSent written size faults second next (codes "]}") end rest r → OnOk r (rest ≡ []) → OnOk s (AppendsCube store at shape before (written end))
appends_cube shape (Ok z) s is head cells last empty =
    let all = sends_cube shape head cells last in
    rw is (all.0, all.1, appends_from_sends empty all.2)
appends_cube shape (Err z) s is head cells last empty = rw is tt

pub counts_cube : {O T U : Type 0} {store : Option (List ℕ)} {at : ℕ} (shape : Dimensions) {written : O → Option (List ℕ)} {size : O → Option ℕ} {faults : O → ℕ} {before : Option (List ℕ)} {count : Option ℕ} {first second end : O} {left next rest : List ℕ} {y : U} (r : Result T Failed) (s : Result T RenderFail) → s ≡ sink_answer r → Sends before count [] (head_text shape) (written first) (size first) left → HasSentStored store at (cell_count shape) 0 written size faults first left second next (Ok y) → HasSent written size faults second next (codes "]}") end rest r → OnOk r (rest ≡ []) → OnOk s (CountsCube store at shape count (size end))
counts_cube shape (Ok z) s is head cells last empty =
    let all = sends_cube shape head cells last in
    rw is (all.0, all.1, adds_from_sends empty all.2)
counts_cube shape (Err z) s is head cells last empty = rw is tt

-- the sending of the text of some stored cells stopped
pub record StopsCube (store : Option (List ℕ)) (at : ℕ) (shape : Dimensions) (before : Option (List ℕ)) (count : Option ℕ) (after : Option (List ℕ)) (count_after : Option ℕ) : Type 0 where
  pub cells : List Cell
  pub stored : AreStored store at (cell_count shape) cells
  pub stopped : Stops before count [] (cube_text (record { shape = shape; cells = cells })) after count_after

-- so a prefix of it was written, and counted
pub cube_prefix : {store : Option (List ℕ)} {at : ℕ} {shape : Dimensions} {before after : Option (List ℕ)} {count count_after : Option ℕ} → StopsCube store at shape before count after count_after → AppendsCubePrefix store at shape before after
cube_prefix stops = (stops.cells, stops.stored, prefix_from_stops stops.stopped)

pub cube_count : {store : Option (List ℕ)} {at : ℕ} {shape : Dimensions} {before after : Option (List ℕ)} {count count_after : Option ℕ} → StopsCube store at shape before count after count_after → CountsCubePrefix store at shape count count_after
cube_count stops = (stops.cells, stops.stored, some_from_stops stops.stopped)

-- where the end stopped
pub stops_at_end : {O T U : Type 0} {store : Option (List ℕ)} {at : ℕ} (shape : Dimensions) {written : O → Option (List ℕ)} {size : O → Option ℕ} {faults : O → ℕ} {before : Option (List ℕ)} {count : Option ℕ} {first second end : O} {left next rest : List ℕ} {y : U} (r : Result T Failed) (s : Result T RenderFail) → s ≡ sink_answer r → Sends before count [] (head_text shape) (written first) (size first) left → HasSentStored store at (cell_count shape) 0 written size faults first left second next (Ok y) → HasSent written size faults second next (codes "]}") end rest r → OnErr s (StopsCube store at shape before count (written end) (size end))
stops_at_end shape (Ok z) s is head cells last = rw is tt
stops_at_end shape {written = written} {size = size} {before = before} {count = count} {end = end} (Err z) s is head cells last =
    rw is (record {
      cells = cells.0;
      stored = cells.1;
      stopped = subst (λ text. Stops before count [] text (written end) (size end)) (cube_text-parts shape cells.0) (stops_second (sends_both head cells.2.sent) last.stopped);
    })

-- where the cells stopped
pub stops_at_cells : {O T U : Type 0} {store : Option (List ℕ)} {at : ℕ} (shape : Dimensions) {written : O → Option (List ℕ)} {size : O → Option ℕ} {faults : O → ℕ} {before : Option (List ℕ)} {count : Option ℕ} {first second : O} {left next : List ℕ} {e : RenderFail} (s : Result T RenderFail) → Sends before count [] (head_text shape) (written first) (size first) left → HasSentStored {T = U} store at (cell_count shape) 0 written size faults first left second next (Err e) → OnErr s (StopsCube store at shape before count (written second) (size second))
stops_at_cells shape {written = written} {size = size} {before = before} {count = count} {second = second} s head cells =
    on_err s (record {
      cells = cells.0;
      stored = cells.1;
      stopped = subst (λ text. Stops before count [] text (written second) (size second)) (cube_text-parts shape cells.0) (stops_first (codes "]}") (stops_second head cells.2.stopped));
    })

-- where the front stopped
pub stops_at_front : {T : Type 0} (store : Option (List ℕ)) (at : ℕ) (shape : Dimensions) {before after : Option (List ℕ)} {count count_after : Option ℕ} (s : Result T RenderFail) → HasCells store at (cell_count shape) → Stops before count [] (head_text shape) after count_after → OnErr s (StopsCube store at shape before count after count_after)
stops_at_front store at shape {before} {after} {count} {count_after} s has stopped =
    let cells = some_cells store at (cell_count shape) has in
    on_err s (record {
      cells = cells.0;
      stored = cells.1;
      stopped = subst (λ text. Stops before count [] text after count_after) (cube_text-parts shape cells.0) (stops_first (codes "]}") (stops_first (more_text 0 (map cell_text cells.0)) stopped));
    })
