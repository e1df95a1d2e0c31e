-- What is sent of the records in a spool, row by row and chunk by chunk.
use Rattle.std.proofs.Common.{◌≡◌, ℕ, ◌+◌, ◌-◌, ◌*◌, ◌<◌, List, [], ◌++◌, length, take, drop, Option, Result, Ok, Err, OnOk, OnErr, sym, ap, ◌∙◌, subst, arith}
use Rattle.std.specs.List.{All}
use Rattle.std.proofs.lemmas.Grind.{flat_map-append}
use Rattle.std.proofs.lemmas.List.{take-append-drop}
use Rattle.oe_cell.specs.Cells.{IsCell}
use Rattle.oe_cell.specs.Record.{record_of, records_of}
use Rattle.oe_cell.specs.declared.cell.Cell.{Cell}
use Rattle.oe_cell.specs.declared.cell.Cell.TheVariants.{Empty}
use Rattle.oe_dims.specs.Cube.{Cube}
use Rattle.oe_dims.specs.Dimensions.{Dimensions}
use Rattle.oe_dims.specs.Positions.{Position}
use Rattle.oe_outside.specs.Faults.{HasCauseOf, NeverFalls}
use Rattle.oe_outside.specs.declared.failed.Failed.{Failed}
use Rattle.oe_outside.proofs.Causes.{NeverFalls-trans, then-Rose}
use Rattle.oe_render.specs.Rendered.{HasRendered, sink_answer}
use Rattle.oe_render.specs.declared.rendering.RenderFail.{RenderFail}
use Rattle.oe_render.specs.declared.rendering.RenderFail.TheVariants.{SpoolFailed, SpoolDamaged, SinkFailed}
use Rattle.oe_render.proofs.Sending.{rendered_part, rendered_then}
use Rattle.oe_window.specs.Cells.{cells_on}
use Rattle.oe_window.specs.Parts.{row_count, row_of}
use Rattle.oe_window.specs.Windows.{IsIn, position_count, span_length}
use Rattle.oe_window.specs.declared.window.Window.{Window}
use Rattle.oe_window.proofs.CellLemmas.{length-cells_on}
use Rattle.oe_parts.specs.Rows.{HasNumbersFrom, Shows}
use Rattle.oe_parts.specs.Spooled.{ShowsRecords, TellsNoRecord, TellsNoRecordFrom}
use Rattle.oe_parts.proofs.ShownLemmas.{position_of, row_inside, row_shown, row_valid, shown_fewer}

-- ---- a row

-- the cells of a row, which the spool shows
pub record IsRowText (store : Option (List ℕ)) (base first n : ℕ) (cube : Cube Cell) (w row : Window) : Type 0 where
  pub valid : All IsCell (cells_on Empty cube (row_of w n))
  pub long : length (cells_on Empty cube (row_of w n)) ≡ position_count row
  pub shown : Shows store (base + 17 * first) (cells_on Empty cube (row_of w n))

pub row_text : (store : Option (List ℕ)) (base first n : ℕ) (cube : Cube Cell) (d : Dimensions) (w row : Window) → cube.shape ≡ d → row ≡ row_of w n → HasNumbersFrom d row first → n < row_count w → ShowsRecords store base cube (IsIn w) → IsRowText store base first n cube w row
row_text store base first n cube d w row same is numbers below shown =
    let r = row_of w n in
    let here : ShowsRecords store base cube (IsIn r) = shown_fewer store base cube (IsIn w) (IsIn r) (row_inside w n below) shown in
    let numbers_r : HasNumbersFrom d r first = subst (λ (v : Window). HasNumbersFrom d v first) is numbers in
    record {
      valid = row_valid store base cube r here;
      long = length-cells_on Empty cube r ∙ ap position_count (sym is);
      shown = row_shown store base first cube r (subst (λ (e : Dimensions). HasNumbersFrom e r first) (sym same) numbers_r) here;
    }

pub row_refuses : (store : Option (List ℕ)) (base first n : ℕ) (d : Dimensions) (w row : Window) (fail : RenderFail) → row ≡ row_of w n → HasNumbersFrom d row first → n < row_count w → TellsNoRecordFrom store base first (first + position_count row) fail → TellsNoRecord store base d (IsIn w) fail
row_refuses store base first n d w row SpoolFailed is numbers below h = tt
row_refuses store base first n d w row SinkFailed is numbers below h = tt
row_refuses store base first n d w row (SpoolDamaged number) is numbers below h =
    let j = number - first in
    let short : j < position_count row = omega (arith, h.0, h.1) in
    let found = position_of d row first j numbers short in
    let number_is = found.1.number_is in
    let inside : IsIn (row_of w n) found.0 = subst (λ (v : Window). IsIn v found.0) is found.1.inside in
    (found.0, row_inside w n below found.0 inside, omega (arith, number_is, h.0), h.2)

-- ---- rows and chunks one behind the other

pub none_taken : (n : ℕ) (cells : List Cell) → records_of (take (0 * n) cells) ≡ []
none_taken n cells = let none : 0 * n ≡ 0 = omega arith in ap (λ (m : ℕ). records_of (take m cells)) none

rest_of : (m : ℕ) (cells : List Cell) → records_of cells ≡ records_of (take m cells) ++ records_of (drop m cells)
rest_of m cells = ap records_of (sym (take-append-drop m cells)) ∙ flat_map-append record_of (take m cells) (drop m cells)

module _ {O : Type 0} (written : O → Option (List ℕ)) (size : O → Option ℕ) (faults : O → ℕ) (before between after : O) (held left rest : List ℕ) where
  -- one more text was sent
  pub text_more : (first second both : List ℕ) → both ≡ first ++ second → HasRendered written size faults before held first between left (Ok (tt {0})) → HasRendered written size faults between left second after rest (Ok (tt {0})) → HasRendered written size faults before held both after rest (Ok (tt {0}))
  text_more first second both is a b = subst (λ (t : List ℕ). HasRendered written size faults before held t after rest (Ok (tt {0}))) (sym is) (rendered_then a b)

  -- the next one stopped, and so did all
  pub text_stops : (first second both more all : List ℕ) (fail : RenderFail) → both ≡ first ++ second → all ≡ both ++ more → HasRendered written size faults before held first between left (Ok (tt {0})) → HasRendered {T = Unit {0}} written size faults between left second after rest (Err fail) → HasRendered {T = Unit {0}} written size faults before held all after rest (Err fail)
  text_stops first second both more all fail is all_is a b =
      subst (λ (t : List ℕ). HasRendered {T = Unit {0}} written size faults before held t after rest (Err fail)) (sym all_is)
      (rendered_part more (subst (λ (t : List ℕ). HasRendered {T = Unit {0}} written size faults before held t after rest (Err fail)) (sym is) (rendered_then a b)))

pub rows_rest : (cube : Cube Cell) (w : Window) (n : ℕ) → records_of (cells_on Empty cube w) ≡ records_of (take ((n + 1) * span_length w.x) (cells_on Empty cube w)) ++ records_of (drop ((n + 1) * span_length w.x) (cells_on Empty cube w))
rows_rest cube w n = rest_of ((n + 1) * span_length w.x) (cells_on Empty cube w)

-- ---- refusals

-- some positions more
pub refuses_more : (store : Option (List ℕ)) (base : ℕ) (d : Dimensions) (a b : Position → Type 0) (fail : RenderFail) → ((p : Position) → a p → b p) → TellsNoRecord store base d a fail → TellsNoRecord store base d b fail
refuses_more store base d a b SpoolFailed more h = tt
refuses_more store base d a b SinkFailed more h = tt
refuses_more store base d a b (SpoolDamaged number) more h = (h.0, more h.0 h.1, h.2, h.3)

pub cause_then : {T E : Type 0} {error : E} {a b c : ℕ} {r : Result T E} → NeverFalls a b → HasCauseOf error b c r → HasCauseOf error a c r
cause_then before cause = record { count = NeverFalls-trans before cause.count; failed = λ is. then-Rose before (cause.failed is) }

-- what holds where the sink took a text holds of what is answered for it
pub on_sink_ok : {T : Type 0} (P : Type 0) (r : Result T Failed) (s : Result T RenderFail) → s ≡ sink_answer r → OnOk r P → OnOk s P
on_sink_ok P (Ok x) s is p = rw is p
on_sink_ok P (Err e) s is p = rw is tt

pub on_sink_err : {T : Type 0} (P : Type 0) (r : Result T Failed) (s : Result T RenderFail) → s ≡ sink_answer r → OnErr r P → OnErr s P
on_sink_err P (Ok x) s is p = rw is tt
on_sink_err P (Err e) s is p = rw is p

pub on_ok_then : {T E P Q : Type 0} (r : Result T E) → (P → Q) → OnOk r P → OnOk r Q
on_ok_then (Ok x) f p = f p
on_ok_then (Err e) f p = tt

pub on_err_then : {T E P Q : Type 0} (r : Result T E) → (P → Q) → OnErr r P → OnErr r Q
on_err_then (Ok x) f p = tt
on_err_then (Err e) f p = f p
