use Rattle.std.proofs.Common.{arith, sym, ◌∙◌}
use Rattle.std.proofs.lemmas.Bool.{false≢true}
use Rattle.std.proofs.lemmas.Grind.{common_steps}
use Rattle.oe_window.specs.Windows.{span_length}
use Rattle.oe_window.proofs.WindowLemmas.{length-positions, numbered, count_of_empty, partial_products, filled_unless_empty}
use Rattle.oe_window.proofs.window.size.Goals as goal

pub returns-then-is_empty-clause-value : goal.returns-then-is_empty-clause-value
returns-then-is_empty-clause-value c = sym (count_of_empty c.args.window.now (c.is_empty.ensures.0 c.if-is_empty.true))

pub returns-then-is_empty-clause-listed : goal.returns-then-is_empty-clause-listed
returns-then-is_empty-clause-listed c =
    sym (length-positions c.args.window.now ∙ count_of_empty c.args.window.now (c.is_empty.ensures.0 c.if-is_empty.true))

pub returns-then-is_empty-clause-numbered : goal.returns-then-is_empty-clause-numbered
returns-then-is_empty-clause-numbered c k p = numbered c.args.window.now k p

pub overflow_mul-result : goal.overflow_mul-result
overflow_mul-result c =
    let w = c.args.window.now in
    let f = filled_unless_empty w (λ e. false≢true (sym c.if-is_empty.false ∙ c.is_empty.ensures.1 e)) in
    let y = f.y in
    let x = f.x in
    let fits = partial_products (span_length w.t) (span_length w.bands) (span_length w.y) (span_length w.x) _ (omega arith) (omega arith) c.requires in
    rw (c.length.ensures, c.length-2.ensures) (omega (arith, fits.0))

pub overflow_mul-result-2 : goal.overflow_mul-result-2
overflow_mul-result-2 c =
    let w = c.args.window.now in
    let f = filled_unless_empty w (λ e. false≢true (sym c.if-is_empty.false ∙ c.is_empty.ensures.1 e)) in
    let y = f.y in
    let x = f.x in
    let fits = partial_products (span_length w.t) (span_length w.bands) (span_length w.y) (span_length w.x) _ (omega arith) (omega arith) c.requires in
    rw (c.length.ensures, c.length-2.ensures, c.length-3.ensures) (omega (arith, fits.1))

pub returns-clause-listed : goal.returns-clause-listed
returns-clause-listed c =
    rw (c.length.ensures, c.length-2.ensures, c.length-3.ensures, c.length-4.ensures) (sym (length-positions c.args.window.now))

pub returns-clause-numbered : goal.returns-clause-numbered
returns-clause-numbered c k p = numbered c.args.window.now k p

pub returns-clause-empty : goal.returns-clause-empty
returns-clause-empty c = grind (arith, common_steps) steps 2000000

pub returns-then-is_empty-clause-empty : goal.returns-then-is_empty-clause-empty
returns-then-is_empty-clause-empty c = grind (arith, common_steps) steps 2000000
