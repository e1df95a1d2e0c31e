use Rattle.std.proofs.Common.{◌≡◌, ◌+◌, ◌-◌, ◌*◌, ◌/◌, ◌%◌, ◌<◌, ◌≤◌, ap, ◌∙◌, arith}
use Rattle.oe_window.specs.declared.window.Span.{Span}
use Rattle.oe_sources.proofs.RepackLemmas.{band_below, high_enough, one_fits, planes_next, row_below, rows_next, some_fit, some_product}
use Rattle.oe_sources.proofs.repacking.part_from.Goals as goal

pub returns-then-row-eq0 : goal.returns-then-row-eq0
returns-then-row-eq0 c =
    let s = c.args.sides in
    let done = c.args.done in
    let high = high_enough done s.bands s.y c.requires.inside in
    let below = band_below done s.bands s.y c.requires.inside in
    let left : 0 < s.bands - done / s.y = omega (arith, below) in
    let few : c.min-bands.result * (s.y * s.x) ≤ 65536 = rw c.min-bands.ensures (some_fit 65536 (s.y * s.x) (s.bands - done / s.y)) in
    let some : 0 < c.min-bands.result = rw c.min-bands.ensures (one_fits 65536 (s.y * s.x) (s.bands - done / s.y) (some_product s.y s.x high c.requires.some) c.if-plane-le-CELLS.true left) in
    let plus : 0 + s.y ≡ s.y = omega arith in
    planes_next s c.args.section done c.min-bands.result c.window_at.result high c.requires.some c.if-row-eq0.true c.window_at.ensures.t_from c.window_at.ensures.t_to
    (ap (λ (span : Span). span.from) c.window_at.ensures.bands ∙ c.span.ensures.first)
    (ap (λ (span : Span). span.to) c.window_at.ensures.bands ∙ c.span.ensures.end)
    (ap (λ (span : Span). span.from) c.window_at.ensures.y ∙ c.span-then-row-eq0.ensures.first)
    (ap (λ (span : Span). span.to) c.window_at.ensures.y ∙ c.span-then-row-eq0.ensures.end ∙ plus)
    c.window_at.ensures.x_from c.window_at.ensures.x_to some (omega (arith, c.min-bands.ensures, below)) few

pub returns : goal.returns
returns c =
    let s = c.args.sides in
    let done = c.args.done in
    let high = high_enough done s.bands s.y c.requires.inside in
    let below = row_below done s.bands s.y c.requires.inside in
    let left : 0 < s.y - done % s.y = omega (arith, below) in
    let few : c.min-rows.result * s.x ≤ 65536 = rw c.min-rows.ensures (some_fit 65536 s.x (s.y - done % s.y)) in
    let some : 0 < c.min-rows.result = rw c.min-rows.ensures (one_fits 65536 s.x (s.y - done % s.y) c.requires.some c.requires.x left) in
    rows_next s c.args.section done c.min-rows.result c.window_at-2.result high c.requires.some c.window_at-2.ensures.t_from c.window_at-2.ensures.t_to
    (ap (λ (span : Span). span.from) c.window_at-2.ensures.bands ∙ c.span-2.ensures.first)
    (ap (λ (span : Span). span.to) c.window_at-2.ensures.bands ∙ c.span-2.ensures.end)
    (ap (λ (span : Span). span.from) c.window_at-2.ensures.y ∙ c.span-3.ensures.first)
    (ap (λ (span : Span). span.to) c.window_at-2.ensures.y ∙ c.span-3.ensures.end)
    c.window_at-2.ensures.x_from c.window_at-2.ensures.x_to some (omega (arith, c.min-rows.ensures, below)) (band_below done s.bands s.y c.requires.inside) few
