use Rattle.std.proofs.Common.{◌≡◌, ◌∙◌, List, length, take, sym, subst, arith}
use Rattle.std.proofs.Math.ListN.{drop}
use Rattle.std.proofs.lemmas.List.{length-take-le}
use Rattle.oe_cell.specs.declared.cell.Cell.{Cell}
use Rattle.oe_steps.proofs.BufferLemmas.{take_front}
use Rattle.oe_slab.specs.Folds.{Settles}
use Rattle.oe_slab.proofs.chunk.settle_front.Goals as goal

pub settle-requires-clause-as_many : goal.settle-requires-clause-as_many
settle-requires-clause-as_many c =
    length-take-le c.args.count c.args.folds.now c.requires.folds ∙ sym (length-take-le c.args.count c.args.buffer.now c.requires.few)

pub returns : goal.returns
returns c =
    let folds = take c.args.count c.args.folds.now in
    let out = c.settle.new.out in
    let rest = drop c.args.count c.args.buffer.now in
    let long : length out ≡ c.args.count = c.settle.auto.out ∙ length-take-le c.args.count c.args.buffer.now c.requires.few in
    subst (λ (xs : List Cell). Settles folds xs) (sym (take_front out rest c.args.count long))
    (λ reducer ignores_nulls cells seen k h. c.settle.ensures.value reducer ignores_nulls cells seen k (omega (arith, h, c.settle.auto.out)))
