use Rattle.std.proofs.Common.{◌≡◌, ◌<◌, ℕ, Some, length, refl, arith}
use Rattle.std.specs.Prelude.{All, slice_get}
use Rattle.std.proofs.lemmas.Option.{slice_get_read}
use Rattle.oe_cell.specs.Kinds.{IsLogical, IsNumeric}
use Rattle.oe_fold.specs.Value.{reduction_of}
use Rattle.oe_slab.proofs.FoldedLemmas.{one_written}
use Rattle.oe_slab.proofs.fold.settle.Goals as goal

pub loop-k-preserved : goal.loop-k-preserved
loop-k-preserved c =
    let k : ℕ = c.loop-k.k in
    let out = c.loop-k.out in
    let x = c.value.result in
    let within : k < length out = omega arith in
    let inside : k < length c.args.folds.now = omega arith in
    let fold = c.index-folds-k.result in
    let at : slice_get c.args.folds.now k ≡ Some fold = slice_get_read c.args.folds.now (length c.args.folds.now) k fold refl inside c.index-folds-k.is in
    record {
      value = λ reducer ignores_nulls seen have. one_written (λ j y. y ≡ reduction_of reducer ignores_nulls (seen j)) out k x within (c.loop-k.invariant.value reducer ignores_nulls seen have) (c.value.ensures.reduced reducer ignores_nulls (seen k) (have k fold at));
      numeric = λ reducer ignores_nulls seen have. one_written (λ j y. All IsNumeric (seen j) → IsNumeric y) out k x within (c.loop-k.invariant.numeric reducer ignores_nulls seen have) (λ all. c.value.ensures.numeric reducer ignores_nulls (seen k) (have k fold at) all);
      logical = λ reducer ignores_nulls seen have other. one_written (λ j y. All IsLogical (seen j) → IsLogical y) out k x within (c.loop-k.invariant.logical reducer ignores_nulls seen have other) (λ all. c.value.ensures.logical reducer ignores_nulls (seen k) (have k fold at) other all);
      counts = λ reducer ignores_nulls seen have count. one_written (λ j y. IsNumeric y) out k x within (c.loop-k.invariant.counts reducer ignores_nulls seen have count) (c.value.ensures.counts reducer ignores_nulls (seen k) (have k fold at) count);
    }

pub returns-clause-numeric : goal.returns-clause-numeric
returns-clause-numeric c = λ reducer ignores_nulls seen have j below all.
    c.loop-k.invariant.numeric reducer ignores_nulls seen have j (omega (arith, below)) all

pub returns-clause-logical : goal.returns-clause-logical
returns-clause-logical c = λ reducer ignores_nulls seen have other j below all.
    c.loop-k.invariant.logical reducer ignores_nulls seen have other j (omega (arith, below)) all

pub returns-clause-counts : goal.returns-clause-counts
returns-clause-counts c = λ reducer ignores_nulls seen have count j below.
    c.loop-k.invariant.counts reducer ignores_nulls seen have count j (omega (arith, below))
