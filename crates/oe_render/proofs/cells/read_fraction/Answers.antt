use Rattle.std.proofs.Common.{◌≡◌, FitsSigned, w64, to_z, of_z, rules, arith}
use Rattle.std.proofs.lemmas.Int.{to_z-of_z}
use Rattle.std.proofs.lemmas.Str.Pattern.{split_parts}
use Rattle.oe_render.proofs.Fractions.{uncut, cut_is, fraction_answer}
use Rattle.oe_render.proofs.cells.read_fraction.Goals as goal

pub returns-in_default : goal.returns-in_default
returns-in_default c = uncut c.args.text.now (rw c.in_default.is at (split_parts 47 c.args.text.now c.split_once.result c.split_once.ensures.cases (omega arith)))

pub returns-in_default-read_numerator : goal.returns-in_default-read_numerator
returns-in_default-read_numerator c = λ q is.
    let cut = rw c.in-Some.is at (split_parts 47 c.args.text.now c.split_once.result c.split_once.ensures.cases (omega arith)) in
    let parts = cut_is c.args.text.now c.in-Some.num.now c.in-Some.den.now q cut.0 cut.1 is in
    c.in_default-read_numerator.ensures q.num is.0.num_fits parts.0

pub returns-in_default-read_denominator : goal.returns-in_default-read_denominator
returns-in_default-read_denominator c = λ q is.
    let cut = rw c.in-Some.is at (split_parts 47 c.args.text.now c.split_once.result c.split_once.ensures.cases (omega arith)) in
    let parts = cut_is c.args.text.now c.in-Some.num.now c.in-Some.den.now q cut.0 cut.1 is in
    c.in_default-read_denominator.ensures q.den is.0.den_fits parts.1

pub returns : goal.returns
returns c =
    let cut = rw c.in-Some.is at (split_parts 47 c.args.text.now c.split_once.result c.split_once.ensures.cases (omega arith)) in
    let num = c.in-Some-read_numerator.ensures in
    let den = c.in-Some-read_denominator.ensures in
    let fits : FitsSigned w64 c.in-Some-read_numerator.num = search rules in
    let kept : to_z w64 (of_z w64 c.in-Some-read_numerator.num) ≡ c.in-Some-read_numerator.num = to_z-of_z w64 _ fits in
    fraction_answer c.args.text.now c.in-Some.num.now c.in-Some.den.now c.in-Some-read_numerator.num c.in-Some-read_denominator.den c.fraction_of.result
    cut.0 cut.1 num.0 den.0 num.1 den.1 (rw kept at c.fraction_of.ensures)
