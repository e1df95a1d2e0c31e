use Rattle.oe_meanings.proofs.SameLemmas.{alike_along}
use Rattle.oe_check.proofs.faults_of_labels.have_alike_numbers.Goals as goal

pub returns : goal.returns
returns c = λ same. alike_along c.args.kind c.args.one.now c.args.two.now (c.has_same_labels.ensures.value.0 same)
