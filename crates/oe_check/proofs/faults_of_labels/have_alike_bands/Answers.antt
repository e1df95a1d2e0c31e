use Rattle.oe_meanings.proofs.SameLemmas.{alike_bands}
use Rattle.oe_check.proofs.faults_of_labels.have_alike_bands.Goals as goal

pub returns : goal.returns
returns c = λ same. alike_bands c.args.one.now c.args.two.now (c.has_same_labels.ensures.value.0 same)
