use Rattle.oe_mosaic.proofs.LawLemmas.{have_all_labels}
use Rattle.oe_mosaic.proofs.laws.mosaics_have_all_labels.Goals as goal

pub returns : goal.returns
returns c = have_all_labels
