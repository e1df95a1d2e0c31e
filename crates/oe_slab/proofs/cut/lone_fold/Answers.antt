use Rattle.oe_slab.proofs.CutLemmas.{none_whole}
use Rattle.oe_slab.proofs.cut.lone_fold.Goals as goal

pub returns-else-folds_alone-clause-none : goal.returns-else-folds_alone-clause-none
returns-else-folds_alone-clause-none c = c.folds_alone.ensures.none c.if-folds_alone.false

pub returns-in-None-clause-none : goal.returns-in-None-clause-none
returns-in-None-clause-none c = none_whole c.args.checked.now c.args.steps.now c.requires.listing c.in-None.ensures.none
