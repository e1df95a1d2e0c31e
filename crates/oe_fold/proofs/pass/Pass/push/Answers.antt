use Rattle.oe_fold.proofs.TallyLemmas.{HasSeen-push, count-step_of}
use Rattle.oe_fold.specs.declared.tally.Tally.{Tally}
use Rattle.oe_fold.proofs.pass.Pass.push.Goals as goal
use Rattle.std.proofs.Common.{◌+◌, ◌≤◌, refl, sym, subst}

pub returns-clause-seen : goal.returns-clause-seen
returns-clause-seen c = λ reducer ignore cells seen.
    HasSeen-push c.args.self.now _ c.args.cell reducer ignore cells c.step.ensures.cell refl refl c.step.ensures.value seen

pub returns-clause-count : goal.returns-clause-count
returns-clause-count c =
    let grown = count-step_of c.args.self.now.reducer c.args.self.now.skips c.args.cell c.args.self.now.tally in
    subst (λ (t : Tally). t.count ≤ c.args.self.now.tally.count + 1) (sym c.step.ensures.value) grown
