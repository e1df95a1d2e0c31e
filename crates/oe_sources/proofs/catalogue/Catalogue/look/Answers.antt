use Rattle.std.proofs.Common.{subst}
use Rattle.oe_sources.specs.Source.{Source, answer_of}
use Rattle.oe_sources.proofs.CatalogueLemmas.{fault_met, looks_shown, source_shown}
use Rattle.oe_window.specs.Windows.{Holds, whole_window}
use Rattle.oe_sources.proofs.catalogue.Catalogue.look.Goals as goal

pub look_kept-looked-requires-clause-inside : goal.look_kept-looked-requires-clause-inside
look_kept-looked-requires-clause-inside g c =
    subst (λ (s : Source). Holds (whole_window s.shape) c.args.window.now)
    (source_shown _ _ c.args.self.now.rows.items c.args.place c.index-row.result.now c.requires.mounted c.index-row.ensures)
    c.requires.inside

pub returns-clause-looks : goal.returns-clause-looks
returns-clause-looks g c =
    looks_shown _ c.args.self.now.seal c.args.self.now.rows.items c.args.place c.index-row.result.now c.args.window.now c.look_kept-looked.new.into
    (answer_of c.look_kept-looked.result) (answer_of c.seal_fault.result) c.requires.mounted c.index-row.ensures c.seal_fault.ensures.answer c.look_kept-looked.ensures.looks

pub returns-clause-met : goal.returns-clause-met
returns-clause-met g c =
    fault_met _ c.args.self.now.seal c.args.self.now.rows.items c.args.place c.index-row.result.now c.look_kept-looked.result c.seal_fault.result
    c.requires.mounted c.index-row.ensures c.seal_fault.ensures.answer c.seal_fault.ensures.place c.seal_fault.ensures.seal c.look_kept-looked.ensures.boxed
