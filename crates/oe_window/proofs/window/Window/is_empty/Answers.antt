use Rattle.oe_window.proofs.WindowLemmas.{empty_is}
use Rattle.oe_window.proofs.window.Window.is_empty.Goals as goal

pub returns : goal.returns
returns c =
    empty_is c.args.self.now _ _ _ _ c.is_empty.ensures c.is_empty-2.ensures c.is_empty-3.ensures c.is_empty-4.ensures
