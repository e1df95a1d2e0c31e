use Rattle.oe_window.specs.Windows.{whole_window}
use Rattle.oe_ops.proofs.NeedLemmas.{plane_holds}
use Rattle.oe_ops.proofs.PlaneSourceLemmas.{gives_plane}
use Rattle.oe_ops.proofs.needs.source_window.Goals as goal

pub need_labels-requires-clause-within : goal.need_labels-requires-clause-within
need_labels-requires-clause-within c =
    rw (c.span_at.ensures, c.span_at-2.ensures) (plane_holds (whole_window c.args.shape.now) c.args.window.now c.args.t c.args.band c.requires.within c.requires.t_in c.requires.band_in)

pub returns-clause-plane : goal.returns-clause-plane
returns-clause-plane c = λ r is.
    gives_plane c.args.collection.now c.args.shape.now c.requires.valid r is c.args.window.now c.args.t c.args.band c.need_labels.result
    c.requires.within c.requires.t_in c.requires.band_in
    (rw (c.span_at.ensures, c.span_at-2.ensures) at c.need_labels.ensures)
