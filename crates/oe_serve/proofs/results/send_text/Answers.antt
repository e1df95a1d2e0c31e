use Rattle.std.proofs.Common.{[], refl, sym, subst}
use Rattle.oe_serve.specs.Evaluations.{SendsRunText}
use Rattle.oe_serve.specs.Links.{link_of}
use Rattle.oe_serve.specs.declared.served.Served.{Served}
use Rattle.oe_serve.proofs.Texts.{not_whole, writes_text}
use Rattle.oe_serve.proofs.results.send_text.Goals as goal

pub returns-in-Ok-clause-sends : goal.returns-in-Ok-clause-sends
returns-in-Ok-clause-sends g c = record {
  sends = (
    refl,
    writes_text c.args.run.now c.requires.planned c.requires.complete (g.P.Store.bytes c.args.spool.now)
        (g.P.Store.faults c.args.spool.now) (g.P.Store.faults c.render.new.spool)
        (link_of g.L.Link.left g.L.Link.written g.L.Link.faults c.args.link.now)
        (link_of g.L.Link.left g.L.Link.written g.L.Link.faults c.render.new.out) c.in-Ok.ensures.cells,
  );
  count = c.in-Ok.ensures.sink_cause.count;
}

pub returns-in-Err-clause-sends : goal.returns-in-Err-clause-sends
returns-in-Err-clause-sends g c =
    subst (λ (served : Served). SendsRunText c.args.run.now (g.P.Store.bytes c.args.spool.now)
    (g.P.Store.faults c.args.spool.now) (g.P.Store.faults c.render.new.spool) []
    (link_of g.L.Link.left g.L.Link.written g.L.Link.faults c.args.link.now)
    (link_of g.L.Link.left g.L.Link.written g.L.Link.faults c.render.new.out) served) (sym c.served_by.ensures)
    (not_whole c.args.run.now c.requires.planned c.requires.complete (g.P.Store.bytes c.args.spool.now)
    (g.P.Store.faults c.args.spool.now) (g.P.Store.faults c.render.new.spool) _
    (link_of g.L.Link.left g.L.Link.written g.L.Link.faults c.args.link.now)
    (link_of g.L.Link.left g.L.Link.written g.L.Link.faults c.render.new.out) c.in-Err.fail c.in-Err.ensures.prefix
    c.in-Err.ensures.spool_cause c.in-Err.ensures.sink_cause c.in-Err.ensures.damage)
