use Rattle.std.proofs.Common.{◌≡◌, ◌+◌, ◌-◌, ◌++◌, length, take, drop, sym, ap, ◌∙◌, subst, arith}
use Rattle.std.proofs.lemmas.List.{length-append, length-take, length-take-le, length-drop}
use Rattle.std.proofs.lemmas.Grind.{common_steps}
use Rattle.oe_dims.proofs.ShapeLemmas.{cell_count_within}
use Rattle.oe_sources.specs.OpenedFile.{AreOfKind, AreStoredFrom}
use Rattle.oe_sources.proofs.ContentLemmas.{more_of_kind}
use Rattle.oe_sources.proofs.PieceLemmas.{more_stored, put_end}
use Rattle.oe_sources.proofs.file_source.read_run.Goals as goal

pub overflow_add-first : goal.overflow_add-first
overflow_add-first g c =
    omega (arith, c.loop-done.invariant.within, c.loop-done.auto.into, c.requires.within, cell_count_within c.args.file.now.head.shape c.requires.opened.valid.shape)

pub loop-done-preserved : goal.loop-done-preserved
loop-done-preserved g c =
    let done = c.loop-done.done in
    let into = c.loop-done.into in
    let new = c.read_piece.new.into in
    let inside = c.loop-done.invariant.within in
    let long : length new ≡ length into - done = c.read_piece.auto.into ∙ omega (arith, length-take (length into - done) (drop done into), length-drop done into, inside) in
    let put = put_end done into new inside long in
    let all : length (take done into ++ new) ≡ length into = length-append (take done into) new ∙ omega (arith, length-take-le done into inside, long, inside) in
    record {
      within = omega (arith, ap length put, all, c.in-Ok.ensures.count.1, c.read_piece.auto.into, long);
      room = c.read_piece.auto.buffer ∙ c.loop-done.invariant.room;
      read = subst (AreStoredFrom c.args.file.now.head (g.S.Store.bytes c.args.store.now) c.args.first (done + c.in-Ok.count)) (sym put)
          (more_stored (g.S.Store.bytes c.args.store.now) c.args.file.now.head c.args.first done c.in-Ok.count into new inside c.loop-done.invariant.read c.in-Ok.ensures.read);
      of_kind = subst (AreOfKind c.args.file.now.head.kind (done + c.in-Ok.count)) (sym put)
          (more_of_kind c.args.file.now.head.kind done c.in-Ok.count into new inside c.loop-done.invariant.of_kind c.in-Ok.ensures.of_kind);
    }

pub returns-clause-damage : goal.returns-clause-damage
returns-clause-damage g c = grind (arith, common_steps) steps 2000000

pub returns-clause-of_kind : goal.returns-clause-of_kind
returns-clause-of_kind g c = grind (arith, common_steps) steps 2000000

pub returns-clause-read : goal.returns-clause-read
returns-clause-read g c = grind (arith, common_steps) steps 2000000

pub returns-in-Err-clause-damage : goal.returns-in-Err-clause-damage
returns-in-Err-clause-damage g c = grind (arith, common_steps) steps 2000000

pub returns-in-Err-clause-of_kind : goal.returns-in-Err-clause-of_kind
returns-in-Err-clause-of_kind g c = grind (arith, common_steps) steps 2000000

pub returns-in-Err-clause-read : goal.returns-in-Err-clause-read
returns-in-Err-clause-read g c = grind (arith, common_steps) steps 2000000
