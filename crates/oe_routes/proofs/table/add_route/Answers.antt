use Rattle.std.proofs.Common.{◌≡◌, Result, sym, subst}
use Rattle.std.specs.Prelude.{OnOk}
use Rattle.matchit.specs.Route.{parse_route}
use Rattle.oe_memory.specs.declared.OutOfMemory.{OutOfMemory}
use Rattle.oe_routes.specs.Table.{with_row}
use Rattle.oe_routes.proofs.TableLemmas.{taken}
use Rattle.oe_routes.proofs.table.add_route.Goals as goal
use Rattle.oe_routes.proofs.table.add_route.Goals.{in-Ok, in-Err-OutOfMemory}

pub returns : goal.returns
returns c =
    let added : Type 0 = c.insert.new.self ≡ with_row (parse_route c.args.text.now) c.args.number c.args.router.now in
    elim c.match-insert.branch [
      | in-Ok w ↦
          subst (λ (r : Result (Unit {0}) OutOfMemory). OnOk r added) (sym w.result-is)
          (taken (parse_route c.args.text.now) c.args.number c.args.router.now c.insert.new.self _ w.in-Ok.ensures)
      | in-Err-OutOfMemory w ↦
          subst (λ (r : Result (Unit {0}) OutOfMemory). OnOk r added) (sym w.result-is) tt
    ]
