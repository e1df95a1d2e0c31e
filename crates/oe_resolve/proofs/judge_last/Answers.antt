use Rattle.std.proofs.Common.{List, [], map, sym, ap, subst}
use Rattle.oe_graph.specs.Faults.{IsLeastFault}
use Rattle.oe_graph.specs.Plain.{plain_graph, plain_stored}
use Rattle.oe_resolve.specs.Expansion.{IsNameFault}
use Rattle.oe_resolve.proofs.ExpandLemmas.{all_rounds, all_faults, all_none, all_within}
use Rattle.oe_resolve.proofs.judge_last.Goals as goal

pub returns : goal.returns
returns c g settled =
    let stored = map plain_stored c.args.stored.now in
    let after = plain_graph c.args.expanded in
    record {
      graph = all_rounds stored g after c.args.fault c.in_ok-found.found settled;
      fault = subst (IsLeastFault (IsNameFault stored g)) (sym c.least.ensures)
          (all_faults stored g after c.args.fault c.in_ok-found.found settled c.in_ok-found.ensures);
      none_left = all_none stored g after c.args.fault c.in_ok-found.found settled;
      within = all_within stored g after c.args.fault c.in_ok-found.found settled;
    }
