use Rattle.std.proofs.Common.{◌≡◌, ◌<◌, ◌∙◌, ℕ, List, Some, None, length, sym, ap, arith}
use Rattle.std.specs.Prelude.{slice_index}
use Rattle.oe_check.specs.Links.{links_of}
use Rattle.oe_plan.proofs.TakeLemmas.{argument_in, argument_linked, none_taken, takes_found}
use Rattle.oe_plan.proofs.plan.argument_of.Goals as goal

pub bounds-links-node : goal.bounds-links-node
bounds-links-node c =
    omega (
      arith,
      c.links.ensures.count,
      ap (λ (ns : List ℕ). slice_index ns c.args.step) c.steps.ensures,
      c.requires.steps.within c.args.step c.requires.within,
    )

pub returns-in-Some : goal.returns-in-Some
returns-in-Some c =
    let graph = c.args.checked.now in
    let nodes = links_of graph.nodes in
    let node = slice_index c.steps.result.now c.args.step in
    let below : node < length c.links.result.now =
    omega (
      arith,
      c.links.ensures.count,
      ap (λ (ns : List ℕ). slice_index ns c.args.step) c.steps.ensures,
      c.requires.steps.within c.args.step c.requires.within,
    ) in
    let taken : argument_in nodes (slice_index c.args.order.now.steps c.args.step) c.args.number ≡ Some c.in-Some.taken =
    ap (λ (ns : List ℕ). argument_in nodes (slice_index ns c.args.step) c.args.number) (sym c.steps.ensures)
    ∙ argument_linked nodes c.links.result.now node c.args.number c.index-links-node.result (Some c.in-Some.taken)
    c.links.ensures.links below c.index-links-node.is c.in-Some.ensures in
    takes_found graph c.args.step c.args.number c.in-Some.taken c.step_of.result c.args.order.now.steps
    c.requires.steps.steps_are
    (record {
      listing = c.requires.listing;
      below = c.requires.within;
      taken = taken;
      within = c.step_of.ensures.within;
      at = c.step_of.ensures.found;
      only = c.step_of.ensures.only;
    })

pub returns-in-None : goal.returns-in-None
returns-in-None c =
    let graph = c.args.checked.now in
    let nodes = links_of graph.nodes in
    let node = slice_index c.steps.result.now c.args.step in
    let below : node < length c.links.result.now =
    omega (
      arith,
      c.links.ensures.count,
      ap (λ (ns : List ℕ). slice_index ns c.args.step) c.steps.ensures,
      c.requires.steps.within c.args.step c.requires.within,
    ) in
    let none : argument_in nodes (slice_index c.args.order.now.steps c.args.step) c.args.number ≡ None =
    ap (λ (ns : List ℕ). argument_in nodes (slice_index ns c.args.step) c.args.number) (sym c.steps.ensures)
    ∙ argument_linked nodes c.links.result.now node c.args.number c.index-links-node.result None
    c.links.ensures.links below c.index-links-node.is c.in-None.ensures in
    λ r. (
      λ is. absurd (cc),
      λ takes.
          absurd (none_taken graph c.args.order.now.steps c.args.step c.args.number r c.requires.steps.steps_are none takes),
    )
