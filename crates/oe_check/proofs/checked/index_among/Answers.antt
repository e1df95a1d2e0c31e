use Rattle.std.proofs.Common.{rules, sym}
use Rattle.std.specs.Cmp.Lexicographic.{slice_cmp}
use Rattle.std.specs.Ordering.{nat_cmp}
use Rattle.std.proofs.lemmas.Fn.{always_returns_same}
use Rattle.oe_check.proofs.SearchLemmas.{search_found, search_none}
use Rattle.oe_check.proofs.checked.index_among.Goals as goal

pub returns-in-Ok : goal.returns-in-Ok
returns-in-Ok c =
    let found = c.in-Ok.ensures.position (λ name. slice_cmp nat_cmp name c.args.id.now) (always_returns_same _ _ _ (λ a r f h. search rules)) in
    sym (search_found c.args.ids.now c.args.id.now c.requires.rising c.in-Ok.found c.in-Ok.ensures.bound found)

pub returns-in-Err : goal.returns-in-Err
returns-in-Err c =
    let parted = c.in-Err.ensures.position (λ name. slice_cmp nat_cmp name c.args.id.now) (always_returns_same _ _ _ (λ a r f h. search rules)) in
    sym (search_none c.args.ids.now c.args.id.now c.requires.rising c.in-Err.field-0 c.in-Err.ensures.bound parted)
