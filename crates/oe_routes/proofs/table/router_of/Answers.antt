use Rattle.std.proofs.Common.{◌≡◌, ◌+◌, ◌++◌, ◌∷◌, ℕ, true, [], length, map, drop, take, sym, ap, ◌∙◌, subst, arith, slice_index_or}
use Rattle.std.proofs.lemmas.Grind.{take_at_read}
use Rattle.std.proofs.lemmas.List.{length-map, length-take-le, map_push}
use Rattle.matchit.specs.Route.{parse_route}
use Rattle.matchit.specs.Router.{RouteOf}
use Rattle.matchit.specs.Rows.{RowsOf}
use Rattle.oe_routes.specs.Table.{RouteEntry, go_in, route_of, with_row, numbered}
use Rattle.oe_routes.proofs.TableLemmas.{goes_on, last}
use Rattle.oe_routes.proofs.table.router_of.Goals as goal

pub loop-entry-preserved : goal.loop-entry-preserved
loop-entry-preserved c =
    let xs = c.args.entries.now in
    let i = c.loop-entry.entry-index in
    let d : RouteEntry = (record { ref_ptr = (0, 0); now = [] }, record { ref_ptr = (0, 0); now = [] }) in
    let x : RouteEntry = slice_index_or xs i d in
    let old = map route_of (take i xs) in
    let more : take (i + 1) xs ≡ take i xs ++ x ∷ [] = (take_at_read xs i d c.loop-entry-test.true).1 in
    let same : c.loop-entry.number ≡ length old =
    c.loop-entry.invariant.number ∙ sym (length-map (take i xs) route_of ∙ length-take-le i xs (omega (arith, c.loop-entry-test.true))) in
    let counted : c.loop-entry.number ≡ 0 + length old = omega (arith, same) in
    record {
      number = ap (λ k. k + 1) c.loop-entry.invariant.number;
      router =
          c.in_ok-add_route.ensures
          ∙ (ap (with_row (parse_route x.0.now) c.loop-entry.number) c.loop-entry.invariant.router
          ∙ (ap (λ k. with_row (parse_route x.0.now) k (numbered 0 old [])) counted
          ∙ (sym (last 0 old (route_of x) [])
          ∙ sym (ap (λ ys. numbered 0 (map route_of ys) []) more ∙ ap (λ ys. numbered 0 ys []) (map_push route_of (take i xs) x)))));
      fits =
          subst (λ (rows : RowsOf (RouteOf ℕ)). go_in (c.loop-entry.number + 1) (map route_of (drop (i + 1) xs)) rows ≡ true)
          (sym c.in_ok-add_route.ensures)
          (goes_on c.loop-entry.number xs i d c.loop-entry.router (omega (arith, c.loop-entry-test.true)) c.loop-entry.invariant.fits).1;
    }
