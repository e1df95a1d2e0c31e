-- Worked values, from the openEO API and by hand.
use Rattle.std.proofs.Common.{◌≡◌, ◌∷◌, [], codes, length, map, refl, true, Ok, Err}
use Rattle.std.specs.List.{list_all}
use Rattle.matchit.proofs.OnLiterals.{matchit_on_literals}
use Rattle.oe_dims.specs.Names.{names_rise}
use Rattle.oe_jobs.specs.declared.level.Level.TheVariants as levels
use Rattle.oe_replies.specs.declared.code.ReplyCode.TheVariants.{QueryInvalid}
use Rattle.oe_routes.specs.Queries.{logs_asked}
use Rattle.oe_routes.specs.Table.{Method, Route, go_in, router_of, routes}
use Rattle.oe_routes.specs.Tokens.{entries_in}

-- ---- the table: paths and methods stand in byte order

paths_rise : names_rise (map (λ (r : Route). r.text) routes) ≡ true
paths_rise = refl

methods_rise : list_all (λ (r : Route). names_rise (map (λ (m : Method). m.name) r.methods)) routes ≡ true
methods_rise = refl

-- each of them is in the router: none is no route, and no two conflict
router_is_whole : length (router_of routes) ≡ 17
unfolding matchit_on_literals
router_is_whole = refl

pub routes_go_in : go_in 0 routes [] ≡ true
unfolding matchit_on_literals
routes_go_in = refl

-- ---- files of tokens

two_users : entries_in (codes "u abc\nw xyz\n") ≡ Ok ((codes "u", codes "abc") ∷ (codes "w", codes "xyz") ∷ [])
two_users = refl

no_users : entries_in [] ≡ Ok []
no_users = refl

no_line_feed : entries_in (codes "u abc\nw xyz") ≡ Err 2
no_line_feed = refl

one_token_twice : entries_in (codes "u abc\nw abc\n") ≡ Err 2
one_token_twice = refl

two_blanks : entries_in (codes "u  abc\n") ≡ Err 1
two_blanks = refl

-- ---- queries

all_logs : logs_asked [] ≡ Ok (levels.Debug, 0)
all_logs = refl

a_level : logs_asked (codes "x=1&level=error&y") ≡ Ok (levels.Error, 0)
a_level = refl

no_value : logs_asked (codes "level") ≡ Err QueryInvalid
no_value = refl

asked_twice : logs_asked (codes "level=error&level=error") ≡ Err QueryInvalid
asked_twice = refl
