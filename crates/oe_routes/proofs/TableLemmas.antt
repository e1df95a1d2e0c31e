-- The routes of a table, one by one.
use Rattle.std.proofs.Common.{◌≡◌, ◌+◌, ℕ, List, [], ◌∷◌, ◌++◌, length, map, Result, Ok, Err, refl, sym, ap, ◌∙◌, arith, ◌<◌, ◌≤◌, get_or, drop, true, true≢false}
use Rattle.std.specs.List.{slice_get}
use Rattle.std.specs.Prelude.{is_none}
use Rattle.std.proofs.lemmas.Bool.{and_parts}
use Rattle.std.proofs.lemmas.List.{drop_more}
use Rattle.std.proofs.lemmas.Option.{slice_get-map, slice_get-get_or, slice_get_past}
use Rattle.matchit.specs.Rows.{RowsOf}
use Rattle.matchit.specs.Route.{Scan, parse_route}
use Rattle.matchit.specs.Router.{RouteOf, InsertsRead, Refused, nearest}
use Rattle.matchit.specs.declared.error.InsertError.{InsertError}
use Rattle.matchit.specs.declared.error.InsertError.TheVariants as insert
use Rattle.oe_routes.specs.Table.{Route, RouteEntry, go_in, goes_in, route_of, method_of, methods_of, with_row, numbered}
use Rattle.oe_replies.specs.declared.code.ReplyCode.TheVariants.{NotFound}

pub found_route : (entries : List RouteEntry) (n : ℕ) (d : RouteEntry) → n < length entries
    → methods_of (slice_get (map route_of entries) n) ≡ Ok (map method_of (get_or entries n d).1.now)
found_route entries n d within = rw (slice_get-map route_of entries n, slice_get-get_or entries n d within) refl

pub past_route : (entries : List RouteEntry) (n : ℕ) → length entries ≤ n
    → methods_of (slice_get (map route_of entries) n) ≡ Err NotFound
past_route entries n past = rw (slice_get-map route_of entries n, slice_get_past entries n past) refl

pub taken : (x : Result Scan InsertError) (v : ℕ) (old new : RowsOf (RouteOf ℕ)) (u : Unit {0}) → InsertsRead x v old new (Ok u) → new ≡ with_row x v old
taken (Ok s) v old new u h = h.1
taken (Err e) v old new u h = h.0

pub last : (n : ℕ) (rows : List Route) (x : Route) (acc : RowsOf (RouteOf ℕ))
    → numbered n (rows ++ x ∷ []) acc ≡ with_row (parse_route x.text) (n + length rows) (numbered n rows acc)
last n [] x acc = let e : n ≡ n + 0 = omega arith in ap (λ k. with_row (parse_route x.text) k acc) e
last n (r ∷ rows) x acc =
    let next = with_row (parse_route r.text) n acc in
    let e : n + 1 + length rows ≡ n + length (r ∷ rows) = omega arith in
    last (n + 1) rows x next ∙ ap (λ k. with_row (parse_route x.text) k (numbered (n + 1) rows next)) e

-- ---- each row goes in

second : {A B : Type 0} → A × B → B
second h = h.1

why : (p : List ℕ) (old : RowsOf (RouteOf ℕ)) (e : InsertError) → is_none (nearest p old) ≡ true → Refused p old e
    → e ≡ insert.OutOfMemory
why p old (insert.Conflict with) fits h = absurd (true≢false (sym fits ∙ ap is_none h.1))
why p old insert.OutOfMemory fits h = refl
why p old insert.InvalidParamSegment fits h = absurd h
why p old insert.InvalidParam fits h = absurd h
why p old insert.InvalidCatchAll fits h = absurd h

pub refused_by_memory : (x : Result Scan InsertError) (v : ℕ) (old new : RowsOf (RouteOf ℕ)) (e : InsertError)
    → goes_in x old ≡ true → InsertsRead x v old new (Err e) → e ≡ insert.OutOfMemory
refused_by_memory (Err parse) v old new e fits h = absurd cc
refused_by_memory (Ok s) v old new e fits h = why s.pattern old e fits (second h)

-- a row that goes in, and those behind it
pub goes_on : (n : ℕ) (entries : List RouteEntry) (i : ℕ) (d : RouteEntry) (rows : RowsOf (RouteOf ℕ)) → i < length entries
    → go_in n (map route_of (drop i entries)) rows ≡ true
    → (goes_in (parse_route (get_or entries i d).0.now) rows ≡ true)
    × (go_in (n + 1) (map route_of (drop (i + 1) entries)) (with_row (parse_route (get_or entries i d).0.now) n rows) ≡ true)
goes_on n entries i d rows within fits =
    let more : drop i entries ≡ get_or entries i d ∷ drop (i + 1) entries = drop_more entries i d within in
    let first : go_in n (map route_of (get_or entries i d ∷ drop (i + 1) entries)) rows ≡ true =
    ap (λ (es : List RouteEntry). go_in n (map route_of es) rows) (sym more) ∙ fits in
    and_parts (goes_in (parse_route (get_or entries i d).0.now) rows)
    (go_in (n + 1) (map route_of (drop (i + 1) entries)) (with_row (parse_route (get_or entries i d).0.now) n rows)) first
