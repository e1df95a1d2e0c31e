use Rattle.std.proofs.Common.{◌≡◌, ◌∙◌, false, map, sym, ap, true≢false}
use Rattle.std.specs.List.{list_any}
use Rattle.oe_jobs.specs.Changes.{is_owned}
use Rattle.oe_jobs.specs.Plain.{PlainOwned, plain_owned}
use Rattle.oe_jobs.specs.Valid.{OwnedDiffer}
use Rattle.oe_book.proofs.PairLemmas.{any_shown, rest_next, rest_stops}
use Rattle.oe_book.proofs.pairs.all_differ.Goals as goal

pub loop-owned-preserved : goal.loop-owned-preserved
loop-owned-preserved c =
    let first = plain_owned c.in-Some.owned.now in
    rest_next OwnedDiffer (λ (o : PlainOwned) os. list_any (is_owned o.user o.process.id) os ≡ false) (λ o os h. h) (λ o os a b. (a, b)) _ first
    (map plain_owned c.in-Some.others.now) _ (ap (map plain_owned) c.in-Some.ensures.cases.0)
    (any_shown (is_owned first.user first.process.id) plain_owned c.in-Some.others.now ∙ (sym c.is_owned_again.ensures ∙ c.if-is_owned_again.false))
    c.loop-owned.invariant

pub returns-then-is_owned_again : goal.returns-then-is_owned_again
returns-then-is_owned_again c =
    let first = plain_owned c.in-Some.owned.now in
    rest_stops OwnedDiffer (λ (o : PlainOwned) os. list_any (is_owned o.user o.process.id) os ≡ false) (λ o os h. h) (λ o os a b. (a, b)) _ first
    (map plain_owned c.in-Some.others.now) _ (ap (map plain_owned) c.in-Some.ensures.cases.0)
    (λ none. true≢false (sym (any_shown (is_owned first.user first.process.id) plain_owned c.in-Some.others.now ∙ (sym c.is_owned_again.ensures ∙ c.if-is_owned_again.true)) ∙ none))
    c.loop-owned.invariant
