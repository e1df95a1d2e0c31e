use Rattle.std.proofs.Common.{◌≡◌, ℕ, ◌+◌, ◌<◌, List, [], ◌∷◌, ◌++◌, length, get_or, drop, map, sym, ap, ◌∙◌, None, pos}
use Rattle.std.proofs.lemmas.List.{append_assoc, drop_more}
use Rattle.oe_requests.specs.Extents.{part_in_time}
use Rattle.oe_requests.specs.declared.extent.Interval.{Interval}
use Rattle.oe_meanings.proofs.operation_scope.parts_in_time.Goals as goal

-- one more of what is made of each
one_more : {A B : Type 0} (f : A → B) (xs : List A) (i : ℕ) (d : A) (done more : List B) (x : B) → i < length xs
    → done ++ map f (drop i xs) ≡ map f xs → x ≡ f (get_or xs i d) → more ≡ done ++ x ∷ [] → more ++ map f (drop (i + 1) xs) ≡ map f xs
one_more f xs i d done more x lt invariant is pushed =
    ap (λ l. l ++ map f (drop (i + 1) xs)) (pushed ∙ ap (λ y. done ++ y ∷ []) is)
    ∙ append_assoc done (f (get_or xs i d) ∷ []) (map f (drop (i + 1) xs))
    ∙ ap (λ l. done ++ map f l) (sym (drop_more xs i d lt))
    ∙ invariant

pub loop-interval-preserved : goal.loop-interval-preserved
loop-interval-preserved c =
    let none : Interval = record { extent = record { start = None; end = None }; label = pos 0 } in
    one_more (λ (i : Interval). part_in_time i.extent c.args.labels.now) c.args.intervals.now c.loop-interval.interval-index none
    c.loop-interval.lists.items c.push.new.self.items c.part_in_time.result c.loop-interval-test.true c.loop-interval.invariant c.part_in_time.ensures c.in_ok-push.ensures.items
