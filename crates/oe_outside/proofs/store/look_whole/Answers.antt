use Rattle.std.proofs.Common.{length, sym, ◌∙◌, List, ℕ, Option, Some, None, IfSome}
use Rattle.std.proofs.lemmas.Bool.{eqb-true, eq-eqb}
use Rattle.oe_outside.proofs.Stores.{StoreHolds-read, IsReadAt-whole}
use Rattle.oe_outside.proofs.store.look_whole.Goals as goal

if_some : (store : Option (List ℕ)) {P Q : List ℕ → Type 0} → ((all : List ℕ) → P all → Q all) → IfSome store P → IfSome store Q
if_some None f p = tt
if_some (Some all) f p = f all p

pub returns-clause-held : goal.returns-clause-held
returns-clause-held g c = λ whole.
    StoreHolds-read (g.S.Store.bytes c.args.store.now) c.args.at (length c.args.into.now) c.in_ok-count.count c.look_at.new.into c.look_at.auto.into c.in_ok-count.ensures.given
    (eqb-true c.in_ok-count.count (length c.look_at.new.into) whole ∙ c.look_at.auto.into)

pub returns-clause-whole : goal.returns-clause-whole
returns-clause-whole g c =
    if_some (g.S.Store.bytes c.args.store.now)
    (λ all full inside. eq-eqb c.in_ok-count.count (length c.look_at.new.into) (full inside ∙ sym c.look_at.auto.into))
    (IsReadAt-whole (g.S.Store.bytes c.args.store.now) c.args.at (length c.args.into.now) c.in_ok-count.count c.look_at.new.into c.in_ok-count.ensures.given)
