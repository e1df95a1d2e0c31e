use Rattle.std.proofs.Common.{◌≡◌, ℕ, ◌+◌, ◌<◌, ◌&&◌, Bool, true, false, not, List, ◌∷◌, drop, get_or, length, Bor, sym, ap, ◌∙◌, refl, true≢false}
use Rattle.std.proofs.lemmas.List.{drop_more}
use Rattle.std.proofs.lemmas.Bool.{not-true}
use Rattle.serde_json.specs.View.{view, items_view}
use Rattle.serde_json.specs.declared.value.Value.{Value}
use Rattle.oe_graph.specs.Parameters.{are_distinct, parameter_names, parameter_name}
use Rattle.oe_graph.proofs.NamesLemmas.{has, has_none, has_none_empty, any_has, insert_has, next_name, no_next}
use Rattle.oe_graph.proofs.stored.are_distinct.Goals as goal

abbrev Name : Type 0
Name = Bor (List ℕ)

abbrev bytes : Name → List ℕ
bytes name = name.now

-- whether the names of the parameters are in no key and differ
abbrev rest : List Name → List Value → Bool
rest ks vs = has_none bytes ks (parameter_names (items_view vs)) && are_distinct (parameter_names (items_view vs))

names_next : (vs : List Value) (i : ℕ) (v : Value) → i < length vs → v ≡ get_or vs i v
    → parameter_names (items_view (drop i vs)) ≡ parameter_name (view v) ∷ parameter_names (items_view (drop (i + 1) vs))
names_next vs i v more is =
    ap (λ xs. parameter_names (items_view xs)) (drop_more vs i v more ∙ ap (λ x. x ∷ drop (i + 1) vs) (sym is))

not_false : (b : Bool) → not b ≡ false → b ≡ true
not_false true is = refl
not_false false is = absurd (true≢false is)

pub loop-item-init : goal.loop-item-init
loop-item-init c =
    let names = parameter_names (items_view c.deref-item-items.result.now) in
    sym (ap (λ ks. has_none bytes ks names && are_distinct names) c.new-names.ensures.empty
    ∙ ap (λ b. b && are_distinct names) (has_none_empty bytes names))

pub returns-then-not-branch : goal.returns-then-not-branch
returns-then-not-branch c =
    let ks = c.loop-item.names.keys in
    let n = c.parameter_name.result in
    let vs = c.deref-item-items.result.now in
    let i = c.loop-item.item-index in
    let found : has bytes ks n.now ≡ true =
    sym (any_has bytes n.now ks) ∙ not_false _ (sym c.in_ok-insert.ensures.added ∙ c.if-not-branch.true) in
    let next : parameter_names (items_view (drop i vs)) ≡ n.now ∷ parameter_names (items_view (drop (i + 1) vs)) =
    names_next vs i c.item-item.result c.loop-item-test.true c.item-item.is
    ∙ ap (λ m. m ∷ parameter_names (items_view (drop (i + 1) vs))) (sym c.parameter_name.ensures) in
    sym (ap (λ xs. are_distinct (parameter_names (items_view xs))) (sym c.deref-item-items.ensures.value)
    ∙ c.loop-item.invariant
    ∙ ap (λ ns. has_none bytes ks ns && are_distinct ns) next
    ∙ no_next bytes ks n.now (parameter_names (items_view (drop (i + 1) vs))) found)

pub loop-item-preserved : goal.loop-item-preserved
loop-item-preserved c =
    let ks = c.loop-item.names.keys in
    let n = c.parameter_name.result in
    let vs = c.deref-item-items.result.now in
    let i = c.loop-item.item-index in
    let found : has bytes ks n.now ≡ false =
    sym (any_has bytes n.now ks) ∙ not-true _ (sym c.in_ok-insert.ensures.added ∙ c.if-not-branch.false) in
    let next : parameter_names (items_view (drop i vs)) ≡ n.now ∷ parameter_names (items_view (drop (i + 1) vs)) =
    names_next vs i c.item-item.result c.loop-item-test.true c.item-item.is
    ∙ ap (λ m. m ∷ parameter_names (items_view (drop (i + 1) vs))) (sym c.parameter_name.ensures) in
    c.loop-item.invariant
    ∙ ap (λ ns. has_none bytes ks ns && are_distinct ns) next
    ∙ next_name bytes ks c.insert.new.self.keys n.now (parameter_names (items_view (drop (i + 1) vs))) found
    (λ q. ap (λ (es : List Name). has bytes es q) c.in_ok-insert.ensures.keys ∙ insert_has bytes q n ks)
