-- The items of a list, read one after the other.
use Rattle.std.proofs.Common.{◌≡◌, ℕ, suc, ◌+◌, ◌<◌, ◌≤◌, List, [], ◌∷◌, ◌++◌, map, length, take, drop, get_or, sym, ap, ◌∙◌, subst}
use Rattle.std.proofs.Math.Seq.{drop-cons}
use Rattle.std.proofs.lemmas.Grind.{take_at_read}
use Rattle.std.proofs.lemmas.List.{map-append, take_all, take-append-drop}
use Rattle.serde_json.specs.Data.{Data}
use Rattle.serde_json.specs.View.{items_of, items_view, view}
use Rattle.serde_json.specs.declared.value.Value.{Value}
use Rattle.oe_keeper.specs.Reading.{Each}
use Rattle.oe_keeper.proofs.FindLemmas.{each_more, each_none}

-- one more item is what was read next
pub items_more : {A : Type 0} (Is : Data → A → Type 0) (values : List Value) (index : ℕ) (list : List A) (v : Value) (a : A)
    → Each Is (items_view (take index values)) list → index < length values → v ≡ get_or values index v → Is (view v) a
    → Each Is (items_view (take (index + 1) values)) (list ++ a ∷ [])
items_more {A} Is values index list v a each below is next =
    let more : take (index + 1) values ≡ take index values ++ v ∷ [] =
    (take_at_read values index v below).1 ∙ ap (λ (w : Value). take index values ++ w ∷ []) (sym is) in
    let seen : map view (take (index + 1) values) ≡ map view (take index values) ++ view v ∷ [] =
    ap (map view) more ∙ map-append view (take index values) (v ∷ []) in
    subst (λ (ds : List Data). Each Is (items_of ds) (list ++ a ∷ [])) (sym seen)
    (each_more Is (map view (take index values)) list (view v) a each next)

-- one item is nothing of the kind
pub items_none : {A : Type 0} (Is : Data → A → Type 0) (values : List Value) (index : ℕ) (v : Value)
    → index < length values → v ≡ get_or values index v → ((a : A) → ¬ Is (view v) a)
    → (list : List A) → Each Is (items_view values) list → ⊥
items_none {A} Is values index v below is none list each =
    let parts : values ≡ take index values ++ v ∷ drop (suc index) values =
    sym (take-append-drop index values) ∙ ap (λ (rest : List Value). take index values ++ rest)
    (drop-cons values index v below ∙ ap (λ (w : Value). w ∷ drop (suc index) values) (sym is)) in
    let seen : map view values ≡ map view (take index values) ++ view v ∷ map view (drop (suc index) values) =
    ap (map view) parts ∙ map-append view (take index values) (v ∷ drop (suc index) values) in
    each_none Is (map view (take index values)) (view v) (map view (drop (suc index) values)) list none
    (subst (λ (ds : List Data). Each Is (items_of ds) list) seen each)

-- all items were read
pub items_all : {A : Type 0} (Is : Data → A → Type 0) (values : List Value) (index : ℕ) (list : List A)
    → Each Is (items_view (take index values)) list → length values ≤ index → Each Is (items_view values) list
items_all {A} Is values index list each past =
    subst (λ (vs : List Value). Each Is (items_view vs) list) (take_all index values past) each
