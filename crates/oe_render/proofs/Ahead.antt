-- Values that spell things, one each: what was read of them so far, and the rest.
use Rattle.std.proofs.Common.{◌≡◌, ℕ, suc, ◌+◌, ◌<◌, ◌≤◌, List, [], ◌∷◌, ◌++◌, length, drop, get_or, refl, sym, ap, ◌∙◌, subst, append_assoc, append-nil, arith}
use Rattle.std.proofs.Math.Seq.{drop-cons}
use Rattle.std.proofs.Math.ListN.{drop_of_length-le}
use Rattle.serde_json.specs.Data.{Data, Items, no_items, item}
use Rattle.serde_json.specs.View.{view, items_view}
use Rattle.serde_json.specs.declared.value.Value.{Value}
use Rattle.oe_render.specs.CubeText.{Each}

-- what was read begins every list that the values spell, and the rest of it is what the rest of the values spell
pub record Ahead {A : Type 0} (Spells : Data → A → Type 0) (values : List Value) (index : ℕ) (read : List A) : Type 0 where
  pub back : (more : List A) → Each Spells (items_view (drop index values)) more → Each Spells (items_view values) (read ++ more)
  pub only : (list : List A) → Each Spells (items_view values) list → (more : List A) × (list ≡ read ++ more) × Each Spells (items_view (drop index values)) more

pub ahead_none : {A : Type 0} (Spells : Data → A → Type 0) (values : List Value) (read : List A) → read ≡ [] → Ahead Spells values 0 read
ahead_none Spells values read e =
    subst (Ahead Spells values 0) (sym e) (record { back = λ more each. each; only = λ list each. (list, refl, each) })

-- the next value and those behind it
next_value : (values : List Value) (index : ℕ) (v : Value) → index < length values → v ≡ get_or values index v → items_view (drop index values) ≡ item (view v) (items_view (drop (index + 1) values))
next_value values index v below is =
    let later : suc index ≡ index + 1 = omega arith in
    ap items_view (drop-cons values index v below)
    ∙ ap (λ w. item (view w) (items_view (drop (suc index) values))) (sym is)
    ∙ ap (λ n. item (view v) (items_view (drop n values))) later

first_spelled : {A : Type 0} (Spells : Data → A → Type 0) (d : Data) (ds : Items) (list : List A) → Each Spells (item d ds) list → (a : A) × (more : List A) × (list ≡ a ∷ more) × Spells d a × Each Spells ds more
first_spelled Spells d ds [] each = absurd each
first_spelled Spells d ds (a ∷ more) each = (a, more, refl, each.0, each.1)

-- the next value spells just this
pub ahead_next : {A : Type 0} {Spells : Data → A → Type 0} {values : List Value} {index : ℕ} {read : List A} (v : Value) (a : A) → Ahead Spells values index read → index < length values → v ≡ get_or values index v → Spells (view v) a → ((b : A) → Spells (view v) b → b ≡ a) → Ahead Spells values (index + 1) (read ++ a ∷ [])
ahead_next {A} {Spells} {values} {index} {read} v a h below is spelled only_one = record {
  back = λ more each.
      subst (Each Spells (items_view values)) (sym (append_assoc read (a ∷ []) more))
      (h.back (a ∷ more) (subst (λ ds. Each Spells ds (a ∷ more)) (sym (next_value values index v below is)) (spelled, each)));
  only = λ list each.
      let o = h.only list each in
      let f = first_spelled Spells (view v) (items_view (drop (index + 1) values)) o.0 (subst (λ ds. Each Spells ds o.0) (next_value values index v below is) o.2) in (
        f.1,
        o.1 ∙ ap (λ rest. read ++ rest) (f.2 ∙ ap (λ b. b ∷ f.1) (only_one f.0 f.3)) ∙ sym (append_assoc read (a ∷ []) f.1),
        f.4,
      );
}

-- the next value spells nothing
pub ahead_stuck : {A : Type 0} {Spells : Data → A → Type 0} {values : List Value} {index : ℕ} {read : List A} (v : Value) → Ahead Spells values index read → index < length values → v ≡ get_or values index v → ((a : A) → ¬ Spells (view v) a) → (list : List A) → ¬ Each Spells (items_view values) list
ahead_stuck {A} {Spells} {values} {index} {read} v h below is none list each =
    let o = h.only list each in
    let f = first_spelled Spells (view v) (items_view (drop (index + 1) values)) o.0 (subst (λ ds. Each Spells ds o.0) (next_value values index v below is) o.2) in
    none f.0 f.3

-- all values were read
pub ahead_all : {A : Type 0} {Spells : Data → A → Type 0} {values : List Value} {index : ℕ} {read : List A} → Ahead Spells values index read → length values ≤ index → Each Spells (items_view values) read
ahead_all {A} {Spells} {values} {index} {read} h past =
    subst (Each Spells (items_view values)) (append-nil read)
    (h.back [] (subst (λ ds. Each Spells ds []) (sym (ap items_view (drop_of_length-le values past))) tt))

-- values spell one list at most
pub each_one : {A : Type 0} (Spells : Data → A → Type 0) → ((d : Data) (a b : A) → Spells d a → Spells d b → a ≡ b) → (ds : Items) (xs ys : List A) → Each Spells ds xs → Each Spells ds ys → xs ≡ ys
each_one Spells one no_items [] [] p q = refl
each_one Spells one no_items [] (y ∷ ys) p q = absurd q
each_one Spells one no_items (x ∷ xs) ys p q = absurd p
each_one Spells one (item d ds) [] ys p q = absurd p
each_one Spells one (item d ds) (x ∷ xs) [] p q = absurd q
each_one Spells one (item d ds) (x ∷ xs) (y ∷ ys) p q =
    ap (λ a. a ∷ xs) (one d x y p.0 q.0) ∙ ap (λ more. y ∷ more) (each_one Spells one ds xs ys p.1 q.1)

pub no_values : (values : List Value) → items_view values ≡ no_items → values ≡ []
no_values [] e = refl
no_values (v ∷ values) e = absurd cc
