-- A value says one kind of cells and one shape at most.
use Rattle.std.proofs.Common.{List, [], ap, codes, length, refl, subst, suc, ◌∷◌, ◌≡◌}
use Rattle.serde_json.specs.Data.{Data}
use Rattle.serde_json.specs.View.{items_view}
use Rattle.serde_json.specs.declared.value.Value.{Value}
use Rattle.oe_render.specs.Members.{SaysKind, SaysShape, kind_word, text_in}
use Rattle.oe_render.specs.CubeText.{AreDimensions, Each, list_in}
use Rattle.oe_render.proofs.Spelled.{one_text}
use Rattle.oe_render.proofs.Shapes.{one_shape, same_items}
use Rattle.oe_dims.specs.declared.kind.CellKind.{CellKind}
use Rattle.oe_dims.specs.declared.kind.CellKind.TheVariants.{Flags, Numbers}
use Rattle.oe_dims.specs.Dimensions.{Dimensions}

kind_by_word : (k l : CellKind) → kind_word k ≡ kind_word l → k ≡ l
kind_by_word Numbers Numbers e = refl
kind_by_word Numbers Flags e = absurd cc
kind_by_word Flags Numbers e = absurd cc
kind_by_word Flags Flags e = refl

pub one_kind : (d : Data) (k l : CellKind) → SaysKind d k → SaysKind d l → k ≡ l
one_kind d k l p q = kind_by_word k l (one_text (text_in (codes "cells") d) (kind_word k) (kind_word l) p q)

pub shape_once : (d : Data) (a b : Dimensions) → SaysShape d a → SaysShape d b → a ≡ b
shape_once d a b p q =
    let same = same_items (list_in (codes "dimensions") d) p.0 q.0 p.1 q.1 in
    one_shape q.0 a b (subst (λ ds. AreDimensions ds a) same p.2) q.2

-- values that spell a list are as many as its items
pub each_length : {A : Type 0} (Spells : Data → A → Type 0) (values : List Value) (list : List A) → Each Spells (items_view values) list → length list ≡ length values
each_length Spells [] [] h = refl
each_length Spells [] (a ∷ more) h = absurd h
each_length Spells (v ∷ values) [] h = absurd h
each_length Spells (v ∷ values) (a ∷ more) h = ap suc (each_length Spells values more h.1)
