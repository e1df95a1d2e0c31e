-- Running folds, each with one more cell.
use Rattle.std.proofs.Common.{◌≡◌, ◌≢◌, ℕ, zero, suc, ◌+◌, ◌-◌, ◌*◌, ◌<◌, ◌≤◌, List, [], ◌∷◌, ◌++◌, length, get_or, set, Some, inl, inr, refl, sym, ap, ◌∙◌, subst, append_assoc, arith}
use Rattle.std.specs.List.{slice_get, slice_range}
use Rattle.std.proofs.Math.ListN.{drop}
use Rattle.std.proofs.lemmas.List.{get_or-take, get_or-drop, get_or-set_other, get_or-set_same}
use Rattle.std.proofs.lemmas.Bool.{cases_lt}
use Rattle.std.proofs.lemmas.Option.{same_Some}
use Rattle.oe_cell.specs.declared.cell.Cell.{Cell}
use Rattle.oe_cell.specs.declared.cell.Cell.TheVariants.{Empty}
use Rattle.oe_fold.specs.Columns.{column}
use Rattle.oe_fold.specs.declared.pass.Pass.{Pass}
use Rattle.oe_fold.proofs.ColumnLemmas.{column-more}
use Rattle.oe_slab.specs.Folds.{HaveRoom}

get_same : (folds : List Pass) (k : ℕ) (new : Pass) → k < length folds → slice_get (set folds k new) k ≡ Some new
get_same [] k new h = absurd (omega arith)
get_same (x ∷ xs) zero new h = refl
get_same (x ∷ xs) (suc k) new h = get_same xs k new (omega arith)

pub get_other : (folds : List Pass) (k j : ℕ) (new : Pass) → j ≢ k → slice_get (set folds k new) j ≡ slice_get folds j
get_other [] k j new other = refl
get_other (x ∷ xs) zero zero new other = absurd (other refl)
get_other (x ∷ xs) zero (suc j) new other = refl
get_other (x ∷ xs) (suc k) zero new other = refl
get_other (x ∷ xs) (suc k) (suc j) new other = get_other xs k j new (λ e. other (ap suc e))

-- what holds of each fold before one, and of what is put there, holds of each up to it
pub one_more : (P : ℕ → Pass → Type 0) (folds : List Pass) (k : ℕ) (new : Pass) → k < length folds
    → ((j : ℕ) (fold : Pass) → j < k → slice_get folds j ≡ Some fold → P j fold) → P k new
    → (j : ℕ) (fold : Pass) → j < k + 1 → slice_get (set folds k new) j ≡ Some fold → P j fold
one_more P folds k new within before here j fold lt at = elim (cases_lt j k) [
  | inl below ↦ let other : j ≢ k = omega arith in before j fold below (sym (get_other folds k j new other) ∙ at)
  | inr past ↦
      let same : k ≡ j = omega arith in
      let e : new ≡ fold = same_Some _ _ (sym (get_same folds k new within) ∙ (ap (slice_get (set folds k new)) same ∙ at)) in
      subst (λ i. P i fold) same (subst (P k) e here)
]

-- room for more is room for less
pub room_less : (folds : List Pass) (more less : ℕ) → less ≤ more → HaveRoom folds more → HaveRoom folds less
room_less folds more less h room k fold at = let most = room k fold at in omega (arith, most, h)

row_cell : (cells : List Cell) (from n k : ℕ) → k < n → get_or (slice_range cells from (from + n)) k Empty ≡ get_or cells (from + k) Empty
row_cell cells from n k h =
    let below : k < from + n - from = omega arith in
    get_or-take (from + n - from) (drop from cells) k Empty below ∙ get_or-drop from cells k Empty

-- the cells of one date more
pub date_more : (seen cells : List Cell) (plane date k : ℕ) → k < plane
    → (seen ++ column cells plane date k) ++ get_or (slice_range cells (date * plane) (date * plane + plane)) k Empty ∷ []
    ≡ seen ++ column cells plane (date + 1) k
date_more seen cells plane date k h =
    ap (λ (x : Cell). (seen ++ column cells plane date k) ++ x ∷ []) (row_cell cells (date * plane) plane k h)
    ∙ (append_assoc seen (column cells plane date k) (get_or cells (date * plane + k) Empty ∷ [])
    ∙ ap (λ (ys : List Cell). seen ++ ys) (sym (column-more cells plane date k)))

-- ---- values that are written one by one

-- what holds of each value before one, and of what is put there, holds of each up to it
pub one_written : (P : ℕ → Cell → Type 0) (out : List Cell) (k : ℕ) (x : Cell) → k < length out
    → ((j : ℕ) → j < k → P j (get_or out j Empty)) → P k x → (j : ℕ) → j < k + 1 → P j (get_or (set out k x) j Empty)
one_written P out k x within before here j lt = elim (cases_lt j k) [
  | inl below ↦
      let other : j ≢ k = omega arith in subst (P j) (sym (get_or-set_other out k j x Empty other)) (before j below)
  | inr past ↦
      let same : k ≡ j = omega arith in
      subst (λ i. P i (get_or (set out k x) i Empty)) same (subst (P k) (sym (get_or-set_same out k x Empty within)) here)
]
