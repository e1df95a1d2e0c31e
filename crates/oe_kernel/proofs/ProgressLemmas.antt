-- What holds of the items so far and of some more, one after the other or in rows.
use Rattle.std.proofs.Common.{◌≡◌, ℕ, ◌+◌, ◌-◌, ◌*◌, ◌<◌, ◌≤◌, ltb, inl, inr, subst, arith}
use Rattle.std.proofs.Math.Nat.{mul-le-mul_left}
use Rattle.std.proofs.lemmas.Bool.{cases_Bool}
use Rattle.std.proofs.lemmas.Bool.Decides.{Decides-ltb, nat_tests}
use Rattle.std.proofs.lemmas.Nat.{mul-add-lt}

pub items_more : (P : ℕ → Type 0) (n some : ℕ) → ((j : ℕ) → j < n → P j) → ((k : ℕ) → k < some → P (n + k)) → (j : ℕ) → j < n + some → P j
items_more P n some done more j h =
    elim (cases_Bool (ltb j n)) [
      | inl t ↦ done j ((Decides-ltb j n).0 t)
      | inr f ↦
          let past : n ≤ j = grind (arith, nat_tests) in
          let same : n + (j - n) ≡ j = omega arith in
          subst P same (more (j - n) (omega arith))
    ]

pub rows_more : (P : ℕ → ℕ → Type 0) (n some columns : ℕ) → ((row k : ℕ) → row < n → k < columns → P row k) → ((row k : ℕ) → row < some → k < columns → P (n + row) k) → (row k : ℕ) → row < n + some → k < columns → P row k
rows_more P n some columns done more row k h within =
    items_more (λ (r : ℕ). P r k) n some (λ r below. done r k below within) (λ r below. more r k below within) row h

-- an item of an earlier row stands before a row
pub row_before : (row k n columns : ℕ) → row < n → k < columns → row * columns + k < n * columns
row_before row k n columns h within =
    let below : row * columns + k < columns * n = mul-add-lt row columns k n h within in
    omega arith

-- rows after others
pub rows_end : (row some all columns : ℕ) → row + some ≤ all → row * columns + some * columns ≤ all * columns
rows_end row some all columns h =
    let grow : columns * (row + some) ≤ columns * all = mul-le-mul_left columns h in
    let split : columns * (row + some) ≡ row * columns + some * columns = omega arith in
    let turn : columns * all ≡ all * columns = omega arith in
    omega arith

-- a row of windows reads the rows under it
pub window_room : (row rows height stride all : ℕ) → row < rows → 0 < height → (rows + height - 1) * stride ≡ all → row * stride + (height - 1) * stride + stride ≤ all
window_room row rows height stride all below some counted =
    let reach : row + (height - 1) + 1 ≤ rows + height - 1 = omega arith in
    let ends : (row + (height - 1)) * stride + 1 * stride ≤ (rows + height - 1) * stride = rows_end (row + (height - 1)) 1 (rows + height - 1) stride reach in
    let split : (row + (height - 1)) * stride ≡ row * stride + (height - 1) * stride = omega arith in
    omega arith
