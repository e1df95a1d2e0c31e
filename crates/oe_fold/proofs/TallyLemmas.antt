-- One more cell of the pass over a list.
use Rattle.std.proofs.Common.{◌≡◌, ℕ, suc, ◌+◌, ◌<◌, ◌≤◌, get_or, take, true, false, Bool, refl, sym, ap, ◌∙◌, subst, arith, inl, inr, List, [], ◌∷◌, ◌++◌, length, length-append, append-nil}
use Rattle.std.specs.Prelude.{◌||◌, ◌==◌, unwrap_or}
use Rattle.std.specs.List.{list_any, reduce, fold}
use Rattle.std.proofs.lemmas.Bool.{cases_Bool, cond-true, cond-false}
use Rattle.std.proofs.lemmas.Bool.Decides.{nat_tests}
use Rattle.std.proofs.lemmas.List.Elements.{All-push, filter-append}
use Rattle.std.proofs.lemmas.List.Folds.{list_any-append}
use Rattle.std.proofs.lemmas.List.Sums.{fold-append, length-filter, count_by-le-length}
use Rattle.std.proofs.lemmas.List.{take_more}
use Rattle.oe_cell.specs.Cells.{IsCell}
use Rattle.oe_cell.specs.declared.cell.Cell.{Cell}
use Rattle.oe_cell.specs.declared.cell.Cell.TheVariants.{Empty}
use Rattle.oe_cell.specs.Kinds.{is_over}
use Rattle.oe_fold.specs.Counted.{is_counted, counted_cells}
use Rattle.oe_fold.specs.Reduction.{makes_null}
use Rattle.oe_fold.specs.Progress.{skips_nulls, join_of, join_to_of, step_of, no_cells, IsTallyOf, HasSeen}
use Rattle.oe_fold.specs.declared.reducer.Reducer.{Reducer}
use Rattle.oe_fold.specs.declared.pass.Pass.{Pass}
use Rattle.oe_fold.specs.declared.tally.Tally.{Tally}

or-false : (b : Bool) → (b || false) ≡ b
or-false true = refl
or-false false = refl

list_any-push : (p : Cell → Bool) (xs : List Cell) (x : Cell) → list_any p (xs ++ x ∷ []) ≡ (list_any p xs || p x)
list_any-push p xs x = list_any-append p xs (x ∷ []) ∙ ap (λ (b : Bool). list_any p xs || b) (or-false (p x))

not_zero : (n : ℕ) → (suc n == 0) ≡ false
not_zero n = grind (arith, nat_tests)

-- what one more cell makes of the value so far
value-push : (r : Reducer) (xs : List Cell) (x : Cell) → join_to_of r (length xs) (unwrap_or (reduce (join_of r) xs) Empty) x ≡ unwrap_or (reduce (join_of r) (xs ++ x ∷ [])) Empty
value-push r [] x = refl
value-push r (y ∷ xs) x =
    cond-false (suc (length xs) == 0) x (join_of r (fold (join_of r) y xs) x) (not_zero (length xs)) ∙ sym (fold-append (join_of r) y xs (x ∷ []))

counted_cells-push : (ignore : Bool) (xs : List Cell) (x : Cell) → is_counted ignore x ≡ true → counted_cells ignore (xs ++ x ∷ []) ≡ counted_cells ignore xs ++ x ∷ []
counted_cells-push ignore xs x h = filter-append (is_counted ignore) xs (x ∷ []) ∙ ap (λ (ys : List Cell). counted_cells ignore xs ++ ys) (cond-true (is_counted ignore x) (x ∷ []) [] h)

counted_cells-skip : (ignore : Bool) (xs : List Cell) (x : Cell) → is_counted ignore x ≡ false → counted_cells ignore (xs ++ x ∷ []) ≡ counted_cells ignore xs
counted_cells-skip ignore xs x h = filter-append (is_counted ignore) xs (x ∷ []) ∙ ap (λ (ys : List Cell). counted_cells ignore xs ++ ys) (cond-false (is_counted ignore x) (x ∷ []) [] h) ∙ append-nil (counted_cells ignore xs)

-- a tally with one more cell is one of one more cell
pub IsTallyOf-push : (r : Reducer) (skips : Bool) (xs : List Cell) (x : Cell) (p : Tally) → IsTallyOf r skips xs p → IsTallyOf r skips (xs ++ x ∷ []) (step_of r skips p x)
IsTallyOf-push r skips xs x p s = elim (cases_Bool (is_counted skips x)) [
  | inl h ↦ record {
    over = ap (λ (b : Bool). b || is_over x) s.over ∙ sym (list_any-push is_over xs x);
    null = cond-true _ _ _ h ∙ ap (λ (b : Bool). b || makes_null r x) s.null ∙ sym (list_any-push (makes_null r) (counted_cells skips xs) x) ∙ ap (λ (ys : List Cell). list_any (makes_null r) ys) (sym (counted_cells-push skips xs x h));
    count = cond-true _ _ _ h ∙ ap (λ (n : ℕ). n + 1) s.count ∙ sym (length-append (counted_cells skips xs) (x ∷ [])) ∙ ap (λ (ys : List Cell). length ys) (sym (counted_cells-push skips xs x h));
    value = cond-true _ _ _ h ∙ ap (λ (n : ℕ). join_to_of r n p.value x) s.count ∙ ap (λ (v : Cell). join_to_of r (length (counted_cells skips xs)) v x) s.value ∙ value-push r (counted_cells skips xs) x ∙ ap (λ (ys : List Cell). unwrap_or (reduce (join_of r) ys) Empty) (sym (counted_cells-push skips xs x h));
  }
  | inr h ↦ record {
    over = ap (λ (b : Bool). b || is_over x) s.over ∙ sym (list_any-push is_over xs x);
    null = cond-false _ _ _ h ∙ s.null ∙ ap (λ (ys : List Cell). list_any (makes_null r) ys) (sym (counted_cells-skip skips xs x h));
    count = cond-false _ _ _ h ∙ s.count ∙ ap (λ (ys : List Cell). length ys) (sym (counted_cells-skip skips xs x h));
    value = cond-false _ _ _ h ∙ s.value ∙ ap (λ (ys : List Cell). unwrap_or (reduce (join_of r) ys) Empty) (sym (counted_cells-skip skips xs x h));
  }
]

pub IsTallyOf-none : (r : Reducer) (skips : Bool) → IsTallyOf r skips [] no_cells
IsTallyOf-none r skips = record { over = refl; null = refl; count = refl; value = refl }

pub count-step_of : (r : Reducer) (skips : Bool) (x : Cell) (p : Tally) → (step_of r skips p x).count ≤ p.count + 1
count-step_of r skips x p = elim (cases_Bool (is_counted skips x)) [
  | inl h ↦ (let e : (step_of r skips p x).count ≡ p.count + 1 = cond-true _ _ _ h in omega (arith, e))
  | inr h ↦ (let e : (step_of r skips p x).count ≡ p.count = cond-false _ _ _ h in omega (arith, e))
]

pub length-counted_cells : (ignore : Bool) (xs : List Cell) → length (counted_cells ignore xs) ≤ length xs
length-counted_cells ignore xs = subst (λ (n : ℕ). n ≤ length xs) (sym (length-filter (is_counted ignore) xs)) (count_by-le-length (is_counted ignore) xs)

-- ---- a pass

pub HasSeen-start : (r : Reducer) (ignore : Bool) (p : Pass) → p ≡ record { reducer = r; skips = skips_nulls r ignore; tally = no_cells } → HasSeen p r ignore []
HasSeen-start r ignore p e = subst (λ (q : Pass). HasSeen q r ignore []) (sym e) (record {
  reducer = refl;
  skips = refl;
  tally = IsTallyOf-none r (skips_nulls r ignore);
  known = λ k d h. absurd (omega (arith, h));
  within = omega arith;
})

pub HasSeen-push : (p q : Pass) (x : Cell) (r : Reducer) (ignore : Bool) (xs : List Cell) → IsCell x → q.reducer ≡ p.reducer → q.skips ≡ p.skips → q.tally ≡ step_of p.reducer p.skips p.tally x → HasSeen p r ignore xs → HasSeen q r ignore (xs ++ x ∷ [])
HasSeen-push p q x r ignore xs cell same_r same_s e s =
    let tally : q.tally ≡ step_of r (skips_nulls r ignore) p.tally x = e ∙ ap (λ (o : Reducer). step_of o p.skips p.tally x) s.reducer ∙ ap (λ (b : Bool). step_of r b p.tally x) s.skips in
    let grown : (step_of r (skips_nulls r ignore) p.tally x).count ≤ p.tally.count + 1 = count-step_of r (skips_nulls r ignore) x p.tally in
    let counted : q.tally.count ≤ p.tally.count + 1 = subst (λ (t : Tally). t.count ≤ p.tally.count + 1) (sym tally) grown in
    let had : p.tally.count ≤ length xs = s.within in
    let long : length (xs ++ x ∷ []) ≡ length xs + 1 = length-append xs (x ∷ []) in
    record {
      reducer = same_r ∙ s.reducer;
      skips = same_s ∙ s.skips;
      tally = subst (λ (t : Tally). IsTallyOf r (skips_nulls r ignore) (xs ++ x ∷ []) t) (sym tally) (IsTallyOf-push r (skips_nulls r ignore) xs x p.tally s.tally);
      known = All-push IsCell xs x s.known cell;
      within = omega (arith, counted, had, long);
    }

-- the step of a loop over a list
pub HasSeen-more : (p q : Pass) (r : Reducer) (ignore : Bool) (xs : List Cell) (i : ℕ) (x : Cell) → i < length xs → x ≡ get_or xs i x → HasSeen p r ignore (take i xs) → ((r : Reducer) → (ignore : Bool) → (ys : List Cell) → HasSeen p r ignore ys → HasSeen q r ignore (ys ++ x ∷ [])) → HasSeen q r ignore (take (i + 1) xs)
HasSeen-more p q r ignore xs i x h e s push =
    subst (λ (ys : List Cell). HasSeen q r ignore ys) (ap (λ (y : Cell). take i xs ++ y ∷ []) e ∙ sym (take_more xs i x h)) (push r ignore (take i xs) s)
