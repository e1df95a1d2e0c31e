-- One more cell behind others: what it does to the running sum.
use Rattle.std.proofs.Common.{◌≡◌, ◌≢◌, ◌⊎◌, inl, inr, Bool, true, false, not, ◌&&◌, ◌||◌, List, [], ◌∷◌, ◌++◌, filter, fold, refl, sym, ap, ◌∙◌, subst, arith}
use Rattle.std.specs.List.{All, list_all, list_any}
use Rattle.std.proofs.lemmas.Bool.{cond_both}
use Rattle.std.proofs.lemmas.List.{append-nil}
use Rattle.std.proofs.lemmas.List.Elements.{All-filter, All-get_or, filter-append}
use Rattle.std.proofs.lemmas.List.Folds.{list_all-append, list_any-append}
use Rattle.std.proofs.lemmas.List.Sums.{fold-append}
use Rattle.oe_cell.specs.Kinds.{IsLogical, IsNumeric, is_empty, is_over}
use Rattle.oe_cell.proofs.KindLemmas.{IsNumeric-add_of}
use Rattle.oe_cell.specs.Operations.{add_of}
use Rattle.oe_cell.specs.declared.cell.Cell.{Cell}
use Rattle.oe_cell.specs.declared.cell.Cell.TheVariants.{Empty, Flag, Number, Over}
use Rattle.oe_periods.specs.Sums.{HasSummed, IsSumOf, StaysNull, left_sum, running_sum, sum_at, sum_so_far}

abbrev pub counts : Cell → Bool
counts c = not (is_empty c)

-- ---- tests of one more

or_false : (a : Bool) → (a || false) ≡ a
or_false true = refl
or_false false = refl

and_true : (a : Bool) → (a && true) ≡ a
and_true true = refl
and_true false = refl

and_false : (a : Bool) → (a && false) ≡ false
and_false true = refl
and_false false = refl

or_true : (a : Bool) → (a || true) ≡ true
or_true true = refl
or_true false = refl

any_more : (test : Cell → Bool) (cells : List Cell) (cell : Cell) → list_any test (cells ++ cell ∷ []) ≡ (list_any test cells || test cell)
any_more test cells cell = list_any-append test cells (cell ∷ []) ∙ ap (λ b. list_any test cells || b) (or_false (test cell))

all_more : (test : Cell → Bool) (cells : List Cell) (cell : Cell) → list_all test (cells ++ cell ∷ []) ≡ (list_all test cells && test cell)
all_more test cells cell = list_all-append test cells (cell ∷ []) ∙ ap (λ b. list_all test cells && b) (and_true (test cell))

any_stays : (test : Cell → Bool) (cells : List Cell) (cell : Cell) (b : Bool) → test cell ≡ false → list_any test cells ≡ b → list_any test (cells ++ cell ∷ []) ≡ b
any_stays test cells cell b one all = any_more test cells cell ∙ ap (λ x. list_any test cells || x) one ∙ or_false _ ∙ all

any_once : (test : Cell → Bool) (cells : List Cell) (cell : Cell) → list_any test cells ≡ true → list_any test (cells ++ cell ∷ []) ≡ true
any_once test cells cell all = any_more test cells cell ∙ ap (λ x. x || test cell) all

any_last : (test : Cell → Bool) (cells : List Cell) (cell : Cell) → test cell ≡ true → list_any test (cells ++ cell ∷ []) ≡ true
any_last test cells cell one = any_more test cells cell ∙ ap (λ x. list_any test cells || x) one ∙ or_true _

not_all_once : (test : Cell → Bool) (cells : List Cell) (cell : Cell) → list_all test cells ≡ false → list_all test (cells ++ cell ∷ []) ≡ false
not_all_once test cells cell all = all_more test cells cell ∙ ap (λ x. x && test cell) all

not_all_last : (test : Cell → Bool) (cells : List Cell) (cell : Cell) → test cell ≡ false → list_all test (cells ++ cell ∷ []) ≡ false
not_all_last test cells cell one = all_more test cells cell ∙ ap (λ x. list_all test cells && x) one ∙ and_false _

-- ---- the sum of one more

-- a null adds nothing
sum_past_null : (cells : List Cell) → sum_so_far (cells ++ Empty ∷ []) ≡ sum_so_far cells
sum_past_null cells = ap left_sum (filter-append counts cells (Empty ∷ []) ∙ append-nil (filter counts cells))

-- where all cells are null none counts
pub none_counts : (cells : List Cell) → list_all is_empty cells ≡ true → filter counts cells ≡ []
none_counts [] h = refl
none_counts (Empty ∷ cells) h = none_counts cells h
none_counts (Over ∷ cells) h = absurd cc
none_counts (Flag b ∷ cells) h = absurd cc
none_counts (Number q ∷ cells) h = absurd cc

-- where not all are, some does
some_counts : (cells : List Cell) → list_all is_empty cells ≡ false → (first : Cell) × (rest : List Cell) × (filter counts cells ≡ first ∷ rest)
some_counts [] h = absurd cc
some_counts (Empty ∷ cells) h = some_counts cells h
some_counts (Over ∷ cells) h = (Over, filter counts cells, refl)
some_counts (Flag b ∷ cells) h = (Flag b, filter counts cells, refl)
some_counts (Number q ∷ cells) h = (Number q, filter counts cells, refl)

kept_last : (cells : List Cell) (cell : Cell) → is_empty cell ≡ false → filter counts (cells ++ cell ∷ []) ≡ filter counts cells ++ cell ∷ []
kept_last cells Empty h = absurd cc
kept_last cells Over h = filter-append counts cells (Over ∷ [])
kept_last cells (Flag b) h = filter-append counts cells (Flag b ∷ [])
kept_last cells (Number q) h = filter-append counts cells (Number q ∷ [])

-- the first that counts is the sum
sum_first : (cells : List Cell) (cell : Cell) → is_empty cell ≡ false → list_all is_empty cells ≡ true → sum_so_far (cells ++ cell ∷ []) ≡ cell
sum_first cells cell one none = ap left_sum (kept_last cells cell one ∙ ap (λ xs. xs ++ cell ∷ []) (none_counts cells none))

-- a later one is added
sum_later : (cells : List Cell) (cell : Cell) → is_empty cell ≡ false → list_all is_empty cells ≡ false → sum_so_far (cells ++ cell ∷ []) ≡ add_of (sum_so_far cells) cell
sum_later cells cell one some =
    let (first, rest, is) = some_counts cells some in
    let more : filter counts (cells ++ cell ∷ []) ≡ first ∷ (rest ++ cell ∷ []) = kept_last cells cell one ∙ ap (λ xs. xs ++ cell ∷ []) is in
    ap left_sum more ∙ fold-append add_of first rest (cell ∷ []) ∙ ap (λ xs. add_of (left_sum xs) cell) (sym is)

-- ---- the two cells with one more

pub before_all : (ignore : Bool) → HasSummed ignore [] Empty Empty
before_all ignore = record { no_over = refl; no_null = and_false (not ignore); sum_is = refl; empty_is = refl }

not_null : (cell : Cell) → cell ≢ Empty → is_empty cell ≡ false
not_null Empty h = absurd (h refl)
not_null Over h = refl
not_null (Flag b) h = refl
not_null (Number q) h = refl

not_over : (cell : Cell) → cell ≢ Over → is_over cell ≡ false
not_over Empty h = refl
not_over Over h = absurd (h refl)
not_over (Flag b) h = refl
not_over (Number q) h = refl

-- the first cell that counts
pub first_counts : (ignore : Bool) (before : List Cell) (cell sum : Cell) → cell ≢ Empty → cell ≢ Over → sum ≡ Empty → IsSumOf ignore before sum → IsSumOf ignore (before ++ cell ∷ []) cell
first_counts ignore before cell sum some whole none h =
    let one = not_null cell some in
    let all : list_all is_empty before ≡ true = sym h.empty_is ∙ ap is_empty none in
    record {
      no_over = any_stays is_over before cell false (not_over cell whole) h.no_over;
      no_null = ap (λ b. not ignore && b) (any_stays is_empty before cell _ one refl) ∙ h.no_null;
      sum_is = sym (sum_first before cell one all);
      empty_is = one ∙ sym (not_all_last is_empty before cell one);
    }

-- a null that counts holds for good
null_for_good : (ignore : Bool) (before : List Cell) (cell : Cell) → (not ignore && list_any is_empty before) ≡ true → (not ignore && list_any is_empty (before ++ cell ∷ [])) ≡ true
null_for_good true before cell h = absurd cc
null_for_good false before cell h = any_once is_empty before cell h

-- a sum that is null stays null
null_sum : (before : List Cell) (cell : Cell) → cell ≢ Over → list_all is_empty before ≡ false → sum_so_far before ≡ Empty → sum_so_far (before ++ cell ∷ []) ≡ Empty
null_sum before Empty whole some none = sum_past_null before ∙ none
null_sum before Over whole some none = absurd (whole refl)
null_sum before (Flag b) whole some none = sum_later before (Flag b) refl some ∙ ap (λ s. add_of s (Flag b)) none
null_sum before (Number q) whole some none = sum_later before (Number q) refl some ∙ ap (λ s. add_of s (Number q)) none

stays_null : (ignore : Bool) (before : List Cell) (cell : Cell) → cell ≢ Over → StaysNull ignore before → StaysNull ignore (before ++ cell ∷ [])
stays_null ignore before cell whole h = record {
  no_over = any_stays is_over before cell false (not_over cell whole) h.no_over;
  cause = by h.cause;
}
  where
    by : ((not ignore && list_any is_empty before) ≡ true) ⊎ ((list_all is_empty before ≡ false) × (sum_so_far before ≡ Empty))
        → ((not ignore && list_any is_empty (before ++ cell ∷ [])) ≡ true) ⊎ ((list_all is_empty (before ++ cell ∷ []) ≡ false) × (sum_so_far (before ++ cell ∷ []) ≡ Empty))
    by (inl null) = inl (null_for_good ignore before cell null)
    by (inr none) = inr (not_all_once is_empty before cell none.0, null_sum before cell whole none.0 none.1)

-- what something else than the sum decides, any cell but an Over leaves
pub decided : (ignore : Bool) (before : List Cell) (cell sum mark : Cell) → mark ≢ Empty → cell ≢ Over → HasSummed ignore before sum mark → HasSummed ignore (before ++ cell ∷ []) sum mark
decided ignore before cell sum Empty marked whole h = absurd (marked refl)
decided ignore before cell sum Over marked whole h = any_once is_over before cell h
decided ignore before cell sum (Flag b) marked whole h = stays_null ignore before cell whole h
decided ignore before cell sum (Number q) marked whole h = absurd h

-- ---- the same cells by other names

pub same_cells : (ignore : Bool) (cells : List Cell) (s t m n : Cell) → s ≡ t → m ≡ n → HasSummed ignore cells s m → HasSummed ignore cells t n
same_cells ignore cells s t m n sums marks h = subst (λ x. HasSummed ignore cells t x) marks (subst (λ x. HasSummed ignore cells x m) sums h)

pub same_summed : (ignore : Bool) (before : List Cell) (a b s t m n : Cell) → a ≡ b → s ≡ t → m ≡ n → HasSummed ignore (before ++ a ∷ []) s m → HasSummed ignore (before ++ b ∷ []) t n
same_summed ignore before a b s t m n cell sums marks h =
    same_cells ignore (before ++ b ∷ []) s t m n sums marks (subst (λ x. HasSummed ignore (before ++ x ∷ []) s m) cell h)

-- ---- running sums of cells of a kind

running_sum-keeps : (P : Cell → Type 0) (ignore : Bool) (before : List Cell) (cell : Cell) → P Over → P Empty → P (sum_so_far (before ++ cell ∷ [])) → P (running_sum ignore before cell)
running_sum-keeps P ignore before cell over null sum =
    let cells = before ++ cell ∷ [] in
    cond_both (list_any is_over cells) _ _ P (λ t. over)
    (λ f. cond_both ((not ignore && list_any is_empty cells) || list_all is_empty cells) _ _ P (λ t. null)
    (λ g. at (sum_so_far cells) cell sum))
  where
    at : (s c : Cell) → P s → P (sum_at c s)
    at Over c h = over
    at Empty c h = cond_both (is_empty c) _ _ P (λ t. null) (λ f. h)
    at (Flag b) c h = cond_both (is_empty c) _ _ P (λ t. null) (λ f. h)
    at (Number q) c h = cond_both (is_empty c) _ _ P (λ t. null) (λ f. h)

sum_numeric : (sum : Cell) (cells : List Cell) → IsNumeric sum → IsNumeric (fold add_of sum cells)
sum_numeric sum [] h = h
sum_numeric sum (cell ∷ cells) h = sum_numeric (add_of sum cell) cells (IsNumeric-add_of sum cell)

add_logical : (x y : Cell) → IsLogical x → IsLogical (add_of x y)
add_logical Over y h = tt
add_logical Empty Over h = tt
add_logical Empty Empty h = tt
add_logical Empty (Flag b) h = tt
add_logical Empty (Number q) h = tt
add_logical (Flag a) Over h = tt
add_logical (Flag a) Empty h = tt
add_logical (Flag a) (Flag b) h = tt
add_logical (Flag a) (Number q) h = tt
add_logical (Number p) y h = absurd h

sum_logical : (sum : Cell) (cells : List Cell) → IsLogical sum → IsLogical (fold add_of sum cells)
sum_logical sum [] h = h
sum_logical sum (cell ∷ cells) h = sum_logical (add_of sum cell) cells (add_logical sum cell h)

left_numeric : (cells : List Cell) → All IsNumeric cells → IsNumeric (left_sum cells)
left_numeric [] h = tt
left_numeric (cell ∷ rest) h = sum_numeric cell rest (All-get_or IsNumeric (cell ∷ rest) 0 Empty (omega arith) h)

left_logical : (cells : List Cell) → All IsLogical cells → IsLogical (left_sum cells)
left_logical [] h = tt
left_logical (cell ∷ rest) h = sum_logical cell rest (All-get_or IsLogical (cell ∷ rest) 0 Empty (omega arith) h)

-- a running sum of cells without flags is no flag
pub running_sum-numeric : (ignore : Bool) (before : List Cell) (cell : Cell) → All IsNumeric (before ++ cell ∷ []) → IsNumeric (running_sum ignore before cell)
running_sum-numeric ignore before cell h = running_sum-keeps IsNumeric ignore before cell tt tt (left_numeric _ (All-filter counts IsNumeric (before ++ cell ∷ []) h))

-- and one of cells without numbers is no number
pub running_sum-logical : (ignore : Bool) (before : List Cell) (cell : Cell) → All IsLogical (before ++ cell ∷ []) → IsLogical (running_sum ignore before cell)
running_sum-logical ignore before cell h = running_sum-keeps IsLogical ignore before cell tt tt (left_logical _ (All-filter counts IsLogical (before ++ cell ∷ []) h))
