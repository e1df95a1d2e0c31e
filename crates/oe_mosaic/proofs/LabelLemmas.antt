-- Labels that are merged, one step at a time.
use Rattle.std.proofs.Common.{◌≡◌, ℕ, ◌+◌, ◌<◌, ◌≤◌, true, false, List, [], ◌∷◌, ◌++◌, length, get_or, drop, refl, ℤ, pos, sym, ap, ◌∙◌, append_assoc}
use Rattle.std.proofs.lemmas.List.{append-nil, drop_more, drop_all}
use Rattle.oe_dims.specs.declared.kind.Kind.{Kind}
use Rattle.oe_mosaic.specs.Labels.{merge_labels, stands_before}

pub takes_first : (kind : Kind) (a b : ℤ) (one two : List ℤ) → stands_before kind a b ≡ true
    → merge_labels kind (a ∷ one) (b ∷ two) ≡ a ∷ merge_labels kind one (b ∷ two)
takes_first kind a b one two h = rw h refl

pub takes_second : (kind : Kind) (a b : ℤ) (one two : List ℤ) → stands_before kind a b ≡ false → stands_before kind b a ≡ true
    → merge_labels kind (a ∷ one) (b ∷ two) ≡ b ∷ merge_labels kind (a ∷ one) two
takes_second kind a b one two h k = rw (h, k) refl

pub takes_both : (kind : Kind) (a b : ℤ) (one two : List ℤ) → stands_before kind a b ≡ false → stands_before kind b a ≡ false
    → merge_labels kind (a ∷ one) (b ∷ two) ≡ a ∷ merge_labels kind one two
takes_both kind a b one two h k = rw (h, k) refl

one_label : (done rest : List ℤ) (a : ℤ) → (done ++ a ∷ []) ++ rest ≡ done ++ a ∷ rest
one_label done rest a = append_assoc done (a ∷ []) rest

pub first_stands : (kind : Kind) (done one two : List ℤ) (i j : ℕ) (a b : ℤ) → i < length one → j < length two
    → get_or one i (pos 0) ≡ a → get_or two j (pos 0) ≡ b → stands_before kind a b ≡ true
    → (done ++ a ∷ []) ++ merge_labels kind (drop (i + 1) one) (drop j two) ≡ done ++ merge_labels kind (drop i one) (drop j two)
first_stands kind done one two i j a b within within_two is_a is_b h =
    let front : drop i one ≡ a ∷ drop (i + 1) one = drop_more one i (pos 0) within ∙ ap (λ (l : ℤ). l ∷ drop (i + 1) one) is_a in
    let back : drop j two ≡ b ∷ drop (j + 1) two = drop_more two j (pos 0) within_two ∙ ap (λ (l : ℤ). l ∷ drop (j + 1) two) is_b in
    let step : merge_labels kind (drop i one) (drop j two) ≡ a ∷ merge_labels kind (drop (i + 1) one) (drop j two) =
    ap (λ (l : List ℤ). merge_labels kind l (drop j two)) front
    ∙ ap (merge_labels kind (a ∷ drop (i + 1) one)) back
    ∙ takes_first kind a b (drop (i + 1) one) (drop (j + 1) two) h
    ∙ ap (λ (l : List ℤ). a ∷ merge_labels kind (drop (i + 1) one) l) (sym back) in
    one_label done (merge_labels kind (drop (i + 1) one) (drop j two)) a ∙ ap (λ (l : List ℤ). done ++ l) (sym step)

pub second_stands : (kind : Kind) (done one two : List ℤ) (i j : ℕ) (a b : ℤ) → i < length one → j < length two
    → get_or one i (pos 0) ≡ a → get_or two j (pos 0) ≡ b → stands_before kind a b ≡ false → stands_before kind b a ≡ true
    → (done ++ b ∷ []) ++ merge_labels kind (drop i one) (drop (j + 1) two) ≡ done ++ merge_labels kind (drop i one) (drop j two)
second_stands kind done one two i j a b within within_two is_a is_b h k =
    let front : drop i one ≡ a ∷ drop (i + 1) one = drop_more one i (pos 0) within ∙ ap (λ (l : ℤ). l ∷ drop (i + 1) one) is_a in
    let back : drop j two ≡ b ∷ drop (j + 1) two = drop_more two j (pos 0) within_two ∙ ap (λ (l : ℤ). l ∷ drop (j + 1) two) is_b in
    let step : merge_labels kind (drop i one) (drop j two) ≡ b ∷ merge_labels kind (drop i one) (drop (j + 1) two) =
    ap (λ (l : List ℤ). merge_labels kind l (drop j two)) front
    ∙ ap (merge_labels kind (a ∷ drop (i + 1) one)) back
    ∙ takes_second kind a b (drop (i + 1) one) (drop (j + 1) two) h k
    ∙ ap (λ (l : List ℤ). b ∷ merge_labels kind l (drop (j + 1) two)) (sym front) in
    one_label done (merge_labels kind (drop i one) (drop (j + 1) two)) b ∙ ap (λ (l : List ℤ). done ++ l) (sym step)

pub both_stand : (kind : Kind) (done one two : List ℤ) (i j : ℕ) (a b : ℤ) → i < length one → j < length two
    → get_or one i (pos 0) ≡ a → get_or two j (pos 0) ≡ b → stands_before kind a b ≡ false → stands_before kind b a ≡ false
    → (done ++ a ∷ []) ++ merge_labels kind (drop (i + 1) one) (drop (j + 1) two) ≡ done ++ merge_labels kind (drop i one) (drop j two)
both_stand kind done one two i j a b within within_two is_a is_b h k =
    let front : drop i one ≡ a ∷ drop (i + 1) one = drop_more one i (pos 0) within ∙ ap (λ (l : ℤ). l ∷ drop (i + 1) one) is_a in
    let back : drop j two ≡ b ∷ drop (j + 1) two = drop_more two j (pos 0) within_two ∙ ap (λ (l : ℤ). l ∷ drop (j + 1) two) is_b in
    let step : merge_labels kind (drop i one) (drop j two) ≡ a ∷ merge_labels kind (drop (i + 1) one) (drop (j + 1) two) =
    ap (λ (l : List ℤ). merge_labels kind l (drop j two)) front
    ∙ ap (merge_labels kind (a ∷ drop (i + 1) one)) back
    ∙ takes_both kind a b (drop (i + 1) one) (drop (j + 1) two) h k in
    one_label done (merge_labels kind (drop (i + 1) one) (drop (j + 1) two)) a ∙ ap (λ (l : List ℤ). done ++ l) (sym step)

nothing_behind : (kind : Kind) (one : List ℤ) → merge_labels kind one [] ≡ one
nothing_behind kind [] = refl
nothing_behind kind (a ∷ one) = refl

-- where one of the lists has ended
pub rest_of_one : (kind : Kind) (done one two : List ℤ) (i j : ℕ) → length two ≤ j
    → (done ++ drop i one) ++ drop j two ≡ done ++ merge_labels kind (drop i one) (drop j two)
rest_of_one kind done one two i j ended =
    let none : drop j two ≡ [] = drop_all j two ended in
    ap (λ (l : List ℤ). (done ++ drop i one) ++ l) none ∙ append-nil (done ++ drop i one)
    ∙ ap (λ (l : List ℤ). done ++ l) (sym (nothing_behind kind (drop i one)))
    ∙ ap (λ (l : List ℤ). done ++ merge_labels kind (drop i one) l) (sym none)

pub rest_of_two : (kind : Kind) (done one two : List ℤ) (i j : ℕ) → length one ≤ i
    → (done ++ drop i one) ++ drop j two ≡ done ++ merge_labels kind (drop i one) (drop j two)
rest_of_two kind done one two i j ended =
    let none : drop i one ≡ [] = drop_all i one ended in
    ap (λ (l : List ℤ). (done ++ l) ++ drop j two) none ∙ ap (λ (l : List ℤ). l ++ drop j two) (append-nil done)
    ∙ ap (λ (l : List ℤ). done ++ merge_labels kind l (drop j two)) (sym none)
