-- Texts that are parted by a byte, one of whose bytes was changed.
use Rattle.std.proofs.Common.{◌≡◌, ℕ, ◌<◌, ◌^◌, List, [], ◌∷◌, ◌++◌, decimal, inl, inr, ◌⊎◌, refl, sym, ap, ◌∙◌, subst, append_assoc, append-nil, arith}
use Rattle.std.specs.Char.{digit_value}
use Rattle.std.specs.Str.Parse.{AllDigits}
use Rattle.std.proofs.lemmas.Fmt.{decimal_is_IsNumeral}
use Rattle.std.proofs.lemmas.List.{append_cancel_left, append_cancel_right}

first_of : (a b : ℕ) (xs ys : List ℕ) → a ∷ xs ≡ b ∷ ys → a ≡ b
first_of a b xs ys e = cc

rest_of : (a b : ℕ) (xs ys : List ℕ) → a ∷ xs ≡ b ∷ ys → xs ≡ ys
rest_of a b xs ys e = cc

-- ---- texts without a byte

-- the byte does not stand in the text
abbrev pub IsWithout : ℕ → List ℕ → Type 0
IsWithout mark [] = Unit {0}
IsWithout mark (c ∷ cs) = (¬ (c ≡ mark)) × IsWithout mark cs

stands : (mark : ℕ) (before after : List ℕ) → ¬ IsWithout mark (before ++ mark ∷ after)
stands mark [] after none = none.0 refl
stands mark (c ∷ before) after none = stands mark before after none.1

without_both : (mark : ℕ) (s t : List ℕ) → IsWithout mark s → IsWithout mark t → IsWithout mark (s ++ t)
without_both mark [] t a b = b
without_both mark (c ∷ s) t a b = (a.0, without_both mark s t a.1 b)

digits_without : (mark : ℕ) (digits : List ℕ) → ¬ (digit_value mark < 10) → AllDigits 10 digits → IsWithout mark digits
digits_without mark [] other all = tt
digits_without mark (c ∷ digits) other all =
    (λ same. (let P : ℕ → Type 0 = λ d. digit_value d < 10 in other (subst P same all.0)), digits_without mark digits other all.1)

decimal_without : (mark n : ℕ) → ¬ (digit_value mark < 10) → n < 2 ^ 64 → IsWithout mark (decimal n)
decimal_without mark n other small = digits_without mark (decimal n) other (decimal_is_IsNumeral n small).0.1

-- a number has no comma and no bracket
pub no_comma : (n : ℕ) → n < 2 ^ 64 → IsWithout 44 (decimal n)
no_comma n = decimal_without 44 n (λ less. omega (arith, less))

pub no_opening : (n : ℕ) → n < 2 ^ 64 → IsWithout 91 (decimal n)
no_opening n = decimal_without 91 n (λ less. omega (arith, less))

pub no_closing : (n : ℕ) → n < 2 ^ 64 → IsWithout 93 (decimal n)
no_closing n = decimal_without 93 n (λ less. omega (arith, less))

-- three parts with commas between them
pub without_listed : (mark : ℕ) (a b c : List ℕ) → ¬ (44 ≡ mark) → IsWithout mark a → IsWithout mark b → IsWithout mark c → IsWithout mark (a ++ 44 ∷ (b ++ 44 ∷ c))
without_listed mark a b c other na nb nc =
    without_both mark a (44 ∷ (b ++ 44 ∷ c)) na (other, without_both mark b (44 ∷ c) nb (other, nc))

-- ---- what stands before the first mark, and behind the last

pub before_first : (mark : ℕ) (s t p q : List ℕ) → IsWithout mark s → IsWithout mark t → s ++ mark ∷ p ≡ t ++ mark ∷ q → (s ≡ t) × (p ≡ q)
before_first mark [] [] p q a b e = (refl, rest_of mark mark p q e)
before_first mark [] (d ∷ t) p q a b e = absurd (b.0 (sym (first_of mark d p (t ++ mark ∷ q) e)))
before_first mark (c ∷ s) [] p q a b e = absurd (a.0 (first_of c mark (s ++ mark ∷ p) q e))
before_first mark (c ∷ s) (d ∷ t) p q a b e =
    let first = first_of c d (s ++ mark ∷ p) (t ++ mark ∷ q) e in
    let rest = before_first mark s t p q a.1 b.1 (rest_of c d (s ++ mark ∷ p) (t ++ mark ∷ q) e) in
    (λ i. first i ∷ rest.0 i, rest.1)

pub behind_last : (mark : ℕ) (p q s t : List ℕ) → IsWithout mark s → IsWithout mark t → p ++ mark ∷ s ≡ q ++ mark ∷ t → s ≡ t
behind_last mark [] [] s t a b e = rest_of mark mark s t e
behind_last mark [] (d ∷ q) s t a b e =
    absurd (stands mark q t (subst (IsWithout mark) (rest_of mark d s (q ++ mark ∷ t) e) a))
behind_last mark (c ∷ p) [] s t a b e =
    absurd (stands mark p s (subst (IsWithout mark) (sym (rest_of c mark (p ++ mark ∷ s) t e)) b))
behind_last mark (c ∷ p) (d ∷ q) s t a b e =
    behind_last mark p q s t a b (rest_of c d (p ++ mark ∷ s) (q ++ mark ∷ t) e)

-- ---- one changed byte

-- one byte of a text stands behind a first part of it, or before what follows
meets : (p q a b : List ℕ) (x : ℕ) → p ++ q ≡ a ++ x ∷ b → ((c : List ℕ) × (a ≡ p ++ c)) ⊎ ((c : List ℕ) × (b ≡ c ++ q))
meets [] q a b x e = inl (a, refl)
meets (d ∷ p) q [] b x e = inr (p, sym (rest_of d x (p ++ q) b e))
meets (d ∷ p) q (f ∷ a) b x e =
    let first = first_of d f (p ++ q) (a ++ x ∷ b) e in elim (meets p q a b x (rest_of d f (p ++ q) (a ++ x ∷ b) e)) [
      | inl behind ↦ inl (behind.0, λ i. sym first i ∷ behind.1 i)
      | inr before ↦ inr before
    ]

-- a list that stands twice, between brackets, has not changed in one place alone
pub twice_same : (A s t M N a b : List ℕ) (x y : ℕ) → IsWithout 93 s → IsWithout 93 t → IsWithout 91 s → IsWithout 91 t
    → A ++ (s ++ 93 ∷ (M ++ 91 ∷ (s ++ 93 ∷ 125 ∷ []))) ≡ a ++ x ∷ b
    → A ++ (t ++ 93 ∷ (N ++ 91 ∷ (t ++ 93 ∷ 125 ∷ []))) ≡ a ++ y ∷ b → s ≡ t
twice_same A s t M N a b x y closed_s closed_t open_s open_t text changed =
    let behind : List ℕ = M ++ 91 ∷ (s ++ 93 ∷ 125 ∷ []) in
    let front : List ℕ = A ++ (s ++ 93 ∷ []) in
    let parted : front ++ behind ≡ a ++ x ∷ b = append_assoc A (s ++ 93 ∷ []) behind ∙ ap (λ (l : List ℕ). A ++ l) (append_assoc s (93 ∷ []) behind) ∙ text in
    elim (meets front behind a b x parted) [
      | inl r ↦ (
          let moved : (A ++ (s ++ 93 ∷ [])) ++ r.0 ++ y ∷ b ≡ A ++ (s ++ 93 ∷ (r.0 ++ y ∷ b)) = simp append_assoc in
          let same : A ++ (s ++ 93 ∷ (r.0 ++ y ∷ b)) ≡ A ++ (t ++ 93 ∷ (N ++ 91 ∷ (t ++ 93 ∷ 125 ∷ []))) =
          sym moved ∙ ap (λ (l : List ℕ). l ++ y ∷ b) (sym r.1) ∙ sym changed in
          (before_first 93 s t (r.0 ++ y ∷ b) (N ++ 91 ∷ (t ++ 93 ∷ 125 ∷ [])) closed_s closed_t
          (append_cancel_left A (s ++ 93 ∷ (r.0 ++ y ∷ b)) (t ++ 93 ∷ (N ++ 91 ∷ (t ++ 93 ∷ 125 ∷ []))) same)).0)
      | inr r ↦ (
          let moved : a ++ y ∷ (r.0 ++ behind) ≡ (a ++ y ∷ (r.0 ++ M)) ++ 91 ∷ (s ++ 93 ∷ 125 ∷ []) = simp append_assoc in
          let there : A ++ (t ++ 93 ∷ (N ++ 91 ∷ (t ++ 93 ∷ 125 ∷ []))) ≡ (A ++ (t ++ 93 ∷ N)) ++ 91 ∷ (t ++ 93 ∷ 125 ∷ []) = simp append_assoc in
          let same : (a ++ y ∷ (r.0 ++ M)) ++ 91 ∷ (s ++ 93 ∷ 125 ∷ []) ≡ (A ++ (t ++ 93 ∷ N)) ++ 91 ∷ (t ++ 93 ∷ 125 ∷ []) =
          sym moved ∙ ap (λ (l : List ℕ). a ++ y ∷ l) (sym r.1) ∙ sym changed ∙ there in
          let ends : IsWithout 91 (93 ∷ 125 ∷ []) = (λ e. omega (arith, e), (λ e. omega (arith, e), tt)) in
          let last = behind_last 91 (a ++ y ∷ (r.0 ++ M)) (A ++ (t ++ 93 ∷ N)) (s ++ 93 ∷ 125 ∷ []) (t ++ 93 ∷ 125 ∷ [])
          (without_both 91 s (93 ∷ 125 ∷ []) open_s ends) (without_both 91 t (93 ∷ 125 ∷ []) open_t ends) same in
          (before_first 93 s t (125 ∷ []) (125 ∷ []) closed_s closed_t last).0)
    ]

-- ---- two numbers with a comma between them

-- where the comma itself was changed, one of both stands as before
comma_changed : (f e f' e' : List ℕ) (y : ℕ) → IsWithout 44 f → IsWithout 44 e → f ++ y ∷ e ≡ f' ++ 44 ∷ e' → (f ≡ f') ⊎ (e ≡ e')
comma_changed f e f' e' y none_f none_e same =
    elim (meets f' (44 ∷ e') f e y (sym same)) [
      | inl r ↦ of_first r.0 r.1
      | inr r ↦ absurd (stands 44 r.0 e' (subst (IsWithout 44) r.1 none_e))
    ]
  where
    of_first : (c : List ℕ) → f ≡ f' ++ c → (f ≡ f') ⊎ (e ≡ e')
    of_first [] is = inl (is ∙ append-nil f')
    of_first (d ∷ c) is =
        let moved : (f' ++ d ∷ c) ++ y ∷ e ≡ f' ++ d ∷ (c ++ y ∷ e) = append_assoc f' (d ∷ c) (y ∷ e) in
        let both : f' ++ d ∷ (c ++ y ∷ e) ≡ f' ++ 44 ∷ e' = sym moved ∙ ap (λ (l : List ℕ). l ++ y ∷ e) (sym is) ∙ same in
        let comma : d ≡ 44 = first_of d 44 (c ++ y ∷ e) e' (append_cancel_left f' (d ∷ (c ++ y ∷ e)) (44 ∷ e') both) in
        absurd (stands 44 f' c (subst (IsWithout 44) (is ∙ ap (λ (k : ℕ). f' ++ k ∷ c) comma) none_f))

-- of two numbers in a list one has not changed
pub one_stays : (A K f e f' e' a b : List ℕ) (x y : ℕ) → IsWithout 44 f → IsWithout 44 e → IsWithout 44 f' → IsWithout 44 e'
    → A ++ (f ++ 44 ∷ (e ++ K)) ≡ a ++ x ∷ b → A ++ (f' ++ 44 ∷ (e' ++ K)) ≡ a ++ y ∷ b → (f ≡ f') ⊎ (e ≡ e')
one_stays A K f e f' e' a b x y none_f none_e none_f' none_e' text changed =
    let parted : (A ++ f) ++ 44 ∷ (e ++ K) ≡ a ++ x ∷ b = append_assoc A f (44 ∷ (e ++ K)) ∙ text in
    elim (meets (A ++ f) (44 ∷ (e ++ K)) a b x parted) [
      | inl r ↦ behind r.0 r.1
      | inr r ↦ (
          let moved : a ++ y ∷ (r.0 ++ 44 ∷ (e ++ K)) ≡ ((a ++ y ∷ r.0) ++ 44 ∷ e) ++ K = simp append_assoc in
          let there : A ++ (f' ++ 44 ∷ (e' ++ K)) ≡ ((A ++ f') ++ 44 ∷ e') ++ K = simp append_assoc in
          let same : ((a ++ y ∷ r.0) ++ 44 ∷ e) ++ K ≡ ((A ++ f') ++ 44 ∷ e') ++ K =
          sym moved ∙ ap (λ (l : List ℕ). a ++ y ∷ l) (sym r.1) ∙ sym changed ∙ there in
          inr (behind_last 44 (a ++ y ∷ r.0) (A ++ f') e e' none_e none_e' (append_cancel_right ((a ++ y ∷ r.0) ++ 44 ∷ e) ((A ++ f') ++ 44 ∷ e') K same)))
    ]
  where
    behind : (c : List ℕ) → a ≡ (A ++ f) ++ c → (f ≡ f') ⊎ (e ≡ e')
    behind [] is =
        let at : (A ++ f) ++ x ∷ b ≡ (A ++ f) ++ 44 ∷ (e ++ K) =
        ap (λ (l : List ℕ). l ++ x ∷ b) (sym (is ∙ append-nil (A ++ f))) ∙ sym text ∙ sym (append_assoc A f (44 ∷ (e ++ K))) in
        let rest : b ≡ e ++ K = rest_of x 44 b (e ++ K) (append_cancel_left (A ++ f) (x ∷ b) (44 ∷ (e ++ K)) at) in
        let other : (A ++ f) ++ y ∷ (e ++ K) ≡ A ++ (f' ++ 44 ∷ (e' ++ K)) =
        ap (λ (l : List ℕ). (A ++ f) ++ y ∷ l) (sym rest) ∙ ap (λ (l : List ℕ). l ++ y ∷ b) (sym (is ∙ append-nil (A ++ f))) ∙ sym changed in
        let moved : (A ++ f) ++ y ∷ (e ++ K) ≡ A ++ ((f ++ y ∷ e) ++ K) = simp append_assoc in
        let there : A ++ (f' ++ 44 ∷ (e' ++ K)) ≡ A ++ ((f' ++ 44 ∷ e') ++ K) = simp append_assoc in
        let both : (f ++ y ∷ e) ++ K ≡ (f' ++ 44 ∷ e') ++ K = append_cancel_left A ((f ++ y ∷ e) ++ K) ((f' ++ 44 ∷ e') ++ K) (sym moved ∙ other ∙ there) in
        comma_changed f e f' e' y none_f none_e (append_cancel_right (f ++ y ∷ e) (f' ++ 44 ∷ e') K both)
    behind (d ∷ c) is =
        let moved : ((A ++ f) ++ d ∷ c) ++ x ∷ b ≡ A ++ (f ++ d ∷ (c ++ x ∷ b)) = simp append_assoc in
        let at : A ++ (f ++ d ∷ (c ++ x ∷ b)) ≡ A ++ (f ++ 44 ∷ (e ++ K)) = sym moved ∙ ap (λ (l : List ℕ). l ++ x ∷ b) (sym is) ∙ sym text in
        let tail : d ∷ (c ++ x ∷ b) ≡ 44 ∷ (e ++ K) =
        append_cancel_left f (d ∷ (c ++ x ∷ b)) (44 ∷ (e ++ K)) (append_cancel_left A (f ++ d ∷ (c ++ x ∷ b)) (f ++ 44 ∷ (e ++ K)) at) in
        let comma : d ≡ 44 = first_of d 44 (c ++ x ∷ b) (e ++ K) tail in
        let carried : ((A ++ f) ++ d ∷ c) ++ y ∷ b ≡ A ++ (f ++ d ∷ (c ++ y ∷ b)) = simp append_assoc in
        let other : A ++ (f ++ 44 ∷ (c ++ y ∷ b)) ≡ A ++ (f' ++ 44 ∷ (e' ++ K)) =
        ap (λ (k : ℕ). A ++ (f ++ k ∷ (c ++ y ∷ b))) (sym comma) ∙ sym carried ∙ ap (λ (l : List ℕ). l ++ y ∷ b) (sym is) ∙ sym changed in
        inl (before_first 44 f f' (c ++ y ∷ b) (e' ++ K) none_f none_f' (append_cancel_left A (f ++ 44 ∷ (c ++ y ∷ b)) (f' ++ 44 ∷ (e' ++ K)) other)).0
