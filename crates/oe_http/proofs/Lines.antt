-- Where CR LF CR LF ends in a head that is made of lines.
use Rattle.std.proofs.Common.{◌≡◌, ℕ, suc, ◌+◌, ◌==◌, false, ◌-◌, ◌<◌, ◌≤◌, ◌⊎◌, inl, inr, IsTrue, List, [], ◌∷◌, ◌++◌, length, get_or, sym, ◌∙◌, ap, refl, arith, subst}
use Rattle.std.proofs.lemmas.List.{get_or-append-add, get_or_append_left, length-append}
use Rattle.httparse.specs.Grammar.{AllPass, is_uri_byte, is_value_byte}
use Rattle.oe_http.specs.Front.{EndsAt, IsHeadEnd, carriage_return, line_ends, line_ends_behind, line_feed}

-- no byte is a CR
abbrev pub HasNoReturn : List ℕ → Type 0
HasNoReturn bytes = (i : ℕ) → i < length bytes → ¬ (get_or bytes i 0 ≡ carriage_return)

-- CR LF, and what stands behind it
abbrev pub ended : List ℕ → List ℕ → List ℕ
ended line rest = line ++ carriage_return ∷ line_feed ∷ rest

-- CR LF CR LF ends behind bytes that have no CR
behind_line : (line rest : List ℕ) (n : ℕ) → HasNoReturn line → EndsAt (line ++ rest) n → length line + 4 ≤ n
behind_line line rest n none e =
    let here : ¬ (n - 4 < length line) = λ lt. none (n - 4) lt (sym (get_or_append_left line rest 0 (n - 4) lt) ∙ e.first) in
    grind arith

-- and so it does in what follows them
behind : (line rest : List ℕ) (n m : ℕ) → n ≡ length line + m → 4 ≤ m → EndsAt (line ++ rest) n → EndsAt rest m
behind line rest n m is enough e =
    let at : (k : ℕ) → k ≤ m → n - k ≡ length line + (m - k) = λ k le. omega arith in
    let same : (k : ℕ) → k ≤ m → get_or rest (m - k) 0 ≡ get_or (line ++ rest) (n - k) 0 = λ k le.
    sym (ap (λ i. get_or (line ++ rest) i 0) (at k le) ∙ get_or-append-add line rest (m - k) 0) in
    record {
      within = omega (arith, e.within, length-append line rest, is);
      enough = enough;
      first = same 4 (omega arith) ∙ e.first;
      second = same 3 (omega arith) ∙ e.second;
      third = same 2 (omega arith) ∙ e.third;
      fourth = same 1 (omega arith) ∙ e.fourth;
    }

-- a line of a head
pub record IsLine (line : List ℕ) : Type 0 where
  pub some : 0 < length line
  pub none : HasNoReturn line

abbrev pub AreLines : List (List ℕ) → Type 0
AreLines [] = Unit {0}
AreLines (line ∷ lines) = IsLine line × AreLines lines

-- some lines, each ended by CR LF, and CR LF
abbrev pub of_lines : List (List ℕ) → List ℕ
of_lines [] = carriage_return ∷ line_feed ∷ []
of_lines (line ∷ lines) = ended line (of_lines lines)

-- what follows CR LF, where it begins with no CR
record Later (rest : List ℕ) (n : ℕ) : Type 0 where
  far : 6 ≤ n
  ends : EndsAt rest (n - 2)

later : (rest : List ℕ) (n : ℕ) → ¬ (get_or rest 0 0 ≡ carriage_return) → EndsAt (carriage_return ∷ line_feed ∷ rest) n → Later rest n
later rest n other e =
    let P : ℕ → Type 0 = λ k. EndsAt (carriage_return ∷ line_feed ∷ rest) k in
    let not_four : ¬ (n ≡ 4) = λ is. let four : P 4 = subst P is e in other four.third in
    let not_five : ¬ (n ≡ 5) = λ is. let five : P 5 = subst P is e in cc five.first in
    let far : 6 ≤ n = omega (arith, e.enough, not_four, not_five) in
    record { far = far; ends = behind (carriage_return ∷ line_feed ∷ []) rest n (n - 2) (omega (arith, far)) (omega (arith, far)) e }

-- the first byte of a line is its own
first_of_line : (line rest : List ℕ) → IsLine line → ¬ (get_or (line ++ rest) 0 0 ≡ carriage_return)
first_of_line line rest is first = is.none 0 is.some (sym (get_or_append_left line rest 0 0 is.some) ∙ first)

-- so it ends nowhere but at the end
pub ends_at_end : (lines : List (List ℕ)) (n : ℕ) → AreLines lines → EndsAt (of_lines lines) n → n ≡ length (of_lines lines)
ends_at_end [] n are e = absurd (omega (arith, e.within, e.enough))
ends_at_end (line ∷ []) n are e =
    let from : length line + 4 ≤ n = behind_line line (carriage_return ∷ line_feed ∷ of_lines []) n are.0.none e in
    omega (arith, from, e.within, length-append line (carriage_return ∷ line_feed ∷ of_lines []))
ends_at_end (line ∷ next ∷ more) n are e =
    let rest : List ℕ = of_lines (next ∷ more) in
    let from : length line + 4 ≤ n = behind_line line (carriage_return ∷ line_feed ∷ rest) n are.0.none e in
    let after : EndsAt (carriage_return ∷ line_feed ∷ rest) (n - length line) =
    behind line (carriage_return ∷ line_feed ∷ rest) n (n - length line) (omega (arith, from)) (omega (arith, from)) e in
    let far = later rest (n - length line) (first_of_line next (carriage_return ∷ line_feed ∷ of_lines more) are.1.0) after in
    let is : n - length line - 2 ≡ length rest = ends_at_end (next ∷ more) (n - length line - 2) are.1 far.ends in
    omega (arith, from, is, far.far, length-append line (carriage_return ∷ line_feed ∷ rest))

-- what ends in some bytes ends behind others
ends_behind : (line rest : List ℕ) (m : ℕ) → EndsAt rest m → EndsAt (line ++ rest) (length line + m)
ends_behind line rest m e =
    let same : (k : ℕ) → k ≤ m → get_or (line ++ rest) (length line + m - k) 0 ≡ get_or rest (m - k) 0 = λ k le.
    let at : length line + m - k ≡ length line + (m - k) = omega arith in
    ap (λ i. get_or (line ++ rest) i 0) at ∙ get_or-append-add line rest (m - k) 0 in
    record {
      within = omega (arith, e.within, length-append line rest);
      enough = omega (arith, e.enough);
      first = same 4 (omega (arith, e.enough)) ∙ e.first;
      second = same 3 (omega (arith, e.enough)) ∙ e.second;
      third = same 2 (omega (arith, e.enough)) ∙ e.third;
      fourth = same 1 (omega (arith, e.enough)) ∙ e.fourth;
    }

-- CR LF CR LF
two_ends : EndsAt (carriage_return ∷ line_feed ∷ carriage_return ∷ line_feed ∷ []) 4
two_ends = record { within = omega arith; enough = omega arith; first = refl; second = refl; third = refl; fourth = refl }

-- it does end there, where there is a line
pub ends_there : (line : List ℕ) (lines : List (List ℕ)) → EndsAt (of_lines (line ∷ lines)) (length (of_lines (line ∷ lines)))
ends_there line [] =
    let P : ℕ → Type 0 = EndsAt (of_lines (line ∷ [])) in
    subst P (sym (length-append line (carriage_return ∷ line_feed ∷ of_lines []))) (ends_behind line (carriage_return ∷ line_feed ∷ of_lines []) 4 two_ends)
ends_there line (next ∷ more) =
    let rest : List ℕ = of_lines (next ∷ more) in
    let all : List ℕ = carriage_return ∷ line_feed ∷ rest in
    let P : ℕ → Type 0 = EndsAt (of_lines (line ∷ next ∷ more)) in
    let behind_end : EndsAt all (2 + length rest) = ends_behind (carriage_return ∷ line_feed ∷ []) rest (length rest) (ends_there next more) in
    let size : length line + (2 + length rest) ≡ length (of_lines (line ∷ next ∷ more)) = omega (arith, length-append line all) in
    subst P size (ends_behind line all (2 + length rest) behind_end)

-- the head that these lines are
pub head_end_of_lines : (line : List ℕ) (lines : List (List ℕ)) → AreLines (line ∷ lines) → IsHeadEnd (of_lines (line ∷ lines)) (length (of_lines (line ∷ lines)))
head_end_of_lines line lines are = record {
  ends = ends_there line lines;
  first = λ k lt ends. let is : k ≡ length (of_lines (line ∷ lines)) = ends_at_end (line ∷ lines) k are ends in absurd (omega (arith, is, lt));
}

-- the test of a byte that is no CR
differs : (byte : ℕ) → ¬ (byte ≡ carriage_return) → (byte == carriage_return) ≡ false
differs byte other = grind arith

-- a line adds one line end
line_ends_of_line : (byte : ℕ) (line rest : List ℕ) → ¬ (byte ≡ carriage_return) → HasNoReturn line → line_ends_behind byte (ended line rest) ≡ 1 + line_ends_behind line_feed rest
line_ends_of_line byte [] rest other none = rw (differs byte other) (omega arith)
line_ends_of_line byte (next ∷ line) rest other none =
    let one : 0 < length (next ∷ line) = omega arith in
    let later_bytes : HasNoReturn line = λ i lt. none (suc i) (omega arith) in
    let more : line_ends_behind next (ended line rest) ≡ 1 + line_ends_behind line_feed rest = line_ends_of_line next line rest (none 0 one) later_bytes in
    rw (differs byte other) (omega (arith, more))

line_ends_behind_lines : (byte : ℕ) (lines : List (List ℕ)) → ¬ (byte ≡ carriage_return) → AreLines lines → line_ends_behind byte (of_lines lines) ≡ length lines + 1
line_ends_behind_lines byte [] other are = rw (differs byte other) (omega arith)
line_ends_behind_lines byte (line ∷ lines) other are =
    let more : line_ends_behind line_feed (of_lines lines) ≡ length lines + 1 = line_ends_behind_lines line_feed lines (λ same. cc same) are.1 in
    line_ends_of_line byte line (of_lines lines) other are.0.none ∙ omega (arith, more)

-- as many line ends as lines, and one
pub line_ends_of_lines : (lines : List (List ℕ)) → AreLines lines → line_ends (of_lines lines) ≡ length lines + 1
line_ends_of_lines lines are = line_ends_behind_lines 0 lines (λ same. cc same) are

place : (i n : ℕ) → (i < n) ⊎ (n ≤ i)
place i n = grind arith

-- bytes without a CR, put together
pub no_return_append : (a b : List ℕ) → HasNoReturn a → HasNoReturn b → HasNoReturn (a ++ b)
no_return_append a b none_a none_b i lt is = elim (place i (length a)) [
  | inl first ↦ none_a i first (sym (get_or_append_left a b 0 i first) ∙ is)
  | inr second ↦
      let at : length a + (i - length a) ≡ i = omega (arith, second) in
      let within : i - length a < length b = omega (arith, second, lt, length-append a b) in
      let there : get_or b (i - length a) 0 ≡ get_or (a ++ b) i 0 =
      sym (get_or-append-add a b (i - length a) 0) ∙ ap (λ k. get_or (a ++ b) k 0) at in
      none_b (i - length a) within (there ∙ is)
]

-- a line with more behind it is a line
pub line_append : (a b : List ℕ) → IsLine a → HasNoReturn b → IsLine (a ++ b)
line_append a b line none = record {
  some = omega (arith, line.some, length-append a b);
  none = no_return_append a b line.none none;
}

-- the bytes of a target, and those of a value, are no CR
pub no_return_value : (bytes : List ℕ) → AllPass is_value_byte bytes → HasNoReturn bytes
no_return_value bytes pass i lt is =
    let P : ℕ → Type 0 = λ b. IsTrue (is_value_byte b) in
    let wrong : P carriage_return = subst P is (pass i 0 lt) in cc wrong

pub no_return_target : (bytes : List ℕ) → AllPass is_uri_byte bytes → HasNoReturn bytes
no_return_target bytes pass i lt is =
    let P : ℕ → Type 0 = λ b. IsTrue (is_uri_byte b) in
    let wrong : P carriage_return = subst P is (pass i 0 lt) in cc wrong
