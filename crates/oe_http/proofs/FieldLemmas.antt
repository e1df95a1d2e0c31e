-- The fields of a name, one more field at a time.
use Rattle.std.proofs.Common.{◌≡◌, ℕ, suc, ◌+◌, ◌*◌, ◌^◌, ◌<◌, ◌≤◌, Bool, true, false, List, [], ◌∷◌, ◌++◌, ◌↔◌, is_some, length, map, drop, sym, ◌∙◌, ap, refl, arith, lit<, Option, Some, None, IsTrue, get_or}
use Rattle.std.specs.Char.{to_ascii_lowercase}
use Rattle.oe_http.specs.Fields.{FieldText, values_of, is_same_name, is_coded, is_coding}
use Rattle.oe_http.specs.Found.{found_values}
use Rattle.httparse.specs.Spans.{span_bytes, header_bytes}
use Rattle.httparse.specs.declared.spans.HeaderSpan.{HeaderSpan}
use Rattle.std.proofs.Math.Nat.{pow-le-pow_right}
use Rattle.std.proofs.Math.Seq.{drop-cons}
use Rattle.std.proofs.lemmas.Slice.Eq.{bytes_eq-Decides}
use Rattle.std.proofs.lemmas.Bool.{false_from_ne_true}
use Rattle.httparse.specs.declared.spans.Span.{Span}

-- one more field of the name, or of another
pub values_same : (name : List ℕ) (f : FieldText) (rest : List FieldText) → is_same_name f.0 name ≡ true → values_of name (f ∷ rest) ≡ f.1 ∷ values_of name rest
values_same name f rest same = rw same refl

pub values_other : (name : List ℕ) (f : FieldText) (rest : List FieldText) → is_same_name f.0 name ≡ false → values_of name (f ∷ rest) ≡ values_of name rest
values_other name f rest other = rw other refl

-- the fields from one on are that one and those behind it
rest_of : (fields : List HeaderSpan) (i : ℕ) (d : HeaderSpan) → i < length fields → drop i fields ≡ get_or fields i d ∷ drop (i + 1) fields
rest_of fields i d within =
    let next : suc i ≡ i + 1 = omega arith in
    drop-cons fields i d within ∙ ap (λ k. get_or fields i d ∷ drop k fields) next

-- the test of two names
same_test : (piece name : List ℕ) (test : Bool) → (IsTrue test ↔ (map to_ascii_lowercase piece ≡ map to_ascii_lowercase name)) → is_same_name piece name ≡ test
same_test piece name true both = (bytes_eq-Decides (map to_ascii_lowercase piece) (map to_ascii_lowercase name)).1 (both.0 refl)
same_test piece name false both =
    false_from_ne_true (is_same_name piece name) (λ same. cc (both.1 ((bytes_eq-Decides (map to_ascii_lowercase piece) (map to_ascii_lowercase name)).0 same)))

-- the values of a name so far, and those behind
pub step_other : (name head : List ℕ) (fields : List HeaderSpan) (i : ℕ) (d : HeaderSpan) (so_far all : List (List ℕ)) → i < length fields → is_same_name (span_bytes head (get_or fields i d).name) name ≡ false → all ≡ so_far ++ values_of name (map (header_bytes head) (drop i fields)) → all ≡ so_far ++ values_of name (map (header_bytes head) (drop (i + 1) fields))
step_other name head fields i d so_far all within other e =
    e ∙ ap (λ fs. so_far ++ values_of name (map (header_bytes head) fs)) (rest_of fields i d within)
    ∙ ap (λ vs. so_far ++ vs) (values_other name (header_bytes head (get_or fields i d)) (map (header_bytes head) (drop (i + 1) fields)) other)

pub step_same : (name head : List ℕ) (fields : List HeaderSpan) (i : ℕ) (d : HeaderSpan) (so_far all : List (List ℕ)) → i < length fields → is_same_name (span_bytes head (get_or fields i d).name) name ≡ true → all ≡ so_far ++ values_of name (map (header_bytes head) (drop i fields)) → all ≡ so_far ++ span_bytes head (get_or fields i d).value ∷ values_of name (map (header_bytes head) (drop (i + 1) fields))
step_same name head fields i d so_far all within same e =
    e ∙ ap (λ fs. so_far ++ values_of name (map (header_bytes head) fs)) (rest_of fields i d within)
    ∙ ap (λ vs. so_far ++ vs) (values_same name (header_bytes head (get_or fields i d)) (map (header_bytes head) (drop (i + 1) fields)) same)

-- the same in the words of the code: the name that was tested is `piece`
pub field_other : (name head : List ℕ) (fields : List HeaderSpan) (i : ℕ) (d : HeaderSpan) (so_far all : List (List ℕ)) (piece : List ℕ) (test : Bool) → i < length fields → piece ≡ span_bytes head (get_or fields i d).name → (IsTrue test ↔ (map to_ascii_lowercase piece ≡ map to_ascii_lowercase name)) → test ≡ false → all ≡ so_far ++ values_of name (map (header_bytes head) (drop i fields)) → all ≡ so_far ++ values_of name (map (header_bytes head) (drop (i + 1) fields))
field_other name head fields i d so_far all piece test within is both untrue e =
    step_other name head fields i d so_far all within (ap (λ p. is_same_name p name) (sym is) ∙ same_test piece name test both ∙ untrue) e

pub field_same : (name head : List ℕ) (fields : List HeaderSpan) (i : ℕ) (d : HeaderSpan) (so_far all : List (List ℕ)) (piece : List ℕ) (test : Bool) → i < length fields → piece ≡ span_bytes head (get_or fields i d).name → (IsTrue test ↔ (map to_ascii_lowercase piece ≡ map to_ascii_lowercase name)) → test ≡ true → all ≡ so_far ++ values_of name (map (header_bytes head) (drop i fields)) → all ≡ so_far ++ span_bytes head (get_or fields i d).value ∷ values_of name (map (header_bytes head) (drop (i + 1) fields))
field_same name head fields i d so_far all piece test within is both holds e =
    step_same name head fields i d so_far all within (ap (λ p. is_same_name p name) (sym is) ∙ same_test piece name test both ∙ holds) e

-- a first value was found, and one was found before
pub found_first : (head : List ℕ) (found : Option Span) (value : List ℕ) (rest all : List (List ℕ)) → is_some found ≡ false → all ≡ found_values head found ++ value ∷ rest → all ≡ (value ∷ []) ++ rest
found_first head None value rest all none e = e
found_first head (Some s) value rest all none e = cc

pub found_twice : (head : List ℕ) (found : Option Span) (value : List ℕ) (rest all : List (List ℕ)) → is_some found ≡ true → all ≡ found_values head found ++ value ∷ rest → 2 ≤ length all
found_twice head None value rest all some e = cc
found_twice head (Some s) value rest all some e = rw e (grind arith)

-- one more field that codes nothing
pub coded_other : (f : FieldText) (rest : List FieldText) → is_coding f ≡ false → is_coded (f ∷ rest) ≡ is_coded rest
coded_other f rest other = rw other refl

pub coded_one : (f : FieldText) (rest : List FieldText) → is_coding f ≡ true → is_coded (f ∷ rest) ≡ true
coded_one f rest coding = rw coding refl

-- a number of at most 18 digits has room for one more
small : (n i : ℕ) → n < 10 ^ i → i ≤ 18 → n < 1000000000000000000
small n i lt few =
    let positive : 0 < 10 = lit< tt in
    let bound : 10 ^ i ≤ 1000000000000000000 = pow-le-pow_right positive few in
    omega (arith, lt, bound)

pub room_mul : (n i : ℕ) → n < 10 ^ i → i ≤ 18 → n * 10 < 2 ^ 64
room_mul n i lt few = let h : n < 1000000000000000000 = small n i lt few in omega (arith, h)

pub room_add : (n i d : ℕ) → n < 10 ^ i → i ≤ 18 → d < 256 → n * 10 + d < 2 ^ 64
room_add n i d lt few digit = let h : n < 1000000000000000000 = small n i lt few in omega (arith, h, digit)
