-- Labels and cells as the values that they are written as.
use Rattle.std.proofs.Common.{◌≡◌, ◌≢◌, ℕ, zero, suc, ◌<◌, ◌≤◌, ◌^◌, ℤ, pos, negsuc, unsigned_abs, List, [], ◌∷◌, ◌++◌, length, get_or, map, decimal, Bool, true, false, IsUtf8, refl, sym, ap, ap₂, ◌∙◌, append_assoc, arith, lt-ltb}
use Rattle.std.specs.Prelude.{⊤}
use Rattle.std.specs.Fmt.{signed_decimal}
use Rattle.std.proofs.lemmas.Fmt.{digits_decimal}
use Rattle.std.proofs.lemmas.Str.Parse.{tells_by_index, numerals_by_value}
use Rattle.json.specs.Print.{escape}
use Rattle.json.proofs.Printed.Decimals.{IsNumber-decimal, IsNumber-signed_decimal}
use Rattle.json.proofs.Printed.Strings.{escape_byte_plain}
use Rattle.json.proofs.Printed.Utf8.{are_ascii, IsUtf8-are_ascii}
use Rattle.serde_json.specs.Data.{Data, number, string, unsigned, Items, no_items, item, depth, items_depth}
use Rattle.serde_json.specs.Find.{of_integer}
use Rattle.serde_json.specs.Written.{compact_text, items_text, comma_if}
use Rattle.serde_json.proofs.Numbers.{number_of-decimal, number_of-negative}
use Rattle.oe_render.specs.Text.{quoted, separator, more_text}
use Rattle.oe_render.proofs.ReadBack.{IsWritten, AreWritten, ordered, items_ordered}

-- ---- plain texts, in which nothing is escaped

pub record IsPlainByte (b : ℕ) : Type 0 where
  pub printed : 32 ≤ b
  pub ascii : b < 128
  pub no_quote : b ≢ 34
  pub no_backslash : b ≢ 92

abbrev pub IsPlain : List ℕ → Type 0
IsPlain [] = ⊤
IsPlain (b ∷ bs) = IsPlainByte b × IsPlain bs

pub plain_both : (xs ys : List ℕ) → IsPlain xs → IsPlain ys → IsPlain (xs ++ ys)
plain_both [] ys p q = q
plain_both (x ∷ xs) ys p q = (p.0, plain_both xs ys p.1 q)

plain_escape : (s : List ℕ) → IsPlain s → escape s ≡ s
plain_escape [] p = refl
plain_escape (b ∷ s) p =
    ap₂ (λ (x y : List ℕ). x ++ y) (escape_byte_plain b p.0.no_quote p.0.no_backslash p.0.printed) (plain_escape s p.1)

plain_ascii : (s : List ℕ) → IsPlain s → are_ascii s ≡ true
plain_ascii [] p = refl
plain_ascii (b ∷ s) p = rw (lt-ltb b 128 p.0.ascii) (plain_ascii s p.1)

pub plain_utf8 : (s : List ℕ) → IsPlain s → IsUtf8 s
plain_utf8 s p = IsUtf8-are_ascii s (plain_ascii s p)

-- ---- values without parts

-- what is written for a value without parts, and read again
pub record IsLeaf (d : Data) (text : List ℕ) : Type 0 where
  pub written : IsWritten d
  pub text_is : compact_text d ≡ text
  pub shallow : depth d ≡ 0
  pub same : ordered d ≡ d

pub text_leaf : (s : List ℕ) → IsPlain s → IsLeaf (string s) (quoted s)
text_leaf s p = record {
  written = plain_utf8 s p;
  text_is = ap (λ e. 34 ∷ (e ++ 34 ∷ [])) (plain_escape s p);
  shallow = refl;
  same = refl;
}

digit_byte : (n : ℕ) → n < 2 ^ 64 → (k : ℕ) → k < length (decimal n) → IsPlainByte (get_or (decimal n) k 0)
digit_byte n fits k h =
    let digit : (48 ≤ get_or (decimal n) k 0) × (get_or (decimal n) k 0 ≤ 57) = digits_decimal (numerals_by_value _ tells_by_index) n fits k h in
    let low = digit.0 in
    let high = digit.1 in
    record { printed = omega (arith, low); ascii = omega (arith, high); no_quote = λ e. omega (arith, low, e); no_backslash = λ e. omega (arith, high, e) }

plain_by_index : (s : List ℕ) → ((k : ℕ) → k < length s → IsPlainByte (get_or s k 0)) → IsPlain s
plain_by_index [] h = tt
plain_by_index (b ∷ s) h = (h 0 (omega arith), plain_by_index s (λ k below. h (suc k) (omega (arith, below))))

pub decimal_plain : (n : ℕ) → n < 2 ^ 64 → IsPlain (decimal n)
decimal_plain n fits = plain_by_index (decimal n) (digit_byte n fits)

pub signed_plain : (z : ℤ) → unsigned_abs z < 2 ^ 63 → IsPlain (signed_decimal z)
signed_plain (pos n) fits = decimal_plain n (omega arith)
signed_plain (negsuc n) fits = (record { printed = omega arith; ascii = omega arith; no_quote = λ e. omega (arith, e); no_backslash = λ e. omega (arith, e) }, decimal_plain (suc n) (omega arith))

pub count_leaf : (n : ℕ) → n < 2 ^ 64 → IsLeaf (number (unsigned n)) (decimal n)
count_leaf n fits = record {
  written = record { reads = number_of-decimal n fits; numeral = IsNumber-decimal n fits; utf8 = plain_utf8 (decimal n) (decimal_plain n fits) };
  text_is = refl;
  shallow = refl;
  same = refl;
}

pub whole_leaf : (z : ℤ) → unsigned_abs z < 2 ^ 63 → IsLeaf (number (of_integer z)) (signed_decimal z)
whole_leaf (pos n) fits = count_leaf n (omega arith)
whole_leaf (negsuc n) fits = record {
  written = record {
    reads = number_of-negative n (omega arith);
    numeral = IsNumber-signed_decimal (negsuc n) (omega arith);
    utf8 = plain_utf8 (signed_decimal (negsuc n)) (signed_plain (negsuc n) fits);
  };
  text_is = refl;
  shallow = refl;
  same = refl;
}

-- ---- lists of them

abbrev pub items : {A : Type 0} → (A → Data) → List A → Items
items f [] = no_items
items f (a ∷ more) = item (f a) (items f more)

abbrev pub AreLeaves : {A : Type 0} → (A → Data) → (A → List ℕ) → List A → Type 0
AreLeaves f g [] = ⊤
AreLeaves f g (a ∷ more) = IsLeaf (f a) (g a) × AreLeaves f g more

pub leaves_written : {A : Type 0} (f : A → Data) (g : A → List ℕ) (xs : List A) → AreLeaves f g xs → AreWritten (items f xs)
leaves_written f g [] h = tt
leaves_written f g (a ∷ more) h = (h.0.written, leaves_written f g more h.1)

pub leaves_shallow : {A : Type 0} (f : A → Data) (g : A → List ℕ) (xs : List A) → AreLeaves f g xs → items_depth (items f xs) ≡ 0
leaves_shallow f g [] h = refl
leaves_shallow f g (a ∷ more) h = rw (h.0.shallow, leaves_shallow f g more h.1) refl

pub leaves_same : {A : Type 0} (f : A → Data) (g : A → List ℕ) (xs : List A) → AreLeaves f g xs → items_ordered (items f xs) ≡ items f xs
leaves_same f g [] h = refl
leaves_same f g (a ∷ more) h = ap₂ item h.0.same (leaves_same f g more h.1)

-- whether parts stand before the one at an index
abbrev pub is_later : ℕ → Bool
is_later zero = false
is_later (suc index) = true

abbrev pub AreTexts : {A : Type 0} → (A → Data) → (A → List ℕ) → List A → Type 0
AreTexts f g [] = ⊤
AreTexts f g (a ∷ more) = (compact_text (f a) ≡ g a) × AreTexts f g more

pub leaves_texts : {A : Type 0} (f : A → Data) (g : A → List ℕ) (xs : List A) → AreLeaves f g xs → AreTexts f g xs
leaves_texts f g [] h = tt
leaves_texts f g (a ∷ more) h = (h.0.text_is, leaves_texts f g more h.1)

comma_is : (index : ℕ) → comma_if (is_later index) ≡ separator index
comma_is zero = refl
comma_is (suc index) = refl

pub items_more : {A : Type 0} (f : A → Data) (g : A → List ℕ) (xs : List A) (index : ℕ) → AreTexts f g xs → items_text (is_later index) (items f xs) ≡ more_text index (map g xs) ++ 93 ∷ []
items_more f g [] index h = refl
items_more f g (a ∷ more) index h =
    let rest = more_text (suc index) (map g more) in
    ap₂ (λ (c t : List ℕ). c ++ (t ++ items_text true (items f more))) (comma_is index) h.0
    ∙ ap (λ text. separator index ++ (g a ++ text)) (items_more f g more (suc index) h.1)
    ∙ sym (append_assoc (separator index ++ g a) rest (93 ∷ []) ∙ append_assoc (separator index) (g a) (rest ++ 93 ∷ []))
