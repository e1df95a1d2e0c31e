-- The values of a name in a query, one by one, and the number that a text spells.
use Rattle.std.proofs.Common.{◌≡◌, ℕ, ◌<◌, ◌≤◌, ◌^◌, true, List, [], ◌∷◌, ◌++◌, decimal, Option, Some, None, Ok, Err, refl, ap, ◌∙◌, arith, ⊎_elim}
use Rattle.std.specs.Str.Parse.{digits_value}
use Rattle.std.proofs.lemmas.Bool.{cases_Bool}
use Rattle.std.proofs.lemmas.Bool.Decides.{nat_tests}
use Rattle.std.proofs.lemmas.Fmt.{decimal_is_IsNumeral}
use Rattle.std.proofs.lemmas.Slice.Eq.{bytes_eq-Decides}
use Rattle.oe_jobs.specs.Texts.{SpellsNumber}
use Rattle.oe_pages.specs.Queries.{Fails, found_before, number_in, one_value, spells}
use Rattle.oe_pages.specs.declared.query.QueryFail.{QueryFail}
use Rattle.oe_pages.specs.declared.query.QueryFail.TheVariants as fail

-- a value that is refused behind those before it, and one that is taken
stays_refused : (before : Option (List ℕ)) (value : Option (List ℕ)) (values : List (Option (List ℕ)))
    → one_value (found_before before ++ value ∷ []) ≡ Err fail.Invalid
    → one_value (found_before before ++ value ∷ values) ≡ Err fail.Invalid
stays_refused None None values h = h
stays_refused None (Some v) values h = cc
stays_refused (Some b) value values h = h

pub is_taken : (before : Option (List ℕ)) (value : Option (List ℕ)) (values : List (Option (List ℕ))) (taken : List ℕ)
    → one_value (found_before before ++ value ∷ []) ≡ Ok (Some taken)
    → one_value (found_before before ++ value ∷ values) ≡ one_value (found_before (Some taken) ++ values)
is_taken None None values taken h = cc
is_taken None (Some v) values taken h = let e : v ≡ taken = cc in ap (λ t. one_value (Some t ∷ values)) e
is_taken (Some b) value values taken h = cc

pub fails_on : (before : Option (List ℕ)) (value : Option (List ℕ)) (values : List (Option (List ℕ))) (e : QueryFail)
    → Fails e (one_value (found_before before ++ value ∷ [])) → Fails e (one_value (found_before before ++ value ∷ values))
fails_on before value values fail.OutOfMemory h = tt
fails_on before value values fail.Invalid h = stays_refused before value values h

-- ---- numbers

spells_true : (least most : ℕ) (text : List ℕ) (n : ℕ) → text ≡ decimal n → least ≤ n → n ≤ most
    → spells least most text n ≡ true
spells_true least most text n is above below = grind (arith, nat_tests, bytes_eq-Decides text (decimal n))

spelled_text : (least most : ℕ) (text : List ℕ) (n : ℕ) → spells least most text n ≡ true → text ≡ decimal n
spelled_text least most text n is = grind (arith, nat_tests, bytes_eq-Decides text (decimal n))

spelled_below : (least most : ℕ) (text : List ℕ) (n : ℕ) → spells least most text n ≡ true → n ≤ most
spelled_below least most text n is = grind (arith, nat_tests)

spelled_above : (least most : ℕ) (text : List ℕ) (n : ℕ) → spells least most text n ≡ true → least ≤ n
spelled_above least most text n is = grind (arith, nat_tests)

value_of : (text : List ℕ) (n : ℕ) → SpellsNumber text n → digits_value 10 text ≡ n
value_of text n s = ap (digits_value 10) s.spelled ∙ (decimal_is_IsNumeral n s.in_range).1

pub spelled : (least most : ℕ) (text : List ℕ) (n : ℕ) → SpellsNumber text n → least ≤ n → n ≤ most
    → number_in least most text ≡ Ok n
spelled least most text n s above below =
    rw (value_of text n s, spells_true least most text n s.spelled above below) refl

refused : (least most : ℕ) (text : List ℕ) → (spells least most text (digits_value 10 text) ≡ true → ⊥)
    → number_in least most text ≡ Err fail.Invalid
refused least most text isnt =
    ⊎_elim (λ yes. absurd (isnt yes)) (λ no. rw no refl) (cases_Bool (spells least most text (digits_value 10 text)))

pub none_spelled : (least most : ℕ) (text : List ℕ) → most < 2 ^ 64 → ((n : ℕ) → ¬ SpellsNumber text n)
    → number_in least most text ≡ Err fail.Invalid
none_spelled least most text fits none = refused least most text (λ is. none (digits_value 10 text) (record {
  spelled = spelled_text least most text (digits_value 10 text) is;
  in_range = let below = spelled_below least most text (digits_value 10 text) is in omega (arith, below, fits);
}))

pub low_spelled : (least most : ℕ) (text : List ℕ) (n : ℕ) → SpellsNumber text n → n < least
    → number_in least most text ≡ Err fail.Invalid
low_spelled least most text n s low = refused least most text (λ is.
    let above = spelled_above least most text (digits_value 10 text) is in
    let value = value_of text n s in
    omega (arith, above, value, low))

pub high_spelled : (least most : ℕ) (text : List ℕ) (n : ℕ) → SpellsNumber text n → most < n
    → number_in least most text ≡ Err fail.Invalid
high_spelled least most text n s high = refused least most text (λ is.
    let below = spelled_below least most text (digits_value 10 text) is in
    let value = value_of text n s in
    omega (arith, below, value, high))
