-- A value spells one thing at most.
use Rattle.std.proofs.Common.{◌≡◌, ℕ, ◌≤◌, ℤ, List, ◌++◌, codes, Option, Some, Result, Ok, ◌==◌, false, sym, ap, ◌∙◌, arith, ne_eqb}
use Rattle.serde_json.specs.Data.{Data, null, boolean, number, string, array, object}
use Rattle.serde_json.specs.Find.{as_str}
use Rattle.oe_cell.specs.Fraction.{Fraction}
use Rattle.oe_cell.specs.Spelling.{number_text}
use Rattle.oe_cell.specs.declared.cell.Cell.{Cell}
use Rattle.oe_cell.specs.declared.cell.Cell.TheVariants.{Number}
use Rattle.oe_cell.proofs.SpellingLemmas.{number_text_injective}
use Rattle.oe_dims.specs.Instant.{instant_read}
use Rattle.oe_dims.specs.declared.instant.InstantFault.{InstantFault}
use Rattle.oe_dims.proofs.SpellingLemmas.{read_exactly}
use Rattle.oe_render.specs.CubeText.{SpellsTime, SpellsName, SpellsCoordinate, SpellsCell, IsFraction, whole}

pub one_text : (o : Option (List ℕ)) (s t : List ℕ) → o ≡ Some s → o ≡ Some t → s ≡ t
one_text o s t p q = let both : Some s ≡ Some t = sym p ∙ q in cc

one_integer : (o : Option ℤ) (a b : ℤ) → o ≡ Some a → o ≡ Some b → a ≡ b
one_integer o a b p q = let both : Some a ≡ Some b = sym p ∙ q in cc

one_instant : (r : Result ℤ InstantFault) (a b : ℤ) → r ≡ Ok a → r ≡ Ok b → a ≡ b
one_instant r a b p q =
    let P : Result ℤ InstantFault → Type 0 = λ s. s ≡ Ok b in
    let both : P (Ok a) = sym p ∙ q in cc

pub one_time : (d : Data) (a b : ℤ) → SpellsTime d a → SpellsTime d b → a ≡ b
one_time d a b p q =
    let same = one_text (as_str d) p.0 q.0 p.1 q.1 in
    let first : instant_read p.0 ≡ Ok a = (read_exactly p.0 a).1 p.2 in
    let second : instant_read p.0 ≡ Ok b = ap instant_read same ∙ (read_exactly q.0 b).1 q.2 in
    one_instant (instant_read p.0) a b first second

pub one_name : (d : Data) (a b : List ℕ) → SpellsName d a → SpellsName d b → a ≡ b
one_name d a b p q = one_text (as_str d) a b p q

pub one_coordinate : (d : Data) (a b : ℤ) → SpellsCoordinate d a → SpellsCoordinate d b → a ≡ b
one_coordinate d a b p q = one_integer _ a b p q

-- the text of a number in quotes
quoted_fraction : (text : List ℕ) (q : Fraction) → IsFraction text q → number_text q ≡ codes "\"" ++ text ++ codes "\""
quoted_fraction text q is =
    let least : 2 ≤ q.den = is.1 in
    let other : (q.den == 1) ≡ false = ne_eqb q.den 1 (λ e. omega arith) in
    rw other (ap (λ t. codes "\"" ++ t ++ codes "\"") (sym is.2))

pub one_fraction : (text : List ℕ) (p q : Fraction) → IsFraction text p → IsFraction text q → p ≡ q
one_fraction text p q a b = number_text_injective p q a.0 b.0 (quoted_fraction text p a ∙ sym (quoted_fraction text q b))

pub one_cell : (d : Data) (a b : Cell) → SpellsCell d a → SpellsCell d b → a ≡ b
one_cell null a b p q = p ∙ sym q
one_cell (boolean flag) a b p q = p ∙ sym q
one_cell (number n) a b p q = p.3 ∙ ap (λ z. Number (whole z)) (one_integer _ p.0 q.0 p.1 q.1) ∙ sym q.3
one_cell (string text) a b p q = p.2 ∙ ap Number (one_fraction text p.0 q.0 p.1 q.1) ∙ sym q.2
one_cell (array ds) a b p q = absurd p
one_cell (object ms) a b p q = absurd p
