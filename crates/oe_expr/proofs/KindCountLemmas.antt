-- What is kept of a list of kinds, with one more.
use Rattle.std.proofs.Common.{◌≡◌, List, [], ◌∷◌, ◌++◌, Bool, true, false, ◌||◌, Option, Some, None, refl, sym, ap, ◌∙◌}
use Rattle.std.specs.List.{list_any}
use Rattle.std.specs.Option.{option_or}
use Rattle.std.proofs.lemmas.List.Folds.{list_any-append}
use Rattle.std.proofs.Math.Bool.{or-true}
use Rattle.oe_dims.specs.declared.kind.CellKind.{CellKind}
use Rattle.oe_dims.specs.declared.kind.CellKind.TheVariants.{Numbers, Flags}
use Rattle.oe_expr.specs.KindCounts.{AreKindsOf}
use Rattle.oe_expr.specs.Kinds.{is_numbers, is_flags, kind_among}
use Rattle.oe_expr.specs.declared.kinds.Kinds.{Kinds}

or_none : (o : Option CellKind) → option_or o None ≡ o
or_none None = refl
or_none (Some kind) = refl

or_false : (b : Bool) → (b || false) ≡ b
or_false true = refl
or_false false = refl

among_more : (kinds : List (Option CellKind)) (kind : Option CellKind) → kind_among (kinds ++ kind ∷ []) ≡ option_or (kind_among kinds) kind
among_more [] None = refl
among_more [] (Some kind) = refl
among_more (Some first ∷ kinds) kind = refl
among_more (None ∷ kinds) kind = among_more kinds kind

pub open_more : (kinds : List (Option CellKind)) (k : Kinds) → AreKindsOf kinds k → AreKindsOf (kinds ++ None ∷ []) k
open_more kinds k is = record {
  first = is.first ∙ sym (among_more kinds None ∙ or_none (kind_among kinds));
  numbers = is.numbers ∙ sym (list_any-append is_numbers kinds (None ∷ []) ∙ or_false (list_any is_numbers kinds));
  flags = is.flags ∙ sym (list_any-append is_flags kinds (None ∷ []) ∙ or_false (list_any is_flags kinds));
}

pub numbers_more : (kinds : List (Option CellKind)) (k more : Kinds) → AreKindsOf kinds k
    → more.first ≡ option_or k.first (Some Numbers) → more.numbers ≡ true → more.flags ≡ k.flags → AreKindsOf (kinds ++ Some Numbers ∷ []) more
numbers_more kinds k more is first numbers flags = record {
  first = first ∙ (ap (λ o. option_or o (Some Numbers)) is.first ∙ sym (among_more kinds (Some Numbers)));
  numbers = numbers ∙ sym (list_any-append is_numbers kinds (Some Numbers ∷ []) ∙ or-true (list_any is_numbers kinds));
  flags = flags ∙ (is.flags ∙ sym (list_any-append is_flags kinds (Some Numbers ∷ []) ∙ or_false (list_any is_flags kinds)));
}

pub flags_more : (kinds : List (Option CellKind)) (k more : Kinds) → AreKindsOf kinds k
    → more.first ≡ option_or k.first (Some Flags) → more.numbers ≡ k.numbers → more.flags ≡ true → AreKindsOf (kinds ++ Some Flags ∷ []) more
flags_more kinds k more is first numbers flags = record {
  first = first ∙ (ap (λ o. option_or o (Some Flags)) is.first ∙ sym (among_more kinds (Some Flags)));
  numbers = numbers ∙ (is.numbers ∙ sym (list_any-append is_numbers kinds (Some Flags ∷ []) ∙ or_false (list_any is_numbers kinds)));
  flags = flags ∙ sym (list_any-append is_flags kinds (Some Flags ∷ []) ∙ or-true (list_any is_flags kinds));
}
