-- Which cells fit a width, and the least width of several.
use Rattle.std.proofs.Common.{◌≡◌, ℕ, ◌+◌, ◌<◌, ◌≤◌, max, true, false, List, [], ◌∷◌, ◌++◌, length, get_or, take, Some, None, IsSome, inl, inr, refl, sym, ap, ◌∙◌, subst, arith}
use Rattle.std.specs.Prelude.{if◌then◌else◌, ◌==◌}
use Rattle.std.specs.List.{All}
use Rattle.std.proofs.lemmas.List.{take_more, take-take, get_or-take, length-take-le, take_all}
use Rattle.std.proofs.lemmas.List.Elements.{All-push, All-get_or, All-take}
use Rattle.oe_cell.specs.declared.cell.Cell.{Cell}
use Rattle.oe_cell.specs.declared.cell.Cell.TheVariants.{Empty, Flag, Number, Over}
use Rattle.oe_wide.specs.Wide.{FitsIn, AllFitIn, IsLeastWidth, byte_count, record_in}
use Rattle.oe_wide.specs.declared.width.Width.{Width}
use Rattle.oe_wide.specs.declared.width.Width.TheVariants.{One, Nine, Seventeen}

-- what fits a width fits a wider one
pub fits_wider : (w v : Width) (c : Cell) → byte_count w ≤ byte_count v → FitsIn w c → FitsIn v c
fits_wider w Seventeen c le fits = refl
fits_wider One One c le fits = fits
fits_wider Nine Nine c le fits = fits
fits_wider One Nine Empty le fits = refl
fits_wider One Nine (Flag false) le fits = refl
fits_wider One Nine (Flag true) le fits = refl
fits_wider One Nine (Number q) le fits = cc
fits_wider One Nine Over le fits = cc
fits_wider Nine One c le fits = absurd (omega arith)
fits_wider Seventeen One c le fits = absurd (omega arith)
fits_wider Seventeen Nine c le fits = absurd (omega arith)

-- one cell more, and the wider of its width and that of those before
pub least-more : (cells : List Cell) (k : ℕ) (c : Cell) (before here both : Width) → k < length cells → c ≡ get_or cells k c → byte_count both ≡ max (byte_count before) (byte_count here) → IsLeastWidth (λ w. AllFitIn w (take k cells)) before → IsLeastWidth (λ w. FitsIn w c) here → IsLeastWidth (λ w. AllFitIn w (take (k + 1) cells)) both
least-more cells k c before here both within is wide first own = record {
  holds = subst (λ (cs : List Cell). AllFitIn both cs) (sym more) (All-push (FitsIn both) (take k cells) c
      (λ j d below. fits_wider before both (get_or (take k cells) j d) (omega arith) (first.holds j d below))
      (fits_wider here both c (omega arith) own.holds));
  least = λ other all. (let a : byte_count before ≤ byte_count other = first.least other (front other all) in
      let b : byte_count here ≤ byte_count other = own.least other (last other all) in omega arith);
}
  where
    more : take (k + 1) cells ≡ take k cells ++ c ∷ []
    more = take_more cells k c within ∙ ap (λ (d : Cell). take k cells ++ d ∷ []) (sym is)

    front : (other : Width) → AllFitIn other (take (k + 1) cells) → AllFitIn other (take k cells)
    front other all =
        subst (λ (cs : List Cell). AllFitIn other cs) (take-take k (k + 1) cells (omega arith)) (All-take (FitsIn other) k (take (k + 1) cells) all)

    last : (other : Width) → AllFitIn other (take (k + 1) cells) → FitsIn other c
    last other all =
        subst (λ (d : Cell). FitsIn other d) (get_or-take (k + 1) cells k c (omega arith) ∙ sym is)
        (All-get_or (FitsIn other) (take (k + 1) cells) k c (omega (arith, length-take-le (k + 1) cells (omega arith))) all)

pub least-all : (cells : List Cell) (k : ℕ) (width : Width) → length cells ≤ k → IsLeastWidth (λ w. AllFitIn w (take k cells)) width → IsLeastWidth (λ w. AllFitIn w cells) width
least-all cells k width past least =
    subst (λ (cs : List Cell). IsLeastWidth (λ w. AllFitIn w cs) width) (take_all k cells past) least
