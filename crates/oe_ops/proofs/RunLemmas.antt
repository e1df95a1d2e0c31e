-- Labels along a dimension that stand one after the other in an argument too.
use Rattle.std.proofs.Common.{◌≡◌, ℕ, ◌+◌, ◌<◌, ◌≤◌, ℤ, pos, ◌-◌, List, [], length, get_or, sym, ap, ◌∙◌, subst, arith, Option, Some, None, IfSome}
use Rattle.std.specs.List.{slice_get, slice_range}
use Rattle.std.specs.Option.{unwrap_or}
use Rattle.std.proofs.lemmas.List.Edits.{get_or-between}
use Rattle.std.proofs.lemmas.Option.{slice_get-get_or}
use Rattle.oe_dims.specs.Cube.{index_along}
use Rattle.oe_dims.specs.Dimensions.{Dimensions, IsShape, most_labels, number_labels}
use Rattle.oe_dims.specs.Indices.{same_number, index_where}
use Rattle.oe_dims.specs.declared.kind.Kind.{Kind}
use Rattle.oe_dims.specs.declared.kind.Kind.TheVariants.{Time, Bands, Y, X}
use Rattle.oe_dims.proofs.ReaderLemmas.{IsIndexOf-number}
use Rattle.oe_dims.proofs.ShapeLemmas.{extents_of_shape}
use Rattle.oe_window.specs.Windows.{extent_along}
use Rattle.oe_requests.specs.Labels.{only_along}
use Rattle.oe_ops.specs.Indices.{IsOnRun, index_under, index_in_argument}
use Rattle.oe_ops.specs.declared.run.Run.{Run}

under_found : (labels others : Option (List ℤ)) (i j : ℕ) (l : ℤ) → slice_get (unwrap_or labels []) i ≡ Some l → slice_get (unwrap_or others []) j ≡ Some l → index_where (same_number l) (unwrap_or others []) ≡ Some j → index_under same_number labels others i ≡ Some j
under_found None others i j l h g e = cc
under_found (Some ls) None i j l h g e = cc
under_found (Some ls) (Some os) i j l h g e = ap (λ o. index_along same_number (Some os) (only_along (Some os) o)) h ∙ e

pub index_of_label : (along : Kind) (shape argument : Dimensions) (i j : ℕ) (l : ℤ) → IsShape argument → slice_get (number_labels shape along) i ≡ Some l → slice_get (number_labels argument along) j ≡ Some l → index_in_argument along shape argument i ≡ Some j
index_of_label Time shape argument i j l valid h g = under_found shape.t argument.t i j l h g (((IsIndexOf-number argument Time l valid).there j).1 g)
index_of_label Bands shape argument i j l valid h g = cc
index_of_label Y shape argument i j l valid h g = under_found shape.y argument.y i j l h g (((IsIndexOf-number argument Y l valid).there j).1 g)
index_of_label X shape argument i j l valid h g = under_found shape.x argument.x i j l h g (((IsIndexOf-number argument X l valid).there j).1 g)

-- a run of labels that is one of the argument too
pub run_index : (along : Kind) (shape argument : Dimensions) (from first count k : ℕ) → IsShape argument → from + count ≤ length (number_labels shape along) → first + count ≤ length (number_labels argument along) → slice_range (number_labels shape along) from (from + count) ≡ slice_range (number_labels argument along) first (first + count) → k < count → index_in_argument along shape argument (from + k) ≡ Some (first + k)
run_index along shape argument from first count k valid ends others_end same lt =
    let zero = pos 0 in
    let labels = number_labels shape along in
    let others = number_labels argument along in
    let here = slice_get-get_or labels (from + k) zero (omega arith) in
    let there = slice_get-get_or others (first + k) zero (omega arith) in
    let is : get_or others (first + k) zero ≡ get_or labels (from + k) zero =
    sym (get_or-between others first (first + count) k zero (omega arith)) ∙ ap (λ l. get_or l k zero) (sym same)
    ∙ get_or-between labels from (from + count) k zero (omega arith) in
    index_of_label along shape argument (from + k) (first + k) (get_or labels (from + k) zero) valid here (there ∙ ap Some is)

-- ---- the labels of a run

-- each label of a span is on the run that is found for it
pub on_run : (along : Kind) (shape argument : Dimensions) (from count : ℕ) (found : Option ℕ) (index : ℕ) → from ≤ index → index < from + count → IfSome found (λ first. (k : ℕ) → k < count → index_in_argument along shape argument (from + k) ≡ Some (first + k)) → IsOnRun along shape argument (record { from = from; first = found }) index
on_run along shape argument from count None index begun before h = tt
on_run along shape argument from count (Some first) index begun before h =
    let back : index ≡ from + (index - from) = omega arith in
    (begun, ap (index_in_argument along shape argument) back ∙ h (index - from) (omega arith))

-- where there is a first index, it says where a label stands
pub run_at : (along : Kind) (shape argument : Dimensions) (run : Run) (index first : ℕ) → run.first ≡ Some first → IsOnRun along shape argument run index → (run.from ≤ index) × (index_in_argument along shape argument index ≡ Some (first + (index - run.from)))
run_at along shape argument run index first is h =
    subst (λ found. IfSome found (λ first. (run.from ≤ index) × (index_in_argument along shape argument index ≡ Some (first + (index - run.from))))) is h

-- and where one behind it stands
pub run_behind : (along : Kind) (shape argument : Dimensions) (run : Run) (index k first : ℕ) → run.first ≡ Some first → IsOnRun along shape argument run index → IsOnRun along shape argument run (index + k) → index_in_argument along shape argument (index + k) ≡ Some (first + (index - run.from) + k)
run_behind along shape argument run index k first is h g =
    let here = run_at along shape argument run index first is h in
    let there = run_at along shape argument run (index + k) first is g in
    let same : first + (index + k - run.from) ≡ first + (index - run.from) + k = omega arith in
    there.1 ∙ ap Some same

-- the first of labels on a run is on it
pub run_begins : (along : Kind) (shape argument : Dimensions) (run : Run) (index count : ℕ) → 0 < count → ((k : ℕ) → k < count → IsOnRun along shape argument run (index + k)) → IsOnRun along shape argument run index
run_begins along shape argument run index count some h =
    let same : index + 0 ≡ index = omega arith in
    subst (IsOnRun along shape argument run) same (h 0 some)

-- no dimension has over 65536 indices
pub extent_within : (along : Kind) (d : Dimensions) → IsShape d → extent_along d along ≤ most_labels
extent_within Time d valid = (extents_of_shape d valid).t
extent_within Bands d valid = (extents_of_shape d valid).bands
extent_within Y d valid = (extents_of_shape d valid).y
extent_within X d valid = (extents_of_shape d valid).x
