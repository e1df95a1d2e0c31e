use Rattle.std.proofs.Common.{◌≡◌, ℕ, ◌*◌, length, take, Some}
use Rattle.std.specs.Prelude.{slice_get, sum_by}
use Rattle.oe_wide.specs.Wide.{byte_count}
use Rattle.oe_sources.proofs.sections.Sections.new.Given as goal

abbrev pub invariant-loop-width : goal.invariant-loop-width
invariant-loop-width l = record {
  counted : length l.starts.items ≡ l.width-index;
  each : (k start : ℕ) → slice_get l.starts.items k ≡ Some start → start ≡ l.size * sum_by byte_count (take k l.widths);
  end_is : l.end ≡ l.size * sum_by byte_count (take l.width-index l.widths);
}
