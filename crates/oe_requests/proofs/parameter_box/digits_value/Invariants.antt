use Rattle.std.proofs.Common.{◌≡◌, ◌≤◌, true, drop}
use Rattle.std.specs.List.{list_all}
use Rattle.oe_requests.specs.Parameters.{is_digit}
use Rattle.oe_requests.proofs.EpsgLemmas.{value_behind}
use Rattle.oe_requests.proofs.parameter_box.digits_value.Given as goal

abbrev pub invariant-loop-digit : goal.invariant-loop-digit
invariant-loop-digit l = record {
  most : l.value ≤ 999999;
  digits : list_all is_digit (drop l.digit-index l.digits) ≡ true;
  same : value_behind 0 l.digits ≡ value_behind l.value (drop l.digit-index l.digits);
}
