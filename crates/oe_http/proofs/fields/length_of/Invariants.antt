use Rattle.std.proofs.Common.{◌≡◌, ◌<◌, ◌^◌, drop}
use Rattle.std.specs.Str.Parse.{digits_value, digits_value_after}
use Rattle.oe_http.proofs.fields.length_of.Given as goal

abbrev pub invariant-loop-digit : goal.invariant-loop-digit
invariant-loop-digit l = record {
  value : digits_value 10 l.value ≡ digits_value_after 10 l.length (drop l.digit-index l.value);
  small : l.length < 10 ^ l.digit-index;
}
