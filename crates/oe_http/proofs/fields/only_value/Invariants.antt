use Rattle.std.proofs.Common.{◌≡◌, ◌++◌, drop, map, length, IfSome}
use Rattle.httparse.specs.Spans.{header_bytes, IsWithin}
use Rattle.oe_http.specs.Fields.{values_of}
use Rattle.oe_http.specs.Found.{found_values}
use Rattle.oe_http.proofs.fields.only_value.Given as goal

abbrev pub invariant-loop-field : goal.invariant-loop-field
invariant-loop-field l = record {
  values : values_of l.name (map (header_bytes l.head) l.fields)
      ≡ found_values l.head l.found ++ values_of l.name (map (header_bytes l.head) (drop l.field-index l.fields));
  within : IfSome l.found (IsWithin (length l.head));
}
