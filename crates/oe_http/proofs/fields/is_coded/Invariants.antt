use Rattle.std.proofs.Common.{◌≡◌, drop, map}
use Rattle.httparse.specs.Spans.{header_bytes}
use Rattle.oe_http.specs.Fields.{is_coded}
use Rattle.oe_http.proofs.fields.is_coded.Given as goal

abbrev pub invariant-loop-field : goal.invariant-loop-field
invariant-loop-field l = is_coded (map (header_bytes l.head) l.fields)
    ≡ is_coded (map (header_bytes l.head) (drop l.field-index l.fields))
