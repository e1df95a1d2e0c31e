-- Where the only value of a name was found, as a span of the head.
use Rattle.std.specs.Prelude.{ℕ, List, [], ◌∷◌, Option, Some, None}
use Rattle.httparse.specs.declared.spans.Span.{Span}
use Rattle.httparse.specs.Spans.{span_bytes}

-- the value that was found, as a list of none or one
abbrev pub found_values : List ℕ → Option Span → List (List ℕ)
found_values head None = []
found_values head (Some span) = span_bytes head span ∷ []
