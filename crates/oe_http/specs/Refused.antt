-- The refusals of a read as those of a request.
use Rattle.std.specs.Prelude.{ℕ, ◌<◌, ◌≤◌}
use Rattle.oe_http.specs.Front.{most_head}
use Rattle.oe_outside.specs.declared.input.ReadRefusal.{ReadRefusal}
use Rattle.oe_outside.specs.declared.input.ReadRefusal.TheVariants as read
use Rattle.oe_http.specs.declared.request.RequestRefusal.{RequestRefusal}
use Rattle.oe_http.specs.declared.request.RequestRefusal.TheVariants as refusal

abbrev pub of_reading : ReadRefusal → RequestRefusal
of_reading read.Failed = refusal.LinkFailed
of_reading read.OutOfMemory = refusal.OutOfMemory

-- the refusals of bytes without a head, of which so many were read
abbrev pub RefusesHeadless : ℕ → RequestRefusal → Type 0
RefusesHeadless count refusal.Truncated = count < most_head
RefusesHeadless count refusal.HeadTooLong = most_head ≤ count
RefusesHeadless count refusal.Malformed = ⊥
RefusesHeadless count refusal.BodyTooLong = ⊥
RefusesHeadless count refusal.CodingUnsupported = ⊥
RefusesHeadless count refusal.LinkFailed = ⊥
RefusesHeadless count refusal.OutOfMemory = ⊥
