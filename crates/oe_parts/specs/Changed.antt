-- A header of which one byte was changed.
use Rattle.std.specs.Prelude.{◌≡◌, ℕ, List, ◌∷◌, ◌++◌, length}
use Rattle.oe_parts.specs.Head.{PartHead, header_text}
use Rattle.oe_parts.specs.PartFile.{IsPartFile}

-- the second text is the first with some byte in place of one of its bytes
pub record DifferInOneByte (text changed : List ℕ) : Type 0 where
  pub before : List ℕ
  pub byte : ℕ
  pub other : ℕ
  pub after : List ℕ
  pub text_is : text ≡ before ++ byte ∷ after
  pub changed_is : changed ≡ before ++ other ∷ after

-- two heads name one result: that of the same graph, of the same kind and the same shape
pub record NameOneResult (head other : PartHead) : Type 0 where
  pub graph : head.graph ≡ other.graph
  pub kind : head.kind ≡ other.kind
  pub shape : head.shape ≡ other.shape

-- two part files of one length, which name one result and whose headers differ in one byte at most
pub record AreHeadersOfOne (bytes changed : List ℕ) (head other : PartHead) : Type 0 where
  pub is_file : IsPartFile bytes head
  pub changed_is_file : IsPartFile changed other
  pub as_long : length bytes ≡ length changed
  pub one_result : NameOneResult head other
  pub one_byte : DifferInOneByte (header_text head) (header_text other)
