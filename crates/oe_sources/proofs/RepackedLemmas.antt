-- The file that is written of a mounted collection: its front, then the records of its sections.
use Rattle.std.proofs.Common.{◌≡◌, ◌≢◌, ℕ, ◌+◌, ◌<◌, ◌≤◌, true, List, [], ◌++◌, length, Option, Some, None, IfSome, refl, sym, ap, ◌∙◌, subst, arith, inl, inr}
use Rattle.std.specs.List.{Contains}
use Rattle.std.proofs.lemmas.List.{append-nil}
use Rattle.oe_dims.specs.Dimensions.{Dimensions, IsShape, cell_count, extent}
use Rattle.oe_dims.specs.Names.{is_name}
use Rattle.oe_dims.specs.declared.kind.CellKind.{CellKind}
use Rattle.oe_outside.specs.Visible.{Appends, AppendsPrefix}
use Rattle.oe_sources.specs.Catalogue.{OnlyReads, Row, source_at}
use Rattle.oe_sources.specs.Head.{IsHead, front_bytes, header_text, most_header}
use Rattle.oe_sources.specs.Packed.{AppendsPacked, IsPacked, packed_head, plane_size, section_records}
use Rattle.oe_sources.specs.Repacked.{AppendsPartOfRepacked, AppendsRepacked, AreWidthsOf, IsUndamaged, LeavesWritten, TellsRepackDamage}
use Rattle.oe_sources.specs.Source.{Contents}
use Rattle.oe_sources.specs.declared.repacking.RepackFail.{RepackFail}
use Rattle.oe_sources.specs.declared.repacking.RepackFail.TheVariants.{SourceFailed, SourceDamaged, SinkFailed, OutOfMemory}
use Rattle.oe_sources.proofs.PackingLemmas.{appends_more, none_written, prefix_more}
use Rattle.oe_sources.proofs.RepackLemmas.{damage_before}
use Rattle.oe_wide.specs.declared.width.Width.{Width}

-- the same widths, as another list
pub widths_same : (o : Option Contents) (d : Dimensions) (widths other : List Width) → other ≡ widths → IfSome o (λ c. AreWidthsOf d c widths) → IfSome o (λ c. AreWidthsOf d c other)
widths_same o d widths other same known =
    subst (λ (ws : List Width). IfSome o (λ c. AreWidthsOf d c ws)) (sym same) known

-- what a refusal says of the damage, it said before
pub damage_on : (a b : List Row) (index : ℕ) → OnlyReads a index b → (fail : RepackFail) → TellsRepackDamage (source_at b index) fail → TellsRepackDamage (source_at a index) fail
damage_on a b index reads fail told =
    damage_before (source_at a index) (source_at b index) fail reads.shape reads.contents told

-- these bytes are the front of a packed file
pub record IsPackedFront (id : List ℕ) (shape : Dimensions) (kind : CellKind) (widths : List Width) (front : List ℕ) : Type 0 where
  pub valid : IsHead (packed_head id shape kind widths)
  pub front_is : front ≡ front_bytes (packed_head id shape kind widths)

-- the front was made for the shape and the kind that the source had before
pub packed_front : (id : List ℕ) (shape seen_shape : Dimensions) (kind seen_kind : CellKind) (widths seen_widths : List Width) (front : List ℕ) → seen_shape ≡ shape → seen_kind ≡ kind → seen_widths ≡ widths → is_name id ≡ true → IsShape seen_shape → length widths ≡ extent shape.t → length (header_text (packed_head id seen_shape seen_kind seen_widths)) ≤ most_header → front ≡ front_bytes (packed_head id seen_shape seen_kind seen_widths) → IsPackedFront id shape kind widths front
packed_front id shape seen_shape kind seen_kind widths seen_widths front es ek ew name valid counted short is =
    subst (λ (d : Dimensions). IsPackedFront id d kind widths front) es
    (subst (λ (k : CellKind). IsPackedFront id seen_shape k widths front) ek
    (subst (λ (ws : List Width). IsPackedFront id seen_shape seen_kind ws front) ew (record {
      valid = record {
        id = name;
        shape = valid;
        widths = ap length ew ∙ counted ∙ ap (λ (d : Dimensions). extent d.t) (sym es);
        short = short;
      };
      front_is = is;
    })))

-- the front and the records make a packed file
packed_of : (id : List ℕ) (shape : Dimensions) (kind : CellKind) (c : Contents) (widths : List Width) (front : List ℕ) → IsPackedFront id shape kind widths front → AreWidthsOf shape c widths → IsPacked id shape kind c.cells (front ++ section_records (plane_size shape) widths c.cells)
packed_of id shape kind c widths front is known = record {
  widths = widths;
  least = known.least;
  valid = is.valid;
  bytes_are = ap (λ (bs : List ℕ). bs ++ section_records (plane_size shape) widths c.cells) is.front_is;
}

-- all of it was written
pub all_written : (a b : List Row) (index : ℕ) → OnlyReads a index b → (id : List ℕ) (widths : List Width) (front : List ℕ) (before middle after : Option (List ℕ)) → IsPackedFront id (source_at a index).shape (source_at a index).kind widths front → IfSome (source_at a index).contents (λ c. AreWidthsOf (source_at a index).shape c widths) → Appends before front middle → IfSome (source_at a index).contents (λ c. Appends middle (section_records (plane_size (source_at a index).shape) widths c.cells) after) → AppendsRepacked id (source_at a index) before after
all_written a b index reads id widths front before middle after is known first second = visible (source_at a index).contents known second
  where
    visible : (o : Option Contents) → IfSome o (λ c. AreWidthsOf (source_at a index).shape c widths) → IfSome o (λ c. Appends middle (section_records (plane_size (source_at a index).shape) widths c.cells) after) → IfSome o (λ c. AppendsPacked id (source_at a index).shape (source_at a index).kind c.cells before after)
    visible None k w = tt
    visible (Some c) k w =
        (front ++ section_records (plane_size (source_at a index).shape) widths c.cells, packed_of id (source_at a index).shape (source_at a index).kind c widths front is k, appends_more before middle after front (section_records (plane_size (source_at a index).shape) widths c.cells) first w)

-- only a part of the front
pub front_written : (a b : List Row) (index : ℕ) → OnlyReads a index b → (id : List ℕ) (widths : List Width) (front : List ℕ) (before after : Option (List ℕ)) → IsPackedFront id (source_at a index).shape (source_at a index).kind widths front → IfSome (source_at a index).contents (λ c. AreWidthsOf (source_at a index).shape c widths) → AppendsPrefix before front after → AppendsPartOfRepacked id (source_at a index) before after
front_written a b index reads id widths front before after is known first = visible (source_at a index).contents known
  where
    visible : (o : Option Contents) → IfSome o (λ c. AreWidthsOf (source_at a index).shape c widths) → IfSome o (λ c. (bytes : List ℕ) × IsPacked id (source_at a index).shape (source_at a index).kind c.cells bytes × AppendsPrefix before bytes after)
    visible None k = tt
    visible (Some c) k =
        (front ++ section_records (plane_size (source_at a index).shape) widths c.cells, packed_of id (source_at a index).shape (source_at a index).kind c widths front is k, prefix_more before before after [] front (section_records (plane_size (source_at a index).shape) widths c.cells) (none_written before) first)

-- the front and a part of the records
pub part_written : (a b : List Row) (index : ℕ) → OnlyReads a index b → (id : List ℕ) (widths : List Width) (front : List ℕ) (before middle after : Option (List ℕ)) → IsPackedFront id (source_at a index).shape (source_at a index).kind widths front → IfSome (source_at a index).contents (λ c. AreWidthsOf (source_at a index).shape c widths) → Appends before front middle → IfSome (source_at a index).contents (λ c. AppendsPrefix middle (section_records (plane_size (source_at a index).shape) widths c.cells) after) → AppendsPartOfRepacked id (source_at a index) before after
part_written a b index reads id widths front before middle after is known first second = visible (source_at a index).contents known second
  where
    visible : (o : Option Contents) → IfSome o (λ c. AreWidthsOf (source_at a index).shape c widths) → IfSome o (λ c. AppendsPrefix middle (section_records (plane_size (source_at a index).shape) widths c.cells) after) → IfSome o (λ c. (bytes : List ℕ) × IsPacked id (source_at a index).shape (source_at a index).kind c.cells bytes × AppendsPrefix before bytes after)
    visible None k w = tt
    visible (Some c) k w =
        let records = section_records (plane_size (source_at a index).shape) widths c.cells in
        (front ++ records, packed_of id (source_at a index).shape (source_at a index).kind c widths front is k, subst (λ (bs : List ℕ). AppendsPrefix before (front ++ bs) after) (append-nil records) (prefix_more before middle after front records [] first w))

-- no position is damaged where the widths are known
pub no_damage : (a b : List Row) (index : ℕ) → OnlyReads a index b → (widths : List Width) → IfSome (source_at a index).contents (λ c. AreWidthsOf (source_at a index).shape c widths) → IsUndamaged (source_at a index)
no_damage a b index reads widths known = visible (source_at a index).contents known
  where
    visible : (o : Option Contents) → IfSome o (λ c. AreWidthsOf (source_at a index).shape c widths) → IfSome o (λ c. (number : ℕ) → 0 ≤ number → number < 0 + cell_count (source_at a index).shape → ¬ Contains c.damaged number)
    visible None k = tt
    visible (Some c) k = k.undamaged

-- what is left after a refusal before anything was written
pub left_unwritten : {O : Type 0} → (a b : List Row) (index : ℕ) → OnlyReads a index b → (written : O → Option (List ℕ)) (id : List ℕ) (out : O) (fail : RepackFail) → fail ≢ SinkFailed → LeavesWritten written id (source_at a index) out out fail
left_unwritten a b index reads written id out SourceFailed other = inl refl
left_unwritten a b index reads written id out (SourceDamaged number) other = same (source_at a index).contents
  where
    same : (o : Option Contents) → IfSome o (λ c. out ≡ out)
    same None = tt
    same (Some c) = refl
left_unwritten a b index reads written id out SinkFailed other = absurd (other refl)
left_unwritten a b index reads written id out OutOfMemory other = refl

-- and after one in writing the records
pub left_written : {O : Type 0} → (a b : List Row) (index : ℕ) → OnlyReads a index b → (written : O → Option (List ℕ)) (id : List ℕ) (widths : List Width) (before after : O) (fail : RepackFail) → fail ≢ OutOfMemory → IfSome (source_at a index).contents (λ c. AreWidthsOf (source_at a index).shape c widths) → TellsRepackDamage (source_at a index) fail → AppendsPartOfRepacked id (source_at a index) (written before) (written after) → LeavesWritten written id (source_at a index) before after fail
left_written a b index reads written id widths before after SourceFailed other known told part = inr part
left_written a b index reads written id widths before after (SourceDamaged number) other known told part = visible (source_at a index).contents known told.damaged
  where
    visible : (o : Option Contents) → IfSome o (λ c. AreWidthsOf (source_at a index).shape c widths) → IfSome o (λ c. Contains c.damaged number) → IfSome o (λ c. after ≡ before)
    visible None k t = tt
    visible (Some c) k t = absurd (k.undamaged number (omega arith) (omega (arith, told.inside)) t)
left_written a b index reads written id widths before after SinkFailed other known told part = (no_damage a b index reads widths known, part)
left_written a b index reads written id widths before after OutOfMemory other known told part = absurd (other refl)
