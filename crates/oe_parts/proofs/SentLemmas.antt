-- A file that is sent in three steps: its front, its records, and what was pending.
use Rattle.std.proofs.Common.{◌≡◌, ℕ, ◌+◌, List, [], ◌++◌, Option, refl, sym, ◌∙◌, subst, append-nil, arith}
use Rattle.std.proofs.lemmas.Grind.{flat_map-append}
use Rattle.std.proofs.lemmas.List.{length-append}
use Rattle.std.proofs.lemmas.List.Elements.{All-append, All-nil}
use Rattle.oe_cell.specs.Cells.{IsCell}
use Rattle.oe_cell.specs.Record.{record_of, records_of}
use Rattle.oe_outside.specs.Stream.{Sends, Stops}
use Rattle.oe_outside.specs.Visible.{Appends, AppendsPrefix}
use Rattle.oe_outside.proofs.Streams.{appends_from_sends, prefix_from_stops, sends_both, sends_nothing, stops_first, stops_second}
use Rattle.oe_parts.specs.Head.{PartHead, front_bytes}
use Rattle.oe_parts.specs.PartFile.{part_cells}
use Rattle.oe_parts.specs.Sent.{AppendsRecords, SendsRecords}

module _ (w0 w1 w2 w3 : Option (List ℕ)) (z0 z1 z2 z3 : Option ℕ) (held front records l1 l2 l3 : List ℕ) (none : held ≡ []) where
  pub file_sent : Sends w0 z0 held front w1 z1 l1 → Sends w1 z1 l1 records w2 z2 l2 → Sends w2 z2 l2 [] w3 z3 l3 → l3 ≡ [] → Appends w0 (front ++ records) w3
  file_sent a b c empty =
      subst (λ (t : List ℕ). Appends w0 t w3) (append-nil (front ++ records))
      (appends_from_sends empty (subst (λ (h : List ℕ). Sends w0 z0 h (front ++ records ++ []) w3 z3 l3) none (sends_both (sends_both a b) c)))

  pub front_stops : Stops w0 z0 held front w1 z1 → AppendsPrefix w0 (front ++ records) w1
  front_stops a = prefix_from_stops (stops_first records (subst (λ (h : List ℕ). Stops w0 z0 h front w1 z1) none a))

  pub records_stop : Sends w0 z0 held front w1 z1 l1 → Stops w1 z1 l1 records w2 z2 → AppendsPrefix w0 (front ++ records) w2
  records_stop a b = prefix_from_stops (subst (λ (h : List ℕ). Stops w0 z0 h (front ++ records) w2 z2) none (stops_second a b))

  pub end_stops : Sends w0 z0 held front w1 z1 l1 → Sends w1 z1 l1 records w2 z2 l2 → Stops w2 z2 l2 [] w3 z3 → AppendsPrefix w0 (front ++ records) w3
  end_stops a b c =
      subst (λ (t : List ℕ). AppendsPrefix w0 t w3) (append-nil (front ++ records))
      (prefix_from_stops (subst (λ (h : List ℕ). Stops w0 z0 h (front ++ records ++ []) w3 z3) none (stops_second (sends_both a b) c)))

-- ---- records of whatever valid cells were read back

pub records_sent_none : (w : Option (List ℕ)) (z : Option ℕ) (held : List ℕ) → SendsRecords w z held 0 w z held
records_sent_none w z held = record { cells = []; many = refl; valid = All-nil IsCell; sends = sends_nothing w z held }

pub records_sent_more : (w0 w1 w2 : Option (List ℕ)) (z0 z1 z2 : Option ℕ) (held l1 l2 : List ℕ) (m n : ℕ) → SendsRecords w0 z0 held m w1 z1 l1 → SendsRecords w1 z1 l1 n w2 z2 l2 → SendsRecords w0 z0 held (m + n) w2 z2 l2
records_sent_more w0 w1 w2 z0 z1 z2 held l1 l2 m n a b =
    let many_a = a.many in
    let many_b = b.many in
    record {
      cells = a.cells ++ b.cells;
      many = length-append a.cells b.cells ∙ omega (arith, many_a, many_b);
      valid = All-append IsCell a.cells b.cells a.valid b.valid;
      sends = subst (λ (t : List ℕ). Sends w0 z0 held t w2 z2 l2) (sym (flat_map-append record_of a.cells b.cells)) (sends_both a.sends b.sends);
    }

pub records_file : (h : PartHead) (w0 w1 w2 w3 : Option (List ℕ)) (z0 z1 z2 z3 : Option ℕ) (held front l1 l2 l3 : List ℕ) → held ≡ [] → front ≡ front_bytes h → Sends w0 z0 held front w1 z1 l1 → SendsRecords w1 z1 l1 (part_cells h) w2 z2 l2 → Sends w2 z2 l2 [] w3 z3 l3 → l3 ≡ [] → AppendsRecords w0 h w3
records_file h w0 w1 w2 w3 z0 z1 z2 z3 held front l1 l2 l3 none is a b c empty = record {
  cells = b.cells;
  many = b.many;
  valid = b.valid;
  appends = subst (λ (f : List ℕ). Appends w0 (f ++ records_of b.cells) w3) is (file_sent w0 w1 w2 w3 z0 z1 z2 z3 held front (records_of b.cells) l1 l2 l3 none a b.sends c empty);
}
