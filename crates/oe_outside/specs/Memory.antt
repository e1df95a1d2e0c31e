-- What the objects in memory hold, and how much a call takes or writes.
use Rattle.std.specs.Prelude.{ℕ, ◌+◌, ◌-◌, ◌/◌, min, List, length, take, if◌then◌else◌, nat_lt, nat_le, ◌||◌, Bool, refl}
use Rattle.std.specs.Coded.{Coded, code_by, coded×, coded_ℕ, coded_list}
use Rattle.oe_outside.specs.Script.{ScriptState, script_code, fails_next}
use Rattle.oe_outside.specs.Stored.{with_piece}

pub record SourceState : Type 0 where
  -- the bytes that are left
  pub left : List ℕ
  pub script : ScriptState
  pub faults : ℕ

abbrev pub source_code : Coded SourceState
source_code =
    code_by (List ℕ × (ScriptState × ℕ)) (coded× (coded_list coded_ℕ) (coded× script_code coded_ℕ))
    (λ s. (s.left, (s.script, s.faults))) (λ p. record { left = p.0; script = p.1.0; faults = p.1.1 }) (λ _. refl)

pub record SinkState : Type 0 where
  -- the bytes that were written, and how many there may be
  pub written : List ℕ
  pub capacity : ℕ
  pub script : ScriptState
  pub faults : ℕ

abbrev pub sink_code : Coded SinkState
sink_code =
    code_by (List ℕ × (ℕ × (ScriptState × ℕ))) (coded× (coded_list coded_ℕ)
    (coded× coded_ℕ (coded× script_code coded_ℕ))) (λ s. (s.written, (s.capacity, (s.script, s.faults))))
    (λ p. record { written = p.0; capacity = p.1.0; script = p.1.1.0; faults = p.1.1.1 }) (λ _. refl)

-- a sink with room for 1048577 bytes
pub record BoundedState : Type 0 where
  pub written : List ℕ
  pub faults : ℕ

abbrev pub bounded_code : Coded BoundedState
bounded_code =
    code_by (List ℕ × ℕ) (coded× (coded_list coded_ℕ) coded_ℕ) (λ s. (s.written, s.faults))
    (λ p. record { written = p.0; faults = p.1 }) (λ _. refl)

pub record StoreState : Type 0 where
  -- the bytes, and the length that no write may pass
  pub bytes : List ℕ
  pub capacity : ℕ
  pub script : ScriptState
  pub faults : ℕ

abbrev pub store_code : Coded StoreState
store_code =
    code_by (List ℕ × (ℕ × (ScriptState × ℕ))) (coded× (coded_list coded_ℕ)
    (coded× coded_ℕ (coded× script_code coded_ℕ))) (λ s. (s.bytes, (s.capacity, (s.script, s.faults))))
    (λ p. record { bytes = p.0; capacity = p.1.0; script = p.1.1.0; faults = p.1.1.1 }) (λ _. refl)

pub record LinkState : Type 0 where
  -- the bytes that are left to be read, and how many of them one read gives at most
  pub left : List ℕ
  pub piece : ℕ
  -- the bytes that were written, and how many there may be
  pub written : List ℕ
  pub capacity : ℕ
  pub script : ScriptState
  pub faults : ℕ

abbrev pub link_code : Coded LinkState
link_code =
    code_by (List ℕ × (ℕ × (List ℕ × (ℕ × (ScriptState × ℕ)))))
    (coded× (coded_list coded_ℕ) (coded× coded_ℕ (coded× (coded_list coded_ℕ)
    (coded× coded_ℕ (coded× script_code coded_ℕ)))))
    (λ s. (s.left, (s.piece, (s.written, (s.capacity, (s.script, s.faults))))))
    (λ p. record {
      left = p.0;
      piece = p.1.0;
      written = p.1.1.0;
      capacity = p.1.1.1.0;
      script = p.1.1.1.1.0;
      faults = p.1.1.1.1.1;
    })
    (λ _. refl)

-- how many of the bytes that are left a read takes, for a buffer with this room: none where the script fails the call
abbrev pub given_count : ScriptState → List ℕ → ℕ → ℕ
given_count script left room = if fails_next script then 0 else min room (length left)

-- whether a write of this piece fails: by the script, or since it is longer than the room
abbrev pub fails_write : ScriptState → ℕ → List ℕ → Bool
fails_write script room piece = fails_next script || nat_lt room (length piece)

-- how many bytes of the piece are written: half of them where the script fails the call, and never more than the room
abbrev pub written_count : ScriptState → ℕ → List ℕ → ℕ
written_count script room piece = min room (if fails_next script then length piece / 2 else length piece)

-- whether a write of this piece at an offset fails: by the script, or since it would pass the capacity
abbrev pub fails_write_at : StoreState → ℕ → List ℕ → Bool
fails_write_at store at piece = fails_next store.script || nat_lt store.capacity (at + length piece)

-- the bytes after that write: what is written of the piece stands at the offset; past the capacity nothing changes
abbrev pub bytes_after_write : StoreState → ℕ → List ℕ → List ℕ
bytes_after_write store at piece =
    if nat_le at store.capacity
    then with_piece store.bytes at (take (written_count store.script (store.capacity - at) piece) piece)
    else store.bytes
