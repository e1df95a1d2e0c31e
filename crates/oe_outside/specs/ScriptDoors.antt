-- What a door in memory holds: connections in memory, a script, and its three fault counters.
use Rattle.std.specs.Prelude.{◌≡◌, ℕ, List, [], Option, None, refl}
use Rattle.std.specs.Coded.{Coded, code_by, coded×, coded_ℕ, coded_list, coded_option}
use Rattle.oe_outside.specs.Doors.{VisibleDoor}
use Rattle.oe_outside.specs.Memory.{LinkState, link_code}
use Rattle.oe_outside.specs.Script.{ScriptState, script_code, script_of}

pub record DoorState : Type 0 where
  pub visible : VisibleDoor LinkState
  -- the calls of `next` and `dial` together
  pub script : ScriptState
  pub faults : ℕ
  pub dial_faults : ℕ
  pub link_faults : ℕ

-- the parts of what a door shows, as a tuple
abbrev Shown : Type 0
Shown = List LinkState × (List LinkState × (ℕ × (List LinkState × (ℕ × (ℕ × Option (List ℕ × ℕ))))))

abbrev shown_code : Coded Shown
shown_code =
    coded× (coded_list link_code) (coded× (coded_list link_code) (coded× coded_ℕ (coded× (coded_list link_code)
    (coded× coded_ℕ (coded× coded_ℕ (coded_option (coded× (coded_list coded_ℕ) coded_ℕ)))))))

abbrev shown : VisibleDoor LinkState → Shown
shown d = (d.coming, (d.to_dial, (d.out, (d.given_back, (d.nexts, (d.dials, d.last_dial))))))

abbrev visible_of : Shown → VisibleDoor LinkState
visible_of p = record {
  coming = p.0;
  to_dial = p.1.0;
  out = p.1.1.0;
  given_back = p.1.1.1.0;
  nexts = p.1.1.1.1.0;
  dials = p.1.1.1.1.1.0;
  last_dial = p.1.1.1.1.1.1;
}

abbrev pub door_code : Coded DoorState
door_code =
    code_by (Shown × (ScriptState × (ℕ × (ℕ × ℕ)))) (coded× shown_code
    (coded× script_code (coded× coded_ℕ (coded× coded_ℕ coded_ℕ))))
    (λ s. (shown s.visible, (s.script, (s.faults, (s.dial_faults, s.link_faults)))))
    (λ p. record {
      visible = visible_of p.0;
      script = p.1.0;
      faults = p.1.1.0;
      dial_faults = p.1.1.1.0;
      link_faults = p.1.1.1.1;
    })
    (λ _. refl)

-- a door that was not asked yet
abbrev pub door_of : List LinkState → List LinkState → List ℕ → DoorState
door_of links dialled failing =
    record {
      visible = record {
        coming = links;
        to_dial = dialled;
        out = 0;
        given_back = [];
        nexts = 0;
        dials = 0;
        last_dial = None;
      };
      script = script_of failing;
      faults = 0;
      dial_faults = 0;
      link_faults = 0;
    }

-- no call of the connection has failed
abbrev pub IsSound : LinkState → Type 0
IsSound link = link.faults ≡ 0
