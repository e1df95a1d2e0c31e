-- What may be looked at of a catalogue: no more cells than were asked of it.
use Rattle.std.specs.Prelude.{◌≡◌, ◌≤◌, ℕ, ◌+◌}

-- so many cells, asked of the catalogue with this seal, are not looked at yet
pub record PermitOf : Type 0 where
  pub left : ℕ
  pub seal : ℕ

-- a permit for no cell of the catalogue with this seal
abbrev pub permit_for_none : ℕ → PermitOf
permit_for_none seal = record { left = 0; seal = seal }

-- a permit for so many cells more
abbrev pub permit_raised : ℕ → PermitOf → PermitOf
permit_raised cells permit = record { left = permit.left + cells; seal = permit.seal }

-- so many cells of the catalogue with this seal may be looked at: they were asked of that one, and of no other
pub record MayLook (seal cells : ℕ) (permit : PermitOf) : Type 0 where
  pub enough : cells ≤ permit.left
  pub own : permit.seal ≡ seal

-- so many cells were taken out of a permit
pub record Spends (cells : ℕ) (before after : PermitOf) : Type 0 where
  pub left : after.left + cells ≡ before.left
  pub seal : after.seal ≡ before.seal

-- at most so many
pub record SpendsAtMost (cells : ℕ) (before after : PermitOf) : Type 0 where
  pub left : before.left ≤ after.left + cells
  pub seal : after.seal ≡ before.seal
