-- Kernels: a number for each row and column of a window with odd sizes.
use Rattle.std.specs.Prelude.{◌≡◌, ◌≤◌, ℕ, ◌-◌, ◌*◌, ◌/◌, ◌%◌, ◌==◌, ◌||◌, nat_lt, if◌then◌else◌, List, length, Option, Some, None}
use Rattle.oe_cell.specs.Fraction.{Fraction}
use Rattle.oe_kernel.specs.declared.kernel.KernelFault.{KernelFault}
use Rattle.oe_kernel.specs.declared.kernel.KernelFault.TheVariants.{LengthDiffers, Uneven, TooLarge}

-- how many values stand in a row and in a column, and the values row by row
pub record KernelValues : Type 0 where
  pub width : ℕ
  pub height : ℕ
  pub values : List Fraction

-- the largest size of a kernel
abbrev pub largest_size : ℕ
largest_size = 31

-- what every kernel is
pub record IsKernel (k : KernelValues) : Type 0 where
  pub counted : length k.values ≡ k.width * k.height
  pub width_odd : k.width % 2 ≡ 1
  pub height_odd : k.height % 2 ≡ 1
  pub width_most : k.width ≤ largest_size
  pub height_most : k.height ≤ largest_size

-- the first rule that is broken: as many values as rows times columns, odd sizes, and sizes of at most 31
abbrev pub kernel_fault : ℕ → ℕ → ℕ → Option KernelFault
kernel_fault width height count =
    if count == width * height then (if width % 2 == 0 || height % 2 == 0 then Some Uneven
    else (if nat_lt largest_size width || nat_lt largest_size height then Some TooLarge else None))
    else Some LengthDiffers

-- how far a window of an odd size reaches from its middle, to each side
abbrev pub radius_of : ℕ → ℕ
radius_of size = (size - 1) / 2
