-- Worked values of the definitions.
use Rattle.std.specs.Prelude.{◌≡◌, ℕ, pos, negsuc, [], ◌∷◌, Some, None, Err, codes, refl}
use Rattle.oe_dims.specs.Calendar.{civil_date}
use Rattle.oe_dims.specs.Cube.{Cube, tuples, at, row_major}
use Rattle.oe_dims.specs.Dimensions.{Dimensions, shape_fault, order_fault, range_fault, limit_fault, epsg_fault, cells_fault, cell_count}
use Rattle.oe_dims.specs.Instant.{instant_text, instant_read}
use Rattle.oe_dims.specs.Indices.{same_number, index_where}
use Rattle.oe_dims.specs.Positions.{Position, number_of, tuple_of}
use Rattle.oe_dims.specs.declared.instant.InstantFault.TheVariants.{Spelling, NoSuchDay}
use Rattle.oe_dims.specs.declared.kind.Kind.TheVariants.{Bands, Y}
use Rattle.oe_dims.specs.declared.shape.ShapeFault.TheVariants.{OrderWrong, OutOfRange, EpsgWrong}

new_year : instant_text (pos 1704067200) ≡ codes "2024-01-01T00:00:00Z"
unfolding instant_text civil_date
new_year = refl

leap_day : instant_text (pos 1709251199) ≡ codes "2024-02-29T23:59:59Z"
unfolding instant_text civil_date
leap_day = refl

before_the_epoch : instant_text (negsuc 0) ≡ codes "1969-12-31T23:59:59Z"
unfolding instant_text civil_date
before_the_epoch = refl

last_second : instant_text (pos 253402300799) ≡ codes "9999-12-31T23:59:59Z"
unfolding instant_text civil_date
last_second = refl

first_second : instant_text (negsuc 62135596799) ≡ codes "0001-01-01T00:00:00Z"
unfolding instant_text civil_date
first_second = refl

-- y 10, 0 and x 0, 10 in longitude and latitude
square : Dimensions
square = record { epsg = 4326; t = None; bands = Some (codes "B1" ∷ []); y = Some (pos 10 ∷ pos 0 ∷ []); x = Some (pos 0 ∷ pos 10 ∷ []) }

square_is_a_shape : shape_fault square ≡ None
unfolding square shape_fault order_fault range_fault limit_fault epsg_fault cells_fault
square_is_a_shape = refl

-- with the cells 1 2 / 3 4
squared : Cube ℕ
squared = record { shape = square; cells = 1 ∷ 2 ∷ 3 ∷ 4 ∷ [] }

lower_left : at squared (record { t = None; band = Some (codes "B1"); y = Some (pos 0); x = Some (pos 0) }) ≡ Some 3
unfolding squared square
lower_left = refl

no_such_tuple : at squared (record { t = Some (pos 0); band = Some (codes "B1"); y = Some (pos 0); x = Some (pos 0) }) ≡ None
unfolding squared square
no_such_tuple = refl

no_such_label : row_major square (record { t = None; band = Some (codes "B1"); y = Some (pos 5); x = Some (pos 0) }) ≡ None
unfolding square
no_such_label = refl

-- the lower right corner has index 1 along y and x, and stands last
corner : Position
corner = record { t = 0; band = 0; y = 1; x = 1 }

corner_number : number_of square corner ≡ 3
unfolding square corner
corner_number = refl

corner_labels : tuple_of square corner ≡ record { t = None; band = Some (codes "B1"); y = Some (pos 0); x = Some (pos 10) }
unfolding square corner
corner_labels = refl

nothing : Dimensions
nothing = record { epsg = 0; t = None; bands = None; y = None; x = None }

one_cell : cell_count nothing ≡ 1
unfolding nothing
one_cell = refl

one_tuple : tuples nothing ≡ record { t = None; band = None; y = None; x = None } ∷ []
unfolding nothing
one_tuple = refl

no_label_no_cell : cell_count (record nothing { t = Some [] }) ≡ 0
unfolding nothing
no_label_no_cell = refl

order_first : shape_fault (record { epsg = 0; t = Some (pos 999999999999 ∷ []); bands = None; y = Some (pos 0 ∷ pos 0 ∷ []); x = None }) ≡ Some (OrderWrong Y)
unfolding shape_fault order_fault range_fault limit_fault epsg_fault cells_fault
order_first = refl

code_without_coordinate : shape_fault (record nothing { epsg = 4326 }) ≡ Some EpsgWrong
unfolding nothing shape_fault order_fault range_fault limit_fault epsg_fault cells_fault
code_without_coordinate = refl

twice_the_same_band : shape_fault (record nothing { bands = Some (codes "B" ∷ codes "B" ∷ []) }) ≡ Some (OrderWrong Bands)
unfolding nothing shape_fault order_fault range_fault limit_fault epsg_fault cells_fault
twice_the_same_band = refl

empty_name : shape_fault (record nothing { bands = Some ([] ∷ []) }) ≡ Some (OutOfRange Bands)
unfolding nothing shape_fault order_fault range_fault limit_fault epsg_fault cells_fault
empty_name = refl

no_leap_day : instant_read (codes "2023-02-29") ≡ Err NoSuchDay
unfolding instant_read
no_leap_day = refl

no_second_60 : instant_read (codes "2016-12-31T23:59:60Z") ≡ Err NoSuchDay
unfolding instant_read
no_second_60 = refl

one_digit : instant_read (codes "2024-1-01") ≡ Err Spelling
unfolding instant_read
one_digit = refl

second_index : index_where (same_number (pos 0)) (pos 10 ∷ pos 0 ∷ []) ≡ Some 1
second_index = refl
