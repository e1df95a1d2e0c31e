-- Values in the form that reading gives them: an object has its members in byte order of their names, each name once,
-- and a negative whole number fits 64 bits.
use Rattle.std.specs.Prelude.{ℕ, ◌&&◌, ◌^◌, Bool, true, false, List, [], ◌∷◌, pos, negsuc, nat_lt}
use Rattle.serde_json.specs.Data.{Num, unsigned, negative, float, Data, null, boolean, number, string, array, object, Items, no_items, item, Members, no_members, member}
use Rattle.oe_dims.specs.Names.{names_rise}

abbrev pub is_number_as_read : Num → Bool
is_number_as_read (unsigned n) = true
is_number_as_read (negative (pos n)) = false
is_number_as_read (negative (negsuc n)) = nat_lt n (2 ^ 63)
is_number_as_read (float x) = true

abbrev pub member_names : Members → List (List ℕ)
member_names no_members = []
member_names (member name d ms) = name ∷ member_names ms

-- at any depth
abbrev mutual
  pub is_as_read : Data → Bool
  is_as_read null = true
  is_as_read (boolean b) = true
  is_as_read (number n) = is_number_as_read n
  is_as_read (string s) = true
  is_as_read (array ds) = are_as_read ds
  is_as_read (object ms) = names_rise (member_names ms) && members_as_read ms

  pub are_as_read : Items → Bool
  are_as_read no_items = true
  are_as_read (item d ds) = is_as_read d && are_as_read ds

  pub members_as_read : Members → Bool
  members_as_read no_members = true
  members_as_read (member name d ms) = is_as_read d && members_as_read ms
