-- Objects of JSON with members that need not be there, and lists of links.
use Rattle.std.specs.Prelude.{ℕ, ℤ, ◌&&◌, int_le, if◌then◌else◌, List, Option, Some, None, codes}
use Rattle.serde_json.specs.Data.{Data, null, number, string, array, object, no_items, Members, no_members, member, put}
use Rattle.serde_json.specs.Find.{of_integer}
use Rattle.serde_json.specs.View.{items_of}
use Rattle.oe_dims.specs.Dimensions.{first_instant, last_instant}
use Rattle.oe_dims.specs.Instant.{instant_text}

-- the member of a name before the rest, where it has a value
abbrev pub member_where : List ℕ → Option Data → Members → Members
member_where name None rest = rest
member_where name (Some value) rest = member name value rest

-- the members with this one, at its place in byte order, where it has a value
abbrev pub put_where : List ℕ → Option Data → Members → Members
put_where name None members = members
put_where name (Some value) members = put name value members

-- a whole number
abbrev pub whole_data : ℤ → Data
whole_data z = number (of_integer z)

-- a moment, in seconds since 1970-01-01T00:00:00Z, in its long spelling; null for what is no instant, as no label of a
-- cube and no moment of a valid book is
abbrev pub moment_data : ℤ → Data
moment_data seconds =
    if int_le first_instant seconds && int_le seconds last_instant then string (instant_text seconds) else null

-- a list of these values
abbrev pub list_data : List Data → Data
list_data values = array (items_of values)

-- no links
abbrev pub no_links : Data
no_links = array no_items

-- an object of a list under its name and no links, in byte order of the two names
abbrev pub listing_data : List ℕ → List Data → Data
listing_data name values = object (put name (list_data values) (member (codes "links") no_links no_members))
