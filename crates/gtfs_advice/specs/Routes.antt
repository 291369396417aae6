-- Which routes a reader would look at twice (GTFS Schedule Reference, routes.txt).
use Rattle.std.specs.Prelude.{ℕ, ◌+◌, ◌-◌, ◌*◌, ◌/◌, ◌%◌, ◌==◌, ◌&&◌, ◌||◌, not, Bool, nat_lt, List, bytes_eq, Option, is_some, is_none}
use Rattle.std.specs.List.{list_any}
use Rattle.std.specs.Option.{option_eq}
use Rattle.std.specs.Ordering.{is_lt}
use Rattle.gtfs_schema.specs.FieldValues.{if_both, if_there}
use Rattle.gtfs_field.specs.TextOrder.{text_cmp}
use Rattle.gtfs_rows.specs.Content.{Content}
use Rattle.gtfs_rows.specs.Rows.{Route, Trip}
use Rattle.gtfs_advice.specs.TextFaults.{has_more_characters, is_garbled_if_given, repeats}

abbrev pub is_of_route : Route → Trip → Bool
is_of_route r t = bytes_eq t.route_id r.route_id

-- no trip is of this route
abbrev pub has_no_trip : Content → Route → Bool
has_no_trip c r = not (list_any (is_of_route r) c.trips)

-- ---- names

abbrev pub same_text : Option (List ℕ) → Option (List ℕ) → Bool
same_text a b = option_eq bytes_eq a b

-- another route of the same agency and type has the same two names, and comes before this one
abbrev pub has_names_of : Route → Route → Bool
has_names_of r other = is_lt (text_cmp other.route_id r.route_id) && bytes_eq other.agency_id r.agency_id
    && (other.route_type == r.route_type) && same_text other.route_short_name r.route_short_name
    && same_text other.route_long_name r.route_long_name

abbrev pub is_named_as_another : Content → Route → Bool
is_named_as_another c r = list_any (has_names_of r) c.routes

abbrev pub has_long_short_name : Route → Bool
has_long_short_name r = if_there r.route_short_name (has_more_characters 12)

abbrev pub repeats_short_name : Route → Bool
repeats_short_name r = if_both r.route_short_name r.route_long_name repeats

abbrev pub is_garbled_route : Route → Bool
is_garbled_route r = is_garbled_if_given r.route_short_name || is_garbled_if_given r.route_long_name

-- ---- colours, of 24 bits: eight each of red, green and blue, red highest

-- a thousand times the brightness of a colour, from 0 to 255,000 (W3C, "Techniques for Accessibility Evaluation and Repair Tools")
abbrev pub brightness : ℕ → ℕ
brightness colour = 299 * (colour / 0x1_0000) + 587 * (colour / 0x100 % 0x100) + 114 * (colour % 0x100)

abbrev pub distance : ℕ → ℕ → ℕ
distance a b = (a - b) + (b - a)

-- the brightness of a route's colour and that of its text differ by less than 510,000 sevenths
abbrev pub has_close_colours : Route → Bool
has_close_colours r = nat_lt (7 * distance (brightness r.route_color) (brightness r.route_text_color)) 510_000

-- ---- directions

-- it has a trip with a direction and one without
abbrev pub has_some_directions : Content → Route → Bool
has_some_directions c r = list_any (λ t. is_of_route r t && is_some t.direction_id) c.trips
    && list_any (λ t. is_of_route r t && is_none t.direction_id) c.trips
