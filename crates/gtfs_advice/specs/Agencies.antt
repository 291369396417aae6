-- Which agencies a reader would look at twice (GTFS Schedule Reference, agency.txt).
use Rattle.std.specs.Prelude.{not, Bool, bytes_eq}
use Rattle.std.specs.List.{list_any}
use Rattle.gtfs_rows.specs.Content.{Content}
use Rattle.gtfs_rows.specs.Rows.{Agency}
use Rattle.gtfs_advice.specs.TextFaults.{is_garbled, lacks_scheme}

-- no route is of this agency
abbrev pub has_no_route : Content → Agency → Bool
has_no_route c a = not (list_any (λ r. bytes_eq r.agency_id a.agency_id) c.routes)

abbrev pub has_no_web_address : Agency → Bool
has_no_web_address a = lacks_scheme a.agency_url

abbrev pub is_garbled_agency : Agency → Bool
is_garbled_agency a = is_garbled a.agency_name
