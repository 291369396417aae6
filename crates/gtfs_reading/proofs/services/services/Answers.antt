use Rattle.std.proofs.Common.{◌≡◌, ◌∙◌, map, refl, sym}
use Rattle.std.specs.Cmp.Lexicographic.{nat_list_cmp_total}
use Rattle.gtfs_field.specs.TextOrder.{text_cmp}
use Rattle.gtfs_rows.specs.ContentRead.{content_of, service_row_in, services_named}
use Rattle.gtfs_rows.specs.RowsInMemory.{service_of}
use Rattle.gtfs_reading.proofs.ByIds.{by_key_made}
use Rattle.gtfs_reading.proofs.Filled.{list_filled}
use Rattle.gtfs_reading.proofs.services.services.Goals as goal

pub returns : goal.returns
returns c =
    let d = c.args.tables.now in
    list_filled (λ rows. map service_of rows ≡ (content_of d).services) c.push_services.result c.and.result c.push_services.new.services.items c.new-2.result c.and.ensures c.new-2.ensures
    c.push_services.ensures (λ listed. listed ∙ (λ i. map (service_row_in (c.in_ok-calendars.ensures i)) (c.requires.ids i))
    ∙ sym (by_key_made text_cmp (service_row_in d) nat_list_cmp_total (λ s. s.service_id) (λ t. t) (services_named d) (λ k e h. refl)))
