use Rattle.std.proofs.Common.{◌≡◌, ◌∙◌, ◌∷◌, [], ap, sym}
use Rattle.std.specs.Prelude.{◌&&◌, not}
use Rattle.gtfs_rows.specs.NamedRows.{route_named}
use Rattle.gtfs_advice.specs.declared.code.Code.TheVariants as code
use Rattle.gtfs_advice.proofs.RouteFacts.{no_trip}
use Rattle.gtfs_advice.proofs.routes.answers.Goals.{then-not-has_directed, else-not-has_directed, then-has_directed, else-has_directed}
use Rattle.gtfs_advice.proofs.routes.answers.Goals as goal

pub returns : goal.returns
returns c ids d directed undirected repeated =
    let m = c.args.mentions.now in
    let neither : c.if-not-has_directed.result ≡ (not m.has_directed && not m.has_undirected) = elim c.if-not-has_directed.branch [
      | then-not-has_directed w ↦ w.result-is ∙ sym (ap (λ b. not b && not m.has_undirected) w.if-not-has_directed.true)
      | else-not-has_directed w ↦ w.result-is ∙ ap not w.if-not-has_directed.false ∙ sym (ap (λ b. not b && not m.has_undirected) w.if-not-has_directed.false)
    ] in
    let both : c.if-has_directed.result ≡ (m.has_directed && m.has_undirected) = elim c.if-has_directed.branch [
      | then-has_directed w ↦ w.result-is ∙ sym (ap (λ b. b && m.has_undirected) w.if-has_directed.true)
      | else-has_directed w ↦ w.result-is ∙ w.if-has_directed.false ∙ sym (ap (λ b. b && m.has_undirected) w.if-has_directed.false)
    ] in
    let trips = neither ∙ no_trip (route_named ids c.args.route.now) d m.has_directed m.has_undirected directed undirected in
    let directions = both ∙ sym (λ i. directed i && undirected i) in
    λ i. (code.RouteWithoutTrip, trips i) ∷ (code.RouteNamedAsAnother, sym repeated i) ∷ (code.LongShortName, c.has_long_short_name.ensures ids i)
    ∷ (code.RepeatedShortName, c.repeats_short_name.ensures ids i) ∷ (code.CloseColours, c.has_close_colours.ensures ids i)
    ∷ (code.DirectionOfSomeTrips, directions i) ∷ (code.GarbledRoute, c.is_garbled_route.ensures ids i) ∷ []
