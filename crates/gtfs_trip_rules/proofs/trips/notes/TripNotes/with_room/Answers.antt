use Rattle.std.proofs.Common.{◌≡◌, ℕ, List, refl, None, arith}
use Rattle.gtfs_schema.specs.steps.Ids.{ids_of}
use Rattle.gtfs_trip_rules.specs.TripNumbers.{other_number}
use Rattle.gtfs_trip_rules.proofs.TripNumberFacts.{first_named}
use Rattle.gtfs_trip_rules.proofs.trips.notes.TripNotes.with_room.Goals as goal

pub invariant_of-result : goal.invariant_of-result
invariant_of-result c =
    let none : (id : List ℕ) → other_number c.new-3.result id ≡ None = λ id. rw c.new-3.ensures.empty refl in
    rw (c.in_ok-with_room.ensures, c.new-2.ensures.items, c.new-4.ensures.items) (record {
      numbered = record {
        named = first_named (ids_of c.args.trips.now) c.new-3.result none;
        numbered = λ k d below. absurd (omega (arith, below));
      };
      counted = λ n. refl;
      located = λ all k d below. absurd (omega (arith, below));
      judged = c.new.ensures;
    })
