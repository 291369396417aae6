use Rattle.std.proofs.Common.{◌≡◌, ◌<◌, ℕ, [], ◌+◌, arith, refl}
use Rattle.gtfs_table.specs.declared.file.File.TheVariants as file
use Rattle.gtfs_schema.specs.RowConditions.{choice_in}
use Rattle.gtfs_schema.specs.steps.StopTypes.{type_of}
use Rattle.gtfs_schema.proofs.StopTypeFacts.{long_more, types_all, types_more}
use Rattle.gtfs_schema.proofs.location_types.stop_types.Goals as goal

pub loop-n-init : goal.loop-n-init
loop-n-init c =
    let none : (m : ℕ) → m < 0 → type_of [] m ≡ choice_in c.args.tables.now file.Stops m "location_type" = λ m h. absurd (omega (arith, h)) in
    rw (c.in_ok-push.ensures.items, c.new-types.ensures.items) (record {
      long = refl;
      read = types_more (λ m. choice_in c.args.tables.now file.Stops m "location_type") 0 [] c.type_at.result refl none c.type_at.ensures;
    })

pub loop-n-preserved : goal.loop-n-preserved
loop-n-preserved c = rw c.in_ok-push-2.ensures.items (record {
  long = long_more c.loop-n.types.items c.type_at-in-loop-n.result (c.loop-n.n + 1) c.loop-n.invariant.long;
  read = types_more (λ m. choice_in c.args.tables.now file.Stops m "location_type") (c.loop-n.n + 1) c.loop-n.types.items c.type_at-in-loop-n.result
      c.loop-n.invariant.long c.loop-n.invariant.read
      c.type_at-in-loop-n.ensures;
})

pub returns : goal.returns
returns c = types_all c.args.tables.now (c.loop-n.n + 1) c.loop-n.types.items c.loop-n.invariant.long (omega arith) c.loop-n.invariant.read
