use Rattle.std.proofs.Common.{◌∷◌, []}
use Rattle.gtfs_schema.proofs.columns.routes_columns.Goals as goal

pub returns : goal.returns
returns c = λ i. c.required.ensures i ∷ c.optional.ensures i ∷ c.optional-2.ensures i ∷ c.optional-3.ensures i ∷ c.optional-4.ensures i ∷ c.required-2.ensures i ∷ c.optional-5.ensures i ∷ c.defaulting.ensures i ∷ c.defaulting-2.ensures i ∷ c.optional-6.ensures i ∷ []
