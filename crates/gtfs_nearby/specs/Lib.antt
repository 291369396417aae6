pub mod AreaTree
pub mod MapAreas
pub mod NearRows
pub mod PlacedStops
pub mod TreeSearch
