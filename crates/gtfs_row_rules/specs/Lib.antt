pub mod ChosenConditions
pub mod HeaderColumns
pub mod KeyOrder
pub mod RowCodes
pub mod RowKeys
pub mod RowRules
pub mod SingleKeys
pub mod StopKinds
