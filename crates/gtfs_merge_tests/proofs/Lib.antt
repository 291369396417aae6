mod WorkedCutoff
mod WorkedMerges
mod WorkedNear
