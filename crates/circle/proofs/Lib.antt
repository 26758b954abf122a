-- The laws of the circle, for this crate's proofs and those above it. Assumes nothing.
pub mod EuclidLaws
pub mod StretchLaws
pub mod PlaceLaws
pub mod CircleLaws
pub mod StepLaws
pub mod WalkLaws
pub mod PositionLaws
pub mod PeriodLaws
pub mod TableLaws
pub mod FailedUnits
pub mod Turn
pub mod Rounds
pub mod OneTurn
pub mod FirstGood
pub mod Unique
