-- The definitions that the contracts of `circle` cite. Assumes nothing.
pub mod Divisor
pub mod Stretches
pub mod Circle
pub mod Positions
pub mod TurnTable
pub mod OneTurn
pub mod FirstGood
pub mod Examples
