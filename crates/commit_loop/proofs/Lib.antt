pub mod CommitterTurns
pub mod TickerTurns
