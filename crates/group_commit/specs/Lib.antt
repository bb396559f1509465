pub mod Migrating
pub mod Drill
pub mod DrillBroker
pub mod SplitDrill
pub mod SplitSteps
pub mod MigrateSteps
