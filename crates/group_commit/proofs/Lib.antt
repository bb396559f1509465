pub mod Drilled
pub mod Results
pub mod SplitDrilled
pub mod SplitAdvanced
pub mod SplitRun
pub mod Migrated
