pub mod Records
pub mod BadRecords
pub mod Recording
pub mod Ring
pub mod WellFormedRecords
pub mod Inside
