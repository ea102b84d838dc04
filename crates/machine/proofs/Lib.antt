pub mod PastLaws
pub mod MachineLaws
pub mod HistoryLaws
pub mod ScanAlike
