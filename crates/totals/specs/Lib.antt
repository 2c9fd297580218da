pub mod RecordTotals
pub mod RecordTotalsFaults
pub mod ModelTotals
pub mod ModelTotalsRead
