pub mod ModelRows
