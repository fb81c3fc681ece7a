pub mod InflowRecord
