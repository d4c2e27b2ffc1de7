pub mod Text
pub mod Written
pub mod DecimalLaws
pub mod Rows
pub mod Outcome
pub mod Table
pub mod Numbers
