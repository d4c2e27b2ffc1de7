pub mod SummaryLaws
