pub mod Pair
pub mod PairLaws
pub mod PairRefusals
pub mod PairLatest
pub mod Numbers
