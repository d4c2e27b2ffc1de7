pub mod Join
pub mod Joined
pub mod JoinTraces
pub mod JoinLaws
pub mod Numbers
