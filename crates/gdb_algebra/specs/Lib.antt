pub mod Plan
pub mod PlanLaws
pub mod Standing
pub mod Algebra
