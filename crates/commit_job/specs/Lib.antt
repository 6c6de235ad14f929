pub mod Stages
pub mod Plan
