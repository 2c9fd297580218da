pub mod Demand
pub mod ModelPlan
