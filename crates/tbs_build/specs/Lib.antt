pub mod Body
pub mod Certificate
pub mod Extension
pub mod Names
pub mod Plan
pub mod Small
