pub mod Proposals
pub mod Clauses
pub mod Trials
pub mod SoFar
