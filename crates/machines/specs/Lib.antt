pub mod Machines
pub mod Outcomes
pub mod Works
pub mod Ledgers
pub mod Queues
pub mod Example
