pub mod Faults
pub mod Fnv
pub mod Registers
pub mod Layout
pub mod Logs
pub mod Journals
pub mod Slots
pub mod Indexes
