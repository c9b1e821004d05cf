pub mod Probes
pub mod Slots
