pub mod Faults
pub mod Mark
pub mod SecondRegisters
