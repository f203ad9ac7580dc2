pub mod MemoryAudited
pub mod Leaves
pub mod Inspected
