pub mod LeastFound
pub mod StepEffects
pub mod Held
pub mod StepFaults
pub mod AccessCounts
pub mod FaultlessIsLegal
pub mod TallyState
