pub mod CutPlans
pub mod CutTrees
pub mod CutFlows
pub mod CutLeast
pub mod CutSettled
