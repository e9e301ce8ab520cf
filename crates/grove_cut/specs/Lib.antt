pub mod CutTrees
