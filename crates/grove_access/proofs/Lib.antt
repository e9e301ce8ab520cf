pub mod RunAlone
pub mod Lists
pub mod Slots
pub mod ForcedByTree
pub mod CarriedNodes
pub mod BucketCounts
