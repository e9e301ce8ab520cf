pub mod TokenValues
pub mod ArrayItems
pub mod ListReading
pub mod ObjectMembers
pub mod CheckReading
pub mod OnlyMember
pub mod Lines
