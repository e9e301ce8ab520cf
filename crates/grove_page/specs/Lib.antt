pub mod Routes
pub mod Hosts
pub mod Queries
pub mod NodeLines
pub mod NodeTexts
pub mod Pages
