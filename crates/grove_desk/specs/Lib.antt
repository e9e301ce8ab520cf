pub mod Receipts
pub mod Histories
pub mod Desks
pub mod Hints
pub mod Ledgers
pub mod Boards
pub mod Lines
