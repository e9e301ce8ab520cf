pub mod SpanRows
pub mod Ways
