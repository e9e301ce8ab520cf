pub mod Remedies
pub mod MetricsTexts
