pub mod AuditEnds
pub mod VerdictText
