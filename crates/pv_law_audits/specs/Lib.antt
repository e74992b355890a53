pub mod RightReports
