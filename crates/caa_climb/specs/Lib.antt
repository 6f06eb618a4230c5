pub mod Climb
pub mod IssueValue
pub mod Permission
pub mod Reading
