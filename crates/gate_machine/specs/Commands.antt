-- The commands, each with the rules on its fields, its answer, its row in a legal history and its reply; and the row of settings,
-- which no command asks for.
pub mod Settings
pub mod Order
pub mod Observe
pub mod ObserveCaa
pub mod Block
pub mod Finalize
