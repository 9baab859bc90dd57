pub mod Window
pub mod Rule
