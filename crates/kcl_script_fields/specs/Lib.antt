pub mod Fields
pub mod Origins
pub mod Commands
pub mod Answers
