pub mod After
pub mod Answers
pub mod Look
pub mod Run
