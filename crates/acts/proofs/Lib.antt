pub mod Verdicts
pub mod Forms
pub mod CallBacks
pub mod Sentences
pub mod Used
pub mod Checks
