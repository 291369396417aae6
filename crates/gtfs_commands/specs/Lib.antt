pub mod AskedTexts
pub mod CommandLine
pub mod HelpAndRefusals
pub mod Words
