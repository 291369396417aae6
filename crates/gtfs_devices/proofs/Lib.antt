pub mod ByTextLemmas
pub mod FolderLemmas
mod HeldLemmas
mod LendLemmas
mod NameLemmas
mod SentLemmas
