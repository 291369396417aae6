pub mod FeedDrafts
pub mod Words
