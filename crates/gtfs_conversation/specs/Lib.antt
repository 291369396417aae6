pub mod Conversation
pub mod HeardInput
pub mod HeardLines
pub mod ScriptedTalk
