pub mod Sights
pub mod Ready
pub mod ScriptReplies
