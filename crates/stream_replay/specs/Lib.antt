pub mod StreamStatuses
pub mod StreamPages
pub mod StreamReplies
pub mod NamedTexts
