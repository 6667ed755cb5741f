mod Wordless
mod Judged
mod Unread
mod Reader
