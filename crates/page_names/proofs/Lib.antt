pub mod Steps
mod Finding
pub mod Found
mod Named
mod HandlerNames
