-- Words put into a lent buffer: what a call that writes leaves.
pub mod Put
pub mod PutLaws
pub mod Hand
pub mod Besides
pub mod BesidesLaws
mod Examples
