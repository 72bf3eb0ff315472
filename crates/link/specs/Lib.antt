-- The definitions of messages, and of lent words as rows of them.
pub mod Messages
pub mod Words
pub mod Laws
