-- What a call changed, and the journal of an update: definitions, and what contracts cite.
pub mod Changes
pub mod Journal
pub mod Lists
pub mod Journals
