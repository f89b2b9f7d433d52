pub mod TextForms
pub mod WordLists
pub mod EntryForms
pub mod EntryLemmas
pub mod FeedLemmas
