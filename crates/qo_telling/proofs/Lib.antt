pub mod EarsLemmas
pub mod NotesLemmas
