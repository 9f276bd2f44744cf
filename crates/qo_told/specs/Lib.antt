pub mod FewNotes
pub mod MirrorSays
