pub mod AlikeBoards
pub mod Seen
