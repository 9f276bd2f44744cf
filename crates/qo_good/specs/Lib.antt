pub mod Good
pub mod GoodBoards
