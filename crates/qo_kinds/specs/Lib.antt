pub mod Bodies
pub mod Effects
