pub mod AnswerLemmas
pub mod CallLemmas
pub mod SlotLemmas
pub mod StepLemmas
