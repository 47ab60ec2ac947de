pub mod AnswerLaws
pub mod EscapeLaws
pub mod JudgeLaws
pub mod TallyLaws
