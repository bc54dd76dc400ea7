pub mod AnswerLine
